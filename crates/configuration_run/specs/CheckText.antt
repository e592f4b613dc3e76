-- What `check` says about a configuration.
use Rattle.std.specs.Prelude.{ℕ, List, ◌++◌, length, codes}
use Rattle.std.specs.List.{flat_map}
use Rattle.std.specs.Fmt.{decimal}
use Rattle.hook_config.specs.declared.configuration.Config.{Config}
use Rattle.report_text.specs.Report.{line}

-- how many hooks it has
abbrev pub hooks_line : ℕ → List ℕ
hooks_line count = line (codes "hooks: " ++ decimal count)

-- a key that no table knows
abbrev pub ignored_line : List ℕ → List ℕ
ignored_line key = line (codes "ignored key: " ++ key)

abbrev pub check_text : Config → List ℕ
check_text config = hooks_line (length config.hooks) ++ flat_map ignored_line config.unknown
