-- How much of the help a line of words asks for.
use Rattle.std.specs.Prelude.{Bool, List, [], ◌∷◌, nat_eq, codes, if◌then◌else◌}
use Rattle.std.specs.List.{starts_with}
use Rattle.std.specs.Str.{bytes_eq}
use Rattle.clap.specs.Words.{Text}
use Rattle.command_line.specs.declared.help_length.HelpLength.{HelpLength}
use Rattle.command_line.specs.declared.help_length.HelpLength.TheVariants.{Short, Whole}

-- `-h`, maybe with more letters after it: `clap` reads the `h` first
abbrev pub is_short_help : Text → Bool
is_short_help word = starts_with nat_eq word (codes "-h")

-- the first word that asks for help decides; if none does, the result isn't used
abbrev pub help_asked : List Text → HelpLength
help_asked [] = Whole
help_asked (word ∷ words) =
    if is_short_help word then Short else (if bytes_eq word (codes "--help") then Whole else help_asked words)
