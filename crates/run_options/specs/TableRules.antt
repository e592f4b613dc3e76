-- The rules of the table of known tools, for the law about it.
use Rattle.std.specs.Prelude.{Bool, true, not, ◌&&◌, nat_le, List, [], ◌∷◌, length}
use Rattle.std.specs.List.{list_all, list_any}
use Rattle.std.specs.Str.{bytes_eq}
use Rattle.hook_config.specs.Limits.{most_text_bytes}
use Rattle.run_options.specs.Harmless.{has_byte}
use Rattle.run_options.specs.Tools.{ToolRow}

-- no name occurs twice
abbrev pub are_distinct : List ToolRow → Bool
are_distinct [] = true
are_distinct (row ∷ rows) = not (list_any (λ later. bytes_eq later.name row.name) rows) && are_distinct rows

-- no name is empty or has a slash: a tool is found by the `PATH`, and is no file of the repository
abbrev pub are_names : List ToolRow → Bool
are_names = list_all (λ row. nat_le 1 (length row.name) && not (has_byte row.name 47))

-- no pattern is longer than a text of a configuration may be
abbrev pub are_short : List ToolRow → Bool
are_short = list_all (λ row. nat_le (length row.tool.reads) most_text_bytes)
