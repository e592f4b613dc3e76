-- Texts on one line, plain or quoted.
use Rattle.std.specs.Prelude.{ℕ, true, false, List, Option, Some, None, option_map, option_and_then, if◌then◌else◌}
use Rattle.yaml_lines.specs.Characters.{is_over}
use Rattle.yaml_lines.specs.Meaning.{Meaning, text}
use Rattle.yaml_lines.specs.Plain.{plain_of}
use Rattle.yaml_lines.specs.Quoted.{Quoted, begins_quoted, quoted_of}

-- a quoted text with nothing but blanks and a comment after it
abbrev pub alone : Quoted → Option Meaning
alone quoted = if is_over quoted.rest then Some (text quoted.text true) else None

-- what a whole content means as a text; blanks and a comment may follow it
unfoldable pub scalar_meaning : List ℕ → Option Meaning
scalar_meaning content =
    if begins_quoted content then option_and_then alone (quoted_of content)
    else option_map (λ bytes. text bytes false) (plain_of content)
