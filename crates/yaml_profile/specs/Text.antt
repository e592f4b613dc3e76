-- What the bytes of a text mean. (YAML 1.2.2, section 3.1 "Processes": load.)
use Rattle.std.specs.Prelude.{ℕ, List, Option, option_and_then}
use Rattle.yaml_lines.specs.Lines.{content_lines_of_bytes}
use Rattle.yaml_lines.specs.Meaning.{Meaning, most_nodes}
use Rattle.yaml_profile.specs.Blocks.{whole_text}

-- the node of the text; none if this profile reads none
unfoldable pub meaning_of : List ℕ → Option Meaning
meaning_of bytes = option_and_then (whole_text most_nodes) (content_lines_of_bytes bytes)
