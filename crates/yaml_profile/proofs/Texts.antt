-- What bytes mean, by their characters.
use Rattle.std.proofs.Common.{◌≡◌, ℕ, List, Some, None, option_and_then, ap}
use Rattle.yaml_lines.specs.Meaning.{most_nodes}
use Rattle.yaml_lines.specs.Characters.{characters_of}
use Rattle.yaml_lines.specs.Lines.{content_lines_of, content_lines_of_bytes}
use Rattle.yaml_profile.specs.Blocks.{whole_text}
use Rattle.yaml_profile.specs.Text.{meaning_of}

pub meaning_of-characters : (bytes text : List ℕ) → characters_of bytes ≡ Some text → meaning_of bytes ≡ option_and_then (whole_text most_nodes) (content_lines_of text)
unfolding meaning_of content_lines_of_bytes
meaning_of-characters bytes text e = ap (λ cs. option_and_then (whole_text most_nodes) (option_and_then content_lines_of cs)) e

pub meaning_of-none : (bytes : List ℕ) → characters_of bytes ≡ None → meaning_of bytes ≡ None
unfolding meaning_of content_lines_of_bytes
meaning_of-none bytes e = ap (λ cs. option_and_then (whole_text most_nodes) (option_and_then content_lines_of cs)) e
