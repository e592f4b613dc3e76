-- Texts whose lines leave the same places mean the same.
use Rattle.std.proofs.Common.{◌≡◌, ℕ, List, Option, Some, option_and_then, sym, ap, ◌∙◌}
use Rattle.yaml_lines.specs.Meaning.{most_nodes}
use Rattle.yaml_lines.specs.BlockTexts.{LineText}
use Rattle.yaml_lines.specs.Characters.{characters_of}
use Rattle.yaml_lines.specs.Entries.{ContentLine}
use Rattle.yaml_lines.specs.Lines.{line_texts, content_lines_from, content_lines_of, content_lines_of_bytes}
use Rattle.yaml_profile.specs.Blocks.{whole_text}
use Rattle.yaml_profile.specs.Text.{meaning_of}

by_lines : (bytes characters : List ℕ) → characters_of bytes ≡ Some characters → meaning_of bytes ≡ option_and_then (whole_text most_nodes) (content_lines_from (line_texts characters))
unfolding meaning_of content_lines_of_bytes content_lines_of
by_lines bytes characters e = ap (λ (o : Option (List ℕ)). option_and_then (whole_text most_nodes) (option_and_then content_lines_of o)) e

pub same_places : (bytes others characters kept : List ℕ) (lines : List LineText) → characters_of bytes ≡ Some characters → characters_of others ≡ Some kept
    → line_texts kept ≡ lines → content_lines_from lines ≡ content_lines_from (line_texts characters) → meaning_of others ≡ meaning_of bytes
same_places bytes others characters kept lines e f are same =
    by_lines others kept f ∙ (ap (λ (ls : List LineText). option_and_then (whole_text most_nodes) (content_lines_from ls)) are
    ∙ (ap (λ (o : Option (List ContentLine)). option_and_then (whole_text most_nodes) o) same ∙ sym (by_lines bytes characters e)))
