-- Words of the law of a text's length: no text and no key of a meaning, however deep it lies, is longer.
use Rattle.std.specs.Prelude.{ℕ, ◌≤◌, length, ⊤}
use Rattle.yaml_lines.specs.Meaning.{Meaning, text, list, table, empty, Meanings, no_meanings, meaning, Members, no_members, member}

abbrev mutual
  -- no text and no key of the meaning has more bytes
  pub HasTextsWithin : ℕ → Meaning → Type 0
  HasTextsWithin most (text content quoted) = length content ≤ most
  HasTextsWithin most (list ms) = ItemsHaveTextsWithin most ms
  HasTextsWithin most (table ms) = RowsHaveTextsWithin most ms
  HasTextsWithin most empty = ⊤

  -- nor has one of the items
  pub ItemsHaveTextsWithin : ℕ → Meanings → Type 0
  ItemsHaveTextsWithin most no_meanings = ⊤
  ItemsHaveTextsWithin most (meaning m ms) = HasTextsWithin most m × ItemsHaveTextsWithin most ms

  -- nor has one of the keys or the values
  pub RowsHaveTextsWithin : ℕ → Members → Type 0
  RowsHaveTextsWithin most no_members = ⊤
  RowsHaveTextsWithin most (member key value ms) =
      (length key ≤ most) × HasTextsWithin most value × RowsHaveTextsWithin most ms
