-- Words of the law of a table's keys: no table of a meaning, however deep it lies, has a key twice. (YAML
-- 1.2.2, section 3.2.1.3 "Node Comparison".)
use Rattle.std.specs.Prelude.{◌≢◌, ℕ, List, [], ◌∷◌, AllPairs, ⊤}
use Rattle.yaml_lines.specs.Meaning.{Meaning, text, list, table, empty, Meanings, no_meanings, meaning, Members, no_members, member}

-- the keys of a table, in the order of the text
abbrev pub keys : Members → List (List ℕ)
keys no_members = []
keys (member key value ms) = key ∷ keys ms

-- no two of the texts are equal
abbrev pub AreDistinctTexts : List (List ℕ) → Type 0
AreDistinctTexts texts = AllPairs (λ a b. a ≢ b) texts

-- no table of the meaning has a key twice
abbrev mutual
  pub HasUniqueKeys : Meaning → Type 0
  HasUniqueKeys (text content quoted) = ⊤
  HasUniqueKeys (list ms) = ItemsHaveUniqueKeys ms
  HasUniqueKeys (table ms) = AreDistinctTexts (keys ms) × ValuesHaveUniqueKeys ms
  HasUniqueKeys empty = ⊤

  -- nor does one of the items
  pub ItemsHaveUniqueKeys : Meanings → Type 0
  ItemsHaveUniqueKeys no_meanings = ⊤
  ItemsHaveUniqueKeys (meaning m ms) = HasUniqueKeys m × ItemsHaveUniqueKeys ms

  -- nor does one of the values
  pub ValuesHaveUniqueKeys : Members → Type 0
  ValuesHaveUniqueKeys no_members = ⊤
  ValuesHaveUniqueKeys (member key value ms) = HasUniqueKeys value × ValuesHaveUniqueKeys ms
