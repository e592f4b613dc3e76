-- What a YAML text means in this profile: a tree of texts, lists, tables and empty nodes. Texts and keys
-- are the bytes of their characters in UTF-8. (YAML 1.2.2, section 3.2.1 "Representation Graph".)
use Rattle.std.specs.Prelude.{ℕ, Bool, List, [], ◌∷◌}

mutual
  pub data Meaning : Type 0 where
    -- a text, and whether it was quoted
    text : List ℕ → Bool → Meaning
    list : Meanings → Meaning
    table : Members → Meaning
    empty : Meaning

  pub data Meanings : Type 0 where
    no_meanings : Meanings
    meaning : Meaning → Meanings → Meanings

  pub data Members : Type 0 where
    no_members : Members
    member : List ℕ → Meaning → Members → Members

abbrev pub meanings_of : List Meaning → Meanings
meanings_of [] = no_meanings
meanings_of (m ∷ ms) = meaning m (meanings_of ms)

abbrev pub members_of : List (List ℕ × Meaning) → Members
members_of [] = no_members
members_of (m ∷ ms) = member m.0 m.1 (members_of ms)

-- the most nodes that may be nested, not counting keys: a node lies within at most 32 others
abbrev pub most_nodes : ℕ
most_nodes = 33

-- the nodes of a list, in order
abbrev pub nodes : Meanings → List Meaning
nodes no_meanings = []
nodes (meaning m ms) = m ∷ nodes ms

-- the keys of a table with their values, in the order of the text
abbrev pub rows_of_members : Members → List (List ℕ × Meaning)
rows_of_members no_members = []
rows_of_members (member key value ms) = (key, value) ∷ rows_of_members ms
