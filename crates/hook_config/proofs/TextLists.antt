-- Texts that are found one after another.
use Rattle.std.proofs.Common.{◌≡◌, ℕ, ◌<◌, List, [], ◌∷◌, ◌++◌, length, Option, Some, None, option_map, option_and_then, refl, sym, ap, ◌∙◌, append_assoc, append-nil, arith}
use Rattle.yaml_lines.specs.Meaning.{Meaning}
use Rattle.yaml_lines.specs.declared.node.Node.{Node}
use Rattle.hook_config.specs.Kinds.{each, text_of, only_empty, empty_texts_of}
use Rattle.hook_config.specs.Rows.{list_of, meanings_of_nodes}

-- the texts before with those that were found after them
abbrev pub put_behind : List (List ℕ) → Option (List (List ℕ)) → Option (List (List ℕ))
put_behind texts found = option_map (λ others. texts ++ others) found

pub put_behind-none : (found : Option (List (List ℕ))) → put_behind [] found ≡ found
put_behind-none None = refl
put_behind-none (Some found) = refl

pub put_behind-all : (texts : List (List ℕ)) → put_behind texts (Some []) ≡ Some texts
put_behind-all texts = ap Some (append-nil texts)

put_one : (text : List ℕ) (found : Option (List (List ℕ))) (texts : List (List ℕ))
    → put_behind texts (option_map (λ others. text ∷ others) found) ≡ put_behind (texts ++ text ∷ []) found
put_one text None texts = refl
put_one text (Some found) texts = ap Some (sym (append_assoc texts (text ∷ []) found))

-- the first item is a text
pub put_behind-more : (texts : List (List ℕ)) (text : List ℕ) (m : Meaning) (ms : List Meaning) → text_of m ≡ Some text
    → put_behind texts (each text_of (m ∷ ms)) ≡ put_behind (texts ++ text ∷ []) (each text_of ms)
put_behind-more texts text m ms e =
    ap (λ (first : Option (List ℕ)). put_behind texts (option_and_then (λ t. option_map (λ others. t ∷ others) (each text_of ms)) first)) e
    ∙ put_one text (each text_of ms) texts

-- the first item is none
pub put_behind-refused : (texts : List (List ℕ)) (m : Meaning) (ms : List Meaning) → text_of m ≡ None → put_behind texts (each text_of (m ∷ ms)) ≡ None
put_behind-refused texts m ms e =
    ap (λ (first : Option (List ℕ)). put_behind texts (option_and_then (λ t. option_map (λ others. t ∷ others) (each text_of ms)) first)) e

pub ruleset listing = (put_behind-none, put_behind-all, put_behind-more, put_behind-refused)

-- ---- a list that is to be empty

no_texts : (text : Option (List ℕ)) (others : Option (List (List ℕ)))
    → option_and_then only_empty (option_and_then (λ first. option_map (λ more. first ∷ more) others) text) ≡ None
no_texts None others = refl
no_texts (Some text) None = refl
no_texts (Some text) (Some others) = refl

pub refused_texts : (value : Meaning) (items : List Node) → list_of value ≡ Some (meanings_of_nodes items) → 0 < length items → empty_texts_of value ≡ None
refused_texts value [] is some = absurd (omega arith)
refused_texts value (item ∷ items) is some = rw is (no_texts _ _)
