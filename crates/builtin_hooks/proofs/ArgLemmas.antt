-- The arguments through their references.
use Rattle.std.proofs.Common.{◌≡◌, ◌∙◌, ap, refl, ℕ, ◌||◌, ◌&&◌, Bool, Bor, List, [], ◌∷◌, map}
use Rattle.std.specs.List.{list_all, list_any}
use Rattle.builtin_hooks.specs.declared.flags.Flags.{Flags}
use Rattle.builtin_hooks.specs.Search.{are_known, is_ignore_case, is_known, is_multiline, is_negate, search_of}
use Rattle.builtin_hooks.specs.Searchers.{search_with}

abbrev texts : List (Bor (List ℕ)) → List (List ℕ)
texts args = map (λ arg. arg.now) args

any-texts : (test : List ℕ → Bool) (args : List (Bor (List ℕ))) → list_any (λ arg. test arg.now) args ≡ list_any test (texts args)
any-texts test [] = refl
any-texts test (arg ∷ args) = ap (λ rest. test arg.now || rest) (any-texts test args)

all-texts : (test : List ℕ → Bool) (args : List (Bor (List ℕ))) → list_all (λ arg. test arg.now) args ≡ list_all test (texts args)
all-texts test [] = refl
all-texts test (arg ∷ args) = ap (λ rest. test arg.now && rest) (all-texts test args)

pub known_said : (known : Bool) (args : List (Bor (List ℕ))) → known ≡ list_all (λ arg. is_known arg.now) args → known ≡ are_known (texts args)
known_said known args is = is ∙ all-texts is_known args

same_search : (text : List ℕ) (flags : Flags) (i m n : Bool) → flags.ignore_case ≡ i → flags.multiline ≡ m → flags.negate ≡ n
    → search_with text flags ≡ record { text = text; ignore_case = i; multiline = m; negate = n }
same_search text flags i m n ignore_case multiline negate = cc

pub search_said : (text : List ℕ) (flags : Flags) (args : List (Bor (List ℕ))) → flags.ignore_case ≡ list_any (λ arg. is_ignore_case arg.now) args
    → flags.multiline ≡ list_any (λ arg. is_multiline arg.now) args → flags.negate ≡ list_any (λ arg. is_negate arg.now) args
    → search_with text flags ≡ search_of text (texts args)
search_said text flags args ignore_case multiline negate =
    same_search text flags _ _ _ (ignore_case ∙ any-texts is_ignore_case args) (multiline ∙ any-texts is_multiline args)
    (negate ∙ any-texts is_negate args)
