-- What holds of a value, if there is one, and of each of several.
use Rattle.std.proofs.Common.{◌≡◌, Bool, true, false, cond, List, [], ◌∷◌, Option, Some, None, option_map, option_and_then, refl}
use Rattle.std.specs.Prelude.{⊤}
use Rattle.std.specs.List.{AllByRecursion}
use Rattle.yaml_profile.specs.Blocks.{all_of}

abbrev pub Holds : {A : Type 0} → (A → Type 0) → Option A → Type 0
Holds P None = ⊤
Holds P (Some x) = P x

pub of_map : {A B : Type 0} (P : B → Type 0) (f : A → B) → ((x : A) → P (f x)) → (o : Option A) → Holds P (option_map f o)
of_map P f h None = tt
of_map P f h (Some x) = h x

pub map_to : {A B : Type 0} (P : A → Type 0) (Q : B → Type 0) (f : A → B) → ((x : A) → P x → Q (f x)) → (o : Option A) → Holds P o → Holds Q (option_map f o)
map_to P Q f h None k = tt
map_to P Q f h (Some x) k = h x k

pub then_any : {A B : Type 0} (Q : B → Type 0) (f : A → Option B) → ((x : A) → Holds Q (f x)) → (o : Option A) → Holds Q (option_and_then f o)
then_any Q f h None = tt
then_any Q f h (Some x) = h x

pub then_to : {A B : Type 0} (P : A → Type 0) (Q : B → Type 0) (f : A → Option B) → ((x : A) → P x → Holds Q (f x)) → (o : Option A) → Holds P o → Holds Q (option_and_then f o)
then_to P Q f h None k = tt
then_to P Q f h (Some x) k = h x k

pub either : {A : Type 0} (P : A → Type 0) (b : Bool) (o p : Option A) → Holds P o → Holds P p → Holds P (cond b o p)
either P true o p h k = h
either P false o p h k = k

pub if_true : {A : Type 0} (P : A → Type 0) (b : Bool) (x : A) → (b ≡ true → P x) → Holds P (cond b (Some x) None)
if_true P true x h = h refl
if_true P false x h = tt

pub weaker : {A : Type 0} (P Q : A → Type 0) → ((x : A) → P x → Q x) → (o : Option A) → Holds P o → Holds Q o
weaker P Q h None k = tt
weaker P Q h (Some x) k = h x k

pub all_hold : {A B : Type 0} (P : A → Type 0) (Q : B → Type 0) (f : A → Option B) → ((x : A) → P x → Holds Q (f x)) → (xs : List A) → AllByRecursion P xs → Holds (AllByRecursion Q) (all_of f xs)
unfolding all_of
all_hold P Q f h [] k = tt
all_hold P Q f h (x ∷ xs) k =
    then_to Q (AllByRecursion Q) _ (λ y p. map_to (AllByRecursion Q) (AllByRecursion Q) _ (λ ys q. (p, q)) _ (all_hold P Q f h xs k.1)) (f x) (h x k.0)

-- whatever is put in
abbrev pub HoldsOfAny : {A B : Type 0} → (B → Type 0) → (A → Option B) → Type 0
HoldsOfAny {A} P f = (x : A) → Holds P (f x)
