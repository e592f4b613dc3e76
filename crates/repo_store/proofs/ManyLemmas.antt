-- Contents kept one after another.
use Rattle.std.proofs.Common.{◌≡◌, ℕ, ◌+◌, ◌<◌, ◌≤◌, List, [], ◌∷◌, ◌++◌, length, take, drop, get_or, inl, inr, refl, sym, ap, ap₂, subst, ◌∙◌, arith, append_assoc, append-nil}
use Rattle.std.specs.List.{flat_map}
use Rattle.std.proofs.lemmas.Grind.{flat_map-append}
use Rattle.std.proofs.lemmas.List.{take-append-drop, take_more}
use Rattle.std.proofs.lemmas.List.Concat.{flat_map_single}
use lib.Seq.{take-length}
use Rattle.hook_base.specs.declared.file.File.{File}
use Rattle.repo_store.specs.Contents.{Collides, with_content}
use Rattle.store_faults.specs.declared.fault.StoreFault.{StoreFault}
use Rattle.store_faults.specs.declared.fault.StoreFault.TheVariants.{OutOfMemory}
use Rattle.store_faults.specs.Faults.{IsRefusal}
use Rattle.repo_store.specs.KeptContents.{AreAllKept, IsStopped}
use Rattle.store_faults.specs.Limits.{IsSmall}
use Rattle.repo_store.specs.Remembering.{AreSmall, SomeCollides, with_contents}
use Rattle.repo_store.specs.WrittenAnswers.{contents_in_files}
use Rattle.repo_store.proofs.FixLemmas.{content_before, refusal_weaker}

pub with_contents-append : (xs ys contents : List (List ℕ)) → with_contents (xs ++ ys) contents ≡ with_contents ys (with_contents xs contents)
with_contents-append [] ys contents = refl
with_contents-append (x ∷ xs) ys contents = with_contents-append xs ys (with_content x contents)

all_before : (n : ℕ) (xs contents : List (List ℕ)) → n ≤ length contents → take n (with_contents xs contents) ≡ take n contents
all_before n [] contents within = refl
all_before n (x ∷ xs) contents within = let it = content_before n x contents within in all_before n xs (with_content x contents) it.1 ∙ it.0

pub contents_front : (xs contents now : List (List ℕ)) → now ≡ with_contents xs contents → take (length contents) now ≡ contents
contents_front xs contents now is = ap (take (length contents)) is ∙ all_before (length contents) xs contents (omega arith) ∙ take-length contents

pub contents_grow : (xs contents : List (List ℕ)) → length contents ≤ length (with_contents xs contents)
contents_grow [] contents = omega arith
contents_grow (x ∷ xs) contents =
    let one = (content_before (length contents) x contents (omega arith)).1 in
    let rest = contents_grow xs (with_content x contents) in
    omega arith

pub small_append : (xs ys : List (List ℕ)) → AreSmall xs → AreSmall ys → AreSmall (xs ++ ys)
small_append [] ys one two = two
small_append (x ∷ xs) ys one two = (one.0, small_append xs ys one.1 two)

pub small_front : (xs ys : List (List ℕ)) → AreSmall (xs ++ ys) → AreSmall xs
small_front [] ys all = tt
small_front (x ∷ xs) ys all = (all.0, small_front xs ys all.1)

pub small_back : (xs ys : List (List ℕ)) → AreSmall (xs ++ ys) → AreSmall ys
small_back [] ys all = all
small_back (x ∷ xs) ys all = small_back xs ys all.1

pub collides_front : (xs ys contents : List (List ℕ)) → SomeCollides xs contents → SomeCollides (xs ++ ys) contents
collides_front [] ys contents some = absurd some
collides_front (x ∷ xs) ys contents some = elim some [ inl here ↦ inl here | inr later ↦ inr (collides_front xs ys (with_content x contents) later) ]

pub collides_back : (xs ys contents : List (List ℕ)) → SomeCollides ys (with_contents xs contents) → SomeCollides (xs ++ ys) contents
collides_back [] ys contents some = some
collides_back (x ∷ xs) ys contents some = inr (collides_back xs ys (with_content x contents) some)

pub none_collides : (xs ys contents : List (List ℕ)) → ¬ SomeCollides xs contents → ¬ SomeCollides ys (with_contents xs contents) → ¬ SomeCollides (xs ++ ys) contents
none_collides [] ys contents none rest some = rest some
none_collides (x ∷ xs) ys contents none rest some = elim some [ inl here ↦ none (inl here) | inr later ↦ none_collides xs ys (with_content x contents) (λ h. none (inr h)) rest later ]

-- what stands before, in turn
front_then : {X : Type 0} (a b c : List X) → take (length a) b ≡ a → take (length b) c ≡ b → take (length a) c ≡ a
front_then [] b c one two = refl
front_then (x ∷ a) [] c one two = absurd (let count = ap length one in omega arith)
front_then (x ∷ a) (y ∷ b) [] one two = absurd (let count = ap length two in omega arith)
front_then {X} (x ∷ a) (y ∷ b) (z ∷ c) one two =
    let first : y ≡ x = cc in
    let rest : take (length a) b ≡ a = cc in
    let other : z ≡ y = cc in
    let more : take (length b) c ≡ b = cc in
    ap₂ (λ (h : X) (l : List X). h ∷ l) (other ∙ first) (front_then a b c rest more)

-- ---- what is kept in turn

pub kept_none : (old : List (List ℕ)) → AreAllKept [] old old
kept_none old = record { kept = refl; small = tt; apart = λ none. none }

pub kept_one : (bytes : List ℕ) (old new : List (List ℕ)) → new ≡ with_content bytes old → IsSmall bytes → ¬ Collides bytes old → AreAllKept (bytes ∷ []) old new
kept_one bytes old new kept small apart = record { kept = kept; small = (small, tt); apart = λ some. elim some [ inl here ↦ apart here | inr none ↦ none ] }

pub stopped_one : (bytes : List ℕ) (old new : List (List ℕ)) (fault : StoreFault) → new ≡ old → IsRefusal (¬ IsSmall bytes) ⊥ (Collides bytes old) fault → IsStopped (bytes ∷ []) old new fault
stopped_one bytes old new fault same why = record {
  front = ap (take (length old)) same ∙ take-length old;
  why = refusal_weaker (λ large small. large small.0) (λ h. h) (λ collides. inl collides) fault why;
}

-- want of memory
pub stopped_before : (xs old : List (List ℕ)) → IsStopped xs old old OutOfMemory
stopped_before xs old = record { front = take-length old; why = tt }

module _ (xs ys old mid : List (List ℕ)) (first : AreAllKept xs old mid) where
  pub kept_then : (new : List (List ℕ)) → AreAllKept ys mid new → AreAllKept (xs ++ ys) old new
  kept_then new next = record {
    kept = next.kept ∙ ap (with_contents ys) first.kept ∙ sym (with_contents-append xs ys old);
    small = small_append xs ys first.small next.small;
    apart = none_collides xs ys old first.apart (subst (λ (l : List (List ℕ)). ¬ SomeCollides ys l) first.kept next.apart);
  }

  pub stopped_then : (new : List (List ℕ)) (fault : StoreFault) → IsStopped ys mid new fault → IsStopped (xs ++ ys) old new fault
  stopped_then new fault next = record {
    front = front_then old mid new (contents_front xs old mid first.kept) next.front;
    why = refusal_weaker (λ large small. large (small_back xs ys small)) (λ h. h) (λ some. collides_back xs ys old (subst (SomeCollides ys) first.kept some)) fault next.why;
  }

-- want of memory after what was kept
pub stopped_behind : (xs all old new : List (List ℕ)) → AreAllKept xs old new → IsStopped all old new OutOfMemory
stopped_behind xs all old new kept = record { front = contents_front xs old new kept.kept; why = tt }

pub stopped_front : (xs ys old new : List (List ℕ)) (fault : StoreFault) → IsStopped xs old new fault → IsStopped (xs ++ ys) old new fault
stopped_front xs ys old new fault stopped = record {
  front = stopped.front;
  why = refusal_weaker (λ large small. large (small_front xs ys small)) (λ h. h) (λ some. collides_front xs ys old some) fault stopped.why;
}

-- ---- the contents of items, in turn

module _ {X : Type 0} (contents_of : X → List (List ℕ)) (items : List X) (i : ℕ) (x : X) (within : i < length items) (is : get_or items i x ≡ x) where
  contents_more : flat_map contents_of (take (i + 1) items) ≡ flat_map contents_of (take i items) ++ contents_of x
  contents_more =
      ap (flat_map contents_of) (take_more items i x within) ∙ flat_map-append contents_of (take i items) (get_or items i x ∷ [])
      ∙ ap (λ (y : X). flat_map contents_of (take i items) ++ (contents_of y ++ [])) is ∙ ap (λ (l : List (List ℕ)). flat_map contents_of (take i items) ++ l) (append-nil (contents_of x))

  contents_around : flat_map contents_of items ≡ flat_map contents_of (take i items) ++ (contents_of x ++ flat_map contents_of (drop (i + 1) items))
  contents_around =
      ap (flat_map contents_of) (sym (take-append-drop (i + 1) items)) ∙ flat_map-append contents_of (take (i + 1) items) (drop (i + 1) items)
      ∙ ap (λ (l : List (List ℕ)). l ++ flat_map contents_of (drop (i + 1) items)) contents_more
      ∙ append_assoc (flat_map contents_of (take i items)) (contents_of x) (flat_map contents_of (drop (i + 1) items))

  module _ (old mid : List (List ℕ)) (before : AreAllKept (flat_map contents_of (take i items)) old mid) where
    pub kept_more : (new : List (List ℕ)) → AreAllKept (contents_of x) mid new → AreAllKept (flat_map contents_of (take (i + 1) items)) old new
    kept_more new next = subst (λ (l : List (List ℕ)). AreAllKept l old new) (sym contents_more) (kept_then (flat_map contents_of (take i items)) (contents_of x) old mid before new next)

    pub stopped_at : (new : List (List ℕ)) (fault : StoreFault) → IsStopped (contents_of x) mid new fault → IsStopped (flat_map contents_of items) old new fault
    stopped_at new fault next =
        subst (λ (l : List (List ℕ)). IsStopped l old new fault) (sym contents_around)
        (stopped_then (flat_map contents_of (take i items)) (contents_of x ++ flat_map contents_of (drop (i + 1) items)) old mid before new fault
        (stopped_front (contents_of x) (flat_map contents_of (drop (i + 1) items)) mid new fault next))

    pub stopped_there : (new : List (List ℕ)) → AreAllKept (contents_of x) mid new → IsStopped (flat_map contents_of items) old new OutOfMemory
    stopped_there new next = stopped_behind (flat_map contents_of (take (i + 1) items)) (flat_map contents_of items) old new (kept_more new next)

-- the contents of files, as those of items are told
pub files_flat : (files : List File) → flat_map (λ (file : File). file.entry.bytes ∷ []) files ≡ contents_in_files files
files_flat files = flat_map_single (λ (file : File). file.entry.bytes) files
