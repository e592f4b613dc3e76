-- What the statements of a loop make of the answers and their uses, key by key.
use Rattle.std.proofs.Common.{◌≡◌, ℕ, zero, suc, ◌+◌, ◌<◌, ◌≤◌, pos, List, [], ◌∷◌, ◌++◌, length, reverse, take, get_or, Ok, refl, sym, ap, subst, subst₂, ◌∙◌, arith}
use Rattle.std.proofs.lemmas.List.{length-reverse, length-take-le, reverse-append, take_all, take_more}
use Rattle.sqlite_trees.specs.declared.store.Store.{Ghosts}
use Rattle.sqlite.specs.Held.{Held}
use Rattle.store_tables.specs.declared.rows.UseRow.{UseRow}
use Rattle.store_tables.specs.Steps.{IsMade}
use Rattle.store_tables.specs.Tables.{Tables, without_answer}
use Rattle.store_tables.specs.Uses.{HoldsRows, with_use, without_use}
use Rattle.store_tables.proofs.MakeLemmas.{made_then}
use Rattle.repo_store.specs.Index.{Key}
use Rattle.repo_store.specs.UsesOf.{key_rows, without_all, without_uses_of}

-- the first keys and one more
one_more : (keys : List Key) (i : ℕ) (key : Key) → i < length keys → key ≡ get_or keys i key → take (i + 1) keys ≡ take i keys ++ key ∷ []
one_more keys i key within is = take_more keys i key within ∙ ap (λ (k : Key). take i keys ++ k ∷ []) (sym is)

-- an item, whatever stands in for one after the last
pub in_place : (keys : List Key) (i : ℕ) (blank : Key) → i < length keys → get_or keys i blank ≡ get_or keys i (get_or keys i blank)
in_place [] i blank within = absurd (omega (arith, within))
in_place (key ∷ keys) zero blank within = refl
in_place (key ∷ keys) (suc i) blank within = in_place keys i blank (omega (arith, within))

-- ---- numbered

-- from no uses these keys have been numbered
abbrev pub Numbers : {S : Type 0} → Ghosts S → Held S → Held S → List Key → Type 0
Numbers g old new keys = (t : Tables) → IsMade {A = Unit {0}} g old new (Ok tt) (λ db. HoldsRows db t []) (λ db. HoldsRows db t (key_rows (reverse keys)))

abbrev tick_row : Key → ℕ → UseRow
tick_row key tick = record { words = key.0; seen = key.1; tick = pos tick }

last_numbered : (keys : List Key) (i : ℕ) (key : Key) (tick : ℕ) → i < length keys → key ≡ get_or keys i key → tick ≡ i + 1
    → with_use (tick_row key tick) (key_rows (reverse (take i keys))) ≡ key_rows (reverse (take (i + 1) keys))
last_numbered keys i key tick within is tick_is =
    let turned : reverse (take (i + 1) keys) ≡ key ∷ reverse (take i keys) = ap reverse (one_more keys i key within is) ∙ reverse-append (take i keys) (key ∷ []) in
    let count : length (reverse (take i keys)) ≡ i = length-reverse (take i keys) ∙ length-take-le i keys (omega arith) in
    let same : tick ≡ suc (length (reverse (take i keys))) = omega (arith, tick_is, count) in
    ap (λ (n : ℕ). tick_row key n ∷ key_rows (reverse (take i keys))) same ∙ sym (ap key_rows turned)

pub numbers_more : {S : Type 0} (g : Ghosts S) (old mid new : Held S) (keys : List Key) (i : ℕ) (key : Key) (tick : ℕ) → i < length keys → key ≡ get_or keys i key → tick ≡ i + 1
    → Numbers g old mid (take i keys)
    → ((t : Tables) (rows : List UseRow) → IsMade {A = Unit {0}} g mid new (Ok tt) (λ db. HoldsRows db t rows)
    (λ db. HoldsRows db t (with_use (record { words = key.0; seen = key.1; tick = pos tick }) rows)))
    → Numbers g old new (take (i + 1) keys)
numbers_more g old mid new keys i key tick within is tick_is one two t =
    let before = key_rows (reverse (take i keys)) in
    subst (λ (rows : List UseRow). IsMade {A = Unit {0}} g old new (Ok tt) (λ db. HoldsRows db t []) (λ db. HoldsRows db t rows)) (last_numbered keys i key tick within is tick_is)
    (made_then g old mid new (Ok tt) (λ db. HoldsRows db t []) (λ db. HoldsRows db t before) (λ db. HoldsRows db t (with_use (tick_row key tick) before)) (one t) (two t before))

pub numbers_all : {S : Type 0} (g : Ghosts S) (old new : Held S) (keys : List Key) (i : ℕ) → length keys ≤ i → Numbers g old new (take i keys) → Numbers g old new keys
numbers_all g old new keys i over = subst (Numbers g old new) (take_all i keys over)

-- ---- dropped

-- the answers under these keys, and their uses, have been taken out
abbrev pub Drops : {S : Type 0} → Ghosts S → Held S → Held S → List Key → Type 0
Drops g old new keys = (t : Tables) (rows : List UseRow) → IsMade {A = Unit {0}} g old new (Ok tt) (λ db. HoldsRows db t rows) (λ db. HoldsRows db (without_all keys t) (without_uses_of keys rows))

last_out : (keys : List Key) (key : Key) (t : Tables) → without_answer key.0 key.1 (without_all keys t) ≡ without_all (keys ++ key ∷ []) t
last_out [] key t = refl
last_out (first ∷ keys) key t = last_out keys key (without_answer first.0 first.1 t)

last_use_out : (keys : List Key) (key : Key) (rows : List UseRow) → without_use key.0 key.1 (without_uses_of keys rows) ≡ without_uses_of (keys ++ key ∷ []) rows
last_use_out [] key rows = refl
last_use_out (first ∷ keys) key rows = last_use_out keys key (without_use first.0 first.1 rows)

pub drops_more : {S : Type 0} (g : Ghosts S) (old mid new : Held S) (keys : List Key) (i : ℕ) (key : Key) → i < length keys → key ≡ get_or keys i key
    → Drops g old mid (take i keys) → Drops g mid new (key ∷ []) → Drops g old new (take (i + 1) keys)
drops_more g old mid new keys i key within is one two t rows =
    let front = take i keys in
    let u = without_all front t in
    let left = without_uses_of front rows in
    let more = one_more keys i key within is in
    subst₂ (λ (v : Tables) (l : List UseRow). IsMade {A = Unit {0}} g old new (Ok tt) (λ db. HoldsRows db t rows) (λ db. HoldsRows db v l))
    (last_out front key t ∙ ap (λ (l : List Key). without_all l t) (sym more)) (last_use_out front key rows ∙ ap (λ (l : List Key). without_uses_of l rows) (sym more))
    (made_then g old mid new (Ok tt) (λ db. HoldsRows db t rows) (λ db. HoldsRows db u left) (λ db. HoldsRows db (without_answer key.0 key.1 u) (without_use key.0 key.1 left)) (one t rows)
    (two u left))

pub drops_all : {S : Type 0} (g : Ghosts S) (old new : Held S) (keys : List Key) (i : ℕ) → length keys ≤ i → Drops g old new (take i keys) → Drops g old new keys
drops_all g old new keys i over = subst (Drops g old new) (take_all i keys over)
