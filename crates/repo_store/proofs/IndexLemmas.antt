-- Contents found by their digests.
use Rattle.std.proofs.Common.{◌≡◌, ℕ, ◌<◌, Bool, true, false, cond, List, [], ◌∷◌, ◌++◌, length, get_or, Option, None, Some, Result, Ok, Err, is_err, OnOk, OnErr, refl, sym, ap, subst, ◌∙◌, inl, inr, arith, length-append}
use Rattle.std.specs.List.{Any}
use Rattle.std.specs.Str.{bytes_eq}
use Rattle.std.specs.HashMap.{HashMap, get}
use Rattle.std.specs.Map.{lookup}
use Rattle.std.specs.Cmp.Lexicographic.{bytes_decides}
use Rattle.std.proofs.lemmas.Bool.{false_from_ne_true, cases_lt}
use Rattle.std.proofs.lemmas.List.{get_or_default}
use Rattle.std.proofs.lemmas.List.Folds.{list_any_at, Any-from_list_any, list_any-from_Any}
use lib.Seq.{get_or-append_seam}
use lib.ListN.{get_or-append}
use Rattle.sha2.specs.Sha256.{sha256}
use Rattle.hook_base.specs.RisingLemmas.{bytes_same}
use Rattle.repo_store.specs.Complete.{HaveDistinctDigests}
use Rattle.repo_store.specs.Contents.{Collides, has_digest, has_content, with_content}
use Rattle.repo_store.specs.Index.{IsIndexed, IsIndexedBy}

never : {X : Type 0} {x : X} → ◌≡◌ {A = Option X} None (Some x) → ⊥
never e = cc

pub ok_part : {T E P : Type 0} (r : Result T E) → is_err r ≡ false → OnOk r P → P
ok_part (Ok x) e p = p
ok_part (Err y) e p = absurd (let never : true ≡ false = e in cc)

pub err_part : {T E P : Type 0} (r : Result T E) → is_err r ≡ true → OnErr r P → P
err_part (Ok x) e p = absurd (let never : false ≡ true = e in cc)
err_part (Err y) e p = p

same_some : {X : Type 0} {x y : X} → Some x ≡ Some y → x ≡ y
same_some e = cc

-- ---- a map from keys to places

differ : {K : Type 0} (same : K → K → Bool) → ((a b : K) → (same a b ≡ true → a ≡ b) × (a ≡ b → same a b ≡ true)) → (a b : K) → (a ≡ b → ⊥) → same a b ≡ false
differ same decides a b apart = false_from_ne_true (same a b) (λ h. apart ((decides a b).0 h))

module _ {X K S : Type 0} (same : K → K → Bool) (decides : (a b : K) → (same a b ≡ true → a ≡ b) × (a ≡ b → same a b ≡ true)) (key : X → K) (blank : X) where
  -- no two stand under one key
  pub apart_by : (m : HashMap K ℕ S) (xs : List X) → IsIndexedBy same key blank m xs → (i j : ℕ) → i < length xs → j < length xs → key (get_or xs i blank) ≡ key (get_or xs j blank) → i ≡ j
  apart_by m xs index i j i_in j_in one = same_some (sym (index.listed i i_in) ∙ ap (get same m) one ∙ index.listed j j_in)

  -- one more, whose key none has
  pub pushed_by : (m n : HashMap K ℕ S) (xs : List X) (x : X) → IsIndexedBy same key blank m xs → get same m (key x) ≡ None
      → ((q : K) → get same n q ≡ cond (same (key x) q) (Some (length xs)) (get same m q)) → IsIndexedBy same key blank n (xs ++ x ∷ [])
  pushed_by m n xs x index none puts = record { listed = λ k within. listed k within; found = λ q k at. found q k at }
    where
      before : (k : ℕ) → k < length xs → get_or (xs ++ x ∷ []) k blank ≡ get_or xs k blank
      before k within = get_or-append xs (x ∷ []) blank k within

      earlier : (k : ℕ) → k < length xs → get same n (key (get_or (xs ++ x ∷ []) k blank)) ≡ Some k
      earlier k within =
          let placed = index.listed k within in
          let differs : key x ≡ key (get_or xs k blank) → ⊥ = λ e. let other : get same m (key x) ≡ Some k = ap (get same m) e ∙ placed in never (sym none ∙ other) in
          ap (λ y. get same n (key y)) (before k within) ∙ puts (key (get_or xs k blank)) ∙ rw (differ same decides (key x) (key (get_or xs k blank)) differs) placed

      last : get same n (key (get_or (xs ++ x ∷ []) (length xs) blank)) ≡ Some (length xs)
      last = ap (λ y. get same n (key y)) (get_or-append_seam xs x [] blank) ∙ puts (key x) ∙ rw ((decides (key x) (key x)).1 refl) refl

      listed : (k : ℕ) → k < length (xs ++ x ∷ []) → get same n (key (get_or (xs ++ x ∷ []) k blank)) ≡ Some k
      listed k within =
          elim (cases_lt k (length xs)) [
            | inl lt ↦ earlier k lt
            | inr ge ↦ let end : length xs ≡ k = omega (arith, length-append xs (x ∷ [])) in subst (λ (j : ℕ). get same n (key (get_or (xs ++ x ∷ []) j blank)) ≡ Some j) end last
          ]

      found : (q : K) (k : ℕ) → get same n q ≡ Some k → (k < length (xs ++ x ∷ [])) × (key (get_or (xs ++ x ∷ []) k blank) ≡ q)
      found q k is =
          elim (same (key x) q) as (λ b. same (key x) q ≡ b → (k < length (xs ++ x ∷ [])) × (key (get_or (xs ++ x ∷ []) k blank) ≡ q)) [
            | true ↦ λ e.
                let end : length xs ≡ k = same_some (sym (puts q ∙ ap (λ b. cond b (Some (length xs)) (get same m q)) e) ∙ is) in
                (omega (arith, length-append xs (x ∷ [])), ap (λ (j : ℕ). key (get_or (xs ++ x ∷ []) j blank)) (sym end) ∙ ap key (get_or-append_seam xs x [] blank) ∙ (decides (key x) q).0 e)
            | false ↦ λ e.
                let it = index.found q k (sym (puts q ∙ ap (λ b. cond b (Some (length xs)) (get same m q)) e) ∙ is) in
                let within : k < length xs = it.0 in
                (omega (arith, length-append xs (x ∷ [])), ap key (before k within) ∙ it.1)
          ] refl

  -- the last taken out
  pub popped_by : (m n : HashMap K ℕ S) (xs : List X) (x : X) → IsIndexedBy same key blank m (xs ++ x ∷ []) → ((q : K) → get same n q ≡ cond (same (key x) q) None (get same m q))
      → IsIndexedBy same key blank n xs
  popped_by m n xs x index puts = record { listed = λ k within. listed k within; found = λ q k at. found q k at }
    where
      before : (k : ℕ) → k < length xs → get_or (xs ++ x ∷ []) k blank ≡ get_or xs k blank
      before k within = get_or-append xs (x ∷ []) blank k within

      last : get same m (key x) ≡ Some (length xs)
      last = ap (λ y. get same m (key y)) (sym (get_or-append_seam xs x [] blank)) ∙ index.listed (length xs) (omega (arith, length-append xs (x ∷ [])))

      listed : (k : ℕ) → k < length xs → get same n (key (get_or xs k blank)) ≡ Some k
      listed k within =
          let placed : get same m (key (get_or xs k blank)) ≡ Some k =
          ap (λ y. get same m (key y)) (sym (before k within)) ∙ index.listed k (omega (arith, length-append xs (x ∷ []))) in
          let differs : key x ≡ key (get_or xs k blank) → ⊥ = λ e. let end : k ≡ length xs = same_some (sym placed ∙ ap (get same m) (sym e) ∙ last) in omega arith in
          puts (key (get_or xs k blank)) ∙ rw (differ same decides (key x) (key (get_or xs k blank)) differs) placed

      found : (q : K) (k : ℕ) → get same n q ≡ Some k → (k < length xs) × (key (get_or xs k blank) ≡ q)
      found q k is =
          elim (same (key x) q) as (λ b. same (key x) q ≡ b → (k < length xs) × (key (get_or xs k blank) ≡ q)) [
            | true ↦ λ e. absurd (never (sym (puts q ∙ ap (λ b. cond b None (get same m q)) e) ∙ is))
            | false ↦ λ e.
                let it = index.found q k (sym (puts q ∙ ap (λ b. cond b None (get same m q)) e) ∙ is) in
                let obeys : k < length (xs ++ x ∷ []) = it.0 in
                elim (cases_lt k (length xs)) [
                  | inl lt ↦ (lt, ap key (sym (before k lt)) ∙ it.1)
                  | inr ge ↦
                      let end : length xs ≡ k = omega (arith, length-append xs (x ∷ [])) in
                      let here : key x ≡ q = ap key (sym (get_or-append_seam xs x [] blank)) ∙ ap (λ (j : ℕ). key (get_or (xs ++ x ∷ []) j blank)) end ∙ it.1 in
                      let there : same (key x) q ≡ true = (decides (key x) q).1 here in
                      absurd (cc)
                ]
          ] refl

  -- the same entries
  pub same_by : (m n : HashMap K ℕ S) (xs : List X) → n.entries ≡ m.entries → IsIndexedBy same key blank m xs → IsIndexedBy same key blank n xs
  same_by m n xs one index = record {
    listed = λ k within. ap (λ es. lookup (same (key (get_or xs k blank))) es) one ∙ index.listed k within;
    found = λ q k is. index.found q k (ap (λ es. lookup (same q) es) (sym one) ∙ is);
  }

-- ---- contents under their digests

bytes_decide : (a b : List ℕ) → (bytes_eq a b ≡ true → a ≡ b) × (a ≡ b → bytes_eq a b ≡ true)
bytes_decide a b = ((bytes_decides a b).0, bytes_same a b)

module _ {S : Type 0} (m : HashMap (List ℕ) ℕ S) (contents : List (List ℕ)) (index : IsIndexed m contents) where
  abbrev at : ℕ → List ℕ
  at k = get_or contents k []

  -- no place is known for a digest that no contents have
  pub unplaced : (digest : List ℕ) → has_digest digest contents ≡ false → get bytes_eq m digest ≡ None
  unplaced digest none =
      elim (get bytes_eq m digest) as (λ o. get bytes_eq m digest ≡ o → o ≡ None) [
        | None ↦ λ e. refl
        | Some k ↦ λ e.
            let here = index.found digest k e in
            let there = list_any_at (λ bytes. bytes_eq digest (sha256 bytes)) contents k [] here.0 (bytes_same digest (sha256 (at k)) (sym here.1)) in
            absurd (cc)
      ] refl

  -- and the converse
  pub unheard : (digest : List ℕ) → get bytes_eq m digest ≡ None → has_digest digest contents ≡ false
  unheard digest none =
      false_from_ne_true (has_digest digest contents) (λ some.
      let any : Any (λ bytes. bytes_eq digest (sha256 bytes) ≡ true) contents = Any-from_list_any (λ bytes. bytes_eq digest (sha256 bytes)) contents some in
      let same : digest ≡ sha256 any.1 = (bytes_decides digest (sha256 any.1)).0 any.4 in
      let read : at any.0 ≡ any.1 = get_or_default contents any.0 [] any.1 any.2 ∙ any.3 in
      let listed : get bytes_eq m (sha256 (at any.0)) ≡ Some any.0 = index.listed any.0 any.2 in
      let placed : get bytes_eq m digest ≡ Some any.0 = ap (get bytes_eq m) (same ∙ ap sha256 (sym read)) ∙ listed in
      cc)

  -- no two of the contents stand under one digest
  pub index_apart : HaveDistinctDigests contents
  index_apart = apart_by bytes_eq bytes_decide sha256 [] m contents index

  -- the contents at the place of a digest are the only ones under it
  pub one_alone : (content : List ℕ) (k : ℕ) → get bytes_eq m (sha256 content) ≡ Some k → at k ≡ content → ¬ Collides content contents
  one_alone content k placed here other =
      let listed : get bytes_eq m (sha256 (at other.at)) ≡ Some other.at = index.listed other.at other.within in
      let same : k ≡ other.at = same_some (sym placed ∙ ap (get bytes_eq m) (sym other.same_digest) ∙ listed) in
      other.differs (ap at (sym same) ∙ here)

-- one more, whose digest no contents have
pub index_pushed : {S : Type 0} (m n : HashMap (List ℕ) ℕ S) (contents : List (List ℕ)) (bytes : List ℕ) → IsIndexed m contents → has_digest (sha256 bytes) contents ≡ false
    → ((q : List ℕ) → get bytes_eq n q ≡ cond (bytes_eq (sha256 bytes) q) (Some (length contents)) (get bytes_eq m q)) → IsIndexed n (contents ++ bytes ∷ [])
index_pushed m n contents bytes index new puts = pushed_by bytes_eq bytes_decide sha256 [] m n contents bytes index (unplaced m contents index (sha256 bytes) new) puts

-- the last taken out
pub index_popped : {S : Type 0} (m n : HashMap (List ℕ) ℕ S) (contents : List (List ℕ)) (bytes : List ℕ) → IsIndexed m (contents ++ bytes ∷ [])
    → ((q : List ℕ) → get bytes_eq n q ≡ cond (bytes_eq (sha256 bytes) q) None (get bytes_eq m q)) → IsIndexed n contents
index_popped = popped_by bytes_eq bytes_decide sha256 []

-- the same entries
pub index_same : {S : Type 0} (m n : HashMap (List ℕ) ℕ S) (contents : List (List ℕ)) → n.entries ≡ m.entries → IsIndexed m contents → IsIndexed n contents
index_same = same_by bytes_eq bytes_decide sha256 []

-- contents whose digest none has collide with none
pub none_under : (bytes : List ℕ) (contents : List (List ℕ)) → has_digest (sha256 bytes) contents ≡ false → ¬ Collides bytes contents
none_under bytes contents none other =
    let there : has_digest (sha256 bytes) contents ≡ true =
    list_any_at (λ (b : List ℕ). bytes_eq (sha256 bytes) (sha256 b)) contents other.at [] other.within (bytes_same (sha256 bytes) (sha256 (get_or contents other.at [])) (sym other.same_digest)) in
    absurd (let never : true ≡ false = sym there ∙ none in cc)

-- contents under the digest of these, which differ, collide with them
pub other_under : (bytes content : List ℕ) (contents : List (List ℕ)) → Any (λ other. other ≡ content) contents → sha256 content ≡ sha256 bytes → (content ≡ bytes → ⊥) → Collides bytes contents
other_under bytes content contents any under differs =
    let read : get_or contents any.0 [] ≡ content = get_or_default contents any.0 [] any.1 any.2 ∙ any.3 ∙ any.4 in
    record { at = any.0; within = any.2; same_digest = ap sha256 read ∙ under; differs = λ e. differs (sym read ∙ e) }

-- contents whose digest none has are not among them
pub unknown : (bytes : List ℕ) (contents : List (List ℕ)) → has_digest (sha256 bytes) contents ≡ false → has_content bytes contents ≡ false
unknown bytes contents none =
    false_from_ne_true (has_content bytes contents) (λ some.
    let any : Any (λ other. bytes_eq bytes other ≡ true) contents = Any-from_list_any (bytes_eq bytes) contents some in
    let same : bytes ≡ any.1 = (bytes_decides bytes any.1).0 any.4 in
    let there : has_digest (sha256 bytes) contents ≡ true =
    list_any_at (λ other. bytes_eq (sha256 bytes) (sha256 other)) contents any.0 any.1 any.2 (bytes_same (sha256 bytes) (sha256 (get_or contents any.0 any.1)) (ap sha256 (same ∙ sym any.3))) in
    let never : true ≡ false = sym there ∙ none in
    cc)

pub known : (bytes content : List ℕ) (contents : List (List ℕ)) → Any (λ other. other ≡ content) contents → content ≡ bytes → has_content bytes contents ≡ true
known bytes content contents any same = list_any-from_Any (bytes_eq bytes) contents (any.0, any.1, any.2, any.3, bytes_same bytes any.1 (sym (any.4 ∙ same)))

pub kept_known : (bytes : List ℕ) (contents : List (List ℕ)) → has_content bytes contents ≡ true → contents ≡ with_content bytes contents
kept_known bytes contents there = rw there refl

pub kept_unknown : (bytes : List ℕ) (contents : List (List ℕ)) → has_content bytes contents ≡ false → contents ++ bytes ∷ [] ≡ with_content bytes contents
kept_unknown bytes contents absent = rw absent refl
