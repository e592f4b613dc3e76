-- What the calls on the uses make of what is kept, from what they make of the tables.
use Rattle.std.proofs.Common.{◌≡◌, ◌+◌, ◌≤◌, ℕ, List, [], ◌∷◌, ◌++◌, Option, None, Some, Result, pos, not, codes, ◌-◌, filter, map, take, drop, length, reverse, refl, sym, ap, subst, ◌∙◌, arith}
use Rattle.std.proofs.lemmas.List.Elements.{All-contains}
use Rattle.std.proofs.lemmas.List.Elements.{All-from_recursion}
use Rattle.std.specs.List.{AllByRecursion, Any}
use Rattle.std.specs.Str.{bytes_eq}
use Rattle.std.proofs.lemmas.List.{length-drop, length-map, length-reverse, map-append, reverse-append, take-append-drop}
use lib.Seq.{take-append_seam}
use Rattle.std.specs.Option.{option_map_or}
use Rattle.sqlite_trees.specs.declared.store.Store.{Ghosts}
use Rattle.sqlite.specs.Held.{Held}
use Rattle.store_tables.specs.declared.rows.MetaRow.{MetaRow}
use Rattle.store_tables.specs.Tables.{Tables, with_new_meta, without_answer}
use Rattle.repo_store.specs.Answers.{HaveOwnKeys, KeptAnswer}
use Rattle.repo_store.specs.Bounded.{HoldsListed}
use Rattle.repo_store.specs.Complete.{IsComplete}
use Rattle.repo_store.specs.Index.{Key, key_of}
use Rattle.repo_store.specs.FromRows.{IsSame}
use Rattle.repo_store.specs.Kept.{Kept, limiting}
use Rattle.repo_store.specs.ListedAnswers.{brought_answers, of_other_keys}
use Rattle.repo_store.specs.Remembered.{TellsKey}
use Rattle.repo_store.specs.Remembering.{with_answer_row}
use Rattle.repo_store.specs.Rows.{answer_row, limit_row, tables_of, with_blobs}
use Rattle.repo_store.specs.Standing.{put_tables, surplus_of, without_key_row}
use Rattle.repo_store.specs.UsesOf.{TellTheirKeys, without_all}
use Rattle.store_faults.specs.declared.fault.StoreFault.{StoreFault}
use Rattle.repo_store.specs.Shown.{IsNumberedAnew, IsOneTransaction, Shown, Stands}
use Rattle.repo_store.specs.Transactions.{IsCall}
use Rattle.repo_store.specs.UsedAnswers.{in_front, with_answer_within}
use Rattle.repo_store.proofs.AnswerListLemmas.{found_there, one_found, others_told}
use Rattle.repo_store.proofs.AnswerTableLemmas.{limiting_same, tell_behind}
use Rattle.repo_store.proofs.RememberLemmas.{tell_keys}
use Rattle.repo_store.proofs.StandLemmas.{unnamed_in}

-- what a use is asked for, and what it makes of the answers
abbrev pub Uses : {S A F : Type 0} → Ghosts S → Held S → Held S → Result A F → Key → ℕ → Type 0
Uses g old new r key next = (t : Tables) (answers : List KeptAnswer) (answer : KeptAnswer) → key_of answer ≡ key → AllByRecursion (TellsKey answer) answers → 1 ≤ next
    → IsCall g old new r (λ db. HoldsListed next answers db t) (λ db. HoldsListed (next + 1) (in_front answer answers) db t)

pub use_goes : {S A F : Type 0} (g : Ghosts S) (old new : Held S) (r : Result A F) (kept : Kept) (key : Key) (next : ℕ) → IsComplete kept
    → Any (λ (answer : KeptAnswer). key_of answer ≡ key) kept.answers → 1 ≤ next → Uses g old new r key next
    → (t : Tables) → IsCall g old new r (λ db. HoldsListed next kept.answers db t) (λ db. HoldsListed (next + 1) (brought_answers key kept.answers) db t)
use_goes g old new r kept key next complete there first uses t =
    let answers = kept.answers in
    let found = one_found key answers there in
    let answer = found.0 in
    let it = found_there key answer answers found.1 in
    let told =
    All-contains (λ (x : KeptAnswer). AllByRecursion (TellsKey x) answers) answers answer
    (All-from_recursion (λ (x : KeptAnswer). AllByRecursion (TellsKey x) answers) answers (tell_keys kept complete)) it.0 in
    let front : brought_answers key answers ≡ in_front answer answers =
    ap (λ (o : Option KeptAnswer). option_map_or (λ (a : KeptAnswer). a ∷ of_other_keys key answers) o answers) found.1
    ∙ ap (λ (k : Key). answer ∷ of_other_keys k answers) (sym it.1) ∙ ap (λ (l : List KeptAnswer). answer ∷ l) (others_told answer answers told) in
    subst (λ (l : List KeptAnswer). IsCall g old new r (λ db. HoldsListed next answers db t) (λ db. HoldsListed (next + 1) l db t)) (sym front) (uses t answers answer it.1 told first)

-- there are as many keys as answers
pub key_count : (keys : List Key) (answers : List KeptAnswer) → keys ≡ map key_of (reverse answers) → length keys ≡ length answers
key_count keys answers is = ap length is ∙ length-map (reverse answers) key_of ∙ length-reverse answers

-- ---- numbered again

pub numbered_anew : {S : Type 0} (g : Ghosts S) (shown : Shown S) (old new : Held S) (kept : Kept) (next tick : ℕ) (r : Result (Unit {0}) StoreFault)
    → record { conn = old; kept = kept; next = next } ≡ shown
    → Stands g old kept → IsOneTransaction g (record { conn = old; kept = kept; next = next }) (record { conn = new; kept = kept; next = tick }) r kept
    → IsNumberedAnew g shown (record { conn = new; kept = kept; next = tick })
numbered_anew g shown old new kept next tick r is stood it =
    subst (λ (s : Shown _). IsNumberedAnew g s (record { conn = new; kept = kept; next = tick })) is (record { stood = stood; same = refl; result = r; transaction = it })

-- ---- a limit is set

abbrev pub Limits : {S A F : Type 0} → Ghosts S → Held S → Held S → Result A F → List Key → ℕ → Type 0
Limits g old new r keys limit = (t : Tables) (next : ℕ) (front back : List KeptAnswer) → keys ≡ map key_of (reverse back) → HaveOwnKeys (front ++ back) → TellTheirKeys (front ++ back) back
    → IsCall g old new r (λ db. HoldsListed next (front ++ back) db t) (λ db. HoldsListed next front db (with_new_meta (limit_row (pos limit)) (without_all keys t)))

-- the keys of those after the limit, of all keys
pub keys_behind : (limit surplus : ℕ) (keys : List Key) (answers : List KeptAnswer) → keys ≡ map key_of (reverse answers) → surplus ≡ length answers - limit
    → take surplus keys ≡ map key_of (reverse (drop limit answers))
keys_behind limit surplus keys answers is surplus_is =
    let back = drop limit answers in
    let front = take limit answers in
    let turned : reverse answers ≡ reverse back ++ reverse front = ap reverse (sym (take-append-drop limit answers)) ∙ reverse-append front back in
    let all : keys ≡ map key_of (reverse back) ++ map key_of (reverse front) = is ∙ ap (map key_of) turned ∙ map-append key_of (reverse back) (reverse front) in
    let long : length (map key_of (reverse back)) ≡ surplus = length-map (reverse back) key_of ∙ length-reverse back ∙ length-drop limit answers ∙ sym surplus_is in
    ap (take surplus) all ∙ ap (λ (n : ℕ). take n (map key_of (reverse back) ++ map key_of (reverse front))) (sym long) ∙ take-append_seam (map key_of (reverse back)) (map key_of (reverse front))

pub limit_goes : {S A F : Type 0} (g : Ghosts S) (old new : Held S) (r : Result A F) (kept : Kept) (limit next : ℕ) (keys : List Key) → IsComplete kept
    → keys ≡ map key_of (reverse (drop limit kept.answers)) → Limits g old new r keys limit
    → (t : Tables) → IsCall g old new r (λ db. HoldsListed next kept.answers db t) (λ db. HoldsListed next (take limit kept.answers) db (with_new_meta (limit_row (pos limit)) (without_all keys t)))
limit_goes g old new r kept limit next keys complete is limits t =
    let front = take limit kept.answers in
    let back = drop limit kept.answers in
    let whole : front ++ back ≡ kept.answers = take-append-drop limit kept.answers in
    subst (λ (l : List KeptAnswer). IsCall g old new r (λ db. HoldsListed next l db t) (λ db. HoldsListed next front db (with_new_meta (limit_row (pos limit)) (without_all keys t)))) whole
    (limits t next front back is (subst HaveOwnKeys (sym whole) complete.keys) (tell_behind limit kept complete))

pub limited_rows : (limit : ℕ) (kept : Kept) (keys : List Key) → IsComplete kept → keys ≡ map key_of (reverse (drop limit kept.answers))
    → IsSame (with_new_meta (limit_row (pos limit)) (without_all keys (tables_of kept))) (tables_of (limiting limit kept))
limited_rows limit kept keys complete is =
    subst (λ (l : List Key). IsSame (with_new_meta (limit_row (pos limit)) (without_all l (tables_of kept))) (tables_of (limiting limit kept))) (sym is) (limiting_same limit kept complete)

-- what a store says of itself stays where answers go
meta_stays : (keys : List Key) (t : Tables) → (without_all keys t).meta ≡ t.meta
meta_stays [] t = refl
meta_stays (key ∷ keys) t = meta_stays keys (without_answer key.0 key.1 t)

abbrev limited_meta : ℕ → List MetaRow → List MetaRow
limited_meta limit rows = limit_row (pos limit) ∷ filter (λ (row : MetaRow). not (bytes_eq row.name (codes "limit"))) rows

pub limits_apart : (limit : ℕ) (kept : Kept) (keys : List Key) → length (with_new_meta (limit_row (pos limit)) (without_all keys (tables_of kept))).meta
    ≡ length (with_new_meta (limit_row (pos limit)) (without_all keys (unnamed_in kept))).meta → ⊥
limits_apart limit kept keys same =
    let two : length (with_new_meta (limit_row (pos limit)) (without_all keys (tables_of kept))).meta ≡ 2 =
    ap (λ (rows : List MetaRow). length (limited_meta limit rows)) (meta_stays keys (tables_of kept)) in
    let one : length (with_new_meta (limit_row (pos limit)) (without_all keys (unnamed_in kept))).meta ≡ 1 =
    ap (λ (rows : List MetaRow). length (limited_meta limit rows)) (meta_stays keys (unnamed_in kept)) in
    omega (arith, same, two, one)

-- ---- an answer is put

abbrev pub Puts : {S A F : Type 0} → Ghosts S → Held S → Held S → Result A F → ℕ → ℕ → Kept → KeptAnswer → Type 0
Puts g old new r before next kept answer = (t : Tables)
    → IsCall g old new r (λ db. HoldsListed next kept.answers db t) (λ db. HoldsListed (next + 1) (with_answer_within kept.limit answer kept.answers) db
    (put_tables kept.limit kept.answers answer (drop before kept.contents) t))

pub put_goes : {S A F : Type 0} (g : Ghosts S) (old new : Held S) (r : Result A F) (before next : ℕ) (prepared kept : Kept) (handed answer : KeptAnswer) (contents : List (List ℕ))
    → prepared ≡ record kept { contents = contents } → handed ≡ answer
    → before ≡ length kept.contents → Puts g old new r before next prepared handed → Puts g old new r (length kept.contents) next (record kept { contents = contents }) answer
put_goes g old new r before next prepared kept handed answer contents prepared_is handed_is before_is puts =
    subst (λ (n : ℕ). Puts g old new r n next (record kept { contents = contents }) answer) before_is
    (subst (λ (a : KeptAnswer). Puts g old new r before next (record kept { contents = contents }) a) handed_is (subst (λ (k : Kept). Puts g old new r before next k handed) prepared_is puts))

surplus_meta : (key : Option Key) (t : Tables) → (without_key_row key t).meta ≡ t.meta
surplus_meta None t = refl
surplus_meta (Some key) t = refl

pub puts_apart : (kept : Kept) (answer : KeptAnswer) (news : List (List ℕ))
    → length (put_tables kept.limit kept.answers answer news (tables_of kept)).meta ≡ length (put_tables kept.limit kept.answers answer news (unnamed_in kept)).meta → ⊥
puts_apart kept answer news same =
    let surplus = surplus_of kept.limit (in_front answer kept.answers) in
    let two : length (put_tables kept.limit kept.answers answer news (tables_of kept)).meta ≡ 2 =
    ap (λ (rows : List MetaRow). length rows) (surplus_meta surplus (with_answer_row (answer_row answer) (with_blobs news (tables_of kept)))) in
    let none : length (put_tables kept.limit kept.answers answer news (unnamed_in kept)).meta ≡ 0 =
    ap (λ (rows : List MetaRow). length rows) (surplus_meta surplus (with_answer_row (answer_row answer) (with_blobs news (unnamed_in kept)))) in
    omega (arith, same, two, none)
