-- An answer that is looked for by its key.
use Rattle.std.proofs.Common.{◌≡◌, ℕ, zero, suc, ◌+◌, ◌<◌, true, false, List, [], ◌∷◌, ◌++◌, length, take, get_or, None, Some, ◌⊎◌, inl, inr, refl, sym, ap, ap₂, subst, ◌∙◌, arith}
use Rattle.std.specs.List.{AllByRecursion, Any, Contains}
use Rattle.std.proofs.lemmas.Bool.{false_from_ne_true}
use Rattle.std.specs.Str.{bytes_eq}
use Rattle.std.proofs.lemmas.List.{map-append, take_more}
use Rattle.std.proofs.lemmas.List.Elements.{All-contains, All-from_recursion}
use Rattle.std.proofs.lemmas.List.Folds.{list_any_at}
use Rattle.std.proofs.lemmas.List.Sorted.{IsPermutation-refl}
use Rattle.hook_base.specs.RisingLemmas.{bytes_same}
use Rattle.sha2.specs.Sha256.{sha256}
use Rattle.hook_base.specs.declared.file.File.{File}
use Rattle.answer_records.specs.declared.seen_file.SeenFile.{SeenFile}
use Rattle.answer_records.specs.Limits.{IsStorable}
use Rattle.answer_records.specs.Records.{seen_file, seen_of_files, seen_record, words_record}
use Rattle.repo_store.specs.AnswerLemmas.{finds, finds_none, is_for_decides}
use Rattle.repo_store.specs.Answers.{KeptAnswer, answer_for, is_for}
use Rattle.repo_store.specs.Complete.{HasRecords, HaveContents, HaveDistinctDigests, HaveRecords, IsAmong, IsComplete}
use Rattle.repo_store.specs.Contents.{Collides, has_digest}
use Rattle.repo_store.specs.Index.{Key, key_of}
use Rattle.repo_store.specs.Kept.{Kept}
use Rattle.repo_store.specs.KeptContents.{AreKnownFiles, ArePlacedFiles, HavePlaces, IsKnownRecord, IsPlacedRecord}
use Rattle.repo_store.specs.Remembering.{AnyCollides, HasPlacedKey}
use Rattle.repo_store.specs.SoundAnswers.{IsSoundAnswer}
use Rattle.repo_store.specs.WrittenAnswers.{contents_in_files, contents_of_key}
use Rattle.repo_store.proofs.DigestLemmas.{same_bytes}
use Rattle.repo_store.proofs.FromRowsLemmas.{all_pushed}
use Rattle.repo_store.proofs.IndexLemmas.{unknown}
use Rattle.repo_store.proofs.SameAnswerLemmas.{same_seen, same_words}

-- ---- one of a list

module _ {X : Type 0} (P : X → Type 0) where
  any_first : (x : X) (xs : List X) → P x → Any P (x ∷ xs)
  any_first x xs here = (0, x, omega arith, refl, here)

  any_later : (x : X) (xs : List X) → Any P xs → Any P (x ∷ xs)
  any_later x xs any = (suc any.0, any.1, let within = any.2 in omega arith, any.3, any.4)

  any_cases : (x : X) (xs : List X) → Any P (x ∷ xs) → P x ⊎ Any P xs
  any_cases x xs any = go any.0 any.1 any.2 any.3 any.4
    where
      go : (k : ℕ) (y : X) → k < length (x ∷ xs) → get_or (x ∷ xs) k y ≡ y → P y → P x ⊎ Any P xs
      go zero y within is here = inl (subst P (sym is) here)
      go (suc k) y within is later = inr (k, y, omega arith, is, later)

  any_left : (xs ys : List X) → Any P xs → Any P (xs ++ ys)
  any_left [] ys any = absurd (let within = any.2 in omega arith)
  any_left (x ∷ xs) ys any = elim (any_cases x xs any) [ inl here ↦ any_first x (xs ++ ys) here | inr later ↦ any_later x (xs ++ ys) (any_left xs ys later) ]

  any_right : (xs ys : List X) → Any P ys → Any P (xs ++ ys)
  any_right [] ys any = any
  any_right (x ∷ xs) ys any = any_later x (xs ++ ys) (any_right xs ys any)

-- ---- the contents of the files that were seen

module _ (contents : List (List ℕ)) where
  pub collides_at : (files : List File) (i : ℕ) (file : File) → i < length files → get_or files i file ≡ file → Collides file.entry.bytes contents → AnyCollides (contents_in_files files) contents
  collides_at [] i file within is collides = absurd (omega arith)
  collides_at (f ∷ files) zero file within is collides =
      any_first (λ bytes. Collides bytes contents) f.entry.bytes (contents_in_files files) (subst (λ (g : File). Collides g.entry.bytes contents) (sym is) collides)
  collides_at (f ∷ files) (suc i) file within is collides =
      any_later (λ bytes. Collides bytes contents) f.entry.bytes (contents_in_files files) (collides_at files i file (omega arith) is collides)

  pub places_at : (files : List File) (i : ℕ) (file : File) → i < length files → get_or files i file ≡ file → HavePlaces contents files → has_digest (sha256 file.entry.bytes) contents ≡ true
  places_at [] i file within is placed = absurd (omega arith)
  places_at (f ∷ files) zero file within is placed = subst (λ (g : File). has_digest (sha256 g.entry.bytes) contents ≡ true) is placed.0
  places_at (f ∷ files) (suc i) file within is placed = places_at files i file (omega arith) is placed.1

  pub have_at : (files : List File) (i : ℕ) (file : File) → i < length files → get_or files i file ≡ file → HaveContents contents files → IsAmong contents file.entry.bytes
  have_at [] i file within is have = absurd (omega arith)
  have_at (f ∷ files) zero file within is have = subst (λ (g : File). IsAmong contents g.entry.bytes) is have.0
  have_at (f ∷ files) (suc i) file within is have = have_at files i file (omega arith) is have.1

  module _ (files : List File) (i : ℕ) (file : File) (within : i < length files) (is : get_or files i file ≡ file) where
    one_more : take (i + 1) files ≡ take i files ++ file ∷ []
    one_more = take_more files i file within ∙ ap (λ (f : File). take i files ++ f ∷ []) is

    pub have_more : HaveContents contents (take i files) → IsAmong contents file.entry.bytes → HaveContents contents (take (i + 1) files)
    have_more have here = subst (HaveContents contents) (sym one_more) (all_pushed (λ (f : File). IsAmong contents f.entry.bytes) (take i files) file have here)

    pub named_more : (named new : List SeenFile) (one : SeenFile) → new ≡ named ++ one ∷ [] → named ≡ seen_of_files (take i files) → one ≡ seen_file file → new ≡ seen_of_files (take (i + 1) files)
    named_more named new one pushed before here =
        pushed ∙ ap₂ (λ (l : List SeenFile) (f : SeenFile). l ++ f ∷ []) before here ∙ sym (map-append seen_file (take i files) (file ∷ [])) ∙ sym (ap seen_of_files one_more)

-- ---- contents that stand under the digests of a key

module _ (contents : List (List ℕ)) where
  among_placed : (bytes : List ℕ) → IsAmong contents bytes → has_digest (sha256 bytes) contents ≡ true
  among_placed bytes among =
      elim (has_digest (sha256 bytes) contents) as (λ b. has_digest (sha256 bytes) contents ≡ b → b ≡ true) [
        | true ↦ λ _. refl
        | false ↦ λ none. absurd (let never : true ≡ false = sym among ∙ unknown bytes contents none in cc)
      ] refl

  record_placed : (bytes : List ℕ) → IsKnownRecord contents bytes → IsPlacedRecord contents bytes
  record_placed bytes it = record { storable = it.storable; placed = among_placed bytes it.among }

  files_placed : (files : List File) → HaveContents contents files → HavePlaces contents files
  files_placed [] have = tt
  files_placed (file ∷ files) have = (among_placed file.entry.bytes have.0, files_placed files have.1)

  all_placed : (files : List File) → AreKnownFiles contents files → ArePlacedFiles contents files
  all_placed files it = record { record_placed = record_placed (seen_record (seen_of_files files)) it.record_known; contents_placed = files_placed files it.contents_known }

  abbrev Placed : List ℕ → Type 0
  Placed bytes = has_digest (sha256 bytes) contents ≡ true

  -- the digests of files, and of two records after them
  split_places : (files : List File) (a b : List ℕ) → AllByRecursion Placed (contents_in_files files ++ (a ∷ b ∷ [])) → HavePlaces contents files × Placed a × Placed b
  split_places [] a b all = (tt, all.0, all.1.0)
  split_places (file ∷ files) a b all = let rest = split_places files a b all.1 in ((all.0, rest.0), rest.1, rest.2)

  module _ (words : List (List ℕ)) (seen : List File) (it : HasPlacedKey contents words seen) where
    abbrev parts : HavePlaces contents seen × Placed (words_record words) × Placed (seen_record (seen_of_files seen))
    parts = split_places seen (words_record words) (seen_record (seen_of_files seen)) it.placed

    pub words_placed : IsPlacedRecord contents (words_record words)
    words_placed = record { storable = it.words_fit; placed = parts.1 }

    pub seen_placed : ArePlacedFiles contents seen
    seen_placed = record { record_placed = record { storable = it.seen_fits; placed = parts.2 }; contents_placed = parts.0 }

  -- what is among contents with distinct digests collides with none of them
  among_apart : HaveDistinctDigests contents → (bytes : List ℕ) → IsAmong contents bytes → ¬ Collides bytes contents
  among_apart apart bytes among collides =
      let other = get_or contents collides.at [] in
      let there : IsAmong contents other = list_any_at (bytes_eq other) contents collides.at [] collides.within (bytes_same other other refl) in
      collides.differs (same_bytes contents contents (IsPermutation-refl contents) apart other bytes there among collides.same_digest)

  none_meets : HaveDistinctDigests contents → (files : List File) (a b : List ℕ) → HaveContents contents files → IsAmong contents a → IsAmong contents b
      → ¬ AnyCollides (contents_in_files files ++ (a ∷ b ∷ [])) contents
  none_meets apart [] a b have a_in b_in any =
      elim (any_cases (λ bytes. Collides bytes contents) a (b ∷ []) any) [
        | inl here ↦ among_apart apart a a_in here
        | inr later ↦ elim (any_cases (λ bytes. Collides bytes contents) b [] later) [ inl here ↦ among_apart apart b b_in here | inr none ↦ absurd (let within = none.2 in omega arith) ]
      ]
  none_meets apart (file ∷ files) a b have a_in b_in any =
      elim (any_cases (λ bytes. Collides bytes contents) file.entry.bytes (contents_in_files files ++ (a ∷ b ∷ [])) any) [
        | inl here ↦ among_apart apart file.entry.bytes have.0 here
        | inr later ↦ none_meets apart files a b have.1 a_in b_in later
      ]

  pub known_apart : (words : List (List ℕ)) (seen : List File) → HaveDistinctDigests contents → IsKnownRecord contents (words_record words) → AreKnownFiles contents seen
      → ¬ AnyCollides (contents_of_key words seen) contents
  known_apart words seen apart words_known seen_known =
      none_meets apart seen (words_record words) (seen_record (seen_of_files seen)) seen_known.contents_known words_known.among seen_known.record_known.among

-- ---- what a key collides with

module _ (contents words : List (List ℕ)) (seen : List File) where
  abbrev Meets : List ℕ → Type 0
  Meets bytes = Collides bytes contents

  abbrev words_bytes : List ℕ
  words_bytes = words_record words

  abbrev seen_bytes : List ℕ
  seen_bytes = seen_record (seen_of_files seen)

  pub words_collide : Collides (words_record words) contents → AnyCollides (contents_of_key words seen) contents
  words_collide collides = any_right Meets (contents_in_files seen) (words_bytes ∷ seen_bytes ∷ []) (any_first Meets words_bytes (seen_bytes ∷ []) collides)

  pub seen_collide : AnyCollides (seen_record (seen_of_files seen) ∷ contents_in_files seen) contents → AnyCollides (contents_of_key words seen) contents
  seen_collide collides =
      elim (any_cases Meets seen_bytes (contents_in_files seen) collides) [
        | inl here ↦ any_right Meets (contents_in_files seen) (words_bytes ∷ seen_bytes ∷ []) (any_later Meets words_bytes (seen_bytes ∷ []) (any_first Meets seen_bytes [] here))
        | inr files ↦ any_left Meets (contents_in_files seen) (words_bytes ∷ seen_bytes ∷ []) files
      ]

  pub files_collide : AnyCollides (contents_in_files seen) contents → AnyCollides (seen_record (seen_of_files seen) ∷ contents_in_files seen) contents
  files_collide collides = any_later Meets seen_bytes (contents_in_files seen) collides

  pub record_collides : Collides (seen_record (seen_of_files seen)) contents → AnyCollides (seen_record (seen_of_files seen) ∷ contents_in_files seen) contents
  record_collides collides = any_first Meets seen_bytes (contents_in_files seen) collides

-- ---- the answer of a key

module _ (contents : List (List ℕ)) where
  each_answer : (P : KeptAnswer → Type 0) → ((answer : KeptAnswer) → IsSoundAnswer answer → HasRecords contents answer → P answer) → (answers : List KeptAnswer) → AllByRecursion IsSoundAnswer answers
      → HaveRecords contents answers
      → AllByRecursion P answers
  each_answer P holds [] sound have = tt
  each_answer P holds (answer ∷ answers) sound have = (holds answer sound.0 have.0, each_answer P holds answers sound.1 have.1)

module _ (kept : Kept) (it : IsComplete kept) (words : List (List ℕ)) (seen : List File) where
  abbrev key : Key
  key = (sha256 (words_record words), sha256 (seen_record (seen_of_files seen)))

  lacking : ((answer : KeptAnswer) → IsSoundAnswer answer → HasRecords kept.contents answer → answer.words ≡ words → answer.seen ≡ seen → ⊥) → answer_for words seen kept.answers ≡ None
  lacking none =
      finds_none words seen kept.answers (each_answer kept.contents (λ answer. is_for words seen answer ≡ false)
      (λ answer sound have. false_from_ne_true (is_for words seen answer) (λ h. let same = (is_for_decides words seen answer).0 h in none answer sound have same.0 same.1)) kept.answers
      it.sound_answers it.answers)

  pub none_by_words : ¬ IsPlacedRecord kept.contents (words_record words) → answer_for words seen kept.answers ≡ None
  none_by_words absent =
      lacking (λ answer sound have is _.
      absent (record_placed kept.contents (words_record words) (record {
        storable = subst (λ (l : List (List ℕ)). IsStorable (words_record l)) is sound.words_fit;
        among = subst (λ (l : List (List ℕ)). IsAmong kept.contents (words_record l)) is have.words;
      })))

  pub none_by_seen : ¬ ArePlacedFiles kept.contents seen → answer_for words seen kept.answers ≡ None
  none_by_seen absent =
      lacking (λ answer sound have _ is.
      absent (all_placed kept.contents seen (record {
        record_known = record {
          storable = subst (λ (l : List File). IsStorable (seen_record (seen_of_files l))) is sound.seen_fits;
          among = subst (λ (l : List File). IsAmong kept.contents (seen_record (seen_of_files l))) is have.seen;
        };
        contents_known = subst (HaveContents kept.contents) is have.seen_contents;
      })))

  pub none_by_key : AllByRecursion (λ (answer : KeptAnswer). ¬ (key_of answer ≡ key)) kept.answers → answer_for words seen kept.answers ≡ None
  none_by_key none = finds_none words seen kept.answers (go kept.answers none)
    where
      go : (answers : List KeptAnswer) → AllByRecursion (λ (answer : KeptAnswer). ¬ (key_of answer ≡ key)) answers → AllByRecursion (λ (answer : KeptAnswer). is_for words seen answer ≡ false) answers
      go [] apart = tt
      go (answer ∷ answers) apart = (
        false_from_ne_true (is_for words seen answer) (λ h.
            let same = (is_for_decides words seen answer).0 h in
            apart.0 (ap₂ (λ (w : List (List ℕ)) (s : List File). let made : Key = (sha256 (words_record w), sha256 (seen_record (seen_of_files s))) in made) same.0 same.1)),
        go answers apart.1,
      )

  pub found_by_key : (answer : KeptAnswer) → Contains kept.answers answer → key_of answer ≡ key → IsKnownRecord kept.contents (words_record words) → AreKnownFiles kept.contents seen
      → answer_for words seen kept.answers ≡ Some answer
  found_by_key answer there same words_known seen_known =
      let sound = All-contains IsSoundAnswer kept.answers answer (All-from_recursion IsSoundAnswer kept.answers it.sound_answers) there in
      let have = All-contains (HasRecords kept.contents) kept.answers answer (All-from_recursion (HasRecords kept.contents) kept.answers it.answers) there in
      let asked : KeptAnswer = record answer { words = words; seen = seen } in
      let asked_in : HasRecords kept.contents asked = record {
        words = words_known.among;
        seen = seen_known.record_known.among;
        output = have.output;
        changes = have.changes;
        seen_contents = seen_known.contents_known;
        new_contents = have.new_contents;
      } in
      let one = same_words kept.contents it.apart answer asked sound have asked_in (ap (λ (k : Key). k.0) same) in
      let two = same_seen kept.contents it.apart answer asked sound have asked_in (ap (λ (k : Key). k.1) same) in
      finds words seen answer kept.answers it.keys there ((is_for_decides words seen answer).1 (one, two))
