-- Fields at the front of the bytes: what was read is spelled there, and where nothing was read, nothing is.
use Rattle.std.specs.Prelude.{◌≡◌, ℕ, ◌<◌, ◌≤◌, ◌^◌, List, ◌∷◌, ◌++◌, length, take, drop, Option, None, Some, IfSome, IfNone, MatchOption, Result, Ok, Err, OnOk, IfErr}
use Rattle.std.specs.Int.{w32, to_be_bytes, from_be_bytes}
use Rattle.std.proofs.Common.{sym, ap, subst, ◌∙◌, append_assoc, get_or, arith, inl, inr}
use Rattle.std.proofs.lemmas.Bool.{cases_lt}
use Rattle.std.proofs.lemmas.List.{length-append, length-take, take-append-drop, get_or-take, get_or_past}
use Rattle.std.proofs.lemmas.Nat.{be_bytes_4}
use Rattle.answer_records.specs.declared.changed_file.ChangedFile.{ChangedFile}
use Rattle.answer_records.specs.declared.record_fault.RecordFault.{RecordFault}
use Rattle.answer_records.specs.declared.seen_file.SeenFile.{SeenFile}
use Rattle.answer_records.specs.Items.{BeginsWithNoBytes, BeginsWithNoDigest, BeginsWithNoMode, BeginsWithNone}
use Rattle.answer_records.specs.Limits.{IsStorable, most_record_bytes}
use Rattle.answer_records.specs.Reading.{IsChangedFile, IsRecordRefusal, IsSeenFile, IsTreePath}
use Rattle.answer_records.specs.RecordLemmas.{number_length, number_same, counted_same, counted_length, tail_length}
use Rattle.answer_records.specs.Records.{number_bytes, counted_bytes, mode_byte, now_bytes, seen_bytes, changed_bytes}

-- ---- what a last call says of the result

pub none_of : {X : Type 0} (read : Option X) (Nothing : Type 0) → Nothing → IfNone read Nothing
none_of None Nothing it = it
none_of (Some x) Nothing it = tt

pub none_from : {X : Type 0} (Found : X → Type 0) (read : Option X) (Short Nothing : Type 0) → MatchOption read Short Found → (Short → Nothing) → IfNone read Nothing
none_from Found None Short Nothing cases to = to cases
none_from Found (Some x) Short Nothing cases to = tt

pub some_from : {X : Type 0} (Found Wanted : X → Type 0) (read : Option X) (Short : Type 0) → MatchOption read Short Found → ((x : X) → Found x → Wanted x)
    → IfSome read Wanted
some_from Found Wanted None Short cases to = tt
some_from Found Wanted (Some x) Short cases to = to x cases

pub on_ok : {T E : Type 0} (result : Result T E) (Fact Wanted : Type 0) → OnOk result Fact → (Fact → Wanted) → OnOk result Wanted
on_ok (Ok x) Fact Wanted is to = to is
on_ok (Err e) Fact Wanted is to = tt

-- ---- bytes that are cut in two

pub split_joined : (count : ℕ) (bytes front rest : List ℕ) → front ≡ take count bytes → rest ≡ drop count bytes → bytes ≡ front ++ rest
split_joined count bytes front rest taken left = sym (take-append-drop count bytes) ∙ ap (λ (x : List ℕ). x ++ drop count bytes) (sym taken) ∙ ap (λ (x : List ℕ). front ++ x) (sym left)

pub front_long : (count : ℕ) (bytes front : List ℕ) → front ≡ take count bytes → count ≤ length bytes → length front ≡ count
front_long count bytes front taken long = omega (arith, ap length taken, length-take count bytes)

-- ---- a number

IsBytes-take : (bytes : List ℕ) → ((i : ℕ) → get_or bytes i 0 < 256) → (i : ℕ) → get_or (take 4 bytes) i 0 < 256
IsBytes-take bytes fits i =
    elim (cases_lt i 4) [
      | inl lt ↦ rw (get_or-take 4 bytes i 0 lt) (fits i)
      | inr le ↦ rw (get_or_past (take 4 bytes) i 0 (omega (arith, length-take 4 bytes))) (omega arith)
    ]

pub number_found : (bytes front rest : List ℕ) (number : ℕ) → ((i : ℕ) → get_or bytes i 0 < 256) → front ≡ take 4 bytes → rest ≡ drop 4 bytes → 4 ≤ length bytes
    → number ≡ from_be_bytes w32 front → bytes ≡ number_bytes number ++ rest
unfolding number_bytes
number_found bytes front rest number fits taken left long is =
    let width : length (take 4 bytes) ≡ 4 = omega (arith, length-take 4 bytes) in
    let back : to_be_bytes w32 number ≡ take 4 bytes = be_bytes_4 (take 4 bytes) number width (IsBytes-take bytes fits) (is ∙ ap (from_be_bytes w32) taken) in
    sym (take-append-drop 4 bytes) ∙ ap (λ (x : List ℕ). x ++ drop 4 bytes) (sym back) ∙ ap (λ (x : List ℕ). to_be_bytes w32 number ++ x) (sym left)

pub number_is : (number : ℕ) (bytes : List ℕ) → bytes ≡ to_be_bytes w32 number → bytes ≡ number_bytes number
unfolding number_bytes
number_is number bytes is = is

-- a number is put after what was written, and then the bytes
pub put_twice : (old number mid bytes new : List ℕ) → mid ≡ old ++ number → new ≡ mid ++ bytes → number ≡ number_bytes (length bytes) → new ≡ old ++ counted_bytes bytes
put_twice old number mid bytes new first second is =
    second ∙ ap (λ (x : List ℕ). x ++ bytes) first ∙ append_assoc old number bytes ∙ ap (λ (x : List ℕ). old ++ (x ++ bytes)) is

pub number_shorter : (old number bytes : List ℕ) → number ≡ number_bytes (length bytes) → length (old ++ number) ≤ length (old ++ counted_bytes bytes)
number_shorter old number bytes is =
    omega (arith, length-append old number, length-append old (counted_bytes bytes), counted_length bytes, ap length is, number_length (length bytes))

pub err_longer : {T : Type 0} (result : Result T RecordFault) (bytes more : List ℕ) → bytes ≡ more → IfErr result (IsRecordRefusal bytes)
    → IfErr result (IsRecordRefusal more)
err_longer (Ok x) bytes more same refused = tt
err_longer (Err fault) bytes more same refused = subst (λ (all : List ℕ). IsRecordRefusal all fault) same refused

-- ---- bytes after their number

pub counted_found : (bytes rest text more : List ℕ) (count : ℕ) → bytes ≡ number_bytes count ++ rest → length text ≡ count → rest ≡ text ++ more
    → bytes ≡ counted_bytes text ++ more
counted_found bytes rest text more count spelled long split =
    spelled ∙ ap (λ (n : ℕ). number_bytes n ++ rest) (sym long) ∙ ap (λ (x : List ℕ). number_bytes (length text) ++ x) split ∙ sym (append_assoc (number_bytes (length text)) text more)

pub no_number : (bytes : List ℕ) → length bytes < 4 → BeginsWithNoBytes bytes
no_number bytes short = record { none = λ text rest small e. absurd (omega (arith, short, ap length e, tail_length text rest)) }

pub no_bytes : (bytes rest : List ℕ) (count : ℕ) → bytes ≡ number_bytes count ++ rest → count < 2 ^ 32 → length rest < count → BeginsWithNoBytes bytes
no_bytes bytes rest count spelled fits short = record {
  none = λ text more small e.
      let whole : number_bytes count ++ rest ≡ number_bytes (length text) ++ (text ++ more) = sym spelled ∙ e ∙ append_assoc (number_bytes (length text)) text more in
      let within : length text ≤ most_record_bytes = small in
      let parts = number_same count (length text) rest (text ++ more) fits (omega (arith, within)) whole in
      absurd (omega (arith, short, parts.0, ap length parts.1, length-append text more));
}

-- ---- items

pub word_none : (Is : List ℕ → Type 0) (bytes : List ℕ) → BeginsWithNoBytes bytes → BeginsWithNone Is counted_bytes bytes
word_none Is bytes nothing = record {
  none = λ word rest is small e. let within : length (counted_bytes word) ≤ most_record_bytes = small in nothing.none word rest (omega (arith, within, counted_length word)) e;
}

pub word_other : (Is : List ℕ → Type 0) (bytes text rest : List ℕ) → length text < 2 ^ 32 → bytes ≡ counted_bytes text ++ rest → ¬ Is text
    → BeginsWithNone Is counted_bytes bytes
word_other Is bytes text rest few spelled other = record {
  none = λ word more is small e.
      let within : length (counted_bytes word) ≤ most_record_bytes = small in
      let same = counted_same word text more rest (omega (arith, within, counted_length word)) few (sym e ∙ spelled) in
      other (subst (λ (x : List ℕ). Is x) same.0 is);
}

-- items that are spelled by a path after its number, and by what follows it
module _ {X : Type 0} (Is : X → Type 0) (path tail : X → List ℕ) where
  abbrev spelled : X → List ℕ
  spelled item = counted_bytes (path item) ++ tail item

  path_within : (item : X) → IsStorable (spelled item) → length (path item) < 2 ^ 32
  path_within item small = let within : length (counted_bytes (path item) ++ tail item) ≤ most_record_bytes = small in omega (arith, within, tail_length (path item) (tail item))

  pub no_path : (bytes : List ℕ) → BeginsWithNoBytes bytes → BeginsWithNone Is spelled bytes
  no_path bytes nothing = record {
    none = λ item rest is small e.
        let within : length (counted_bytes (path item) ++ tail item) ≤ most_record_bytes = small in
        nothing.none (path item) (tail item ++ rest) (omega (arith, within, tail_length (path item) (tail item))) (e ∙ append_assoc (counted_bytes (path item)) (tail item) rest);
  }

  parts : (bytes text rest more : List ℕ) (item : X) → length text < 2 ^ 32 → bytes ≡ counted_bytes text ++ rest → IsStorable (spelled item)
      → bytes ≡ spelled item ++ more → (path item ≡ text) × (tail item ++ more ≡ rest)
  parts bytes text rest more item few read small e =
      counted_same (path item) text (tail item ++ more) rest (path_within item small) few (sym (append_assoc (counted_bytes (path item)) (tail item) more) ∙ sym e ∙ read)

  pub other_path : (bytes text rest : List ℕ) → length text < 2 ^ 32 → bytes ≡ counted_bytes text ++ rest → ((item : X) → Is item → path item ≡ text → ⊥)
      → BeginsWithNone Is spelled bytes
  other_path bytes text rest few read differs = record {
    none = λ item more is small e. differs item is (parts bytes text rest more item few read small e).0;
  }

  pub no_tail : (bytes text rest : List ℕ) → length text < 2 ^ 32 → bytes ≡ counted_bytes text ++ rest
      → ((item : X) (more : List ℕ) → Is item → rest ≡ tail item ++ more → ⊥) → BeginsWithNone Is spelled bytes
  no_tail bytes text rest few read differs = record {
    none = λ item more is small e. differs item more is (sym (parts bytes text rest more item few read small e).1);
  }

-- a path and what follows it, one after the other
pub joined : (bytes text rest path tail more : List ℕ) → bytes ≡ counted_bytes text ++ rest → path ≡ text → rest ≡ tail ++ more
    → bytes ≡ (counted_bytes path ++ tail) ++ more
joined bytes text rest path tail more read same left =
    read ∙ ap (λ (x : List ℕ). counted_bytes x ++ rest) (sym same) ∙ ap (λ (x : List ℕ). counted_bytes path ++ x) left ∙ sym (append_assoc (counted_bytes path) tail more)

abbrev seen_tail : SeenFile → List ℕ
seen_tail file = mode_byte file.mode ∷ file.digest

abbrev seen_path : SeenFile → List ℕ
seen_path file = file.path

pub seen_no_path : (bytes : List ℕ) → BeginsWithNoBytes bytes → BeginsWithNone IsSeenFile seen_bytes bytes
seen_no_path = no_path IsSeenFile seen_path seen_tail

pub seen_no_tail : (bytes text rest : List ℕ) → length text < 2 ^ 32 → bytes ≡ counted_bytes text ++ rest → BeginsWithNoMode rest
    → BeginsWithNone IsSeenFile seen_bytes bytes
seen_no_tail bytes text rest few read nothing =
    no_tail IsSeenFile seen_path seen_tail bytes text rest few read (λ file more is e. nothing.none file.mode file.digest more is.digest e)

pub seen_other_path : (bytes text rest : List ℕ) → length text < 2 ^ 32 → bytes ≡ counted_bytes text ++ rest → ¬ IsTreePath text
    → BeginsWithNone IsSeenFile seen_bytes bytes
seen_other_path bytes text rest few read other =
    other_path IsSeenFile seen_path seen_tail bytes text rest few read (λ file is same. other (subst (λ (x : List ℕ). IsTreePath x) same is.path))

abbrev changed_tail : ChangedFile → List ℕ
changed_tail file = now_bytes file.digest

abbrev changed_path : ChangedFile → List ℕ
changed_path file = file.path

pub changed_no_path : (bytes : List ℕ) → BeginsWithNoBytes bytes → BeginsWithNone IsChangedFile changed_bytes bytes
changed_no_path = no_path IsChangedFile changed_path changed_tail

pub changed_no_tail : (bytes text rest : List ℕ) → length text < 2 ^ 32 → bytes ≡ counted_bytes text ++ rest → BeginsWithNoDigest rest
    → BeginsWithNone IsChangedFile changed_bytes bytes
changed_no_tail bytes text rest few read nothing =
    no_tail IsChangedFile changed_path changed_tail bytes text rest few read (λ file more is e. nothing.none file.digest more is.digest e)

pub changed_other_path : (bytes text rest : List ℕ) → length text < 2 ^ 32 → bytes ≡ counted_bytes text ++ rest → ¬ IsTreePath text
    → BeginsWithNone IsChangedFile changed_bytes bytes
changed_other_path bytes text rest few read other =
    other_path IsChangedFile changed_path changed_tail bytes text rest few read (λ file is same. other (subst (λ (x : List ℕ). IsTreePath x) same is.path))
