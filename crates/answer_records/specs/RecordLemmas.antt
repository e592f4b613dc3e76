-- Lemmas: a record determines the value that it was made of.
use Rattle.std.specs.Prelude.{◌≡◌, ℕ, ◌+◌, ◌<◌, ◌≤◌, ◌^◌, List, [], ◌∷◌, ◌++◌, length, Option, None, Some, IfSome, refl}
use Rattle.std.specs.List.{AllByRecursion, flat_map}
use Rattle.std.specs.Str.{IsUtf8}
use Rattle.std.specs.Int.{w32, from_be_bytes}
use Rattle.std.proofs.Common.{sym, ap, subst, ◌∙◌, append_assoc, get_or, arith}
use Rattle.std.proofs.lemmas.List.{length-append}
use Rattle.std.proofs.lemmas.Nat.{from_be_bytes-to_be_bytes_4}
use Rattle.std.specs.Option.{option_map}
use Rattle.sha2.specs.Sha256.{sha256}
use Rattle.sha2.proofs.Facts256.{length-sha256}
use Rattle.hook_base.specs.declared.change.Change.{Change}
use Rattle.hook_base.specs.declared.file.File.{File}
use Rattle.hook_base.specs.declared.file.Mode.{Mode}
use Rattle.hook_base.specs.declared.file.Mode.TheVariants.{Plain, Executable}
use Rattle.answer_records.specs.declared.changed_file.ChangedFile.{ChangedFile}
use Rattle.answer_records.specs.declared.seen_file.SeenFile.{SeenFile}
use Rattle.answer_records.specs.Items.{IsToldApart}
use Rattle.answer_records.specs.Limits.{IsStorable, most_record_bytes}
use Rattle.answer_records.specs.Reading.{HaveDigests, HaveNewDigests, HaveOneRecord, IsChangedFile, IsChangesRecord, IsDigest, IsListOf, IsSeenFile, IsSeenRecord, IsWordsRecord, NamesItsContents, NamesItsNow, TellsItsValue}
use Rattle.answer_records.specs.Records.{number_bytes, counted_bytes, list_bytes, mode_byte, now_bytes, seen_bytes, changed_bytes, words_record, seen_record, changes_record, seen_of_files, changed_of_changes}

-- ---- fields

-- equal lists, each put together of three lists, stay equal if the last two are put together first
pub regrouped : {X : Type 0} (a b rest c d more : List X) → (a ++ b) ++ rest ≡ (c ++ d) ++ more
    → a ++ (b ++ rest) ≡ c ++ (d ++ more)
regrouped a b rest c d more e = sym (append_assoc a b rest) ∙ e ∙ append_assoc c d more

-- two lists whose first parts have the same length
fronts_same : {X : Type 0} (xs ys rest more : List X) → length xs ≡ length ys → xs ++ rest ≡ ys ++ more
    → (xs ≡ ys) × (rest ≡ more)
fronts_same [] [] rest more len e = (refl, e)
fronts_same [] (y ∷ ys) rest more len e = absurd (omega arith)
fronts_same (x ∷ xs) [] rest more len e = absurd (omega arith)
fronts_same (x ∷ xs) (y ∷ ys) rest more len e =
    let tails : xs ++ rest ≡ ys ++ more = cc in
    let first : x ≡ y = cc in
    let rests = fronts_same xs ys rest more (omega arith) tails in
    let others = rests.0 in
    (cc, rests.1)

pub number_length : (number : ℕ) → length (number_bytes number) ≡ 4
unfolding number_bytes
number_length number = refl

number_again : (number : ℕ) → number < 2 ^ 32 → from_be_bytes w32 (number_bytes number) ≡ number
unfolding number_bytes
number_again number small = from_be_bytes-to_be_bytes_4 number small

pub number_same : (m n : ℕ) (rest more : List ℕ) → m < 2 ^ 32 → n < 2 ^ 32
    → number_bytes m ++ rest ≡ number_bytes n ++ more → (m ≡ n) × (rest ≡ more)
number_same m n rest more small other e =
    let parts = fronts_same (number_bytes m) (number_bytes n) rest more (number_length m ∙ sym (number_length n)) e in
    (sym (number_again m small) ∙ ap (from_be_bytes w32) parts.0 ∙ number_again n other, parts.1)

pub counted_same : (text other rest more : List ℕ) → length text < 2 ^ 32 → length other < 2 ^ 32
    → counted_bytes text ++ rest ≡ counted_bytes other ++ more
    → (text ≡ other) × (rest ≡ more)
counted_same text other rest more small second e =
    let whole = regrouped (number_bytes (length text)) text rest (number_bytes (length other)) other more e in
    let numbers = number_same (length text) (length other) (text ++ rest) (other ++ more) small second whole in
    fronts_same text other rest more numbers.0 numbers.1

pub counted_length : (text : List ℕ) → length (counted_bytes text) ≡ 4 + length text
counted_length text = omega (arith, length-append (number_bytes (length text)) text, number_length (length text))

-- a text after its length, and more
pub tail_length : (text tail : List ℕ) → length (counted_bytes text ++ tail) ≡ 4 + length text + length tail
tail_length text tail = omega (arith, length-append (counted_bytes text) tail, counted_length text)

-- ---- items

pub words_told_apart_of : (Is : List ℕ → Type 0) → IsToldApart Is counted_bytes
words_told_apart_of Is = record {
  same = λ item other rest more _ _ small second e.
      counted_same item other rest more (omega (arith, counted_length item)) (omega (arith, counted_length other)) e;
  some = λ item. omega (arith, counted_length item);
}

pub words_told_apart : IsToldApart IsUtf8 counted_bytes
words_told_apart = words_told_apart_of IsUtf8

mode_same : (mode other : Mode) → mode_byte mode ≡ mode_byte other → mode ≡ other
mode_same Plain Plain e = refl
mode_same Plain Executable e = absurd (omega arith)
mode_same Executable Plain e = absurd (omega arith)
mode_same Executable Executable e = refl

-- the bytes of two files, each put together of a path and what follows it
parts_same : (path other tail second rest more : List ℕ) → length path < 2 ^ 32 → length other < 2 ^ 32
    → (counted_bytes path ++ tail) ++ rest ≡ (counted_bytes other ++ second) ++ more
    → (path ≡ other) × (tail ++ rest ≡ second ++ more)
parts_same path other tail second rest more small next e =
    counted_same path other (tail ++ rest) (second ++ more) small next
    (regrouped (counted_bytes path) tail rest (counted_bytes other) second more e)

abbrev seen_with : List ℕ → Mode → List ℕ → SeenFile
seen_with path mode digest = record { path = path; mode = mode; digest = digest }

same_seen : (p q : List ℕ) (m n : Mode) (d e : List ℕ) → p ≡ q → m ≡ n → d ≡ e → seen_with p m d ≡ seen_with q n e
same_seen p q m n d e path mode digest = cc

seen_same : (file other : SeenFile) (rest more : List ℕ) → IsDigest file.digest → IsDigest other.digest
    → IsStorable (seen_bytes file)
    → IsStorable (seen_bytes other) → seen_bytes file ++ rest ≡ seen_bytes other ++ more
    → (file ≡ other) × (rest ≡ more)
seen_same file other rest more digest second small next e =
    let path = tail_length file.path (mode_byte file.mode ∷ file.digest) in
    let other_path = tail_length other.path (mode_byte other.mode ∷ other.digest) in
    let parts =
    parts_same file.path other.path (mode_byte file.mode ∷ file.digest) (mode_byte other.mode ∷ other.digest) rest
    more (omega arith) (omega arith) e in
    let tails =
    fronts_same (mode_byte file.mode ∷ file.digest) (mode_byte other.mode ∷ other.digest) rest more (omega arith)
    parts.1 in
    let marks = tails.0 in
    let mode : mode_byte file.mode ≡ mode_byte other.mode = cc in
    let digests : file.digest ≡ other.digest = cc in (
      same_seen file.path other.path file.mode other.mode file.digest other.digest parts.0
          (mode_same file.mode other.mode mode) digests,
      tails.1,
    )

pub digests_tell_seen : IsToldApart NamesItsContents seen_bytes
digests_tell_seen = record {
  same =
      λ item other rest more is also small second e. seen_same item other rest more is.digest also.digest small second
      e;
  some = λ item. omega (arith, tail_length item.path (mode_byte item.mode ∷ item.digest));
}

now_same : (now other : Option (List ℕ)) (rest more : List ℕ) → IfSome now IsDigest → IfSome other IsDigest
    → now_bytes now ++ rest ≡ now_bytes other ++ more
    → (now ≡ other) × (rest ≡ more)
now_same None None rest more digest second e = (refl, cc)
now_same None (Some d) rest more digest second e = absurd (omega (arith, ap (λ (x : List ℕ). get_or x 0 0) e))
now_same (Some d) None rest more digest second e = absurd (omega (arith, ap (λ (x : List ℕ). get_or x 0 0) e))
now_same (Some d) (Some f) rest more digest second e =
    let tails : d ++ rest ≡ f ++ more = cc in
    let first : length d ≡ 32 = digest in
    let other : length f ≡ 32 = second in
    let parts = fronts_same d f rest more (omega arith) tails in
    (ap Some parts.0, parts.1)

abbrev changed_with : List ℕ → Option (List ℕ) → ChangedFile
changed_with path digest = record { path = path; digest = digest }

same_changed : (p q : List ℕ) (d e : Option (List ℕ)) → p ≡ q → d ≡ e → changed_with p d ≡ changed_with q e
same_changed p q d e path digest = cc

changed_same : (file other : ChangedFile) (rest more : List ℕ) → IfSome file.digest IsDigest
    → IfSome other.digest IsDigest → IsStorable (changed_bytes file)
    → IsStorable (changed_bytes other) → changed_bytes file ++ rest ≡ changed_bytes other ++ more
    → (file ≡ other) × (rest ≡ more)
changed_same file other rest more digest second small next e =
    let path = tail_length file.path (now_bytes file.digest) in
    let other_path = tail_length other.path (now_bytes other.digest) in
    let parts =
    parts_same file.path other.path (now_bytes file.digest) (now_bytes other.digest) rest more (omega arith)
    (omega arith) e in
    let tails = now_same file.digest other.digest rest more digest second parts.1 in
    (same_changed file.path other.path file.digest other.digest parts.0 tails.0, tails.1)

pub digests_tell_changed : IsToldApart NamesItsNow changed_bytes
digests_tell_changed = record {
  same =
      λ item other rest more is also small second e. changed_same item other rest more is.digest also.digest small
      second e;
  some = λ item. omega (arith, tail_length item.path (now_bytes item.digest));
}

-- if `IsToldApart` holds for some items, it holds for fewer of them
pub told_apart_weaker : {X : Type 0} (Is Wider : X → Type 0) (spelling : X → List ℕ) → ((x : X) → Is x → Wider x)
    → IsToldApart Wider spelling → IsToldApart Is spelling
told_apart_weaker Is Wider spelling widen told = record {
  same =
      λ item other rest more is also small second e. told.same item other rest more (widen item is) (widen other also)
      small second e;
  some = told.some;
}

pub seen_told_apart : IsToldApart IsSeenFile seen_bytes
seen_told_apart =
    told_apart_weaker IsSeenFile NamesItsContents seen_bytes (λ file is. record { digest = is.digest })
    digests_tell_seen

pub changes_told_apart : IsToldApart IsChangedFile changed_bytes
changes_told_apart =
    told_apart_weaker IsChangedFile NamesItsNow changed_bytes (λ file is. record { digest = is.digest })
    digests_tell_changed

-- ---- lists

-- an item that a record may list
pub record Fits {X : Type 0} (Is : X → Type 0) (spelling : X → List ℕ) (item : X) : Type 0 where
  pub is : Is item
  pub storable : IsStorable (spelling item)

pub fits_of_list : {X : Type 0} (Is : X → Type 0) (spelling : X → List ℕ) (items : List X) → AllByRecursion Is items
    → length (flat_map spelling items) ≤ most_record_bytes → AllByRecursion (Fits Is spelling) items
fits_of_list Is spelling [] each small = tt
fits_of_list Is spelling (item ∷ items) each small =
    let parts = length-append (spelling item) (flat_map spelling items) in (
      record { is = each.0; storable = omega (arith, parts, small) },
      fits_of_list Is spelling items each.1
          (omega (arith, parts, small)),
    )

pub at_most_bytes : {X : Type 0} (Is : X → Type 0) (spelling : X → List ℕ) → IsToldApart Is spelling → (items : List X)
    → length items ≤ length (flat_map spelling items)
at_most_bytes Is spelling told [] = omega arith
at_most_bytes Is spelling told (item ∷ items) =
    omega (
      arith,
      at_most_bytes Is spelling told items,
      told.some item,
      length-append (spelling item)
          (flat_map spelling items),
    )

-- a record lists no more items than it has bytes
pub record IsWithin {X : Type 0} (spelling : X → List ℕ) (items : List X) : Type 0 where
  pub few : length items ≤ most_record_bytes
  pub small : length (flat_map spelling items) ≤ most_record_bytes

pub count_of_list : {X : Type 0} (Is : X → Type 0) (spelling : X → List ℕ) → IsToldApart Is spelling → (items : List X)
    → IsStorable (list_bytes spelling items)
    → IsWithin spelling items
count_of_list Is spelling told items storable =
    let parts = length-append (number_bytes (length items)) (flat_map spelling items) in
    record {
      few = omega (arith, parts, storable, at_most_bytes Is spelling told items);
      small = omega
          (arith, parts, storable);
    }

cons_same : {X : Type 0} (item other : X) (items others : List X) → item ≡ other → items ≡ others
    → (item ∷ items) ≡ (other ∷ others)
cons_same item other items others first rest = cc

-- lists of the same length whose spellings begin the same are the same
pub items_same : {X : Type 0} (Is : X → Type 0) (spelling : X → List ℕ) → IsToldApart Is spelling
    → (items others : List X) (rest more : List ℕ)
    → AllByRecursion (Fits Is spelling) items → AllByRecursion (Fits Is spelling) others → length items ≡ length others
    → flat_map spelling items ++ rest ≡ flat_map spelling others ++ more → (items ≡ others) × (rest ≡ more)
items_same Is spelling told [] [] rest more fits also len e = (refl, e)
items_same Is spelling told [] (other ∷ others) rest more fits also len e = absurd (omega arith)
items_same Is spelling told (item ∷ items) [] rest more fits also len e = absurd (omega arith)
items_same Is spelling told (item ∷ items) (other ∷ others) rest more fits also len e =
    let whole =
    regrouped (spelling item) (flat_map spelling items) rest (spelling other) (flat_map spelling others) more e in
    let first =
    told.same item other (flat_map spelling items ++ rest) (flat_map spelling others ++ more) fits.0.is also.0.is
    fits.0.storable also.0.storable whole in
    let others_too = items_same Is spelling told items others rest more fits.1 also.1 (omega arith) first.1 in
    (cons_same item other items others first.0 others_too.0, others_too.1)

-- the same bytes have the same items
pub list_same : {X : Type 0} (Is : X → Type 0) (spelling : X → List ℕ) → IsToldApart Is spelling
    → (items others : List X) → AllByRecursion Is items
    → AllByRecursion Is others → IsStorable (list_bytes spelling items)
    → list_bytes spelling items ≡ list_bytes spelling others → items ≡ others
list_same Is spelling told items others each also storable e =
    let within = count_of_list Is spelling told items storable in
    let also_within = count_of_list Is spelling told others (subst (λ (bytes : List ℕ). IsStorable bytes) e storable) in
    let numbers =
    number_same (length items) (length others) (flat_map spelling items) (flat_map spelling others)
    (omega (arith, within.few)) (omega (arith, also_within.few)) e in
    let padded : flat_map spelling items ++ [] ≡ flat_map spelling others ++ [] =
    ap (λ (x : List ℕ). x ++ []) numbers.1 in
    (items_same Is spelling told items others [] [] (fits_of_list Is spelling items each within.small)
    (fits_of_list Is spelling others also also_within.small) numbers.0 padded).0

pub within_of_list : {X : Type 0} (Is : X → Type 0) (spelling : X → List ℕ) → IsToldApart Is spelling
    → (items : List X) (bytes : List ℕ) → IsListOf Is spelling items bytes
    → IsWithin spelling items
within_of_list Is spelling told items bytes listed =
    count_of_list Is spelling told items (subst (λ (all : List ℕ). IsStorable all) listed.spelled listed.storable)

-- bytes are the record of one list of items at most
pub one_value : {X : Type 0} (Is : X → Type 0) (spelling : X → List ℕ) → IsToldApart Is spelling
    → (items others : List X) (bytes : List ℕ)
    → IsListOf Is spelling items bytes → IsListOf Is spelling others bytes → items ≡ others
one_value Is spelling told items others bytes one other =
    list_same Is spelling told items others one.each other.each
    (subst (λ (all : List ℕ). IsStorable all) one.spelled one.storable) (sym one.spelled ∙ other.spelled)

pub all_hold : {X : Type 0} (Is : X → Type 0) → ((x : X) → Is x) → (items : List X) → AllByRecursion Is items
all_hold Is holds [] = tt
all_hold Is holds (item ∷ items) = (holds item, all_hold Is holds items)

-- ---- records

pub words_told : (words others : List (List ℕ)) → HaveOneRecord words_record words others → words ≡ others
unfolding words_record
words_told words others one =
    let Is : List ℕ → Type 0 = λ _. Unit {0} in
    list_same Is counted_bytes (words_told_apart_of Is) words others (all_hold Is (λ _. tt) words)
    (all_hold Is (λ _. tt) others) one.storable one.same

pub seen_told : (files others : List SeenFile) → HaveDigests files → HaveDigests others
    → HaveOneRecord seen_record files others → files ≡ others
unfolding seen_record
seen_told files others each also one =
    list_same NamesItsContents seen_bytes digests_tell_seen files others each also one.storable one.same

pub changes_told : (files others : List ChangedFile) → HaveNewDigests files → HaveNewDigests others
    → HaveOneRecord changes_record files others → files ≡ others
unfolding changes_record
changes_told files others each also one =
    list_same NamesItsNow changed_bytes digests_tell_changed files others each also one.storable one.same

seen_names : (files : List File) → HaveDigests (seen_of_files files)
seen_names [] = tt
seen_names (file ∷ files) = (record { digest = length-sha256 file.entry.bytes }, seen_names files)

now_names : (now : Option (List ℕ)) → IfSome (option_map sha256 now) IsDigest
now_names None = tt
now_names (Some bytes) = length-sha256 bytes

changed_names : (changes : List Change) → HaveNewDigests (changed_of_changes changes)
changed_names [] = tt
changed_names (change ∷ changes) = (record { digest = now_names change.now }, changed_names changes)

pub files_told : (files others : List File) → HaveOneRecord seen_record (seen_of_files files) (seen_of_files others)
    → seen_of_files files ≡ seen_of_files others
files_told files others = seen_told (seen_of_files files) (seen_of_files others) (seen_names files) (seen_names others)

pub changes_of_told : (changes others : List Change)
    → HaveOneRecord changes_record (changed_of_changes changes) (changed_of_changes others)
    → changed_of_changes changes ≡ changed_of_changes others
changes_of_told changes others =
    changes_told (changed_of_changes changes) (changed_of_changes others) (changed_names changes) (changed_names others)

pub one_words : TellsItsValue IsWordsRecord
one_words words others bytes one other = one_value IsUtf8 counted_bytes words_told_apart words others bytes one other

pub one_seen : TellsItsValue IsSeenRecord
one_seen files others bytes one other =
    one_value IsSeenFile seen_bytes seen_told_apart files others bytes one.listed other.listed

pub one_changes : TellsItsValue IsChangesRecord
one_changes files others bytes one other =
    one_value IsChangedFile changed_bytes changes_told_apart files others bytes one.listed other.listed
