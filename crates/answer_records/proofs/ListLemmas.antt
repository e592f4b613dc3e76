-- A list of items as a record: what is read of it so far, and that no other list has the same bytes.
use Rattle.std.specs.Prelude.{◌≡◌, ℕ, zero, suc, ◌+◌, ◌-◌, ◌<◌, ◌≤◌, ◌^◌, List, [], ◌∷◌, ◌++◌, length, take}
use Rattle.std.specs.List.{AllByRecursion, flat_map}
use Rattle.std.proofs.Common.{Bool, false, eqb, sym, ap, ap₂, subst, ◌∙◌, append_assoc, get_or, arith}
use Rattle.std.proofs.lemmas.List.{length-append, append-nil, take_all, take_more}
use Rattle.std.proofs.lemmas.Bool.{false≢true}
use Rattle.std.proofs.lemmas.List.Concat.{flat_map-append}
use Rattle.std.specs.declared.cmp.Ordering.{Ordering}
use Rattle.std.specs.declared.cmp.Ordering.TheVariants.{Less}
use Rattle.hook_base.specs.Rising.{IsRisingBy, path_cmp}
use Rattle.hook_base.specs.RisingLemmas.{rising_pair}
use Rattle.answer_records.specs.declared.record_fault.RecordFault.{RecordFault}
use Rattle.answer_records.specs.declared.record_fault.RecordFault.TheVariants.{TooLarge, OutOfMemory}
use Rattle.answer_records.specs.declared.unread.Unread.{Unread}
use Rattle.answer_records.specs.declared.unread.Unread.TheVariants as unread
use Rattle.answer_records.specs.Items.{BeginsWithNone, HasNoValue, IsCountRefusal, IsToldApart, IsUnread}
use Rattle.answer_records.specs.Limits.{IsStorable, most_record_bytes}
use Rattle.answer_records.specs.Reading.{IsListOf, IsRecordRefusal, IsRisingListOf}
use Rattle.answer_records.specs.RecordLemmas.{number_length, number_same, Fits, at_most_bytes, fits_of_list, items_same, one_value, regrouped, within_of_list}
use Rattle.answer_records.specs.Records.{number_bytes, list_bytes}

-- ---- refusals

-- what is too large with less, is too large with more
pub larger : (bytes more : List ℕ) (fault : RecordFault) → length bytes ≤ length more → IsRecordRefusal bytes fault → IsRecordRefusal more fault
larger bytes more TooLarge longer refused = omega arith
larger bytes more OutOfMemory longer refused = tt

pub unread_weaker : (none other : Type 0) (u : Unread) → (none → other) → IsUnread none u → IsUnread other u
unread_weaker none other unread.NoRecord to is = to is
unread_weaker none other unread.OutOfMemory to is = tt

-- The items are read so far, of so many, and these bytes are left.
pub record IsReadUpTo {X : Type 0} (Is : X → Type 0) (spelling : X → List ℕ) (bytes : List ℕ) (count : ℕ) (items : List X) (rest : List ℕ) : Type 0 where
  pub each : AllByRecursion Is items
  pub spelled : bytes ≡ number_bytes count ++ (flat_map spelling items ++ rest)

module _ {X : Type 0} (Is : X → Type 0) (spelling : X → List ℕ) (told : IsToldApart Is spelling) where
  -- ---- writing

  -- more items than a record has bytes
  pub too_many : (items : List X) (fault : RecordFault) → IsCountRefusal (length items) fault → IsRecordRefusal (list_bytes spelling items) fault
  too_many items TooLarge many =
      omega (arith, at_most_bytes Is spelling told items, length-append (number_bytes (length items)) (flat_map spelling items))
  too_many items OutOfMemory many = tt

  grown : (items : List X) (index : ℕ) (default : X) → index < length items
      → length (flat_map spelling (take index items)) + length (spelling (get_or items index default)) ≤ length (flat_map spelling items)
  grown [] index default within = absurd (omega arith)
  grown (item ∷ items) zero default within = omega (arith, length-append (spelling item) (flat_map spelling items))
  grown (item ∷ items) (suc index) default within =
      omega (arith, grown items index default (omega arith), length-append (spelling item) (flat_map spelling items), length-append (spelling item) (flat_map spelling (take index items)))

  -- where the front is too large with one more item, the whole is
  pub too_large : (items : List X) (index : ℕ) (item : X) (draft : List ℕ) (fault : RecordFault) → index < length items → item ≡ get_or items index item
      → draft ≡ number_bytes (length items) ++ flat_map spelling (take index items) → IsRecordRefusal (draft ++ spelling item) fault → IsRecordRefusal (list_bytes spelling items) fault
  too_large items index item draft fault within is written refused =
      let front = flat_map spelling (take index items) in
      let number = number_bytes (length items) in
      let length_of : X → ℕ = λ x. length (spelling x) in
      let room : length front + length (spelling item) ≤ length (flat_map spelling items) =
      subst (λ (n : ℕ). length front + n ≤ length (flat_map spelling items)) (sym (ap length_of is)) (grown items index item within) in
      let whole = length-append number (flat_map spelling items) in
      larger (draft ++ spelling item) (list_bytes spelling items) fault (omega (arith, room, whole, ap length written, length-append number front, length-append draft (spelling item))) refused

  pub all_push : (items : List X) (item : X) → AllByRecursion Is items → Is item → AllByRecursion Is (items ++ item ∷ [])
  all_push [] item each is = (is, tt)
  all_push (first ∷ items) item each is = (each.0, all_push items item each.1 is)

  front_more : (items : List X) (index : ℕ) (item : X) → index < length items → item ≡ get_or items index item → take (index + 1) items ≡ take index items ++ item ∷ []
  front_more items index item within is = take_more items index item within ∙ ap (λ (x : X). take index items ++ x ∷ []) (sym is)

  pub each_more : (items : List X) (index : ℕ) (item : X) → index < length items → item ≡ get_or items index item → AllByRecursion Is (take index items) → Is item
      → AllByRecursion Is (take (index + 1) items)
  each_more items index item within place each is =
      subst (λ (some : List X). AllByRecursion Is some) (sym (front_more items index item within place)) (all_push (take index items) item each is)

  pub written_more : (items : List X) (index : ℕ) (item : X) (front draft next : List ℕ) → index < length items → item ≡ get_or items index item
      → draft ≡ front ++ flat_map spelling (take index items) → next ≡ draft ++ spelling item → next ≡ front ++ flat_map spelling (take (index + 1) items)
  written_more items index item front draft next within place so_far added =
      let one : flat_map spelling (item ∷ []) ≡ spelling item = append-nil (spelling item) in
      let all : flat_map spelling (take (index + 1) items) ≡ flat_map spelling (take index items) ++ spelling item =
      ap (flat_map spelling) (front_more items index item within place) ∙ flat_map-append spelling (take index items) (item ∷ [])
      ∙ ap (λ (x : List ℕ). flat_map spelling (take index items) ++ x) one in
      added ∙ ap (λ (x : List ℕ). x ++ spelling item) so_far ∙ append_assoc front (flat_map spelling (take index items)) (spelling item) ∙ ap (λ (x : List ℕ). front ++ x) (sym all)

  pub is_written : (items : List X) (index : ℕ) (draft : List ℕ) → length items ≤ index → IsStorable draft
      → draft ≡ number_bytes (length items) ++ flat_map spelling (take index items) → AllByRecursion Is (take index items) → IsListOf Is spelling items draft
  is_written items index draft over storable written each =
      let all = take_all index items over in
      record {
        each = subst (λ (some : List X). AllByRecursion Is some) all each;
        spelled = written ∙ ap (λ (some : List X). number_bytes (length items) ++ flat_map spelling some) all;
        storable = storable;
      }

  -- ---- reading

  pub begins : (bytes : List ℕ) (count : ℕ) (rest : List ℕ) → bytes ≡ number_bytes count ++ rest → IsReadUpTo Is spelling bytes count [] rest
  begins bytes count rest e = record { each = tt; spelled = e }

  pub goes_on : (bytes : List ℕ) (count : ℕ) (items : List X) (rest : List ℕ) (item : X) (after : List ℕ) → IsReadUpTo Is spelling bytes count items rest → Is item
      → rest ≡ spelling item ++ after → IsReadUpTo Is spelling bytes count (items ++ item ∷ []) after
  goes_on bytes count items rest item after so_far is e = record {
    each = all_push items item so_far.each is;
    spelled =
        let one : flat_map spelling (item ∷ []) ≡ spelling item = append-nil (spelling item) in
        let joined : flat_map spelling (items ++ item ∷ []) ≡ flat_map spelling items ++ spelling item =
        flat_map-append spelling items (item ∷ []) ∙ ap (λ (x : List ℕ). flat_map spelling items ++ x) one in
        let regrouped : flat_map spelling items ++ rest ≡ flat_map spelling (items ++ item ∷ []) ++ after =
        ap (λ (x : List ℕ). flat_map spelling items ++ x) e ∙ sym (append_assoc (flat_map spelling items) (spelling item) after) ∙ ap (λ (x : List ℕ). x ++ after) (sym joined) in
        so_far.spelled ∙ ap (λ (x : List ℕ). number_bytes count ++ x) regrouped;
  }

  fits_so_far : (bytes : List ℕ) (count : ℕ) (items : List X) (rest : List ℕ) → IsStorable bytes → IsReadUpTo Is spelling bytes count items rest
      → AllByRecursion (Fits Is spelling) items
  fits_so_far bytes count items rest storable so_far =
      fits_of_list Is spelling items so_far.each (omega (
        arith,
        ap length so_far.spelled,
        length-append (number_bytes count) (flat_map spelling items ++ rest),
        length-append (flat_map spelling items)
            rest,
      ))

  -- some further item would stand at the front of what is left
  none_more : (items others : List X) (rest more : List ℕ) → AllByRecursion (Fits Is spelling) items → AllByRecursion (Fits Is spelling) others
      → length items < length others → BeginsWithNone Is spelling rest → flat_map spelling items ++ rest ≡ flat_map spelling others ++ more → ⊥
  none_more items [] rest more fits also fewer none e = absurd (omega arith)
  none_more [] (other ∷ others) rest more fits also fewer none e =
      none.none other (flat_map spelling others ++ more) also.0.is also.0.storable (e ∙ append_assoc (spelling other) (flat_map spelling others) more)
  none_more (item ∷ items) (other ∷ others) rest more fits also fewer none e =
      let whole = regrouped (spelling item) (flat_map spelling items) rest (spelling other) (flat_map spelling others) more e in
      let first = told.same item other (flat_map spelling items ++ rest) (flat_map spelling others ++ more) fits.0.is also.0.is fits.0.storable also.0.storable whole in
      none_more items others rest more fits.1 also.1 (omega arith) none first.1

  -- what other items have these bytes are as many, and go on with what is left
  others_left : (bytes : List ℕ) (count : ℕ) (items others : List X) (rest : List ℕ) → count < 2 ^ 32 → IsReadUpTo Is spelling bytes count items rest
      → IsListOf Is spelling others bytes → (count ≡ length others) × (flat_map spelling items ++ rest ≡ flat_map spelling others ++ [])
  others_left bytes count items others rest small so_far listed =
      let within = within_of_list Is spelling told others bytes listed in
      let numbers = number_same count (length others) (flat_map spelling items ++ rest) (flat_map spelling others) small (omega (arith, within.few)) (sym so_far.spelled ∙ listed.spelled) in
      (numbers.0, numbers.1 ∙ sym (append-nil (flat_map spelling others)))

  pub no_next : (bytes : List ℕ) (count : ℕ) (items : List X) (rest : List ℕ) → IsStorable bytes → count < 2 ^ 32 → length items < count
      → IsReadUpTo Is spelling bytes count items rest → BeginsWithNone Is spelling rest → HasNoValue (IsListOf Is spelling) bytes
  no_next bytes count items rest storable small fewer so_far none = record {
    none = λ others listed.
        let left = others_left bytes count items others rest small so_far listed in
        none_more items others rest [] (fits_so_far bytes count items rest storable so_far) (fits_of_list Is spelling others listed.each (within_of_list Is spelling told others bytes listed).small)
        (omega (arith, left.0)) none left.1;
  }

  pub some_left : (bytes : List ℕ) (count : ℕ) (items : List X) (rest : List ℕ) → IsStorable bytes → count < 2 ^ 32 → length items ≡ count → 0 < length rest
      → IsReadUpTo Is spelling bytes count items rest → HasNoValue (IsListOf Is spelling) bytes
  some_left bytes count items rest storable small all left so_far = record {
    none = λ others listed.
        let same = others_left bytes count items others rest small so_far listed in
        let parts =
        items_same Is spelling told items others rest [] (fits_so_far bytes count items rest storable so_far)
        (fits_of_list Is spelling others listed.each (within_of_list Is spelling told others bytes listed).small) (omega (arith, same.0)) same.1 in
        absurd (omega (arith, left, ap length parts.1));
  }

  pub is_read : (bytes : List ℕ) (count : ℕ) (items : List X) (rest : List ℕ) → IsStorable bytes → length items ≡ count → length rest ≡ 0
      → IsReadUpTo Is spelling bytes count items rest → IsListOf Is spelling items bytes
  is_read bytes count items [] storable all left so_far = record {
    each = so_far.each;
    spelled = so_far.spelled ∙ ap (λ (x : List ℕ). number_bytes count ++ x) (append-nil (flat_map spelling items)) ∙ ap (λ (n : ℕ). number_bytes n ++ flat_map spelling items) (sym all);
    storable = storable;
  }
  is_read bytes count items (byte ∷ rest) storable all left so_far = absurd (omega arith)

  pub too_long : (bytes : List ℕ) → most_record_bytes < length bytes → HasNoValue (IsListOf Is spelling) bytes
  too_long bytes long = record { none = λ others listed. absurd (let fits : length bytes ≤ most_record_bytes = listed.storable in omega (arith, long, fits)) }

  pub too_short : (bytes : List ℕ) → length bytes < 4 → HasNoValue (IsListOf Is spelling) bytes
  too_short bytes short = record {
    none = λ others listed. absurd (omega (arith, short, ap length listed.spelled, length-append (number_bytes (length others)) (flat_map spelling others), number_length (length others)));
  }

  pub not_rising : (path_of : X → List ℕ) (items others : List X) (bytes : List ℕ) → IsListOf Is spelling items bytes → ¬ IsRisingBy path_of items
      → ¬ IsRisingListOf Is spelling path_of others bytes
  not_rising path_of items others bytes listed falls rising =
      falls (subst (λ (all : List X). IsRisingBy path_of all) (one_value Is spelling told others items bytes rising.listed listed) rising.rising)

-- what isn't empty
pub nonempty : (rest : List ℕ) (is_empty : Bool) → is_empty ≡ eqb (length rest) 0 → is_empty ≡ false → 0 < length rest
nonempty [] is_empty e f = absurd (false≢true (sym f ∙ e))
nonempty (byte ∷ rest) is_empty e f = omega arith

-- the order of two paths in a row, where the paths rise
pub rises_there : {X : Type 0} (place : X → List ℕ) (items : List X) (index : ℕ) (first second : X) (one two : List ℕ) (order : Ordering) → 0 < index → index < length items
    → one ≡ place (get_or items (index - 1) first) → two ≡ place (get_or items index second) → order ≡ path_cmp one two → IsRisingBy place items → order ≡ Less
rises_there place items index first second one two order some within one_is two_is is rising =
    let next : suc (index - 1) ≡ index = omega arith in
    is ∙ ap₂ path_cmp one_is two_is ∙ (rising_pair place items (index - 1) index first second next within rising).is_less
