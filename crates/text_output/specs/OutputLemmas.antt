-- Lemmas on texts that are written one after another.
use Rattle.std.proofs.Common.{◌≡◌, ◌∙◌, ap, sym, subst, refl, append_assoc, ℕ, ◌+◌, ◌<◌, List, [], ◌∷◌, ◌++◌, length, take, drop, get_or, Option, None, Some, Result, Ok, Err}
use Rattle.std.specs.Prelude.{OnErr, OnOk}
use Rattle.std.specs.List.{concat, flat_map}
use Rattle.std.specs.Io.KnownBytes.{Appends, Keeps}
use Rattle.std.proofs.lemmas.List.{append-nil, take_more, take-append-drop}
use Rattle.text_output.specs.Outputs.{HasBeginning, Output}

-- ---- what a writer holds

pub appends-kept : (old mid new : Option (List ℕ)) (bytes : List ℕ) → Appends old mid bytes → Keeps mid new
    → Appends old new bytes
appends-kept None mid new bytes added kept = tt
appends-kept (Some old) None new bytes added kept = absurd added
appends-kept (Some old) (Some mid) None bytes added kept = kept
appends-kept (Some old) (Some mid) (Some new) bytes added kept = kept ∙ added

pub appends-nothing : (held : Option (List ℕ)) → Appends held held []
appends-nothing None = tt
appends-nothing (Some bytes) = sym (append-nil bytes)

pub appends-more : (held mid holds : Option (List ℕ)) (first next : List ℕ) → Appends held mid first
    → Appends mid holds next
    → Appends held holds (first ++ next)
appends-more None mid holds first next one two = tt
appends-more (Some held) None holds first next one two = absurd one
appends-more (Some held) (Some mid) None first next one two = two
appends-more (Some held) (Some mid) (Some holds) first next one two =
    two ∙ ap (λ bytes. bytes ++ next) one ∙ append_assoc held first next

pub keeps-itself : (held : Option (List ℕ)) → Keeps held held
keeps-itself None = tt
keeps-itself (Some bytes) = refl

pub on-err : {A E P : Type 0} (result : Result A E) → P → OnErr result P
on-err (Ok answer) holds = tt
on-err (Err error) holds = holds

-- ---- two texts

pub begun-before : (held holds : Option (List ℕ)) (text more : List ℕ)
    → HasBeginning (record { held = held; holds = holds }) text
    → HasBeginning (record { held = held; holds = holds }) (text ++ more)
begun-before held holds text more begun = record {
  part = begun.part;
  rest = begun.rest ++ more;
  cut = ap (λ whole. whole ++ more) begun.cut ∙ append_assoc begun.part begun.rest more;
  written = begun.written;
}

pub begun-behind : (held mid holds : Option (List ℕ)) (text more : List ℕ) → Appends held mid text
    → HasBeginning (record { held = mid; holds = holds }) more
    → HasBeginning (record { held = held; holds = holds }) (text ++ more)
begun-behind held mid holds text more taken begun = record {
  part = text ++ begun.part;
  rest = begun.rest;
  cut = ap (λ next. text ++ next) begun.cut ∙ sym (append_assoc text begun.part begun.rest);
  written = appends-more held mid holds text begun.part taken begun.written;
}

pub both-on-ok : {A E : Type 0} (result : Result A E) (held mid holds : Option (List ℕ)) (text more : List ℕ)
    → Appends held mid text
    → OnOk result (Appends mid holds more) → OnOk result (Appends held holds (text ++ more))
both-on-ok (Ok done) held mid holds text more taken next = appends-more held mid holds text more taken next
both-on-ok (Err error) held mid holds text more taken next = tt

pub both-on-err : {A E : Type 0} (result : Result A E) (held mid holds : Option (List ℕ)) (text more : List ℕ)
    → Appends held mid text
    → OnErr result (HasBeginning (record { held = mid; holds = holds }) more)
    → OnErr result (HasBeginning (record { held = held; holds = holds }) (text ++ more))
both-on-err (Ok done) held mid holds text more taken next = tt
both-on-err (Err error) held mid holds text more taken next = begun-behind held mid holds text more taken next

-- ---- the texts of items, one after another

module _ {X : Type 0} (text_of : X → List ℕ) where
  texts-append : (items more : List X) → flat_map text_of (items ++ more)
      ≡ flat_map text_of items ++ flat_map text_of more
  texts-append [] more = refl
  texts-append (item ∷ items) more =
      ap (λ text. text_of item ++ text) (texts-append items more)
      ∙ sym (append_assoc (text_of item) (flat_map text_of items) (flat_map text_of more))

  texts-take : (items : List X) (place : ℕ) (d : X) → place < length items
      → flat_map text_of (take (place + 1) items)
      ≡ flat_map text_of (take place items) ++ text_of (get_or items place d)
  texts-take items place d within =
      ap (flat_map text_of) (take_more items place d within)
      ∙ texts-append (take place items) (get_or items place d ∷ [])
      ∙ ap (λ text. flat_map text_of (take place items) ++ text) (append-nil (text_of (get_or items place d)))

  pub texts-written : (held mid holds : Option (List ℕ)) (items : List X) (place : ℕ) (d : X) (item : X)
      → place < length items
      → item ≡ get_or items place d → Appends held mid (flat_map text_of (take place items))
      → Appends mid holds (text_of item)
      → Appends held holds (flat_map text_of (take (place + 1) items))
  texts-written held mid holds items place d item within is taken more =
      subst (λ (bytes : List ℕ). Appends held holds bytes)
      (ap (λ (last : X). flat_map text_of (take place items) ++ text_of last) is
      ∙ sym (texts-take items place d within))
      (appends-more held mid holds (flat_map text_of (take place items)) (text_of item) taken more)

  pub texts-begun : (held mid holds : Option (List ℕ)) (items : List X) (place : ℕ) (d : X) (item : X)
      → place < length items
      → item ≡ get_or items place d → Appends held mid (flat_map text_of (take place items))
      → HasBeginning (record { held = mid; holds = holds }) (text_of item)
      → HasBeginning (record { held = held; holds = holds }) (flat_map text_of items)
  texts-begun held mid holds items place d item within is taken begun =
      subst (λ (text : List ℕ). HasBeginning (record { held = held; holds = holds }) text)
      (ap (λ (last : X). (flat_map text_of (take place items) ++ text_of last) ++ flat_map text_of
      (drop (place + 1) items)) is
      ∙ ap (λ text. text ++ flat_map text_of (drop (place + 1) items)) (sym (texts-take items place d within))
      ∙ sym (texts-append (take (place + 1) items) (drop (place + 1) items))
      ∙ ap (flat_map text_of) (take-append-drop (place + 1) items))
      (begun-before held holds (flat_map text_of (take place items) ++ text_of item)
      (flat_map text_of (drop (place + 1) items))
      (begun-behind held mid holds (flat_map text_of (take place items)) (text_of item) taken begun))

abbrev pub itself : List ℕ → List ℕ
itself text = text

pub concat-texts : (texts : List (List ℕ)) → concat texts ≡ flat_map itself texts
concat-texts [] = refl
concat-texts (text ∷ texts) = ap (λ more. text ++ more) (concat-texts texts)

abbrev at : Option (List ℕ) → Option (List ℕ) → Output
at held holds = record { held = held; holds = holds }

pub reports-written : (held mid holds : Option (List ℕ)) (reports : List (List ℕ)) (place : ℕ) (d report : List ℕ)
    → place < length reports
    → report ≡ get_or reports place d → Appends held mid (concat (take place reports)) → Appends mid holds report
    → Appends held holds (concat (take (place + 1) reports))
reports-written held mid holds reports place d report within is taken more =
    subst (λ (text : List ℕ). Appends held holds text) (sym (concat-texts (take (place + 1) reports)))
    (texts-written itself held mid holds reports place d report within is
    (subst (λ (text : List ℕ). Appends held mid text) (concat-texts (take place reports)) taken) more)

pub reports-begun : (held mid holds : Option (List ℕ)) (reports : List (List ℕ)) (place : ℕ) (d report : List ℕ)
    → place < length reports
    → report ≡ get_or reports place d → Appends held mid (concat (take place reports))
    → HasBeginning (at mid holds) report
    → HasBeginning (at held holds) (concat reports)
reports-begun held mid holds reports place d report within is taken begun =
    subst (λ (text : List ℕ). HasBeginning (at held holds) text) (sym (concat-texts reports))
    (texts-begun itself held mid holds reports place d report within is
    (subst (λ (text : List ℕ). Appends held mid text) (concat-texts (take place reports)) taken) begun)
