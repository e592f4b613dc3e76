-- Lemmas: a file has the tags that have a reason.
use Rattle.std.proofs.Common.{◌≡◌, ℕ, Bool, true, false, List, [], ◌∷◌, ◌++◌, refl, sym, ◌∙◌, inl, inr}
use Rattle.std.specs.Prelude.{◌||◌, ◌⊎◌, if◌then◌else◌}
use Rattle.std.specs.Str.{bytes_eq}
use Rattle.std.proofs.lemmas.List.Folds.{list_any-append}
use Rattle.std.proofs.Math.Bool.{or-true, or-false}
use Rattle.hook_base.specs.declared.file.FileEntry.{FileEntry}
use Rattle.file_tags.specs.TagTables.{or_else}
use Rattle.file_tags.specs.FileTags.{has_tag, mode_tags, name_of, name_tags, extension_tags, script_tags, told_tags, tell_encoding, encoding_of, content_tags, tags_of_file}
use Rattle.file_tags.specs.Reasons.{Reason, by_mode, by_name, by_extension, by_first_line, by_bytes}

-- ---- a tag of joined lists

or_cases : (a b : Bool) → (a || b) ≡ true → (a ≡ true) ⊎ (b ≡ true)
or_cases true b h = inl refl
or_cases false b h = inr h

join_cases : (tag : List ℕ) (xs ys : List (List ℕ)) → has_tag tag (xs ++ ys) ≡ true → (has_tag tag xs ≡ true) ⊎ (has_tag tag ys ≡ true)
join_cases tag xs ys h = or_cases (has_tag tag xs) (has_tag tag ys) (sym (list_any-append (λ other. bytes_eq other tag) xs ys) ∙ h)

has_left : (tag : List ℕ) (xs ys : List (List ℕ)) → has_tag tag xs ≡ true → has_tag tag (xs ++ ys) ≡ true
has_left tag xs ys h = list_any-append (λ other. bytes_eq other tag) xs ys ∙ rw h refl

has_right : (tag : List ℕ) (xs ys : List (List ℕ)) → has_tag tag ys ≡ true → has_tag tag (xs ++ ys) ≡ true
has_right tag xs ys h = list_any-append (λ other. bytes_eq other tag) xs ys ∙ rw h (or-true (has_tag tag xs))

else_cases : (tag : List ℕ) (xs ys : List (List ℕ)) → has_tag tag (or_else xs ys) ≡ true → (has_tag tag xs ≡ true) ⊎ ((xs ≡ []) × (has_tag tag ys ≡ true))
else_cases tag [] ys h = inr (refl, h)
else_cases tag (x ∷ xs) ys h = inl h

has_else : (tag : List ℕ) (xs ys : List (List ℕ)) → has_tag tag xs ≡ true → has_tag tag (or_else xs ys) ≡ true
has_else tag [] ys h = absurd (cc)
has_else tag (x ∷ xs) ys h = h

has_other : (tag : List ℕ) (xs ys : List (List ℕ)) → xs ≡ [] → has_tag tag ys ≡ true → has_tag tag (or_else xs ys) ≡ true
has_other tag [] ys none h = h
has_other tag (x ∷ xs) ys none h = absurd (cc)

content_cases : (tag : List ℕ) (told : List (List ℕ)) (bytes : List ℕ) → has_tag tag (content_tags told bytes) ≡ true → (tell_encoding told ≡ false) × (bytes_eq (encoding_of bytes) tag ≡ true)
content_cases tag told bytes =
    elim (tell_encoding told) as (λ b. has_tag tag (if b then [] else encoding_of bytes ∷ []) ≡ true → (b ≡ false) × (bytes_eq (encoding_of bytes) tag ≡ true)) [
      | true ↦ λ h. absurd (cc)
      | false ↦ λ h. (refl, sym (or-false (bytes_eq (encoding_of bytes) tag)) ∙ h)
    ]

has_content : (tag : List ℕ) (told : List (List ℕ)) (bytes : List ℕ) → tell_encoding told ≡ false → bytes_eq (encoding_of bytes) tag ≡ true → has_tag tag (content_tags told bytes) ≡ true
has_content tag told bytes untold same =
    elim (tell_encoding told) as (λ b. b ≡ false → has_tag tag (if b then [] else encoding_of bytes ∷ []) ≡ true) [
      | true ↦ λ h. absurd (cc)
      | false ↦ λ h. rw same refl
    ] untold

-- ---- both ways

told_reason : (tag path : List ℕ) (entry : FileEntry) → has_tag tag (told_tags (name_of path) entry) ≡ true → Reason tag path entry
told_reason tag path entry h =
    elim (else_cases tag (name_tags (name_of path) ++ extension_tags (name_of path)) (script_tags entry.mode entry.bytes) h) [
      | inl known ↦ elim (join_cases tag (name_tags (name_of path)) (extension_tags (name_of path)) known) [ inl name ↦ by_name name | inr extension ↦ by_extension extension ]
      | inr script ↦ by_first_line script.0 script.1
    ]

pub reason_of : (tag path : List ℕ) (entry : FileEntry) → has_tag tag (tags_of_file path entry) ≡ true → Reason tag path entry
reason_of tag path entry h =
    let told = told_tags (name_of path) entry in
    elim (join_cases tag (mode_tags entry.mode ++ told) (content_tags told entry.bytes) h) [
      | inl first ↦ elim (join_cases tag (mode_tags entry.mode) told first) [ inl mode ↦ by_mode mode | inr other ↦ told_reason tag path entry other ]
      | inr content ↦ let parts = content_cases tag told entry.bytes content in by_bytes parts.0 parts.1
    ]

has_told : (tag path : List ℕ) (entry : FileEntry) → has_tag tag (told_tags (name_of path) entry) ≡ true → has_tag tag (tags_of_file path entry) ≡ true
has_told tag path entry h =
    let told = told_tags (name_of path) entry in
    has_left tag (mode_tags entry.mode ++ told) (content_tags told entry.bytes) (has_right tag (mode_tags entry.mode) told h)

pub has_by_reason : (tag path : List ℕ) (entry : FileEntry) → Reason tag path entry → has_tag tag (tags_of_file path entry) ≡ true
has_by_reason tag path entry (by_mode mode) =
    let told = told_tags (name_of path) entry in
    has_left tag (mode_tags entry.mode ++ told) (content_tags told entry.bytes) (has_left tag (mode_tags entry.mode) told mode)
has_by_reason tag path entry (by_name name) =
    has_told tag path entry (has_else tag (name_tags (name_of path) ++ extension_tags (name_of path)) (script_tags entry.mode entry.bytes)
    (has_left tag (name_tags (name_of path)) (extension_tags (name_of path)) name))
has_by_reason tag path entry (by_extension extension) =
    has_told tag path entry (has_else tag (name_tags (name_of path) ++ extension_tags (name_of path)) (script_tags entry.mode entry.bytes)
    (has_right tag (name_tags (name_of path)) (extension_tags (name_of path)) extension))
has_by_reason tag path entry (by_first_line unknown script) =
    has_told tag path entry (has_other tag (name_tags (name_of path) ++ extension_tags (name_of path)) (script_tags entry.mode entry.bytes) unknown script)
has_by_reason tag path entry (by_bytes untold same) =
    let told = told_tags (name_of path) entry in
    has_right tag (mode_tags entry.mode ++ told) (content_tags told entry.bytes) (has_content tag told entry.bytes untold same)
