-- Lemmas: every file has the tag `file`.
use Rattle.std.proofs.Common.{◌≡◌, ℕ, true, IsTrue, List, [], ◌∷◌, ◌++◌, codes, refl, sym, subst}
use Rattle.std.proofs.lemmas.Bool.{and_parts}
use Rattle.std.specs.Cmp.Lexicographic.{bytes_decides}
use Rattle.std.specs.Str.{bytes_eq}
use Rattle.hook_base.specs.declared.file.FileEntry.{FileEntry}
use Rattle.hook_base.specs.declared.file.Mode.{Mode}
use Rattle.hook_base.specs.declared.file.Mode.TheVariants.{Plain, Executable}
use Rattle.file_tags.specs.FileTags.{has_tag, mode_tags, tags_of_file}
use Rattle.path_select.specs.Chosen.{AsksForNone, every_file_has}
use Rattle.path_select.specs.Selection.{RuleTexts, fits_types, has_all}

by_mode : (mode : Mode) (told others : List (List ℕ)) → has_tag (codes "file") (mode_tags mode ++ told ++ others) ≡ true
by_mode Plain told others = refl
by_mode Executable told others = refl

has_all-of_every_file : (types : List (List ℕ)) (path : List ℕ) (entry : FileEntry) → IsTrue (every_file_has types) → has_all types (tags_of_file path entry) ≡ true
has_all-of_every_file [] path entry all = refl
has_all-of_every_file (tag ∷ types) path entry all =
    let parts = and_parts (bytes_eq tag (codes "file")) (every_file_has types) all in
    let first : has_tag tag (tags_of_file path entry) ≡ true =
    subst (λ (t : List ℕ). has_tag t (tags_of_file path entry) ≡ true) (sym ((bytes_decides tag (codes "file")).0 parts.0)) (by_mode entry.mode _ _) in
    rw first (has_all-of_every_file types path entry parts.1)

pub fits_types_of_every_file : (rules : RuleTexts) → AsksForNone rules → (path : List ℕ) (entry : FileEntry) → fits_types rules (tags_of_file path entry) ≡ true
fits_types_of_every_file rules asks path entry =
    rw (has_all-of_every_file rules.types path entry asks.all_have, asks.no_choice, asks.none_excluded) refl
