-- Contents under distinct digests, and files and changes that are told by the digests of their contents.
use Rattle.std.proofs.Common.{◌≡◌, ℕ, pos, true, List, [], ◌∷◌, map, length, get_or, Option, None, Some, MatchOption, IsPermutation, refl, sym, ap, ap₂, subst, ◌∙◌, arith}
use Rattle.std.specs.List.{Any}
use Rattle.std.specs.Option.{option_map}
use Rattle.std.specs.Str.{bytes_eq}
use Rattle.std.specs.Cmp.Lexicographic.{bytes_decides}
use Rattle.std.proofs.lemmas.List.{get_or_default}
use Rattle.std.proofs.lemmas.List.Folds.{Any-from_list_any}
use Rattle.std.proofs.lemmas.List.Sorted.{IsPermutation-map, list_any-IsPermutation}
use Rattle.sha2.specs.Sha256.{sha256}
use Rattle.hook_base.specs.declared.file.File.{File}
use Rattle.hook_base.specs.declared.file.Mode.{Mode}
use Rattle.hook_base.specs.declared.file.Mode.TheVariants.{Plain, Executable}
use Rattle.hook_base.specs.declared.change.Change.{Change}
use Rattle.answer_records.specs.declared.changed_file.ChangedFile.{ChangedFile}
use Rattle.answer_records.specs.Records.{changed_file}
use Rattle.store_tables.specs.declared.rows.BlobRow.{BlobRow}
use Rattle.store_tables.specs.declared.rows.FixRow.{FixRow}
use Rattle.store_tables.specs.declared.rows.StagedRow.{StagedRow}
use Rattle.repo_store.specs.Complete.{HaveDistinctDigests, HaveContents, HaveNewContents, IsAmong}
use Rattle.repo_store.specs.Rows.{blob_row, fix_at, fix_row, mode_number, staged_row}

bytes_back : (contents : List (List ℕ)) → map (λ (row : BlobRow). row.bytes) (map blob_row contents) ≡ contents
bytes_back [] = refl
bytes_back (bytes ∷ contents) = ap (λ (l : List (List ℕ)). bytes ∷ l) (bytes_back contents)

pub same_contents : (a b : List (List ℕ)) → IsPermutation (map blob_row a) (map blob_row b) → IsPermutation a b
same_contents a b same =
    subst (λ (l : List (List ℕ)). IsPermutation l b) (bytes_back a)
    (subst (IsPermutation (map (λ (row : BlobRow). row.bytes) (map blob_row a))) (bytes_back b) (IsPermutation-map (λ (row : BlobRow). row.bytes) (map blob_row a) (map blob_row b) same))

module _ (a b : List (List ℕ)) (same : IsPermutation a b) (apart : HaveDistinctDigests b) where
  -- one digest stands for the same bytes among both
  pub same_bytes : (x y : List ℕ) → IsAmong a x → IsAmong b y → sha256 x ≡ sha256 y → x ≡ y
  same_bytes x y x_in y_in digests =
      let one : Any (λ z. bytes_eq x z ≡ true) b = Any-from_list_any (bytes_eq x) b (sym (list_any-IsPermutation (bytes_eq x) a b same) ∙ x_in) in
      let two : Any (λ z. bytes_eq y z ≡ true) b = Any-from_list_any (bytes_eq y) b y_in in
      let x_is : get_or b one.0 [] ≡ x = get_or_default b one.0 [] one.1 one.2 ∙ one.3 ∙ sym ((bytes_decides x one.1).0 one.4) in
      let y_is : get_or b two.0 [] ≡ y = get_or_default b two.0 [] two.1 two.2 ∙ two.3 ∙ sym ((bytes_decides y two.1).0 two.4) in
      let at : one.0 ≡ two.0 = apart one.0 two.0 one.2 two.2 (ap sha256 x_is ∙ digests ∙ sym (ap sha256 y_is)) in
      sym x_is ∙ ap (λ (i : ℕ). get_or b i []) at ∙ y_is

  same_mode : (m n : Mode) → pos (mode_number m) ≡ pos (mode_number n) → m ≡ n
  same_mode Plain Plain h = refl
  same_mode Plain Executable h = absurd (cc)
  same_mode Executable Plain h = absurd (cc)
  same_mode Executable Executable h = refl

  same_file : (f g : File) → IsAmong a f.entry.bytes → IsAmong b g.entry.bytes → staged_row f ≡ staged_row g → f ≡ g
  same_file f g f_in g_in rows =
      let path = ap (λ (row : StagedRow). row.path) rows in
      let mode = same_mode f.entry.mode g.entry.mode (ap (λ (row : StagedRow). row.mode) rows) in
      let bytes = same_bytes f.entry.bytes g.entry.bytes f_in g_in (ap (λ (row : StagedRow). row.digest) rows) in
      ap₂ (λ (p : List ℕ) (e : _). let made : File = record { path = p; entry = e } in made) path (ap₂ (λ (m : Mode) (x : List ℕ). record { mode = m; bytes = x }) mode bytes)

  -- files are the same where their rows are
  module _ {Y : Type 0} (row : File → Y) (shown : Y → StagedRow) (shows : (f : File) → shown (row f) ≡ staged_row f) where
    pub same_files : (fs gs : List File) → HaveContents a fs → HaveContents b gs → map row fs ≡ map row gs → fs ≡ gs
    same_files [] [] fs_in gs_in rows = refl
    same_files [] (g ∷ gs) fs_in gs_in rows = absurd (let count = ap length rows in omega arith)
    same_files (f ∷ fs) [] fs_in gs_in rows = absurd (let count = ap length rows in omega arith)
    same_files (f ∷ fs) (g ∷ gs) fs_in gs_in rows =
        let first : row f ≡ row g = cc in
        let rest : map row fs ≡ map row gs = cc in
        ap₂ (λ (h : File) (l : List File). h ∷ l) (same_file f g fs_in.0 gs_in.0 (sym (shows f) ∙ ap shown first ∙ shows g)) (same_files fs gs fs_in.1 gs_in.1 rest)

  same_now : (m n : Option (List ℕ)) → MatchOption m (Unit {0}) (IsAmong a) → MatchOption n (Unit {0}) (IsAmong b) → option_map sha256 m ≡ option_map sha256 n → m ≡ n
  same_now None None m_in n_in digests = refl
  same_now None (Some y) m_in n_in digests = absurd (let never : ◌≡◌ {A = Option (List ℕ)} None (Some (sha256 y)) = digests in cc)
  same_now (Some x) None m_in n_in digests = absurd (let never : ◌≡◌ {A = Option (List ℕ)} (Some (sha256 x)) None = digests in cc)
  same_now (Some x) (Some y) m_in n_in digests = let one : sha256 x ≡ sha256 y = cc in ap Some (same_bytes x y m_in n_in one)

  same_change : (c d : Change) → MatchOption c.now (Unit {0}) (IsAmong a) → MatchOption d.now (Unit {0}) (IsAmong b) → changed_file c ≡ changed_file d → c ≡ d
  same_change c d c_in d_in rows =
      let path = ap (λ (file : ChangedFile). file.path) rows in
      let now = same_now c.now d.now c_in d_in (ap (λ (file : ChangedFile). file.digest) rows) in
      ap₂ (λ (p : List ℕ) (n : Option (List ℕ)). let made : Change = record { path = p; now = n } in made) path now

  -- so are changes
  module _ {Y : Type 0} (row : Change → Y) (shown : Y → ChangedFile) (shows : (c : Change) → shown (row c) ≡ changed_file c) where
    pub same_changes : (cs ds : List Change) → HaveNewContents a cs → HaveNewContents b ds → map row cs ≡ map row ds → cs ≡ ds
    same_changes [] [] cs_in ds_in rows = refl
    same_changes [] (d ∷ ds) cs_in ds_in rows = absurd (let count = ap length rows in omega arith)
    same_changes (c ∷ cs) [] cs_in ds_in rows = absurd (let count = ap length rows in omega arith)
    same_changes (c ∷ cs) (d ∷ ds) cs_in ds_in rows =
        let first : row c ≡ row d = cc in
        let rest : map row cs ≡ map row ds = cc in
        ap₂ (λ (x : Change) (l : List Change). x ∷ l) (same_change c d cs_in.0 ds_in.0 (sym (shows c) ∙ ap shown first ∙ shows d)) (same_changes cs ds cs_in.1 ds_in.1 rest)

  -- what a row tells of a fix
  abbrev told_in : FixRow → ChangedFile
  told_in row = record { path = row.path; digest = row.digest }

  told_fix : (path : List ℕ) (now : Option (List ℕ)) → told_in (fix_at path now) ≡ record { path = path; digest = option_map sha256 now }
  told_fix path None = refl
  told_fix path (Some bytes) = refl

  pub same_fixes : (cs ds : List Change) → HaveNewContents a cs → HaveNewContents b ds → map fix_row cs ≡ map fix_row ds → cs ≡ ds
  same_fixes cs ds cs_in ds_in rows = same_changes fix_row told_in (λ c. told_fix c.path c.now) cs ds cs_in ds_in rows
