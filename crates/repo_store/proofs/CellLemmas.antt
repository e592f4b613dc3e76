-- What the cells of a row name.
use Rattle.std.proofs.Common.{◌≡◌, ℕ, ◌||◌, true, false, List, [], ◌∷◌, map, length, get_or, Option, None, Some, IfSome, refl, sym, ap, ◌∙◌, Bor}
use Rattle.std.specs.Prelude.{IfNone}
use Rattle.std.specs.List.{Any}
use Rattle.std.specs.Str.{bytes_eq}
use Rattle.std.proofs.lemmas.List.Folds.{list_any_at}
use Rattle.sha2.specs.Sha256.{sha256}
use Rattle.repo_store.proofs.Kit.{length-sha256}
use Rattle.hook_base.specs.RisingLemmas.{bytes_same, bytes_differ}
use Rattle.repo_store.specs.Complete.{IsAmong}
use Rattle.repo_store.specs.Contents.{has_digest}
use Rattle.repo_store.specs.Rows.{blob_row}
use Rattle.repo_store.specs.RowRules.{is_kept}
use Rattle.repo_store.proofs.IndexLemmas.{known}

pub kept_as_digest : (digest : List ℕ) (contents : List (List ℕ)) → is_kept (map blob_row contents) digest ≡ has_digest digest contents
kept_as_digest digest [] = refl
kept_as_digest digest (bytes ∷ contents) = ap (λ b. bytes_eq digest (sha256 bytes) || b) (kept_as_digest digest contents)

-- contents stand under the digest of some of them
pub kept_there : (digest content : List ℕ) (contents : List (List ℕ)) → Any (λ bytes. bytes ≡ content) contents → sha256 content ≡ digest → is_kept (map blob_row contents) digest ≡ true
kept_there digest content contents any under =
    kept_as_digest digest contents
    ∙ list_any_at (λ other. bytes_eq digest (sha256 other)) contents any.0 any.1 any.2 (bytes_same digest (sha256 (get_or contents any.0 any.1)) (sym under ∙ ap sha256 (sym any.4 ∙ sym any.3)))

-- bytes that are no digest are that of no contents
pub no_digest : (digest : List ℕ) (contents : List (List ℕ)) → (length digest ≡ 32 → ⊥) → is_kept (map blob_row contents) digest ≡ false
no_digest digest [] long = refl
no_digest digest (bytes ∷ contents) long =
    rw (bytes_differ digest (sha256 bytes) (λ e. long (ap length e ∙ length-sha256 bytes))) (no_digest digest contents long)

-- what a search says, of the digest itself
pub found_kept : (o : Option (Bor (List ℕ))) (digest key : List ℕ) (contents : List (List ℕ)) → key ≡ digest → IfSome o (λ content. Any (λ bytes. bytes ≡ content.now) contents)
    → IfSome o (λ content. sha256 content.now ≡ key)
    → IfSome o (λ _. is_kept (map blob_row contents) digest ≡ true)
found_kept None digest key contents same found under = found
found_kept (Some content) digest key contents same found under = kept_there digest content.now contents found (under ∙ same)

pub found_among : (o : Option (Bor (List ℕ))) (contents : List (List ℕ)) → IfSome o (λ content. Any (λ bytes. bytes ≡ content.now) contents) → IfSome o (λ content. IsAmong contents content.now)
found_among None contents found = found
found_among (Some content) contents found = known content.now content.now contents found refl

pub not_found : (o : Option (Bor (List ℕ))) (digest key : List ℕ) (contents : List (List ℕ)) → key ≡ digest → IfNone o (has_digest key contents ≡ false)
    → IfNone o (is_kept (map blob_row contents) digest ≡ false)
not_found None digest key contents same absent = kept_as_digest digest contents ∙ ap (λ (d : List ℕ). has_digest d contents) (sym same) ∙ absent
not_found (Some content) digest key contents same absent = absent
