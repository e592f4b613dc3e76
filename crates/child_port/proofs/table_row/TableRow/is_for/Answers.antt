use Rattle.std.proofs.Common.{◌≡◌, List, ℕ, subst}
use Rattle.std.specs.Bool.{Decides}
use Rattle.std.specs.Cmp.Lexicographic.{bytes_decides}
use Rattle.std.proofs.lemmas.Slice.Eq.{slice_eq-Decides}
use Rattle.child_port.proofs.table_row.TableRow.is_for.Goals as goal

pub returns-then-eq : goal.returns-then-eq
returns-then-eq c =
    let words =
    subst (λ (words : List (List ℕ)). Decides c.eq.result (words ≡ c.args.words.now)) c.as_slice.ensures
    (slice_eq-Decides bytes_decides c.as_slice.result.now c.args.words.now c.eq.result c.eq.ensures) in
    let seen = c.eq-then-eq.ensures.same in
    (λ h. (words.0 c.if-eq.true, seen.0 h), λ row. seen.1 row.1)

pub returns-else-eq : goal.returns-else-eq
returns-else-eq c =
    let words =
    subst (λ (words : List (List ℕ)). Decides c.eq.result (words ≡ c.args.words.now)) c.as_slice.ensures
    (slice_eq-Decides bytes_decides c.as_slice.result.now c.args.words.now c.eq.result c.eq.ensures) in
    (λ h. let no_words = c.if-eq.false in cc, λ row. words.1 row.0)
