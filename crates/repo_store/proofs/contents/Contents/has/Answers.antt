use Rattle.std.proofs.Common.{◌≡◌, true, false, List, ℕ, sym, ap, ◌∙◌}
use Rattle.std.specs.Cmp.Lexicographic.{bytes_decides}
use Rattle.std.specs.Str.{bytes_eq}
use Rattle.std.proofs.lemmas.Bool.{not-false}
use Rattle.repo_store.specs.Contents.{has_digest}
use Rattle.repo_store.proofs.IndexLemmas.{known, unknown}
use Rattle.repo_store.proofs.contents.Contents.has.Goals as goal

pub returns-in-Some-2-clause-known : goal.returns-in-Some-2-clause-known
returns-in-Some-2-clause-known c =
    let equal : bytes_eq c.as_slice.result.now c.args.bytes.now ≡ true = not-false _ (sym c.ne.ensures ∙ c.if-ne.false) in
    let same = sym c.as_slice.ensures ∙ (bytes_decides c.as_slice.result.now c.args.bytes.now).0 equal in
    sym (known c.args.bytes.now c.in-Some.content.now c.args.self.now (c.in-Some.ensures).found same)

pub returns-in-None-clause-known : goal.returns-in-None-clause-known
returns-in-None-clause-known c = sym (unknown c.args.bytes.now c.args.self.now (ap (λ (d : List ℕ). has_digest d c.args.self.now) (sym c.requires) ∙ (c.in-None.ensures).absent))

pub returns-in-Some-2-clause-absent : goal.returns-in-Some-2-clause-absent
returns-in-Some-2-clause-absent c none = absurd (let never : true ≡ false = none in cc)

pub returns-in-None-clause-absent : goal.returns-in-None-clause-absent
returns-in-None-clause-absent c _ = (c.in-None.ensures).absent
