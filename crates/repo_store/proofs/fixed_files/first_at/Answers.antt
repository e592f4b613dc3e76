use Rattle.std.proofs.Common.{◌≡◌, List, ℕ, map, true, false, sym, subst, ◌∙◌}
use Rattle.std.specs.Cmp.Lexicographic.{bytes_decides}
use Rattle.hook_base.specs.RisingLemmas.{bytes_same}
use Rattle.repo_store.specs.Accepted.{HasReached}
use Rattle.repo_store.specs.Lists.{fix_of}
use Rattle.repo_store.proofs.FixedLemmas.{found_here, other_here}
use Rattle.repo_store.proofs.fixed_files.first_at.Goals as goal

pub returns-then-eq-clause-found : goal.returns-then-eq-clause-found
returns-then-eq-clause-found c = λ file at.
    let fix = c.fix-item.result in
    found_here c.args.fixes.now fix c.in-len1-up.len_at_least c.fix-item.is file c.requires.rising ((bytes_decides fix.path c.args.path.now).0 (sym c.eq.ensures ∙ c.if-eq.true) ∙ sym at)

pub returns-else-eq-clause-absent : goal.returns-else-eq-clause-absent
returns-else-eq-clause-absent c = λ file at.
    let fix = c.fix-item.result in
    let fixes = c.args.fixes.now in
    let miss = c.if-eq.false in
    other_here fixes fix c.in-len1-up.len_at_least c.fix-item.is file c.requires.rising (subst (λ (p : List ℕ). HasReached p (map fix_of fixes)) (sym at) c.requires.reached)
    (λ same. let never : false ≡ true = sym miss ∙ c.eq.ensures ∙ bytes_same fix.path c.args.path.now (same ∙ at) in cc)
