use Rattle.std.proofs.Common.{◌≡◌, ◌+◌, true, drop, ◌++◌, ◌∷◌, [], List, ℕ, map, take, is_some, sym, ap, ap₂, subst, ◌∙◌}
use Rattle.std.proofs.lemmas.List.{map-append}
use Rattle.hook_base.specs.declared.change.Change.{Change}
use Rattle.hook_base.specs.Trees.{entry_of}
use Rattle.repo_store.specs.Contents.{with_new, with_changes}
use Rattle.repo_store.specs.Kept.{FixCollides, HasLarge, Kept, Mirror}
use Rattle.repo_store.specs.Lists.{fix_of}
use Rattle.repo_store.specs.Repository.{Repository, staged_changes}
use Rattle.repo_store.proofs.ChangeLemmas.{CollidesIn, collides_among, large_among, none_collide, none_large, staged_around}
use Rattle.repo_store.proofs.FixLemmas.{changes_before, made_item, none_staged, one_staged, refusal_weaker, with_changes-push}
use Rattle.repo_store.proofs.lists.Lists.share_fixes.Goals as goal
use Rattle.repo_store.proofs.lists.Lists.share_fixes.Goals.{then-is_staged+in-Ok+else-is_err, else-is_staged}

pub returns-then-is_err-clause-front : goal.returns-then-is_err-clause-front
returns-then-is_err-clause-front c =
    let old = c.args.self.now.kept in
    let front = staged_changes (take c.changes.change-index c.args.changes.now) old.repo.staged in
    let change = c.change-item.result in
    changes_before (front ++ change ∷ []) old.contents c.share_fix.new.self.kept.contents
    (ap (λ (k : Kept). k.contents) (c.in-Ok.ensures).kept ∙ ap (with_new change.now) c.changes.invariant.contents ∙ sym (with_changes-push front change old.contents))

pub returns-in-Err-clause-front : goal.returns-in-Err-clause-front
returns-in-Err-clause-front c =
    changes_before (staged_changes (take c.changes.change-index c.args.changes.now) c.args.self.now.kept.repo.staged) c.args.self.now.kept.contents c.share_fix.new.self.kept.contents
    (ap (λ (k : Kept). k.contents) (c.in-Err.ensures).same ∙ c.changes.invariant.contents)

pub returns-clause-front : goal.returns-clause-front
returns-clause-front c =
    changes_before (staged_changes (take c.changes.change-index c.args.changes.now) c.args.self.now.kept.repo.staged) c.args.self.now.kept.contents c.changes.self.kept.contents
    c.changes.invariant.contents

pub returns-in-Err-clause-why : goal.returns-in-Err-clause-why
returns-in-Err-clause-why c =
    let old = c.args.self.now.kept in
    let all = c.args.changes.now in
    let i = c.changes.change-index in
    let change = c.change-item.result in
    let front = staged_changes (take i all) old.repo.staged in
    let rest = staged_changes (drop (i + 1) all) old.repo.staged in
    let staged : is_some (entry_of change.path old.repo.staged) ≡ true =
    ap (λ (r : Repository). is_some (entry_of change.path r.staged)) (sym c.changes.invariant.repo) ∙ sym c.is_staged.ensures ∙ c.if-is_staged.true in
    let around = staged_around all old.repo.staged i change c.changes-test.true c.change-item.is staged in
    refusal_weaker (large_among front change rest (staged_changes all old.repo.staged) around) (λ h. h)
    (λ collides. collides_among front change old.contents rest (staged_changes all old.repo.staged) around (subst (λ (l : List (List ℕ)). CollidesIn change l) c.changes.invariant.contents collides))
    c.in-Err.fault (c.in-Err.ensures).why

pub changes-preserved : goal.changes-preserved
changes-preserved c =
    let old = c.args.self.now.kept in
    let all = c.args.changes.now in
    let i = c.changes.change-index in
    let change = c.change-item.result in
    let front = staged_changes (take i all) old.repo.staged in
    let inv = c.changes.invariant in
    let staged : c.is_staged.result ≡ is_some (entry_of change.path old.repo.staged) = c.is_staged.ensures ∙ ap (λ (r : Repository). is_some (entry_of change.path r.staged)) inv.repo in
    elim c.if-is_staged.branch [
      | then-is_staged+in-Ok+else-is_err w ↦
          let one = one_staged all old.repo.staged i change c.changes-test.true c.change-item.is (sym staged ∙ w.if-is_staged.true) in
          let held = (w.in-Ok.ensures).kept in
          let pushed = made_item w.push.result w.push.new.self.items _ _ (sym w.is_err.ensures.value ∙ w.if-is_err.false) w.push.ensures.items in
          record {
            repo = ap (λ (m : Mirror). m.kept.repo) w.self-is ∙ ap (λ (k : Kept). k.repo) held ∙ inv.repo;
            answers = ap (λ (m : Mirror). m.kept.answers) w.self-is ∙ ap (λ (k : Kept). k.answers) held ∙ inv.answers;
            limit = ap (λ (m : Mirror). m.kept.limit) w.self-is ∙ ap (λ (k : Kept). k.limit) held ∙ inv.limit;
            fixes =
                rw w.fixes-is (ap (map fix_of) pushed ∙ map-append fix_of c.changes.fixes.items (w.in-Ok.fix ∷ []) ∙ ap₂ (λ (a : List Change) (b : Change). a ++ b ∷ []) inv.fixes (w.in-Ok.ensures).fix
                ∙ sym one);
            contents =
                ap (λ (m : Mirror). m.kept.contents) w.self-is ∙ ap (λ (k : Kept). k.contents) held ∙ ap (with_new change.now) inv.contents
                ∙ sym (ap (λ (l : List Change). with_changes l old.contents) one ∙ with_changes-push front change old.contents);
            within = none_large front change (staged_changes (take (i + 1) all) old.repo.staged) one inv.within (w.in-Ok.ensures).within;
            apart =
                none_collide front change old.contents (staged_changes (take (i + 1) all) old.repo.staged) one inv.apart
                (subst (λ (l : List (List ℕ)). ¬ CollidesIn change l) inv.contents (w.in-Ok.ensures).apart);
          }
      | else-is_staged w ↦
          let none = none_staged all old.repo.staged i change c.changes-test.true c.change-item.is (sym staged ∙ w.if-is_staged.false) in
          record {
            repo = ap (λ (m : Mirror). m.kept.repo) w.self-is ∙ inv.repo;
            answers = ap (λ (m : Mirror). m.kept.answers) w.self-is ∙ inv.answers;
            limit = ap (λ (m : Mirror). m.kept.limit) w.self-is ∙ inv.limit;
            fixes = rw w.fixes-is (inv.fixes ∙ sym none);
            contents = ap (λ (m : Mirror). m.kept.contents) w.self-is ∙ inv.contents ∙ sym (ap (λ (l : List Change). with_changes l old.contents) none);
            within = subst (λ (l : List Change). ¬ HasLarge l) (sym none) inv.within;
            apart = subst (λ (l : List Change). ¬ FixCollides l old.contents) (sym none) inv.apart;
          }
    ]
