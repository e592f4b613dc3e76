use Rattle.std.proofs.Common.{◌∙◌, ap, refl, subst}
use Rattle.std.proofs.lemmas.Result.{err_from_is_err_and}
use Rattle.hook_base.specs.Trees.{changes_between}
use Rattle.repo_store.specs.StoreBooks.{remembered_by}
use Rattle.hook_run.specs.Moments.{moment}
use Rattle.repo_store.specs.Kept.{Kept}
use Rattle.repo_store.specs.Repository.{Repository, with_new_commit}
use Rattle.commit_flow.specs.declared.command.Command.TheVariants.{Commit}
use Rattle.commit_flow.specs.declared.reply.Reply.TheVariants.{Refused}
use Rattle.commit_flow.specs.CommitCalls.{IsPostOver}
use Rattle.commit_flow.specs.Messages.{cleaned_message}
use Rattle.commit_flow.proofs.CommitLemmas.{step_unthrough}
use Rattle.commit_flow.proofs.CommitSafe.{committed_safely, committed_so, failed_safely, failed_so, uncommitted_safely, uncommitted_so, unfixed_safely, unfixed_so}
use Rattle.commit_flow.proofs.HookCommandLemmas.{hooks_alone}
use Rattle.commit_flow.proofs.SafeLemmas.{commit_safely}
use Rattle.commit_flow.proofs.commit.commit_in.Goals as goal

-- ---- the stages don't come to an end

pub returns-in_err-through-clause-step : goal.returns-in_err-through-clause-step
returns-in_err-through-clause-step g c =
    let children = g.C.Children in
    let tells = children.tells c.args.children.now in
    let from = moment (children.call_count c.args.children.now) (children.fault_count c.args.children.now) (remembered_by c.args.store.now.kept) in
    let calls = children.call_count c.go_through.new.children in
    let faults = children.fault_count c.go_through.new.children in
    let old = c.args.store.now in
    let between = c.go_through.new.store in
    let to = moment calls faults (remembered_by between.kept) in
    let p = err_from_is_err_and c.from_residual.result c.from_residual.ensures.1 in
    rw (p.1, p.2) (step_unthrough tells old.kept.repo c.args.message.now c.args.no_verify c.args.skip.now from to c.in_err-through.field-0.0 between.kept c.go_through.ensures.rest.repo
    c.in_err-through.ensures.refused)

pub returns-in_err-through-clause-kept : goal.returns-in_err-through-clause-kept
returns-in_err-through-clause-kept g c =
    let p = err_from_is_err_and c.from_residual.result c.from_residual.ensures.1 in
    rw p.1 c.go_through.ensures.rest.repo

pub returns-in_err-through-clause-command : goal.returns-in_err-through-clause-command
returns-in_err-through-clause-command g c =
    let children = g.C.Children in
    let tells = children.tells c.args.children.now in
    let from = moment (children.call_count c.args.children.now) (children.fault_count c.args.children.now) (remembered_by c.args.store.now.kept) in
    let calls = children.call_count c.go_through.new.children in
    let faults = children.fault_count c.go_through.new.children in
    let old = c.args.store.now in
    let between = c.go_through.new.store in
    let to = moment calls faults (remembered_by between.kept) in
    let refusal = c.in_err-through.field-0.0 in
    let over =
    step_unthrough tells old.kept.repo c.args.message.now c.args.no_verify c.args.skip.now from to c.in_err-through.field-0.0 between.kept c.go_through.ensures.rest.repo
    c.in_err-through.ensures.refused in
    let p = err_from_is_err_and c.from_residual.result c.from_residual.ensures.1 in
    rw (p.1, p.2) (commit_safely g.S.Store tells from to old between refl refl c.args.message.now c.args.no_verify c.args.skip.now (Refused refusal) over
    (hooks_alone g.S.Store tells (Commit c.args.message.now c.args.no_verify c.args.skip.now) old _ between refusal c.go_through.ensures.rest c.go_through.ensures.left))

-- ---- a hook failed

pub returns-in_err-set_fixes_to-in-Failed-clause-step : goal.returns-in_err-set_fixes_to-in-Failed-clause-step
returns-in_err-set_fixes_to-in-Failed-clause-step g c =
    let children = g.C.Children in
    let tells = children.tells c.args.children.now in
    let from = moment (children.call_count c.args.children.now) (children.fault_count c.args.children.now) (remembered_by c.args.store.now.kept) in
    let calls = children.call_count c.go_through.new.children in
    let faults = children.fault_count c.go_through.new.children in
    let old = c.args.store.now in
    let between = c.go_through.new.store in
    let p = err_from_is_err_and c.from_residual-in_err-set_fixes_to-in-Failed.result c.from_residual-in_err-set_fixes_to-in-Failed.ensures.1 in
    let refusal = c.in_err-set_fixes_to-in-Failed.field-0.0 in
    rw (p.1, p.2) (unfixed_so g.S.Store tells from calls faults old between refl c.go_through.ensures.rest c.go_through.ensures.left c.args.message.now c.args.no_verify c.args.skip.now
    c.in_ok-through.through c.in_ok-through.ensures.through
    c.set_fixes_to.new.store c.in-Failed.stage c.in-Failed.reports c.in-Failed.course c.in-Failed.is c.in_err-set_fixes_to-in-Failed.ensures.change.same refusal
    c.in_err-set_fixes_to-in-Failed.ensures.refused)

pub returns-in_err-set_fixes_to-in-Failed-clause-kept : goal.returns-in_err-set_fixes_to-in-Failed-clause-kept
returns-in_err-set_fixes_to-in-Failed-clause-kept g c =
    let p = err_from_is_err_and c.from_residual-in_err-set_fixes_to-in-Failed.result c.from_residual-in_err-set_fixes_to-in-Failed.ensures.1 in
    rw p.1 (ap (λ (kept : Kept). kept.repo) c.in_err-set_fixes_to-in-Failed.ensures.change.same ∙ c.go_through.ensures.rest.repo)

pub returns-in_err-set_fixes_to-in-Failed-clause-command : goal.returns-in_err-set_fixes_to-in-Failed-clause-command
returns-in_err-set_fixes_to-in-Failed-clause-command g c =
    let children = g.C.Children in
    let tells = children.tells c.args.children.now in
    let from = moment (children.call_count c.args.children.now) (children.fault_count c.args.children.now) (remembered_by c.args.store.now.kept) in
    let calls = children.call_count c.go_through.new.children in
    let faults = children.fault_count c.go_through.new.children in
    let old = c.args.store.now in
    let between = c.go_through.new.store in
    let p = err_from_is_err_and c.from_residual-in_err-set_fixes_to-in-Failed.result c.from_residual-in_err-set_fixes_to-in-Failed.ensures.1 in
    let refusal = c.in_err-set_fixes_to-in-Failed.field-0.0 in
    rw (p.1, p.2) (unfixed_safely g.S.Store tells from calls faults old between refl c.go_through.ensures.rest c.go_through.ensures.left c.args.message.now c.args.no_verify c.args.skip.now
    c.in_ok-through.through c.in_ok-through.ensures.through
    c.set_fixes_to.new.store c.in-Failed.stage c.in-Failed.reports c.in-Failed.course c.in-Failed.is c.in_err-set_fixes_to-in-Failed.ensures.change.same refusal
    c.in_err-set_fixes_to-in-Failed.ensures.refused refusal c.in_err-set_fixes_to-in-Failed.ensures.one)

pub returns-in-Failed-clause-step : goal.returns-in-Failed-clause-step
returns-in-Failed-clause-step g c =
    let children = g.C.Children in
    let tells = children.tells c.args.children.now in
    let from = moment (children.call_count c.args.children.now) (children.fault_count c.args.children.now) (remembered_by c.args.store.now.kept) in
    let calls = children.call_count c.go_through.new.children in
    let faults = children.fault_count c.go_through.new.children in
    let old = c.args.store.now in
    let between = c.go_through.new.store in
    failed_so g.S.Store tells from calls faults old between refl c.go_through.ensures.rest c.go_through.ensures.left c.args.message.now c.args.no_verify c.args.skip.now
    c.in_ok-through.through c.in_ok-through.ensures.through
    c.set_fixes_to.new.store c.in-Failed.stage c.in-Failed.reports c.in-Failed.course c.in-Failed.is c.in_ok-set_fixes_to-in-Failed.ensures.change.done

pub returns-in-Failed-clause-kept : goal.returns-in-Failed-clause-kept
returns-in-Failed-clause-kept g c =
    let between = c.go_through.new.store.kept in (
      changes_between between.repo.staged c.in-Failed.course.tree,
      record { between = between; same = c.go_through.ensures.rest.repo; made = c.in_ok-set_fixes_to-in-Failed.ensures.change.done },
    )

pub returns-in-Failed-clause-command : goal.returns-in-Failed-clause-command
returns-in-Failed-clause-command g c =
    let children = g.C.Children in
    let tells = children.tells c.args.children.now in
    let from = moment (children.call_count c.args.children.now) (children.fault_count c.args.children.now) (remembered_by c.args.store.now.kept) in
    let calls = children.call_count c.go_through.new.children in
    let faults = children.fault_count c.go_through.new.children in
    let old = c.args.store.now in
    let between = c.go_through.new.store in
    failed_safely g.S.Store tells from calls faults old between refl c.go_through.ensures.rest c.go_through.ensures.left c.args.message.now c.args.no_verify c.args.skip.now
    c.in_ok-through.through c.in_ok-through.ensures.through
    c.set_fixes_to.new.store c.in-Failed.stage c.in-Failed.reports c.in-Failed.course c.in-Failed.is c.in_ok-set_fixes_to-in-Failed.ensures.change.done _ c.in_ok-set_fixes_to-in-Failed.ensures.one

-- ---- the stages passed

pub returns-in_err-number-in-Passed-clause-step : goal.returns-in_err-number-in-Passed-clause-step
returns-in_err-number-in-Passed-clause-step g c =
    let children = g.C.Children in
    let tells = children.tells c.args.children.now in
    let from = moment (children.call_count c.args.children.now) (children.fault_count c.args.children.now) (remembered_by c.args.store.now.kept) in
    let calls = children.call_count c.go_through.new.children in
    let faults = children.fault_count c.go_through.new.children in
    let old = c.args.store.now in
    let between = c.go_through.new.store in
    let p = err_from_is_err_and c.from_residual-in_err-number-in-Passed.result c.from_residual-in_err-number-in-Passed.ensures.1 in
    let refusal = c.in_err-number-in-Passed.field-0.0 in
    rw (p.1, p.2) (uncommitted_so g.S.Store tells from calls faults old between refl c.go_through.ensures.rest c.go_through.ensures.left c.args.message.now c.args.no_verify c.args.skip.now
    c.in_ok-through.through c.in_ok-through.ensures.through
    c.commit_staged.new.store c.in-Passed.reports c.in-Passed.course c.in-Passed.is c.as_slice.result.now c.as_slice.ensures c.in_err-number-in-Passed.ensures.change.same refusal
    c.in_err-number-in-Passed.ensures.refused)

pub returns-in_err-number-in-Passed-clause-kept : goal.returns-in_err-number-in-Passed-clause-kept
returns-in_err-number-in-Passed-clause-kept g c =
    let p = err_from_is_err_and c.from_residual-in_err-number-in-Passed.result c.from_residual-in_err-number-in-Passed.ensures.1 in
    rw p.1 (ap (λ (kept : Kept). kept.repo) c.in_err-number-in-Passed.ensures.change.same ∙ c.go_through.ensures.rest.repo)

pub returns-in_err-number-in-Passed-clause-command : goal.returns-in_err-number-in-Passed-clause-command
returns-in_err-number-in-Passed-clause-command g c =
    let children = g.C.Children in
    let tells = children.tells c.args.children.now in
    let from = moment (children.call_count c.args.children.now) (children.fault_count c.args.children.now) (remembered_by c.args.store.now.kept) in
    let calls = children.call_count c.go_through.new.children in
    let faults = children.fault_count c.go_through.new.children in
    let old = c.args.store.now in
    let between = c.go_through.new.store in
    let p = err_from_is_err_and c.from_residual-in_err-number-in-Passed.result c.from_residual-in_err-number-in-Passed.ensures.1 in
    let refusal = c.in_err-number-in-Passed.field-0.0 in
    rw (p.1, p.2) (uncommitted_safely g.S.Store tells from calls faults old between refl c.go_through.ensures.rest c.go_through.ensures.left c.args.message.now c.args.no_verify c.args.skip.now
    c.in_ok-through.through c.in_ok-through.ensures.through
    c.commit_staged.new.store c.in-Passed.reports c.in-Passed.course c.in-Passed.is c.as_slice.result.now c.as_slice.ensures c.in_err-number-in-Passed.ensures.change.same refusal
    c.in_err-number-in-Passed.ensures.refused refusal c.commit_staged.ensures.unasked c.in_err-number-in-Passed.ensures.one)

pub returns-clause-step : goal.returns-clause-step
returns-clause-step g c =
    let children = g.C.Children in
    let tells = children.tells c.args.children.now in
    let from = moment (children.call_count c.args.children.now) (children.fault_count c.args.children.now) (remembered_by c.args.store.now.kept) in
    let calls = children.call_count c.go_through.new.children in
    let faults = children.fault_count c.go_through.new.children in
    let old = c.args.store.now in
    let between = c.go_through.new.store in
    let next = children.tells c.go_through.new.children in
    let after = c.run_post_commit-post.new.store in
    let end = moment (children.call_count c.run_post_commit-post.new.children) (children.fault_count c.run_post_commit-post.new.children) (remembered_by after.kept) in
    let done = c.in_ok-number-in-Passed.ensures.change.done in
    let behind =
    subst (λ (kept : Kept). IsPostOver next (moment calls faults (remembered_by kept)) end c.in_ok-through.through.config kept.repo.staged c.args.skip.now c.run_post_commit-post.result) done
    c.run_post_commit-post.ensures.post in
    committed_so g.S.Store tells from calls faults old between refl c.go_through.ensures.rest c.go_through.ensures.left c.args.message.now c.args.no_verify c.args.skip.now
    c.in_ok-through.through c.in_ok-through.ensures.through
    c.commit_staged.new.store c.in-Passed.reports c.in-Passed.course c.in-Passed.is c.as_slice.result.now c.as_slice.ensures
    next c.go_through.ensures.same after c.run_post_commit-post.ensures.rest c.run_post_commit-post.ensures.left c.in_ok-number-in-Passed.ensures.able done
    c.in_ok-number-in-Passed.number c.in_ok-number-in-Passed.ensures.number end refl c.run_post_commit-post.result behind

pub returns-clause-kept : goal.returns-clause-kept
returns-clause-kept g c =
    let cleaned = cleaned_message c.as_slice.result.now in (
      cleaned,
      c.run_post_commit-post.ensures.rest.repo ∙ ap (λ (kept : Kept). kept.repo) c.in_ok-number-in-Passed.ensures.change.done
          ∙ ap (λ (repo : Repository). with_new_commit cleaned repo) c.go_through.ensures.rest.repo,
    )

pub returns-clause-command : goal.returns-clause-command
returns-clause-command g c =
    let children = g.C.Children in
    let tells = children.tells c.args.children.now in
    let from = moment (children.call_count c.args.children.now) (children.fault_count c.args.children.now) (remembered_by c.args.store.now.kept) in
    let calls = children.call_count c.go_through.new.children in
    let faults = children.fault_count c.go_through.new.children in
    let old = c.args.store.now in
    let between = c.go_through.new.store in
    let next = children.tells c.go_through.new.children in
    let after = c.run_post_commit-post.new.store in
    let end = moment (children.call_count c.run_post_commit-post.new.children) (children.fault_count c.run_post_commit-post.new.children) (remembered_by after.kept) in
    let done = c.in_ok-number-in-Passed.ensures.change.done in
    let behind =
    subst (λ (kept : Kept). IsPostOver next (moment calls faults (remembered_by kept)) end c.in_ok-through.through.config kept.repo.staged c.args.skip.now c.run_post_commit-post.result) done
    c.run_post_commit-post.ensures.post in
    committed_safely g.S.Store tells from calls faults old between refl c.go_through.ensures.rest c.go_through.ensures.left c.args.message.now c.args.no_verify c.args.skip.now
    c.in_ok-through.through c.in_ok-through.ensures.through
    c.commit_staged.new.store c.in-Passed.reports c.in-Passed.course c.in-Passed.is c.as_slice.result.now c.as_slice.ensures
    next c.go_through.ensures.same after c.run_post_commit-post.ensures.rest c.run_post_commit-post.ensures.left c.in_ok-number-in-Passed.ensures.able done
    c.in_ok-number-in-Passed.number c.in_ok-number-in-Passed.ensures.number end refl c.run_post_commit-post.result behind
    c.in_ok-number-in-Passed.number c.in_ok-number-in-Passed.ensures.one
