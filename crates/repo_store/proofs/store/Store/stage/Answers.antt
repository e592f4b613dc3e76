use Rattle.std.proofs.Common.{◌≢◌, ℕ, List, inl, inr, Ok, Err, refl, drop, ap, ap₂, subst, ◌∙◌, ◌≡◌, arith}
use Rattle.std.specs.Str.{IsUtf8}
use Rattle.hook_base.specs.Paths.{IsRepoPath, message_path}
use Rattle.hook_base.specs.declared.file.File.{File}
use Rattle.hook_base.specs.declared.file.FileEntry.{FileEntry}
use Rattle.repo_store.specs.Kept.{Kept, Mirror, staging}
use Rattle.repo_store.specs.Lists.{file_of}
use Rattle.repo_store.specs.Repository.{with_staged_file}
use Rattle.repo_store.specs.AllOrNothing.{IsAllOrNothing}
use Rattle.repo_store.specs.Shown.{Shown, IsOneTransaction}
use Rattle.repo_store.specs.RowRules.{IsPathText}
use Rattle.repo_store.proofs.KeptLemmas.{staging_handed, forgotten}
use Rattle.repo_store.proofs.CompleteLemmas.{complete_staged}
use Rattle.repo_store.proofs.RuleLemmas.{obeys_staged}
use Rattle.repo_store.proofs.StandLemmas.{tables_of, unnamed_in, refused_stands, done_stands, refused_transaction, done_transaction}
use Rattle.repo_store.proofs.store.Store.stage.Goals as goal

legal : (path : List ℕ) → IsUtf8 path → IsRepoPath path → path ≢ message_path → IsPathText path
legal path utf8 is other = record { utf8 = utf8; legal = elim is [ inl none ↦ none | inr message ↦ absurd (other message) ] }

pub invariant_of-self-in-Err : goal.invariant_of-self-in-Err
invariant_of-self-in-Err g c =
    let new = c.stage_rows.new.conn in
    let kept = c.self.inside.lists.kept in
    let entry : FileEntry = record { mode = c.args.mode; bytes = c.args.bytes.now } in
    let file : File = record { path = c.args.path.now; entry = entry } in
    let prepared = c.in_ok-file.ensures in
    let news = c.since.ensures ∙ ap₂ (λ (n : ℕ) (k : Kept). drop n k.contents) c.count-before.ensures prepared.kept in
    let same = staging_handed file (file_of c.in_ok-file.file) c.in_ok-file.file.path c.since.result.now kept prepared.rising prepared.file (ap (λ (f : File). f.path) prepared.file) news in
    let now =
    forgotten c.args.bytes.now kept c.prepare.new.self.kept c.forget_since.new.self.kept c.count-before.result c.count-before.ensures prepared.kept
    (ap (λ (m : Mirror). m.kept) c.forget_since.ensures) in
    let complete = complete_staged c.args.path.now entry kept c.self.invariant.complete prepared.within.1 prepared.apart in
    let obeys = obeys_staged kept c.self.invariant.obeys c.args.path.now entry (legal c.args.path.now prepared.utf8 prepared.path c.requires) prepared.within.0 complete in
    refused_stands g.S.Store c.self.inside.conn new c.self.inside.next c.self.inside.next kept (staging c.args.path.now entry kept) _ c.self.invariant same (g.met.S.Store.shut_if_dirty new.store)
    complete obeys (c.self.invariant.first, c.self.invariant.last) c.self.inside.next refl
    c.forget_since.new.self.kept now c.in-Err.error (c.in-Err.ensures (tables_of kept) c.self.inside.next kept.answers)

pub returns-in-Err-clause-change : goal.returns-in-Err-clause-change
returns-in-Err-clause-change g c =
    let kept = c.self.inside.lists.kept in
    let entry : FileEntry = record { mode = c.args.mode; bytes = c.args.bytes.now } in
    let prepared = c.in_ok-file.ensures in
    let now =
    forgotten c.args.bytes.now kept c.prepare.new.self.kept c.forget_since.new.self.kept c.count-before.result c.count-before.ensures prepared.kept
    (ap (λ (m : Mirror). m.kept) c.forget_since.ensures) in
    subst (λ (s : Shown g.row.S.Denot). IsAllOrNothing s.kept c.forget_since.new.self.kept (Err c.fault_of.result) (staging c.args.path.now entry s.kept)) c.self.view_is
    (record { done = tt; same = now })

pub returns-in-Err-clause-transaction : goal.returns-in-Err-clause-transaction
returns-in-Err-clause-transaction g c =
    let new = c.stage_rows.new.conn in
    let kept = c.self.inside.lists.kept in
    let entry : FileEntry = record { mode = c.args.mode; bytes = c.args.bytes.now } in
    let file : File = record { path = c.args.path.now; entry = entry } in
    let prepared = c.in_ok-file.ensures in
    let news = c.since.ensures ∙ ap₂ (λ (n : ℕ) (k : Kept). drop n k.contents) c.count-before.ensures prepared.kept in
    let same = staging_handed file (file_of c.in_ok-file.file) c.in_ok-file.file.path c.since.result.now kept prepared.rising prepared.file (ap (λ (f : File). f.path) prepared.file) news in
    let now =
    forgotten c.args.bytes.now kept c.prepare.new.self.kept c.forget_since.new.self.kept c.count-before.result c.count-before.ensures prepared.kept
    (ap (λ (m : Mirror). m.kept) c.forget_since.ensures) in
    let complete = complete_staged c.args.path.now entry kept c.self.invariant.complete prepared.within.1 prepared.apart in
    let obeys = obeys_staged kept c.self.invariant.obeys c.args.path.now entry (legal c.args.path.now prepared.utf8 prepared.path c.requires) prepared.within.0 complete in
    subst (λ (s : Shown g.row.S.Denot). IsOneTransaction g.S.Store s (record { conn = new; kept = c.forget_since.new.self.kept; next = c.self.inside.next }) (Err c.fault_of.result)
    (staging c.args.path.now entry s.kept)) c.self.view_is
    (refused_transaction g.S.Store c.self.inside.conn new c.self.inside.next c.self.inside.next kept (staging c.args.path.now entry kept) _ c.self.invariant same
    (g.met.S.Store.shut_if_dirty new.store) complete obeys (c.self.invariant.first, c.self.invariant.last) c.self.inside.next refl
    c.forget_since.new.self.kept now c.in-Err.error (c.in-Err.ensures (tables_of kept) c.self.inside.next kept.answers) c.fault_of.result _ _ _ _
    (c.in-Err.ensures (unnamed_in kept) c.self.inside.next kept.answers) (λ (h : 2 ≡ 0). let never : ⊥ = omega arith in never))

pub invariant_of-self-2 : goal.invariant_of-self-2
invariant_of-self-2 g c =
    let new = c.stage_rows.new.conn in
    let kept = c.self.inside.lists.kept in
    let entry : FileEntry = record { mode = c.args.mode; bytes = c.args.bytes.now } in
    let file : File = record { path = c.args.path.now; entry = entry } in
    let prepared = c.in_ok-file.ensures in
    let news = c.since.ensures ∙ ap₂ (λ (n : ℕ) (k : Kept). drop n k.contents) c.count-before.ensures prepared.kept in
    let same = staging_handed file (file_of c.in_ok-file.file) c.in_ok-file.file.path c.since.result.now kept prepared.rising prepared.file (ap (λ (f : File). f.path) prepared.file) news in
    let now = c.stage.ensures ∙ ap₂ (λ (f : File) (k : Kept). record k { repo = with_staged_file f.path f.entry k.repo }) prepared.file prepared.kept in
    let complete = complete_staged c.args.path.now entry kept c.self.invariant.complete prepared.within.1 prepared.apart in
    let obeys = obeys_staged kept c.self.invariant.obeys c.args.path.now entry (legal c.args.path.now prepared.utf8 prepared.path c.requires) prepared.within.0 complete in
    done_stands g.S.Store c.self.inside.conn new c.self.inside.next c.self.inside.next kept (staging c.args.path.now entry kept) _ c.self.invariant same (g.met.S.Store.shut_if_dirty new.store)
    complete obeys (c.self.invariant.first, c.self.invariant.last) c.self.inside.next refl
    c.stage.new.self.kept now c.in_default.field-0 (c.in_default.ensures (tables_of kept) c.self.inside.next kept.answers)

pub returns-clause-change : goal.returns-clause-change
returns-clause-change g c =
    let entry : FileEntry = record { mode = c.args.mode; bytes = c.args.bytes.now } in
    let prepared = c.in_ok-file.ensures in
    let now = c.stage.ensures ∙ ap₂ (λ (f : File) (k : Kept). record k { repo = with_staged_file f.path f.entry k.repo }) prepared.file prepared.kept in
    subst (λ (s : Shown g.row.S.Denot). IsAllOrNothing s.kept c.stage.new.self.kept (Ok tt) (staging c.args.path.now entry s.kept)) c.self.view_is (record { done = now; same = tt })

pub returns-clause-transaction : goal.returns-clause-transaction
returns-clause-transaction g c =
    let new = c.stage_rows.new.conn in
    let kept = c.self.inside.lists.kept in
    let entry : FileEntry = record { mode = c.args.mode; bytes = c.args.bytes.now } in
    let file : File = record { path = c.args.path.now; entry = entry } in
    let prepared = c.in_ok-file.ensures in
    let news = c.since.ensures ∙ ap₂ (λ (n : ℕ) (k : Kept). drop n k.contents) c.count-before.ensures prepared.kept in
    let same = staging_handed file (file_of c.in_ok-file.file) c.in_ok-file.file.path c.since.result.now kept prepared.rising prepared.file (ap (λ (f : File). f.path) prepared.file) news in
    let now = c.stage.ensures ∙ ap₂ (λ (f : File) (k : Kept). record k { repo = with_staged_file f.path f.entry k.repo }) prepared.file prepared.kept in
    let complete = complete_staged c.args.path.now entry kept c.self.invariant.complete prepared.within.1 prepared.apart in
    let obeys = obeys_staged kept c.self.invariant.obeys c.args.path.now entry (legal c.args.path.now prepared.utf8 prepared.path c.requires) prepared.within.0 complete in
    subst (λ (s : Shown g.row.S.Denot). IsOneTransaction g.S.Store s (record { conn = new; kept = c.stage.new.self.kept; next = c.self.inside.next }) (Ok tt) (staging c.args.path.now entry s.kept))
    c.self.view_is
    (done_transaction g.S.Store c.self.inside.conn new c.self.inside.next c.self.inside.next kept (staging c.args.path.now entry kept) _ c.self.invariant same (g.met.S.Store.shut_if_dirty new.store)
    complete obeys (c.self.invariant.first, c.self.invariant.last)
    (g.met.S.Store.settled new.store) c.self.inside.next refl c.stage.new.self.kept now c.in_default.field-0 (c.in_default.ensures (tables_of kept) c.self.inside.next kept.answers) tt _ _ _ _
    (c.in_default.ensures (unnamed_in kept) c.self.inside.next kept.answers) (λ (h : 2 ≡ 0). let never : ⊥ = omega arith in never))
