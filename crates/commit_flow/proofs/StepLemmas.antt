-- A command has one answer.
use Rattle.std.proofs.Common.{◌≡◌, ◌⊎◌, ℕ, zero, suc, List, [], ◌∷◌, take, Option, None, Some, inl, inr, refl, sym, subst, ap, ap₂, ◌∙◌}
use Rattle.hook_base.specs.declared.file.Mode.{Mode}
use Rattle.hook_base.specs.declared.path_fault.PathFault.{PathFault}
use Rattle.hook_base.specs.Paths.{path_fault}
use Rattle.hook_run.specs.Parts.{Part}
use Rattle.repo_store.specs.declared.staging_edit.StagingEdit.{StagingEdit}
use Rattle.repo_store.specs.declared.staging_edit.StagingEdit.TheVariants as staging
use Rattle.repo_store.specs.Clashes.{Clashes}
use Rattle.store_faults.specs.Limits.{Fits, IsSmall}
use Rattle.repo_store.specs.Repository.{Repository}
use Rattle.commit_flow.specs.declared.command.Command.{Command}
use Rattle.commit_flow.specs.declared.command.Command.TheVariants.{Add, Remove, Stage, Accept, Run, Message, Commit, Forget, Limit}
use Rattle.commit_flow.specs.declared.host_refusal.HostRefusal.{HostRefusal}
use Rattle.commit_flow.specs.declared.host_refusal.HostRefusal.TheVariants.{OutOfMemory, Store, BadPath, NotStaged, TooLarge, TooMany, NoFixes, Collision, Clash}
use Rattle.commit_flow.specs.declared.reply.Reply.{Reply}
use Rattle.commit_flow.specs.declared.reply.Reply.TheVariants.{Added, Removed, Staged, Accepted, EditRefused, Refused}
use Rattle.commit_flow.specs.declared.staging_stop.StagingStop.{StagingStop}
use Rattle.commit_flow.specs.StepLaws.{IsDecided, IsDecidedRefusal, IsRunless}
use Rattle.commit_flow.specs.StagedPaths.{IsLegal, IsStaged}
use Rattle.commit_flow.specs.Steps.{AreEditsMade, AreEditsRefused, AreEditsStopped, HasFixes, IsAcceptRefusal, IsAddable, IsAddRefusal, IsEditMade, IsEditRefusal, IsEditRefusedAt, IsRemoveRefusal, Step, tree_with}

module _ (path : List ℕ) (fault : PathFault) (is : path_fault path ≡ Some fault) where
  not_legal : IsLegal path → ⊥
  not_legal legal = cc

same_fault : (path : List ℕ) (r s : HostRefusal) (a b : PathFault) → path_fault path ≡ Some a → r ≡ BadPath a → path_fault path ≡ Some b → s ≡ BadPath b → r ≡ s
same_fault path r s a b is first was second = cc

module _ (before : Repository) (path bytes : List ℕ) (asked : Option Mode) where
  abbrev AddWay : HostRefusal → Type 0
  AddWay r =
      ((fault : PathFault) × (path_fault path ≡ Some fault) × (r ≡ BadPath fault))
      ⊎ ((IsLegal path × (¬ IsSmall bytes) × (r ≡ TooLarge)) ⊎ ((IsLegal path × IsSmall bytes × Clashes path before.staged × (r ≡ Clash))
      ⊎ (IsAddable before path bytes × (¬ Fits (tree_with before path bytes asked)) × (r ≡ TooMany))))

  add_way : (r : HostRefusal) → IsAddRefusal before path bytes asked r → IsDecided (Refused r) → AddWay r
  add_way (BadPath fault) why own = inl (fault, why, refl)
  add_way TooLarge why own = inr (inl (why.0, why.1, refl))
  add_way Clash why own = inr (inr (inl (why.0, why.1, why.2, refl)))
  add_way TooMany why own = inr (inr (inr (why.0, why.1, refl)))
  add_way OutOfMemory why own = absurd own
  add_way (Store fault) why own = absurd own
  add_way Collision why own = absurd own
  add_way r why own = absurd why

  same_add : (r s : HostRefusal) → AddWay r → AddWay s → r ≡ s
  same_add r s (inl p) (inl q) = same_fault path r s p.0 q.0 p.1 p.2 q.1 q.2
  same_add r s (inl p) (inr (inl q)) = absurd (not_legal path p.0 p.1 q.0)
  same_add r s (inl p) (inr (inr (inl q))) = absurd (not_legal path p.0 p.1 q.0)
  same_add r s (inl p) (inr (inr (inr q))) = absurd (not_legal path p.0 p.1 q.0.legal)
  same_add r s (inr (inl p)) (inl q) = absurd (not_legal path q.0 q.1 p.0)
  same_add r s (inr (inl p)) (inr (inl q)) = p.2 ∙ sym q.2
  same_add r s (inr (inl p)) (inr (inr (inl q))) = absurd (p.1 q.1)
  same_add r s (inr (inl p)) (inr (inr (inr q))) = absurd (p.1 q.0.small)
  same_add r s (inr (inr (inl p))) (inl q) = absurd (not_legal path q.0 q.1 p.0)
  same_add r s (inr (inr (inl p))) (inr (inl q)) = absurd (q.1 p.1)
  same_add r s (inr (inr (inl p))) (inr (inr (inl q))) = p.3 ∙ sym q.3
  same_add r s (inr (inr (inl p))) (inr (inr (inr q))) = absurd (q.0.apart p.2)
  same_add r s (inr (inr (inr p))) (inl q) = absurd (not_legal path q.0 q.1 p.0.legal)
  same_add r s (inr (inr (inr p))) (inr (inl q)) = absurd (q.1 p.0.small)
  same_add r s (inr (inr (inr p))) (inr (inr (inl q))) = absurd (p.0.apart q.2)
  same_add r s (inr (inr (inr p))) (inr (inr (inr q))) = p.2 ∙ sym q.2

  not_added : (r : HostRefusal) → IsAddable before path bytes → Fits (tree_with before path bytes asked) → AddWay r → ⊥
  not_added r addable fits (inl p) = not_legal path p.0 p.1 addable.legal
  not_added r addable fits (inr (inl p)) = p.1 addable.small
  not_added r addable fits (inr (inr (inl p))) = addable.apart p.2
  not_added r addable fits (inr (inr (inr p))) = p.1 fits

module _ (before : Repository) (path : List ℕ) where
  abbrev RemoveWay : HostRefusal → Type 0
  RemoveWay r = ((fault : PathFault) × (path_fault path ≡ Some fault) × (r ≡ BadPath fault)) ⊎ (IsLegal path × (¬ IsStaged path before) × (r ≡ NotStaged))

  remove_way : (r : HostRefusal) → IsRemoveRefusal before path r → IsDecided (Refused r) → RemoveWay r
  remove_way (BadPath fault) why own = inl (fault, why, refl)
  remove_way NotStaged why own = inr (why.0, why.1, refl)
  remove_way OutOfMemory why own = absurd own
  remove_way (Store fault) why own = absurd own
  remove_way r why own = absurd why

  same_remove : (r s : HostRefusal) → RemoveWay r → RemoveWay s → r ≡ s
  same_remove r s (inl p) (inl q) = same_fault path r s p.0 q.0 p.1 p.2 q.1 q.2
  same_remove r s (inl p) (inr q) = absurd (not_legal path p.0 p.1 q.0)
  same_remove r s (inr p) (inl q) = absurd (not_legal path q.0 q.1 p.0)
  same_remove r s (inr p) (inr q) = p.2 ∙ sym q.2

  not_removed : (r : HostRefusal) → IsLegal path → IsStaged path before → RemoveWay r → ⊥
  not_removed r legal staged (inl p) = not_legal path p.0 p.1 legal
  not_removed r legal staged (inr p) = p.1 staged

no_fixes : (before : Repository) (r : HostRefusal) → IsAcceptRefusal before r → IsDecided (Refused r) → (before.fixes ≡ []) × (r ≡ NoFixes)
no_fixes before NoFixes why own = (why, refl)
no_fixes before OutOfMemory why own = absurd own
no_fixes before (Store fault) why own = absurd own
no_fixes before r why own = absurd why

same_accept : (before : Repository) (r s : HostRefusal) → IsAcceptRefusal before r → IsAcceptRefusal before s → IsDecided (Refused r) → IsDecided (Refused s) → r ≡ s
same_accept before r s why also own other = (no_fixes before r why own).1 ∙ sym ((no_fixes before s also other).1)

not_accepted : (before : Repository) (r : HostRefusal) → HasFixes before → IsAcceptRefusal before r → IsDecided (Refused r) → ⊥
not_accepted before r some why own = some ((no_fixes before r why own).0)

-- ---- several changes

same_made : (first : StagingEdit) (before after other : Repository) → IsEditMade first before after → IsEditMade first before other → after ≡ other
same_made (staging.Add path bytes asked) before after other p q = p.made ∙ sym q.made
same_made (staging.Remove path) before after other p q = p.made ∙ sym q.made

made_or_refused : (first : StagingEdit) (before after : Repository) (r : HostRefusal) → IsEditMade first before after → IsEditRefusal first before r → IsDecidedRefusal r → ⊥
made_or_refused (staging.Add path bytes asked) before after r p q own = not_added before path bytes asked r p.addable p.fits (add_way before path bytes asked r q own)
made_or_refused (staging.Remove path) before after r p q own = not_removed before path r p.legal p.staged (remove_way before path r q own)

same_refusal : (first : StagingEdit) (before : Repository) (r s : HostRefusal) → IsEditRefusal first before r → IsEditRefusal first before s → IsDecidedRefusal r → IsDecidedRefusal s → r ≡ s
same_refusal (staging.Add path bytes asked) before r s p q own also = same_add before path bytes asked r s (add_way before path bytes asked r p own) (add_way before path bytes asked s q also)
same_refusal (staging.Remove path) before r s p q own also = same_remove before path r s (remove_way before path r p own) (remove_way before path s q also)

same_edits : (edits : List StagingEdit) (before after other : Repository) → AreEditsMade edits before after → AreEditsMade edits before other → after ≡ other
same_edits [] before after other p q = p ∙ sym q
same_edits (first ∷ edits) before after other p q =
    let one = same_made first before p.0 q.0 p.1 q.1 in
    same_edits edits p.0 after other p.2 (subst (λ (from : Repository). AreEditsMade edits from other) (sym one) q.2)

-- the first of the changes is the one that is refused
head_refusal : (first other : StagingEdit) (before reached : Repository) (r : HostRefusal) → first ≡ other → reached ≡ before → IsEditRefusal other reached r → IsEditRefusal first before r
head_refusal first other before reached r is at why =
    subst (λ (one : StagingEdit). IsEditRefusal one before r) (sym is) (subst (λ (from : Repository). IsEditRefusal other from r) at why)

module _ (first : StagingEdit) (edits : List StagingEdit) (before : Repository) (r : HostRefusal) where
  at_head : IsEditRefusedAt (first ∷ edits) before r zero → IsEditRefusal first before r
  at_head p = let is = p.is in head_refusal first p.edit before p.reached r (cc) p.made p.why

  -- one after it is, of what it made
  behind_head : (at : ℕ) (from : Repository) → (p : IsEditRefusedAt (first ∷ edits) before r (suc at)) → p.made.0 ≡ from → IsEditRefusedAt edits from r at
  behind_head at from p same = record {
    reached = p.reached;
    made = subst (λ (start : Repository). AreEditsMade (take at edits) start p.reached) same p.made.2;
    edit = p.edit;
    is = p.is;
    why = p.why;
  }

none_at : (edit : StagingEdit) → None ≡ Some edit → ⊥
none_at edit is = cc

made_then_refused : (edits : List StagingEdit) (before after : Repository) (r : HostRefusal) (at : ℕ) → AreEditsMade edits before after → IsEditRefusedAt edits before r at → IsDecidedRefusal r → ⊥
made_then_refused [] before after r at p q own = none_at q.edit q.is
made_then_refused (first ∷ edits) before after r zero p q own = made_or_refused first before p.0 r p.1 (at_head first edits before r q) own
made_then_refused (first ∷ edits) before after r (suc at) p q own =
    made_then_refused edits p.0 after r at p.2 (behind_head first edits before r at p.0 q (same_made first before q.made.0 p.0 q.made.1 p.1)) own

same_refused_at : (edits : List StagingEdit) (before : Repository) (r s : HostRefusal) (i j : ℕ) → IsEditRefusedAt edits before r i → IsEditRefusedAt edits before s j
    → IsDecidedRefusal r → IsDecidedRefusal s → (r ≡ s) × (i ≡ j)
same_refused_at [] before r s i j p q own also = absurd (none_at p.edit p.is)
same_refused_at (first ∷ edits) before r s zero zero p q own also = (same_refusal first before r s (at_head first edits before r p) (at_head first edits before s q) own also, refl)
same_refused_at (first ∷ edits) before r s zero (suc j) p q own also = absurd (made_or_refused first before q.made.0 r q.made.1 (at_head first edits before r p) own)
same_refused_at (first ∷ edits) before r s (suc i) zero p q own also = absurd (made_or_refused first before p.made.0 s p.made.1 (at_head first edits before s q) also)
same_refused_at (first ∷ edits) before r s (suc i) (suc j) p q own also =
    let rest = same_refused_at edits p.made.0 r s i j (behind_head first edits before r i p.made.0 p refl)
    (behind_head first edits before s j p.made.0 q (same_made first before q.made.0 p.made.0 q.made.1 p.made.1)) own also in
    (rest.0, ap suc rest.1)

none_decided : (edits : List StagingEdit) (before : Repository) (r : HostRefusal) → AreEditsRefused edits before r → IsDecidedRefusal r → ⊥
none_decided edits before OutOfMemory why own = own
none_decided edits before (Store fault) why own = own
none_decided edits before r why own = why

made_and_stopped : (edits : List StagingEdit) (before after : Repository) (r : HostRefusal) (at : Option ℕ) → AreEditsMade edits before after → AreEditsStopped edits before r at → IsDecidedRefusal r
    → ⊥
made_and_stopped edits before after r (Some at) made stopped own = made_then_refused edits before after r at made stopped own
made_and_stopped edits before after r None made stopped own = none_decided edits before r stopped own

same_stopped : (edits : List StagingEdit) (before : Repository) (r s : HostRefusal) (i j : Option ℕ) → AreEditsStopped edits before r i → AreEditsStopped edits before s j
    → IsDecidedRefusal r → IsDecidedRefusal s → (r ≡ s) × (i ≡ j)
same_stopped edits before r s (Some i) (Some j) p q own also = let one = same_refused_at edits before r s i j p q own also in (one.0, ap Some one.1)
same_stopped edits before r s None j p q own also = absurd (none_decided edits before r p own)
same_stopped edits before r s (Some i) None p q own also = absurd (none_decided edits before s q also)

same_stops : (edits : List StagingEdit) (before : Repository) (r s : StagingStop) → AreEditsStopped edits before r.refusal r.at → AreEditsStopped edits before s.refusal s.at
    → IsDecidedRefusal r.refusal → IsDecidedRefusal s.refusal → EditRefused r ≡ EditRefused s
same_stops edits before r s p q own also =
    let one = same_stopped edits before r.refusal s.refusal r.at s.at p q own also in
    ap₂ (λ (refusal : HostRefusal) (at : Option ℕ). EditRefused (record { at = at; refusal = refusal })) one.0 one.1

abbrev pub AreOne : Reply → Reply → List Part → List Part → Repository → Repository → Type 0
AreOne reply second parts more after other = (reply ≡ second) × (parts ≡ more) × (after ≡ other)

edits_answer : (before after other : Repository) (edits : List StagingEdit) (reply second : Reply) (parts more : List Part)
    → Step before (Stage edits) reply parts after → Step before (Stage edits) second more other → IsDecided reply → IsDecided second → AreOne reply second parts more after other
edits_answer before after other edits Staged Staged parts more p q own also = (refl, p.1 ∙ sym q.1, same_edits edits before after other p.0 q.0)
edits_answer before after other edits Staged (EditRefused s) parts more p q own also = absurd (made_and_stopped edits before after s.refusal s.at p.0 q.0 also)
edits_answer before after other edits Staged (Refused s) parts more p q own also = absurd q.0
edits_answer before after other edits Staged second parts more p q own also = absurd q
edits_answer before after other edits (EditRefused r) Staged parts more p q own also = absurd (made_and_stopped edits before other r.refusal r.at q.0 p.0 own)
edits_answer before after other edits (EditRefused r) (EditRefused s) parts more p q own also = (same_stops edits before r s p.0 q.0 own also, p.1 ∙ sym q.1, p.2 ∙ sym q.2)
edits_answer before after other edits (EditRefused r) (Refused s) parts more p q own also = absurd q.0
edits_answer before after other edits (EditRefused r) second parts more p q own also = absurd q
edits_answer before after other edits (Refused r) second parts more p q own also = absurd p.0
edits_answer before after other edits reply second parts more p q own also = absurd p

pub one_answer : (before after other : Repository) (command : Command) (reply second : Reply) (parts more : List Part) → Step before command reply parts after → Step before command second more other
    → IsRunless command → IsDecided reply → IsDecided second → AreOne reply second parts more after other
one_answer before after other (Add path bytes asked) Added Added parts more p q runless own also = (refl, p.1 ∙ sym q.1, p.0.made ∙ sym q.0.made)
one_answer before after other (Add path bytes asked) Added (Refused s) parts more p q runless own also =
    absurd (not_added before path bytes asked s p.0.addable p.0.fits (add_way before path bytes asked s q.0.0 also))
one_answer before after other (Add path bytes asked) Added second parts more p q runless own also = absurd q
one_answer before after other (Add path bytes asked) (Refused r) Added parts more p q runless own also =
    absurd (not_added before path bytes asked r q.0.addable q.0.fits (add_way before path bytes asked r p.0.0 own))
one_answer before after other (Add path bytes asked) (Refused r) (Refused s) parts more p q runless own also =
    (ap Refused (same_add before path bytes asked r s (add_way before path bytes asked r p.0.0 own) (add_way before path bytes asked s q.0.0 also)), p.0.1 ∙ sym q.0.1, p.1 ∙ sym q.1)
one_answer before after other (Add path bytes asked) (Refused r) second parts more p q runless own also = absurd q
one_answer before after other (Add path bytes asked) reply second parts more p q runless own also = absurd p
one_answer before after other (Remove path) Removed Removed parts more p q runless own also = (refl, p.1 ∙ sym q.1, p.0.made ∙ sym q.0.made)
one_answer before after other (Remove path) Removed (Refused s) parts more p q runless own also = absurd (not_removed before path s p.0.legal p.0.staged (remove_way before path s q.0.0 also))
one_answer before after other (Remove path) Removed second parts more p q runless own also = absurd q
one_answer before after other (Remove path) (Refused r) Removed parts more p q runless own also = absurd (not_removed before path r q.0.legal q.0.staged (remove_way before path r p.0.0 own))
one_answer before after other (Remove path) (Refused r) (Refused s) parts more p q runless own also =
    (ap Refused (same_remove before path r s (remove_way before path r p.0.0 own) (remove_way before path s q.0.0 also)), p.0.1 ∙ sym q.0.1, p.1 ∙ sym q.1)
one_answer before after other (Remove path) (Refused r) second parts more p q runless own also = absurd q
one_answer before after other (Remove path) reply second parts more p q runless own also = absurd p
one_answer before after other (Stage edits) reply second parts more p q runless own also = edits_answer before after other edits reply second parts more p q own also
one_answer before after other Accept (Accepted n) (Accepted m) parts more p q runless own also = (ap Accepted (p.0.counted ∙ sym q.0.counted), p.1 ∙ sym q.1, p.0.made ∙ sym q.0.made)
one_answer before after other Accept (Accepted n) (Refused s) parts more p q runless own also = absurd (not_accepted before s p.0.some q.0.0 also)
one_answer before after other Accept (Accepted n) second parts more p q runless own also = absurd q
one_answer before after other Accept (Refused r) (Accepted m) parts more p q runless own also = absurd (not_accepted before r q.0.some p.0.0 own)
one_answer before after other Accept (Refused r) (Refused s) parts more p q runless own also = (ap Refused (same_accept before r s p.0.0 q.0.0 own also), p.0.1 ∙ sym q.0.1, p.1 ∙ sym q.1)
one_answer before after other Accept (Refused r) second parts more p q runless own also = absurd q
one_answer before after other Accept reply second parts more p q runless own also = absurd p
one_answer before after other (Run ask) reply second parts more p q runless own also = absurd runless
one_answer before after other (Message ask message) reply second parts more p q runless own also = absurd runless
one_answer before after other (Commit message no_verify skip) reply second parts more p q runless own also = absurd runless
one_answer before after other Forget reply second parts more p q runless own also = absurd runless
one_answer before after other (Limit most) reply second parts more p q runless own also = absurd runless
