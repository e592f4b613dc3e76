-- How many children's faults the results of a run have.
use Rattle.std.specs.Prelude.{ℕ, ◌+◌, List, [], ◌∷◌}
use Rattle.report_text.specs.declared.hook_result.Ending.{Ending}
use Rattle.report_text.specs.declared.hook_result.Ending.TheVariants.{SkippedAsked, SkippedNoFiles, Ran}
use Rattle.report_text.specs.declared.hook_result.HookResult.{HookResult}
use Rattle.report_text.specs.declared.hook_result.LineFault.{LineFault}
use Rattle.report_text.specs.declared.hook_result.LineFault.TheVariants.{Child, Misfit}

-- how many of these faults are a child's: if a name doesn't fit, no child was started
abbrev pub child_faults_among : List LineFault → ℕ
child_faults_among [] = 0
child_faults_among (Child fault ∷ faults) = 1 + child_faults_among faults
child_faults_among (Misfit ∷ faults) = child_faults_among faults

-- how many a hook has that ended so: a skipped hook has none
abbrev pub child_faults_in : Ending → ℕ
child_faults_in SkippedAsked = 0
child_faults_in SkippedNoFiles = 0
child_faults_in (Ran status faults modified output) = child_faults_among faults

-- how many all hooks have
abbrev pub child_faults : List HookResult → ℕ
child_faults [] = 0
child_faults (result ∷ results) = child_faults_in result.ending + child_faults results
