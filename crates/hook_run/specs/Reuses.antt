-- Which cached results a run may use, and for which parts it needs a child. (docs/REFERENCE.md, "Cached
-- results".)
use Rattle.std.specs.Prelude.{◌≡◌, ◌==◌, ◌&&◌, ℕ, Bool, true, false, List, [], ◌∷◌, Option, None, Some}
use Rattle.child_port.specs.declared.answer.Answer.{Answer}
use Rattle.hook_base.specs.declared.change.Change.{Change}
use Rattle.hook_base.specs.declared.file.File.{File}
use Rattle.result_book.specs.Contents.{Contents, Finds}
use Rattle.hook_run.specs.declared.reuse.Reuse.{Reuse}
use Rattle.hook_run.specs.declared.reuse.Reuse.TheVariants.{All, Passed, Nothing}

-- there is no change
abbrev pub is_without : List Change → Bool
is_without [] = true
is_without (change ∷ changes) = false

-- the answer passed: its status is 0, and it changed no file
abbrev pub is_pass : Answer → Bool
is_pass answer = answer.status == 0 && is_without answer.changes

-- the run may use a cached result in place of a child: each, only one that passed, or none
abbrev pub serves : Reuse → Answer → Bool
serves All answer = true
serves Passed answer = is_pass answer
serves Nothing answer = false

-- a child is needed if nothing was found, or if the run may not use what was found
abbrev pub NeedsStart : Reuse → Option Answer → Type 0
NeedsStart reuse None = Unit {0}
NeedsStart reuse (Some found) = serves reuse found ≡ false

-- no result that the run may use is cached for the words and the seen files
pub record LacksServing (reuse : Reuse) (words : List (List ℕ)) (seen : List File)
    (remembered : Contents) : Type 0 where
  pub found : Option Answer
  pub finds : Finds words seen remembered found
  pub needs : NeedsStart reuse found
