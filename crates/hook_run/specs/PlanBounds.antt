-- The most parts that may be left of a plan. Each outcome makes them fewer, so each plan ends.
use Rattle.std.specs.Prelude.{ℕ, ◌+◌, List, [], ◌∷◌, length, Option, None, Some}
use Rattle.hook_base.specs.declared.file.File.{File}
use Rattle.hook_config.specs.declared.configuration.Hook.{Hook}
use Rattle.hook_run.specs.Plans.{AtPart, Plan}

-- how many parts are left of the hook that waits, if there is one
abbrev pub parts_at : Option AtPart → ℕ
parts_at None = 0
parts_at (Some at) = 1 + length at.behind

-- a hook has at most one part for each file of the tree, or one without names
abbrev pub most_of_hooks : List Hook → List File → ℕ
most_of_hooks [] tree = 0
most_of_hooks (hook ∷ hooks) tree = 1 + length tree + most_of_hooks hooks tree

abbrev pub most_left : Plan → ℕ
most_left plan = parts_at plan.waiting + most_of_hooks plan.hooks plan.done.tree
