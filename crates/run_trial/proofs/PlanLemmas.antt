-- What the child that a plan needs sees is a part of the tree that it runs on.
use Rattle.std.proofs.Common.{◌≡◌, sym, subst, List, Option, None, Some}
use Rattle.child_port.specs.SeenLemmas.{IsPartOf-seen_of}
use Rattle.hook_base.specs.declared.file.File.{File}
use Rattle.hook_base.specs.Trees.{IsPartOf}
use Rattle.hook_run.specs.HookRun.{further_of, sees_whole}
use Rattle.hook_run.specs.Plans.{AtPart, Plan, seen_at, seen_of_plan, tree_of_plan}

seen-at : (waiting : Option AtPart) (tree : List File) → IsPartOf (seen_at waiting tree) tree
seen-at None tree = record { held = λ path entry found. cc }
seen-at (Some at) tree = IsPartOf-seen_of at.command (further_of at.hook tree) (sees_whole at.hook) tree

pub seen-part : (plan : Plan) (seen tree : List File) → seen ≡ seen_of_plan plan → tree ≡ tree_of_plan plan → IsPartOf seen tree
seen-part plan seen tree sees on =
    subst (λ (t : List File). IsPartOf seen t) (sym on) (subst (λ (s : List File). IsPartOf s plan.done.tree) (sym sees) (seen-at plan.waiting plan.done.tree))
