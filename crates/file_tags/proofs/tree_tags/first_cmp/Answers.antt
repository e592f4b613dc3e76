use Rattle.std.proofs.Common.{◌<◌, ◌∙◌, arith, length, refl}
use Rattle.std.proofs.lemmas.Bool.Decides.{nat_tests}
use Rattle.std.proofs.lemmas.Option.{slice_get_read}
use Rattle.file_tags.proofs.FollowLemmas.{cmp_found}
use Rattle.file_tags.proofs.tree_tags.first_cmp.Goals as goal

pub returns-in-Some : goal.returns-in-Some
returns-in-Some c =
    let paths = c.args.paths.now in
    let within : c.args.next < length paths = grind (arith, nat_tests, c.in-Some.ensures.lookup.0) in
    c.cmp.ensures ∙ cmp_found paths c.args.next c.in-Some.first.now c.args.path.now (slice_get_read paths (length paths) c.args.next c.in-Some.first.now refl within c.in-Some.ensures.lookup.1)
