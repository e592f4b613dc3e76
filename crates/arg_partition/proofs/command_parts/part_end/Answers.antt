use Rattle.std.proofs.Common.{◌≡◌, ◌<◌, ◌++◌, ◌∷◌, [], false, length, slice_range, arith}
use Rattle.arg_partition.proofs.PartLemmas.{can_be, too_long, goes_on, range-push}
use Rattle.arg_partition.specs.Rooms.{fits_room}
use Rattle.arg_partition.proofs.command_parts.part_end.Goals as goal

pub returns-in_default-clause-part : goal.returns-in_default-clause-part
returns-in_default-clause-part c =
    let within : c.names.end < length c.args.names.now = omega arith in
    let words = slice_range c.args.names.now c.args.start c.names.end in
    let name = c.index-names-end.result in
    let misfit : fits_room c.args.room (words ++ name ∷ []) ≡ false = rw (c.in_default.is, c.as_str.ensures.same) at (c.after.ensures c.args.room words c.names.invariant.3) in
    record {
      can_be = can_be c.args.room c.names.rest c.args.names.now c.args.most c.args.start c.names.end c.names.invariant.2 c.names.invariant.3;
      named = λ _. goes_on c.args.room c.args.names.now c.args.start c.names.end name c.requires.all_fit c.names.invariant.0 within c.index-names-end.is misfit;
      full = λ _. too_long c.args.room c.args.names.now c.args.most c.args.start c.names.end name c.names.invariant.0 within c.index-names-end.is misfit;
    }

pub returns-in_default-clause-forward : goal.returns-in_default-clause-forward
returns-in_default-clause-forward c =
    let within : c.names.end < length c.args.names.now = omega arith in
    let words = slice_range c.args.names.now c.args.start c.names.end in
    let name = c.index-names-end.result in
    let misfit : fits_room c.args.room (words ++ name ∷ []) ≡ false = rw (c.in_default.is, c.as_str.ensures.same) at (c.after.ensures c.args.room words c.names.invariant.3) in
    goes_on c.args.room c.args.names.now c.args.start c.names.end name c.requires.all_fit c.names.invariant.0 within c.index-names-end.is misfit

pub names-preserved : goal.names-preserved
names-preserved c =
    let within : c.names.end < length c.args.names.now = omega arith in
    let words = slice_range c.args.names.now c.args.start c.names.end in
    let step = (rw (c.in-Some.is, c.as_str.ensures.same) at (c.after.ensures c.args.room words c.names.invariant.3)).0 in
    (omega arith, omega arith, omega arith, rw (range-push c.args.names.now c.args.start c.names.end c.index-names-end.result c.names.invariant.0 within c.index-names-end.is) step)
