use Rattle.std.proofs.Common.{◌∙◌, inr, refl, sym, ap}
use Rattle.arg_partition.proofs.RoomLemmas.{fits_behind, misfit_in}
use Rattle.arg_partition.specs.Parts.{too_long_at}
use Rattle.arg_partition.proofs.command_parts.parts.Goals as goal

pub returns-in-Some-misfit-clause-refused : goal.returns-in-Some-misfit-clause-refused
returns-in-Some-misfit-clause-refused c =
    let same = fits_behind c.args.limit c.args.words.now c.in-Some.room c.in-Some.ensures in
    inr (c.in-Some-misfit.index, refl, ap (λ test. too_long_at test c.args.names.now) (sym same) ∙ (sym (misfit_in c.in-Some.room c.args.names.now) ∙ (sym c.misfit.ensures ∙ c.in-Some-misfit.is)))

pub returns-clause-all_fit : goal.returns-clause-all_fit
returns-clause-all_fit c =
    let same = fits_behind c.args.limit c.args.words.now c.in-Some.room c.in-Some.ensures in
    ap (λ test. too_long_at test c.args.names.now) (sym same) ∙ (sym (misfit_in c.in-Some.room c.args.names.now) ∙ (sym c.misfit.ensures ∙ c.in_default-misfit.is))
