use Rattle.std.proofs.Common.{sym}
use Rattle.path_select.proofs.TypeLemmas.{fits_types_of_every_file}
use Rattle.path_select.specs.Selection.{texts_of_rules}
use Rattle.path_select.proofs.type_rules.fits_types.Goals as goal

pub returns-then-asks_for_none : goal.returns-then-asks_for_none
returns-then-asks_for_none c =
    sym (fits_types_of_every_file (texts_of_rules c.args.rules.now) (c.asks_for_none.ensures c.if-asks_for_none.true) c.args.path.now c.args.entry.now)
