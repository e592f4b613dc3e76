use Rattle.std.proofs.Common.{Bool, subst, sym}
use Rattle.result_book.specs.Contents.{IsHeld}
use Rattle.result_book.specs.Places.{shown_rows}
use Rattle.result_book.proofs.PlaceLemmas.{held_at}
use Rattle.result_book.proofs.rows.is_held.Goals as goal

pub returns : goal.returns
returns c = λ limit.
    subst (λ (held : Bool). IsHeld c.args.words.now c.args.seen.now (shown_rows limit c.args.rows.now) held) (sym c.is_some.ensures)
    (held_at c.args.words.now c.args.seen.now limit c.args.rows.now c.place_near.result c.place_near.ensures)
