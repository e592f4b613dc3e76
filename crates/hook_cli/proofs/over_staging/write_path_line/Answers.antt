use Rattle.std.proofs.Common.{[], ◌∷◌}
use Rattle.text_output.specs.OutputLemmas.{on-err, begun-before, both-on-err}
use Rattle.text_output.specs.QuotedPaths.{told_path}
use Rattle.hook_cli.proofs.over_staging.write_path_line.Goals as goal

pub returns-in_err-write_path-clause-err : goal.returns-in_err-write_path-clause-err
returns-in_err-write_path-clause-err g c =
    on-err c.from_residual.result
    (begun-before (g.E.Write.contents c.args.err.now) (g.E.Write.contents c.write_path.new.writer) (told_path c.args.path.now) (10 ∷ []) c.in_err-write_path.ensures.err)

pub returns-clause-err : goal.returns-clause-err
returns-clause-err g c =
    both-on-err c.write_pieces.result (g.E.Write.contents c.args.err.now) (g.E.Write.contents c.write_path.new.writer) (g.E.Write.contents c.write_pieces.new.writer)
    (told_path c.args.path.now) (10 ∷ []) c.in_ok-write_path.ensures.ok c.write_pieces.ensures.err
