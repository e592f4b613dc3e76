use Rattle.std.specs.Prelude.{codes}
use Rattle.report_text.specs.Report.{line}
use Rattle.text_output.specs.OutputLemmas.{on-err, begun-before, both-on-err, both-on-ok}
use Rattle.text_output.specs.QuotedPaths.{told_path}
use Rattle.hook_cli.proofs.over_staging.write_at_path.Goals as goal

pub returns-in_err-write_pieces-clause-err : goal.returns-in_err-write_pieces-clause-err
returns-in_err-write_pieces-clause-err g c =
    on-err c.from_residual.result
    (begun-before (g.E.Write.contents c.args.err.now) (g.E.Write.contents c.write_pieces.new.writer) (codes "hookhost: at ") (line (told_path c.args.path.now))
    c.in_err-write_pieces.ensures.err)

pub returns-clause-ok : goal.returns-clause-ok
returns-clause-ok g c =
    both-on-ok c.write_path_line.result (g.E.Write.contents c.args.err.now) (g.E.Write.contents c.write_pieces.new.writer) (g.E.Write.contents c.write_path_line.new.err)
    (codes "hookhost: at ") (line (told_path c.args.path.now)) c.in_ok-write_pieces.ensures.ok c.write_path_line.ensures.ok

pub returns-clause-err : goal.returns-clause-err
returns-clause-err g c =
    both-on-err c.write_path_line.result (g.E.Write.contents c.args.err.now) (g.E.Write.contents c.write_pieces.new.writer) (g.E.Write.contents c.write_path_line.new.err)
    (codes "hookhost: at ") (line (told_path c.args.path.now)) c.in_ok-write_pieces.ensures.ok c.write_path_line.ensures.err
