use Rattle.std.proofs.Common.{◌++◌}
use Rattle.text_output.specs.OutputLemmas.{appends-more, both-on-ok}
use Rattle.text_output.specs.QuotedPaths.{told_path}
use Rattle.hookhost.specs.ObstacleLines.{error_after}
use Rattle.hookhost.proofs.obstacle_lines.say.Goals as goal

pub returns : goal.returns
returns g c =
    let held = g.W.Write.contents c.args.writer.now in
    let mid = g.W.Write.contents c.write_path.new.writer in
    both-on-ok c.say_error.result held mid (g.W.Write.contents c.say_error.new.writer)
    (c.args.before.now ++ told_path c.args.place.now) (error_after c.args.error.now)
    (appends-more held (g.W.Write.contents c.write_out.new.writer) mid c.args.before.now (told_path c.args.place.now)
    (rw c.as_bytes.ensures.value at c.in_ok-write_out.ensures.ok) c.in_ok-write_path.ensures.ok)
    c.say_error.ensures
