use Rattle.std.proofs.Common.{◌++◌, codes}
use Rattle.text_output.specs.OutputLemmas.{appends-more, both-on-ok}
use Rattle.hookhost.proofs.obstacle_lines.say_error.Goals as goal

pub returns : goal.returns
returns g c =
    let held = g.W.Write.contents c.args.writer.now in
    let mid = g.W.Write.contents c.write_out-2.new.writer in
    both-on-ok c.write_out-3.result held mid (g.W.Write.contents c.write_out-3.new.writer)
    (codes ": " ++ c.args.error.now) (codes "\n")
    (appends-more held (g.W.Write.contents c.write_out.new.writer) mid (codes ": ") c.args.error.now
    c.in_ok-write_out.ensures.ok (rw c.as_bytes.ensures.value at c.in_ok-write_out-2.ensures.ok))
    c.write_out-3.ensures.ok
