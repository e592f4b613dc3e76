use Rattle.std.proofs.Common.{◌++◌, codes}
use Rattle.text_output.specs.OutputLemmas.{appends-more, both-on-ok}
use Rattle.text_output.specs.QuotedPaths.{told_path}
use Rattle.hookhost.proofs.stop.say_unusable.Goals as goal

pub returns : goal.returns
returns g c =
    let held = g.W.Write.contents c.args.writer.now in
    let mid = g.W.Write.contents c.write_path.new.writer in
    both-on-ok c.write_out-2.result held mid (g.W.Write.contents c.write_out-2.new.writer)
    (codes "hookhost: cannot use " ++ told_path c.args.name.now) (codes "\n")
    (appends-more held (g.W.Write.contents c.write_out.new.writer) mid (codes "hookhost: cannot use ") (told_path c.args.name.now)
    c.in_ok-write_out.ensures.ok c.in_ok-write_path.ensures.ok)
    c.write_out-2.ensures.ok
