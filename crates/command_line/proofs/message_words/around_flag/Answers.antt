use Rattle.command_line.proofs.MessageLemmas.{before_flag, behind_flag}
use Rattle.command_line.proofs.message_words.around_flag.Goals as goal

pub returns-in-len2-up : goal.returns-in-len2-up
returns-in-len2-up c =
    let cases = c.in_ok-before.ensures.cases in
    (before_flag c.args.words.now c.args.place c.in_ok-before.before.now cases.1, behind_flag c.args.words.now c.args.place c.in_ok-before.others.now _ cases.2 c.in-len2-up.len_at_least)
