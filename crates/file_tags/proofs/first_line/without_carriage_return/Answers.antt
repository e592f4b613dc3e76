use Rattle.std.proofs.Common.{sym, lit<}
use Rattle.std.proofs.lemmas.Str.Pattern.{strip_suffix_char}
use Rattle.file_tags.proofs.WordLemmas.{without_carriage_return_at_end, without_carriage_return_where_none}
use Rattle.file_tags.proofs.first_line.without_carriage_return.Goals as goal

pub returns-in-Some : goal.returns-in-Some
returns-in-Some c =
    let cut = rw c.in-Some.is at (strip_suffix_char 13 c.args.line.now c.strip_suffix.result c.strip_suffix.ensures.cases (lit< tt)) in
    rw cut (sym (without_carriage_return_at_end c.in-Some.front.now))

pub returns-in-None : goal.returns-in-None
returns-in-None c =
    let none = rw c.in-None.is at (strip_suffix_char 13 c.args.line.now c.strip_suffix.result c.strip_suffix.ensures.cases (lit< tt)) in
    sym (without_carriage_return_where_none c.args.line.now none)
