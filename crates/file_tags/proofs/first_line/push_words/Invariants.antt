use Rattle.std.proofs.Common.{◌≡◌, ◌++◌}
use Rattle.std.specs.List.{filter}
use Rattle.file_tags.specs.Shebangs.{is_shebang_word}
use Rattle.file_tags.specs.TagTables.{texts_of}
use Rattle.file_tags.proofs.first_line.push_words.Given as goal

abbrev pub invariant-words : goal.invariant-words
invariant-words l = l.words.items ≡ l.initial.words.items ++ filter is_shebang_word (texts_of l.yielded)
