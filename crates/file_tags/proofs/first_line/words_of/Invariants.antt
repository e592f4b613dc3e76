use Rattle.std.proofs.Common.{◌≡◌}
use Rattle.std.specs.List.{filter}
use Rattle.file_tags.specs.Shebangs.{is_shebang_word}
use Rattle.file_tags.specs.TagTables.{texts_of}
use Rattle.file_tags.proofs.WordLemmas.{tab_parts}
use Rattle.file_tags.proofs.first_line.words_of.Given as goal

abbrev pub invariant-parts : goal.invariant-parts
invariant-parts l = l.words.items ≡ filter is_shebang_word (tab_parts (texts_of l.yielded))
