use Rattle.std.proofs.Common.{◌≡◌, ◌∷◌}
use Rattle.file_tags.specs.TagTables.{texts_of, name_rows, tags_of_first}
use Rattle.file_tags.proofs.look_up.name_tags.Given as goal

abbrev pub invariant-pieces : goal.invariant-pieces
invariant-pieces l = texts_of l.tags ≡ tags_of_first name_rows (l.name ∷ texts_of l.yielded)
