use Rattle.std.proofs.Common.{◌≡◌, take}
use Rattle.file_tags.specs.ChangedFiles.{paths_named}
use Rattle.file_tags.specs.TagTables.{texts_of}
use Rattle.file_tags.proofs.changed_paths.paths_named.Given as goal

abbrev pub invariant-changes : goal.invariant-changes
invariant-changes l = texts_of l.paths.items ≡ paths_named (take l.change-index l.changes)
