use Rattle.std.proofs.Common.{◌≡◌, drop}
use Rattle.file_tags.specs.TagTables.{tags_in, rows_of_tag_table}
use Rattle.file_tags.proofs.look_up.tags_in.Given as goal

abbrev pub invariant-rows : goal.invariant-rows
invariant-rows l = tags_in (rows_of_tag_table (drop l.row-index l.rows)) l.name ≡ tags_in (rows_of_tag_table l.rows) l.name
