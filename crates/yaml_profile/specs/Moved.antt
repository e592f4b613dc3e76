-- Words of the law of indentation: lines that are all indented by so many spaces more. (YAML 1.2.2, section
-- 6.1 "Indentation Spaces".)
use Rattle.std.specs.Prelude.{ℕ, ◌+◌}
use Rattle.yaml_lines.specs.Entries.{ContentLine}

-- the line, so many columns further to the right
abbrev pub moved : ℕ → ContentLine → ContentLine
moved columns line = record { indent = line.indent + columns; content = line.content; block = line.block }
