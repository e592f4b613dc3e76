use Rattle.std.proofs.Common.{rules}
use Rattle.std.proofs.lemmas.Str.{chars-IsAscii, chars_from_encodes}
use Rattle.yaml_lines.proofs.decode.all_characters.Goals as goal

pub returns-then-is_ascii-clause-value : goal.returns-then-is_ascii-clause-value
returns-then-is_ascii-clause-value c = search (rules, chars-IsAscii)

pub returns-clause-value : goal.returns-clause-value
returns-clause-value c = search (rules, chars_from_encodes)
