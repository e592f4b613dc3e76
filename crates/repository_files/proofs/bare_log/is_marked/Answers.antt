use Rattle.std.specs.Cmp.Lexicographic.{bytes_decides}
use Rattle.std.proofs.lemmas.Bool.Decides.{Decides-at}
use Rattle.sqlite_wal.specs.Format.{part}
use Rattle.repository_files.proofs.bare_log.is_marked.Goals as goal

pub returns : goal.returns
unfolding part
returns c = Decides-at c.eq.result _ c.eq.ensures (bytes_decides _ _)
