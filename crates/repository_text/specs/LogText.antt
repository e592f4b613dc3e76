-- What `log` prints: a line for each commit, the newest first.
use Rattle.std.specs.Prelude.{ℕ, ◌+◌, Bool, ◌==◌, List, [], ◌∷◌, ◌++◌, codes}
use Rattle.std.specs.List.{before_first}
use Rattle.std.specs.Fmt.{decimal}
use Rattle.report_text.specs.Report.{line}
use Rattle.repo_store.specs.Repository.{Commit}

abbrev pub is_log_line_feed : ℕ → Bool
is_log_line_feed byte = byte == 10

-- the bytes before the first line feed, or all if there is none
abbrev pub first_line_of : List ℕ → List ℕ
first_line_of message = before_first is_log_line_feed message

abbrev pub log_line : ℕ → List ℕ → List ℕ
log_line number message = line (decimal number ++ codes " " ++ first_line_of message)

-- the commits are numbered from `number` on, and the list has the oldest first
abbrev pub log_text_from : ℕ → List Commit → List ℕ
log_text_from number [] = []
log_text_from number (commit ∷ later) = log_text_from (number + 1) later ++ log_line number commit.message

abbrev pub log_text : List Commit → List ℕ
log_text history = log_text_from 1 history
