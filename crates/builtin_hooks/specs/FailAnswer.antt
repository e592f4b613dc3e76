-- What a hook of the language `fail` answers (pre-commit.com, "fail").
use Rattle.std.specs.Prelude.{ℕ, List, [], ◌++◌, codes}
use Rattle.std.specs.List.{join_with_byte}
use Rattle.child_port.specs.declared.answer.Answer.{Answer}

-- the entry, an empty line, and the files, a line each
abbrev pub fail_output : List ℕ → List (List ℕ) → List ℕ
fail_output entry files = entry ++ codes "\n\n" ++ join_with_byte 10 files ++ codes "\n"

-- it always fails, and changes nothing
abbrev pub fail_answer : List ℕ → List (List ℕ) → Answer
fail_answer entry files = record { status = 1; output = fail_output entry files; changes = [] }
