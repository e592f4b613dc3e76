-- What standard error says of a refused command over a repository.
use Rattle.std.specs.Prelude.{ℕ, List, [], ◌++◌, codes, Option, None, Some}
use Rattle.std.specs.Fmt.{decimal}
use Rattle.report_text.specs.Report.{line}
use Rattle.commit_flow.specs.declared.host_refusal.HostRefusal.{HostRefusal}
use Rattle.commit_flow.specs.Refusals.{inner_number_of, host_refusal_name, host_refusal_number}

-- a blank and the number of the inner fault, if the refusal has one
abbrev pub inner_text : Option ℕ → List ℕ
inner_text None = []
inner_text (Some number) = codes " " ++ decimal number

abbrev pub refusal_text : HostRefusal → List ℕ
refusal_text refusal =
    line (codes "hookhost: refused: " ++ decimal (host_refusal_number refusal) ++ codes " " ++ host_refusal_name
    refusal ++ inner_text (inner_number_of refusal))

-- no commit has the number
abbrev pub no_commit_text : ℕ → List ℕ
no_commit_text number = line (codes "hookhost: no commit " ++ decimal number)

-- no fix gives bytes to the path
abbrev pub no_fixed_text : List ℕ → List ℕ
no_fixed_text path = line (codes "hookhost: no fixed bytes of " ++ path)

-- the commit has no file at the path
abbrev pub no_file_text : ℕ → List ℕ → List ℕ
no_file_text number path = line (codes "hookhost: no " ++ path ++ codes " in commit " ++ decimal number)
