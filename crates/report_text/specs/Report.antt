-- What a run reports of its hooks: the bytes of its report (docs/REFERENCE.md, "The report").
use Rattle.std.specs.Prelude.{ℕ, ◌+◌, ◌-◌, ◌==◌, ◌&&◌, ◌||◌, Bool, true, false, not, nat_le, max, if◌then◌else◌, List, [], ◌∷◌, ◌++◌, length, replicate, codes, chars}
use Rattle.std.specs.List.{flat_map}
use Rattle.std.specs.Fmt.{decimal}
use Rattle.unicode_width.specs.Width.{str_width}
use Rattle.child_port.specs.declared.fault.Fault.{Fault}
use Rattle.child_port.specs.declared.fault.Fault.TheVariants.{NotStarted, WaitFailed, Signal, OutputTooLong, ScratchFailed}
use Rattle.report_text.specs.declared.hook_result.Ending.{Ending}
use Rattle.report_text.specs.declared.hook_result.Ending.TheVariants.{SkippedAsked, SkippedNoFiles, Ran}
use Rattle.report_text.specs.declared.hook_result.HookResult.{HookResult}
use Rattle.report_text.specs.declared.hook_result.LineFault.{LineFault}
use Rattle.report_text.specs.declared.hook_result.LineFault.TheVariants.{Child, Misfit}

-- the columns that a text takes in a terminal
abbrev pub width_of : List ℕ → ℕ
width_of text = str_width false (chars text)

abbrev pub greatest_width : List (List ℕ) → ℕ
greatest_width [] = 0
greatest_width (name ∷ names) = max (width_of name) (greatest_width names)

-- the columns of a report, from the names of all hooks of the run, as `pre_commit.commands.run._compute_cols`
-- has them
abbrev pub columns_of : List (List ℕ) → ℕ
columns_of names = max 80 (greatest_width names + 30)

abbrev pub is_empty : {A : Type 0} → List A → Bool
is_empty [] = true
is_empty (x ∷ xs) = false

-- a hook that ran failed if a part had a fault, if its exit code isn't 0, or if it modified files
abbrev pub is_failed : Ending → Bool
is_failed SkippedAsked = false
is_failed SkippedNoFiles = false
is_failed (Ran status faults modified output) = not (status == 0) || (not (is_empty faults) || modified)

-- the text and a line feed
abbrev pub line : List ℕ → List ℕ
line text = text ++ 10 ∷ []

-- ---- the first line of a hook, as `pre_commit.commands.run._full_msg` writes it

abbrev pub postfix_of : Ending → List ℕ
postfix_of SkippedAsked = []
postfix_of SkippedNoFiles = codes "(no files to check)"
postfix_of (Ran status faults modified output) = []

abbrev pub word_of : Ending → List ℕ
word_of SkippedAsked = codes "Skipped"
word_of SkippedNoFiles = codes "Skipped"
word_of (Ran status faults modified output) =
    if is_failed (Ran status faults modified output) then codes "Failed" else codes "Passed"

-- the dots that fill the first line, up to the last column but one
abbrev pub dots_of : ℕ → HookResult → ℕ
dots_of columns result =
    columns - width_of result.name - length (postfix_of result.ending) - length (word_of result.ending) - 1

abbrev pub first_line : ℕ → HookResult → List ℕ
first_line columns result =
    line (result.name ++ replicate (dots_of columns result) 46 ++ postfix_of result.ending ++ word_of result.ending)

-- ---- the details of a hook that failed or is verbose: the lines of
-- `pre_commit.commands.run._run_single_hook`, without a duration and with the faults

abbrev pub id_line : List ℕ → List ℕ
id_line id = line (codes "- hook id: " ++ id)

abbrev pub status_line : ℕ → List ℕ
status_line status = if status == 0 then [] else line (codes "- exit code: " ++ decimal status)

abbrev pub child_fault_text : Fault → List ℕ
child_fault_text NotStarted = codes "- fault: could not be started"
child_fault_text WaitFailed = codes "- fault: could not be waited for"
child_fault_text Signal = codes "- fault: ended by a signal"
child_fault_text OutputTooLong = codes "- fault: output is longer than 1048576 bytes"
child_fault_text ScratchFailed = codes "- fault: files could not be written or read back"

abbrev pub fault_text : LineFault → List ℕ
fault_text (Child fault) = child_fault_text fault
fault_text Misfit = codes "- fault: a name does not fit the command"

-- one line for each fault, in the order of the parts
abbrev pub fault_lines : List LineFault → List ℕ
fault_lines faults = flat_map (λ fault. line (fault_text fault)) faults

abbrev pub modified_line : Bool → List ℕ
modified_line modified = if modified then line (codes "- files were modified by this hook") else []

-- tab, line feed, vertical tab, form feed, carriage return and space: what Python's `bytes.strip` removes
abbrev pub is_ascii_white_space : ℕ → Bool
is_ascii_white_space byte = (nat_le 9 byte && nat_le byte 13) || byte == 32

abbrev pub without_blanks_before : List ℕ → List ℕ
without_blanks_before [] = []
without_blanks_before (byte ∷ bytes) = if is_ascii_white_space byte then without_blanks_before bytes else byte ∷ bytes

-- the byte before the rest, left out if it is a blank and nothing follows
abbrev pub before_rest : ℕ → List ℕ → List ℕ
before_rest byte [] = if is_ascii_white_space byte then [] else byte ∷ []
before_rest byte (next ∷ rest) = byte ∷ next ∷ rest

abbrev pub without_blanks_after : List ℕ → List ℕ
without_blanks_after [] = []
without_blanks_after (byte ∷ bytes) = before_rest byte (without_blanks_after bytes)

-- without the blanks at both ends
abbrev pub trimmed : List ℕ → List ℕ
trimmed bytes = without_blanks_after (without_blanks_before bytes)

-- an empty line, the text and an empty line; nothing if the text is empty
abbrev pub block_of : List ℕ → List ℕ
block_of [] = []
block_of (byte ∷ bytes) = line [] ++ line (byte ∷ bytes) ++ line []

abbrev pub ending_lines : Ending → List ℕ
ending_lines SkippedAsked = []
ending_lines SkippedNoFiles = []
ending_lines (Ran status faults modified output) =
    status_line status ++ fault_lines faults ++ modified_line modified ++ block_of (trimmed output)

-- ---- a hook's text, and the report

abbrev pub has_details : HookResult → Bool
has_details result = is_failed result.ending || result.verbose

abbrev pub details_of : HookResult → List ℕ
details_of result = if has_details result then id_line result.id ++ ending_lines result.ending else []

abbrev pub hook_text : ℕ → HookResult → List ℕ
hook_text columns result = first_line columns result ++ details_of result

-- the texts of the hooks one after another; the names are those of all hooks of the run
abbrev pub report_text : List (List ℕ) → List HookResult → List ℕ
report_text names results = flat_map (hook_text (columns_of names)) results
