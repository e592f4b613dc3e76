-- What a text has beyond what is shown already.
use Rattle.std.specs.Prelude.{ℕ, ◌==◌, Bool, true, false, if◌then◌else◌, List, [], drop, length}
use Rattle.std.specs.List.{starts_with}
use Rattle.hookhost.specs.declared.shown_report.Screen.{Screen}
use Rattle.hookhost.specs.declared.shown_report.Screen.TheVariants.{Output, Error}
use Rattle.hookhost.specs.declared.shown_report.ShownReport.{ShownReport}

abbrev pub text_begins_with : List ℕ → List ℕ → Bool
text_begins_with beginning text = starts_with (λ a b. a == b) text beginning

-- what is shown begins with the text
abbrev pub is_all_shown : List ℕ → List ℕ → Bool
is_all_shown shown text = text_begins_with text shown

-- What follows of the text. A text that doesn't go on with what is shown isn't shown at all.
abbrev pub unshown : List ℕ → List ℕ → List ℕ
unshown shown text =
    if is_all_shown shown text then []
    else (if text_begins_with shown text then drop (length shown) text else text)

abbrev pub is_output : Screen → Bool
is_output (Output output) = true
is_output (Error error noted) = false

-- what standard output lacks of a text with which the report goes on: all of it, if the report is shown on
-- standard error
abbrev pub rest_of_report : ShownReport → List ℕ → List ℕ
rest_of_report report text =
    if is_output report.screen then unshown (drop report.written report.shown.items) text else text
