use Rattle.std.proofs.Common.{◌≡◌, ◌++◌, List, ℕ, string_bytes, encode_utf8_all}
use Rattle.child_display.specs.Lines.{cut_to}
use Rattle.child_display.proofs.line.push_cut.Given as goal

-- what was put there, and what still fits of any rest, is what fits of what was taken and of that rest
abbrev pub invariant-characters : goal.invariant-characters
invariant-characters l =
    (rest : List ℕ) → string_bytes l.line ++ encode_utf8_all (cut_to l.left rest) ≡ string_bytes l.initial.line ++ encode_utf8_all (cut_to l.columns (l.yielded ++ rest))
