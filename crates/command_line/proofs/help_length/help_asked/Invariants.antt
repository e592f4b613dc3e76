use Rattle.std.proofs.Common.{◌≡◌, map, drop}
use Rattle.command_line.specs.HelpLengths.{help_asked}
use Rattle.command_line.proofs.help_length.help_asked.Given as goal

-- none of the words so far asks for help
abbrev pub invariant-words : goal.invariant-words
invariant-words l = help_asked (map (λ s. s.now) l.words) ≡ help_asked (map (λ s. s.now) (drop l.word-index l.words))
