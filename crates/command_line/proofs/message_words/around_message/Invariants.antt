use Rattle.std.proofs.Common.{◌≡◌, ◌++◌, map, drop, take}
use Rattle.command_line.specs.MessageWords.{words_for_clap}
use Rattle.command_line.proofs.message_words.around_message.Given as goal

-- the words so far stay as they are
abbrev pub invariant-words : goal.invariant-words
invariant-words l =
    words_for_clap (map (λ s. s.now) l.words) ≡ take l.place (map (λ s. s.now) l.words) ++ words_for_clap (drop l.place (map (λ s. s.now) l.words))
