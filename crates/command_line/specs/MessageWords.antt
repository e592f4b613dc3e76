-- The words of a line as `clap` gets them. It reads a value that begins with `-` as an option, unless the
-- value is joined to its option's name.
use Rattle.std.specs.Prelude.{List, [], ◌∷◌, ◌++◌, codes, if◌then◌else◌}
use Rattle.std.specs.Str.{bytes_eq}
use Rattle.clap.specs.Words.{Text}

-- `-m` and its message in one word, which `clap` takes whatever the message is
abbrev pub joined_message : Text → Text
joined_message message = codes "-m=" ++ message

-- `-m` and the words after it, the first of which is the message
abbrev pub message_joined : List Text → List Text
message_joined [] = codes "-m" ∷ []
message_joined (message ∷ words) = joined_message message ∷ words

-- the word after the first `-m` is its message, unless `--` comes before it
abbrev pub words_for_clap : List Text → List Text
words_for_clap [] = []
words_for_clap (word ∷ words) =
    if bytes_eq word (codes "--") then word ∷ words
    else (if bytes_eq word (codes "-m") then message_joined words else word ∷ words_for_clap words)
