-- Words of the law of quoting: a plain text alone in its content, and the content with quotes around it.
-- (YAML 1.2.2, sections 7.3.1 "Double-Quoted Style", 7.3.2 "Single-Quoted Style" and 7.3.3 "Plain Style".)
use Rattle.std.specs.Prelude.{◌≡◌, ℕ, Bool, true, not, ◌||◌, ◌++◌, List, [], ◌∷◌, Some, ◌==◌, if◌then◌else◌}
use Rattle.std.specs.List.{list_all, flat_map}
use Rattle.yaml_lines.specs.Plain.{plain_of, trim_end, uncommented}

-- the content is a plain text of these bytes and nothing else: it holds no comment, and no blank is at its
-- end
pub record IsPlainAlone (content bytes : List ℕ) : Type 0 where
  pub plain : plain_of content ≡ Some bytes
  pub without_comment : uncommented true content ≡ content
  pub without_blanks : trim_end content ≡ content

-- the content between two quotes
abbrev pub in_quotes : ℕ → List ℕ → List ℕ
in_quotes quote content = quote ∷ (content ++ quote ∷ [])

-- no single quote and no line feed
abbrev pub fits_single : List ℕ → Bool
fits_single content = list_all (λ c. not (c == 39 || c == 10)) content

-- no double quote, no backslash and no line feed
abbrev pub fits_double : List ℕ → Bool
fits_double content = list_all (λ c. not (c == 34 || c == 92 || c == 10)) content

-- each single quote twice
abbrev pub doubled : ℕ → List ℕ
doubled c = if c == 39 then 39 ∷ 39 ∷ [] else c ∷ []

-- a backslash before a double quote and before a backslash, and `\n` for a line feed
abbrev pub escaped : ℕ → List ℕ
escaped c = if c == 34 || c == 92 then 92 ∷ c ∷ [] else (if c == 10 then 92 ∷ 110 ∷ [] else c ∷ [])

-- the characters, each written by `write`
abbrev pub written : (ℕ → List ℕ) → List ℕ → List ℕ
written write characters = flat_map write characters

abbrev pub holds_no_feed : List ℕ → Bool
holds_no_feed characters = list_all (λ c. not (c == 10)) characters
