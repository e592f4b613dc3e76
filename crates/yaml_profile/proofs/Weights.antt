-- How many bytes characters take in UTF-8, and that what is read from them takes no more.
use Rattle.std.proofs.Common.{◌≡◌, ℕ, zero, suc, ◌+◌, ◌*◌, ◌≤◌, Bool, true, false, cond, ◌&&◌, ◌||◌, eqb, List, [], ◌∷◌, ◌++◌, length, take, drop, Option, Some, None, refl, arith}
use Rattle.std.specs.Char.{encode_utf8}
use Rattle.std.specs.Str.{encode_utf8_all}
use Rattle.std.specs.List.{prefix_len}
use Rattle.std.proofs.lemmas.List.{length-append}
use Rattle.std.proofs.lemmas.Str.{length-encode, len_utf8_bounds}
use Rattle.yaml_lines.specs.Characters.{is_blank, is_nil, comment_or_end, trim_start}
use Rattle.yaml_lines.specs.Entries.{KeyAndValue, value_behind, plain_entry, quoted_entry, behind_colon, entry_of_line}
use Rattle.yaml_lines.specs.FlowGaps.{behind_gap, after_gap, is_of_gap, in_comment}
use Rattle.yaml_lines.specs.FlowTexts.{FlowText, plain_text, plain_extent, plain_at, quoted_text, text_at}
use Rattle.yaml_lines.specs.FlowTexts as flow_texts
use Rattle.yaml_lines.specs.Plain.{begins_plain, uncommented, trim_end, Sides, before_side, sides_of, plain_of}
use Rattle.yaml_lines.specs.Quoted.{QuotedStep, after_quote, single_step, coded, pair_of, two_digits, four_digits, named, escaped, double_step, step_of, Quoted, quoted_within, is_quote, begins_quoted, quoted_of}
use Rattle.yaml_lines.specs.Quoted as quotes
use Rattle.yaml_profile.proofs.Holds.{Holds, map_to, then_any, then_to, either, if_true, weaker}

abbrev pub weight : List ℕ → ℕ
weight cs = length (encode_utf8_all cs)

abbrev size : ℕ → ℕ
size c = length (encode_utf8 c)

pub weight-cons : (c : ℕ) (cs : List ℕ) → weight (c ∷ cs) ≡ size c + weight cs
weight-cons c cs = length-append (encode_utf8 c) (encode_utf8_all cs)

pub some_size : (c : ℕ) → 1 ≤ size c
some_size c = let bounds = len_utf8_bounds c in let least = bounds.0 in let same = length-encode c in omega arith

most_size : (c : ℕ) → size c ≤ 4
most_size c = let bounds = len_utf8_bounds c in let most = bounds.1 in let same = length-encode c in omega arith

pub one_less : (c : ℕ) (cs : List ℕ) → 1 + weight cs ≤ weight (c ∷ cs)
one_less c cs = let all = weight-cons c cs in let some = some_size c in omega arith

abbrev IsWithin : ℕ → List ℕ → Type 0
IsWithin n cs = weight cs ≤ n

one_of : (n : ℕ) (b : Bool) (cs ds : List ℕ) → weight cs ≤ n → weight ds ≤ n → weight (cond b cs ds) ≤ n
one_of n true cs ds h k = h
one_of n false cs ds h k = k

pub drop_within : (i : ℕ) (cs : List ℕ) → weight (drop i cs) ≤ weight cs
drop_within zero cs = omega arith
drop_within (suc i) [] = omega arith
drop_within (suc i) (c ∷ cs) = let rest = drop_within i cs in let less = one_less c cs in omega arith

take_within : (i : ℕ) (cs : List ℕ) → weight (take i cs) ≤ weight cs
take_within zero cs = omega arith
take_within (suc i) [] = omega arith
take_within (suc i) (c ∷ cs) = let rest = take_within i cs in let less = weight-cons c cs in let front = weight-cons c (take i cs) in omega arith

gap_within : (comment free : Bool) (cs : List ℕ) → weight (behind_gap comment free cs) ≤ weight cs
unfolding behind_gap
gap_within comment free [] = omega arith
gap_within comment free (c ∷ cs) =
    let rest = gap_within (in_comment comment c) true cs in
    let less = one_less c cs in
    one_of (weight (c ∷ cs)) (is_of_gap comment free c) (behind_gap (in_comment comment c) true cs) (c ∷ cs) (omega arith) (omega arith)

pub after_gap_within : (cs : List ℕ) → weight (after_gap cs) ≤ weight cs
after_gap_within cs = gap_within false false cs

trim_within : (cs : List ℕ) → weight (trim_end cs) ≤ weight cs
unfolding trim_end
trim_within [] = omega arith
trim_within (c ∷ cs) =
    let rest = trim_within cs in
    let all = weight-cons c cs in
    let front = weight-cons c (trim_end cs) in
    one_of (weight (c ∷ cs)) (is_blank c && is_nil (trim_end cs)) [] (c ∷ trim_end cs) (omega arith) (omega arith)

uncommented_within : (free : Bool) (cs : List ℕ) → weight (uncommented free cs) ≤ weight cs
unfolding uncommented
uncommented_within free [] = omega arith
uncommented_within free (c ∷ cs) =
    let rest = uncommented_within (is_blank c) cs in
    let all = weight-cons c cs in
    let front = weight-cons c (uncommented (is_blank c) cs) in
    one_of (weight (c ∷ cs)) (free && eqb c 35) [] (c ∷ uncommented (is_blank c) cs) (omega arith) (omega arith)

-- ---- quoted texts

abbrev character_size : Option ℕ → ℕ
character_size None = 0
character_size (Some c) = size c

-- the step's character and what follows take no more than this
abbrev StepWithin : ℕ → QuotedStep → Type 0
StepWithin n step = character_size step.character + weight step.rest ≤ n

either_step : (n : ℕ) (b : Bool) (s t : QuotedStep) → StepWithin n s → StepWithin n t → StepWithin n (cond b s t)
either_step n true s t h k = h
either_step n false s t h k = k

one_byte : size 39 ≡ 1
unfolding encode_utf8
one_byte = refl

quote_within : (cs : List ℕ) → StepWithin (weight cs) (after_quote cs)
quote_within [] = omega arith
quote_within (c ∷ cs) =
    let less = one_less c cs in
    let one = one_byte in
    either_step (weight (c ∷ cs)) (eqb c 39) (record { character = Some 39; rest = cs }) (record { character = None; rest = c ∷ cs }) (omega arith) (omega arith)

same_step : (c : ℕ) (cs : List ℕ) → StepWithin (weight (c ∷ cs)) (record { character = Some c; rest = cs })
same_step c cs = let all = weight-cons c cs in omega arith

single_within : (cs : List ℕ) → Holds (StepWithin (weight cs)) (single_step cs)
unfolding single_step
single_within [] = tt
single_within (c ∷ cs) =
    let P = StepWithin (weight (c ∷ cs)) in
    let quote = quote_within cs in
    let less = one_less c cs in
    either P (eqb c 39) (Some (after_quote cs)) _ (omega arith) (either P (eqb c 10) None _ tt (same_step c cs))

coded_within : (n : ℕ) (rest : List ℕ) (code : ℕ) → 4 + weight rest ≤ n → Holds (StepWithin n) (coded rest code)
coded_within n rest code h =
    let most = most_size code in
    either (StepWithin n) _ None (Some (record { character = Some code; rest = rest })) tt (omega arith)

two_within : (cs : List ℕ) → Holds (StepWithin (2 + weight cs)) (two_digits cs)
unfolding two_digits
two_within [] = tt
two_within (a ∷ []) = tt
two_within (a ∷ (b ∷ rest)) =
    let first = one_less a (b ∷ rest) in
    let second = one_less b rest in
    then_any (StepWithin (2 + weight (a ∷ (b ∷ rest)))) (coded rest) (λ code. coded_within (2 + weight (a ∷ (b ∷ rest))) rest code (omega arith)) (pair_of a b)

four_within : (cs : List ℕ) → Holds (StepWithin (2 + weight cs)) (four_digits cs)
unfolding four_digits
four_within [] = tt
four_within (a ∷ []) = tt
four_within (a ∷ (b ∷ [])) = tt
four_within (a ∷ (b ∷ (c ∷ []))) = tt
four_within (a ∷ (b ∷ (c ∷ (d ∷ rest)))) =
    let first = one_less a (b ∷ (c ∷ (d ∷ rest))) in
    let second = one_less b (c ∷ (d ∷ rest)) in
    let third = one_less c (d ∷ rest) in
    let fourth = one_less d rest in
    let P = StepWithin (2 + weight (a ∷ (b ∷ (c ∷ (d ∷ rest))))) in
    then_any P _ (λ high. then_any P (λ low. coded rest (high * 256 + low)) (λ low. coded_within (2 + weight (a ∷ (b ∷ (c ∷ (d ∷ rest))))) rest (high * 256 + low) (omega arith)) (pair_of c d))
    (pair_of a b)

abbrev SizeWithin : ℕ → ℕ → Type 0
SizeWithin n d = size d ≤ n

named_within : (c : ℕ) → Holds (SizeWithin (size c)) (named c)
unfolding named encode_utf8
named_within c =
    let some : 1 ≤ size c = some_size c in
    let P = SizeWithin (size c) in
    either P (eqb c 92 || eqb c 34 || eqb c 47) (Some c) _ (omega arith)
    (either P (eqb c 110) (Some 10) _ some
    (either P (eqb c 116) (Some 9) _ some
    (either P (eqb c 114) (Some 13) _ some (either P (eqb c 48) (Some 0) None some tt))))

escaped_within : (cs : List ℕ) → Holds (StepWithin (1 + weight cs)) (escaped cs)
unfolding escaped
escaped_within [] = tt
escaped_within (c ∷ cs) =
    let P = StepWithin (1 + weight (c ∷ cs)) in
    let all : weight (c ∷ cs) ≡ size c + weight cs = weight-cons c cs in
    let less : 1 + weight cs ≤ weight (c ∷ cs) = one_less c cs in
    either P (eqb c 120) (two_digits cs) _ (weaker (StepWithin (2 + weight cs)) P (λ step h. omega arith) (two_digits cs) (two_within cs))
    (either P (eqb c 117) (four_digits cs) _ (weaker (StepWithin (2 + weight cs)) P (λ step h. omega arith) (four_digits cs) (four_within cs))
    (map_to (SizeWithin (size c)) P (λ d. record { character = Some d; rest = cs }) (λ d h. omega arith) (named c) (named_within c)))

double_within : (cs : List ℕ) → Holds (StepWithin (weight cs)) (double_step cs)
unfolding double_step
double_within [] = tt
double_within (c ∷ cs) =
    let P = StepWithin (weight (c ∷ cs)) in
    let less : 1 + weight cs ≤ weight (c ∷ cs) = one_less c cs in
    either P (eqb c 34) (Some (record { character = None; rest = cs })) _ (omega arith)
    (either P (eqb c 92) (escaped cs) _ (weaker (StepWithin (1 + weight cs)) P (λ step h. omega arith) (escaped cs) (escaped_within cs))
    (either P (eqb c 10) None _ tt (same_step c cs)))

step_within : (mark : ℕ) (cs : List ℕ) → Holds (StepWithin (weight cs)) (step_of mark cs)
step_within mark cs = either (StepWithin (weight cs)) (eqb mark 39) (single_step cs) (double_step cs) (single_within cs) (double_within cs)

-- the text and what follows its closing quote take no more than this
abbrev pub QuotedWithin : ℕ → Quoted → Type 0
QuotedWithin n quoted = length quoted.text + weight quoted.rest ≤ n

behind_step : (n : ℕ) (more : List ℕ → Option Quoted) → ((cs : List ℕ) → Holds (QuotedWithin (weight cs)) (more cs)) → (rest : List ℕ) (character : Option ℕ)
    → character_size character + weight rest ≤ n → Holds (QuotedWithin n) (quotes.behind more rest character)
behind_step n more h rest None k = k
behind_step n more h rest (Some c) k =
    map_to (QuotedWithin (weight rest)) (QuotedWithin n) (λ q. record { text = encode_utf8 c ++ q.text; rest = q.rest })
    (λ q within. let both : length (encode_utf8 c ++ q.text) ≡ size c + length q.text = length-append (encode_utf8 c) q.text in omega arith) (more rest) (h rest)

within_quotes : (mark most : ℕ) (cs : List ℕ) → Holds (QuotedWithin (weight cs)) (quoted_within mark most cs)
unfolding quoted_within
within_quotes mark zero cs = tt
within_quotes mark (suc most) cs =
    then_to (StepWithin (weight cs)) (QuotedWithin (weight cs)) (λ step. quotes.behind (quoted_within mark most) step.rest step.character)
    (λ step h. behind_step (weight cs) (quoted_within mark most) (within_quotes mark most) step.rest step.character h) (step_of mark cs) (step_within mark cs)

pub quoted_fits : (cs : List ℕ) → Holds (QuotedWithin (weight cs)) (quoted_of cs)
unfolding quoted_of
quoted_fits [] = tt
quoted_fits (mark ∷ cs) =
    let less : 1 + weight cs ≤ weight (mark ∷ cs) = one_less mark cs in
    either (QuotedWithin (weight (mark ∷ cs))) (is_quote mark) (quoted_within mark (length cs) cs) None
    (weaker (QuotedWithin (weight cs)) (QuotedWithin (weight (mark ∷ cs))) (λ q h. omega arith) (quoted_within mark (length cs) cs) (within_quotes mark (length cs) cs)) tt

-- ---- plain texts

abbrev pub LengthWithin : ℕ → List ℕ → Type 0
LengthWithin n bytes = length bytes ≤ n

pub plain_fits : (content : List ℕ) → Holds (LengthWithin (weight content)) (plain_of content)
unfolding plain_of
plain_fits content =
    let trimmed : weight (trim_end (uncommented true content)) ≤ weight (uncommented true content) = trim_within (uncommented true content) in
    let all : weight (uncommented true content) ≤ weight content = uncommented_within true content in
    if_true (LengthWithin (weight content)) _ (encode_utf8_all (trim_end (uncommented true content))) (λ _. omega arith)

-- ---- entries

-- each side takes no more than this
abbrev SidesWithin : ℕ → Sides → Type 0
SidesWithin n sides = (weight sides.before ≤ n) × (weight sides.behind ≤ n)

sides_within : (free : Bool) (cs : List ℕ) → Holds (SidesWithin (weight cs)) (sides_of free cs)
unfolding sides_of
sides_within free [] = tt
sides_within free (c ∷ cs) =
    let P = SidesWithin (weight (c ∷ cs)) in
    let all : weight (c ∷ cs) ≡ size c + weight cs = weight-cons c cs in
    let less : 1 + weight cs ≤ weight (c ∷ cs) = one_less c cs in
    either P (free && eqb c 35) None _ tt
    (either P _ (Some (record { before = []; behind = cs })) _ (omega arith, omega arith)
    (map_to (SidesWithin (weight cs)) P (before_side c)
    (λ sides h. (
      let before = h.0 in let more : weight (c ∷ sides.before) ≡ size c + weight sides.before = weight-cons c sides.before in omega arith,
      let behind = h.1 in omega arith,
    )) (sides_of (is_blank c) cs) (sides_within (is_blank c) cs)))

-- the key has no more bytes than this, and the value takes no more
abbrev pub EntryWithin : ℕ → KeyAndValue → Type 0
EntryWithin n entry = (length entry.key ≤ n) × (weight entry.value ≤ n)

trimmed_within : (cs : List ℕ) → weight (trim_start cs) ≤ weight cs
trimmed_within cs = drop_within (prefix_len is_blank cs) cs

value_within : (n : ℕ) (cs : List ℕ) → weight cs ≤ n → weight (value_behind cs) ≤ n
value_within n cs h =
    let trimmed : weight (trim_start cs) ≤ weight cs = trimmed_within cs in
    one_of n (comment_or_end (trim_start cs)) [] (trim_start cs) (omega arith) (omega arith)

colon_within : (n : ℕ) (cs : List ℕ) → weight cs ≤ n → Holds (IsWithin n) (behind_colon cs)
colon_within n [] h = tt
colon_within n (c ∷ cs) h =
    let less : 1 + weight cs ≤ weight (c ∷ cs) = one_less c cs in
    if_true (IsWithin n) _ cs (λ _. omega arith)

quoted_entry_within : (n : ℕ) (quoted : Quoted) → QuotedWithin n quoted → Holds (EntryWithin n) (quoted_entry quoted)
quoted_entry_within n quoted h =
    let trimmed : weight (trim_start quoted.rest) ≤ weight quoted.rest = trimmed_within quoted.rest in
    map_to (IsWithin n) (EntryWithin n) (λ cs. record { key = quoted.text; value = value_behind cs }) (λ cs k. (omega arith, value_within n cs k))
    (behind_colon (trim_start quoted.rest)) (colon_within n (trim_start quoted.rest) (omega arith))

plain_entry_within : (n : ℕ) (sides : Sides) → SidesWithin n sides → EntryWithin n (plain_entry sides)
plain_entry_within n sides h =
    let before : weight sides.before ≤ n = h.0 in
    let trimmed : weight (trim_end sides.before) ≤ weight sides.before = trim_within sides.before in
    (omega arith, value_within n sides.behind h.1)

pub entry_fits : (content : List ℕ) → Holds (EntryWithin (weight content)) (entry_of_line content)
unfolding entry_of_line
entry_fits content =
    let n : ℕ = weight content in
    either (EntryWithin n) (begins_quoted content) _ _
    (then_to (QuotedWithin n) (EntryWithin n) quoted_entry (quoted_entry_within n) (quoted_of content) (quoted_fits content))
    (either (EntryWithin n) (begins_plain content) _ None
    (map_to (SidesWithin n) (EntryWithin n) plain_entry (plain_entry_within n) (sides_of true content) (sides_within true content)) tt)

-- ---- texts in flows

-- the text has no more bytes than this, and what follows it takes no more
abbrev pub TextWithin : ℕ → FlowText → Type 0
TextWithin n found = (length found.text ≤ n) × (weight found.rest ≤ n)

plain_text_within : (part cs : List ℕ) → weight part ≤ weight cs → Holds (TextWithin (weight cs)) (plain_text part cs)
plain_text_within part cs h =
    either (TextWithin (weight cs)) (is_nil part) None _ tt (h, drop_within (length part) cs)

plain_at_within : (cs : List ℕ) → Holds (TextWithin (weight cs)) (plain_at cs)
unfolding plain_at
plain_at_within cs =
    let part : List ℕ = take (plain_extent false cs) cs in
    let trimmed : weight (trim_end part) ≤ weight part = trim_within part in
    let taken : weight part ≤ weight cs = take_within (plain_extent false cs) cs in
    either (TextWithin (weight cs)) (flow_texts.begins_plain cs) _ None (plain_text_within (trim_end part) cs (omega arith)) tt

pub text_fits : (cs : List ℕ) → Holds (TextWithin (weight cs)) (text_at cs)
unfolding text_at
text_fits cs =
    either (TextWithin (weight cs)) (begins_quoted cs) _ _
    (map_to (QuotedWithin (weight cs)) (TextWithin (weight cs)) quoted_text (λ q h. (omega arith, omega arith)) (quoted_of cs) (quoted_fits cs))
    (plain_at_within cs)
