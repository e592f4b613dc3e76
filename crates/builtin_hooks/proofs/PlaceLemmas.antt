-- The line in which an index lies, by a walk from line to line.
use Rattle.std.proofs.Common.{◌≡◌, ◌∙◌, ap, sym, refl, arith, ℕ, zero, suc, ◌+◌, ◌-◌, ◌<◌, ◌≤◌, List, [], ◌∷◌, length, length-drop, take, take_all, drop, add-one, inl, inr}
use Rattle.std.specs.List.{count_by}
use Rattle.std.specs.Prelude.{slice_index_or}
use Rattle.std.proofs.Math.Seq.{take-add}
use Rattle.std.proofs.lemmas.Bool.{cases_lt}
use Rattle.std.proofs.lemmas.List.Sums.{count_by_more_no, count_by_more_yes, fails_before_first, passes_at_first, prefix_len-le-length, sum_by-append}
use Rattle.builtin_hooks.specs.Lines.{is_line_end, line_feeds_before, pieces_of}
use Rattle.builtin_hooks.proofs.FeedLemmas.{first_feed, pieces-cut, pieces-whole, tail-is}

first_feed-le : (bytes : List ℕ) → first_feed bytes ≤ length bytes
first_feed-le bytes = prefix_len-le-length _ bytes

feeds-none : (bytes : List ℕ) (place : ℕ) → place ≤ first_feed bytes → line_feeds_before place bytes ≡ 0
feeds-none bytes zero within = refl
feeds-none bytes (suc place) within =
    let inside : place < length bytes = omega (arith, first_feed-le bytes) in
    ap (λ n. line_feeds_before n bytes) (sym (add-one place))
    ∙ count_by_more_no is_line_end bytes place 0 inside (fails_before_first is_line_end bytes place 0 (omega arith))
    ∙ feeds-none bytes place (omega arith)

feeds-one : (bytes : List ℕ) → first_feed bytes < length bytes → line_feeds_before (first_feed bytes + 1) bytes ≡ 1
feeds-one bytes within =
    count_by_more_yes is_line_end bytes (first_feed bytes) 0 within (passes_at_first is_line_end bytes 0 within)
    ∙ ap (λ n. n + 1) (feeds-none bytes (first_feed bytes) (omega arith))

feeds-add : (bytes : List ℕ) (cut more : ℕ) → line_feeds_before (cut + more) bytes ≡ line_feeds_before cut bytes + line_feeds_before more (drop cut bytes)
feeds-add bytes cut more =
    ap (count_by is_line_end) (take-add cut more bytes) ∙ sum_by-append _ (take cut bytes) (take more (drop cut bytes))

-- the bytes after the first line feed, as a range without an end takes them
abbrev pub behind : ℕ → List ℕ → List ℕ
behind place bytes = take (length bytes - (place + 1)) (drop (place + 1) bytes)

feeds-behind : (bytes : List ℕ) (end place : ℕ) → end ≡ first_feed bytes → end < place → place ≤ length bytes
    → line_feeds_before place bytes ≡ suc (line_feeds_before (place - (end + 1)) (behind end bytes))
feeds-behind bytes end place is past within =
    let cut : first_feed bytes < length bytes = omega arith in
    let whole : place ≡ (end + 1) + (place - (end + 1)) = omega arith in
    let one : line_feeds_before (end + 1) bytes ≡ 1 = ap (λ n. line_feeds_before (n + 1) bytes) is ∙ feeds-one bytes cut in
    let left = line_feeds_before (place - (end + 1)) (drop (end + 1) bytes) in
    let counted : line_feeds_before place bytes ≡ suc left =
    ap (λ n. line_feeds_before n bytes) whole ∙ feeds-add bytes (end + 1) (place - (end + 1)) ∙ ap (λ n. n + left) one ∙ omega arith in
    counted ∙ ap (λ rest. suc (line_feeds_before (place - (end + 1)) rest)) (sym (tail-is (end + 1) bytes))

abbrev pub line_there : ℕ → List ℕ → List ℕ
line_there place bytes = slice_index_or (pieces_of bytes) (line_feeds_before place bytes) []

-- at this place of the rest the same line lies as at the index of the bytes, and the rest begins with the line of this number
pub record IsSameLine (bytes rest : List ℕ) (index place number : ℕ) : Type 0 where
  pub within : place ≤ length rest
  pub counted : number + line_feeds_before place rest ≡ line_feeds_before index bytes + 1
  pub line : line_there place rest ≡ line_there index bytes
  pub few : number + place ≤ index + 1

pub same_start : (bytes : List ℕ) (index : ℕ) → index ≤ length bytes → IsSameLine bytes bytes index index 1
same_start bytes index inside = record { within = inside; counted = omega arith; line = refl; few = omega arith }

pub same_next : (bytes rest : List ℕ) (index place number end : ℕ) → IsSameLine bytes rest index place number → end ≡ first_feed rest
    → end < place → IsSameLine bytes (behind end rest) index (place - (end + 1)) (number + 1)
same_next bytes rest index place number end same is past =
    let inside = same.within in
    let few = same.few in
    let counted = same.counted in
    let cut : first_feed rest < length rest = omega arith in
    let size : length (behind end rest) ≡ length rest - (end + 1) = ap length (tail-is (end + 1) rest) ∙ length-drop (end + 1) rest in
    let feeds = feeds-behind rest end place is past inside in
    let pieces : pieces_of rest ≡ take end rest ∷ pieces_of (behind end rest) =
    pieces-cut rest cut ∙ ap (λ n. take n rest ∷ pieces_of (drop (n + 1) rest)) (sym is)
    ∙ ap (λ text. take end rest ∷ pieces_of text) (sym (tail-is (end + 1) rest)) in
    let moved : line_there place rest ≡ line_there (place - (end + 1)) (behind end rest) =
    ap (λ n. slice_index_or (pieces_of rest) n []) feeds
    ∙ ap (λ all. slice_index_or all (suc (line_feeds_before (place - (end + 1)) (behind end rest))) []) pieces in
    record { within = omega arith; counted = omega arith; line = sym moved ∙ same.line; few = omega arith }

pub same_number : (bytes rest : List ℕ) (index place number end : ℕ) → IsSameLine bytes rest index place number → end ≡ first_feed rest
    → place ≤ end → number ≡ line_feeds_before index bytes + 1
same_number bytes rest index place number end same is before =
    let none = feeds-none rest place (omega arith) in
    let counted = same.counted in
    omega arith

first-piece : (bytes : List ℕ) → slice_index_or (pieces_of bytes) 0 [] ≡ take (first_feed bytes) bytes
first-piece bytes = elim (cases_lt (first_feed bytes) (length bytes)) [
  | inr whole ↦ ap (λ all. slice_index_or all 0 []) (pieces-whole bytes whole) ∙ sym (take_all _ bytes whole)
  | inl cut ↦ ap (λ all. slice_index_or all 0 []) (pieces-cut bytes cut)
]

pub same_line : (bytes rest : List ℕ) (index place number end : ℕ) → IsSameLine bytes rest index place number → end ≡ first_feed rest
    → place ≤ end → take end rest ≡ line_there index bytes
same_line bytes rest index place number end same is before =
    let none = feeds-none rest place (omega arith) in
    ap (λ n. take n rest) is ∙ sym (first-piece rest) ∙ ap (λ n. slice_index_or (pieces_of rest) n []) (sym none) ∙ same.line
