-- A row from the columns that were read.
use Rattle.std.proofs.Common.{◌≡◌, ℕ, zero, suc, ◌+◌, [], ◌∷◌, length, drop, refl, ap, ◌∙◌, arith}
use Rattle.sqlite_value.specs.declared.value.Value.{Value}
use Rattle.sqlite_value.specs.Order.{Row, column}

next : (row : Row) (at : ℕ) → column row (at + 1) ≡ column (drop 1 row) at
next [] zero = refl
next [] (suc at) = refl
next (v ∷ row) at = ap (column (v ∷ row)) (let e : at + 1 ≡ suc at = omega arith in e)

all_read : (row : Row) → length row ≡ 0 → row ≡ []
all_read [] h = refl
all_read (v ∷ row) h = absurd (omega arith)

-- the next column is the head of what is left
one_more : (at : ℕ) (row : Row) (count : ℕ) (a : Value) → length row ≡ suc (at + count) → column row at ≡ a → drop at row ≡ a ∷ drop (at + 1) row
one_more zero [] count a h e = absurd (omega arith)
one_more zero (v ∷ row) count a h e = ap (λ x. x ∷ row) e
one_more (suc at) [] count a h e = absurd (omega arith)
one_more (suc at) (v ∷ row) count a h e = one_more at row count a (omega arith) e ∙ ap (λ k. a ∷ drop k (v ∷ row)) (let s : suc (at + 1) ≡ suc at + 1 = omega arith in s)

none_left : (at : ℕ) (row : Row) → length row ≡ at → drop at row ≡ []
none_left zero row h = all_read row h
none_left (suc at) [] h = absurd (omega arith)
none_left (suc at) (v ∷ row) h = none_left at row (omega arith)

pub columns_2 : (at : ℕ) (row : Row) (a b : Value) → length row ≡ at + 2 → column row at ≡ a → column row (at + 1) ≡ b → drop at row ≡ a ∷ b ∷ []
columns_2 at row a b full h0 h1 =
    let last : drop (at + 2) row ≡ [] = none_left (at + 2) row (omega arith) in
    let r1 : drop (at + 1) row ≡ b ∷ [] = one_more (at + 1) row 0 b (omega arith) h1 ∙ ap (λ l. b ∷ l) (ap (λ k. drop k row) (let s : (at + 1) + 1 ≡ at + 2 = omega arith in s) ∙ last) in
    let r0 : drop at row ≡ a ∷ b ∷ [] = one_more at row 1 a (omega arith) h0 ∙ ap (λ l. a ∷ l) (ap (λ k. drop k row) (let s : at + 1 ≡ at + 1 = omega arith in s) ∙ r1) in
    r0

pub columns_3 : (at : ℕ) (row : Row) (a b c : Value) → length row ≡ at + 3 → column row at ≡ a → column row (at + 1) ≡ b → column row (at + 2) ≡ c → drop at row ≡ a ∷ b ∷ c ∷ []
columns_3 at row a b c full h0 h1 h2 =
    let last : drop (at + 3) row ≡ [] = none_left (at + 3) row (omega arith) in
    let r2 : drop (at + 2) row ≡ c ∷ [] = one_more (at + 2) row 0 c (omega arith) h2 ∙ ap (λ l. c ∷ l) (ap (λ k. drop k row) (let s : (at + 2) + 1 ≡ at + 3 = omega arith in s) ∙ last) in
    let r1 : drop (at + 1) row ≡ b ∷ c ∷ [] = one_more (at + 1) row 1 b (omega arith) h1 ∙ ap (λ l. b ∷ l) (ap (λ k. drop k row) (let s : (at + 1) + 1 ≡ at + 2 = omega arith in s) ∙ r2) in
    let r0 : drop at row ≡ a ∷ b ∷ c ∷ [] = one_more at row 2 a (omega arith) h0 ∙ ap (λ l. a ∷ l) (ap (λ k. drop k row) (let s : at + 1 ≡ at + 1 = omega arith in s) ∙ r1) in
    r0

pub columns_4 : (at : ℕ) (row : Row) (a b c d : Value) → length row ≡ at + 4 → column row at ≡ a → column row (at + 1) ≡ b → column row (at + 2) ≡ c → column row (at + 3) ≡ d
    → drop at row ≡ a ∷ b ∷ c ∷ d ∷ []
columns_4 at row a b c d full h0 h1 h2 h3 =
    let last : drop (at + 4) row ≡ [] = none_left (at + 4) row (omega arith) in
    let r3 : drop (at + 3) row ≡ d ∷ [] = one_more (at + 3) row 0 d (omega arith) h3 ∙ ap (λ l. d ∷ l) (ap (λ k. drop k row) (let s : (at + 3) + 1 ≡ at + 4 = omega arith in s) ∙ last) in
    let r2 : drop (at + 2) row ≡ c ∷ d ∷ [] = one_more (at + 2) row 1 c (omega arith) h2 ∙ ap (λ l. c ∷ l) (ap (λ k. drop k row) (let s : (at + 2) + 1 ≡ at + 3 = omega arith in s) ∙ r3) in
    let r1 : drop (at + 1) row ≡ b ∷ c ∷ d ∷ [] = one_more (at + 1) row 2 b (omega arith) h1 ∙ ap (λ l. b ∷ l) (ap (λ k. drop k row) (let s : (at + 1) + 1 ≡ at + 2 = omega arith in s) ∙ r2) in
    let r0 : drop at row ≡ a ∷ b ∷ c ∷ d ∷ [] = one_more at row 3 a (omega arith) h0 ∙ ap (λ l. a ∷ l) (ap (λ k. drop k row) (let s : at + 1 ≡ at + 1 = omega arith in s) ∙ r1) in
    r0

pub columns_5 : (at : ℕ) (row : Row) (a b c d e : Value) → length row ≡ at + 5 → column row at ≡ a → column row (at + 1) ≡ b → column row (at + 2) ≡ c → column row (at + 3) ≡ d
    → column row (at + 4) ≡ e → drop at row ≡ a ∷ b ∷ c ∷ d ∷ e ∷ []
columns_5 at row a b c d e full h0 h1 h2 h3 h4 =
    let last : drop (at + 5) row ≡ [] = none_left (at + 5) row (omega arith) in
    let r4 : drop (at + 4) row ≡ e ∷ [] = one_more (at + 4) row 0 e (omega arith) h4 ∙ ap (λ l. e ∷ l) (ap (λ k. drop k row) (let s : (at + 4) + 1 ≡ at + 5 = omega arith in s) ∙ last) in
    let r3 : drop (at + 3) row ≡ d ∷ e ∷ [] = one_more (at + 3) row 1 d (omega arith) h3 ∙ ap (λ l. d ∷ l) (ap (λ k. drop k row) (let s : (at + 3) + 1 ≡ at + 4 = omega arith in s) ∙ r4) in
    let r2 : drop (at + 2) row ≡ c ∷ d ∷ e ∷ [] = one_more (at + 2) row 2 c (omega arith) h2 ∙ ap (λ l. c ∷ l) (ap (λ k. drop k row) (let s : (at + 2) + 1 ≡ at + 3 = omega arith in s) ∙ r3) in
    let r1 : drop (at + 1) row ≡ b ∷ c ∷ d ∷ e ∷ [] = one_more (at + 1) row 3 b (omega arith) h1 ∙ ap (λ l. b ∷ l) (ap (λ k. drop k row) (let s : (at + 1) + 1 ≡ at + 2 = omega arith in s) ∙ r2) in
    let r0 : drop at row ≡ a ∷ b ∷ c ∷ d ∷ e ∷ [] = one_more at row 4 a (omega arith) h0 ∙ ap (λ l. a ∷ l) (ap (λ k. drop k row) (let s : at + 1 ≡ at + 1 = omega arith in s) ∙ r1) in
    r0
