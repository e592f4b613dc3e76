-- Paths joined by line feeds, path by path.
use Rattle.std.proofs.Common.{◌≡◌, ◌∙◌, ap, arith, append_assoc, ℕ, ◌-◌, ◌<◌, ◌≤◌, List, [], ◌∷◌, ◌++◌, length, take, drop, get_or}
use Rattle.std.proofs.lemmas.List.{append-nil, take_all}
use Rattle.std.specs.List.{flat_map, join_with_byte}

-- a line feed and the path
abbrev pub next_path : List ℕ → List ℕ
next_path path = 10 ∷ path

joined-paths : (first : List ℕ) (others : List (List ℕ)) → first ++ flat_map next_path others ≡ join_with_byte 10 (first ∷ others)
joined-paths first [] = append-nil first
joined-paths first (next ∷ others) = ap (λ rest. first ++ (10 ∷ rest)) (joined-paths next others)

-- the paths that follow the first, as a slice pattern gives them
abbrev pub others_of : List (List ℕ) → List (List ℕ)
others_of paths = take (length paths - 1) (drop 1 paths)

joined-all : (paths : List (List ℕ)) (d : List ℕ) (i : ℕ) → 0 < length paths → length (others_of paths) ≤ i
    → get_or paths 0 d ++ flat_map next_path (take i (others_of paths)) ≡ join_with_byte 10 paths
joined-all [] d i some done = absurd (omega arith)
joined-all (path ∷ paths) d i some done =
    let all : others_of (path ∷ paths) ≡ paths = take_all (length (path ∷ paths) - 1) paths (omega arith) in
    let left : take i (others_of (path ∷ paths)) ≡ paths = take_all i (others_of (path ∷ paths)) done ∙ all in
    ap (λ rest. path ++ flat_map next_path rest) left ∙ joined-paths path paths

-- what stands there after the loop
pub joined-after : (before first middle after : List ℕ) (paths : List (List ℕ)) (d : List ℕ) (i : ℕ)
    → 0 < length paths → length (others_of paths) ≤ i → first ≡ get_or paths 0 d
    → middle ≡ before ++ first → after ≡ middle ++ flat_map next_path (take i (others_of paths))
    → after ≡ before ++ join_with_byte 10 paths
joined-after before first middle after paths d i some done is begun made =
    made ∙ ap (λ text. text ++ flat_map next_path (take i (others_of paths))) begun ∙ append_assoc before first _
    ∙ ap (λ text. before ++ (text ++ flat_map next_path (take i (others_of paths)))) is
    ∙ ap (λ text. before ++ text) (joined-all paths d i some done)
