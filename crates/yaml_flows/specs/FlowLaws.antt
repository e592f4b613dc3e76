-- Words of the law of a flow's lines: the lines of a flow, each with what is open after it.
use Rattle.std.specs.Prelude.{ℕ, Bool, false, not, ◌&&◌, List, [], ◌∷◌}
use Rattle.yaml_lines.specs.FlowLines.{Open, is_closed, skim}

-- the flow is open after each of these lines but the last, and closed after the last
unfoldable pub closes_last : Open → List (List ℕ) → Bool
closes_last s [] = false
closes_last s (line ∷ []) = is_closed (skim s line)
closes_last s (line ∷ next ∷ lines) = not (is_closed (skim s line)) && closes_last (skim s line) (next ∷ lines)
