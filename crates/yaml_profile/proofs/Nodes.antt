-- A node by its first line, a case at a time.
use Rattle.std.proofs.Common.{◌≡◌, ℕ, zero, suc, ◌-◌, ◌<◌, true, false, List, [], ◌∷◌, Some, None, is_some, refl, ap, ◌∙◌, arith}
use Rattle.yaml_lines.specs.Entries.{is_item, entry_of_line}
use Rattle.yaml_lines.specs.Entries.{ContentLine}
use Rattle.yaml_lines.specs.Meaning.{empty}
use Rattle.yaml_profile.specs.Blocks.{node, line_node, items, rows, block, list_meaning, table_meaning}

pub node-no_room : (room : ℕ) (lines : List ContentLine) → room ≡ 0 → node room lines ≡ None
unfolding node
node-no_room zero lines none = refl
node-no_room (suc room) lines none = absurd (omega arith)

pub node-no_lines : (room : ℕ) → 0 < room → node room [] ≡ Some empty
unfolding node
node-no_lines zero some = absurd (omega arith)
node-no_lines (suc room) some = refl

less_one : (room : ℕ) → room ≡ suc room - 1
less_one room = omega arith

pub node-lines : (room : ℕ) (first : ContentLine) (later : List ContentLine) → 0 < room
    → node room (first ∷ later) ≡ block (node (room - 1)) (line_node (room - 1)) (line_node room first later) (is_item first.content) (is_some (entry_of_line first.content)) first later
unfolding node
node-lines zero first later some = absurd (omega arith)
node-lines (suc room) first later some =
    ap (λ r. block (node r) (line_node r) (line_node (suc room) first later) (is_item first.content) (is_some (entry_of_line first.content)) first later) (less_one room)

pub node-list : (room : ℕ) (first : ContentLine) (later : List ContentLine) → 0 < room → is_item first.content ≡ true
    → node room (first ∷ later) ≡ list_meaning (items (node (room - 1)) first later)
node-list room first later some e =
    node-lines room first later some
    ∙ ap (λ b. block (node (room - 1)) (line_node (room - 1)) (line_node room first later) b (is_some (entry_of_line first.content)) first later) e

pub node-table : (room : ℕ) (first : ContentLine) (later : List ContentLine) → 0 < room → is_item first.content ≡ false → is_some (entry_of_line first.content) ≡ true
    → node room (first ∷ later) ≡ table_meaning (rows (node (room - 1)) (line_node (room - 1)) first later)
node-table room first later some e f =
    node-lines room first later some
    ∙ ap (λ b. block (node (room - 1)) (line_node (room - 1)) (line_node room first later) b (is_some (entry_of_line first.content)) first later) e
    ∙ ap (λ b. block (node (room - 1)) (line_node (room - 1)) (line_node room first later) false b first later) f

pub node-line : (room : ℕ) (first : ContentLine) (later : List ContentLine) → 0 < room → is_item first.content ≡ false → is_some (entry_of_line first.content) ≡ false
    → node room (first ∷ later) ≡ line_node room first later
node-line room first later some e f =
    node-lines room first later some
    ∙ ap (λ b. block (node (room - 1)) (line_node (room - 1)) (line_node room first later) b (is_some (entry_of_line first.content)) first later) e
    ∙ ap (λ b. block (node (room - 1)) (line_node (room - 1)) (line_node room first later) false b first later) f
