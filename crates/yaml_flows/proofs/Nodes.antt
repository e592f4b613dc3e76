-- A node by its first character, a case at a time.
use Rattle.std.proofs.Common.{◌≡◌, ℕ, zero, suc, ◌-◌, Bool, true, false, cond, eqb, List, [], ◌∷◌, drop, None, refl, sym, ap, ◌∙◌, arith}
use Rattle.yaml_lines.specs.Characters.{begins_with}
use Rattle.yaml_lines.specs.FlowTexts.{begins_plain, plain_at, text_at}
use Rattle.yaml_flows.specs.Flows.{node, list_at, table_at, text_node_at}

pub node-no_room : (room : ℕ) (cs : List ℕ) → room ≡ 0 → node room cs ≡ None
unfolding node
node-no_room zero cs e = refl
node-no_room (suc room) cs e = absurd (omega arith)

node_step : (room : ℕ) (c : ℕ) (cs : List ℕ)
    → node (suc room) (c ∷ cs) ≡ cond (eqb c 91) (list_at (node room) cs) (cond (eqb c 123) (table_at (node room) cs) (text_node_at (c ∷ cs)))
unfolding node
node_step room c cs = refl

no_characters : (room : ℕ) → node (suc room) [] ≡ text_node_at []
unfolding node text_at plain_at begins_plain
no_characters room = refl

pub node-list : (room : ℕ) (cs inner : List ℕ) → (room ≡ 0 → ⊥) → begins_with 91 cs ≡ true → inner ≡ drop 1 cs → node room cs ≡ list_at (node (room - 1)) inner
node-list zero cs inner some h e = absurd (some refl)
node-list (suc room) [] inner some h e = absurd (cc)
node-list (suc room) (c ∷ cs) inner some h e =
    let less : room ≡ suc room - 1 = omega arith in
    node_step room c cs
    ∙ (ap (λ (b : Bool). cond b (list_at (node room) cs) (cond (eqb c 123) (table_at (node room) cs) (text_node_at (c ∷ cs)))) h
    ∙ (ap (λ (n : ℕ). list_at (node n) cs) less ∙ ap (list_at (node (suc room - 1))) (sym e)))

pub node-table : (room : ℕ) (cs inner : List ℕ) → (room ≡ 0 → ⊥) → begins_with 91 cs ≡ false → begins_with 123 cs ≡ true → inner ≡ drop 1 cs → node room cs ≡ table_at (node (room - 1)) inner
node-table zero cs inner some g h e = absurd (some refl)
node-table (suc room) [] inner some g h e = absurd (cc)
node-table (suc room) (c ∷ cs) inner some g h e =
    let less : room ≡ suc room - 1 = omega arith in
    node_step room c cs
    ∙ (ap (λ (b : Bool). cond b (list_at (node room) cs) (cond (eqb c 123) (table_at (node room) cs) (text_node_at (c ∷ cs)))) g
    ∙ (ap (λ (b : Bool). cond b (table_at (node room) cs) (text_node_at (c ∷ cs))) h
    ∙ (ap (λ (n : ℕ). table_at (node n) cs) less ∙ ap (table_at (node (suc room - 1))) (sym e))))

pub node-text : (room : ℕ) (cs : List ℕ) → (room ≡ 0 → ⊥) → begins_with 91 cs ≡ false → begins_with 123 cs ≡ false → node room cs ≡ text_node_at cs
node-text zero cs some g h = absurd (some refl)
node-text (suc room) [] some g h = no_characters room
node-text (suc room) (c ∷ cs) some g h =
    node_step room c cs
    ∙ (ap (λ (b : Bool). cond b (list_at (node room) cs) (cond (eqb c 123) (table_at (node room) cs) (text_node_at (c ∷ cs)))) g
    ∙ ap (λ (b : Bool). cond b (table_at (node room) cs) (text_node_at (c ∷ cs))) h)
