-- Lemmas: the patterns of the table are short.
use Rattle.std.proofs.Common.{◌≡◌, ℕ, true, false, cond, List, [], ◌∷◌, length, leb, Option, Some, None, refl, subst, sym}
use Rattle.std.specs.Prelude.{⊤, IfSome}
use Rattle.std.specs.Str.{bytes_eq}
use Rattle.std.proofs.lemmas.Bool.{and_parts, leb-true}
use denote.Ref.{Bor}
use Rattle.hook_config.specs.Limits.{IsShort, most_text_bytes}
use Rattle.run_options.specs.TableRules.{are_short}
use Rattle.run_options.specs.Tools.{Tool, ToolRow, tool_in, tool_of, tool_rows}
use Rattle.run_options.specs.declared.tools.ToolKind.{ToolKind}
use Rattle.run_options.specs.declared.tools.Verdict.{Verdict}

abbrev ReadsShort : Option Tool → Type 0
ReadsShort None = ⊤
ReadsShort (Some tool) = IsShort tool.reads

short_in : (rows : List ToolRow) (name : List ℕ) → are_short rows ≡ true → ReadsShort (tool_in rows name)
short_in [] name all = tt
short_in (row ∷ rows) name all =
    let parts = and_parts (leb (length row.tool.reads) most_text_bytes) (are_short rows) all in
    elim (bytes_eq row.name name) as (λ b. ReadsShort (cond b (Some row.tool) (tool_in rows name))) [
      | true ↦ leb-true (length row.tool.reads) most_text_bytes parts.0
      | false ↦ short_in rows name parts.1
    ]

all_short : are_short tool_rows ≡ true
unfolding tool_rows
all_short = refl

short_of : (given : Option (ToolKind × Bor (List ℕ) × Verdict)) → ReadsShort (tool_of given) → IfSome given (λ tool. IsShort tool.1.now)
short_of None short = tt
short_of (Some given) short = short

pub short_named : (given : Option (ToolKind × Bor (List ℕ) × Verdict)) (name : List ℕ) → tool_of given ≡ tool_in tool_rows name → IfSome given (λ tool. IsShort tool.1.now)
short_named given name same = short_of given (subst ReadsShort (sym same) (short_in tool_rows name all_short))
