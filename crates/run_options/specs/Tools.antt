-- The table of known tools. Its rows are written only in the module `tools`, and the definitions read them
-- from there. (docs/REFERENCE.md, "Known tools".)
use Rattle.std.specs.Prelude.{ℕ, if◌then◌else◌, List, [], ◌∷◌, map, Option, Some, None}
use Rattle.std.specs.Str.{bytes_eq}
use denote.Ref.{Bor}
use Rattle.run_options.specs.declared.tools.ToolKind.{ToolKind}
use Rattle.run_options.specs.declared.tools.Verdict.{Verdict}
use Rattle.run_options.specs.declared.tools.TheConstants.{TOOLS}

-- what a known tool may be given, the pattern of the paths that it reads besides the files that it is given,
-- and what its verdict on one of these depends on
pub record Tool : Type 0 where
  pub kind : ToolKind
  pub reads : List ℕ
  pub verdict : Verdict

-- the tool that a row of the code gives
abbrev pub tool_of : Option (ToolKind × Bor (List ℕ) × Verdict) → Option Tool
tool_of None = None
tool_of (Some given) = Some (record { kind = given.0; reads = given.1.now; verdict = given.2 })

-- a tool and its name
pub record ToolRow : Type 0 where
  pub name : List ℕ
  pub tool : Tool

-- the rows of a table, as the code looks them up
abbrev pub tool_rows_of : List (Bor (List ℕ) × ToolKind × Bor (List ℕ) × Verdict) → List ToolRow
tool_rows_of = map (λ row. record {
  name = row.0.now;
  tool = record { kind = row.1; reads = row.2.now; verdict = row.3 };
})

-- all known tools
unfoldable pub tool_rows : List ToolRow
tool_rows = map (λ row. record {
  name = row.0.now;
  tool = record { kind = row.1; reads = row.2.now; verdict = row.3 };
}) TOOLS

-- the tool of that name, none if no row has it
abbrev pub tool_in : List ToolRow → List ℕ → Option Tool
tool_in [] name = None
tool_in (row ∷ rows) name = if bytes_eq row.name name then Some row.tool else tool_in rows name
