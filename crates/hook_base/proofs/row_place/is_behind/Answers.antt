use Rattle.std.proofs.Common.{◌≡◌, ◌∙◌, ◌-◌, ◌<◌, length, get_or, arith, ap, sym, subst, ℕ, suc}
use Rattle.hook_base.specs.declared.file.File.{File}
use Rattle.hook_base.specs.Rising.{IsBelow, path_cmp}
use Rattle.hook_base.specs.Overlays.{UpTo}
use Rattle.hook_base.proofs.PlaceLemmas.{From-length, up_to, gap}
use Rattle.hook_base.proofs.row_place.is_behind.Goals as goal

pub returns-in-Less : goal.returns-in-Less
returns-in-Less c = λ behind.
    let count = length c.args.rows.now in
    let within : count - 1 < count = omega arith in
    let all : suc (count - 1) ≡ count = omega arith in
    let compared = ap (λ (row : File). path_cmp row.path c.args.path.now) (sym (c.as_file.ensures ∙ c.index-rows-count.is)) ∙ sym c.in-Less.ensures in
    let below : IsBelow (get_or c.args.rows.now (count - 1) c.index-rows-count.result).path c.args.path.now = record { is_less = compared } in
    let up = subst (λ (n : ℕ). UpTo c.args.path.now c.args.rows.now n) all (up_to c.args.path.now c.args.rows.now (count - 1) c.index-rows-count.result within c.requires below) in
    gap c.args.path.now c.args.rows.now count up (From-length c.args.path.now c.args.rows.now)
