use Rattle.std.proofs.Common.{arith, ◌≡◌, ◌∙◌, true, false, bytes_eq}
use Rattle.std.specs.List.{list_any}
use Rattle.std.proofs.lemmas.Grind.{common_steps}
use Rattle.hook_config.proofs.Views.{any_of_texts}
use Rattle.hook_config.proofs.kinds.is_among.Goals as goal

pub returns-then-eq : goal.returns-then-eq
returns-then-eq c =
    let found : true ≡ list_any (λ known. bytes_eq known.now c.args.word.now) c.args.words.now = grind (arith, common_steps) in
    found ∙ any_of_texts c.args.words.now c.args.word.now

pub returns : goal.returns
returns c =
    let found : false ≡ list_any (λ known. bytes_eq known.now c.args.word.now) c.args.words.now = grind (arith, common_steps) in
    found ∙ any_of_texts c.args.words.now c.args.word.now
