use Rattle.std.proofs.Common.{◌∙◌, arith, map, sym}
use Rattle.command_line.proofs.MessageLemmas.{ended, flag_met, passes}
use Rattle.command_line.proofs.message_words.around_message.Goals as goal

pub returns-then-eq : goal.returns-then-eq
returns-then-eq c = ended c.args.words.now c.words.place _ (omega (arith, c.words-test.true)) (sym c.eq.ensures ∙ c.if-eq.true) c.words.invariant

pub returns-then-eq-2 : goal.returns-then-eq-2
returns-then-eq-2 c =
    flag_met c.args.words.now c.words.place _ c.around_flag.result (λ a. map (λ s. s.now) a.before.now) (λ a. a.message.now) (λ a. map (λ s. s.now) a.behind.now) (omega (arith, c.words-test.true))
    (sym c.eq-in-words.ensures ∙ c.if-eq-2.true) c.words.invariant c.around_flag.ensures

pub words-preserved : goal.words-preserved
words-preserved c =
    passes c.args.words.now c.words.place _ (omega (arith, c.words-test.true)) (sym c.eq.ensures ∙ c.if-eq.false) (sym c.eq-in-words.ensures ∙ c.if-eq-2.false) c.words.invariant
