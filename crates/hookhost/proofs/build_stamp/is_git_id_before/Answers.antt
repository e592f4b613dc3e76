use Rattle.std.proofs.Common.{◌∙◌, subst, sym}
use Rattle.std.proofs.lemmas.Bool.{false≢true}
use Rattle.std.proofs.lemmas.Bool.Decides.{Decides-eqb}
use Rattle.std.proofs.lemmas.List.{append_cancel_right}
use Rattle.std.proofs.lemmas.Slice.Eq.{strip_suffix_is}
use Rattle.hookhost.specs.BuildStamps.{IsGitId}
use Rattle.hookhost.proofs.build_stamp.is_git_id_before.Goals as goal

pub returns-in-Some : goal.returns-in-Some
returns-in-Some c =
    let cut = rw c.in-Some.is at (strip_suffix_is Decides-eqb c.args.text.now c.args.words.now c.strip_suffix.result c.strip_suffix.ensures.cases) in (
      λ told. record { id = c.in-Some.id.now; is = cut; named = c.is_git_id.ensures.0 told },
      λ commit. c.is_git_id.ensures.1 (subst IsGitId (append_cancel_right commit.id c.in-Some.id.now c.args.words.now (sym commit.is ∙ cut)) commit.named),
    )

pub returns-in-None : goal.returns-in-None
returns-in-None c =
    let none = rw c.in-None.is at (strip_suffix_is Decides-eqb c.args.text.now c.args.words.now c.strip_suffix.result c.strip_suffix.ensures.cases) in
    (λ told. absurd (false≢true told), λ commit. absurd (none commit.id commit.is))
