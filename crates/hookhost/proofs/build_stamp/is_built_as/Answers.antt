use Rattle.std.proofs.Common.{◌∙◌, subst, sym}
use Rattle.std.proofs.lemmas.Bool.{false≢true}
use Rattle.std.proofs.lemmas.Bool.Decides.{Decides-eqb}
use Rattle.std.proofs.lemmas.List.{append_cancel_left}
use Rattle.std.proofs.lemmas.Slice.Eq.{strip_prefix_is}
use Rattle.hookhost.specs.BuildStamps.{IsGitCommit}
use Rattle.hookhost.proofs.build_stamp.is_built_as.Goals as goal

pub returns-in-Some : goal.returns-in-Some
returns-in-Some c =
    let cut = rw c.in-Some.is at (strip_prefix_is Decides-eqb c.args.line.now c.args.words.now c.strip_prefix.result c.strip_prefix.ensures.cases) in (
      λ told. record { commit = c.in-Some.commit.now; is = cut; named = c.is_git_commit.ensures.0 told },
      λ line. c.is_git_commit.ensures.1 (subst IsGitCommit (append_cancel_left c.args.words.now line.commit c.in-Some.commit.now (sym line.is ∙ cut)) line.named),
    )

pub returns-in-None : goal.returns-in-None
returns-in-None c =
    let none = rw c.in-None.is at (strip_prefix_is Decides-eqb c.args.line.now c.args.words.now c.strip_prefix.result c.strip_prefix.ensures.cases) in
    (λ told. absurd (false≢true told), λ line. absurd (none line.commit line.is))
