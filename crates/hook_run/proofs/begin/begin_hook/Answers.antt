use Rattle.std.proofs.Common.{◌∙◌, ap, sym, List}
use Rattle.hook_base.specs.declared.file.File.{File}
use Rattle.path_select.specs.Selection.{RuleTexts, selected_among}
use Rattle.hook_run.specs.HookRun.{IsEnding, IsHookRun, rules_of}
use Rattle.hook_run.proofs.CandidateLemmas.{selected-of_files}
use Rattle.hook_run.proofs.BeginLemmas.{begun-weaker_if, selected-ends}
use Rattle.hook_run.proofs.begin.begin_hook.Goals as goal

pub returns : goal.returns
returns c =
    let config = c.args.course.now.config.now in
    let ask = c.args.course.now.ask.now in
    let among = c.args.course.now.among in
    let rules = rules_of config c.args.hook.now in
    let chosen = c.in_ok-chosen.ensures
    ∙ ap (λ (texts : RuleTexts). selected_among texts among c.args.files.now) c.rules_of-rules.ensures
    ∙ ap (λ (files : List File). selected_among rules among files) c.requires.held
    ∙ selected-of_files rules config.files config.exclude ask.candidates among c.requires.course.passing c.args.tree.now in
    record {
      begun = begun-weaker_if (IsHookRun c.args.hook.now c.in_ok-chosen.chosen c.args.tree.now) (IsEnding config ask c.args.tree.now c.args.hook.now)
          c.args.hook.now c.args.tree.now c.begin_with.result
          (selected-ends config ask among c.args.tree.now c.args.hook.now c.in_ok-chosen.chosen c.requires.course.passing
          (sym c.is_skipped.ensures ∙ c.if-is_skipped.false) chosen)
          c.begin_with.ensures;
    }
