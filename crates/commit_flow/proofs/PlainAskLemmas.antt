-- The configuration that is run without options is the staged one.
use Rattle.std.proofs.Common.{◌≡◌, ◌∙◌, ap, ap₂, sym, subst, refl, ◌||◌, Bool, true, false, List, [], ◌∷◌, map}
use Rattle.hook_config.specs.declared.configuration.Config.{Config}
use Rattle.hook_config.specs.declared.configuration.Hook.{Hook}
use Rattle.repo_store.specs.Repository.{Repository}
use Rattle.run_options.specs.declared.options.RunOptions.{RunOptions}
use Rattle.run_options.specs.Options.{hook_with_options, with_options}
use Rattle.commit_flow.specs.Configured.{IsConfigured, IsConfiguredFor}

abbrev none : RunOptions
none = record { cautious = false; verbose = false }

or_false : (b : Bool) → b || false ≡ b
or_false true = refl
or_false false = refl

same_hook : (hook : Hook) → hook_with_options none hook ≡ hook
same_hook hook = ap (λ (verbose : Bool). record hook { verbose = verbose }) (or_false hook.verbose)

same_hooks : (hooks : List Hook) → map (hook_with_options none) hooks ≡ hooks
same_hooks [] = refl
same_hooks (hook ∷ hooks) = ap₂ (λ (first : Hook) (rest : List Hook). first ∷ rest) (same_hook hook) (same_hooks hooks)

same_without : (config : Config) → with_options none config ≡ config
same_without config = ap (λ (hooks : List Hook). record config { hooks = hooks }) (same_hooks config.hooks)

module _ (repo : Repository) (config : Config) where
  pub plain_config : IsConfigured repo config → IsConfiguredFor none repo config
  plain_config configured = record { read = config; configured = configured; made = sym (same_without config) }

  pub config_of_plain : IsConfiguredFor none repo config → IsConfigured repo config
  config_of_plain plain = subst (IsConfigured repo) (sym (plain.made ∙ same_without plain.read)) plain.configured
