-- The further files of a hook are those that its pattern selects alone.
use Rattle.std.proofs.Common.{◌≡◌, ◌∙◌, refl, sym, subst, ℕ, Bool, true, false, List, [], None, map}
use Rattle.std.specs.Prelude.{if◌then◌else◌}
use Rattle.std.specs.Str.{bytes_eq}
use Rattle.std.specs.Cmp.Lexicographic.{bytes_decides}
use Rattle.hook_base.specs.declared.file.File.{File}
use Rattle.hook_base.specs.Trees.{entry_of, path_of}
use Rattle.hook_config.specs.Patterns.{no_path}
use Rattle.hook_config.specs.declared.configuration.Hook.{Hook}
use Rattle.path_select.specs.Selection.{found_in, rules_of_pattern, selected}
use Rattle.path_select.proofs.DefaultPatternLemmas.{none_found_in, selected_alone}
use Rattle.hook_run.specs.HookRun.{further_of}

-- nothing is found by the pattern that is found in no path, so a search for it can be spared
spared : (pattern : List ℕ) (tree : List File) → entry_of [] tree ≡ None → (b : Bool) → (b ≡ true → pattern ≡ no_path)
    → (if b then [] else found_in pattern tree) ≡ found_in pattern tree
spared pattern tree some true is = sym (subst (λ (text : List ℕ). found_in text tree ≡ []) (sym (is refl)) (none_found_in tree some))
spared pattern tree some false is = refl

pub selected-further : (hook : Hook) (tree : List File) → entry_of [] tree ≡ None → further_of hook tree ≡ selected (rules_of_pattern hook.x_reads) (map path_of tree) tree
selected-further hook tree some =
    spared hook.x_reads tree some (bytes_eq hook.x_reads no_path) (bytes_decides hook.x_reads no_path).0
    ∙ sym (selected_alone hook.x_reads tree some)
