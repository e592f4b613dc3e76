-- Which line a fault names.
use Rattle.std.proofs.Common.{◌≡◌, ◌⊎◌, inl, inr, ℕ, refl, sym, ap, ◌∙◌}
use Rattle.yaml_lines.specs.Faults.{StandsAt, line_of_fault}
use Rattle.yaml_lines.specs.declared.fault.YamlFault.{YamlFault}
use Rattle.yaml_lines.specs.declared.fault.YamlKind.{YamlKind}
use Rattle.yaml_lines.specs.declared.fault.YamlKind.TheVariants.{Unsupported, Layout, OutOfMemory}

pub memory_line : (fault : YamlFault) (line : ℕ) → fault.kind ≡ OutOfMemory → fault.line ≡ 0 → StandsAt line fault
memory_line fault line kind is = is ∙ ap (λ (k : YamlKind). line_of_fault k line) (sym kind)

pub text_line : (kind : YamlKind) (line : ℕ) → (kind ≡ OutOfMemory → ⊥) → line ≡ line_of_fault kind line
text_line OutOfMemory line other = absurd (other refl)
text_line _ line other = refl

pub refusal_line : (fault : YamlFault) (line : ℕ) → fault.line ≡ line → (fault.kind ≡ Unsupported) ⊎ (fault.kind ≡ Layout) → StandsAt line fault
refusal_line fault line is (inl kind) = is ∙ ap (λ (k : YamlKind). line_of_fault k line) (sym kind)
refusal_line fault line is (inr kind) = is ∙ ap (λ (k : YamlKind). line_of_fault k line) (sym kind)
