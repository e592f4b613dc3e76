use Rattle.yaml_profile.proofs.Texts.{meaning_of-characters, meaning_of-none}
use Rattle.yaml_profile.proofs.text.read.Goals as goal

pub returns-in-Ok-clause-meant : goal.returns-in-Ok-clause-meant
returns-in-Ok-clause-meant c = rw (meaning_of-characters _ _ c.in-Ok.ensures.meant, ← c.as_slice.ensures.value) c.read_text.ensures

pub returns-in-Err-clause-meant : goal.returns-in-Err-clause-meant
returns-in-Err-clause-meant c = λ other. meaning_of-none _ (c.in-Err.ensures.meant (λ memory. other (c.first_fault.ensures.memory memory)))
