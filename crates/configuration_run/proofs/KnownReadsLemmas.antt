-- Reads one after another.
use Rattle.std.proofs.Common.{◌∙◌, ap, sym, refl, arith, append_assoc, length-append, ℕ, ◌+◌, ◌≤◌, List, [], ◌++◌, length, Option, None, Some}
use Rattle.std.specs.Io.KnownBytes.{Consumes, Keeps}
use Rattle.configuration_run.specs.TryOver.{ReadsWithin}

pub consumes-nothing : (left : Option (List ℕ)) → Consumes left left []
consumes-nothing None = tt
consumes-nothing (Some bytes) = refl

pub consumes-kept : (given left : Option (List ℕ)) → Keeps given left → Consumes given left []
consumes-kept None left kept = tt
consumes-kept (Some given) None kept = kept
consumes-kept (Some given) (Some left) kept = sym kept

pub consumes-more : (given left rest : Option (List ℕ)) (first next : List ℕ) → Consumes given left first → Consumes left rest next
    → Consumes given rest (first ++ next)
consumes-more None left rest first next one two = tt
consumes-more (Some given) None rest first next one two = absurd one
consumes-more (Some given) (Some left) None first next one two = two
consumes-more (Some given) (Some left) (Some rest) first next one two =
    one ∙ ap (λ bytes. first ++ bytes) two ∙ sym (append_assoc first next rest)

pub within-more : (given left rest : Option (List ℕ)) (first : List ℕ) (most room : ℕ) → Consumes given left first
    → ReadsWithin room left rest → length first + room ≤ most → ReadsWithin most given rest
within-more given left rest first most room one next fits = record {
  bytes = first ++ next.bytes;
  read = consumes-more given left rest first next.bytes one next.read;
  within = let short = next.within in omega (arith, length-append first next.bytes);
}
