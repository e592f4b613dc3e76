use Rattle.std.proofs.Common.{◌≡◌, drop, bytes_eq}
use Rattle.std.specs.List.{list_any}
use Rattle.hook_config.proofs.kinds.is_among.Given as goal

abbrev pub invariant-loop-known : goal.invariant-loop-known
invariant-loop-known l =
    list_any (λ known. bytes_eq known.now l.word) (drop l.known-index l.words) ≡ list_any (λ known. bytes_eq known.now l.word) l.words
