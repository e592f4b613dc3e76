use Rattle.std.proofs.Common.{◌≡◌, drop, map}
use Rattle.repo_store.specs.Lists.{fix_of}
use Rattle.repo_store.specs.Repository.{fixed_bytes}
use Rattle.repo_store.proofs.look_ups.fixed_at.Given as goal

abbrev pub invariant-fixes : goal.invariant-fixes
invariant-fixes l = fixed_bytes l.path (map fix_of (drop l.fix-index l.fixes)) ≡ fixed_bytes l.path (map fix_of l.fixes)
