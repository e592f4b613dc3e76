-- Whether a store may be one that Git tracks, by what was learned of it.
use Rattle.std.specs.Prelude.{◌≡◌, ℕ, ◌&&◌, Bool, true, false, List, [], ◌∷◌, Result, Ok, Err, not}
use Rattle.std.specs.declared.io.Error.{Error}
use Rattle.commit_flow.specs.declared.host_refusal.HostRefusal.{HostRefusal}
use Rattle.commit_flow.specs.declared.host_refusal.HostRefusal.TheVariants.{OutOfMemory as NoMemoryOfHost}
use Rattle.hookhost.specs.Stops.{IsNoMemory}

pub record IsDistrustFor (error : Error) (told : Result Bool HostRefusal) : Type 0 where
  pub memory : IsNoMemory error → told ≡ Err NoMemoryOfHost
  pub other : ¬ IsNoMemory error → told ≡ Ok true

-- what was learned, and that it is so if it can't be learned, unless memory was refused
abbrev pub IsDistrust : Result Bool Error → Result Bool HostRefusal → Type 0
IsDistrust (Ok is_so) told = told ≡ Ok is_so
IsDistrust (Err error) told = IsDistrustFor error told

abbrev pub is_empty_list : List ℕ → Bool
is_empty_list [] = true
is_empty_list (byte ∷ bytes) = false

-- a list has names in it, or couldn't be made
abbrev pub lists_any : Bool → List ℕ → Bool
lists_any is_made list = not (is_made && is_empty_list list)
