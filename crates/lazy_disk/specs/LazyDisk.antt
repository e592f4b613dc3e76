-- The parts of a `LazyDisk` of which contracts speak.
use Rattle.std.specs.Prelude.{◌≡◌, ℕ, Bool, false, Option}
use Rattle.lazy_disk.specs.declared.lazy_disk.LazyDisk.{LazyDisk}
use Rattle.lazy_disk.specs.DueCut.{uncut_len}
use Rattle.sqlite_disk.specs.declared.Disk.{Ghosts}

module _ {D : Type 0} {g : Ghosts D} where
  -- the disk that it passes calls on to
  abbrev pub inner_of : LazyDisk D g → D
  inner_of f = f.inner

  -- whether something may have been written since the last sync that passed, so that the next one is passed
  -- on
  abbrev pub is_dirty : LazyDisk D g → Bool
  is_dirty f = f.is_dirty

  -- the length to which that disk is still to be cut
  abbrev pub cut_of : LazyDisk D g → Option ℕ
  cut_of f = f.cut

  -- how many bytes that disk is known to have while a cut is due
  abbrev pub uncut_of : LazyDisk D g → Option ℕ
  uncut_of f = uncut_len f.cut f.known_len

  -- the greatest length that its file may get
  abbrev pub most_of : LazyDisk D g → ℕ
  most_of f = f.most_len

  -- no call has failed in it, rather than in the disk below
  abbrev pub IsFresh : LazyDisk D g → Type 0
  IsFresh f = (f.refused ≡ 0) × (f.is_sync_refused ≡ false)
