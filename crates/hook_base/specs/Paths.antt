-- Paths inside a repository, as lists of bytes (docs/REFERENCE.md, "Paths").
use Rattle.std.specs.Prelude.{◌≡◌, ◌⊎◌, ℕ, Bool, false, ◌==◌, ◌||◌, nat_lt, if◌then◌else◌, List, [], ◌∷◌, length, Option, None, Some, codes}
use Rattle.std.specs.List.{slice_split, list_any}
use Rattle.std.specs.Str.{bytes_eq}
use Rattle.hook_base.specs.Limits.{most_path_bytes}
use Rattle.hook_base.specs.declared.path_fault.PathFault.{PathFault}
use Rattle.hook_base.specs.declared.path_fault.PathFault.TheVariants.{Empty, Absolute, DotPart, EmptyPart, TooLong, ControlByte, UnderGit}

abbrev pub is_slash : ℕ → Bool
is_slash byte = byte == 47

abbrev pub is_control_byte : ℕ → Bool
is_control_byte byte = nat_lt byte 32 || (byte == 127)

abbrev pub is_empty_part : List ℕ → Bool
is_empty_part part = length part == 0

-- `.` or `..`
abbrev pub is_dot_part : List ℕ → Bool
is_dot_part part = bytes_eq part (46 ∷ []) || bytes_eq part (46 ∷ 46 ∷ [])

-- the parts of a path between its slashes
abbrev pub parts_of : List ℕ → List (List ℕ)
parts_of path = slice_split is_slash path

-- the first part is this name
abbrev pub begins_with_part : List ℕ → List (List ℕ) → Bool
begins_with_part name [] = false
begins_with_part name (part ∷ parts) = bytes_eq part name

-- the first part is `.git`
abbrev pub is_under_git : List ℕ → Bool
is_under_git path = begins_with_part (codes ".git") (parts_of path)

abbrev pub begins_with_slash : List ℕ → Bool
begins_with_slash [] = false
begins_with_slash (byte ∷ bytes) = is_slash byte

-- the first reason, in this order, why the bytes aren't a path inside a repository
unfoldable pub path_fault : List ℕ → Option PathFault
path_fault path =
    if is_empty_part path then Some Empty else
    (if nat_lt most_path_bytes (length path) then Some TooLong else
    (if list_any is_control_byte path then Some ControlByte else
    (if begins_with_slash path then Some Absolute else
    (if list_any is_empty_part (parts_of path) then Some EmptyPart else
    (if list_any is_dot_part (parts_of path) then Some DotPart else
    (if is_under_git path then Some UnderGit else None))))))

-- the file with the message of a commit (githooks(5), "commit-msg"; git-commit(1), "FILES")
abbrev pub message_path : List ℕ
message_path = codes ".git/COMMIT_EDITMSG"

-- a path that a tree may have: a legal one, or that of the message
abbrev pub IsRepoPath : List ℕ → Type 0
IsRepoPath path = (path_fault path ≡ None) ⊎ (path ≡ message_path)
