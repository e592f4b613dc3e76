-- Why the files of a repository can't be used.
use Rattle.std.specs.Prelude.{◌≡◌, ◌<◌, ℕ, Result, Ok, Err, IsTrue}
use Rattle.std.specs.declared.io.Error.{Error}
use Rattle.sqlite.specs.Opening.{is_open_error}
use Rattle.sqlite.specs.declared.error.Error.{Error as DatabaseError}
use Rattle.sqlite.specs.declared.error.Error.TheVariants.{SqliteFailure}
use Rattle.sqlite.specs.declared.error.ErrorCode.TheVariants as code
use Rattle.store_faults.specs.Faults.{fault_of}
use Rattle.store_faults.specs.declared.fault.StoreFault.TheVariants.{NotAStore}
use Rattle.repository_files.specs.declared.database.Before.{Before}
use Rattle.repository_files.specs.declared.folder.FileState.{FileState}
use Rattle.repository_files.specs.declared.folder.FileState.TheVariants.{Nothing, Empty, OneByte, Filled, Other}
use Rattle.repository_files.specs.declared.repository_fault.RepositoryFault.{RepositoryFault}
use Rattle.repository_files.specs.declared.repository_fault.RepositoryFault.TheVariants.{CannotUseStore, CannotUseLock, NoStore}

-- What an error of opening the database means. The store's file can't be used if it is at fault: it can't be
-- opened, is in use, holds no database or a damaged one, or can't be read or written. Any other error is the
-- store's.
abbrev pub of_database : DatabaseError → RepositoryFault
of_database (SqliteFailure code.CannotOpen) = CannotUseStore
of_database (SqliteFailure code.DatabaseBusy) = CannotUseStore
of_database (SqliteFailure code.NotADatabase) = CannotUseStore
of_database (SqliteFailure code.DatabaseCorrupt) = CannotUseStore
of_database (SqliteFailure code.SystemIoFailure) = CannotUseStore
of_database error = NoStore (fault_of error)

-- the fault is what `of_database` makes of an error of opening the store's database
abbrev pub IsFaultOfDatabase : RepositoryFault → Type 0
IsFaultOfDatabase fault = (error : DatabaseError) × IsTrue (is_open_error error) × (fault ≡ of_database error)

-- the store's file can't be used, or the store can't be opened
abbrev pub IsFaultOfOpening : RepositoryFault → Type 0
IsFaultOfOpening CannotUseStore = Unit {0}
IsFaultOfOpening CannotUseLock = ⊥
IsFaultOfOpening (NoStore fault) = Unit {0}

-- what a file of this length counts as: the database's library treats one of a single byte as empty
abbrev pub IsFoundWith : ℕ → FileState → Type 0
IsFoundWith bytes Empty = bytes ≡ 0
IsFoundWith bytes OneByte = bytes ≡ 1
IsFoundWith bytes Filled = 1 < bytes
IsFoundWith bytes found = ⊥

-- a file is there, whatever it contains
abbrev pub IsFile : FileState → Type 0
IsFile Nothing = ⊥
IsFile Other = ⊥
IsFile found = Unit {0}

-- What opening the store makes of what is at its name and at its log's. A file without a database is no
-- store, since to open it would make one of it. If no file is there, or if that can't be said, the store
-- can't be used.
abbrev pub before_of : Result FileState Error → Result FileState Error → Result Before RepositoryFault
before_of (Ok Filled) (Ok log) = Ok (record { log = log })
before_of (Ok Empty) (Ok log) = Err (NoStore NotAStore)
before_of (Ok OneByte) (Ok log) = Err (NoStore NotAStore)
before_of store log = Err CannotUseStore
