-- A file that is shown by reference.
use Rattle.hook_base.specs.declared.file.File.{File}
use Rattle.repo_store.specs.declared.file_ref.FileRef.{FileRef}

abbrev pub copied_file : FileRef → File
copied_file file = record { path = file.path.now; entry = record { mode = file.mode; bytes = file.bytes.now } }
