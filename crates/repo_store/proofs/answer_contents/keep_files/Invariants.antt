use Rattle.std.proofs.Common.{◌≡◌, [], ◌∷◌, map, take}
use Rattle.std.specs.List.{flat_map}
use Rattle.hook_base.specs.declared.file.File.{File}
use Rattle.repo_store.specs.KeptContents.{AreAllKept}
use Rattle.repo_store.specs.Lists.{file_of}
use Rattle.repo_store.proofs.answer_contents.keep_files.Given as goal

abbrev pub invariant-files : goal.invariant-files
invariant-files l =
    record { files : map file_of l.files.items ≡ take l.index l.seen; kept : AreAllKept (flat_map (λ (file : File). file.entry.bytes ∷ []) (take l.index l.seen)) l.initial.contents l.contents }
