use Rattle.std.proofs.lemmas.Result.{on_ok_weaker}
use Rattle.repo_store.specs.Lists.{file_of}
use Rattle.repo_store.proofs.FromRowsLemmas.{rises_at_place, rises_set, set_file}
use Rattle.repo_store.proofs.from_rows.commits.add_entry.Goals as goal

pub add_file-requires : goal.add_file-requires
add_file-requires c = rises_at_place c.args.history.now.items c.args.place c.index_mut-commit.result.now c.requires.there (c.index_mut-commit.ensures.value) c.requires.rising

pub returns-clause-added : goal.returns-clause-added
returns-clause-added c =
    on_ok_weaker c.add_file.result (λ added. set_file c.args.history.now.items c.args.place c.index_mut-commit.result.now (file_of c.args.file) c.add_file.new.files c.requires.there
    (c.index_mut-commit.ensures.value) added) c.add_file.ensures.added

pub returns-clause-rising : goal.returns-clause-rising
returns-clause-rising c =
    on_ok_weaker c.add_file.result (λ rising. rises_set c.args.history.now.items c.args.place (record { message = c.index_mut-commit.result.now.message; files = c.add_file.new.files })
    c.requires.rising rising) c.add_file.ensures.rising
