use Rattle.std.proofs.Common.{refl, ◌∙◌, arith, map}
use Rattle.repo_store.specs.Lists.{file_of}
use Rattle.repo_store.specs.Rows.{entry_row, with_entries}
use Rattle.repo_store.proofs.StepLemmas.{entry_more, done_for_all}
use Rattle.repo_store.proofs.commit.put_files.Goals as goal

pub loop-file-preserved : goal.loop-file-preserved
loop-file-preserved g c = record {
  same_reference = c.put_entry.ensures.same_reference ∙ c.loop-file.invariant.same_reference;
  step =
      entry_more g.S.Store c.args.tx.now.conn.now c.loop-file.tx.conn.now c.put_entry.new.tx.conn.now c.args.n c.args.files.now c.loop-file.file-index c.file-item.result _ c.loop-file-test.true
      c.file-item.is
      (rw (c.as_str.ensures.same, c.path.ensures, c.number_of.ensures, c.mode.ensures, c.digest.ensures, c.content.ensures) refl) c.loop-file.invariant.step c.in_ok-put_entry.ensures.step;
}

pub returns-clause-step : goal.returns-clause-step
returns-clause-step g c =
    done_for_all g.S.Store c.args.tx.now.conn.now c.loop-file.tx.conn.now (λ files t. with_entries (map (entry_row c.args.n) (map file_of files)) t) c.loop-file.file-index c.args.files.now
    (omega (arith, c.loop-file-test.false)) c.loop-file.invariant.step
