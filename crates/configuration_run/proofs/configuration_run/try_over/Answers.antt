use Rattle.std.proofs.Common.{◌∙◌, ap, sym, subst, refl, List, ℕ}
use Rattle.std.proofs.lemmas.Result.{err_from_is_err_and}
use Rattle.hook_config.specs.Configuration.{configuration_of}
use Rattle.text_output.specs.Outputs.{Has, HasBeginning}
use Rattle.configuration_run.proofs.ReadingLemmas.{read-configuration, refused-run, refused-write}
use Rattle.configuration_run.proofs.configuration_run.try_over.Goals as goal

pub returns-clause-tried : goal.returns-clause-tried
returns-clause-tried g c =
    let meant = ap configuration_of (sym c.as_slice.ensures.value) ∙ c.in_ok-config.ensures.meant in
    record {
      out = c.in_ok-out.out;
      over = record {
        config = c.in_ok-config.config;
        read = read-configuration (g.R.Read.remaining c.args.reader.now) (g.R.Read.remaining c.read_bytes.new.reader) c.in_ok-bytes.bytes.items
            c.in_ok-config.config c.in_ok-bytes.ensures.read meant;
        run = c.in_ok-out.ensures.run;
      };
      verdict = refl;
      written = subst (λ (bytes : List ℕ). Has (record { held = g.W.Write.contents c.args.writer.now; holds = g.W.Write.contents c.write_report.new.writer }) bytes)
          c.as_slice-2.ensures c.in_ok-write_report.ensures.ok;
    }

pub returns-in_err-out-clause-refused : goal.returns-in_err-out-clause-refused
returns-in_err-out-clause-refused g c =
    let refusal = c.from_residual-in_err-out in
    let p = err_from_is_err_and refusal.result refusal.ensures.1 in
    let meant = ap configuration_of (sym c.as_slice.ensures.value) ∙ c.in_ok-config.ensures.meant in
    let read = read-configuration (g.R.Read.remaining c.args.reader.now) (g.R.Read.remaining c.read_bytes.new.reader) c.in_ok-bytes.bytes.items
    c.in_ok-config.config c.in_ok-bytes.ensures.read meant in
    rw (p.1, p.2)
    (refused-run _ _ (record { held = g.W.Write.contents c.args.writer.now; holds = g.W.Write.contents c.args.writer.now })
    (g.C.Children.tells c.args.children.now) (g.C.Children.call_count c.args.children.now) (g.C.Children.call_count c.run_on_all.new.children)
    (g.C.Children.fault_count c.args.children.now) (g.C.Children.fault_count c.run_on_all.new.children)
    c.in_ok-config.config c.args.tree.now c.in_err-out.field-0.0 read c.in_err-out.ensures.refused)

pub returns-in_err-write_report-clause-refused : goal.returns-in_err-write_report-clause-refused
returns-in_err-write_report-clause-refused g c =
    let refusal = c.from_residual-in_err-write_report in
    let p = err_from_is_err_and refusal.result refusal.ensures.1 in
    let meant = ap configuration_of (sym c.as_slice.ensures.value) ∙ c.in_ok-config.ensures.meant in
    rw (p.1, p.2)
    (refused-write _ _ (record { held = g.W.Write.contents c.args.writer.now; holds = g.W.Write.contents c.write_report.new.writer })
    (g.C.Children.tells c.args.children.now) (g.C.Children.call_count c.args.children.now) (g.C.Children.call_count c.run_on_all.new.children)
    (g.C.Children.fault_count c.args.children.now) (g.C.Children.fault_count c.run_on_all.new.children)
    c.args.tree.now c.in_ok-out.out c.in_err-write_report.field-0.0 c.in_err-write_report.ensures.err
    (record {
      config = c.in_ok-config.config;
      read = read-configuration (g.R.Read.remaining c.args.reader.now) (g.R.Read.remaining c.read_bytes.new.reader) c.in_ok-bytes.bytes.items
          c.in_ok-config.config c.in_ok-bytes.ensures.read meant;
      run = c.in_ok-out.ensures.run;
    })
    (subst (λ (bytes : List ℕ). HasBeginning (record { held = g.W.Write.contents c.args.writer.now; holds = g.W.Write.contents c.write_report.new.writer }) bytes)
    c.as_slice-2.ensures c.in_err-write_report.ensures.begun))
