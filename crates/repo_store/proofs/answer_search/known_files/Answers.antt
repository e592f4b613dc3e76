use Rattle.std.proofs.Common.{◌≡◌, ◌∙◌, ◌<◌, true, false, length, sym, arith}
use Rattle.std.proofs.lemmas.Option.{get_or_from_slice_get}
use Rattle.std.proofs.lemmas.Result.{err_from_is_err_and}
use Rattle.repo_store.proofs.FixLemmas.{refusal_weaker}
use Rattle.repo_store.proofs.SearchLemmas.{collides_at, have_more, named_more, places_at}
use Rattle.repo_store.proofs.answer_search.known_files.Goals as goal

pub returns-in_err-file-clause-why : goal.returns-in_err-file-clause-why
returns-in_err-file-clause-why c =
    let all = c.args.seen.now in
    let i = c.files.index in
    let file = c.entry.result.now in
    let within : i < length all = omega arith in
    let is = get_or_from_slice_get all i file file c.entry.ensures.row in
    let p = err_from_is_err_and c.from_residual.result c.from_residual.ensures.1 in
    rw (p.1, p.2) (refusal_weaker (λ h. h) (λ h. h) (λ collides. collides_at c.args.contents.now all i file within is collides) c.in_err-file.field-0.0 (c.in_err-file.ensures).why)

pub returns-in_default-clause-absent : goal.returns-in_default-clause-absent
returns-in_default-clause-absent c placed =
    let all = c.args.seen.now in
    let i = c.files.index in
    let file = c.entry.result.now in
    let within : i < length all = omega arith in
    let absent = rw c.in_default.is at (c.in_ok-file.ensures).absent in
    let there = places_at c.args.contents.now all i file within (get_or_from_slice_get all i file file c.entry.ensures.row) placed in
    absurd (let never : true ≡ false = sym there ∙ absent in cc)

pub files-preserved : goal.files-preserved
files-preserved c =
    let all = c.args.seen.now in
    let i = c.files.index in
    let file = c.entry.result.now in
    let within : i < length all = omega arith in
    let is = get_or_from_slice_get all i file file c.entry.ensures.row in
    let named = rw c.in-Some.is at (c.in_ok-file.ensures).named in
    let known = rw c.in-Some.is at (c.in_ok-file.ensures).known in
    record {
      named = named_more c.args.contents.now all i file within is c.files.named.items c.push.new.self.items c.in-Some.file (c.in_ok-push.ensures).items c.files.invariant.named named;
      known = have_more c.args.contents.now all i file within is c.files.invariant.known known;
    }
