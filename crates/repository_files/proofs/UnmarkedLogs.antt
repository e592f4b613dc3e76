-- A log whose first page hasn't its mark holds no change.
use Rattle.std.proofs.Common.{◌≡◌, ◌≢◌, ℕ, zero, suc, ◌+◌, ◌≤◌, List, [], length, refl, sym, ◌∙◌, ap, inl, inr, arith}
use Rattle.sqlite_wal.specs.Format.{part}
use Rattle.sqlite_wal.specs.Recovery.{RecoversAs, Replays, frame, frame_at, header, pages_after}
use Rattle.repository_files.proofs.Kit.{frames_len-zero, part-part}

-- the first frame's mark is that of the log
pub mark_of_first : (size : ℕ) (log : List ℕ) → 32 ≤ length log → frame_at size 0 + (24 + size) ≤ length log
    → part (frame size log 0) 8 8 ≡ part (header log) 16 8 → part log 40 8 ≡ part log 16 8
mark_of_first size log long within salt =
    let none = frames_len-zero size in
    let at : frame_at size 0 + 8 ≡ 40 = omega arith in
    ap (λ a. part log a 8) (sym at) ∙ sym (part-part log (frame_at size 0) (24 + size) 8 8 within (omega arith)) ∙ salt
    ∙ part-part log 0 32 16 8 (omega arith) (omega arith)

-- so the recovery takes no frame of another log
pub takes_none : (size : ℕ) (log : List ℕ) (count : ℕ) → part log 40 8 ≢ part log 16 8 → Replays size log count → count ≡ 0
takes_none size log zero other replays = refl
takes_none size log (suc count) other (inl ignored) = absurd (omega (arith, ignored.1))
takes_none size log (suc count) other (inr taken) =
    let first = taken.0.valid 0 (omega arith) in
    absurd (other (mark_of_first size log (omega (arith, taken.0.long)) first.within first.passes.salt))

pub same_pages : (size : ℕ) (log db : List ℕ) (count : ℕ) → count ≡ 0 → pages_after size log db count ≡ pages_after size [] db 0
unfolding pages_after
same_pages size log db zero is = refl
same_pages size log db (suc count) is = absurd (omega (arith, is))

-- whatever the two files stand for, the database stands for without that log
pub recovers_without : (size : ℕ) (log db : List ℕ) → part log 40 8 ≢ part log 16 8
    → RecoversAs size (record { log = log; db = db }) (record { log = []; db = db })
recovers_without size log db other pages found = record {
  frames = 0;
  replays = inl (inl (omega arith), refl);
  present = found.present;
  gives = sym (same_pages size log db found.frames (takes_none size log found.frames other found.replays)) ∙ found.gives;
}
