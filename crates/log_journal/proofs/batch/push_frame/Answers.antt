-- What search doesn't prove of `push_frame`: the clause `framed`, the clause `ok`, the clause `full` and the clause
-- `too_long`, by lemmas of `Batching`.
use Rattle.std.proofs.Common.{◌<◌, ◌^◌, ℕ, List, length, refl, ap, arith, length-append}
use Rattle.journal.specs.Frames.{frame, recorded}
use Rattle.log_journal.proofs.Batching.{frame_length, frames_longer, read_more, framed_more}
use Rattle.log_journal.proofs.batch.push_frame.Goals as goal

pub returns-clause-framed : goal.returns-clause-framed
returns-clause-framed c =
    let old = c.args.octets.now.items in
    let short : length c.put_string.new.out.items < 2 ^ 35 =
    omega (
      arith,
      ap length c.in_ok-put_string.ensures.ok,
      length-append old (frame
          c.args.string.now),
      frame_length c.args.string.now,
      c.requires.framed.short,
    ) in
    framed_more c.frames_are_read.ensures old c.args.string.now c.put_string.new.out.items c.requires.framed
    c.in_ok-put_string.ensures.ok short

pub returns-clause-ok : goal.returns-clause-ok
returns-clause-ok c =
    let old = c.args.octets.now.items in
    let short : length c.put_string.new.out.items < 2 ^ 35 =
    omega (
      arith,
      ap length c.in_ok-put_string.ensures.ok,
      length-append old (frame
          c.args.string.now),
      frame_length c.args.string.now,
      c.requires.framed.short,
    ) in
    read_more c.frames_are_read.ensures old c.args.string.now c.put_string.new.out.items c.requires.framed
    c.in_ok-put_string.ensures.ok short

pub returns-then-string-as_slice-clause-full : goal.returns-then-string-as_slice-clause-full
returns-then-string-as_slice-clause-full c = λ h.
    let longer = frames_longer c.args.octets.now.items c.args.string.now (recorded c.args.octets.now.items)
    c.requires.framed refl in
    omega (arith, longer)

pub returns-in_err-put_string-clause-too_long : goal.returns-in_err-put_string-clause-too_long
returns-in_err-put_string-clause-too_long c = λ h.
    let longer = frames_longer c.args.octets.now.items c.args.string.now (recorded c.args.octets.now.items)
    c.requires.framed refl in
    absurd (omega (arith, longer, h))

pub returns-clause-too_long : goal.returns-clause-too_long
returns-clause-too_long c = λ h.
    let longer = frames_longer c.args.octets.now.items c.args.string.now (recorded c.args.octets.now.items)
    c.requires.framed refl in
    absurd (omega (arith, longer, h))
