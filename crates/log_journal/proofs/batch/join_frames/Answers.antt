-- What search doesn't prove of `join_frames`: the clause `framed` and the clause `ok`, by lemmas of `Batching`.
use Rattle.std.proofs.Common.{◌≡◌, ◌<◌, ◌^◌, ℕ, List, ◌++◌, length, ap, arith, length-append, rules}
use Rattle.log_journal.proofs.Batching.{read_both, framed_both}
use Rattle.log_journal.proofs.batch.join_frames.Goals as goal

pub returns-clause-framed : goal.returns-clause-framed
returns-clause-framed c =
    let joined : c.extend_from_slice.new.self.items ≡ c.args.octets.now.items ++ c.args.more.now = search rules in
    let short : length c.extend_from_slice.new.self.items < 2 ^ 35 =
    omega (
      arith,
      ap length joined,
      length-append c.args.octets.now.items c.args.more.now,
      c.requires.framed.short,
    ) in
    framed_both c.frames_are_read.ensures c.args.octets.now.items c.args.more.now c.extend_from_slice.new.self.items
    c.requires.framed c.requires.more joined short

pub returns-clause-ok : goal.returns-clause-ok
returns-clause-ok c =
    let joined : c.extend_from_slice.new.self.items ≡ c.args.octets.now.items ++ c.args.more.now = search rules in
    let short : length c.extend_from_slice.new.self.items < 2 ^ 35 =
    omega (
      arith,
      ap length joined,
      length-append c.args.octets.now.items c.args.more.now,
      c.requires.framed.short,
    ) in
    read_both c.frames_are_read.ensures c.args.octets.now.items c.args.more.now c.extend_from_slice.new.self.items
    c.requires.framed c.requires.more joined short
