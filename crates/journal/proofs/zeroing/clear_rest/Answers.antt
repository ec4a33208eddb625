-- What search doesn't prove of `clear_rest`: the clause `any_moment`, `loop-done-preserved` and the clause `settled`,
-- by lemmas of `Clearing` and `Moments`.
use Rattle.std.proofs.Common.{◌≡◌, ◌+◌, List, ℕ, take, refl, sym, subst, arith}
use Rattle.journal.specs.Device.{Only}
use Rattle.journal.specs.Frames.{recorded}
use Rattle.journal.specs.Journal.{IsImage}
use Rattle.journal.specs.private.Journal.{Cleared}
use Rattle.journal.proofs.Clearing.{all_cleared, behind_crash, behind_written, cleared_same, zeros_part}
use Rattle.journal.proofs.Moments.{goes_on}
use Rattle.journal.proofs.zeroing.clear_rest.Goals as goal

pub returns-in_err-write_at-clause-any_moment : goal.returns-in_err-write_at-clause-any_moment
returns-in_err-write_at-clause-any_moment g c =
    let bs = recorded (g.D.Device.seen c.args.device.now) in
    let P : List ℕ → Type 0 = λ f. recorded f ≡ bs in
    let octets = take c.min-piece.result c.args.zeros.now in
    let torn : (f : List ℕ) → g.D.Device.may_leave c.write_at.new.self f → Cleared bs c.args.end c.args.header
    c.args.room f = λ f now.
    let from = c.write_at.ensures.crash f now in
    behind_crash bs c.args.end c.args.header c.args.room from.0 (c.loop-done.invariant.left from.0 from.1)
    (c.args.end + c.loop-done.done) octets f (omega arith) from.2 in
    let written = goes_on g.D.Device.moment g.D.Device.left_since c.args.device.now c.loop-done.device
    c.write_at.new.self P _ c.loop-done.invariant.moments c.write_at.ensures.time
    (λ f now. cleared_same bs c.args.end c.args.header c.args.room f (torn f now) c.requires.header) in
    written

pub loop-done-preserved : goal.loop-done-preserved
loop-done-preserved g c =
    let bs = recorded (g.D.Device.seen c.args.device.now) in
    let P : List ℕ → Type 0 = λ f. recorded f ≡ bs in
    let octets = take c.min-piece.result c.args.zeros.now in
    let torn : (f : List ℕ) → g.D.Device.may_leave c.write_at.new.self f → Cleared bs c.args.end c.args.header
    c.args.room f = λ f now.
    let from = c.write_at.ensures.crash f now in
    behind_crash bs c.args.end c.args.header c.args.room from.0 (c.loop-done.invariant.left from.0 from.1)
    (c.args.end + c.loop-done.done) octets f (omega arith) from.2 in
    let written = goes_on g.D.Device.moment g.D.Device.left_since c.args.device.now c.loop-done.device
    c.write_at.new.self P _ c.loop-done.invariant.moments c.write_at.ensures.time
    (λ f now. cleared_same bs c.args.end c.args.header c.args.room f (torn f now) c.requires.header) in
    record {
      written = behind_written bs c.args.end c.loop-done.done c.args.room (g.D.Device.seen c.loop-done.device)
          c.loop-done.invariant.written c.min-piece.result octets (g.D.Device.seen c.write_at.new.self)
          (zeros_part c.args.zeros.now c.min-piece.result c.min-piece.result c.requires.zeros (omega arith) refl)
          (omega arith) c.in_ok-write_at.ensures.written;
      left = torn;
      moments = written;
      later = omega (arith, c.write_at.ensures.cause.later, c.loop-done.invariant.later);
      most = omega arith;
      least = omega arith;
    }

pub returns-in_err-sync-clause-any_moment : goal.returns-in_err-sync-clause-any_moment
returns-in_err-sync-clause-any_moment g c =
    let bs = recorded (g.D.Device.seen c.args.device.now) in
    let P : List ℕ → Type 0 = λ f. recorded f ≡ bs in
    goes_on g.D.Device.moment g.D.Device.left_since c.args.device.now c.loop-done.device c.sync.new.self P _
    c.loop-done.invariant.moments c.sync.ensures.time
    (λ f now. cleared_same bs c.args.end c.args.header c.args.room f
    (c.loop-done.invariant.left f (c.sync.ensures.crash f now)) c.requires.header)

pub returns-clause-any_moment : goal.returns-clause-any_moment
returns-clause-any_moment g c =
    let bs = recorded (g.D.Device.seen c.args.device.now) in
    let P : List ℕ → Type 0 = λ f. recorded f ≡ bs in
    goes_on g.D.Device.moment g.D.Device.left_since c.args.device.now c.loop-done.device c.sync.new.self P _
    c.loop-done.invariant.moments c.sync.ensures.time
    (λ f now. cleared_same bs c.args.end c.args.header c.args.room f
    (c.loop-done.invariant.left f (c.sync.ensures.crash f now)) c.requires.header)

pub returns-clause-settled : goal.returns-clause-settled
returns-clause-settled g c = record {
  image = subst (IsImage (recorded (g.D.Device.seen c.args.device.now)) c.args.end) (sym c.sync.ensures.seen)
      (all_cleared (recorded (g.D.Device.seen c.args.device.now)) c.args.end c.loop-done.done c.args.room
      (g.D.Device.seen c.loop-done.device) c.loop-done.invariant.written (omega arith));
  durable = subst (λ f. Only f (g.D.Device.may_leave c.sync.new.self)) (sym c.sync.ensures.seen)
      c.in_ok-sync.ensures.durable;
}
