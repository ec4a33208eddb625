-- What search doesn't prove of `clear`: what `clear_rest` requires, the clause `any_moment` and the clause `settled`,
-- by lemmas of `Clearing` and `Moments`.
use Rattle.std.proofs.Common.{◌≡◌, ◌-◌, List, ℕ, min, refl, subst, arith}
use Rattle.journal.specs.Device.{LeavesOnly}
use Rattle.journal.specs.Frames.{recorded}
use Rattle.journal.specs.Journal.{IsSettled}
use Rattle.journal.proofs.Clearing.{cleared_again, cleared_same}
use Rattle.journal.proofs.Moments.{chained}
use Rattle.journal.proofs.zeroing.clear.Goals as goal

pub clear_rest-requires-clause-cleared : goal.clear_rest-requires-clause-cleared
clear_rest-requires-clause-cleared g c =
    cleared_again (recorded (g.D.Device.seen c.args.device.now)) c.args.end c.min-header.result
    (c.args.size - c.args.end) (g.D.Device.seen c.clear_header.new.device) c.in_ok-clear_header.ensures.cleared
    (omega arith)

pub returns-in_err-clear_rest-clause-any_moment : goal.returns-in_err-clear_rest-clause-any_moment
returns-in_err-clear_rest-clause-any_moment g c =
    let d = c.args.device.now in
    let old = recorded (g.D.Device.seen d) in
    let cleared = c.in_ok-clear_header.ensures.cleared in
    let same : recorded (g.D.Device.seen c.clear_header.new.device) ≡ old = cleared_same old c.args.end
    (min (c.args.size - c.args.end) 10) (c.args.size - c.args.end) (g.D.Device.seen c.clear_header.new.device)
    cleared refl in
    chained g.D.Device.moment g.D.Device.left_since d c.clear_header.new.device c.clear_rest.new.device
    (λ (f : List ℕ). recorded f ≡ old) c.clear_header.ensures.any_moment
    (subst (λ (l : List (List ℕ)). LeavesOnly g.D.Device.moment g.D.Device.left_since c.clear_header.new.device
    c.clear_rest.new.device (λ (f : List ℕ). recorded f ≡ l)) same c.clear_rest.ensures.any_moment)

pub returns-clause-any_moment : goal.returns-clause-any_moment
returns-clause-any_moment g c =
    let d = c.args.device.now in
    let old = recorded (g.D.Device.seen d) in
    let cleared = c.in_ok-clear_header.ensures.cleared in
    let same : recorded (g.D.Device.seen c.clear_header.new.device) ≡ old = cleared_same old c.args.end
    (min (c.args.size - c.args.end) 10) (c.args.size - c.args.end) (g.D.Device.seen c.clear_header.new.device)
    cleared refl in
    chained g.D.Device.moment g.D.Device.left_since d c.clear_header.new.device c.clear_rest.new.device
    (λ (f : List ℕ). recorded f ≡ old) c.clear_header.ensures.any_moment
    (subst (λ (l : List (List ℕ)). LeavesOnly g.D.Device.moment g.D.Device.left_since c.clear_header.new.device
    c.clear_rest.new.device (λ (f : List ℕ). recorded f ≡ l)) same c.clear_rest.ensures.any_moment)

pub returns-clause-settled : goal.returns-clause-settled
returns-clause-settled g c =
    let d = c.args.device.now in
    let old = recorded (g.D.Device.seen d) in
    let cleared = c.in_ok-clear_header.ensures.cleared in
    let same : recorded (g.D.Device.seen c.clear_header.new.device) ≡ old = cleared_same old c.args.end
    (min (c.args.size - c.args.end) 10) (c.args.size - c.args.end) (g.D.Device.seen c.clear_header.new.device)
    cleared refl in
    subst (λ (l : List (List ℕ)). IsSettled (g.D.Device.seen c.clear_rest.new.device)
    (g.D.Device.may_leave c.clear_rest.new.device) l c.args.end) same c.in_ok-clear_rest.ensures.settled
