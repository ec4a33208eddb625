-- What search doesn't prove of `read`: the clause `any_moment`, by lemmas of `Along`.
use Rattle.std.proofs.Common.{◌≡◌, List, ℕ, ap, subst}
use Rattle.journal.specs.Device.{LeavesOnly}
use Rattle.journal.specs.Frames.{recorded}
use Rattle.log_journal.proofs.Along.{chained}
use Rattle.log_journal.proofs.opening.read.Goals as goal

pub returns-then-reader-eq0-clause-any_moment : goal.returns-then-reader-eq0-clause-any_moment
returns-then-reader-eq0-clause-any_moment g c =
    let d = c.args.journal.now.device in
    chained g.J.Device.moment g.J.Device.left_since d c.new.new.device c.tell_all.new.device
    (λ (x : List ℕ). recorded x ≡ recorded (g.J.Device.seen d)) c.new.ensures.any_moment
    (subst (λ (l : List (List ℕ)). LeavesOnly g.J.Device.moment g.J.Device.left_since c.new.new.device
    c.tell_all.new.device (λ (x : List ℕ). recorded x ≡ l)) (ap recorded c.new.ensures.seen)
    c.tell_all.ensures.any_moment)

pub returns-else-reader-eq0-clause-any_moment : goal.returns-else-reader-eq0-clause-any_moment
returns-else-reader-eq0-clause-any_moment g c =
    let d = c.args.journal.now.device in
    chained g.J.Device.moment g.J.Device.left_since d c.new.new.device c.tell_all.new.device
    (λ (x : List ℕ). recorded x ≡ recorded (g.J.Device.seen d)) c.new.ensures.any_moment
    (subst (λ (l : List (List ℕ)). LeavesOnly g.J.Device.moment g.J.Device.left_since c.new.new.device
    c.tell_all.new.device (λ (x : List ℕ). recorded x ≡ l)) (ap recorded c.new.ensures.seen)
    c.tell_all.ensures.any_moment)
