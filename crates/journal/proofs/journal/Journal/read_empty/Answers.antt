-- What search doesn't prove of `read_empty`: the clause `not_empty`, the clause `none`, the clause `empty` and the
-- clause `any_moment`, by lemmas of `Advancing` and `Moments`.
use Rattle.std.proofs.Common.{◌≡◌, List, ℕ, drop, sym, ap, ap₂, ◌∙◌, subst}
use Rattle.journal.specs.Device.{LeavesOnly}
use Rattle.journal.specs.Frames.{is_whole, recorded}
use Rattle.journal.specs.Reading.{Advances}
use Rattle.journal.proofs.Advancing.{empty_read, not_empty_read}
use Rattle.journal.proofs.Moments.{chained}
use Rattle.journal.proofs.journal.Journal.read_empty.Goals as goal

pub returns-then-branch-clause-not_empty : goal.returns-then-branch-clause-not_empty
returns-then-branch-clause-not_empty g c = λ no none.
    let image = g.D.Device.seen c.new.new.device in
    let step = subst (λ b. Advances b c.in_ok-reader.reader c.advance.new.self image) c.if-branch.true
    c.in_ok-advance.ensures.string in
    not_empty_read c.in_ok-reader.reader c.advance.new.self image c.in_ok-reader.ensures.end step
    (ap recorded c.new.ensures.seen ∙ none)

pub returns-clause-none : goal.returns-clause-none
returns-clause-none g c =
    let image = g.D.Device.seen c.new.new.device in
    let step = subst (λ b. Advances b c.in_ok-reader.reader c.advance.new.self image) c.if-branch.false
    c.in_ok-advance.ensures.string in
    ap₂ (λ k (l : List ℕ). is_whole (drop k l)) step.stays c.advance.ensures.seen ∙ step.none

pub returns-clause-empty : goal.returns-clause-empty
returns-clause-empty g c =
    let image = g.D.Device.seen c.new.new.device in
    let step = subst (λ b. Advances b c.in_ok-reader.reader c.advance.new.self image) c.if-branch.false
    c.in_ok-advance.ensures.string in
    ap recorded (sym c.new.ensures.seen) ∙ empty_read c.in_ok-reader.reader c.advance.new.self image
    c.in_ok-reader.ensures.end step

pub returns-clause-any_moment : goal.returns-clause-any_moment
returns-clause-any_moment g c =
    let d = c.args.self.now.device in
    chained g.D.Device.moment g.D.Device.left_since d c.new.new.device c.advance.new.device
    (λ (f : List ℕ). recorded f ≡ recorded (g.D.Device.seen d)) c.new.ensures.any_moment
    (subst (λ (l : List (List ℕ)). LeavesOnly g.D.Device.moment g.D.Device.left_since c.new.new.device
    c.advance.new.device (λ (f : List ℕ). recorded f ≡ l)) (ap recorded c.new.ensures.seen)
    c.advance.ensures.any_moment)
