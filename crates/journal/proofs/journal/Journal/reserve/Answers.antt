-- What search doesn't prove of `reserve`: the clause `any_moment`, the clause `settled` and the clause `strings`, by
-- lemmas of `Crash`, `Growing` and `Moments`.
use Rattle.std.proofs.Common.{◌≡◌, List, ℕ, ◌++◌, replicate, ap, ◌∙◌}
use Rattle.journal.specs.Device.{Only}
use Rattle.journal.specs.Frames.{recorded}
use Rattle.journal.proofs.Crash.{recorded_now}
use Rattle.journal.proofs.Growing.{grown_crash, grown_image, grown_settled}
use Rattle.journal.proofs.Moments.{started, goes_on}
use Rattle.journal.proofs.journal.Journal.reserve.Goals as goal

pub returns-in_err-length-clause-any_moment : goal.returns-in_err-length-clause-any_moment
returns-in_err-length-clause-any_moment g c =
    let d = c.args.self.now.device in
    let P : List ℕ → Type 0 = λ x. recorded x ≡ recorded (g.D.Device.seen d) in
    goes_on g.D.Device.moment g.D.Device.left_since d d c.len.new.self P _
    (started g.D.Device.moment g.D.Device.left_since d P
    (λ x left. ap recorded (c.requires.durable x (g.met.D.Device.only_now d x left)))) c.len.ensures.time
    (λ x h. ap recorded (c.requires.durable x (c.len.ensures.crash x h)))

pub returns-in-None-clause-any_moment : goal.returns-in-None-clause-any_moment
returns-in-None-clause-any_moment g c =
    let d = c.args.self.now.device in
    let P : List ℕ → Type 0 = λ x. recorded x ≡ recorded (g.D.Device.seen d) in
    goes_on g.D.Device.moment g.D.Device.left_since d d c.len.new.self P _
    (started g.D.Device.moment g.D.Device.left_since d P
    (λ x left. ap recorded (c.requires.durable x (g.met.D.Device.only_now d x left)))) c.len.ensures.time
    (λ x h. ap recorded (c.requires.durable x (c.len.ensures.crash x h)))

pub returns-in_err-grow-in-Some-clause-any_moment : goal.returns-in_err-grow-in-Some-clause-any_moment
returns-in_err-grow-in-Some-clause-any_moment g c =
    let d = c.args.self.now.device in
    let old = recorded (g.D.Device.seen d) in
    let P : List ℕ → Type 0 = λ x. recorded x ≡ old in
    let only : Only (g.D.Device.seen d) (g.D.Device.may_leave c.len.new.self) = λ x h. c.requires.durable x
    (c.len.ensures.crash x h) in
    let asked = goes_on g.D.Device.moment g.D.Device.left_since d d c.len.new.self P _
    (started g.D.Device.moment g.D.Device.left_since d P
    (λ x left. ap recorded (c.requires.durable x (g.met.D.Device.only_now d x left)))) c.len.ensures.time
    (λ x h. ap recorded (only x h)) in
    goes_on g.D.Device.moment g.D.Device.left_since d c.len.new.self c.grow.new.self P _ asked c.grow.ensures.time
    (grown_crash old c.args.self.now.end (g.D.Device.seen d) c.requires.image c.in-Some.more _ _ only
    c.grow.ensures.crash)

pub returns-in_ok-grow-in-Some-clause-any_moment : goal.returns-in_ok-grow-in-Some-clause-any_moment
returns-in_ok-grow-in-Some-clause-any_moment g c =
    let d = c.args.self.now.device in
    let old = recorded (g.D.Device.seen d) in
    let P : List ℕ → Type 0 = λ x. recorded x ≡ old in
    let only : Only (g.D.Device.seen d) (g.D.Device.may_leave c.len.new.self) = λ x h. c.requires.durable x
    (c.len.ensures.crash x h) in
    let asked = goes_on g.D.Device.moment g.D.Device.left_since d d c.len.new.self P _
    (started g.D.Device.moment g.D.Device.left_since d P
    (λ x left. ap recorded (c.requires.durable x (g.met.D.Device.only_now d x left)))) c.len.ensures.time
    (λ x h. ap recorded (only x h)) in
    goes_on g.D.Device.moment g.D.Device.left_since d c.len.new.self c.grow.new.self P _ asked c.grow.ensures.time
    (grown_crash old c.args.self.now.end (g.D.Device.seen d) c.requires.image c.in-Some.more _ _ only
    c.grow.ensures.crash)

pub returns-in_ok-grow-in-Some-clause-settled : goal.returns-in_ok-grow-in-Some-clause-settled
returns-in_ok-grow-in-Some-clause-settled g c =
    let d = c.args.self.now.device in
    let only : Only (g.D.Device.seen d) (g.D.Device.may_leave c.len.new.self) = λ x h. c.requires.durable x
    (c.len.ensures.crash x h) in
    grown_settled (recorded (g.D.Device.seen d)) c.args.self.now.end (g.D.Device.seen d) c.requires.image
    c.in-Some.more _ _ (g.D.Device.seen c.grow.new.self) only
    (c.in_ok-grow-in-Some.ensures.grown ∙ ap (λ (l : List ℕ). l ++ replicate c.in-Some.more 0) c.len.ensures.seen)
    c.in_ok-grow-in-Some.ensures.durable

pub returns-in_ok-grow-in-Some-clause-strings : goal.returns-in_ok-grow-in-Some-clause-strings
returns-in_ok-grow-in-Some-clause-strings g c =
    let d = c.args.self.now.device in
    recorded_now (recorded (g.D.Device.seen d)) c.args.self.now.end (g.D.Device.seen c.grow.new.self)
    (grown_image (recorded (g.D.Device.seen d)) c.args.self.now.end (g.D.Device.seen d) c.requires.image
    c.in-Some.more (g.D.Device.seen c.grow.new.self)
    (c.in_ok-grow-in-Some.ensures.grown ∙ ap (λ (l : List ℕ). l ++ replicate c.in-Some.more 0) c.len.ensures.seen))
