-- What search doesn't prove of `settle`: what `append` requires, the clause `any_moment`, the clause `strings` and the
-- clause `held`, by lemmas of `Along`.
use Rattle.std.proofs.Common.{◌≡◌, ℕ, List, ◌++◌, sym, ap, ◌∙◌, subst}
use Rattle.journal.specs.Device.{LeavesOnly}
use Rattle.journal.specs.Frames.{recorded, frames}
use Rattle.journal.specs.Journal.{IsGrown}
use Rattle.log_journal.proofs.Along.{started, chained, weaker, none_grown, held_after}
use Rattle.log_journal.proofs.keeping.settle.Goals as goal

pub append-requires-clause-whole : goal.append-requires-clause-whole
append-requires-clause-whole g c = c.octets-octets.ensures.framed ∙ ap frames (sym c.octets-octets.ensures.strings)

pub returns-in_err-make_room-clause-any_moment : goal.returns-in_err-make_room-clause-any_moment
returns-in_err-make_room-clause-any_moment g c =
    let d = c.args.journal.now.device in
    let old = recorded (g.J.Device.seen d) in
    weaker g.J.Device.moment g.J.Device.left_since d c.make_room.new.journal.device (λ (x : List ℕ). recorded x ≡ old)
    (IsGrown old c.args.batch.now) (λ x e. none_grown old c.args.batch.now x e) c.make_room.ensures.any_moment

pub returns-in_err-append-clause-any_moment : goal.returns-in_err-append-clause-any_moment
returns-in_err-append-clause-any_moment g c =
    let d = c.args.journal.now.device in
    let old = recorded (g.J.Device.seen d) in
    let P : List ℕ → Type 0 = IsGrown old c.args.batch.now in
    let asked = weaker g.J.Device.moment g.J.Device.left_since d c.make_room.new.journal.device
    (λ (x : List ℕ). recorded x ≡ old) P (λ x e. none_grown old c.args.batch.now x e)
    c.make_room.ensures.any_moment in
    chained g.J.Device.moment g.J.Device.left_since d c.make_room.new.journal.device c.append.new.self.device P asked
    (subst (λ (l : List (List ℕ)). LeavesOnly g.J.Device.moment g.J.Device.left_since c.make_room.new.journal.device
    c.append.new.self.device (IsGrown old l)) c.octets-octets.ensures.strings
    (subst (λ (l : List (List ℕ)). LeavesOnly g.J.Device.moment g.J.Device.left_since c.make_room.new.journal.device
    c.append.new.self.device (IsGrown l (recorded c.octets-octets.result.now))) c.in_ok-make_room.ensures.strings
    c.append.ensures.any_moment))

pub returns-clause-any_moment : goal.returns-clause-any_moment
returns-clause-any_moment g c =
    let d = c.args.journal.now.device in
    let old = recorded (g.J.Device.seen d) in
    let P : List ℕ → Type 0 = IsGrown old c.args.batch.now in
    let asked = weaker g.J.Device.moment g.J.Device.left_since d c.make_room.new.journal.device
    (λ (x : List ℕ). recorded x ≡ old) P (λ x e. none_grown old c.args.batch.now x e)
    c.make_room.ensures.any_moment in
    chained g.J.Device.moment g.J.Device.left_since d c.make_room.new.journal.device c.append.new.self.device P asked
    (subst (λ (l : List (List ℕ)). LeavesOnly g.J.Device.moment g.J.Device.left_since c.make_room.new.journal.device
    c.append.new.self.device (IsGrown old l)) c.octets-octets.ensures.strings
    (subst (λ (l : List (List ℕ)). LeavesOnly g.J.Device.moment g.J.Device.left_since c.make_room.new.journal.device
    c.append.new.self.device (IsGrown l (recorded c.octets-octets.result.now))) c.in_ok-make_room.ensures.strings
    c.append.ensures.any_moment))

pub returns-clause-strings : goal.returns-clause-strings
returns-clause-strings g c = c.in_ok-append.ensures.read
    ∙ ap (λ (l : List (List ℕ)). l ++ recorded c.octets-octets.result.now) c.in_ok-make_room.ensures.strings
    ∙ ap (λ (l : List (List ℕ)). recorded (g.J.Device.seen c.args.journal.now.device) ++ l)
    c.octets-octets.ensures.strings

pub returns-clause-held : goal.returns-clause-held
returns-clause-held g c = held_after _ _ _ _ c.in_ok-append.ensures.acknowledged c.in_ok-append.ensures.read

pub returns-then-is_empty-clause-any_moment : goal.returns-then-is_empty-clause-any_moment
returns-then-is_empty-clause-any_moment g c =
    let d = c.args.journal.now.device in
    let old = recorded (g.J.Device.seen d) in
    started g.J.Device.moment g.J.Device.left_since d (IsGrown old c.args.batch.now)
    (λ x left. none_grown old c.args.batch.now x
    (ap recorded (c.requires.durable x (g.met.J.Device.only_now d x left))))
