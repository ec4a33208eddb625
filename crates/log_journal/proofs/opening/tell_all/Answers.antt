-- What search doesn't prove of `tell_all`: `strings-init`, `strings-preserved`, `strings-smaller`, the clause
-- `any_moment` and others, by lemmas of `Along` and `Finding`.
use Rattle.std.proofs.Common.{◌≡◌, List, ℕ, true, false, Err, length, drop, refl, sym, ap, ap₂, ◌∙◌, subst, arith}
use Rattle.journal.specs.Device.{LeavesOnly}
use Rattle.journal.specs.Frames.{is_whole, recorded}
use Rattle.log_journal.specs.Found.{HasAnotherVersion}
use Rattle.log_journal.specs.private.Found.{TellsNext}
use Rattle.log_journal.specs.Refused.{HasDamage}
use Rattle.log_journal.specs.Told.{Told, Tells, nothing_told}
use Rattle.log_journal.specs.Views.{told_view}
use Rattle.log_journal.specs.declared.error.NoteError.{NoteError}
use Rattle.log_journal.specs.declared.error.NoteError.TheVariants.{AnotherVersion, Damaged}
use Rattle.log_journal.proofs.Along.{chained, started}
use Rattle.log_journal.proofs.Finding.{nothing_found, some_found, telling_done, telling_next, telling_none}
use Rattle.log_journal.proofs.opening.tell_all.Goals as goal

pub strings-init : goal.strings-init
strings-init g c =
    let d = c.args.device.now in
    record {
      telling = telling_none (g.J.Device.seen d) c.args.reader.now.end (told_view c.nothing_told-told.result)
          c.requires.front c.nothing_told-told.ensures;
      read = c.requires.read;
      seen = refl;
      durable = c.requires.durable;
      moments = started g.J.Device.moment g.J.Device.left_since d (λ (x : List ℕ). recorded x ≡
          recorded (g.J.Device.seen d))
          (λ x left. ap recorded (c.requires.durable x (g.met.J.Device.only_now d x left)));
      later = omega arith;
    }

pub strings-preserved : goal.strings-preserved
strings-preserved g c =
    let d = c.args.device.now in
    let image = g.J.Device.seen d in
    let before = c.strings.invariant in
    let step : TellsNext true c.strings.reader c.tell_next.new.reader (told_view c.strings.told)
    (told_view c.tell_next.new.told) image =
    subst (λ (l : List ℕ). TellsNext true c.strings.reader c.tell_next.new.reader (told_view c.strings.told)
    (told_view c.tell_next.new.told) l) before.seen
    (subst (λ b. TellsNext b c.strings.reader c.tell_next.new.reader (told_view c.strings.told)
    (told_view c.tell_next.new.told) (g.J.Device.seen c.strings.device)) c.if-not-more.false c.in-Ok.ensures.told)
    in
    record {
      telling = telling_next image c.strings.reader c.tell_next.new.reader (told_view c.strings.told)
          (told_view c.tell_next.new.told) before.telling step.0 step.1;
      read = c.in-Ok.ensures.read;
      seen = c.tell_next.ensures.seen ∙ before.seen;
      durable = c.tell_next.ensures.durable;
      moments =
          chained g.J.Device.moment g.J.Device.left_since d c.strings.device c.tell_next.new.device
          (λ (x : List ℕ). recorded x ≡ recorded image) before.moments
          (subst (λ (l : List (List ℕ)). LeavesOnly g.J.Device.moment g.J.Device.left_since c.strings.device
          c.tell_next.new.device (λ (x : List ℕ). recorded x ≡ l)) (ap recorded before.seen)
          c.tell_next.ensures.any_moment);
      later = omega (arith, before.later, c.tell_next.ensures.later);
    }

pub strings-smaller : goal.strings-smaller
strings-smaller g c =
    let d = c.args.device.now in
    let image = g.J.Device.seen d in
    let before = c.strings.invariant in
    let step : TellsNext true c.strings.reader c.tell_next.new.reader (told_view c.strings.told)
    (told_view c.tell_next.new.told) image =
    subst (λ (l : List ℕ). TellsNext true c.strings.reader c.tell_next.new.reader (told_view c.strings.told)
    (told_view c.tell_next.new.told) l) before.seen
    (subst (λ b. TellsNext b c.strings.reader c.tell_next.new.reader (told_view c.strings.told)
    (told_view c.tell_next.new.told) (g.J.Device.seen c.strings.device)) c.if-not-more.false c.in-Ok.ensures.told)
    in
    omega (arith, step.0.rises, c.in-Ok.ensures.read.within, ap length c.tell_next.ensures.seen)

pub returns-then-not-more-clause-any_moment : goal.returns-then-not-more-clause-any_moment
returns-then-not-more-clause-any_moment g c =
    let d = c.args.device.now in
    let image = g.J.Device.seen d in
    let before = c.strings.invariant in
    chained g.J.Device.moment g.J.Device.left_since d c.strings.device c.tell_next.new.device
    (λ (x : List ℕ). recorded x ≡ recorded image) before.moments
    (subst (λ (l : List (List ℕ)). LeavesOnly g.J.Device.moment g.J.Device.left_since c.strings.device
    c.tell_next.new.device (λ (x : List ℕ). recorded x ≡ l)) (ap recorded before.seen)
    c.tell_next.ensures.any_moment)

pub returns-in-Err-clause-any_moment : goal.returns-in-Err-clause-any_moment
returns-in-Err-clause-any_moment g c =
    let d = c.args.device.now in
    let image = g.J.Device.seen d in
    let before = c.strings.invariant in
    chained g.J.Device.moment g.J.Device.left_since d c.strings.device c.tell_next.new.device
    (λ (x : List ℕ). recorded x ≡ recorded image) before.moments
    (subst (λ (l : List (List ℕ)). LeavesOnly g.J.Device.moment g.J.Device.left_since c.strings.device
    c.tell_next.new.device (λ (x : List ℕ). recorded x ≡ l)) (ap recorded before.seen)
    c.tell_next.ensures.any_moment)

pub returns-in-Err-clause-version : goal.returns-in-Err-clause-version
returns-in-Err-clause-version g c = λ is.
    let d = c.args.device.now in
    let image = g.J.Device.seen d in
    let before = c.strings.invariant in
    let same : c.in-Err.error ≡ AnotherVersion = cc is in
    before.telling.version (subst (λ (l : List ℕ). HasAnotherVersion (recorded (drop c.strings.reader.end l)))
    before.seen (c.in-Err.ensures.version (ap (λ (x : NoteError). Err x) same)))

pub returns-in-Err-clause-damaged : goal.returns-in-Err-clause-damaged
returns-in-Err-clause-damaged g c = λ is.
    let d = c.args.device.now in
    let image = g.J.Device.seen d in
    let before = c.strings.invariant in
    let same : c.in-Err.error ≡ Damaged = cc is in
    before.telling.damage (subst (λ (l : List ℕ). HasDamage (recorded (drop c.strings.reader.end l))) before.seen
    (c.in-Err.ensures.damaged (ap (λ (x : NoteError). Err x) same)))

pub returns-then-not-more-clause-told : goal.returns-then-not-more-clause-told
returns-then-not-more-clause-told g c =
    let d = c.args.device.now in
    let image = g.J.Device.seen d in
    let before = c.strings.invariant in
    let step : TellsNext false c.strings.reader c.tell_next.new.reader (told_view c.strings.told)
    (told_view c.tell_next.new.told) image =
    subst (λ (l : List ℕ). TellsNext false c.strings.reader c.tell_next.new.reader (told_view c.strings.told)
    (told_view c.tell_next.new.told) l) before.seen
    (subst (λ b. TellsNext b c.strings.reader c.tell_next.new.reader (told_view c.strings.told)
    (told_view c.tell_next.new.told) (g.J.Device.seen c.strings.device)) c.if-not-more.true c.in-Ok.ensures.told) in
    subst (λ (u : Told). Tells nothing_told (recorded image) u) (sym step.1) (telling_done image c.strings.reader
    c.tell_next.new.reader (told_view c.strings.told) before.telling step.0)

pub returns-then-not-more-clause-none : goal.returns-then-not-more-clause-none
returns-then-not-more-clause-none g c =
    let d = c.args.device.now in
    let image = g.J.Device.seen d in
    let before = c.strings.invariant in
    let step : TellsNext false c.strings.reader c.tell_next.new.reader (told_view c.strings.told)
    (told_view c.tell_next.new.told) image =
    subst (λ (l : List ℕ). TellsNext false c.strings.reader c.tell_next.new.reader (told_view c.strings.told)
    (told_view c.tell_next.new.told) l) before.seen
    (subst (λ b. TellsNext b c.strings.reader c.tell_next.new.reader (told_view c.strings.told)
    (told_view c.tell_next.new.told) (g.J.Device.seen c.strings.device)) c.if-not-more.true c.in-Ok.ensures.told) in
    ap₂ (λ k (l : List ℕ). is_whole (drop k l)) step.0.stays (c.tell_next.ensures.seen ∙ before.seen) ∙ step.0.none

pub returns-then-not-more-clause-empty : goal.returns-then-not-more-clause-empty
returns-then-not-more-clause-empty g c = λ e.
    let d = c.args.device.now in
    let image = g.J.Device.seen d in
    let before = c.strings.invariant in
    let step : TellsNext false c.strings.reader c.tell_next.new.reader (told_view c.strings.told)
    (told_view c.tell_next.new.told) image =
    subst (λ (l : List ℕ). TellsNext false c.strings.reader c.tell_next.new.reader (told_view c.strings.told)
    (told_view c.tell_next.new.told) l) before.seen
    (subst (λ b. TellsNext b c.strings.reader c.tell_next.new.reader (told_view c.strings.told)
    (told_view c.tell_next.new.told) (g.J.Device.seen c.strings.device)) c.if-not-more.true c.in-Ok.ensures.told) in
    nothing_found image c.strings.reader.end (sym step.0.stays ∙ e) step.0.left

pub returns-then-not-more-clause-not_empty : goal.returns-then-not-more-clause-not_empty
returns-then-not-more-clause-not_empty g c = λ e.
    let d = c.args.device.now in
    let image = g.J.Device.seen d in
    let before = c.strings.invariant in
    let step : TellsNext false c.strings.reader c.tell_next.new.reader (told_view c.strings.told)
    (told_view c.tell_next.new.told) image =
    subst (λ (l : List ℕ). TellsNext false c.strings.reader c.tell_next.new.reader (told_view c.strings.told)
    (told_view c.tell_next.new.told) l) before.seen
    (subst (λ b. TellsNext b c.strings.reader c.tell_next.new.reader (told_view c.strings.told)
    (told_view c.tell_next.new.told) (g.J.Device.seen c.strings.device)) c.if-not-more.true c.in-Ok.ensures.told) in
    some_found image c.strings.reader.end before.telling.some (λ z. e (step.0.stays ∙ z))
