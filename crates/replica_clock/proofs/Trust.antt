-- Whom a backup suspects, whatever befalls its clock.
use Rattle.std.proofs.Common.{◌≡◌, ℕ, ◌+◌, ◌-◌, ◌*◌, ◌/◌, ◌<◌, ◌≤◌, ◌&&◌, ◌||◌, ◌==◌, List, [], ◌∷◌, Bool, true, false, cond, not, Option, None, Some, min, refl, sym, ap, ◌∙◌, subst, arith}
use Rattle.std.specs.Prelude.{nat_le}
use Rattle.std.proofs.lemmas.Bool.{and_from, and_right, eq-eqb, le-leb, lt-leb}
use Rattle.std.proofs.Math.Nat.{div-mul-le_self, mul-le-mul_left}
use Rattle.vr_state.specs.declared.words.Status.{Status}
use Rattle.vr_state.specs.declared.words.Status.TheVariants.{Normal, ViewChange, Recovering}
use Rattle.replica_clock.specs.declared.clock.Due.{Due}
use Rattle.replica_clock.specs.declared.clock.Due.TheVariants as due
use Rattle.replica_clock.specs.declared.sign.Sign.{Sign}
use Rattle.replica_clock.specs.declared.sign.Sign.TheVariants.{Leads, Lost, Part, Taken, Other}
use Rattle.replica_clock.specs.Clock.{ClockValue, awaits, distance, done, due_at, first_lost, heard, is_over, is_own, is_past, is_same, is_time, limit, noted, part_heard, part_taken, patience, primary, rested, spread, still_given_up, suspects, times_longer}
use Rattle.replica_clock.specs.Runs.{Event, AreSilent, AreWellSince, ASilentPrimaryIsSuspected, AHeardPrimaryIsTrusted, IsSilent, after, after_all, is_loss, is_loss_in, is_life, moment_of}
use Rattle.replica_clock.specs.Runs.Event.{Asks, Hears, Notes}

-- a backup that has heard nothing since, of this patience
record Waits (since suspect : ℕ) (d : ClockValue) : Type 0 where
  normal : d.status ≡ Normal
  backup : is_own d ≡ false
  silent : d.silent_since ≡ since
  within : d.suspect ≡ suspect

waits_on : (since suspect : ℕ) (c d : ClockValue) → Waits since suspect c → d ≡ c → Waits since suspect d
waits_on since suspect c d w e = subst (λ (x : ClockValue). Waits since suspect x) (sym e) w

-- asked in time, with nothing due
waits_asked : (since suspect : ℕ) (c : ClockValue) (now wait : ℕ) → Waits since suspect c → c.silent_since ≤ now →
    now ≤ c.ask_at
    → due_at (rested c now) now ≡ due.Nothing → Waits since suspect (after c (Asks now wait))
waits_asked since suspect c now wait w later soon nothing = record {
  normal = ap (λ (x : Due). (done x (rested c now) now).status) nothing ∙ w.normal;
  backup = ap (λ (x : Due). is_own (done x (rested c now) now)) nothing ∙ w.backup;
  silent = ap (λ (x : Due). (done x (rested c now) now).silent_since) nothing ∙ omega (arith, later, soon, w.silent);
  within = ap (λ (x : Due). (done x (rested c now) now).suspect) nothing ∙ w.within;
}

-- a primary that has lost its state gives no sign of life by that
waits_lost : (since suspect : ℕ) (c : ClockValue) (b : Bool) (lost : Option ℕ) (ask : ℕ) → Waits since suspect c
    → Waits since suspect (cond b (record c { lost_since = lost; ask_at = ask }) c)
waits_lost since suspect c true lost ask w = record {
  normal = w.normal;
  backup = w.backup;
  silent =
      w.silent;
  within = w.within;
}
waits_lost since suspect c false lost ask w = w

waits_heard : (since suspect : ℕ) (c : ClockValue) (from : ℕ) (sign : Sign) (now : ℕ) → Waits since suspect c →
    is_life c from sign ≡ false
    → Waits since suspect (heard c from sign now)
waits_heard since suspect c from (Leads view) now w e =
    waits_on since suspect c (heard c from (Leads view) now) w
    (ap (λ (b : Bool). cond b (record c { silent_since = now; lost_since = None }) c) e)
waits_heard since suspect c from Lost now w e =
    waits_lost since suspect c (from == primary c) (Some (first_lost c.lost_since now))
    (min c.ask_at (now + spread c)) w
waits_heard since suspect c from Part now w e =
    waits_on since suspect c (heard c from Part now) w
    (ap (λ (s : Status). cond (awaits s c from) (part_heard c.status c now) c) w.normal
    ∙ ap (λ (b : Bool). cond b (part_heard c.status c now) c) e)
waits_heard since suspect c from Taken now w e =
    waits_on since suspect c (heard c from Taken now) w (ap (λ (s : Status). part_taken s c from now) w.normal)
waits_heard since suspect c from Other now w e = w

waits_noted : (since suspect : ℕ) (c : ClockValue) (view : ℕ) (status : Status) (now : ℕ) → Waits since suspect c
    → (c.view_number == view && is_same c.status status) ≡ true → Waits since suspect (noted c view status now)
waits_noted since suspect c view status now w e =
    waits_on since suspect c (noted c view status now) w
    (ap
    (λ (b : Bool). cond b c (record c {
      view_number = view;
      status = status;
      silent_since = now;
      lost_since = None;
      given_up = still_given_up status c.given_up c.is_long;
      is_long = false;
      beat_at = now + c.beat;
    }))
    e)

waits_after : (since suspect : ℕ) (c : ClockValue) (e : Event) → Waits since suspect c → IsSilent c e →
    Waits since suspect (after c e)
waits_after since suspect c (Asks now wait) w q = waits_asked since suspect c now wait w q.0 q.1 q.2
waits_after since suspect c (Hears from sign now) w q = waits_heard since suspect c from sign now w q
waits_after since suspect c (Notes view status now) w q = waits_noted since suspect c view status now w q

waits_long : (since suspect : ℕ) (events : List Event) (c : ClockValue) → Waits since suspect c → AreSilent c events →
    Waits since suspect (after_all events c)
waits_long since suspect [] c w q = w
waits_long since suspect (e ∷ es) c w q = waits_long since suspect es (after c e) (waits_after since suspect c e w
    q.0) q.1

-- the lesser of two numbers is at most the second
least : (d : ℕ) → min d 7 ≤ 7
least d = omega arith

-- the spread is at most one suspect period
eighth : (s d : ℕ) → s / 8 * min d 7 ≤ s
eighth s d = omega (arith, mul-le-mul_left (s / 8) (least d), div-mul-le_self s 8)

-- how long a backup waits
backup_limit : (c : ClockValue) → c.status ≡ Normal → limit c ≤ 2 * c.suspect
backup_limit c e =
    omega (arith, ap (λ (s : Status). patience c * times_longer s c.given_up) e, eighth c.suspect (distance c))

-- its patience is over
over : (since suspect : ℕ) (d : ClockValue) (now : ℕ) → Waits since suspect d → since + 2 * suspect ≤ now →
    now ≤ d.ask_at → is_over (rested d now) now ≡ true
over since suspect d now w late soon =
    and_from (suspects d.status (is_own d)) (nat_le (limit d) (now - (rested d now).silent_since) || is_past
    d.lost_since (spread d) now)
    (ap (λ (s : Status). suspects s (is_own d)) w.normal ∙ ap (λ (b : Bool). not b) w.backup)
    (ap (λ (b : Bool). b || is_past d.lost_since (spread d) now)
    (le-leb (limit d) (now - (rested d now).silent_since)
    (omega (arith, late, soon, w.silent, w.within, backup_limit d w.normal))))

pub suspected : ASilentPrimaryIsSuspected
suspected c events now normal backup quiet late soon =
    let w : Waits c.silent_since c.suspect (after_all events c) =
    waits_long c.silent_since c.suspect events c (record {
      normal = normal;
      backup = backup;
      silent = refl;
      within =
          refl;
    }) quiet in
    ap (λ (b : Bool). cond b due.Suspect (cond (is_time (rested (after_all events c) now) now) due.Beat due.Nothing))
    (over c.silent_since c.suspect (after_all events c) now w late soon)

-- a sign of life was heard at this moment or later, and no primary is known to have lost its state
record Trusts (last suspect : ℕ) (d : ClockValue) : Type 0 where
  later : last ≤ d.silent_since
  none : d.lost_since ≡ None
  within : d.suspect ≡ suspect

trusts_done : (last suspect : ℕ) (what : Due) (d : ClockValue) (now : ℕ) → last ≤ now → Trusts last suspect d →
    Trusts last suspect (done what d now)
trusts_done last suspect due.Nothing d now later t = t
trusts_done last suspect due.Beat d now later t = record { later = t.later; none = t.none; within = t.within }
trusts_done last suspect due.Suspect d now later t = record { later = later; none = refl; within = t.within }

trusts_rested : (last suspect : ℕ) (d : ClockValue) (now : ℕ) → last ≤ now → Trusts last suspect d →
    Trusts last suspect (rested d now)
trusts_rested last suspect d now later t = record {
  later = omega (arith, later, t.later);
  none = t.none;
  within =
      t.within;
}

trusts_asked : (last suspect : ℕ) (d : ClockValue) (ask : ℕ) → Trusts last suspect d →
    Trusts last suspect (record d { ask_at = ask })
trusts_asked last suspect d ask t = record { later = t.later; none = t.none; within = t.within }

trusts_led : (last suspect : ℕ) (b : Bool) (d : ClockValue) (now : ℕ) → last ≤ now → Trusts last suspect d
    → Trusts last suspect (cond b (record d { silent_since = now; lost_since = None }) d)
trusts_led last suspect true d now later t = record { later = later; none = refl; within = t.within }
trusts_led last suspect false d now later t = t

trusts_part : (last suspect : ℕ) (b : Bool) (s : Status) (d : ClockValue) (now : ℕ) → last ≤ now → Trusts last suspect d
    → Trusts last suspect (cond b (part_heard s d now) d)
trusts_part last suspect true Normal d now later t = record { later = later; none = t.none; within = t.within }
trusts_part last suspect true ViewChange d now later t = record { later = later; none = t.none; within = t.within }
trusts_part last suspect true Recovering d now later t = record { later = later; none = t.none; within = t.within }
trusts_part last suspect false s d now later t = t

trusts_long : (last suspect : ℕ) (b : Bool) (d : ClockValue) (now : ℕ) → last ≤ now → Trusts last suspect d
    → Trusts last suspect (cond b (record d { silent_since = now; is_long = true }) d)
trusts_long last suspect true d now later t = record { later = later; none = t.none; within = t.within }
trusts_long last suspect false d now later t = t

trusts_taken : (last suspect : ℕ) (s : Status) (d : ClockValue) (to now : ℕ) → last ≤ now → Trusts last suspect d →
    Trusts last suspect (part_taken s d to now)
trusts_taken last suspect Normal d to now later t = t
trusts_taken last suspect ViewChange d to now later t = trusts_long last suspect (to == primary d) d now later t
trusts_taken last suspect Recovering d to now later t = t

trusts_heard : (last suspect : ℕ) (d : ClockValue) (from : ℕ) (sign : Sign) (now : ℕ) → last ≤ now →
    is_loss_in d from sign ≡ false
    → Trusts last suspect d → Trusts last suspect (heard d from sign now)
trusts_heard last suspect d from (Leads view) now later e t = trusts_led last suspect (from == primary d
    && view == d.view_number) d now later t
trusts_heard last suspect d from Lost now later e t =
    subst (λ (b : Bool). Trusts last suspect
    (cond b (record d { lost_since = Some (first_lost d.lost_since now); ask_at = min d.ask_at (now + spread d) })
    d)) (sym e) t
trusts_heard last suspect d from Part now later e t = trusts_part last suspect (awaits d.status d from) d.status d now
    later t
trusts_heard last suspect d from Taken now later e t = trusts_taken last suspect d.status d from now later t
trusts_heard last suspect d from Other now later e t = t

trusts_noted : (last suspect : ℕ) (b : Bool) (d : ClockValue) (view : ℕ) (s : Status) (given_up beat now : ℕ) →
    last ≤ now → Trusts last suspect d
    → Trusts last suspect (cond b d (record d {
      view_number = view;
      status = s;
      silent_since = now;
      lost_since = None;
      given_up = given_up;
      is_long = false;
      beat_at = beat;
    }))
trusts_noted last suspect true d view s given_up beat now later t = t
trusts_noted last suspect false d view s given_up beat now later t = record {
  later = later;
  none = refl;
  within =
      t.within;
}

trusts_after : (last suspect : ℕ) (d : ClockValue) (e : Event) → last ≤ moment_of e → is_loss d e ≡ false →
    Trusts last suspect d → Trusts last suspect (after d e)
trusts_after last suspect d (Asks now wait) later none t =
    trusts_asked last suspect (done (due_at (rested d now) now) (rested d now) now) (now + wait)
    (trusts_done last suspect (due_at (rested d now) now) (rested d now) now later (trusts_rested last suspect d now
    later t))
trusts_after last suspect d (Hears from sign now) later none t = trusts_heard last suspect d from sign now later none t
trusts_after last suspect d (Notes view status now) later none t =
    trusts_noted last suspect (d.view_number == view && is_same d.status status) d view status
    (still_given_up status d.given_up d.is_long) (now + d.beat) now later t

trusts_all : (last suspect : ℕ) (events : List Event) (d : ClockValue) → AreWellSince last d events →
    Trusts last suspect d → Trusts last suspect (after_all events d)
trusts_all last suspect [] d well t = t
trusts_all last suspect (e ∷ es) d well t = trusts_all last suspect es (after d e) well.2
    (trusts_after last suspect d e well.0 well.1 t)

-- nobody waits less than a suspect period
more_by : (a b g : ℕ) → a ≤ (a + b) * (g + 1)
more_by a b g = grind arith

least_by : (s : Status) (a b g : ℕ) → a ≤ (a + b) * times_longer s g
least_by Normal a b g = omega arith
least_by ViewChange a b g = more_by a b g
least_by Recovering a b g = omega arith

-- the sign of life itself
led : (c : ClockValue) (last : ℕ) → heard c (primary c) (Leads c.view_number) last ≡
    record c { silent_since = last; lost_since = None }
led c last =
    ap (λ (b : Bool). cond (b && c.view_number == c.view_number) (record c { silent_since = last; lost_since = None })
    c) (eq-eqb (primary c) (primary c) refl)
    ∙ ap (λ (b : Bool). cond b (record c { silent_since = last; lost_since = None }) c)
    (eq-eqb c.view_number c.view_number refl)

-- its patience isn't over
patient : (last suspect : ℕ) (d : ClockValue) (now : ℕ) → Trusts last suspect d → last ≤ now → now < last + suspect →
    is_over d now ≡ false
patient last suspect d now t later soon =
    and_right (suspects d.status (is_own d)) (nat_le (limit d) (now - d.silent_since) || is_past d.lost_since
    (spread d) now)
    (ap (λ (o : Option ℕ). nat_le (limit d) (now - d.silent_since) || is_past o (spread d) now) t.none
    ∙ ap (λ (b : Bool). b || false)
    (lt-leb (limit d) (now - d.silent_since)
    (omega (arith, later, soon, t.later, t.within, least_by d.status d.suspect (spread d) d.given_up))))

pub trusted : AHeardPrimaryIsTrusted
trusted c last events now well later soon =
    let first : Trusts last c.suspect (heard c (primary c) (Leads c.view_number) last) =
    subst (λ (x : ClockValue). Trusts last c.suspect x) (sym (led c last))
    (record { later = omega arith; none = refl; within = refl }) in
    let all : Trusts last c.suspect (after_all events (heard c (primary c) (Leads c.view_number) last)) =
    trusts_all last c.suspect events (heard c (primary c) (Leads c.view_number) last) well first in
    patient last c.suspect (rested (after_all events (heard c (primary c) (Leads c.view_number) last)) now) now
    (trusts_rested last c.suspect (after_all events (heard c (primary c) (Leads c.view_number) last)) now later all)
    later soon
