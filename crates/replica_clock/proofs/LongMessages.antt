-- A long message is waited for.
use Rattle.std.proofs.Common.{◌≡◌, ℕ, ◌+◌, ◌-◌, ◌*◌, ◌^◌, ◌<◌, ◌≤◌, ◌&&◌, ◌||◌, ◌++◌, [], ◌∷◌, Bool, true, false, cond, Option, None, refl, sym, ap, ◌∙◌, arith}
use Rattle.std.specs.Prelude.{nat_le}
use Rattle.std.proofs.lemmas.Bool.{eq-eqb, lt-leb}
use Rattle.vr_state.specs.declared.words.Status.{Status}
use Rattle.vr_state.specs.declared.words.Status.TheVariants.{Normal, ViewChange, Recovering}
use Rattle.replica_clock.specs.Clock.{ClockValue, awaits, done, heard, is_own, is_over, is_past, limit, one_more, part_heard, part_taken, parts_heard, patience, primary, spread, suspects, times_longer, twice_as_long}
use Rattle.replica_clock.specs.Clock.{AMessageThatComesIsAwaited, AMessageThatIsTakenIsAwaited, ALongViewIsAwaitedLonger}
use Rattle.replica_clock.specs.declared.sign.Sign.TheVariants.{Part, Taken}
use Rattle.replica_clock.specs.declared.clock.Due.TheVariants as due

-- nobody is suspected within the limit after this moment
quiet : (c : ClockValue) (last now : ℕ) → c.silent_since ≡ last → c.lost_since ≡ None → last ≤ now →
    now < last + limit c → is_over c now ≡ false
quiet c last now at none late soon =
    ap (λ (o : Option ℕ). suspects c.status (is_own c) && (nat_le (limit c) (now - c.silent_since) || is_past o
    (spread c) now)) none
    ∙ ap (λ (b : Bool). suspects c.status (is_own c) && (b || false)) (lt-leb (limit c) (now - c.silent_since)
    (omega (arith, at, late, soon)))
    ∙ never (suspects c.status (is_own c))
  where
    never : (b : Bool) → (b && false) ≡ false
    never true = refl
    never false = refl

-- a part that is awaited
awaited : (c : ClockValue) (from now : ℕ) → awaits c.status c from ≡ true → heard c from Part now ≡
    part_heard c.status c now
awaited c from now h = ap (λ (b : Bool). cond b (part_heard c.status c now) c) h

-- it changes nothing of whom the replica awaits, and how long
still_awaits : (s : Status) (c : ClockValue) (from now : ℕ) → c.status ≡ s → awaits s c from ≡ true →
    awaits (part_heard s c now).status (part_heard s c now) from ≡ true
still_awaits Normal c from now e h = ap (λ (t : Status). awaits t (part_heard Normal c now) from) e ∙ h
still_awaits ViewChange c from now e h = ap (λ (t : Status). awaits t (part_heard ViewChange c now) from) e ∙ h
still_awaits Recovering c from now e h = ap (λ (t : Status). awaits t (part_heard Recovering c now) from) e

same_limit : (s : Status) (c : ClockValue) (now : ℕ) → limit (part_heard s c now) ≡ limit c
same_limit Normal c now = refl
same_limit ViewChange c now = refl
same_limit Recovering c now = refl

same_loss : (s : Status) (c : ClockValue) (now : ℕ) → (part_heard s c now).lost_since ≡ c.lost_since
same_loss Normal c now = refl
same_loss ViewChange c now = refl
same_loss Recovering c now = refl

heard_at : (s : Status) (c : ClockValue) (now : ℕ) → (part_heard s c now).silent_since ≡ now
heard_at Normal c now = refl
heard_at ViewChange c now = refl
heard_at Recovering c now = refl

pub comes : AMessageThatComesIsAwaited
comes c from [] last now h none late soon =
    ap (λ (x : ClockValue). is_over x now) (awaited c from last h)
    ∙ quiet (part_heard c.status c last) last now (heard_at c.status c last) (same_loss c.status c last ∙ none) late
    (omega (arith, soon, same_limit c.status c last))
comes c from (t ∷ ts) last now h none late soon =
    ap (λ (x : ClockValue). is_over (parts_heard x from (ts ++ last ∷ [])) now) (awaited c from t h)
    ∙ comes (part_heard c.status c t) from ts last now (still_awaits c.status c from t refl h) (same_loss c.status c t
    ∙ none) late (omega (arith, soon, same_limit c.status c t))

-- a part that the next primary took
took : (c : ClockValue) (now : ℕ) → c.status ≡ ViewChange → heard c (primary c) Taken now ≡
    record c { silent_since = now; is_long = true }
took c now e =
    ap (λ (s : Status). part_taken s c (primary c) now) e
    ∙ ap (λ (b : Bool). cond b (record c { silent_since = now; is_long = true }) c) (eq-eqb (primary c) (primary c)
    refl)

pub taken : AMessageThatIsTakenIsAwaited
taken c last now e none late soon =
    ap (λ (x : ClockValue). is_over x now) (took c last e)
    ∙ quiet (record c { silent_since = last; is_long = true }) last now refl none late soon

-- the limit of a replica that changes its view
changing : (c : ClockValue) → c.status ≡ ViewChange → limit c ≡ patience c * (c.given_up + 1)
changing c e = ap (λ (s : Status). patience c * times_longer s c.given_up) e

-- twice as much, below the most
twice : (g : ℕ) → 2 * (g + 1) ≤ 2 ^ 20 → twice_as_long g + 1 ≡ 2 * (g + 1)
twice g h = omega (arith, h)

pub longer : ALongViewIsAwaitedLonger
longer c now e long few =
    changing (done due.Suspect c now) e
    ∙ ap (λ (g : ℕ). patience c * (g + 1)) (ap (λ (s : Status). one_more s c.given_up c.is_long) e
    ∙ ap (λ (b : Bool). one_more ViewChange c.given_up b) long)
    ∙ ap (λ (k : ℕ). patience c * k) (twice c.given_up few)
    ∙ double (patience c) (c.given_up + 1)
    ∙ ap (λ (k : ℕ). 2 * k) (sym (changing c e))
  where
    double : (a b : ℕ) → a * (2 * b) ≡ 2 * (a * b)
    double a b = grind arith
