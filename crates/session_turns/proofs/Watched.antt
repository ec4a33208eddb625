-- While seats rest, one leads or is called: so it stays, whatever threads do.
use Rattle.std.proofs.Common.{◌≡◌, ℕ, ◌+◌, ◌==◌, ◌||◌, Bool, true, false, cond, not, nat_le, min, List, [], ◌∷◌, refl, arith, sym, ◌∙◌}
use Rattle.session_turns.specs.declared.resting.Act.TheVariants.{Serve, Lead as Leads, Rest}
use Rattle.session_turns.specs.Resting.{LeadValue, IsWatched, begun, called, calls_after, more, laid_down, left, chosen, does, is_wanted, Event, begins, ends, lines_up, is_free, then, then_all, empty, WhoRestsIsWatched}

apart : true ≡ false → ⊥
apart e = cc

calls_some : (idle calls : ℕ) → calls_after idle calls ≡ 0 → idle ≡ 0
calls_some idle calls e = by (idle == 0) refl
  where
    by : (b : Bool) → (idle == 0) ≡ b → idle ≡ 0
    by true f = grind (arith, f)
    by false f = let h : min (calls + 1) 4294967295 ≡ 0 = rw f at e in absurd (omega (arith, h))

called_watched : (l : LeadValue) → IsWatched (called l)
called_watched l alone none = calls_some l.idle l.called none

begun_by : (b : Bool) (l m : LeadValue) → l.is_led ≡ b → m.is_led ≡ true → IsWatched (cond b l m)
begun_by true l m e f = λ alone none. absurd (apart (sym e ∙ alone))
begun_by false l m e f = λ alone none. absurd (apart (sym f ∙ alone))

begun_watched : (l : LeadValue) → IsWatched (begun l)
begun_watched l = begun_by l.is_led l (record l { is_led = true; unlooked = 0 }) refl refl

-- a seat serves that is free
served : (w : Bool) (l m : LeadValue) → (w ≡ false → m.is_led ≡ true) → IsWatched (cond w (called l) m)
served true l m e = called_watched l
served false l m e = λ alone none. absurd (apart (sym (e refl) ∙ alone))

freed_led : (b : Bool) (l : LeadValue) (ready : ℕ) → l.is_led ≡ true → IsWatched (does (cond b Rest Serve) l ready)
freed_led true l ready led = λ alone none. absurd (apart (sym led ∙ alone))
freed_led false l ready led = served (is_wanted l ready) (record l { unlooked = more l.unlooked })
    (record l { unlooked = more l.unlooked }) (λ _. led)

freed_alone : (b : Bool) (l : LeadValue) (ready : ℕ) → l.is_led ≡ false → IsWatched (does (cond b Leads Serve) l ready)
freed_alone true l ready led = λ alone none. absurd (apart alone)
freed_alone false l ready led = served (is_wanted l ready) (record l { unlooked = more l.unlooked })
    (record l { unlooked = more l.unlooked }) (wanted l.is_led led)
  where
    wanted : (b : Bool) → b ≡ false → (not b || nat_le 2 ready) ≡ false → b ≡ true
    wanted true e f = refl
    wanted false e f = absurd (apart f)

freed_by : (b : Bool) (l : LeadValue) (ready : ℕ) → l.is_led ≡ b →
    IsWatched (does (cond b (cond (ready == 0) Rest Serve) (cond (ready == 0 || nat_le 16 l.unlooked) Leads Serve)) l
    ready)
freed_by true l ready e = freed_led (ready == 0) l ready e
freed_by false l ready e = freed_alone (ready == 0 || nat_le 16 l.unlooked) l ready e

freed_watched : (l : LeadValue) (ready : ℕ) → IsWatched (does (chosen l ready) l ready)
freed_watched l ready = freed_by l.is_led l ready refl

then_watched : (e : Event) (l : LeadValue) → IsWatched l → IsWatched (then e l)
then_watched begins l h = begun_watched l
then_watched ends l h = called_watched (laid_down l)
then_watched lines_up l h = called_watched l
then_watched (is_free was ready) l h = freed_watched (left was l) ready

all_watched : (events : List Event) (l : LeadValue) → IsWatched l → IsWatched (then_all events l)
all_watched [] l h = h
all_watched (e ∷ es) l h = all_watched es (then e l) (then_watched e l h)

pub law : WhoRestsIsWatched
law events = all_watched events empty (λ _ _. refl)
