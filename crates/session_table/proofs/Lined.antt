-- A table after the session of a place is roused. What has become of its parts comes in; what has become of the table
-- comes out.
use Rattle.std.proofs.Common.{◌≡◌, ℕ, List, [], ◌∷◌, ◌++◌, Option, Some, refl}
use Rattle.std.specs.Prelude.{slice_set}
use Rattle.session_turns.specs.Owing.{class_of}
use Rattle.session_turns.specs.Turning.{TurnsValue, lined_up as turns_lined_up}
use Rattle.session_turns.specs.declared.owing.Class.{Class}
use Rattle.session_turns.specs.declared.spot.Spot.{Spot}
use Rattle.session_table.specs.Tabling.{Tabled, lined_up}
use Rattle.session_table.specs.declared.pooled.PooledSession.{PooledSession}
use Rattle.session_table.specs.declared.place_state.PlaceState.TheVariants.{Ready, Updates}
use Rattle.session_table.specs.declared.place_state.Roused.{Roused}
use Rattle.session_table.specs.declared.place_state.Turn.TheVariants.{Seat, Update}

pub lined_seat : (t : Tabled) (p now : ℕ) (x : Option PooledSession) (g : PooledSession) (spots : List Spot)
    (ready : TurnsValue) (class : Class) → x ≡ Some g →
    ready ≡ turns_lined_up t.ready p class → class ≡ class_of g.debt now →
    ◌≡◌ {A = Tabled} (record {
      stands = slice_set t.stands p Ready;
      sessions = slice_set t.sessions p x;
      spots =
          spots;
      ready = ready;
      updates = t.updates;
    })
    (lined_up (record t { sessions = slice_set t.sessions p (Some g); spots = spots }) p Seat (class_of g.debt now))
lined_seat t p now x g spots ready class e f h = rw (e, f, h) refl

pub lined_update : (t : Tabled) (p : ℕ) (x : Option PooledSession) (g : PooledSession) (spots : List Spot)
    (updates : List ℕ) (class : Class) → x ≡ Some g → updates ≡ t.updates ++ p ∷ [] →
    ◌≡◌ {A = Tabled} (record {
      stands = slice_set t.stands p Updates;
      sessions = slice_set t.sessions p x;
      spots =
          spots;
      ready = t.ready;
      updates = updates;
    })
    (lined_up (record t { sessions = slice_set t.sessions p (Some g); spots = spots }) p Update class)
lined_update t p x g spots updates class e f = rw (e, f) refl

-- for whom a session's next message is was told once, and its class
pub same_roused : (told : Option Roused) (r s : Roused) → told ≡ Some r → told ≡ Some s → r ≡ s
same_roused told r s d e = cc
