-- Sessions that wait for their turn. Where one stands comes in, with what it is told; that it is there, and what the
-- table is then, comes out.
use Rattle.std.proofs.Common.{◌≡◌, ◌⊎◌, inl, inr, ℕ, true, Option, Some, refl}
use Rattle.std.specs.Prelude.{slice_set}
use Rattle.session_table.specs.Tabling.{Tabled}
use Rattle.session_table.specs.declared.pooled.PooledSession.{PooledSession}
use Rattle.session_table.specs.private.Stands.{is_here}
use Rattle.session_table.specs.declared.place_state.PlaceState.{PlaceState}
use Rattle.session_table.specs.declared.place_state.PlaceState.TheVariants.{Ready, Updates}

pub turn_here : (o : Option PlaceState) → (o ≡ Some Ready) ⊎ (o ≡ Some Updates) → is_here o ≡ true
turn_here o (inl e) = rw e refl
turn_here o (inr e) = rw e refl

pub told_at : (t : Tabled) (p : ℕ) (x : Option PooledSession) (g : PooledSession) → x ≡ Some g →
    ◌≡◌ {A = Tabled} (record t { sessions = slice_set t.sessions p x })
    (record t { sessions = slice_set t.sessions p (Some g) })
told_at t p x g e = rw e refl
