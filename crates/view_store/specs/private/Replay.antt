-- What a crash might have left since a moment, of a device in memory: what contracts that aren't public say of it.
-- What public contracts say is in specs/Replay.
use Rattle.std.proofs.Common.{inl, inr, ⊎_elim, ℕ, List, ◌∷◌, length, arith}
use Rattle.view_store.specs.Device.{Elapses}
use Rattle.view_store.specs.Memory.{Event, MayLeave, LeftSince}

-- one event more
pub elapses : (base : List ℕ) (older : List Event) (e : Event)
    → Elapses (length older) (length (e ∷ older)) (LeftSince base older) (LeftSince base (e ∷ older))
    (MayLeave base (e ∷ older))
elapses base older e = record {
  later = omega arith;
  nothing_else = λ t c le left. ⊎_elim (λ now. inr now.1) (λ then. inl then) left;
  keeps = λ t c le left. inr left;
}

-- no event more
pub stays : (base : List ℕ) (events : List Event) → Elapses (length events) (length events) (LeftSince base events)
    (LeftSince base events) (MayLeave base events)
stays base events = record { later = omega arith; nothing_else = λ t c le left. inl left; keeps = λ t c le left. left }
