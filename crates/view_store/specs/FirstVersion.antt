-- What a store of the first version wrote, which named no cluster, and how it is read.
use Rattle.std.specs.Prelude.{◌≡◌, ◌<◌, ◌^◌, ℕ, false, List, [], ◌∷◌, ◌++◌, Some, None}
use Rattle.std.specs.Int.{w64, to_be_bytes}
use Rattle.view_store.specs.Slots.{slot_at}

-- the 31 octets behind the gate that a store of version 1 wrote: version 1, the sequence, the view, the restarts, six
-- zeros
abbrev pub first_body_octets : ℕ → ℕ → ℕ → List ℕ
first_body_octets sequence view restarts =
    1 ∷ [] ++ to_be_bytes w64 sequence ++ to_be_bytes w64 view ++ to_be_bytes w64
    restarts ++ (0 ∷ 0 ∷ 0 ∷ 0 ∷ 0 ∷ 0 ∷ [])

-- a slot that a store of version 1 left is open and names no cluster, and holds what was stored, without a journal
abbrev pub FirstVersionIsRead : Type 0
FirstVersionIsRead =
    (sequence view restarts : ℕ) → sequence < 2 ^ 63 → view < 2 ^ 63 → restarts < 2 ^ 63
    → slot_at (165 ∷ first_body_octets sequence view restarts)
    ≡ Some (record {
      sequence = sequence;
      cluster = None;
      pair = record {
        view = view;
        restarts =
            restarts;
        journaled = false;
      };
    })
