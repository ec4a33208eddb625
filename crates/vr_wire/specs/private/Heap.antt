-- Frames: what contracts that aren't public say of it.
-- What public contracts say is in specs/Heap.
use Rattle.std.specs.Prelude.{◌≡◌, ◌⊎◌, Option, None, Result, Ok, Err}
use Rattle.std.specs.Option.{option_map}
use Rattle.vr_wire.specs.declared.error.WireError.{WireError}
use Rattle.vr_wire.specs.declared.error.WireError.TheVariants as error
use Rattle.vr_wire.specs.declared.gathering.Begun.{Begun}
use Rattle.vr_wire.specs.Heap.{Heap, heap_of}

-- this much is gathered, or memory ran out
abbrev pub Gathers : Result (Option Begun) WireError → Option Heap → Type 0
Gathers (Ok new) heap = option_map heap_of new ≡ heap
Gathers (Err e) heap = e ≡ error.NoMemory

-- a message begins so, or memory ran out
abbrev pub BeginsAs : Result Begun WireError → Heap → Type 0
BeginsAs (Ok b) heap = heap_of b ≡ heap
BeginsAs (Err e) heap = e ≡ error.NoMemory

-- the part is added, or memory ran out
abbrev pub AddsTo : Result (Unit {0}) WireError → Heap → Heap → Type 0
AddsTo (Ok done) new heap = new ≡ heap
AddsTo (Err e) new heap = e ≡ error.NoMemory

-- this comes of a part; or memory ran out, and nothing is gathered
abbrev pub PartTaken : {X : Type 0} → Type 0 → Result X WireError → Option Heap → Type 0
PartTaken comes r new = comes ⊎ ((r ≡ Err error.NoMemory) × (new ≡ None))
