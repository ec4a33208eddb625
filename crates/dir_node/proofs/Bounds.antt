-- A pair that is found has numbers that can be stored.
use Rattle.std.proofs.Common.{◌≡◌, ◌<◌, ◌^◌, ℕ, List, Bool, true, false, ◌&&◌, ◌==◌, if◌then◌else◌, nat_lt, length, Option, Some, None, refl, subst, slice_index, take, drop}
use Rattle.std.proofs.lemmas.Bool.{and_parts, ltb-true}
use Rattle.view_store.specs.declared.slot.Pair.{Pair}
use Rattle.view_store.specs.declared.slot.Slot.{Slot}
use Rattle.view_store.specs.Slots.{Finding, nothing, foreign, own, finding, found, held, taken, taken_from, slot_at, is_open, is_of, is_versioned, number_at, cluster_of}

-- A pair's numbers can be stored.
pub record IsStorable (p : Pair) : Type 0 where
  pub view : p.view < 2 ^ 63
  pub restarts : p.restarts < 2 ^ 63

-- So can those of a slot, where there is one.
abbrev AreStorable : Option Slot → Type 0
AreStorable None = Unit {0}
AreStorable (Some slot) = IsStorable slot.pair

-- So can those of a pair that is found.
abbrev FindsStorable : Finding → Type 0
FindsStorable nothing = Unit {0}
FindsStorable foreign = Unit {0}
FindsStorable (own pair) = IsStorable pair

open_bounds : (octets : List ℕ) → is_open octets ≡ true → (number_at 10 octets < 2 ^ 63)
    × (number_at 18 octets < 2 ^ 63)
open_bounds octets e =
    let four = and_parts (slice_index octets 0 == 165 && nat_lt (number_at 2 octets) (2 ^ 63)
    && nat_lt (number_at 10 octets) (2 ^ 63) && nat_lt (number_at 18 octets) (2 ^ 63)) (is_versioned octets) e
    in
    let three = and_parts (slice_index octets 0 == 165 && nat_lt (number_at 2 octets) (2 ^ 63)
    && nat_lt (number_at 10 octets) (2 ^ 63)) (nat_lt (number_at 18 octets) (2 ^ 63)) four.0 in
    let two = and_parts (slice_index octets 0 == 165 && nat_lt (number_at 2 octets) (2 ^ 63))
    (nat_lt (number_at 10 octets) (2 ^ 63)) three.0 in
    (ltb-true (number_at 10 octets) (2 ^ 63) two.1, ltb-true (number_at 18 octets) (2 ^ 63) three.1)

slot_by : (octets : List ℕ) (b : Bool) → is_open octets ≡ b
    → AreStorable (if b then Some (record {
      sequence = number_at 2 octets;
      cluster = cluster_of octets;
      pair =
          record { view = number_at 10 octets; restarts = number_at 18 octets; journaled = slice_index octets 1 == 3 };
    }) else None)
slot_by octets true e = let both = open_bounds octets e in record { view = both.0; restarts = both.1 }
slot_by octets false e = tt

slot_storable : (octets : List ℕ) → AreStorable (slot_at octets)
slot_storable octets = slot_by octets (is_open octets) refl

greater_storable : (b : Bool) (x y : Slot) → IsStorable x.pair → IsStorable y.pair →
    AreStorable (if b then Some y else Some x)
greater_storable true x y hx hy = hy
greater_storable false x y hx hy = hx

taken_storable : (a b : Option Slot) → AreStorable a → AreStorable b → AreStorable (taken a b)
taken_storable None b ha hb = hb
taken_storable (Some x) None ha hb = ha
taken_storable (Some x) (Some y) ha hb = greater_storable (nat_lt x.sequence y.sequence) x y ha hb

held_by : (b : Bool) (image : List ℕ) → AreStorable (if b then taken_from image else None)
held_by true image = taken_storable (slot_at (take 32 image)) (slot_at (drop 32 image))
    (slot_storable (take 32 image)) (slot_storable (drop 32 image))
held_by false image = tt

own_by : (b : Bool) (slot : Slot) → IsStorable slot.pair → FindsStorable (if b then own slot.pair else foreign)
own_by true slot h = h
own_by false slot h = tt

finding_storable : (cluster : ℕ) (o : Option Slot) → AreStorable o → FindsStorable (finding cluster o)
finding_storable cluster None h = tt
finding_storable cluster (Some slot) h = own_by (is_of cluster slot.cluster) slot h

-- the pair that is found for a cluster
pub found_storable : (cluster : ℕ) (image : List ℕ) (p : Pair) → found cluster image ≡ own p → IsStorable p
found_storable cluster image p e = subst FindsStorable e (finding_storable cluster (held image)
    (held_by (length image == 64) image))
