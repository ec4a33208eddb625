-- Frames: what contracts that aren't public say of it.
-- What public contracts say is in specs/Parts.
use Rattle.std.specs.Prelude.{◌≡◌, ◌≤◌, ◌+◌, ◌^◌, ◌==◌, ◌&&◌, cond, nat_lt, ℕ, List, length}
use Rattle.std.specs.Prelude.{Option, Some, None, Result, Ok, Err}
use Rattle.std.specs.Int.{w64, from_be_bytes}
use Rattle.std.specs.List.{AllByRecursion}
use Rattle.vr_state.specs.declared.message.PeerMessage.{PeerMessage}
use Rattle.vr_wire.specs.declared.error.WireError.{WireError}
use Rattle.vr_wire.specs.declared.error.WireError.TheVariants as error
use Rattle.vr_wire.specs.declared.labels.Portion.{Portion}
use Rattle.vr_wire.specs.Frames.{number, frame_octets}
use Rattle.vr_wire.specs.private.Cutting.{then, cut_octet, cut_octets, cut_short, cut_head, cut_body, sized}
use Rattle.vr_wire.specs.Parts.{part_head, AreFramesOf, ArePartsOf}

-- a message, cut from what it says
unfoldable pub cut_saying : List ℕ → Option (PeerMessage (List ℕ))
cut_saying o = then (cut_octet o) (λ k. cut_body k.0 k.1)

-- ---- a part, cut

-- a number of 64 bits
unfoldable pub cut_long : List ℕ → Option (ℕ × List ℕ)
cut_long o = then (cut_octets 8 o) (λ e. Some (from_be_bytes w64 e.0, e.1))

-- a place, and how many there are
unfoldable pub cut_place : List ℕ → Option ((ℕ × ℕ) × List ℕ)
cut_place o = then (cut_short o) (λ p. then (cut_short p.1) (λ c. Some ((p.0, c.0), c.1)))

-- a part's place is one of those that there are, and it has octets of the message
abbrev pub portion_of : ℕ → ℕ → ℕ → ℕ → List ℕ → Option (Portion (List ℕ))
portion_of sender message place count piece =
    cond (nat_lt place count && nat_lt 0 (length piece))
    (Some (record {
      label = record { sender = sender; number = message; count = count };
      place = place;
      piece =
          piece;
    })) None

-- what follows the kind of a part
unfoldable pub cut_portion : List ℕ → Option (Portion (List ℕ))
cut_portion o =
    then (cut_octet o) (λ s. then (cut_long s.1) (λ n. then (cut_place n.1) (λ p. portion_of s.0 n.0 p.0.0 p.0.1 p.1)))

-- kind 13, and what follows it
unfoldable pub cut_part_said : List ℕ → Option (Portion (List ℕ))
cut_part_said o = then (cut_octet o) (λ k. cond (k.0 == 13) (cut_portion k.1) None)

-- what follows the length of a part: a cluster, and a part in it
unfoldable pub cut_part_rest : List ℕ → Option (ℕ × Portion (List ℕ))
cut_part_rest o = then (cut_head o) (λ c. then (cut_part_said c.1) (λ p. Some (c.0, p)))

-- a part: the length of the rest, which isn't over the limit, and the rest
unfoldable pub cut_part : List ℕ → Option (ℕ × Portion (List ℕ))
cut_part o = then (cut_short o) (λ n. then (sized n.0 n.1) cut_part_rest)

-- this is the part that is cut, if any, or memory ran out
abbrev pub Finds : {X : Type 0} → Result (Option X) WireError → Option X → Type 0
Finds (Ok found) cut = found ≡ cut
Finds (Err e) cut = e ≡ error.NoMemory

-- octets aren't sent: there are 2 ^ 32 or more, or memory ran out
abbrev pub IsNotSent : WireError → List ℕ → Type 0
IsNotSent error.BadFrame octets = 2 ^ 32 ≤ length octets
IsNotSent error.ForeignFrame octets = ⊥
IsNotSent error.NoMemory octets = Unit {0}

-- the frames are the parts of these octets, of at most so many octets each
pub record ArePartsWithin (size cluster sender number : ℕ) (saying : List ℕ) (frames : List (List ℕ)) : Type 0 where
  pub parts : ArePartsOf cluster sender number saying frames
  pub pieces : AllByRecursion (λ f. length f ≤ part_head + size) frames

-- the parts of these octets are made, of at most so many octets each; or a message of them isn't sent
abbrev pub MakesParts : ℕ → ℕ → ℕ → ℕ → List ℕ → Result (List (List ℕ)) WireError → Type 0
MakesParts size cluster sender number saying (Ok frames) = ArePartsWithin size cluster sender number saying frames
MakesParts size cluster sender number saying (Err e) = IsNotSent e saying

-- the frames of a message whose payloads are octets are made; or it isn't sent, since one frame of it would have 2 ^ 32
-- octets or more
abbrev pub CutsFrames : ℕ → ℕ → ℕ → ℕ → ℕ → PeerMessage (List ℕ) → Result (List (List ℕ)) WireError → Type 0
CutsFrames most size cluster sender number m (Ok frames) = AreFramesOf most size cluster sender number m frames
CutsFrames most size cluster sender number m (Err e) = IsNotSent e (frame_octets cluster sender m)
