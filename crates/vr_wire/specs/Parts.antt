-- A message that one frame can't hold, in parts.
use Rattle.std.specs.Prelude.{◌≡◌, ◌<◌, ◌≤◌, ◌⊎◌, ◌+◌, ◌^◌, ℕ, zero, suc, List, [], ◌∷◌, ◌++◌, length}
use Rattle.std.specs.Prelude.{take, drop, Option, Some, None, Result, Ok, Err}
use Rattle.std.specs.Prelude.{Vec}
use Rattle.std.specs.declared.alloc.Global.{Global}
use Rattle.std.specs.List.{concat, AllByRecursion}
use Rattle.ldap_op.specs.Values.{OpValue}
use Rattle.view_store.specs.Cluster.{IsCluster, cluster_octets}
use Rattle.vr_state.specs.declared.message.PeerMessage.{PeerMessage}
use Rattle.vr_wire.specs.declared.error.WireError.{WireError}
use Rattle.vr_wire.specs.declared.error.WireError.TheVariants as error
use Rattle.vr_wire.specs.declared.labels.Portion.{Portion}
use Rattle.vr_wire.specs.Frames.{limit, number, short, kind_of, body_octets, frame_octets, IsInRange}
use Rattle.vr_wire.specs.Laws.{records_of, AreUpdatesInRange}
use Rattle.vr_wire.specs.Payloads.{IsFrame, IsMessageOf, written}

-- what a message says, without the length, the version, the cluster and the sender: its kind, and what follows the
-- sender's octet
abbrev pub saying_octets : PeerMessage (List ℕ) → List ℕ
saying_octets m = kind_of m ∷ body_octets m

-- the octets say this message
pub record IsSaying (m : PeerMessage OpValue) (octets : List ℕ) : Type 0 where
  pub raw : PeerMessage (List ℕ)
  pub spelled : octets ≡ saying_octets raw
  pub range : IsInRange raw
  pub payloads : IsMessageOf m raw

-- what follows the sender's octet in a part: the message's number, the part's place from 0, how many parts there are,
-- and octets of the message
abbrev pub portion_octets : ℕ → ℕ → ℕ → List ℕ → List ℕ
portion_octets message place count piece = number message ++ (short place ++ (short count ++ piece))

-- what follows the length of a part: version 2, the cluster's number, kind 13, the sender, and the rest
abbrev pub part_rest : ℕ → ℕ → ℕ → ℕ → ℕ → List ℕ → List ℕ
part_rest cluster sender message place count piece =
    2 ∷ (cluster_octets cluster ++ 13 ∷ sender ∷ portion_octets message place count piece)

-- a part: the length of the rest in four octets, and the rest
abbrev pub part_octets : ℕ → ℕ → ℕ → ℕ → ℕ → List ℕ → List ℕ
part_octets cluster sender message place count piece =
    short (length (part_rest cluster sender message place count piece)) ++ part_rest cluster sender message place
    count piece

-- how many octets of a part stand before those of the message
abbrev pub part_head : ℕ
part_head = 29

-- one part for each piece, from this place on
abbrev pub parts_from : ℕ → ℕ → ℕ → ℕ → ℕ → List (List ℕ) → List (List ℕ)
parts_from cluster sender message count place [] = []
parts_from cluster sender message count place (p ∷ ps) =
    part_octets cluster sender message place count p ∷ parts_from cluster sender message count (suc place) ps

-- the frames are the parts of these octets: pieces of them in their order, none empty, each in a frame within the limit
pub record ArePartsOf (cluster sender message : ℕ) (octets : List ℕ) (frames : List (List ℕ)) : Type 0 where
  pub pieces : List (List ℕ)
  pub joined : concat pieces ≡ octets
  pub spelled : frames ≡ parts_from cluster sender message (length pieces) 0 pieces
  pub few : length pieces < 2 ^ 32
  pub there : AllByRecursion (λ p. 1 ≤ length p) pieces
  pub small : AllByRecursion (λ f. length f ≤ limit) frames

-- the frames of a message: its one frame where that has at most so many octets, and else its parts, of at most so many
-- of its octets each
pub record AreFramesOf (most size cluster sender number : ℕ) (m : PeerMessage (List ℕ)) (frames : List (List ℕ)) :
    Type 0 where
  pub plain : length (frame_octets cluster sender m) ≤ most → frames ≡ frame_octets cluster sender m ∷ []
  pub parts : most < length (frame_octets cluster sender m) → ArePartsOf cluster sender number (saying_octets m) frames
  pub pieces : most < length (frame_octets cluster sender m) → AllByRecursion (λ f. length f ≤ part_head + size) frames
  pub small : AllByRecursion (λ f. length f ≤ limit) frames

-- octets cut in so many pieces of this size, but the last, which has what is left
abbrev pub pieces_of : ℕ → ℕ → List ℕ → List (List ℕ)
pieces_of size zero octets = []
pieces_of size (suc n) octets = take size octets ∷ pieces_of size n (drop size octets)

-- ---- a part, cut

-- the frame is a part of this cluster
pub record IsPart (cluster : ℕ) (p : Portion (List ℕ)) (frame : List ℕ) : Type 0 where
  pub spelled : frame ≡ part_octets cluster p.label.sender p.label.number p.place p.label.count p.piece
  pub cluster_is : IsCluster cluster
  pub number_is : p.label.number < 2 ^ 64
  pub count_is : p.label.count < 2 ^ 32
  pub place_is : p.place < p.label.count
  pub there : 1 ≤ length p.piece
  pub small : length frame ≤ limit

-- the message isn't sent: what it says isn't in range, or one frame of it would have 2 ^ 32 octets or more; or memory
-- ran out
abbrev pub IsUnsent : WireError → PeerMessage OpValue → List ℕ → Type 0
IsUnsent error.BadFrame m octets = IsInRange (written m) → AreUpdatesInRange (records_of m) → 2 ^ 32 ≤ length octets
IsUnsent error.ForeignFrame m octets = ⊥
IsUnsent error.NoMemory m octets = Unit {0}

-- the frames of a message are made, or it isn't sent
abbrev pub MakesFrames : ℕ → ℕ → ℕ → ℕ → ℕ → PeerMessage OpValue → Result (List (List ℕ)) WireError → Type 0
MakesFrames most size cluster sender number m (Ok frames) =
    AreFramesOf most size cluster sender number (written m) frames
MakesFrames most size cluster sender number m (Err e) = IsUnsent e m (frame_octets cluster sender (written m))

-- the frames tell this message: the one is a frame of it, or all are the parts of octets that say it
abbrev pub TellMessage : ℕ → ℕ → ℕ → PeerMessage OpValue → List (List ℕ) → Type 0
TellMessage cluster sender number m frames =
    ((frame : List ℕ) × (frames ≡ frame ∷ []) × IsFrame cluster sender m frame)
    ⊎ ((octets : List ℕ) × IsSaying m octets × ArePartsOf cluster sender number octets frames)

-- the next frame is handed out; or there is none; or memory ran out, and all are still to come
abbrev pub HandsOut : Result (Option (List ℕ)) WireError → List (List ℕ) → List (List ℕ) → Type 0
HandsOut (Ok (Some frame)) old new = old ≡ frame ∷ new
HandsOut (Ok None) old new = (old ≡ []) × (new ≡ [])
HandsOut (Err error.NoMemory) old new = new ≡ old
HandsOut (Err error.BadFrame) old new = ⊥
HandsOut (Err error.ForeignFrame) old new = ⊥

-- the octets of a frame that is handed out
abbrev pub frame_of : Result (Option (Vec ℕ Global)) WireError → Result (Option (List ℕ)) WireError
frame_of (Ok None) = Ok None
frame_of (Ok (Some v)) = Ok (Some v.items)
frame_of (Err e) = Err e

-- the frame that is handed out, if there is one, joins those handed out before
abbrev pub HandsFrame : Result (Option (Vec ℕ Global)) WireError → List (List ℕ) → List (List ℕ) → Type 0
HandsFrame r old new = HandsOut (frame_of r) old new

-- a frame that is handed out is within the limit
abbrev pub IsFrameWithin : Result (Option (Vec ℕ Global)) WireError → Type 0
IsFrameWithin (Ok (Some v)) = length v.items ≤ limit
IsFrameWithin (Ok None) = Unit {0}
IsFrameWithin (Err e) = Unit {0}
