-- Parts put together.
use Rattle.std.specs.Prelude.{◌≡◌, ◌≢◌, ◌⊎◌, ◌+◌, ◌==◌, ◌&&◌, cond, nat_lt, Bool, ℕ, List, [], ◌∷◌, ◌++◌, Option, Some, None, Result, Ok, Err}
use Rattle.std.specs.Bool.{MatchBool}
use Rattle.vr_wire.specs.declared.error.WireError.{WireError}
use Rattle.vr_wire.specs.declared.error.WireError.TheVariants as error
use Rattle.vr_wire.specs.declared.labels.Portion.{Portion}
use Rattle.vr_wire.specs.declared.gathering.Came.{Came}
use Rattle.vr_wire.specs.declared.gathering.Came.TheVariants as came
use Rattle.vr_wire.specs.Heap.{Heap}
use Rattle.vr_wire.specs.Payloads.{IsFrame, Refuses, RefusesFrame}
use Rattle.vr_wire.specs.Parts.{IsPart, IsSaying}

-- the part is the next of the message that is gathered
abbrev pub is_next : Heap → Portion (List ℕ) → Bool
is_next g p = g.label.sender == p.label.sender && g.label.number == p.label.number && g.label.count == p.label.count
    && g.next == p.place

-- a message begins with its part 0
abbrev pub begun : Portion (List ℕ) → Heap
begun p = record { label = p.label; next = 1; octets = p.piece }

-- one part more
abbrev pub with_part : Heap → Portion (List ℕ) → Heap
with_part g p = record { label = g.label; next = g.next + 1; octets = g.octets ++ p.piece }

-- what is gathered with one part more: part 0 begins anew, the next part is added, and any other drops all
abbrev pub gathered : Option Heap → Portion (List ℕ) → Option Heap
gathered None p = cond (p.place == 0) (Some (begun p)) None
gathered (Some g) p = cond (p.place == 0) (Some (begun p)) (cond (is_next g p) (Some (with_part g p)) None)

-- the octets of all parts are read as a message of this sender; what is none is refused
abbrev pub IsRead : ℕ → List ℕ → Result Came WireError → Type 0
IsRead sender octets (Ok (came.Message speaker m)) = (speaker ≡ sender) × IsSaying m octets
IsRead sender octets (Ok (came.Part speaker)) = ⊥
IsRead sender octets (Ok (came.Dropped speaker)) = ⊥
IsRead sender octets (Err e) = Refuses IsSaying e octets

-- what comes of a part: it's dropped; or it's kept while others are missing; or with the last the message is read, and
-- nothing is gathered
abbrev pub ComesOfPart : Option Heap → ℕ → Result Came WireError → Option Heap → Type 0
ComesOfPart None sender r new = (r ≡ Ok (came.Dropped sender)) × (new ≡ None)
ComesOfPart (Some g) sender r new =
    MatchBool (nat_lt g.next g.label.count) ((r ≡ Ok (came.Part sender)) × (new ≡ Some g)) (IsRead sender g.octets r
    × (new ≡ None))

-- what comes of a frame that is no part: its message, or why it has none
abbrev pub ComesOfFrame : ℕ → List ℕ → Result Came WireError → Type 0
ComesOfFrame cluster frame (Ok (came.Message sender m)) = IsFrame cluster sender m frame
ComesOfFrame cluster frame (Ok (came.Part sender)) = ⊥
ComesOfFrame cluster frame (Ok (came.Dropped sender)) = ⊥
ComesOfFrame cluster frame (Err e) = RefusesFrame cluster e frame

-- the frame is a part of this cluster
pub record TakesPart (cluster : ℕ) (old : Option Heap) (frame : List ℕ) (r : Result Came WireError)
    (new : Option Heap) : Type 0 where
  pub portion : Portion (List ℕ)
  pub part : IsPart cluster portion frame
  pub comes : ComesOfPart (gathered old portion) portion.label.sender r new

-- the frame is a part of another cluster: it's refused, and nothing is gathered
pub record TakesForeign (cluster : ℕ) (frame : List ℕ) (r : Result Came WireError) (new : Option Heap) : Type 0 where
  pub other : ℕ
  pub portion : Portion (List ℕ)
  pub part : IsPart other portion frame
  pub differs : other ≢ cluster
  pub refused : r ≡ Err error.ForeignFrame
  pub dropped : new ≡ None

-- the octets are no part of any cluster: they are read as a frame, and nothing is gathered
pub record TakesFrame (cluster : ℕ) (frame : List ℕ) (r : Result Came WireError) (new : Option Heap) : Type 0 where
  pub part : (other : ℕ) (p : Portion (List ℕ)) → IsPart other p frame → ⊥
  pub comes : ComesOfFrame cluster frame r
  pub dropped : new ≡ None

-- memory ran out, and nothing is gathered
pub record TakesNothing (r : Result Came WireError) (new : Option Heap) : Type 0 where
  pub refused : r ≡ Err error.NoMemory
  pub dropped : new ≡ None

-- what comes of a frame of this cluster, and what is gathered then
abbrev pub Takes : ℕ → Option Heap → List ℕ → Result Came WireError → Option Heap → Type 0
Takes cluster old frame r new =
    TakesPart cluster old frame r new ⊎ (TakesFrame cluster frame r new ⊎ (TakesForeign cluster frame r new
    ⊎ TakesNothing r new))

-- frames taken one after the other: what came of each, and what is gathered at the end
abbrev pub TakesAll : ℕ → Option Heap → List (List ℕ) → List (Result Came WireError) → Option Heap → Type 0
TakesAll cluster old [] [] new = new ≡ old
TakesAll cluster old (f ∷ fs) (r ∷ rs) new = (mid : Option Heap) × Takes cluster old f r mid × TakesAll cluster mid fs
    rs new
TakesAll cluster old _ _ new = ⊥
