-- Frames: what comes of a frame, by what it is.
use Rattle.std.proofs.Common.{◌≡◌, ◌≢◌, ℕ, List, Option, None, Result, Err, refl, inl, inr}
use Rattle.vr_wire.specs.declared.error.WireError.{WireError}
use Rattle.vr_wire.specs.declared.error.WireError.TheVariants as error
use Rattle.vr_wire.specs.declared.labels.Portion.{Portion}
use Rattle.vr_wire.specs.declared.gathering.Came.{Came}
use Rattle.vr_wire.specs.Heap.{Heap}
use Rattle.vr_wire.specs.private.Heap.{PartTaken}
use Rattle.vr_wire.specs.Parts.{IsPart}
use Rattle.vr_wire.specs.private.Parts.{cut_part}
use Rattle.vr_wire.specs.Gathering.{gathered, ComesOfPart, ComesOfFrame, Takes}
use Rattle.vr_wire.proofs.PartFrames.{no_part}

pub taken_part : (cluster : ℕ) (old : Option Heap) (frame : List ℕ) (p : Portion (List ℕ)) (r : Result Came WireError)
    (new : Option Heap) → IsPart cluster p frame → PartTaken (ComesOfPart (gathered old p) p.label.sender r new) r
    new → Takes cluster old frame r new
taken_part cluster old frame p r new is (inl comes) = inl (record { portion = p; part = is; comes = comes })
taken_part cluster old frame p r new is (inr none) = inr (inr (inr (record { refused = none.0; dropped = none.1 })))

pub taken_frame : (cluster : ℕ) (old : Option Heap) (frame : List ℕ) (r : Result Came WireError) (new : Option Heap) →
    cut_part frame ≡ None → ComesOfFrame cluster frame r → new ≡ None → Takes cluster old frame r new
taken_frame cluster old frame r new none comes dropped =
    inr (inl (record { part = no_part frame none; comes = comes; dropped = dropped }))

pub taken_foreign : (cluster : ℕ) (old : Option Heap) (frame : List ℕ) (other : ℕ) (p : Portion (List ℕ)) →
    IsPart other p frame → other ≢ cluster → Takes cluster old frame (Err error.ForeignFrame) None
taken_foreign cluster old frame other p is differs =
    inr (inr (inl (record {
      other = other;
      portion = p;
      part = is;
      differs = differs;
      refused = refl;
      dropped =
          refl;
    })))

pub taken_nothing : (cluster : ℕ) (old : Option Heap) (frame : List ℕ) (r : Result Came WireError)
    (new : Option Heap) → r ≡ Err error.NoMemory → new ≡ None → Takes cluster old frame r new
taken_nothing cluster old frame r new refused dropped =
    inr (inr (inr (record { refused = refused; dropped = dropped })))
