-- What isn't there for a replica that is given it.
use Rattle.std.proofs.Common.{ℕ, inl, inr, List, [], ◌∷◌}
use Rattle.vr_wire.specs.PartLaws.{FramesGiveMessage}
use Rattle.dir_machine.proofs.Gathered.{frames_missing}
use Rattle.dir_machine.proofs.Places.{places_missing}
use Rattle.dir_machine.specs.Happening.{IsMissing, IsOneMissing}
use Rattle.dir_machine.specs.private.Givens.{IsAbsent, IsOneAbsent}
use Rattle.dir_machine.specs.private.Running.{AreFramed}
use Rattle.dir_machine.specs.declared.events.Given.{Given}
use Rattle.dir_machine.specs.declared.events.Given.TheVariants as given
use Rattle.dir_machine.specs.declared.replies.MachineReply.{MachineReply}

module _ (law : FramesGiveMessage) (cluster : ℕ) (before : List MachineReply) (i : ℕ)
    (framed : AreFramed cluster before) where
  -- A message or its frames.
  pub absent_missing : (g : Given) → IsAbsent cluster before i g → IsMissing before i g
  absent_missing (given.Message place) absent = absent
  absent_missing (given.Frames at heard) absent = frames_missing law cluster before i at framed absent
  absent_missing (given.Heard places) absent = places_missing law cluster before i places.items framed absent
  absent_missing _ absent = absurd absent

  -- One of these.
  pub one_absent : (gs : List Given) → IsOneAbsent cluster before i gs → IsOneMissing before i gs
  one_absent [] absent = absurd absent
  one_absent (g ∷ gs) (inl absent) = inl (absent_missing g absent)
  one_absent (g ∷ gs) (inr absent) = inr (one_absent gs absent)
