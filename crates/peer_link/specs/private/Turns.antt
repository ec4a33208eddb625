-- Which thread sends what waits for another replica.
use Rattle.std.specs.Prelude.{◌≡◌, ◌⊎◌, IsTrue, IsFalse}
use Rattle.peer_link.specs.declared.turns.Load.{Load}
use Rattle.peer_link.specs.declared.turns.Step.{Step}
use Rattle.peer_link.specs.declared.turns.Step.TheVariants as step
use Rattle.peer_link.specs.declared.turns.Turn.{Turn}
use Rattle.peer_link.specs.declared.turns.Turn.TheVariants as turn

-- something waits, and nothing long
abbrev pub MaySend : Load → Type 0
MaySend load = IsTrue load.is_some × IsFalse load.is_long

-- Nothing is left that no thread looks at: nothing waits, or the thread that sends looks before it puts the stream
-- back, or it is sent now, or the sender is called.
abbrev pub IsLookedAt : Turn → Step → Load → Type 0
IsLookedAt who what load = IsFalse load.is_some ⊎ (who ≡ turn.Poster) ⊎ (what ≡ step.Send) ⊎ (what ≡ step.Call)
