-- What is gathered of a message.
use Rattle.std.specs.Prelude.{ℕ, List}
use Rattle.vr_wire.specs.declared.gathering.Begun.{Begun}
use Rattle.vr_wire.specs.declared.labels.Label.{Label}

-- the parts of one message that came, from the first on: which is the next, and what the others hold
pub record Heap : Type 0 where
  pub label : Label
  pub next : ℕ
  pub octets : List ℕ

-- what a replica keeps of it
abbrev pub heap_of : Begun → Heap
heap_of b = record { label = b.label; next = b.next; octets = b.octets.items }
