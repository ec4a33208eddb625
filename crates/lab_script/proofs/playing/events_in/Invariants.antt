use Rattle.std.proofs.Common.{ℕ, ◌+◌, take, drop}
use Rattle.lab_script.specs.Script.{AreEvents, IsFirstBad}
use Rattle.lab_script.proofs.Each.{views}
use Rattle.lab_script.proofs.Lines.{all_octets}
use Rattle.lab_script.proofs.playing.events_in.Given as goal

-- these events are those of the lines so far; the first bad line of those that are left is the first of all
abbrev pub invariant-loop-at : goal.invariant-loop-at
invariant-loop-at l = record {
  read : AreEvents (all_octets (take l.at l.lines)) (views l.events.items);
  good : (n : ℕ) → IsFirstBad (l.at + 2) (all_octets (drop l.at l.lines)) n → IsFirstBad 2 (all_octets l.lines) n;
}
