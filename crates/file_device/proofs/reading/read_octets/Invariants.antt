use Rattle.std.proofs.Common.{◌≡◌, ◌≤◌, [], length}
use Rattle.file_device.specs.History.{octets_of}
use Rattle.file_device.proofs.reading.read_octets.Given as goal

abbrev pub invariant-loop : goal.invariant-loop
invariant-loop l = (length (octets_of l.octets.known.history) ≤ l.most) × (l.octets.known.history.events ≡ [])
