use Rattle.std.proofs.Common.{◌≡◌, ◌≤◌, ◌-◌, max}
use Rattle.file_device.proofs.kept_octets.KeptOctets.forget.Given as goal

-- what is kept from the place on stays
abbrev pub invariant-pieces : goal.invariant-pieces
invariant-pieces l = record {
  known : l.self.known ≡ l.fn.self.known;
  kept : l.self.size - l.self.kept ≤ max l.before (l.fn.self.size - l.fn.self.kept);
}

abbrev pub decreases-pieces : goal.decreases-pieces
decreases-pieces l = goal.left-pieces l
