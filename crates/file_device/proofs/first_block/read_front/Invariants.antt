use Rattle.std.proofs.Common.{◌≤◌, length}
use Rattle.file_device.proofs.first_block.read_front.Given as goal

abbrev pub invariant-loop : goal.invariant-loop
invariant-loop l = length l.front.items ≤ 4096
