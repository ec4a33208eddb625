use Rattle.std.proofs.Common.{◌≤◌, length}
use Rattle.file_device.proofs.file.read_image.Given as goal

abbrev pub invariant-loop : goal.invariant-loop
invariant-loop l = length l.image.items ≤ l.most
