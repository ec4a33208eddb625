use Rattle.std.proofs.Common.{[]}
use Rattle.std.specs.Io.KnownBytes.{Consumes}
use Rattle.peer_link.proofs.reading.read_some.Given as goal

-- nothing is read so far
abbrev pub invariant-loop : goal.invariant-loop
invariant-loop g l = Consumes (g.R.Read.remaining l.fn.reader) (g.R.Read.remaining l.reader) []
