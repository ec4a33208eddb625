-- Frames: nine octets are those of what they tell.
use Rattle.std.proofs.Common.{arith}
use Rattle.vr_wire.proofs.Begin.{told}
use Rattle.vr_wire.proofs.headings.told.Goals as goal

pub returns-clause-says : goal.returns-clause-says
returns-clause-says c = told c.args.first.now c.heading_of.result c.requires (λ i. omega (arith, c.type_inv.first i))
    c.heading_of.ensures
