-- What search doesn't prove of `push_labelled`: the parts of its line, in another order.
use Rattle.std.proofs.Common.{codes, decimal, refl}
use Rattle.status_page.proofs.Written.{appended_as, labelled_line}
use Rattle.status_page.proofs.samples.push_labelled.Goals as goal

pub returns : goal.returns
returns c =
    appended_as c.writeln.result _ _ _ _
    (labelled_line c.args.name.now (codes "{") c.args.key.now (codes "=\"") (decimal c.args.sample.label)
    (decimal c.args.sample.label) (codes "\"}") (codes " ") (decimal c.args.sample.number) (codes "\n") refl)
    c.writeln.ensures.bytes
