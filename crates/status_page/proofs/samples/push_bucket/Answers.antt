-- What search doesn't prove of `push_bucket`: the parts of its line, in another order.
use Rattle.std.proofs.Common.{codes, decimal}
use Rattle.status_page.specs.Samples.{bound_word}
use Rattle.status_page.proofs.Written.{appended_as, labelled_line}
use Rattle.status_page.proofs.samples.push_bucket.Goals as goal

pub returns : goal.returns
returns c =
    appended_as c.writeln.result _ _ _ _
    (labelled_line c.args.name.now (codes "_bucket{") c.args.front.now (codes "le=\"") c.word-bound.result.now
    (bound_word c.args.bucket.bound) (codes "\"}") (codes " ") (decimal c.args.bucket.number) (codes "\n")
    c.word-bound.ensures)
    c.writeln.ensures.bytes
