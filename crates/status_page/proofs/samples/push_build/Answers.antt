-- What search doesn't prove of `push_build`: the parts of its line, in another order.
use Rattle.std.proofs.Common.{codes, decimal}
use Rattle.status_page.specs.Pages.{proved_word}
use Rattle.status_page.proofs.Written.{appended_as, build_line}
use Rattle.status_page.proofs.samples.push_build.Goals as goal

pub returns : goal.returns
returns c =
    appended_as c.writeln.result _ _ _ _
    (build_line (codes "dird_build_info{version=\"") c.args.version.now (codes "\",proved=\"")
    c.proved_word-proved.result.now (proved_word c.args.build) (codes "\"}") (codes " ") (decimal 1) (codes "\n")
    c.proved_word-proved.ensures)
    c.writeln.ensures.bytes
