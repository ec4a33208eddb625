-- What search doesn't prove of `show`: what `publish_as` requires and what it returns, by lemmas of `Begins` and
-- `Kept`.
use Rattle.std.proofs.Common.{sym, subst}
use Rattle.dir_seats.specs.Lists.{IsBeginning}
use Rattle.dir_seats.proofs.Begins.{both}
use Rattle.dir_seats.proofs.Kept.{sees}
use Rattle.dir_seats.proofs.steps.show.Goals as goal

pub publish_as-requires : goal.publish_as-requires
publish_as-requires g c next is =
    let now = c.args.writer.desk.shown.value in
    sees _ _ now next (subst (λ v. IsBeginning now v) (sym is) c.requires)

pub returns : goal.returns
returns g c = both c.publish_as.result.1 c.publish_as.ensures.values c.publish_as.ensures.rule
    (λ v s. (v.0, v.1, s.1)) (λ v s. (v.0, v.1, s))
