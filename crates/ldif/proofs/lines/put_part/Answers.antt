-- LDIF, lines: the goals of `put_part`.
use Rattle.ldif.proofs.Unfolding.{put_folded, put_alone}
use Rattle.ldif.proofs.lines.put_part.Goals as goal

pub returns-in_ok-push-in-Some-continuation-clause-ok : goal.returns-in_ok-push-in-Some-continuation-clause-ok
returns-in_ok-push-in-Some-continuation-clause-ok c =
    put_folded c.args.lines.now.items c.pop.new.self.items c.push-in-Some-continuation.new.self.items c.in-Some.last
    c.extend.new.self c.args.number
    c.text.result.now c.args.part.now c.in-Some-continuation.rest.now c.in-Some.ensures.items
    c.in_ok-push-in-Some-continuation.ensures.items
    c.in_ok-extend-in-Some-continuation.ensures.ok c.in-Some-continuation.ensures.1 c.text.ensures
    c.in-Some-continuation.ensures.0

pub returns-in_ok-push-in-None-2-clause-ok : goal.returns-in_ok-push-in-None-2-clause-ok
returns-in_ok-push-in-None-2-clause-ok c =
    put_alone c.args.lines.now.items c.pop.new.self.items c.push-in-None.new.self.items
    c.push-in-None-2.new.self.items c.in-Some.last c.in_ok-new-in-None.field-0 c.args.number
    c.text.result.now c.args.part.now c.in-Some.ensures.items c.in_ok-push-in-None.ensures.items
    c.in_ok-push-in-None-2.ensures.items
    c.in_ok-new-in-None.ensures c.text.ensures c.in-None.ensures
