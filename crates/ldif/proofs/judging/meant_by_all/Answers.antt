-- LDIF and messages: the goal of `meant_by_all`.
use Rattle.std.proofs.Common.{List, ℕ, subst}
use Rattle.ldif.specs.Exports.{Means}
use Rattle.ldif.proofs.Meanings.{mean_more}
use Rattle.ldif.proofs.judging.meant_by_all.Goals as goal

pub loop-octets-preserved : goal.loop-octets-preserved
loop-octets-preserved c =
    mean_more c.args.messages.now c.loop-octets.octets-index c.octets-item.result c.loop-octets.all.items
    c.push.new.self.items c.in_ok-meant.field-0
    c.loop-octets-test.true c.octets-item.is c.loop-octets.invariant
    (subst (λ (o : List ℕ). Means o c.in_ok-meant.field-0) c.deref.ensures.value c.in_ok-meant.ensures)
    c.in_ok-push.ensures.items
