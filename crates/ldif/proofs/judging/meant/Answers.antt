-- LDIF and messages: the goals of `meant`.
use Rattle.std.proofs.Common.{sym, subst}
use Rattle.std.proofs.lemmas.Result.{IfOk-weaker}
use Rattle.ldap_msg.specs.View.{view}
use Rattle.ldif.specs.Exports.{Means, as_message, as_none}
use Rattle.ldif.proofs.judging.meant.Goals as goal

pub returns-in-Ok : goal.returns-in-Ok
returns-in-Ok c =
    IfOk-weaker c.meant_by.result _ _
    (λ m h. subst (Means c.args.octets.now) (sym h)
    (as_message (view c.in-Ok.message) (record {
      is_message = c.in-Ok.ensures.found;
      size = c.in-Ok.ensures.within.1;
      within = c.in-Ok.ensures.within.0;
    })))
    c.meant_by.ensures

pub returns-in-Err : goal.returns-in-Err
returns-in-Err c =
    IfOk-weaker c.meant_by_none.result _ _
    (λ m h. subst (Means c.args.octets.now) (sym h.0)
    (as_none (λ n w. h.1 (c.in-Err.ensures.only n w.is_message w.within w.size))))
    c.meant_by_none.ensures
