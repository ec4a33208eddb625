-- The goals of `controls_behind` that no tactic closes.
use Rattle.std.proofs.Common.{List}
use Rattle.std.proofs.lemmas.Result.{IfErr-weaker}
use Rattle.ldap_requests.specs.ldap_ber.Faults.{IsPlainFault}
use Rattle.ldap_requests.proofs.ldap_ber.Same.{plain_weaker}
use Rattle.ldap_parts.specs.Values.{ControlValue}
use Rattle.ldap_parts.specs.Grammar.{AreControls}
use Rattle.ldap_msg.specs.View.{operation_view}
use Rattle.ldap_msg.specs.Grammar.{IsIdFor}
use Rattle.ldap_msg.proofs.decoding.controls_behind.Goals as goal

pub returns-then-not-is_id_for-clause-fault : goal.returns-then-not-is_id_for-clause-fault
returns-then-not-is_id_for-clause-fault c = λ q. c.if-not-is_id_for.ensures.no q.0

pub returns-clause-fault : goal.returns-clause-fault
returns-clause-fault c =
    IfErr-weaker c.controls_of.result
    (λ e. IsPlainFault e ((row : List ControlValue) × AreControls row c.args.octets.now))
    (λ e. IsPlainFault e (IsIdFor (operation_view c.args.op.now) c.args.id
    × ((row : List ControlValue) × AreControls row c.args.octets.now)))
    (λ e fault. plain_weaker e _ _ (λ q. q.1) fault)
    c.controls_of.ensures.fault
