-- What search doesn't prove of `put_octets`: `loop-octet-preserved` and the clause `kept`, by lemmas of `KeysMade`.
use Rattle.std.proofs.Common.{refl}
use Rattle.ldap_dn.specs.NameKeys.{listed, itself}
use Rattle.ldap_dn.proofs.KeysMade.{kept_same, kept_more, one_more}
use Rattle.ldap_dn.proofs.keying.put_octets.Goals as goal

pub loop-octet-preserved : goal.loop-octet-preserved
loop-octet-preserved c = (
  one_more (listed itself) itself (λ x l. refl) c.args.octets.now c.loop-octet.octet-index 0 _ c.loop-octet-test.true
      c.in_ok-push.ensures.items c.in_ok-push-2.ensures.items c.loop-octet.invariant.0,
  kept_more _ _ c.in_ok-push-2.ensures.items (kept_more _ _ c.in_ok-push.ensures.items c.loop-octet.invariant.1),
)

pub returns-in_err-push-clause-kept : goal.returns-in_err-push-clause-kept
returns-in_err-push-clause-kept c = kept_same _ c.in_err-push.ensures.items c.loop-octet.invariant.1

pub returns-in_err-push-2-clause-kept : goal.returns-in_err-push-2-clause-kept
returns-in_err-push-2-clause-kept c = kept_same _ c.in_err-push-2.ensures.items
    (kept_more _ _ c.in_ok-push.ensures.items c.loop-octet.invariant.1)

pub returns-in_err-push-3-clause-kept : goal.returns-in_err-push-3-clause-kept
returns-in_err-push-3-clause-kept c = kept_same _ c.in_err-push-3.ensures.items c.loop-octet.invariant.1

pub returns-clause-kept : goal.returns-clause-kept
returns-clause-kept c = kept_more _ _ c.in_ok-push-3.ensures.items c.loop-octet.invariant.1
