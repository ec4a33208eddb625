-- What search doesn't prove of `put_pairs`: `loop-pair-preserved` and the clause `kept`, by lemmas of `KeysMade`.
use Rattle.std.proofs.Common.{◌++◌, ◌∙◌, ap, refl}
use Rattle.ldap_dn.specs.Names.{TypeAndKey}
use Rattle.ldap_dn.specs.NameKeys.{listed, pair_octets}
use Rattle.ldap_dn.proofs.KeysMade.{kept_same, kept_more, one_more}
use Rattle.ldap_dn.proofs.keying.put_pairs.Goals as goal

pub loop-pair-preserved : goal.loop-pair-preserved
loop-pair-preserved c = (
  one_more (listed pair_octets) pair_octets (λ x l. refl) c.args.pairs.now c.loop-pair.pair-index c.pair-item.result _
      c.loop-pair-test.true c.in_ok-push.ensures.items
      (c.in_ok-put_pair.ensures.ok ∙ ap (λ (p : TypeAndKey). c.push.new.self.items ++ pair_octets p) c.pair-item.is)
      c.loop-pair.invariant.0,
  kept_more _ _ c.put_pair.ensures.kept (kept_more _ _ c.in_ok-push.ensures.items c.loop-pair.invariant.1),
)

pub returns-in_err-push-clause-kept : goal.returns-in_err-push-clause-kept
returns-in_err-push-clause-kept c = kept_same _ c.in_err-push.ensures.items c.loop-pair.invariant.1

pub returns-in_err-put_pair-clause-kept : goal.returns-in_err-put_pair-clause-kept
returns-in_err-put_pair-clause-kept c = kept_more _ _ c.put_pair.ensures.kept
    (kept_more _ _ c.in_ok-push.ensures.items c.loop-pair.invariant.1)

pub returns-in_err-push-2-clause-kept : goal.returns-in_err-push-2-clause-kept
returns-in_err-push-2-clause-kept c = kept_same _ c.in_err-push-2.ensures.items c.loop-pair.invariant.1

pub returns-clause-kept : goal.returns-clause-kept
returns-clause-kept c = kept_more _ _ c.in_ok-push-2.ensures.items c.loop-pair.invariant.1
