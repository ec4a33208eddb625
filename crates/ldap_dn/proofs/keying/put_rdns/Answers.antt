-- What search doesn't prove of `put_rdns`: `loop-rdn-preserved` and the clause `kept`, by lemmas of `KeysMade`.
use Rattle.std.proofs.Common.{List, ◌++◌, ◌∙◌, map, ap, refl}
use Rattle.ldap_dn.specs.Names.{RdnModel}
use Rattle.ldap_dn.specs.NameKeys.{listed, pair_octets}
use Rattle.ldap_dn.proofs.KeysMade.{kept_same, kept_more, one_more}
use Rattle.ldap_dn.proofs.keying.put_rdns.Goals as goal

pub loop-rdn-preserved : goal.loop-rdn-preserved
loop-rdn-preserved c = (
  one_more (λ (l : List RdnModel). listed (listed pair_octets) (map (λ (r : RdnModel). r.keys) l))
      (λ (r : RdnModel). listed pair_octets r.keys) (λ x l. refl)
      c.args.rdns.now c.loop-rdn.rdn-index c.rdn-item.result _ c.loop-rdn-test.true c.in_ok-push.ensures.items
      (c.in_ok-put_rdn.ensures.ok ∙ ap (λ (r : RdnModel). c.push.new.self.items ++ listed pair_octets r.keys)
      c.rdn-item.is) c.loop-rdn.invariant.0,
  kept_more _ _ c.put_rdn.ensures.kept (kept_more _ _ c.in_ok-push.ensures.items c.loop-rdn.invariant.1),
)

pub returns-in_err-push-clause-kept : goal.returns-in_err-push-clause-kept
returns-in_err-push-clause-kept c = kept_same _ c.in_err-push.ensures.items c.loop-rdn.invariant.1

pub returns-in_err-put_rdn-clause-kept : goal.returns-in_err-put_rdn-clause-kept
returns-in_err-put_rdn-clause-kept c = kept_more _ _ c.put_rdn.ensures.kept (kept_more _ _ c.in_ok-push.ensures.items
    c.loop-rdn.invariant.1)

pub returns-in_err-push-2-clause-kept : goal.returns-in_err-push-2-clause-kept
returns-in_err-push-2-clause-kept c = kept_same _ c.in_err-push-2.ensures.items c.loop-rdn.invariant.1

pub returns-clause-kept : goal.returns-clause-kept
returns-clause-kept c = kept_more _ _ c.in_ok-push-2.ensures.items c.loop-rdn.invariant.1
