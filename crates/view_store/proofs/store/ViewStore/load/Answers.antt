-- What search doesn't prove of `load`: what it returns, step by step.
use Rattle.std.proofs.Common.{◌≡◌, Some, rules, ap, subst, ◌∙◌}
use Rattle.view_store.specs.Slots.{held, finding, found, own}
use Rattle.view_store.proofs.store.ViewStore.load.Goals as goal

pub returns-in-Ok-own_pair : goal.returns-in-Ok-own_pair
returns-in-Ok-own_pair g c =
    let s = g.D.Device.seen in
    let taken : held (s c.self.inside.device) ≡ Some c.in-Some.slot = search rules in
    let its_own : finding c.self.inside.cluster (Some c.in-Some.slot) ≡ own c.in-Ok-own_pair.pair =
    c.in-Ok-own_pair.ensures.ok in
    record {
      found = subst (λ v. found v.cluster (s v.device) ≡ own c.in-Ok-own_pair.pair) c.self.view_is
          (ap (finding c.self.inside.cluster) taken ∙ its_own);
      durable = λ x left. c.in-Ok.ensures.durable x left ∙ ap s (ap (λ v. v.device) c.self.view_is);
      ready = search rules;
      seen = search rules;
      cluster = ap (λ v. v.cluster) c.self.view_is;
      any_moment = search rules;
      no_pair = search rules;
      foreign_cluster = search rules;
      keeps_journal = search rules;
      device_failed = search rules;
      counted = search rules;
      failed = search rules;
      failed_same = search rules;
    }
