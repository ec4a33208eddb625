-- What search doesn't prove of `rdns_up`: what it returns and `loop-i-preserved`, by lemmas of `UpFacts`.
use Rattle.std.proofs.Common.{◌≡◌, ◌∙◌, suc, ◌+◌, ◌-◌, ◌++◌, arith, map, reverse, ap, List}
use Rattle.dir_entry.specs.ldap_dn.Names.{RdnModel}
use denote.Bor.{Bor}
use Rattle.dir_tree.specs.Superiors.{place_at}
use Rattle.dir_tree.proofs.UpFacts.{up_none, up_root, up_next, pushed}
use Rattle.dir_tree.proofs.roots.Roots.rdns_up.Goals as goal

pub returns-in-None : goal.returns-in-None
returns-in-None c =
    let step : c.args.self.now.reach - c.loop-i.i ≡ suc (c.args.self.now.reach - (c.loop-i.i + 1)) = omega arith in
    up_none (c.args.self.now.reach - c.loop-i.i) (c.args.self.now.reach - (c.loop-i.i + 1)) c.loop-i.at
    (place_at c.args.self.now.entries) (map (λ (r : Bor RdnModel). r.now) c.loop-i.rdns.items) _ step
    c.in-None.ensures c.loop-i.invariant

pub returns-in-Some-Root : goal.returns-in-Some-Root
returns-in-Some-Root c =
    let step : c.args.self.now.reach - c.loop-i.i ≡ suc (c.args.self.now.reach - (c.loop-i.i + 1)) = omega arith in
    up_root (c.args.self.now.reach - c.loop-i.i) (c.args.self.now.reach - (c.loop-i.i + 1)) c.loop-i.at
    (place_at c.args.self.now.entries) c.in-Some-Root.field-0.now c.in-Some-Root.name
    (map (λ (r : Bor RdnModel). r.now) c.loop-i.rdns.items)
    (map (λ (r : Bor RdnModel). r.now) c.push_back.new.into.items) _ step c.in-Some-Root.ensures
    c.in-Some-Root.field-0-is
    (c.in_ok-push_back-in-Some-Root.ensures ∙ ap (λ (l : List RdnModel). map (λ (r : Bor RdnModel). r.now)
    c.loop-i.rdns.items ++ reverse l) (c.rdns.ensures ∙ c.get.ensures)) c.loop-i.invariant

pub loop-i-preserved : goal.loop-i-preserved
loop-i-preserved c =
    let step : c.args.self.now.reach - c.loop-i.i ≡ suc (c.args.self.now.reach - (c.loop-i.i + 1)) = omega arith in
    up_next (c.args.self.now.reach - c.loop-i.i) (c.args.self.now.reach - (c.loop-i.i + 1)) c.loop-i.at
    c.in-Some-Under.above (place_at c.args.self.now.entries) c.in-Some-Under.field-0.now c.in-Some-Under.rdn
    (map (λ (r : Bor RdnModel). r.now) c.loop-i.rdns.items) (map (λ (r : Bor RdnModel). r.now) c.push.new.self.items)
    _ step c.in-Some-Under.ensures c.in-Some-Under.field-0-is
    (pushed (λ (r : Bor RdnModel). r.now) c.loop-i.rdns.items c.push.new.self.items c.get-in-Some-Under.result
    c.in-Some-Under.rdn c.in_ok-push-in-Some-Under.ensures.items c.get-in-Some-Under.ensures) c.loop-i.invariant
