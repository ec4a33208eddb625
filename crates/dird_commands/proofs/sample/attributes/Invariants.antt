use Rattle.std.proofs.Common.{◌≡◌, ◌++◌, drop, map}
use Rattle.local_directory.specs.ldap_msg.View.{attribute_view}
use Rattle.dird_commands.specs.Sample.{one_value}
use Rattle.dird_commands.proofs.sample.attributes.Given as goal

abbrev pub invariant-loop-description : goal.invariant-loop-description
invariant-loop-description l = map attribute_view l.attributes.items ++ map one_value (map (λ p. (p.0.now, p.1.now))
    (drop l.description-index l.pairs)) ≡ map one_value (map (λ p. (p.0.now, p.1.now)) l.pairs)
