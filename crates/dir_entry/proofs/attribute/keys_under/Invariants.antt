use Rattle.std.proofs.Common.{ℕ, Some, Vec, Global, ◌≡◌, ◌++◌, drop, map}
use Rattle.ldap_match.specs.Keyed.{key_at}
use Rattle.dir_entry.proofs.attribute.keys_under.Given as goal

abbrev pub invariant-loop-value : goal.invariant-loop-value
invariant-loop-value l = map Some l.keys.items ++ map (λ (v : Vec ℕ Global). key_at l.schema l.rule v.items)
    (drop l.value-index l.values) ≡ map (λ (v : Vec ℕ Global). key_at l.schema l.rule v.items) l.values
