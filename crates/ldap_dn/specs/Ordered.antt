-- The order in which names stand in a map: by the types and keys of their relative names, whatever the spelling. RFC
-- 4512 2.3.2 (names are told apart by these alone).
use Rattle.std.specs.Prelude.{◌≡◌}
use Rattle.std.specs.declared.cmp.Ordering.{Ordering}
use Rattle.std.specs.Ordering.{nat_cmp, is_eq, on, then_cmp}
use Rattle.std.specs.Cmp.Lexicographic.{slice_cmp}
use Rattle.ldap_dn.specs.Names.{TypeAndKey, RdnModel, are_same_keys}

-- types by their numbers, and the keys of one type by their octets
abbrev pub key_order : TypeAndKey → TypeAndKey → Ordering
key_order = then_cmp (on (λ k. k.kind) nat_cmp) (on (λ k. k.key) (slice_cmp nat_cmp))

-- relative names by their types and keys in turn
abbrev pub rdn_order : RdnModel → RdnModel → Ordering
rdn_order = on (λ r. r.keys) (slice_cmp key_order)

-- Two relative names stand at one place in this order exactly where they are one name.
abbrev pub EqualIsSame : Type 0
EqualIsSame = (a b : RdnModel) → is_eq (rdn_order a b) ≡ are_same_keys a.keys b.keys
