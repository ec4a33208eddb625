-- The order in which relative names below an entry stand in a map: by their digests, and those of one digest by their
-- types and keys.
use Rattle.std.specs.declared.cmp.Ordering.{Ordering}
use Rattle.std.specs.Ordering.{nat_cmp, on, then_cmp}
use Rattle.dir_entry.specs.ldap_dn.Names.{RdnModel}
use Rattle.dir_entry.specs.ldap_dn.Ordered.{rdn_order}
use Rattle.dir_entry.specs.ldap_dn.Digests.{digest_of}

-- relative names by their digests, and those of one digest by their types and keys
abbrev pub digested_order : RdnModel → RdnModel → Ordering
digested_order = then_cmp (on (λ r. digest_of r.keys) nat_cmp) rdn_order
