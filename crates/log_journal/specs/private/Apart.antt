-- Updates, records and logs that aren't found alike: what contracts that aren't public say of it.
-- What public contracts say is in specs/Apart.
use Rattle.std.specs.Prelude.{◌≢◌, ◌⊎◌}
use Rattle.ldap_op.specs.Values.{OpValue}
use Rattle.ldap_op.specs.Written.{HasNoSpelling}

-- Two updates differ, or one of them has no spelling.
abbrev pub AreUpdatesApart : OpValue → OpValue → Type 0
AreUpdatesApart one other = (one ≢ other) ⊎ (HasNoSpelling one ⊎ HasNoSpelling other)
