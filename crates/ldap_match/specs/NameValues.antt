-- Values that are names, compared: RFC 4517 4.2.15.
use Rattle.std.specs.Prelude.{List, true, ◌≡◌, ◌↔◌}
use Rattle.ldap_dn.specs.Names.{RdnModel, IsSameName}
use Rattle.ldap_match.specs.Meaning.{name_meaning}
use Rattle.ldap_match.specs.Item.{is_equal_meaning}

-- Values that are names are equal exactly where they are one name: their relative names in turn are the same sets
-- (RFC 4517 4.2.15).
abbrev pub EqualValuesAreOneName : Type 0
EqualValuesAreOneName = (a b : List RdnModel) → (is_equal_meaning (name_meaning a) (name_meaning b) ≡ true) ↔
    IsSameName a b
