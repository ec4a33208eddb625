-- Keys where a schema is known, and a test made of an item: what contracts that aren't public say of it.
-- What public contracts say is in specs/Keyed.
use Rattle.std.specs.Prelude.{ℕ, List, Option}
use Rattle.ldap_match.specs.declared.testing.Test.{Test}
use Rattle.ldap_match.specs.declared.testing.Test.TheVariants as test
use Rattle.ldap_match.specs.Keyed.{test_of}

-- an equality item's
abbrev pub equality_test : Option (List ℕ) → Test
equality_test k = test_of test.Equal k
