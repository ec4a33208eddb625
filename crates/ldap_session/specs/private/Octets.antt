-- Octets that are written: what contracts that aren't public say of it.
-- What public contracts say is in specs/Octets.
use Rattle.std.specs.Prelude.{◌≡◌, ℕ, List, ◌++◌, Bool, true, Option}
use Rattle.std.specs.Io.KnownBytes.{Appends}
use Rattle.ldap_session.specs.Octets.{IsFront}

-- a front of the octets was taken, and this is left
pub record WritesSome (before after : Option (List ℕ)) (octets left : List ℕ) : Type 0 where
  pub taken : List ℕ
  pub grown : Appends before after taken
  pub whole : octets ≡ taken ++ left

-- octets have grown by a front of others: by all of them, where that is said
pub record HasGrown (old new octets : List ℕ) (all : Bool) : Type 0 where
  pub taken : List ℕ
  pub grown : new ≡ old ++ taken
  pub front : IsFront taken octets
  pub whole : all ≡ true → taken ≡ octets
