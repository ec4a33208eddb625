-- What an item says, without where it lies in memory.
use Rattle.std.specs.Prelude.{List, ℕ, Bool, Option}

-- Which comparison is asked for: equalityMatch, greaterOrEqual, lessOrEqual or approxMatch (RFC 4511 4.5.1.7).
pub data Comparison : Type 0 where
  equal : Comparison
  at_least : Comparison
  at_most : Comparison
  approximate : Comparison

-- SubstringFilter (RFC 4511 4.5.1.7.2): a description, and the parts of a value.
pub record SubstringsValue : Type 0 where
  pub description : List ℕ
  pub initial : Option (List ℕ)
  pub any : List (List ℕ)
  pub last : Option (List ℕ)

-- MatchingRuleAssertion (RFC 4511 4.5.1.7.7).
pub record ExtensibleValue : Type 0 where
  pub matching_rule : Option (List ℕ)
  pub description : Option (List ℕ)
  pub match_value : List ℕ
  pub dn_attributes : Bool

-- An item of a filter (RFC 4511 4.5.1.7); a text is its octets.
pub data Item : Type 0 where
  comparison : Comparison → List ℕ → List ℕ → Item
  substrings : SubstringsValue → Item
  presence : List ℕ → Item
  extensible : ExtensibleValue → Item
