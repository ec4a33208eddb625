-- A result, an attribute, a control without where it lies in memory (RFC 4511 4.1); a text is its octets.
use Rattle.std.specs.Prelude.{ℕ, List, Bool, Option}

-- PartialAttribute (RFC 4511 4.1.7)
pub record PartialAttributeValue : Type 0 where
  pub description : List ℕ
  pub values : List (List ℕ)

-- LDAPResult (RFC 4511 4.1.9); no referral is an empty list of URIs
pub record LdapResultValue : Type 0 where
  pub code : ℕ
  pub matched_dn : List ℕ
  pub diagnostic_message : List ℕ
  pub referral : List (List ℕ)

-- Control (RFC 4511 4.1.11)
pub record ControlValue : Type 0 where
  pub control_type : List ℕ
  pub criticality : Bool
  pub value : Option (List ℕ)
