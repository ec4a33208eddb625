-- An update without where it lies in memory (RFC 4511 4.6 to 4.9); a text is its octets.
use Rattle.std.specs.Prelude.{ℕ, List, Bool, Option}
use Rattle.ldap_parts.specs.Values.{PartialAttributeValue}
use Rattle.ldap_parts.specs.declared.modify.ModifyOperation.{ModifyOperation}

-- AddRequest (RFC 4511 4.7)
pub record AddRequestValue : Type 0 where
  pub entry : List ℕ
  pub attributes : List PartialAttributeValue

-- a change of a modify (RFC 4511 4.6)
pub record ChangeValue : Type 0 where
  pub operation : ModifyOperation
  pub modification : PartialAttributeValue

-- ModifyRequest (RFC 4511 4.6)
pub record ModifyRequestValue : Type 0 where
  pub object : List ℕ
  pub changes : List ChangeValue

-- ModifyDNRequest (RFC 4511 4.9)
pub record ModifyDnRequestValue : Type 0 where
  pub entry : List ℕ
  pub newrdn : List ℕ
  pub deleteoldrdn : Bool
  pub new_superior : Option (List ℕ)
