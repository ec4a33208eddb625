-- Records of entries, as contracts see them.
use Rattle.std.specs.Prelude.{ℕ, List}

-- a value: its attribute description and its octets (RFC 2849, attrval-spec)
pub record ValueModel : Type 0 where
  pub description : List ℕ
  pub octets : List ℕ

-- an entry: its distinguished name and its values, in order (RFC 2849, attrval-record)
pub record RecordModel : Type 0 where
  pub name : List ℕ
  pub values : List ValueModel
