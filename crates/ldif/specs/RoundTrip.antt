-- What is written is read back.
use Rattle.std.specs.Prelude.{◌≡◌, List, Bool, true, ◌&&◌}
use Rattle.std.specs.declared.result.Result.TheVariants.{Ok}
use Rattle.std.specs.List.{list_all}
use Rattle.std.specs.Str.{is_utf8}
use Rattle.ldif.specs.Descriptions.{is_type}
use Rattle.ldif.specs.Records.{ValueModel, RecordModel}
use Rattle.ldif.specs.Written.{ldif_text}
use Rattle.ldif.specs.Reading.{records_of}
pub use Rattle.ldap_words.specs.Octets.{are_octets}

-- a value whose type is a description other than `dn`, `changetype` and `control`
abbrev pub is_typed : ValueModel → Bool
is_typed v = is_type v.description && are_octets v.octets

-- a record whose name is text and whose values have such types
abbrev pub is_typed_record : RecordModel → Bool
is_typed_record r = is_utf8 r.name && are_octets r.name && list_all is_typed r.values

-- The records of the written form of records are those records.
abbrev pub RecordsReturn : Type 0
RecordsReturn = (rs : List RecordModel) → list_all is_typed_record rs ≡ true → records_of (ldif_text rs) ≡ Ok rs
