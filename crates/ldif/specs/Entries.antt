-- The records that are written of entries.
use Rattle.std.specs.Prelude.{ℕ, List, [], ◌∷◌, ◌++◌, map}
use Rattle.ldif.specs.Records.{ValueModel, RecordModel}
use Rattle.ldap_msg.specs.Messages.{PartialAttributeValue, SearchResultEntryValue}

-- a line for each value of a description; none, where there are no values
abbrev pub lines_with : List ℕ → List (List ℕ) → List ValueModel
lines_with description values = map (λ octets. record { description = description; octets = octets }) values

-- the lines of an attribute
abbrev pub lines_of : PartialAttributeValue → List ValueModel
lines_of a = lines_with a.description a.values

-- the values of all attributes, in order
abbrev pub lines_of_all : List PartialAttributeValue → List ValueModel
lines_of_all [] = []
lines_of_all (a ∷ rest) = lines_of a ++ lines_of_all rest

-- The record of an entry: its name, and its attributes' values in their order (RFC 4511 4.5.2, RFC 2849
-- ldif-attrval-record).
abbrev pub record_of : SearchResultEntryValue → RecordModel
record_of e = record { name = e.object_name; values = lines_of_all e.attributes }
