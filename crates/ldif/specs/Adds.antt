-- The adds that records ask for.
use Rattle.std.specs.Prelude.{ℕ, ◌+◌, List, [], ◌∷◌, ◌++◌, map, filter, Bool, cond}
use Rattle.std.specs.List.{list_any}
use Rattle.ldif.specs.Descriptions.{is_same_word}
use Rattle.ldif.specs.Records.{ValueModel, RecordModel}
use Rattle.ldap_msg.specs.Messages.{PartialAttributeValue, AddRequestValue, add, request, MessageValue}

-- whether a line has this type, without regard to case (RFC 4512 2.5)
abbrev pub is_of : List ℕ → ValueModel → Bool
is_of word v = is_same_word word v.description

-- the values of the lines that have a type, in their order
abbrev pub values_of : List ℕ → List ValueModel → List (List ℕ)
values_of word vs = map (λ v. v.octets) (filter (is_of word) vs)

-- a line, where none of the lines before it has its type
abbrev pub if_first : List ValueModel → ValueModel → List ValueModel
if_first before v = cond (list_any (is_of v.description) before) [] (v ∷ [])

-- the lines that are the first of their type, where these stand before them
abbrev pub firsts : List ValueModel → List ValueModel → List ValueModel
firsts before [] = []
firsts before (v ∷ vs) = if_first before v ++ firsts (before ++ v ∷ []) vs

-- a line's type as it is spelled there, with the values of all lines that have it
abbrev pub attribute_of : List ValueModel → ValueModel → PartialAttributeValue
attribute_of vs v = record { description = v.description; values = values_of v.description vs }

-- one attribute for each type, at the place of its first line
abbrev pub attributes_of : List ValueModel → List PartialAttributeValue
attributes_of vs = map (attribute_of vs) (firsts [] vs)

-- The add of the entry that a record is (RFC 4511 4.7, RFC 2849 ldif-attrval-record).
abbrev pub add_of : RecordModel → AddRequestValue
add_of r = record { entry = r.name; attributes = attributes_of r.values }

-- its message, without controls
abbrev pub add_message : ℕ → RecordModel → MessageValue
add_message id r = record { id = id; op = request (add (add_of r)); controls = [] }

-- The messages of records, one each and in order, with messageIDs from this one on.
abbrev pub adds_from : ℕ → List RecordModel → List MessageValue
adds_from id [] = []
adds_from id (r ∷ rs) = add_message id r ∷ adds_from (id + 1) rs
