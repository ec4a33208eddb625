-- The built-in schema: types and classes in the order of their numbers. RFC 4519 2 and 3, and this server's own types.
use Rattle.std.specs.Prelude.{ℕ, List, [], ◌∷◌, ◌++◌, true, false, None, Some, codes}
use Rattle.schema_meaning.specs.ldap_words.declared.rule.Rule.{Rule}
use Rattle.schema_meaning.specs.ldap_words.declared.rule.Family.TheVariants as family
use Rattle.schema_meaning.specs.ldap_words.declared.rule.Syntax.TheVariants as syntax
use Rattle.ldap_schema.specs.Schema.{TypeModel, ClassModel, SchemaModel}
use Rattle.schema_reader.specs.declared.built_in.TheConstants.{BUILT_IN}
use Rattle.ldap_schema.specs.declared.class.ClassKind.TheVariants.{Abstract, Structural}

-- caseIgnoreMatch on Directory String
abbrev pub ignore_rule : Rule
ignore_rule = record { family = family.Ignore; syntax = syntax.DirectoryString }

-- a type under name, with its rules (RFC 4519 2.18)
abbrev pub name_type : List ℕ → List (List ℕ) → TypeModel
name_type oid names = record {
  oid = oid;
  names = names;
  superior = Some 1;
  syntax = syntax.DirectoryString;
  equality = Some ignore_rule;
  ordering = None;
  substrings = Some ignore_rule;
  is_single_value = false;
}

-- objectClass (RFC 4512 3.3)
abbrev pub object_class_type : TypeModel
object_class_type = record {
  oid = codes "2.5.4.0";
  names = codes "objectClass" ∷ [];
  superior = None;
  syntax =
      syntax.ObjectIdentifier;
  equality = Some (record {
    family = family.Identifier;
    syntax = syntax.ObjectIdentifier;
  });
  ordering = None;
  substrings = None;
  is_single_value = false;
}

-- description (RFC 4519 2.5)
abbrev pub description_type : TypeModel
description_type = record {
  oid = codes "2.5.4.13";
  names = codes "description" ∷ [];
  superior = None;
  syntax =
      syntax.DirectoryString;
  equality = Some ignore_rule;
  ordering = None;
  substrings = Some ignore_rule;
  is_single_value = false;
}

-- telephoneNumberMatch (RFC 4519 2.35)
abbrev pub telephone_rule : Rule
telephone_rule = record { family = family.Telephone; syntax = syntax.TelephoneNumber }

-- telephoneNumber (RFC 4519 2.35)
abbrev pub telephone_number_type : TypeModel
telephone_number_type = record {
  oid = codes "2.5.4.20";
  names = codes "telephoneNumber" ∷ [];
  superior =
      None;
  syntax = syntax.TelephoneNumber;
  equality = Some telephone_rule;
  ordering = None;
  substrings =
      Some telephone_rule;
  is_single_value = false;
}

-- distinguishedNameMatch (RFC 4519 2.17)
abbrev pub member_type : TypeModel
member_type = record {
  oid = codes "2.5.4.31";
  names = codes "member" ∷ [];
  superior = None;
  syntax =
      syntax.DistinguishedName;
  equality = Some (record { family = family.Name; syntax = syntax.DistinguishedName });
  ordering = None;
  substrings = None;
  is_single_value = false;
}

-- caseIgnoreIA5Match
abbrev pub ia5_rule : Rule
ia5_rule = record { family = family.Ia5; syntax = syntax.Ia5String }

-- dc (RFC 4519 2.4)
abbrev pub dc_type : TypeModel
dc_type = record {
  oid = codes "0.9.2342.19200300.100.1.25";
  names = codes "dc" ∷ [];
  superior = None;
  syntax =
      syntax.Ia5String;
  equality = Some ia5_rule;
  ordering = None;
  substrings = Some ia5_rule;
  is_single_value = true;
}

-- label: a type of this server, with equality, order and substrings of text without case
abbrev pub label_type : TypeModel
label_type = record {
  oid = codes "2.25.20120201.1";
  names = codes "label" ∷ [];
  superior = None;
  syntax =
      syntax.DirectoryString;
  equality = Some ignore_rule;
  ordering = Some ignore_rule;
  substrings = Some ignore_rule;
  is_single_value = false;
}

-- numericStringMatch in the place of label's caseIgnoreMatch, so label's ordering and substrings rules aren't inherited
abbrev pub ticket_type : TypeModel
ticket_type = record {
  oid = codes "2.25.20120201.2";
  names = codes "ticket" ∷ [];
  superior = Some 10;
  syntax =
      syntax.NumericString;
  equality = Some (record { family = family.Numeric; syntax = syntax.NumericString });
  ordering = None;
  substrings = None;
  is_single_value = false;
}

-- integerMatch and integerOrderingMatch
abbrev pub integer_rule : Rule
integer_rule = record { family = family.Integer; syntax = syntax.Integer }

-- rank: a type of this server, with one value at most, a number
abbrev pub rank_type : TypeModel
rank_type = record {
  oid = codes "2.25.20120201.3";
  names = codes "rank" ∷ [];
  superior = None;
  syntax =
      syntax.Integer;
  equality = Some integer_rule;
  ordering = Some integer_rule;
  substrings = None;
  is_single_value =
      true;
}

-- generalizedTimeMatch and generalizedTimeOrderingMatch
abbrev pub time_rule : Rule
time_rule = record { family = family.Time; syntax = syntax.GeneralizedTime }

-- seen: a type of this server, a time
abbrev pub seen_type : TypeModel
seen_type = record {
  oid = codes "2.25.20120201.4";
  names = codes "seen" ∷ [];
  superior = None;
  syntax =
      syntax.GeneralizedTime;
  equality = Some time_rule;
  ordering = Some time_rule;
  substrings = None;
  is_single_value =
      false;
}

-- active: a type of this server, with one value at most, TRUE or FALSE
abbrev pub active_type : TypeModel
active_type = record {
  oid = codes "2.25.20120201.5";
  names = codes "active" ∷ [];
  superior = None;
  syntax =
      syntax.Boolean;
  equality = Some (record { family = family.Boolean; syntax = syntax.Boolean });
  ordering =
      None;
  substrings = None;
  is_single_value = true;
}

-- blob: a type of this server, any octets
abbrev pub blob_type : TypeModel
blob_type = record {
  oid = codes "2.25.20120201.6";
  names = codes "blob" ∷ [];
  superior = None;
  syntax =
      syntax.OctetString;
  equality = Some (record { family = family.Octet; syntax = syntax.OctetString });
  ordering =
      None;
  substrings = None;
  is_single_value = false;
}

-- numbers 0 to 5
abbrev pub named_types : List TypeModel
named_types =
    object_class_type
    ∷ record {
      oid = codes "2.5.4.41";
      names = codes "name" ∷ [];
      superior = None;
      syntax = syntax.DirectoryString;
      equality = Some ignore_rule;
      ordering = None;
      substrings = Some ignore_rule;
      is_single_value = false;
    }
    ∷ name_type (codes "2.5.4.3") (codes "cn" ∷ codes "commonName" ∷ [])
    ∷ name_type (codes "2.5.4.4") (codes "sn" ∷ [])
    ∷ name_type (codes "2.5.4.10") (codes "o" ∷ [])
    ∷ name_type (codes "2.5.4.11") (codes "ou" ∷ [])
    ∷ []

-- numbers 6 to 15
abbrev pub own_types : List TypeModel
own_types =
    description_type ∷ telephone_number_type ∷ member_type ∷ dc_type ∷ label_type ∷ ticket_type ∷ rank_type ∷
    seen_type ∷ active_type ∷ blob_type ∷ []

-- numbers 0 to 15
abbrev pub built_in_types : List TypeModel
built_in_types = named_types ++ own_types

-- a class without superclasses is top, and the others are under it (RFC 4512 2.4.1)
abbrev pub class_of : List ℕ → List ℕ → List ℕ → List ℕ → ClassModel
class_of oid name required allowed = record {
  oid = oid;
  names = name ∷ [];
  superiors = 0 ∷ [];
  kind =
      Structural;
  required = required;
  allowed = allowed;
}

-- numbers 0 to 5: top, domain, organizationalUnit, person, groupOfNames, and item, this server's own
abbrev pub built_in_classes : List ClassModel
built_in_classes =
    record {
      oid = codes "2.5.6.0";
      names = codes "top" ∷ [];
      superiors = [];
      kind = Abstract;
      required =
          0 ∷ [];
      allowed = [];
    }
    ∷ class_of (codes "0.9.2342.19200300.100.4.13") (codes "domain") (9 ∷ []) (6 ∷ 4 ∷ [])
    ∷ class_of (codes "2.5.6.5") (codes "organizationalUnit") (5 ∷ []) (6 ∷ 7 ∷ [])
    ∷ class_of (codes "2.5.6.6") (codes "person") (3 ∷ 2 ∷ []) (6 ∷ 7 ∷ [])
    ∷ class_of (codes "2.5.6.9") (codes "groupOfNames") (8 ∷ 2 ∷ []) (6 ∷ [])
    ∷ class_of (codes "2.25.20120202.1") (codes "item") (2 ∷ []) (10 ∷ 11 ∷ 12 ∷ 6 ∷ 13 ∷ 14 ∷ 15 ∷ [])
    ∷ []

-- The built-in schema.
abbrev pub built_in : SchemaModel
built_in = record { types = built_in_types; classes = built_in_classes }

-- the text of the built-in schema
unfoldable pub built_in_text : List ℕ
built_in_text = BUILT_IN.now
