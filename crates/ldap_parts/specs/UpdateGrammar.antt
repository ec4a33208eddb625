-- The contents that spell an update (RFC 4511 4.6 to 4.9 and Appendix B). Each part is a relation of a value, the
-- octets where it begins, and the octets that follow it.
use Rattle.std.specs.Prelude.{◌≡◌, ◌≢◌, ℕ, Bool, List, []}
use Rattle.std.specs.Str.{IsUtf8}
use Rattle.ldap_ber.specs.Fields.{Seq, HasText, HasNumber, HasFlag, HasPart, HasTextOrNone}
use Rattle.ldap_ber.specs.Rows.{AreRow, AreElements}
use Rattle.ldap_parts.specs.Values.{PartialAttributeValue}
use Rattle.ldap_parts.specs.Grammar.{IsPartialAttribute, HasPartialAttribute}
use Rattle.ldap_parts.specs.UpdateValues.{AddRequestValue, ChangeValue, ModifyRequestValue, ModifyDnRequestValue}
use Rattle.ldap_parts.specs.declared.modify.ModifyOperation.{ModifyOperation}
use Rattle.ldap_parts.specs.declared.modify.ModifyOperation.TheVariants.{Add, Delete, Replace, Increment}

-- one value at least
abbrev pub HasAValue : PartialAttributeValue → Type 0
HasAValue a = a.values ≢ []

-- Attribute ::= PartialAttribute (WITH COMPONENTS { .., vals (SIZE (1..MAX)) }) (RFC 4511 4.1.7)
abbrev pub IsAttribute : PartialAttributeValue → List ℕ → Type 0
IsAttribute a content = IsPartialAttribute a content × HasAValue a

-- an attribute in its list
abbrev pub HasAttribute : PartialAttributeValue → List ℕ → List ℕ → Type 0
HasAttribute a octets rest = HasPart (IsAttribute a) octets 48 rest

-- AddRequest ::= [APPLICATION 8] SEQUENCE { entry LDAPDN, attributes AttributeList } (RFC 4511 4.7)
abbrev pub IsAddRequest : AddRequestValue → List ℕ → Type 0
IsAddRequest a content = Seq (HasText content 4 a.entry)
    (λ octets. Seq (HasPart (AreRow HasAttribute a.attributes) octets 48) AreElements)

-- operation: add (0), delete (1), replace (2) (RFC 4511 4.6), increment (3) (RFC 4525)
abbrev pub modify_number : ModifyOperation → ℕ
modify_number Add = 0
modify_number Delete = 1
modify_number Replace = 2
modify_number Increment = 3

-- change ::= SEQUENCE { operation ENUMERATED, modification PartialAttribute } (RFC 4511 4.6)
abbrev pub IsChange : ChangeValue → List ℕ → Type 0
IsChange k content = Seq (HasNumber content 10 4 (modify_number k.operation))
    (λ octets. Seq (HasPartialAttribute k.modification octets) AreElements)

-- a change in its list
abbrev pub HasChange : ChangeValue → List ℕ → List ℕ → Type 0
HasChange k octets rest = HasPart (IsChange k) octets 48 rest

-- ModifyRequest ::= [APPLICATION 6] SEQUENCE { object LDAPDN, changes SEQUENCE OF change } (RFC 4511 4.6)
abbrev pub IsModifyRequest : ModifyRequestValue → List ℕ → Type 0
IsModifyRequest m content = Seq (HasText content 4 m.object)
    (λ octets. Seq (HasPart (AreRow HasChange m.changes) octets 48) AreElements)

-- DelRequest ::= [APPLICATION 10] LDAPDN (RFC 4511 4.8)
pub record IsDelRequest (name content : List ℕ) : Type 0 where
  pub is_content : name ≡ content
  pub is_text : IsUtf8 content

-- entry LDAPDN, newrdn RelativeLDAPDN, deleteoldrdn BOOLEAN
abbrev pub IsNewName : List ℕ → List ℕ → Bool → List ℕ → List ℕ → Type 0
IsNewName entry newrdn deleteoldrdn octets rest =
    Seq (HasText octets 4 entry) (λ octets. Seq (HasText octets 4 newrdn) (λ octets. HasFlag octets 1 deleteoldrdn
    rest))

-- ModifyDNRequest ::= [APPLICATION 12] SEQUENCE { .. newSuperior [0] LDAPDN OPTIONAL } (RFC 4511 4.9)
abbrev pub IsModifyDnRequest : ModifyDnRequestValue → List ℕ → Type 0
IsModifyDnRequest d content =
    Seq (IsNewName d.entry d.newrdn d.deleteoldrdn content) (λ octets. Seq (HasTextOrNone octets 128 d.new_superior)
    AreElements)
