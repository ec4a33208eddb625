-- Texts of a value under rules that its type may lack: RFC 4517 4.2. No statement above the evaluation of filters
-- names them.
use Rattle.std.specs.Prelude.{ℕ, List, [], ◌∷◌, ◌++◌, Bool, true, false, cond, not, ◌&&◌, ◌||◌, Option, None, Some, ◌≡◌}
use Rattle.std.specs.Str.{bytes_eq}
use Rattle.ldap_syntax.specs.Meaning.{is_before}
use Rattle.ldap_syntax.specs.Keys.{key_at}
use Rattle.ldap_syntax.specs.Syntaxes.{is_in_syntax}
use Rattle.ldap_words.specs.Families.{is_used_on, is_textual}
use Rattle.ldap_words.specs.declared.rule.Rule.{Rule}
use Rattle.ldap_words.specs.declared.rule.Family.{Family}
use Rattle.ldap_words.specs.declared.rule.Family.TheVariants as family
use Rattle.ldap_words.specs.declared.rule.Syntax.{Syntax}
use Rattle.ldap_words.specs.declared.rule.Syntax.TheVariants as syntax
use Rattle.ldap_syntax.specs.declared.plain.Style.TheVariants as style
use Rattle.ldap_syntax.specs.Styles.{text_by}

-- ---- texts that are made of the value's octets alone, and need not be kept

-- between SPACEs (RFC 4518 2.6.1)
abbrev pub between : List ℕ → List ℕ
between v = 32 ∷ v ++ 32 ∷ []

-- a family's text of octets that preparation leaves as they are, but for their case and for SPACEs and hyphens among
-- and round them
abbrev pub plain_text : Family → List ℕ → List ℕ
plain_text family.Ignore v = between (text_by style.Lowered v)
plain_text family.Ia5 v = between (text_by style.Lowered v)
plain_text family.Exact v = between (text_by style.Cased v)
plain_text family.Ia5Exact v = between (text_by style.Cased v)
plain_text family.Telephone v = text_by style.Called v
plain_text family.Numeric v = text_by style.Digits v
plain_text family.Identifier v = v
plain_text family.Name v = v
plain_text family.Boolean v = v
plain_text family.Integer v = v
plain_text family.Octet v = v
plain_text family.Time v = v

-- ---- texts that are kept

-- a value's texts: with its case and without, and as digits and as a telephone number where it is one
pub record TextsModel : Type 0 where
  pub exact : Option (List ℕ)
  pub ignore : Option (List ℕ)
  pub numeric : Option (List ℕ)
  pub telephone : Option (List ℕ)

-- a value's key under the rule of a family on a syntax
abbrev pub key_of_family : Family → Syntax → List ℕ → Option (List ℕ)
key_of_family f x v = key_at (record { family = f; syntax = x }) v

-- a value's texts: each is none, where the value has no such text
abbrev pub texts_of : List ℕ → TextsModel
texts_of v = record {
  exact = key_of_family family.Exact syntax.OctetString v;
  ignore = key_of_family family.Ignore syntax.OctetString v;
  numeric = key_of_family family.Numeric syntax.NumericString v;
  telephone = key_of_family family.Telephone syntax.TelephoneNumber v;
}

-- the text that a family goes by
abbrev pub text_in : TextsModel → Family → Option (List ℕ)
text_in x family.Ignore = x.ignore
text_in x family.Ia5 = x.ignore
text_in x family.Exact = x.exact
text_in x family.Ia5Exact = x.exact
text_in x family.Numeric = x.numeric
text_in x family.Telephone = x.telephone
text_in x family.Identifier = None
text_in x family.Name = None
text_in x family.Boolean = None
text_in x family.Integer = None
text_in x family.Octet = None
text_in x family.Time = None

-- whether a text is this one
abbrev pub is_that : List ℕ → Option (List ℕ) → Bool
is_that w None = false
is_that w (Some x) = bytes_eq w x

-- whether a family's text of a value that is in a syntax is made of its octets alone
abbrev pub is_plain_in : Family → Syntax → TextsModel → List ℕ → Bool
is_plain_in f s x v = not (is_in_syntax s v) || is_that (plain_text f v) (text_in x f)

-- whether each is
abbrev pub are_plain : TextsModel → List ℕ → Bool
are_plain x v =
    (is_plain_in family.Exact syntax.OctetString x v && is_plain_in family.Ignore syntax.OctetString x v)
    && (is_plain_in family.Numeric syntax.NumericString x v && is_plain_in family.Telephone syntax.TelephoneNumber x v)

-- what is kept of a value's texts: nothing, where each is made of the value's octets alone
abbrev pub FormModel : Type 0
FormModel = Option TextsModel

-- what is kept of the texts of a value
abbrev pub form_of : List ℕ → FormModel
form_of v = cond (are_plain (texts_of v) v) None (Some (texts_of v))

-- whether a key is this one, or where an order is asked for stands before it
abbrev pub is_met : Bool → List ℕ → List ℕ → Bool
is_met true k x = is_before x k
is_met false k x = bytes_eq x k

-- whether there is a key that meets an asserted one
abbrev pub is_met_by : Bool → List ℕ → Option (List ℕ) → Bool
is_met_by less k None = false
is_met_by less k (Some x) = is_met less k x

-- whether a value meets an asserted key, by what is kept of its texts
abbrev pub form_meets : Family → Bool → List ℕ → FormModel → List ℕ → Bool
form_meets f less k None v = is_met less k (plain_text f v)
form_meets f less k (Some x) v = is_met_by less k (text_in x f)

-- whether a value in a rule's syntax has a text that meets an asserted key
abbrev pub has_met : Rule → Bool → List ℕ → FormModel → List ℕ → Bool
has_met r less k x v = is_in_syntax r.syntax v && form_meets r.family less k x v

-- the same of a value by its own texts
abbrev pub is_text_met : Rule → Bool → List ℕ → List ℕ → Bool
is_text_met r less k v = has_met r less k (form_of v) v

-- A value's texts tell what its key tells, under each rule of text.
abbrev pub TextsTell : Type 0
TextsTell = (r : Rule) (less : Bool) (k v : List ℕ) → is_used_on r.family r.syntax ≡ true → is_textual r.syntax ≡
    true → is_text_met r less k v ≡ is_met_by less k (key_at r v)
