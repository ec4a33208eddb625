-- The rules that a type supports, against its EQUALITY rule.
use Rattle.std.proofs.Common.{ℕ, List, Bool, true, false, cond, ◌&&◌, ◌||◌, not, Option, None, Some, slice_get, ◌≡◌, refl, ap, ap₂, sym, ◌∙◌}
use Rattle.std.specs.Option.{option_map_or}
use Rattle.dir_entry.specs.ldap_words.Families.{is_used_on, is_textual, is_ordering}
use Rattle.dir_entry.specs.ldap_syntax.Keys as syntax_keys
use Rattle.dir_entry.specs.ldap_words.declared.rule.Family.{Family}
use Rattle.dir_entry.specs.ldap_words.declared.rule.Family.TheVariants as family
use Rattle.dir_entry.specs.ldap_words.declared.rule.Rule.{Rule}
use Rattle.dir_entry.specs.ldap_words.declared.rule.Syntax.{Syntax}
use Rattle.dir_entry.specs.ldap_words.declared.rule.Syntax.TheVariants as syntax
use Rattle.dir_entry.specs.ldap_schema.Schema.{SchemaModel, TypeModel}
use Rattle.dir_entry.specs.ldap_schema.Rules.{equality_in, equality_of}
use Rattle.dir_entry.specs.ldap_match.Keyed.{key_at}
use Rattle.dir_entry.proofs.ldap_match.Decided.{and_left, and_right}
use Rattle.ldap_eval.specs.Matching.{is_rule_of, is_own_or_text, supported_in, rule_for, asks_less, is_text_type, goes_by_key}
use Rattle.ldap_eval.specs.declared.naming_rules.NamedRule.{NamedRule}
use Rattle.ldap_eval.specs.declared.naming_rules.How.{How}
use Rattle.ldap_eval.specs.declared.naming_rules.How.TheVariants as how

-- the family that is used on a syntax; none, where its values are text
abbrev pub sole_family : Syntax → Option Family
sole_family syntax.Boolean = Some family.Boolean
sole_family syntax.DistinguishedName = Some family.Name
sole_family syntax.DirectoryString = None
sole_family syntax.GeneralizedTime = Some family.Time
sole_family syntax.Ia5String = None
sole_family syntax.Integer = Some family.Integer
sole_family syntax.NumericString = None
sole_family syntax.ObjectIdentifier = Some family.Identifier
sole_family syntax.OctetString = Some family.Octet
sole_family syntax.TelephoneNumber = None

-- a family that is used on a syntax whose values are no text is the one that is
pub sole : (f : Family) (x : Syntax) → is_used_on f x ≡ true → is_textual x ≡ false → sole_family x ≡ Some f
sole family.Identifier syntax.Boolean u t = absurd (cc)
sole family.Identifier syntax.DistinguishedName u t = absurd (cc)
sole family.Identifier syntax.DirectoryString u t = absurd (cc)
sole family.Identifier syntax.GeneralizedTime u t = absurd (cc)
sole family.Identifier syntax.Ia5String u t = absurd (cc)
sole family.Identifier syntax.Integer u t = absurd (cc)
sole family.Identifier syntax.NumericString u t = absurd (cc)
sole family.Identifier syntax.ObjectIdentifier u t = refl
sole family.Identifier syntax.OctetString u t = absurd (cc)
sole family.Identifier syntax.TelephoneNumber u t = absurd (cc)
sole family.Name syntax.Boolean u t = absurd (cc)
sole family.Name syntax.DistinguishedName u t = refl
sole family.Name syntax.DirectoryString u t = absurd (cc)
sole family.Name syntax.GeneralizedTime u t = absurd (cc)
sole family.Name syntax.Ia5String u t = absurd (cc)
sole family.Name syntax.Integer u t = absurd (cc)
sole family.Name syntax.NumericString u t = absurd (cc)
sole family.Name syntax.ObjectIdentifier u t = absurd (cc)
sole family.Name syntax.OctetString u t = absurd (cc)
sole family.Name syntax.TelephoneNumber u t = absurd (cc)
sole family.Ignore x u t = absurd (cc)
sole family.Exact x u t = absurd (cc)
sole family.Numeric syntax.Boolean u t = absurd (cc)
sole family.Numeric syntax.DistinguishedName u t = absurd (cc)
sole family.Numeric syntax.DirectoryString u t = absurd (cc)
sole family.Numeric syntax.GeneralizedTime u t = absurd (cc)
sole family.Numeric syntax.Ia5String u t = absurd (cc)
sole family.Numeric syntax.Integer u t = absurd (cc)
sole family.Numeric syntax.NumericString u t = absurd (cc)
sole family.Numeric syntax.ObjectIdentifier u t = absurd (cc)
sole family.Numeric syntax.OctetString u t = absurd (cc)
sole family.Numeric syntax.TelephoneNumber u t = absurd (cc)
sole family.Boolean syntax.Boolean u t = refl
sole family.Boolean syntax.DistinguishedName u t = absurd (cc)
sole family.Boolean syntax.DirectoryString u t = absurd (cc)
sole family.Boolean syntax.GeneralizedTime u t = absurd (cc)
sole family.Boolean syntax.Ia5String u t = absurd (cc)
sole family.Boolean syntax.Integer u t = absurd (cc)
sole family.Boolean syntax.NumericString u t = absurd (cc)
sole family.Boolean syntax.ObjectIdentifier u t = absurd (cc)
sole family.Boolean syntax.OctetString u t = absurd (cc)
sole family.Boolean syntax.TelephoneNumber u t = absurd (cc)
sole family.Integer syntax.Boolean u t = absurd (cc)
sole family.Integer syntax.DistinguishedName u t = absurd (cc)
sole family.Integer syntax.DirectoryString u t = absurd (cc)
sole family.Integer syntax.GeneralizedTime u t = absurd (cc)
sole family.Integer syntax.Ia5String u t = absurd (cc)
sole family.Integer syntax.Integer u t = refl
sole family.Integer syntax.NumericString u t = absurd (cc)
sole family.Integer syntax.ObjectIdentifier u t = absurd (cc)
sole family.Integer syntax.OctetString u t = absurd (cc)
sole family.Integer syntax.TelephoneNumber u t = absurd (cc)
sole family.Octet syntax.Boolean u t = absurd (cc)
sole family.Octet syntax.DistinguishedName u t = absurd (cc)
sole family.Octet syntax.DirectoryString u t = absurd (cc)
sole family.Octet syntax.GeneralizedTime u t = absurd (cc)
sole family.Octet syntax.Ia5String u t = absurd (cc)
sole family.Octet syntax.Integer u t = absurd (cc)
sole family.Octet syntax.NumericString u t = absurd (cc)
sole family.Octet syntax.ObjectIdentifier u t = absurd (cc)
sole family.Octet syntax.OctetString u t = refl
sole family.Octet syntax.TelephoneNumber u t = absurd (cc)
sole family.Telephone syntax.Boolean u t = absurd (cc)
sole family.Telephone syntax.DistinguishedName u t = absurd (cc)
sole family.Telephone syntax.DirectoryString u t = absurd (cc)
sole family.Telephone syntax.GeneralizedTime u t = absurd (cc)
sole family.Telephone syntax.Ia5String u t = absurd (cc)
sole family.Telephone syntax.Integer u t = absurd (cc)
sole family.Telephone syntax.NumericString u t = absurd (cc)
sole family.Telephone syntax.ObjectIdentifier u t = absurd (cc)
sole family.Telephone syntax.OctetString u t = absurd (cc)
sole family.Telephone syntax.TelephoneNumber u t = absurd (cc)
sole family.Time syntax.Boolean u t = absurd (cc)
sole family.Time syntax.DistinguishedName u t = absurd (cc)
sole family.Time syntax.DirectoryString u t = absurd (cc)
sole family.Time syntax.GeneralizedTime u t = refl
sole family.Time syntax.Ia5String u t = absurd (cc)
sole family.Time syntax.Integer u t = absurd (cc)
sole family.Time syntax.NumericString u t = absurd (cc)
sole family.Time syntax.ObjectIdentifier u t = absurd (cc)
sole family.Time syntax.OctetString u t = absurd (cc)
sole family.Time syntax.TelephoneNumber u t = absurd (cc)
sole family.Ia5 syntax.Boolean u t = absurd (cc)
sole family.Ia5 syntax.DistinguishedName u t = absurd (cc)
sole family.Ia5 syntax.DirectoryString u t = absurd (cc)
sole family.Ia5 syntax.GeneralizedTime u t = absurd (cc)
sole family.Ia5 syntax.Ia5String u t = absurd (cc)
sole family.Ia5 syntax.Integer u t = absurd (cc)
sole family.Ia5 syntax.NumericString u t = absurd (cc)
sole family.Ia5 syntax.ObjectIdentifier u t = absurd (cc)
sole family.Ia5 syntax.OctetString u t = absurd (cc)
sole family.Ia5 syntax.TelephoneNumber u t = absurd (cc)
sole family.Ia5Exact syntax.Boolean u t = absurd (cc)
sole family.Ia5Exact syntax.DistinguishedName u t = absurd (cc)
sole family.Ia5Exact syntax.DirectoryString u t = absurd (cc)
sole family.Ia5Exact syntax.GeneralizedTime u t = absurd (cc)
sole family.Ia5Exact syntax.Ia5String u t = absurd (cc)
sole family.Ia5Exact syntax.Integer u t = absurd (cc)
sole family.Ia5Exact syntax.NumericString u t = absurd (cc)
sole family.Ia5Exact syntax.ObjectIdentifier u t = absurd (cc)
sole family.Ia5Exact syntax.OctetString u t = absurd (cc)
sole family.Ia5Exact syntax.TelephoneNumber u t = absurd (cc)

-- the syntax of a family of values that are no text
abbrev pub sole_syntax : Family → Option Syntax
sole_syntax family.Identifier = Some syntax.ObjectIdentifier
sole_syntax family.Name = Some syntax.DistinguishedName
sole_syntax family.Ignore = None
sole_syntax family.Exact = None
sole_syntax family.Numeric = None
sole_syntax family.Boolean = Some syntax.Boolean
sole_syntax family.Integer = Some syntax.Integer
sole_syntax family.Octet = Some syntax.OctetString
sole_syntax family.Telephone = None
sole_syntax family.Time = Some syntax.GeneralizedTime
sole_syntax family.Ia5 = None
sole_syntax family.Ia5Exact = None

pub sole_used : (f : Family) (x y : Syntax) → is_used_on f x ≡ true → is_textual x ≡ false → is_used_on f y ≡ true →
    sole_syntax f ≡ Some y
sole_used family.Identifier x syntax.Boolean u t w = absurd (cc)
sole_used family.Identifier x syntax.DistinguishedName u t w = absurd (cc)
sole_used family.Identifier x syntax.DirectoryString u t w = absurd (cc)
sole_used family.Identifier x syntax.GeneralizedTime u t w = absurd (cc)
sole_used family.Identifier x syntax.Ia5String u t w = absurd (cc)
sole_used family.Identifier x syntax.Integer u t w = absurd (cc)
sole_used family.Identifier x syntax.NumericString u t w = absurd (cc)
sole_used family.Identifier x syntax.ObjectIdentifier u t w = refl
sole_used family.Identifier x syntax.OctetString u t w = absurd (cc)
sole_used family.Identifier x syntax.TelephoneNumber u t w = absurd (cc)
sole_used family.Name x syntax.Boolean u t w = absurd (cc)
sole_used family.Name x syntax.DistinguishedName u t w = refl
sole_used family.Name x syntax.DirectoryString u t w = absurd (cc)
sole_used family.Name x syntax.GeneralizedTime u t w = absurd (cc)
sole_used family.Name x syntax.Ia5String u t w = absurd (cc)
sole_used family.Name x syntax.Integer u t w = absurd (cc)
sole_used family.Name x syntax.NumericString u t w = absurd (cc)
sole_used family.Name x syntax.ObjectIdentifier u t w = absurd (cc)
sole_used family.Name x syntax.OctetString u t w = absurd (cc)
sole_used family.Name x syntax.TelephoneNumber u t w = absurd (cc)
sole_used family.Ignore x y u t w = absurd (cc)
sole_used family.Exact x y u t w = absurd (cc)
sole_used family.Numeric syntax.Boolean y u t w = absurd (cc)
sole_used family.Numeric syntax.DistinguishedName y u t w = absurd (cc)
sole_used family.Numeric syntax.DirectoryString y u t w = absurd (cc)
sole_used family.Numeric syntax.GeneralizedTime y u t w = absurd (cc)
sole_used family.Numeric syntax.Ia5String y u t w = absurd (cc)
sole_used family.Numeric syntax.Integer y u t w = absurd (cc)
sole_used family.Numeric syntax.NumericString y u t w = absurd (cc)
sole_used family.Numeric syntax.ObjectIdentifier y u t w = absurd (cc)
sole_used family.Numeric syntax.OctetString y u t w = absurd (cc)
sole_used family.Numeric syntax.TelephoneNumber y u t w = absurd (cc)
sole_used family.Boolean x syntax.Boolean u t w = refl
sole_used family.Boolean x syntax.DistinguishedName u t w = absurd (cc)
sole_used family.Boolean x syntax.DirectoryString u t w = absurd (cc)
sole_used family.Boolean x syntax.GeneralizedTime u t w = absurd (cc)
sole_used family.Boolean x syntax.Ia5String u t w = absurd (cc)
sole_used family.Boolean x syntax.Integer u t w = absurd (cc)
sole_used family.Boolean x syntax.NumericString u t w = absurd (cc)
sole_used family.Boolean x syntax.ObjectIdentifier u t w = absurd (cc)
sole_used family.Boolean x syntax.OctetString u t w = absurd (cc)
sole_used family.Boolean x syntax.TelephoneNumber u t w = absurd (cc)
sole_used family.Integer x syntax.Boolean u t w = absurd (cc)
sole_used family.Integer x syntax.DistinguishedName u t w = absurd (cc)
sole_used family.Integer x syntax.DirectoryString u t w = absurd (cc)
sole_used family.Integer x syntax.GeneralizedTime u t w = absurd (cc)
sole_used family.Integer x syntax.Ia5String u t w = absurd (cc)
sole_used family.Integer x syntax.Integer u t w = refl
sole_used family.Integer x syntax.NumericString u t w = absurd (cc)
sole_used family.Integer x syntax.ObjectIdentifier u t w = absurd (cc)
sole_used family.Integer x syntax.OctetString u t w = absurd (cc)
sole_used family.Integer x syntax.TelephoneNumber u t w = absurd (cc)
sole_used family.Octet x syntax.Boolean u t w = absurd (cc)
sole_used family.Octet x syntax.DistinguishedName u t w = absurd (cc)
sole_used family.Octet x syntax.DirectoryString u t w = absurd (cc)
sole_used family.Octet x syntax.GeneralizedTime u t w = absurd (cc)
sole_used family.Octet x syntax.Ia5String u t w = absurd (cc)
sole_used family.Octet x syntax.Integer u t w = absurd (cc)
sole_used family.Octet x syntax.NumericString u t w = absurd (cc)
sole_used family.Octet x syntax.ObjectIdentifier u t w = absurd (cc)
sole_used family.Octet x syntax.OctetString u t w = refl
sole_used family.Octet x syntax.TelephoneNumber u t w = absurd (cc)
sole_used family.Telephone syntax.Boolean y u t w = absurd (cc)
sole_used family.Telephone syntax.DistinguishedName y u t w = absurd (cc)
sole_used family.Telephone syntax.DirectoryString y u t w = absurd (cc)
sole_used family.Telephone syntax.GeneralizedTime y u t w = absurd (cc)
sole_used family.Telephone syntax.Ia5String y u t w = absurd (cc)
sole_used family.Telephone syntax.Integer y u t w = absurd (cc)
sole_used family.Telephone syntax.NumericString y u t w = absurd (cc)
sole_used family.Telephone syntax.ObjectIdentifier y u t w = absurd (cc)
sole_used family.Telephone syntax.OctetString y u t w = absurd (cc)
sole_used family.Telephone syntax.TelephoneNumber y u t w = absurd (cc)
sole_used family.Time x syntax.Boolean u t w = absurd (cc)
sole_used family.Time x syntax.DistinguishedName u t w = absurd (cc)
sole_used family.Time x syntax.DirectoryString u t w = absurd (cc)
sole_used family.Time x syntax.GeneralizedTime u t w = refl
sole_used family.Time x syntax.Ia5String u t w = absurd (cc)
sole_used family.Time x syntax.Integer u t w = absurd (cc)
sole_used family.Time x syntax.NumericString u t w = absurd (cc)
sole_used family.Time x syntax.ObjectIdentifier u t w = absurd (cc)
sole_used family.Time x syntax.OctetString u t w = absurd (cc)
sole_used family.Time x syntax.TelephoneNumber u t w = absurd (cc)
sole_used family.Ia5 syntax.Boolean y u t w = absurd (cc)
sole_used family.Ia5 syntax.DistinguishedName y u t w = absurd (cc)
sole_used family.Ia5 syntax.DirectoryString y u t w = absurd (cc)
sole_used family.Ia5 syntax.GeneralizedTime y u t w = absurd (cc)
sole_used family.Ia5 syntax.Ia5String y u t w = absurd (cc)
sole_used family.Ia5 syntax.Integer y u t w = absurd (cc)
sole_used family.Ia5 syntax.NumericString y u t w = absurd (cc)
sole_used family.Ia5 syntax.ObjectIdentifier y u t w = absurd (cc)
sole_used family.Ia5 syntax.OctetString y u t w = absurd (cc)
sole_used family.Ia5 syntax.TelephoneNumber y u t w = absurd (cc)
sole_used family.Ia5Exact syntax.Boolean y u t w = absurd (cc)
sole_used family.Ia5Exact syntax.DistinguishedName y u t w = absurd (cc)
sole_used family.Ia5Exact syntax.DirectoryString y u t w = absurd (cc)
sole_used family.Ia5Exact syntax.GeneralizedTime y u t w = absurd (cc)
sole_used family.Ia5Exact syntax.Ia5String y u t w = absurd (cc)
sole_used family.Ia5Exact syntax.Integer y u t w = absurd (cc)
sole_used family.Ia5Exact syntax.NumericString y u t w = absurd (cc)
sole_used family.Ia5Exact syntax.ObjectIdentifier y u t w = absurd (cc)
sole_used family.Ia5Exact syntax.OctetString y u t w = absurd (cc)
sole_used family.Ia5Exact syntax.TelephoneNumber y u t w = absurd (cc)

some_is : {A : Type 0} (x y : A) (o : Option A) → o ≡ Some x → o ≡ Some y → x ≡ y
some_is x y o a b = cc

rule_of_both : (r : Rule) (f : Family) (x : Syntax) → r.family ≡ f → r.syntax ≡ x →
    r ≡ record { family = f; syntax = x }
rule_of_both r f x a b = ap₂ (λ (h : Family) (z : Syntax). let q : Rule = record { family = h; syntax = z } in q) a b

-- an EQUALITY rule of a family on a syntax whose values are no text is that of the two
rule_is : (q : Rule) (f : Family) (x : Syntax) → is_used_on f x ≡ true → is_textual x ≡ false →
    is_rule_of (Some q) f x ≡ true → q ≡ record { family = f; syntax = x }
rule_is q f x u t h =
    let on_x : is_used_on q.family x ≡ true = and_left (is_used_on q.family x) (is_used_on f q.syntax) h in
    let on_y : is_used_on f q.syntax ≡ true = and_right (is_used_on q.family x) (is_used_on f q.syntax) h in
    rule_of_both q f x
    (some_is q.family f (sole_family x) (sole q.family x on_x t) (sole f x u t))
    (some_is q.syntax x (sole_syntax f) (sole_used f x q.syntax u t on_y) (sole_used f x x u t u))

-- where an item goes by keys, its rule is the type's own; else the rule is one of text; and it orders, where an order
-- is asked for
pub record RuleFits (s : SchemaModel) (h : How) (t : ℕ) (r : Rule) : Type 0 where
  pub kept : goes_by_key s h t ≡ true → equality_of s t ≡ Some r
  pub used : goes_by_key s h t ≡ false → is_used_on r.family r.syntax ≡ true
  pub text : goes_by_key s h t ≡ false → is_textual r.syntax ≡ true
  pub orders : asks_less h ≡ true → is_ordering r.family ≡ true

-- the same of a type that is known
record Fits (d : TypeModel) (f : Family) (r : Rule) : Type 0 where
  is : r ≡ record { family = f; syntax = d.syntax }
  used : is_used_on f d.syntax ≡ true
  kept : is_textual d.syntax ≡ false → d.equality ≡ Some r

kept_is : (o : Option Rule) (r : Rule) (f : Family) (x : Syntax) → r ≡ record { family = f; syntax = x } →
    is_used_on f x ≡ true → is_textual x ≡ false → is_rule_of o f x ≡ true → o ≡ Some r
kept_is None r f x e u t h = absurd (cc)
kept_is (Some q) r f x e u t h = ap Some (rule_is q f x u t h ∙ sym e)

or_else : (a b : Bool) → (a || b) ≡ true → a ≡ false → b ≡ true
or_else true b h e = absurd (cc)
or_else false b h e = h

fits_by : (d : TypeModel) (f : Family) (r : Rule) (b : Bool) →
    (is_used_on f d.syntax && is_own_or_text d.syntax d.equality f) ≡ b →
    cond b (Some (record { family = f; syntax = d.syntax })) None ≡ Some r → Fits d f r
fits_by d f r false h e = absurd (cc)
fits_by d f r true h e =
    let q : Rule = record { family = f; syntax = d.syntax } in
    let same : r ≡ q = sym (some_is q r (Some q) refl e) in
    let u : is_used_on f d.syntax ≡ true = and_left (is_used_on f d.syntax) (is_own_or_text d.syntax d.equality f) h in
    record {
      is = same;
      used = u;
      kept = λ t. kept_is d.equality r f d.syntax same u t (or_else (is_textual d.syntax)
          (is_rule_of d.equality f d.syntax) (and_right (is_used_on f d.syntax) (is_own_or_text d.syntax d.equality f)
          h) t);
    }

not_true : (b : Bool) → not b ≡ true → b ≡ false
not_true true h = absurd (cc)
not_true false h = refl

not_false : (b : Bool) → not b ≡ false → b ≡ true
not_false true h = refl
not_false false h = absurd (cc)

named_fits : (s : SchemaModel) (q : NamedRule) (t : ℕ) (r : Rule) (o : Option TypeModel) → slice_get s.types t ≡ o →
    supported_in o q.family ≡ Some r → RuleFits s (how.Named q) t r
named_fits s q t r None e h = absurd (cc)
named_fits s q t r (Some d) e h =
    let f : Fits d q.family r = fits_by d q.family r (is_used_on q.family d.syntax && is_own_or_text d.syntax
    d.equality q.family) refl h in
    let text_is : is_text_type s t ≡ is_textual d.syntax = ap (λ (o : Option TypeModel). option_map_or
    (λ (x : TypeModel). is_textual x.syntax) o false) e in
    record {
      kept = λ g. ap equality_in e ∙ f.kept (sym text_is ∙ not_true (is_text_type s t) g);
      used = λ g. ap₂ is_used_on (ap (λ (x : Rule). x.family) f.is) (ap (λ (x : Rule). x.syntax) f.is) ∙ f.used;
      text = λ g. ap (λ (x : Rule). is_textual x.syntax) f.is ∙ sym text_is ∙ not_false (is_text_type s t) g;
      orders = λ l. ap (λ (x : Rule). is_ordering x.family) f.is ∙ and_right q.less (is_ordering q.family) l;
    }

pub rule_fits : (s : SchemaModel) (h : How) (t : ℕ) (r : Rule) → rule_for s h t ≡ Some r → RuleFits s h t r
rule_fits s how.Own t r e = record {
  kept = λ g. e;
  used = λ g. absurd (cc);
  text = λ g. absurd (cc);
  orders = λ l.
      absurd (cc);
}
rule_fits s (how.Named q) t r e = named_fits s q t r (slice_get s.types t) refl e

-- a rule of text minds no schema
pub text_key_is : (s : SchemaModel) (f : Family) (x : Syntax) (v : List ℕ) → is_used_on f x ≡ true → is_textual x ≡
    true → key_at s (record { family = f; syntax = x }) v ≡ syntax_keys.key_at (record { family = f; syntax = x }) v
text_key_is s family.Identifier syntax.Boolean v u t = absurd (cc)
text_key_is s family.Identifier syntax.DistinguishedName v u t = absurd (cc)
text_key_is s family.Identifier syntax.DirectoryString v u t = absurd (cc)
text_key_is s family.Identifier syntax.GeneralizedTime v u t = absurd (cc)
text_key_is s family.Identifier syntax.Ia5String v u t = absurd (cc)
text_key_is s family.Identifier syntax.Integer v u t = absurd (cc)
text_key_is s family.Identifier syntax.NumericString v u t = absurd (cc)
text_key_is s family.Identifier syntax.ObjectIdentifier v u t = absurd (cc)
text_key_is s family.Identifier syntax.OctetString v u t = absurd (cc)
text_key_is s family.Identifier syntax.TelephoneNumber v u t = absurd (cc)
text_key_is s family.Name syntax.Boolean v u t = absurd (cc)
text_key_is s family.Name syntax.DistinguishedName v u t = absurd (cc)
text_key_is s family.Name syntax.DirectoryString v u t = absurd (cc)
text_key_is s family.Name syntax.GeneralizedTime v u t = absurd (cc)
text_key_is s family.Name syntax.Ia5String v u t = absurd (cc)
text_key_is s family.Name syntax.Integer v u t = absurd (cc)
text_key_is s family.Name syntax.NumericString v u t = absurd (cc)
text_key_is s family.Name syntax.ObjectIdentifier v u t = absurd (cc)
text_key_is s family.Name syntax.OctetString v u t = absurd (cc)
text_key_is s family.Name syntax.TelephoneNumber v u t = absurd (cc)
text_key_is s family.Ignore x v u t = refl
text_key_is s family.Exact x v u t = refl
text_key_is s family.Numeric x v u t = refl
text_key_is s family.Boolean x v u t = refl
text_key_is s family.Integer x v u t = refl
text_key_is s family.Octet x v u t = refl
text_key_is s family.Telephone x v u t = refl
text_key_is s family.Time x v u t = refl
text_key_is s family.Ia5 x v u t = refl
text_key_is s family.Ia5Exact x v u t = refl
