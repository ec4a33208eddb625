-- What is kept of a value's texts tells what its key tells.
use Rattle.std.proofs.Common.{ℕ, List, Bool, true, false, cond, not, ◌&&◌, ◌||◌, Option, None, Some, is_some, ◌≡◌, refl, ap, sym, ◌∙◌}
use Rattle.std.proofs.lemmas.Slice.Eq.{bytes_eq-Decides}
use Rattle.ldap_words.specs.Families.{is_used_on, is_textual}
use Rattle.ldap_syntax.specs.Keys.{key_at, key_in, KeysArePresentAsMeanings}
use Rattle.ldap_syntax.specs.Meaning.{meaning}
use Rattle.ldap_syntax.specs.Syntaxes.{is_in_syntax}
use Rattle.ldap_words.specs.declared.rule.Rule.{Rule}
use Rattle.ldap_words.specs.declared.rule.Family.{Family}
use Rattle.ldap_words.specs.declared.rule.Family.TheVariants as family
use Rattle.ldap_words.specs.declared.rule.Syntax.{Syntax}
use Rattle.ldap_words.specs.declared.rule.Syntax.TheVariants as syntax
use Rattle.ldap_syntax.specs.Forms.{plain_text, texts_of, text_in, is_that, is_plain_in, are_plain, is_met, is_met_by, form_meets, is_text_met}

-- the parts of four
and_left : (a b : Bool) → (a && b) ≡ true → a ≡ true
and_left true b h = refl
and_left false b h = absurd (cc)

and_right : (a b : Bool) → (a && b) ≡ true → b ≡ true
and_right true b h = h
and_right false b h = absurd (cc)

first : (a b c d : Bool) → ((a && b) && (c && d)) ≡ true → a ≡ true
first a b c d h = and_left a b (and_left (a && b) (c && d) h)

second : (a b c d : Bool) → ((a && b) && (c && d)) ≡ true → b ≡ true
second a b c d h = and_right a b (and_left (a && b) (c && d) h)

third : (a b c d : Bool) → ((a && b) && (c && d)) ≡ true → c ≡ true
third a b c d h = and_left c d (and_right (a && b) (c && d) h)

fourth : (a b c d : Bool) → ((a && b) && (c && d)) ≡ true → d ≡ true
fourth a b c d h = and_right c d (and_right (a && b) (c && d) h)

plain_exact : (v : List ℕ) → are_plain (texts_of v) v ≡ true → is_plain_in family.Exact syntax.OctetString
    (texts_of v) v ≡ true
plain_exact v h = first (is_plain_in family.Exact syntax.OctetString (texts_of v) v)
    (is_plain_in family.Ignore syntax.OctetString (texts_of v) v) (is_plain_in family.Numeric syntax.NumericString
    (texts_of v) v) (is_plain_in family.Telephone syntax.TelephoneNumber (texts_of v) v) h

plain_ignore : (v : List ℕ) → are_plain (texts_of v) v ≡ true → is_plain_in family.Ignore syntax.OctetString
    (texts_of v) v ≡ true
plain_ignore v h = second (is_plain_in family.Exact syntax.OctetString (texts_of v) v)
    (is_plain_in family.Ignore syntax.OctetString (texts_of v) v) (is_plain_in family.Numeric syntax.NumericString
    (texts_of v) v) (is_plain_in family.Telephone syntax.TelephoneNumber (texts_of v) v) h

plain_numeric : (v : List ℕ) → are_plain (texts_of v) v ≡ true → is_plain_in family.Numeric syntax.NumericString
    (texts_of v) v ≡ true
plain_numeric v h = third (is_plain_in family.Exact syntax.OctetString (texts_of v) v)
    (is_plain_in family.Ignore syntax.OctetString (texts_of v) v) (is_plain_in family.Numeric syntax.NumericString
    (texts_of v) v) (is_plain_in family.Telephone syntax.TelephoneNumber (texts_of v) v) h

plain_telephone : (v : List ℕ) → are_plain (texts_of v) v ≡ true → is_plain_in family.Telephone syntax.TelephoneNumber
    (texts_of v) v ≡ true
plain_telephone v h = fourth (is_plain_in family.Exact syntax.OctetString (texts_of v) v)
    (is_plain_in family.Ignore syntax.OctetString (texts_of v) v) (is_plain_in family.Numeric syntax.NumericString
    (texts_of v) v) (is_plain_in family.Telephone syntax.TelephoneNumber (texts_of v) v) h

-- a family's text of a value, whatever the syntax, or of one that is in the syntax
data Texted (f : Family) (x : Syntax) (v : List ℕ) : Type 0 where
  anywhere : text_in (texts_of v) f ≡ key_in f v → (are_plain (texts_of v) v ≡ true →
      is_that (plain_text f v) (text_in (texts_of v) f) ≡ true) → Texted f x v
  inside : text_in (texts_of v) f ≡ cond (is_in_syntax x v) (key_in f v) None → (are_plain (texts_of v) v ≡ true →
      (not (is_in_syntax x v) || is_that (plain_text f v) (text_in (texts_of v) f)) ≡ true) → Texted f x v

texted : (f : Family) (x : Syntax) (v : List ℕ) → is_used_on f x ≡ true → is_textual x ≡ true → Texted f x v
texted family.Identifier syntax.Boolean v u t = absurd (cc)
texted family.Identifier syntax.DistinguishedName v u t = absurd (cc)
texted family.Identifier syntax.DirectoryString v u t = absurd (cc)
texted family.Identifier syntax.GeneralizedTime v u t = absurd (cc)
texted family.Identifier syntax.Ia5String v u t = absurd (cc)
texted family.Identifier syntax.Integer v u t = absurd (cc)
texted family.Identifier syntax.NumericString v u t = absurd (cc)
texted family.Identifier syntax.ObjectIdentifier v u t = absurd (cc)
texted family.Identifier syntax.OctetString v u t = absurd (cc)
texted family.Identifier syntax.TelephoneNumber v u t = absurd (cc)
texted family.Name syntax.Boolean v u t = absurd (cc)
texted family.Name syntax.DistinguishedName v u t = absurd (cc)
texted family.Name syntax.DirectoryString v u t = absurd (cc)
texted family.Name syntax.GeneralizedTime v u t = absurd (cc)
texted family.Name syntax.Ia5String v u t = absurd (cc)
texted family.Name syntax.Integer v u t = absurd (cc)
texted family.Name syntax.NumericString v u t = absurd (cc)
texted family.Name syntax.ObjectIdentifier v u t = absurd (cc)
texted family.Name syntax.OctetString v u t = absurd (cc)
texted family.Name syntax.TelephoneNumber v u t = absurd (cc)
texted family.Ignore x v u t = anywhere refl (plain_ignore v)
texted family.Exact x v u t = anywhere refl (plain_exact v)
texted family.Numeric syntax.Boolean v u t = absurd (cc)
texted family.Numeric syntax.DistinguishedName v u t = absurd (cc)
texted family.Numeric syntax.DirectoryString v u t = absurd (cc)
texted family.Numeric syntax.GeneralizedTime v u t = absurd (cc)
texted family.Numeric syntax.Ia5String v u t = absurd (cc)
texted family.Numeric syntax.Integer v u t = absurd (cc)
texted family.Numeric syntax.NumericString v u t = inside refl (plain_numeric v)
texted family.Numeric syntax.ObjectIdentifier v u t = absurd (cc)
texted family.Numeric syntax.OctetString v u t = absurd (cc)
texted family.Numeric syntax.TelephoneNumber v u t = absurd (cc)
texted family.Boolean syntax.Boolean v u t = absurd (cc)
texted family.Boolean syntax.DistinguishedName v u t = absurd (cc)
texted family.Boolean syntax.DirectoryString v u t = absurd (cc)
texted family.Boolean syntax.GeneralizedTime v u t = absurd (cc)
texted family.Boolean syntax.Ia5String v u t = absurd (cc)
texted family.Boolean syntax.Integer v u t = absurd (cc)
texted family.Boolean syntax.NumericString v u t = absurd (cc)
texted family.Boolean syntax.ObjectIdentifier v u t = absurd (cc)
texted family.Boolean syntax.OctetString v u t = absurd (cc)
texted family.Boolean syntax.TelephoneNumber v u t = absurd (cc)
texted family.Integer syntax.Boolean v u t = absurd (cc)
texted family.Integer syntax.DistinguishedName v u t = absurd (cc)
texted family.Integer syntax.DirectoryString v u t = absurd (cc)
texted family.Integer syntax.GeneralizedTime v u t = absurd (cc)
texted family.Integer syntax.Ia5String v u t = absurd (cc)
texted family.Integer syntax.Integer v u t = absurd (cc)
texted family.Integer syntax.NumericString v u t = absurd (cc)
texted family.Integer syntax.ObjectIdentifier v u t = absurd (cc)
texted family.Integer syntax.OctetString v u t = absurd (cc)
texted family.Integer syntax.TelephoneNumber v u t = absurd (cc)
texted family.Octet syntax.Boolean v u t = absurd (cc)
texted family.Octet syntax.DistinguishedName v u t = absurd (cc)
texted family.Octet syntax.DirectoryString v u t = absurd (cc)
texted family.Octet syntax.GeneralizedTime v u t = absurd (cc)
texted family.Octet syntax.Ia5String v u t = absurd (cc)
texted family.Octet syntax.Integer v u t = absurd (cc)
texted family.Octet syntax.NumericString v u t = absurd (cc)
texted family.Octet syntax.ObjectIdentifier v u t = absurd (cc)
texted family.Octet syntax.OctetString v u t = absurd (cc)
texted family.Octet syntax.TelephoneNumber v u t = absurd (cc)
texted family.Telephone syntax.Boolean v u t = absurd (cc)
texted family.Telephone syntax.DistinguishedName v u t = absurd (cc)
texted family.Telephone syntax.DirectoryString v u t = absurd (cc)
texted family.Telephone syntax.GeneralizedTime v u t = absurd (cc)
texted family.Telephone syntax.Ia5String v u t = absurd (cc)
texted family.Telephone syntax.Integer v u t = absurd (cc)
texted family.Telephone syntax.NumericString v u t = absurd (cc)
texted family.Telephone syntax.ObjectIdentifier v u t = absurd (cc)
texted family.Telephone syntax.OctetString v u t = absurd (cc)
texted family.Telephone syntax.TelephoneNumber v u t = inside refl (plain_telephone v)
texted family.Time syntax.Boolean v u t = absurd (cc)
texted family.Time syntax.DistinguishedName v u t = absurd (cc)
texted family.Time syntax.DirectoryString v u t = absurd (cc)
texted family.Time syntax.GeneralizedTime v u t = absurd (cc)
texted family.Time syntax.Ia5String v u t = absurd (cc)
texted family.Time syntax.Integer v u t = absurd (cc)
texted family.Time syntax.NumericString v u t = absurd (cc)
texted family.Time syntax.ObjectIdentifier v u t = absurd (cc)
texted family.Time syntax.OctetString v u t = absurd (cc)
texted family.Time syntax.TelephoneNumber v u t = absurd (cc)
texted family.Ia5 syntax.Boolean v u t = absurd (cc)
texted family.Ia5 syntax.DistinguishedName v u t = absurd (cc)
texted family.Ia5 syntax.DirectoryString v u t = absurd (cc)
texted family.Ia5 syntax.GeneralizedTime v u t = absurd (cc)
texted family.Ia5 syntax.Ia5String v u t = anywhere refl (plain_ignore v)
texted family.Ia5 syntax.Integer v u t = absurd (cc)
texted family.Ia5 syntax.NumericString v u t = absurd (cc)
texted family.Ia5 syntax.ObjectIdentifier v u t = absurd (cc)
texted family.Ia5 syntax.OctetString v u t = absurd (cc)
texted family.Ia5 syntax.TelephoneNumber v u t = absurd (cc)
texted family.Ia5Exact syntax.Boolean v u t = absurd (cc)
texted family.Ia5Exact syntax.DistinguishedName v u t = absurd (cc)
texted family.Ia5Exact syntax.DirectoryString v u t = absurd (cc)
texted family.Ia5Exact syntax.GeneralizedTime v u t = absurd (cc)
texted family.Ia5Exact syntax.Ia5String v u t = anywhere refl (plain_exact v)
texted family.Ia5Exact syntax.Integer v u t = absurd (cc)
texted family.Ia5Exact syntax.NumericString v u t = absurd (cc)
texted family.Ia5Exact syntax.ObjectIdentifier v u t = absurd (cc)
texted family.Ia5Exact syntax.OctetString v u t = absurd (cc)
texted family.Ia5Exact syntax.TelephoneNumber v u t = absurd (cc)

-- what is kept
by_in : (less : Bool) (k : List ℕ) (b : Bool) (x t : Option (List ℕ)) → t ≡ x → (b && is_met_by less k t) ≡
    is_met_by less k (cond b x None)
by_in less k true x t e = ap (is_met_by less k) e
by_in less k false x t e = refl

by_in_twice : (less : Bool) (k : List ℕ) (b : Bool) (x t : Option (List ℕ)) → t ≡ cond b x None →
    (b && is_met_by less k t) ≡ is_met_by less k (cond b x None)
by_in_twice less k true x t e = ap (is_met_by less k) e
by_in_twice less k false x t e = refl

-- what is plain
that_is : (w : List ℕ) (o : Option (List ℕ)) → is_that w o ≡ true → o ≡ Some w
that_is w None h = absurd (cc)
that_is w (Some x) h = ap Some (sym ((bytes_eq-Decides w x).0 h))

plain_in : (less : Bool) (k w : List ℕ) (b : Bool) (x t : Option (List ℕ)) → t ≡ x → is_that w t ≡ true →
    (b && is_met less k w) ≡ is_met_by less k (cond b x None)
plain_in less k w true x t e h = sym (ap (is_met_by less k) (sym e ∙ that_is w t h))
plain_in less k w false x t e h = refl

plain_in_twice : (less : Bool) (k w : List ℕ) (b : Bool) (x t : Option (List ℕ)) → t ≡ cond b x None →
    (not b || is_that w t) ≡ true → (b && is_met less k w) ≡ is_met_by less k (cond b x None)
plain_in_twice less k w true x t e h = sym (ap (is_met_by less k) (sym e ∙ that_is w t h))
plain_in_twice less k w false x t e h = refl

module _ (f : Family) (x : Syntax) (less : Bool) (k v : List ℕ) where
  abbrev Tells : Bool → Type 0
  Tells b = (is_in_syntax x v && form_meets f less k (cond b None (Some (texts_of v))) v) ≡ is_met_by less k
      (cond (is_in_syntax x v) (key_in f v) None)

  kept : Texted f x v → Tells false
  kept (anywhere e h) = by_in less k (is_in_syntax x v) (key_in f v) (text_in (texts_of v) f) e
  kept (inside e h) = by_in_twice less k (is_in_syntax x v) (key_in f v) (text_in (texts_of v) f) e

  plain : Texted f x v → are_plain (texts_of v) v ≡ true → Tells true
  plain (anywhere e h) p = plain_in less k (plain_text f v) (is_in_syntax x v) (key_in f v) (text_in (texts_of v) f) e
      (h p)
  plain (inside e h) p = plain_in_twice less k (plain_text f v) (is_in_syntax x v) (key_in f v)
      (text_in (texts_of v) f) e (h p)

  by : (b : Bool) → are_plain (texts_of v) v ≡ b → Texted f x v → Tells b
  by true p t = plain t p
  by false p t = kept t

  pub told : is_used_on f x ≡ true → is_textual x ≡ true → is_text_met (record { family = f; syntax = x }) less k v ≡
      is_met_by less k (key_at (record { family = f; syntax = x }) v)
  told u t = by (are_plain (texts_of v) v) refl (texted f x v u t)

none_is : (o : Option (List ℕ)) → is_some o ≡ false → None ≡ o
none_is None h = refl
none_is (Some x) h = absurd (cc)

-- what means nothing has no key
pub no_key : (r : Rule) (v : List ℕ) → KeysArePresentAsMeanings → meaning r v ≡ None → None ≡ key_at r v
no_key r v present h = none_is (key_at r v) (present r v ∙ ap is_some h)
