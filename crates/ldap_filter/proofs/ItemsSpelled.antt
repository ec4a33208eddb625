-- What is written for an item is in the grammar.
use Rattle.std.proofs.Common.{◌≡◌, ℕ, ◌<◌, ◌%◌, Option, Some, None, List, [], ◌∷◌, ◌++◌, refl, sym, subst, ◌∙◌, append_assoc, arith}
use Rattle.std.proofs.lemmas.List.{append-nil}
use Rattle.ldap_ber.specs.Element.{element_bytes}
use Rattle.ldap_ber.specs.Fields.{HasField, HasTextOrNone, HasOctetsOrNone, HasFlagOrFalse, BeginsOtherwise}
use Rattle.ldap_ber.specs.Rows.{row_bytes}
use Rattle.ldap_ber.specs.Written.{optional_bytes, flag_or_false_bytes}
use Rattle.ldap_ber.proofs.Spelled.{IsShort, field, inner, left, right, text, optional_otherwise, text_or_none, octets_or_none, flag_or_false}
use Rattle.ldap_filter.specs.Item.{Comparison, equal, at_least, at_most, approximate, SubstringsValue, ExtensibleValue, Item, comparison, substrings, presence, extensible}
use Rattle.ldap_filter.specs.ItemGrammar.{comparison_octet, item_octet, AreAnyParts, AreParts, IsSubstrings, IsExtensible, IsItem, parts_content, substrings_content, extensible_content, item_content, HasSomePart, IsSpellable}

comparison_low : (k : Comparison) → comparison_octet k % 32 < 31
comparison_low equal = omega arith
comparison_low at_least = omega arith
comparison_low at_most = omega arith
comparison_low approximate = omega arith

pub item_low : (i : Item) → item_octet i % 32 < 31
item_low (comparison k d a) = comparison_low k
item_low (substrings s) = omega arith
item_low (presence d) = omega arith
item_low (extensible e) = omega arith

last_field : (first : ℕ) (v : List ℕ) → first % 32 < 31 → IsShort (element_bytes first v) →
    HasField (element_bytes first v) first v []
last_field first v low small = subst (λ (o : List ℕ). HasField o first v []) (append-nil (element_bytes first v))
    (field first v [] low (inner first v small))

any_parts : (vs : List (List ℕ)) (rest : List ℕ) → IsShort (row_bytes (element_bytes 129) vs) →
    BeginsOtherwise rest 129 → AreAnyParts vs (row_bytes (element_bytes 129) vs ++ rest) rest
any_parts [] rest small otherwise = (refl, otherwise)
any_parts (v ∷ vs) rest small otherwise =
    let a = element_bytes 129 v in
    let b = row_bytes (element_bytes 129) vs in
    record {
      rest = b ++ rest;
      first = subst (λ (o : List ℕ). HasField o 129 v (b ++ rest)) (sym (append_assoc a b rest))
          (field 129 v (b ++ rest) (omega arith) (inner 129 v (left a b small)));
      next = any_parts vs rest (right a b small) otherwise;
    }

rows_otherwise : (other : ℕ) (vs : List (List ℕ)) (rest : List ℕ) → (129 ≡ other → ⊥) → BeginsOtherwise rest other →
    BeginsOtherwise (row_bytes (element_bytes 129) vs ++ rest) other
rows_otherwise other [] rest ne h = h
rows_otherwise other (v ∷ vs) rest ne h = ne

no_octets : (i : Option (List ℕ)) (vs : List (List ℕ)) (l : Option (List ℕ)) → HasSomePart i vs l →
    optional_bytes 128 i ++ row_bytes (element_bytes 129) vs ++ optional_bytes 130 l ≡ [] → ⊥
no_octets None [] None h e = absurd h
no_octets None [] (Some v) h e = absurd (cc)
no_octets None (v ∷ vs) l h e = absurd (cc)
no_octets (Some v) vs l h e = absurd (cc)

parts_written : (s : SubstringsValue) → HasSomePart s.initial s.any s.last → IsShort (parts_content s) →
    AreParts s (parts_content s)
parts_written s some small =
    let a = optional_bytes 128 s.initial in
    let b = row_bytes (element_bytes 129) s.any in
    let d = optional_bytes 130 s.last in
    let ends : d ++ [] ≡ d = append-nil d in
    let last : HasOctetsOrNone d 130 s.last [] = subst (λ (o : List ℕ). HasOctetsOrNone o 130 s.last []) ends
    (octets_or_none 130 s.last [] (omega arith) (right (a ++ b) d small) tt) in
    let d_otherwise : BeginsOtherwise d 129 = subst (λ (o : List ℕ). BeginsOtherwise o 129) ends
    (optional_otherwise 130 129 s.last [] (λ e. omega (arith, e)) tt) in
    let d_otherwise₂ : BeginsOtherwise d 128 = subst (λ (o : List ℕ). BeginsOtherwise o 128) ends
    (optional_otherwise 130 128 s.last [] (λ e. omega (arith, e)) tt) in (
      no_octets s.initial s.any s.last some,
      record {
        rest = b ++ d;
        first = subst (λ (o : List ℕ). HasOctetsOrNone o 128 s.initial (b ++ d)) (sym (append_assoc a b d))
            (octets_or_none 128 s.initial (b ++ d) (omega arith) (left a b (left (a ++ b) d small))
            (rows_otherwise 128 s.any d (λ e. omega (arith, e)) d_otherwise₂));
        next = record {
          rest = d;
          first = any_parts s.any d (right a b (left (a ++ b) d small)) d_otherwise;
          next =
              last;
        };
      },
    )

substrings_written : (s : SubstringsValue) → IsSpellable (substrings s) → IsShort (substrings_content s) →
    IsSubstrings s (substrings_content s)
substrings_written s h small =
    let a = element_bytes 4 s.description in
    let b = element_bytes 48 (parts_content s) in
    let short = inner 48 (parts_content s) (right a b small) in
    record {
      rest = b;
      first = text s.description b h.0 (inner 4 s.description (left a b small));
      next = record {
        content = parts_content s;
        field = last_field 48 (parts_content s) (omega arith)
            (right a b small);
        inside = parts_written s h.1 short;
      };
    }

extensible_written : (e : ExtensibleValue) → IsSpellable (extensible e) → IsShort (extensible_content e) →
    IsExtensible e (extensible_content e)
extensible_written e h small =
    let a = optional_bytes 129 e.matching_rule in
    let b = optional_bytes 130 e.description in
    let d = element_bytes 131 e.match_value in
    let f = flag_or_false_bytes 132 e.dn_attributes in
    let ab = left (a ++ b) d (left (a ++ b ++ d) f small) in
    let ends : f ++ [] ≡ f = append-nil f in
    let flag : HasFlagOrFalse f 132 e.dn_attributes [] = subst (λ (o : List ℕ). HasFlagOrFalse o 132 e.dn_attributes
    []) ends (flag_or_false 132 e.dn_attributes [] (omega arith) tt) in
    record {
      rest = b ++ (d ++ f);
      first = subst (λ (o : List ℕ). HasTextOrNone o 129 e.matching_rule (b ++ (d ++ f)))
          (sym (append_assoc (a ++ b) d f ∙ append_assoc a b (d ++ f)))
          (text_or_none 129 e.matching_rule (b ++ (d ++ f)) (omega arith) h.0 (left a b ab)
          (optional_otherwise 130 129 e.description (d ++ f) (λ x. omega (arith, x)) (λ x. omega (arith, x))));
      next = record {
        rest = d ++ f;
        first = text_or_none 130 e.description (d ++ f) (omega arith) h.1 (right a b ab) (λ x. omega (arith, x));
        next = record {
          rest = f;
          first = field 131 e.match_value f (omega arith)
              (inner 131 e.match_value (right (a ++ b) d (left (a ++ b ++ d) f small)));
          next = flag;
        };
      };
    }

pub item_written : (i : Item) → IsSpellable i → IsShort (item_content i) → IsItem i (item_content i)
item_written (comparison k d a) h small =
    let x = element_bytes 4 d in
    let y = element_bytes 4 a in
    record {
      rest = y;
      first = text d y h (inner 4 d (left x y small));
      next = last_field 4 a (omega arith)
          (right x y small);
    }
item_written (substrings s) h small = substrings_written s h small
item_written (presence d) h small = (refl, h)
item_written (extensible e) h small = extensible_written e h small
