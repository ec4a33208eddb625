-- A name that was read is of the schema's types, and is read again as it is printed.
use Rattle.std.proofs.Common.{ℕ, ◌+◌, ◌<◌, zero, suc, List, [], ◌∷◌, Bool, true, false, cond, not, ◌||◌, Option, None, Some, ◌≡◌, refl, sym, ap, ◌∙◌, subst, map, length, take, drop, arith}
use Rattle.std.proofs.lemmas.Bool.{eqb-true}
use Rattle.std.specs.List.{AllByRecursion, list_all, position_from, position}
use Rattle.std.specs.Str.{is_utf8}
use Rattle.ldap_match.specs.ldap_schema.Schema.{SchemaModel, TypeModel, find, is_called}
use Rattle.ldap_dn.specs.Names.{TypeAndValue, RdnModel}
use Rattle.ldap_dn.specs.Tokens.{octet_of, is_plain, is_unescaped, trimmed}
use Rattle.ldap_dn.specs.Parted.{IsParted, is_last, has_more}
use Rattle.ldap_dn.specs.Printed.{type_name}
use Rattle.ldap_dn.specs.Texts.{is_value_octet, begins_with_hash, type_of, value_of, text_of, paired, type_and_value_at}
use Rattle.ldap_dn.specs.NameTexts.{AreWritten, no_part, a_part, IsRdn, AreRdns, no_rdn, an_rdn, IsNameText, is_empty, has_rdns}
use Rattle.schema_laws.specs.PrintedRead.{is_name_octet, IsReadable, IsRdnOf, ReadNamesAreReadAgain}
use Rattle.schema_laws.proofs.TypeNames.{is_type_found, goes_by_its_name, go_by_their_names, TypesGoByTheirNames}
use Rattle.ldap_dn.specs.declared.token.Token.{Token}
use Rattle.ldap_dn.proofs.Spelled.{none_some}
use Rattle.ldap_dn.proofs.NameTexts.{names_of_texts}
use Rattle.schema_laws.proofs.Joined.{all_of, left_true, right_true}
use Rattle.schema_laws.proofs.FirstFound.{types_of_text}
use Rattle.schema_laws.proofs.PrintedAgain.{printed_read, each_reverse}

-- ---- types

low_by : {K : Type 0} (p : K → Bool) (b : Bool) (k : ℕ) (x : K) (xs : List K) (i : ℕ) →
    cond b (Some k) (position_from p (k + 1) xs) ≡ Some i → (position_from p (k + 1) xs ≡ Some i →
    i < (k + 1) + length xs) → i < k + length (x ∷ xs)
low_by p true k x xs i e f = let s : k ≡ i = cc in omega (arith, s)
low_by p false k x xs i e f = omega (arith, f e)

pub found_low : {K : Type 0} (p : K → Bool) (k : ℕ) (xs : List K) (i : ℕ) → position_from p k xs ≡ Some i →
    i < k + length xs
found_low p k [] i h = absurd (none_some h)
found_low p k (x ∷ xs) i h = low_by p (p x) k x xs i h (λ e. found_low p (k + 1) xs i e)

goes_at : (s : SchemaModel) (xs : List TypeModel) (t : ℕ) → go_by_their_names s xs t ≡ true → (i : ℕ) →
    i < length xs → goes_by_its_name s (t + i) ≡ true
goes_at s [] t h i lt = absurd (omega (arith, lt))
goes_at s (x ∷ xs) t h zero lt = let e : t + 0 ≡ t = omega arith in ap (goes_by_its_name s) e
    ∙ left_true (goes_by_its_name s t) (go_by_their_names s xs (t + 1)) h
goes_at s (x ∷ xs) t h (suc i) lt =
    let e : t + suc i ≡ (t + 1) + i = omega arith in
    ap (goes_by_its_name s) e ∙ goes_at s xs (t + 1) (right_true (goes_by_its_name s t)
    (go_by_their_names s xs (t + 1)) h) i (omega (arith, lt))

type_found : (o : Option ℕ) (t : ℕ) → is_type_found t o ≡ true → o ≡ Some t
type_found None t h = cc
type_found (Some u) t h = ap Some (eqb-true u t h)

-- ---- a type and a value

type_in : (s : SchemaModel) (b : Bool) (octets : List ℕ) (k : ℕ) → cond b (find s octets) None ≡ Some k →
    k < length s.types
type_in s true octets k h = omega (arith, found_low (λ (t : TypeModel). is_called octets t.oid t.names) 0 s.types k h)
type_in s false octets k h = absurd (none_some h)

text_in : (b : Bool) (octets v : List ℕ) → is_utf8 octets ≡ b → cond b (Some octets) None ≡ Some v → is_utf8 v ≡ true
text_in true octets v e h = let s : octets ≡ v = cc in ap is_utf8 (sym s) ∙ e
text_in false octets v e h = absurd (none_some h)

value_in : (b : Bool) (octets v : List ℕ) → cond b None (text_of octets) ≡ Some v → is_utf8 v ≡ true
value_in true octets v h = absurd (none_some h)
value_in false octets v h = text_in (is_utf8 octets) octets v refl h

made : ℕ → List ℕ → TypeAndValue
made k v = record { kind = k; value = v }

readable_by : (s : SchemaModel) (a : Option ℕ) (b : Option (List ℕ)) (v : TypeAndValue) → TypesGoByTheirNames s →
    ((k : ℕ) → a ≡ Some k → k < length s.types) → ((w : List ℕ) → b ≡ Some w → is_utf8 w ≡ true) →
    paired a b ≡ Some v → IsReadable s v
unfolding made
readable_by s None b v go f g h = absurd (none_some h)
readable_by s (Some k) None v go f g h = absurd (none_some h)
readable_by s (Some k) (Some w) v go f g h =
    let is : made k w ≡ v = cc in
    let e : 0 + k ≡ k = omega arith in
    let goes : goes_by_its_name s k ≡ true = ap (goes_by_its_name s) (sym e) ∙ goes_at s s.types 0 go k (f k refl) in
    subst (IsReadable s) is (record {
      is_found = type_found (find s (type_name s k)) k (left_true (is_type_found k (find s (type_name s k)))
          (list_all is_name_octet (type_name s k)) goes);
      is_plain = right_true (is_type_found k (find s (type_name s k))) (list_all is_name_octet (type_name s k)) goes;
      is_text = g w refl;
    })

readable_at : (s : SchemaModel) (ts : List Token) (o : Option ℕ) (v : TypeAndValue) → TypesGoByTheirNames s →
    type_and_value_at s ts o ≡ Some v → IsReadable s v
readable_at s ts None v go h = absurd (none_some h)
readable_at s ts (Some i) v go h =
    let a = trimmed (take i ts) in
    let b = trimmed (drop (i + 1) ts) in
    readable_by s (type_of s a) (value_of b) v go (λ k e. type_in s (list_all is_unescaped a) (map octet_of a) k e)
    (λ w e. value_in (not (list_all is_value_octet b) || begins_with_hash b) (map octet_of b) w e) h

each_readable : (s : SchemaModel) → TypesGoByTheirNames s → {parts : List (List Token)} {vs : List TypeAndValue} →
    AreWritten s parts vs → AllByRecursion (IsReadable s) vs
each_readable s go no_part = tt
each_readable s go (a_part p v e q) = (readable_at s p (position (is_plain 61) p) v go e, each_readable s go q)

-- ---- relative names

some_parts : {c : ℕ} {ts : List Token} {parts : List (List Token)} → IsParted c ts parts → 0 < length parts
some_parts (is_last ts h) = omega arith
some_parts (has_more ts h q) = omega arith

as_many : {s : SchemaModel} {parts : List (List Token)} {vs : List TypeAndValue} → AreWritten s parts vs →
    length parts ≡ length vs
as_many no_part = refl
as_many (a_part p v e q) = ap suc (as_many q)

rdn_of_types : (s : SchemaModel) → TypesGoByTheirNames s → (ts : List Token) (r : RdnModel) → IsRdn s ts r → IsRdnOf s r
rdn_of_types s go ts r i = record {
  has_one = omega (arith, some_parts i.is_parted, as_many i.are_written);
  are_readable = all_of (IsReadable s) r.spelling (each_readable s go i.are_written);
  are_keys = i.are_keys;
}

each_rdn : (s : SchemaModel) → TypesGoByTheirNames s → {parts : List (List Token)} {rs : List RdnModel} →
    AreRdns s parts rs → AllByRecursion (IsRdnOf s) rs
each_rdn s go no_rdn = tt
each_rdn s go (an_rdn p r i q) = (rdn_of_types s go p r i, each_rdn s go q)

name_of_types : (s : SchemaModel) → TypesGoByTheirNames s → {text : List ℕ} {name : List RdnModel} →
    IsNameText s text name → AllByRecursion (IsRdnOf s) name
name_of_types s go (is_empty q b) = tt
name_of_types s go (has_rdns {text} {ts} {parts} {rs} q b p r) = each_reverse (IsRdnOf s) rs (each_rdn s go r)

pub read_again : ReadNamesAreReadAgain
read_again of_schema s h text name e =
    printed_read s name (all_of (IsRdnOf s) name (name_of_types s (types_of_text of_schema s h)
    ((names_of_texts s text name).0 e)))
