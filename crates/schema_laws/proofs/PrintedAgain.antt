-- What is printed of a name is read as the name.
use Rattle.std.proofs.Common.{ℕ, ◌<◌, suc, List, [], ◌∷◌, ◌++◌, Bool, true, false, ◌&&◌, ◌≡◌, refl, sym, ap, ◌∙◌, subst, map, length, reverse, append_assoc, flat_map, arith}
use Rattle.std.proofs.lemmas.List.{reverse-append, reverse-reverse}
use Rattle.std.proofs.lemmas.List.Folds.{list_all-append}
use Rattle.std.proofs.lemmas.List.Elements.{All-head, All-tail}
use Rattle.std.specs.List.{All, AllByRecursion, list_all}
use Rattle.ldap_match.specs.ldap_schema.Schema.{SchemaModel}
use Rattle.ldap_dn.specs.Names.{TypeAndValue, RdnModel}
use Rattle.ldap_dn.specs.Tokens.{is_plain, is_space}
use Rattle.ldap_dn.specs.Grammar.{IsSpelled}
use Rattle.ldap_dn.specs.Printed.{printed_type_and_value, printed_rdn, printed_name, type_name}
use Rattle.ldap_dn.specs.NameTexts.{AreWritten, no_part, a_part, IsRdn, AreRdns, no_rdn, an_rdn, IsNameText, is_empty, has_rdns}
use Rattle.ldap_dn.specs.declared.token.Token.{Token}
use Rattle.ldap_dn.specs.declared.token.Token.TheVariants.{Plain}
use Rattle.ldap_dn.proofs.NameTexts.{names_of_texts}
use Rattle.schema_laws.specs.PrintedRead.{IsReadable, IsRdnOf, PrintedIsRead}
use Rattle.schema_laws.proofs.Valued.{all_append, tokens_of_value}
use Rattle.schema_laws.proofs.Joined.{tokens_of_pair, pair_spelled, pair_read, pair_lacks_plus, pair_lacks_comma, joined, joined_spelled, joined_parted, joined_all}

each_of : {A : Type 0} (P : A → Type 0) (xs : List A) → All P xs → AllByRecursion P xs
each_of P [] h = tt
each_of P (x ∷ xs) h = (All-head P x xs h, each_of P xs (All-tail P x xs h))

pub each_reverse : {A : Type 0} (P : A → Type 0) (xs : List A) → AllByRecursion P xs → AllByRecursion P (reverse xs)
each_reverse P [] h = tt
each_reverse P (x ∷ xs) h = subst (AllByRecursion P) (sym (reverse-append (x ∷ []) xs))
    (all_append P (reverse xs) (x ∷ []) (each_reverse P xs h.1) (h.0, tt))

each_map : {A B : Type 0} (P : A → Type 0) (Q : B → Type 0) (g : A → B) → ((x : A) → P x → Q (g x)) → (xs : List A) →
    AllByRecursion P xs → AllByRecursion Q (map g xs)
each_map P Q g f [] h = tt
each_map P Q g f (x ∷ xs) h = (f x h.0, each_map P Q g f xs h.1)

each_same : {A : Type 0} (P Q : A → Type 0) → ((x : A) → P x → Q x) → (xs : List A) → AllByRecursion P xs →
    AllByRecursion Q xs
each_same P Q f [] h = tt
each_same P Q f (x ∷ xs) h = (f x h.0, each_same P Q f xs h.1)

length_map : {A B : Type 0} (g : A → B) (xs : List A) → length (map g xs) ≡ length xs
length_map g [] = refl
length_map g (x ∷ xs) = ap suc (length_map g xs)

-- ---- an equals sign, by which tokens are no mere spaces

record HasSign (ts : List Token) : Type 0 where
  front : List Token
  back : List Token
  is : ts ≡ front ++ Plain 61 ∷ back

sign_more : (ts us : List Token) → HasSign ts → HasSign (ts ++ us)
sign_more ts us h = record {
  front = h.front;
  back = h.back ++ us;
  is = ap (λ (x : List Token). x ++ us) h.is
      ∙ append_assoc h.front (Plain 61 ∷ h.back) us;
}

joined_sign : (c : ℕ) (ts : List (List Token)) → 0 < length ts → AllByRecursion HasSign ts → HasSign (joined c ts)
joined_sign c [] lt h = absurd (omega (arith, lt))
joined_sign c (t ∷ ts) lt h = sign_more t (flat_map (λ y. Plain c ∷ y) ts) h.0

and_false : (b : Bool) → (b && false) ≡ false
and_false true = refl
and_false false = refl

not_spaces : (ts : List Token) → HasSign ts → list_all is_space ts ≡ false
not_spaces ts h = ap (list_all is_space) h.is ∙ list_all-append is_space h.front (Plain 61 ∷ h.back)
    ∙ and_false (list_all is_space h.front)

-- ---- a relative name

abbrev pub tokens_of_rdn : SchemaModel → RdnModel → List Token
tokens_of_rdn s r = joined 43 (map (tokens_of_pair s) r.spelling)

rdn_spelled : (s : SchemaModel) (r : RdnModel) → IsRdnOf s r → IsSpelled (printed_rdn s r.spelling) (tokens_of_rdn s r)
rdn_spelled s r h =
    joined_spelled (printed_type_and_value s) (tokens_of_pair s) 43 refl r.spelling
    (each_same (IsReadable s) (λ v. IsSpelled (printed_type_and_value s v) (tokens_of_pair s v))
    (λ v. pair_spelled s v) r.spelling (each_of (IsReadable s) r.spelling h.are_readable))

written_again : (s : SchemaModel) (vs : List TypeAndValue) → AllByRecursion (IsReadable s) vs →
    AreWritten s (map (tokens_of_pair s) vs) vs
written_again s [] h = no_part
written_again s (v ∷ vs) h = a_part (tokens_of_pair s v) v (pair_read s v h.0) (written_again s vs h.1)

rdn_read : (s : SchemaModel) (r : RdnModel) → IsRdnOf s r → IsRdn s (tokens_of_rdn s r) r
rdn_read s r h =
    let each = each_of (IsReadable s) r.spelling h.are_readable in
    let one : 0 < length (map (tokens_of_pair s) r.spelling) =
    omega (arith, h.has_one, length_map (tokens_of_pair s) r.spelling) in
    record {
      parts = map (tokens_of_pair s) r.spelling;
      is_parted = joined_parted 43 (map (tokens_of_pair s) r.spelling) one
          (each_map (IsReadable s) (AllByRecursion (λ t. is_plain 43 t ≡ false)) (tokens_of_pair s)
          (λ v. pair_lacks_plus s v) r.spelling each);
      are_written = written_again s r.spelling each;
      are_keys = h.are_keys;
    }

rdn_sign : (s : SchemaModel) (r : RdnModel) → IsRdnOf s r → HasSign (tokens_of_rdn s r)
rdn_sign s r h =
    let one : 0 < length (map (tokens_of_pair s) r.spelling) =
    omega (arith, h.has_one, length_map (tokens_of_pair s) r.spelling) in
    joined_sign 43 (map (tokens_of_pair s) r.spelling) one
    (each_map (IsReadable s) HasSign (tokens_of_pair s)
    (λ v e. record { front = map Plain (type_name s v.kind); back = tokens_of_value v.value; is = refl })
    r.spelling (each_of (IsReadable s) r.spelling h.are_readable))

rdn_lacks : (s : SchemaModel) (r : RdnModel) → IsRdnOf s r → AllByRecursion (λ t. is_plain 44 t ≡ false)
    (tokens_of_rdn s r)
rdn_lacks s r h =
    joined_all (λ t. is_plain 44 t ≡ false) 43 refl (map (tokens_of_pair s) r.spelling)
    (each_map (IsReadable s) (AllByRecursion (λ t. is_plain 44 t ≡ false)) (tokens_of_pair s)
    (λ v. pair_lacks_comma s v) r.spelling (each_of (IsReadable s) r.spelling h.are_readable))

rdns_again : (s : SchemaModel) (rs : List RdnModel) → AllByRecursion (IsRdnOf s) rs →
    AreRdns s (map (tokens_of_rdn s) rs) rs
rdns_again s [] h = no_rdn
rdns_again s (r ∷ rs) h = an_rdn (tokens_of_rdn s r) r (rdn_read s r h.0) (rdns_again s rs h.1)

-- ---- a name

leaf_first : (s : SchemaModel) (rs : List RdnModel) → AllByRecursion (IsRdnOf s) rs → 0 < length rs →
    (text : List ℕ) → IsSpelled text (joined 44 (map (tokens_of_rdn s) rs)) → IsNameText s text (reverse rs)
leaf_first s rs h lt text spelled =
    let one : 0 < length (map (tokens_of_rdn s) rs) = omega (arith, lt, length_map (tokens_of_rdn s) rs) in
    has_rdns spelled
    (not_spaces _ (joined_sign 44 (map (tokens_of_rdn s) rs) one (each_map (IsRdnOf s) HasSign (tokens_of_rdn s)
    (λ r. rdn_sign s r) rs h)))
    (joined_parted 44 (map (tokens_of_rdn s) rs) one
    (each_map (IsRdnOf s) (AllByRecursion (λ t. is_plain 44 t ≡ false)) (tokens_of_rdn s) (λ r. rdn_lacks s r) rs
    h))
    (rdns_again s rs h)

name_by : (s : SchemaModel) (rs : List RdnModel) → AllByRecursion (IsRdnOf s) rs → (text : List ℕ) →
    IsSpelled text (joined 44 (map (tokens_of_rdn s) rs)) → IsNameText s text (reverse rs)
name_by s [] h text spelled = is_empty spelled refl
name_by s (r ∷ rs) h text spelled = leaf_first s (r ∷ rs) h (omega arith) text spelled

text_of_name : (s : SchemaModel) (name : List RdnModel) → AllByRecursion (IsRdnOf s) name →
    IsNameText s (printed_name s name) name
text_of_name s name h =
    let each = each_reverse (IsRdnOf s) name h in
    subst (IsNameText s (printed_name s name)) (reverse-reverse name)
    (name_by s (reverse name) each (printed_name s name)
    (joined_spelled (λ (r : RdnModel). printed_rdn s r.spelling) (tokens_of_rdn s) 44 refl (reverse name)
    (each_same (IsRdnOf s) (λ r. IsSpelled (printed_rdn s r.spelling) (tokens_of_rdn s r)) (λ r. rdn_spelled s r)
    (reverse name) each)))

pub printed_read : PrintedIsRead
printed_read s name h = (names_of_texts s (printed_name s name) name).1
    (text_of_name s name (each_of (IsRdnOf s) name h))
