-- The reading of names, step by step, and the grammar of names: each is the other.
use Rattle.std.proofs.Common.{ℕ, List, [], ◌∷◌, ◌++◌, Bool, true, false, cond, Option, None, Some, ◌≡◌, refl, sym, ap, ◌∙◌, append-nil, subst}
use Rattle.std.specs.Option.{option_and_then}
use Rattle.std.specs.List.{list_all, slice_split}
use Rattle.ldap_schema.specs.Schema.{SchemaModel}
use Rattle.ldap_dn.specs.Names.{TypeAndValue, TypeAndKey, RdnModel}
use Rattle.ldap_dn.specs.Tokens.{is_plain, is_space}
use Rattle.ldap_dn.specs.Grammar.{IsSpelled}
use Rattle.ldap_dn.specs.Texts.{tokens_of, type_and_value_of, written_from, written_of, keys_from, rdn_by, rdn_spelled, rdn_of, rdns_from, root_first, name_if}
use Rattle.ldap_dn.specs.NameTexts.{AreWritten, no_part, a_part, IsRdn, AreRdns, no_rdn, an_rdn, IsNameText, is_empty, has_rdns, NamesAreOfTexts}
use Rattle.ldap_dn.specs.declared.token.Token.{Token}
use Rattle.ldap_dn.proofs.Spelled.{tokens_spelled, push_onto, none_some, some_same}
use Rattle.ldap_dn.proofs.Parted.{parted_split, split_parted}

written_here : (s : SchemaModel) (acc : List TypeAndValue) {parts : List (List Token)} {vs : List TypeAndValue} →
    AreWritten s parts vs → written_from s acc parts ≡ Some (acc ++ vs)
written_here s acc no_part = ap Some (sym (append-nil acc))
written_here s acc (a_part {parts} {vs} p v e q) =
    ap (λ o. option_and_then (λ w. written_from s (acc ++ w ∷ []) parts) o) e
    ∙ written_here s (acc ++ v ∷ []) q
    ∙ ap Some (push_onto acc v vs)

record HasWritten (s : SchemaModel) (acc : List TypeAndValue) (parts : List (List Token)) (us : List TypeAndValue) :
    Type 0 where
  vs : List TypeAndValue
  is_all : us ≡ acc ++ vs
  are_written : AreWritten s parts vs

at_written : (o : Option TypeAndValue) (s : SchemaModel) (acc : List TypeAndValue) (p : List Token)
    (parts : List (List Token)) (us : List TypeAndValue) → type_and_value_of s p ≡ o →
    ((a : List TypeAndValue) → written_from s a parts ≡ Some us → HasWritten s a parts us) →
    option_and_then (λ w. written_from s (acc ++ w ∷ []) parts) o ≡ Some us → HasWritten s acc (p ∷ parts) us
at_written None s acc p parts us t more e = absurd (none_some e)
at_written (Some v) s acc p parts us t more e =
    let f = more (acc ++ v ∷ []) e in
    record { vs = v ∷ f.vs; is_all = f.is_all ∙ push_onto acc v f.vs; are_written = a_part p v t f.are_written }

here_written : (s : SchemaModel) (acc : List TypeAndValue) (parts : List (List Token)) (us : List TypeAndValue) →
    written_from s acc parts ≡ Some us → HasWritten s acc parts us
here_written s acc [] us e = record {
  vs = [];
  is_all = sym (some_same e) ∙ sym (append-nil acc);
  are_written =
      no_part;
}
here_written s acc (p ∷ parts) us e = at_written (type_and_value_of s p) s acc p parts us refl
    (λ a f. here_written s a parts us f) e

all_written : (s : SchemaModel) (parts : List (List Token)) (us : List TypeAndValue) → written_from s [] parts ≡
    Some us → AreWritten s parts us
all_written s parts us e = let f = here_written s [] parts us e in subst (AreWritten s parts) (sym f.is_all)
    f.are_written

rdn_by_keys : (o : Option (List TypeAndKey)) (s : SchemaModel) (ts : List Token) (vs : List TypeAndValue)
    (r : RdnModel) → keys_from s [] vs ≡ o → written_of s ts ≡ Some vs → rdn_by vs o ≡ Some r → IsRdn s ts r
rdn_by_keys None s ts vs r k w e = absurd (none_some e)
rdn_by_keys (Some ks) s ts vs r k w e =
    subst (IsRdn s ts) (some_same e)
    (record {
      parts = slice_split (is_plain 43) ts;
      is_parted = split_parted 43 ts;
      are_written = all_written s
          (slice_split (is_plain 43) ts) vs w;
      are_keys = k;
    })

rdn_by_written : (o : Option (List TypeAndValue)) (s : SchemaModel) (ts : List Token) (r : RdnModel) →
    written_of s ts ≡ o → rdn_spelled s o ≡ Some r → IsRdn s ts r
rdn_by_written None s ts r w e = absurd (none_some e)
rdn_by_written (Some vs) s ts r w e = rdn_by_keys (keys_from s [] vs) s ts vs r refl w e

rdn_is : (s : SchemaModel) (ts : List Token) (r : RdnModel) → IsRdn s ts r → rdn_of s ts ≡ Some r
rdn_is s ts r i =
    ap (λ l. rdn_spelled s (written_from s [] l)) (parted_split 43 i.is_parted)
    ∙ ap (rdn_spelled s) (written_here s [] i.are_written)
    ∙ ap (rdn_by r.spelling) i.are_keys

rdns_here : (s : SchemaModel) (acc : List RdnModel) {parts : List (List Token)} {rs : List RdnModel} →
    AreRdns s parts rs → rdns_from s acc parts ≡ Some (acc ++ rs)
rdns_here s acc no_rdn = ap Some (sym (append-nil acc))
rdns_here s acc (an_rdn {parts} {rs} p r i q) =
    ap (λ o. option_and_then (λ q. rdns_from s (acc ++ q ∷ []) parts) o) (rdn_is s p r i)
    ∙ rdns_here s (acc ++ r ∷ []) q
    ∙ ap Some (push_onto acc r rs)

record HasRdns (s : SchemaModel) (acc : List RdnModel) (parts : List (List Token)) (us : List RdnModel) : Type 0 where
  rs : List RdnModel
  is_all : us ≡ acc ++ rs
  are_rdns : AreRdns s parts rs

at_rdn : (o : Option RdnModel) (s : SchemaModel) (acc : List RdnModel) (p : List Token) (parts : List (List Token))
    (us : List RdnModel) → rdn_of s p ≡ o → ((a : List RdnModel) → rdns_from s a parts ≡ Some us →
    HasRdns s a parts us) → option_and_then (λ r. rdns_from s (acc ++ r ∷ []) parts) o ≡ Some us →
    HasRdns s acc (p ∷ parts) us
at_rdn None s acc p parts us t more e = absurd (none_some e)
at_rdn (Some r) s acc p parts us t more e =
    let f = more (acc ++ r ∷ []) e in
    record {
      rs = r ∷ f.rs;
      is_all = f.is_all ∙ push_onto acc r f.rs;
      are_rdns =
          an_rdn p r (rdn_by_written (written_of s p) s p r refl t) f.are_rdns;
    }

here_rdns : (s : SchemaModel) (acc : List RdnModel) (parts : List (List Token)) (us : List RdnModel) →
    rdns_from s acc parts ≡ Some us → HasRdns s acc parts us
here_rdns s acc [] us e = record { rs = []; is_all = sym (some_same e) ∙ sym (append-nil acc); are_rdns = no_rdn }
here_rdns s acc (p ∷ parts) us e = at_rdn (rdn_of s p) s acc p parts us refl (λ a f. here_rdns s a parts us f) e

all_rdns : (s : SchemaModel) (parts : List (List Token)) (us : List RdnModel) → rdns_from s [] parts ≡ Some us →
    AreRdns s parts us
all_rdns s parts us e = let f = here_rdns s [] parts us e in subst (AreRdns s parts) (sym f.is_all) f.are_rdns

by_rdns : (o : Option (List RdnModel)) (s : SchemaModel) (text : List ℕ) (ts : List Token) (name : List RdnModel) →
    IsSpelled text ts → list_all is_space ts ≡ false → rdns_from s [] (slice_split (is_plain 44) ts) ≡ o →
    root_first o ≡ Some name → IsNameText s text name
by_rdns None s text ts name q b h e = absurd (none_some e)
by_rdns (Some rs) s text ts name q b h e = subst (IsNameText s text) (some_same e) (has_rdns q b (split_parted 44 ts)
    (all_rdns s (slice_split (is_plain 44) ts) rs h))

by_spaces : (b : Bool) (s : SchemaModel) (text : List ℕ) (ts : List Token) (name : List RdnModel) →
    IsSpelled text ts → list_all is_space ts ≡ b →
    cond b (Some []) (root_first (rdns_from s [] (slice_split (is_plain 44) ts))) ≡ Some name → IsNameText s text name
by_spaces true s text ts name q b e = subst (IsNameText s text) (some_same e) (is_empty q b)
by_spaces false s text ts name q b e = by_rdns (rdns_from s [] (slice_split (is_plain 44) ts)) s text ts name q b refl e

by_tokens : (o : Option (List Token)) (s : SchemaModel) (text : List ℕ) (name : List RdnModel) → tokens_of text ≡ o →
    name_if s o ≡ Some name → IsNameText s text name
by_tokens None s text name t e = absurd (none_some e)
by_tokens (Some ts) s text name t e = by_spaces (list_all is_space ts) s text ts name ((tokens_spelled text ts).0 t)
    refl e

name_is : (s : SchemaModel) {text : List ℕ} {name : List RdnModel} → IsNameText s text name →
    name_if s (tokens_of text) ≡ Some name
name_is s (is_empty {text} {ts} q b) =
    ap (name_if s) ((tokens_spelled text ts).1 q)
    ∙ ap (λ c. cond c (Some []) (root_first (rdns_from s [] (slice_split (is_plain 44) ts)))) b
name_is s (has_rdns {text} {ts} q b p r) =
    ap (name_if s) ((tokens_spelled text ts).1 q)
    ∙ ap (λ c. cond c (Some []) (root_first (rdns_from s [] (slice_split (is_plain 44) ts)))) b
    ∙ ap (λ l. root_first (rdns_from s [] l)) (parted_split 44 p)
    ∙ ap root_first (rdns_here s [] r)

pub names_of_texts : NamesAreOfTexts
names_of_texts s text name = (λ e. by_tokens (tokens_of text) s text name refl e, λ h. name_is s h)
