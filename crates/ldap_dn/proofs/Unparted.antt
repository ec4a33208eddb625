-- A relative name that no `+` parts: it is one type and value.
use Rattle.std.proofs.Common.{◌≡◌, true, not, List, [], ◌∷◌, ap}
use Rattle.std.specs.List.{list_all}
use Rattle.std.specs.Option.{option_and_then}
use Rattle.std.proofs.lemmas.Bool.{not-true}
use Rattle.std.proofs.lemmas.List.Elements.{All-weaker}
use Rattle.std.proofs.lemmas.List.Splits.{slice_split_none}
use Rattle.std.proofs.lemmas.List.Sums.{AllPass-from_list_all}
use Rattle.ldap_dn.specs.ldap_schema.Schema.{SchemaModel}
use Rattle.ldap_dn.specs.declared.token.Token.{Token}
use Rattle.ldap_dn.specs.Tokens.{is_plain}
use Rattle.ldap_dn.specs.Texts.{written_from, written_of, type_and_value_of}

pub unparted : (s : SchemaModel) (ts : List Token) → list_all (λ t. not (is_plain 43 t)) ts ≡ true →
    written_of s ts ≡ option_and_then (λ v. written_from s (v ∷ []) []) (type_and_value_of s ts)
unparted s ts whole =
    ap (written_from s []) (slice_split_none (is_plain 43) ts
    (All-weaker _ _ (λ t e. not-true (is_plain 43 t) e) ts (AllPass-from_list_all (λ t. not (is_plain 43 t)) ts whole)))
