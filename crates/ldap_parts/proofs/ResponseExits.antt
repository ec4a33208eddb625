-- What a part lacks, the response lacks: at each exit of a reader, behind the parts that it read.
use Rattle.std.proofs.Common.{ℕ, Option, List}
use Rattle.ldap_ber.specs.Fields.{HasText, HasPart, HasTextOrNone, HasOctetsOrNone}
use Rattle.ldap_ber.specs.Rows.{AreRow, AreElements}
use Rattle.ldap_ber.proofs.Same.{step, text_part, text_unique, text_or_none_unique, octets_or_none_unique}
use Rattle.ldap_parts.specs.Values.{PartialAttributeValue, LdapResultValue}
use Rattle.ldap_parts.specs.ResponseValues.{SearchResultEntryValue, ExtendedResponseValue}
use Rattle.ldap_parts.specs.Grammar.{HasPartialAttribute, HasLdapResult}
use Rattle.ldap_parts.specs.ResponseGrammar.{IsSearchResultEntry, IsExtendedResponse}
use Rattle.ldap_ber.proofs.Parts.{text_or_none_part, octets_or_none_part}
use Rattle.ldap_parts.proofs.Unique.{attributes_part, attributes_unique, result_unique}

pub entry_attributes : (o x d : List ℕ) → HasText o 4 d x → (v : SearchResultEntryValue) × IsSearchResultEntry v o →
    (row : List PartialAttributeValue) × (r : List ℕ) × HasPart (AreRow HasPartialAttribute row) x 48 r
entry_attributes o x d p (v, h) = let s = step text_part (text_unique 4) _ d v.object_name o x p h
    in (v.attributes, s.next.rest, s.next.first)

pub entry_end : (o x y d : List ℕ) (vs : List PartialAttributeValue) → HasText o 4 d x →
    HasPart (AreRow HasPartialAttribute vs) x 48 y → (v : SearchResultEntryValue) × IsSearchResultEntry v o →
    AreElements y
entry_end o x y d vs p q (v, h) =
    let s = step text_part (text_unique 4) _ d v.object_name o x p h in
    (step attributes_part attributes_unique _ vs v.attributes x y q s.next).next

pub extended_name : (o x : List ℕ) (v : LdapResultValue) → HasLdapResult v o x → (r : ExtendedResponseValue)
    × IsExtendedResponse r o → (t : Option (List ℕ)) × (rest : List ℕ) × HasTextOrNone x 138 t rest
extended_name o x v p (r, h) = let s = step HasLdapResult result_unique _ v r.result o x p h
    in (r.response_name, s.next.rest, s.next.first)

pub extended_value : (o x y : List ℕ) (v : LdapResultValue) (n : Option (List ℕ)) → HasLdapResult v o x →
    HasTextOrNone x 138 n y → (r : ExtendedResponseValue) × IsExtendedResponse r o → (t : Option (List ℕ))
    × (rest : List ℕ) × HasOctetsOrNone y 139 t rest
extended_value o x y v n p q (r, h) =
    let s = step HasLdapResult result_unique _ v r.result o x p h in
    let t = step (text_or_none_part 138) (text_or_none_unique 138) _ n r.response_name x y q s.next in
    (r.response_value, t.next.rest, t.next.first)

pub extended_end : (o x y z : List ℕ) (v : LdapResultValue) (n u : Option (List ℕ)) → HasLdapResult v o x →
    HasTextOrNone x 138 n y → HasOctetsOrNone y 139 u z → (r : ExtendedResponseValue) × IsExtendedResponse r o →
    AreElements z
extended_end o x y z v n u p q w (r, h) =
    let s = step HasLdapResult result_unique _ v r.result o x p h in
    let t = step (text_or_none_part 138) (text_or_none_unique 138) _ n r.response_name x y q s.next in
    (step (octets_or_none_part 139) (octets_or_none_unique 139) _ u r.response_value y z w t.next).next
