-- The first octet of an operation says which operation it is.
use Rattle.std.proofs.Common.{◌≡◌, ℕ, Bool, true, false, eqb, List, refl, sym, ap, subst, ◌∙◌}
use Rattle.std.specs.Prelude.{◌||◌, ℤ}
use Rattle.ldap_parts.specs.Values.{LdapResultValue}
use Rattle.ldap_requests.specs.Values.{BindRequestValue, SearchRequestValue, CompareRequestValue, ExtendedRequestValue}
use Rattle.ldap_parts.specs.UpdateValues.{ModifyRequestValue, AddRequestValue, ModifyDnRequestValue}
use Rattle.ldap_parts.specs.ResponseValues.{SearchResultEntryValue, ExtendedResponseValue}
use Rattle.ldap_parts.specs.Grammar.{IsLdapResult}
use Rattle.ldap_requests.specs.Grammar.{IsBindRequest, IsUnbindRequest, IsSearchRequest, IsCompareRequest, IsAbandonRequest, IsExtendedRequest}
use Rattle.ldap_parts.specs.UpdateGrammar.{IsModifyRequest, IsAddRequest, IsDelRequest, IsModifyDnRequest}
use Rattle.ldap_parts.specs.ResponseGrammar.{IsSearchResultEntry, IsExtendedResponse}
use Rattle.ldap_requests.proofs.Binds.{bind_one}
use Rattle.ldap_requests.proofs.Unique.{search_one}
use Rattle.ldap_parts.proofs.Modifies.{modify_one}
use Rattle.ldap_parts.proofs.UpdatesUnique.{add_one}
use Rattle.ldap_parts.proofs.Names.{delete_one, modify_dn_one}
use Rattle.ldap_requests.proofs.Compares.{compare_one}
use Rattle.ldap_requests.proofs.Extends.{abandon_one, extended_request_one}
use Rattle.ldap_parts.proofs.Unique.{result_one}
use Rattle.ldap_parts.proofs.ResponsesUnique.{entry_one, extended_one}
use Rattle.ldap_msg.specs.Messages.{bind, unbind, search, modify, add, delete, modify_dn, compare, abandon, extended_request, RequestValue, bind_response, search_entry, search_done, modify_response, add_response, delete_response, modify_dn_response, compare_response, extended, ResponseValue, OperationValue, request, response}
use Rattle.ldap_msg.specs.Grammar.{request_octet, IsRequestContent, response_octet, IsResponseContent, operation_octet, IsOperation}

abbrev choose : Bool → Type 0 → Type 0 → Type 0
choose true A B = A
choose false A B = B

-- ---- requests

-- what the content of a request of this first octet is
abbrev RequestAt : ℕ → List ℕ → Type 0
RequestAt n o =
    (choose (eqb n 96) ((x : BindRequestValue) × IsBindRequest x o)
    (choose (eqb n 66) (IsUnbindRequest o)
    (choose (eqb n 99) ((x : SearchRequestValue) × IsSearchRequest x o)
    (choose (eqb n 102) ((x : ModifyRequestValue) × IsModifyRequest x o)
    (choose (eqb n 104) ((x : AddRequestValue) × IsAddRequest x o)
    (choose (eqb n 74) ((x : List ℕ) × IsDelRequest x o)
    (choose (eqb n 108) ((x : ModifyDnRequestValue) × IsModifyDnRequest x o)
    (choose (eqb n 110) ((x : CompareRequestValue) × IsCompareRequest x o)
    (choose (eqb n 80) ((x : ℤ) × IsAbandonRequest x o)
    (choose (eqb n 119) ((x : ExtendedRequestValue) × IsExtendedRequest x o)
    (⊥)))))))))))

request_stands : (r : RequestValue) (o : List ℕ) → IsRequestContent r o → RequestAt (request_octet r) o
request_stands (bind x) o h = (x, h)
request_stands unbind o h = h
request_stands (search x) o h = (x, h)
request_stands (modify x) o h = (x, h)
request_stands (add x) o h = (x, h)
request_stands (delete x) o h = (x, h)
request_stands (modify_dn x) o h = (x, h)
request_stands (compare x) o h = (x, h)
request_stands (abandon x) o h = (x, h)
request_stands (extended_request x) o h = (x, h)

-- a request of a first octet has the content of that octet
pub request_at : (n : ℕ) (o : List ℕ) → (r : RequestValue) × (request_octet r ≡ n) × IsRequestContent r o →
    RequestAt n o
request_at n o (r, e, h) = subst (λ (m : ℕ). RequestAt m o) e (request_stands r o h)

pub is_search : (o : List ℕ) → (r : RequestValue) × (request_octet r ≡ 99) × IsRequestContent r o →
    (x : SearchRequestValue) × IsSearchRequest x o
is_search o = request_at 99 o

pub is_modify : (o : List ℕ) → (r : RequestValue) × (request_octet r ≡ 102) × IsRequestContent r o →
    (x : ModifyRequestValue) × IsModifyRequest x o
is_modify o = request_at 102 o

pub is_add : (o : List ℕ) → (r : RequestValue) × (request_octet r ≡ 104) × IsRequestContent r o →
    (x : AddRequestValue) × IsAddRequest x o
is_add o = request_at 104 o

pub is_delete : (o : List ℕ) → (r : RequestValue) × (request_octet r ≡ 74) × IsRequestContent r o → (x : List ℕ)
    × IsDelRequest x o
is_delete o = request_at 74 o

pub is_modify_dn : (o : List ℕ) → (r : RequestValue) × (request_octet r ≡ 108) × IsRequestContent r o →
    (x : ModifyDnRequestValue) × IsModifyDnRequest x o
is_modify_dn o = request_at 108 o

-- whatever has this first octet and content is this request
abbrev RequestSame : ℕ → RequestValue → List ℕ → Type 0
RequestSame n v o =
    (choose (eqb n 96) ((x : BindRequestValue) → IsBindRequest x o → v ≡ bind x)
    (choose (eqb n 66) (v ≡ unbind)
    (choose (eqb n 99) ((x : SearchRequestValue) → IsSearchRequest x o → v ≡ search x)
    (choose (eqb n 102) ((x : ModifyRequestValue) → IsModifyRequest x o → v ≡ modify x)
    (choose (eqb n 104) ((x : AddRequestValue) → IsAddRequest x o → v ≡ add x)
    (choose (eqb n 74) ((x : List ℕ) → IsDelRequest x o → v ≡ delete x)
    (choose (eqb n 108) ((x : ModifyDnRequestValue) → IsModifyDnRequest x o → v ≡ modify_dn x)
    (choose (eqb n 110) ((x : CompareRequestValue) → IsCompareRequest x o → v ≡ compare x)
    (choose (eqb n 80) ((x : ℤ) → IsAbandonRequest x o → v ≡ abandon x)
    (choose (eqb n 119) ((x : ExtendedRequestValue) → IsExtendedRequest x o → v ≡ extended_request x)
    (⊥)))))))))))

request_own : (v : RequestValue) (o : List ℕ) → IsRequestContent v o → RequestSame (request_octet v) v o
request_own (bind x) o h = λ y g. ap bind (bind_one x y o h g)
request_own unbind o h = refl
request_own (search x) o h = λ y g. ap search (search_one x y o h g)
request_own (modify x) o h = λ y g. ap modify (modify_one x y o h g)
request_own (add x) o h = λ y g. ap add (add_one x y o h g)
request_own (delete x) o h = λ y g. ap delete (delete_one x y o h g)
request_own (modify_dn x) o h = λ y g. ap modify_dn (modify_dn_one x y o h g)
request_own (compare x) o h = λ y g. ap compare (compare_one x y o h g)
request_own (abandon x) o h = λ y g. ap abandon (abandon_one x y o h g)
request_own (extended_request x) o h = λ y g. ap extended_request (extended_request_one x y o h g)

request_other : (w v : RequestValue) (o : List ℕ) → IsRequestContent w o → RequestSame (request_octet w) v o → v ≡ w
request_other (bind x) v o h same = same x h
request_other unbind v o h same = same
request_other (search x) v o h same = same x h
request_other (modify x) v o h same = same x h
request_other (add x) v o h same = same x h
request_other (delete x) v o h same = same x h
request_other (modify_dn x) v o h same = same x h
request_other (compare x) v o h same = same x h
request_other (abandon x) v o h same = same x h
request_other (extended_request x) v o h same = same x h

pub request_same : (v w : RequestValue) (o : List ℕ) → request_octet v ≡ request_octet w → IsRequestContent v o →
    IsRequestContent w o → v ≡ w
request_same v w o e p q = request_other w v o q (subst (λ (n : ℕ). RequestSame n v o) e (request_own v o p))

-- ---- responses

-- whatever has this first octet and content is this response
abbrev ResponseSame : ℕ → ResponseValue → List ℕ → Type 0
ResponseSame n v o =
    (choose (eqb n 97) ((x : LdapResultValue) → IsLdapResult x o → v ≡ bind_response x)
    (choose (eqb n 100) ((x : SearchResultEntryValue) → IsSearchResultEntry x o → v ≡ search_entry x)
    (choose (eqb n 101) ((x : LdapResultValue) → IsLdapResult x o → v ≡ search_done x)
    (choose (eqb n 103) ((x : LdapResultValue) → IsLdapResult x o → v ≡ modify_response x)
    (choose (eqb n 105) ((x : LdapResultValue) → IsLdapResult x o → v ≡ add_response x)
    (choose (eqb n 107) ((x : LdapResultValue) → IsLdapResult x o → v ≡ delete_response x)
    (choose (eqb n 109) ((x : LdapResultValue) → IsLdapResult x o → v ≡ modify_dn_response x)
    (choose (eqb n 111) ((x : LdapResultValue) → IsLdapResult x o → v ≡ compare_response x)
    (choose (eqb n 120) ((x : ExtendedResponseValue) → IsExtendedResponse x o → v ≡ extended x)
    (⊥))))))))))

response_own : (v : ResponseValue) (o : List ℕ) → IsResponseContent v o → ResponseSame (response_octet v) v o
response_own (bind_response x) o h = λ y g. ap bind_response (result_one x y o h g)
response_own (search_entry x) o h = λ y g. ap search_entry (entry_one x y o h g)
response_own (search_done x) o h = λ y g. ap search_done (result_one x y o h g)
response_own (modify_response x) o h = λ y g. ap modify_response (result_one x y o h g)
response_own (add_response x) o h = λ y g. ap add_response (result_one x y o h g)
response_own (delete_response x) o h = λ y g. ap delete_response (result_one x y o h g)
response_own (modify_dn_response x) o h = λ y g. ap modify_dn_response (result_one x y o h g)
response_own (compare_response x) o h = λ y g. ap compare_response (result_one x y o h g)
response_own (extended x) o h = λ y g. ap extended (extended_one x y o h g)

response_other : (w v : ResponseValue) (o : List ℕ) → IsResponseContent w o → ResponseSame (response_octet w) v o →
    v ≡ w
response_other (bind_response x) v o h same = same x h
response_other (search_entry x) v o h same = same x h
response_other (search_done x) v o h same = same x h
response_other (modify_response x) v o h same = same x h
response_other (add_response x) v o h same = same x h
response_other (delete_response x) v o h same = same x h
response_other (modify_dn_response x) v o h same = same x h
response_other (compare_response x) v o h same = same x h
response_other (extended x) v o h same = same x h

pub response_same : (v w : ResponseValue) (o : List ℕ) → response_octet v ≡ response_octet w → IsResponseContent v o →
    IsResponseContent w o → v ≡ w
response_same v w o e p q = response_other w v o q (subst (λ (n : ℕ). ResponseSame n v o) e (response_own v o p))

-- ---- requests and responses

abbrev is_request_octet : ℕ → Bool
is_request_octet n = eqb n 96 ||
    (eqb n 66 || (eqb n 99 ||
    (eqb n 102 || (eqb n 104 || (eqb n 74 || (eqb n 108 || (eqb n 110 || (eqb n 80 || (eqb n 119)))))))))

request_true : (r : RequestValue) → is_request_octet (request_octet r) ≡ true
request_true (bind x) = refl
request_true unbind = refl
request_true (search x) = refl
request_true (modify x) = refl
request_true (add x) = refl
request_true (delete x) = refl
request_true (modify_dn x) = refl
request_true (compare x) = refl
request_true (abandon x) = refl
request_true (extended_request x) = refl

response_false : (r : ResponseValue) → is_request_octet (response_octet r) ≡ false
response_false (bind_response x) = refl
response_false (search_entry x) = refl
response_false (search_done x) = refl
response_false (modify_response x) = refl
response_false (add_response x) = refl
response_false (delete_response x) = refl
response_false (modify_dn_response x) = refl
response_false (compare_response x) = refl
response_false (extended x) = refl

true_not_false : true ≡ false → ⊥
true_not_false e = absurd cc

pub no_response : (n : ℕ) → is_request_octet n ≡ true → (r : ResponseValue) → response_octet r ≡ n → ⊥
no_response n e r h = true_not_false (sym e ∙ ap is_request_octet (sym h) ∙ response_false r)

pub no_request : (n : ℕ) → is_request_octet n ≡ false → (r : RequestValue) → request_octet r ≡ n → ⊥
no_request n e r h = true_not_false (sym (request_true r) ∙ ap is_request_octet h ∙ e)

pub not_both : (r : RequestValue) (s : ResponseValue) → request_octet r ≡ response_octet s → ⊥
not_both r s e = no_response (request_octet r) (request_true r) s (sym e)

pub operation_same : (v w : OperationValue) (o : List ℕ) → operation_octet v ≡ operation_octet w → IsOperation v o →
    IsOperation w o → v ≡ w
operation_same (request v) (request w) o e p q = ap request (request_same v w o e p q)
operation_same (response v) (response w) o e p q = ap response (response_same v w o e p q)
operation_same (request v) (response w) o e p q = absurd (not_both v w e)
operation_same (response v) (request w) o e p q = absurd (not_both w v (sym e))
