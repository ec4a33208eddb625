-- What no line names.
use Rattle.std.proofs.Common.{◌≡◌, ℕ, List, Some, subst}
use Rattle.dir_lab.specs.dir_search.ldap_msg.Messages.{SearchRequestValue}
use Rattle.lab_script.specs.Searches.{IsSearchText}
use Rattle.lab_script.specs.Events.{EventValue}
use Rattle.lab_script.specs.Lines.{RequestParts, request_parts, IsRequestOf, IsRequest, SearchParts, search_parts, IsSearchOf, IsSearch, IsOne}

-- Parts whose text writes no search.
pub no_text : (p : SearchParts) (e : EventValue) → ((q : SearchRequestValue) → IsSearchText p.text q → ⊥) →
    IsSearchOf p e → ⊥
no_text p e none h = none h.request h.writes

-- A line has one list of parts.
pub no_search : (rest : List ℕ) (p : SearchParts) (e : EventValue) → search_parts rest ≡ Some p →
    (IsSearchOf p e → ⊥) → IsSearch rest e → ⊥
no_search rest p e is none h =
    let other : search_parts rest ≡ Some h.parts = h.is_cut in
    let same : h.parts ≡ p = cc in
    none (subst (λ (o : SearchParts). IsSearchOf o e) same h.is_search)

pub no_request : (rest : List ℕ) (p : RequestParts) (e : EventValue) → request_parts rest ≡ Some p →
    (IsRequestOf p e → ⊥) → IsRequest rest e → ⊥
no_request rest p e is none h =
    let other : request_parts rest ≡ Some h.parts = h.is_cut in
    let same : h.parts ≡ p = cc in
    none (subst (λ (o : RequestParts). IsRequestOf o e) same h.is_request)

-- No event, and none alone.
pub no_one : (Is : EventValue → Type 0) (es : List EventValue) → ((e : EventValue) → Is e → ⊥) → IsOne Is es → ⊥
no_one Is es none h = none h.one h.is
