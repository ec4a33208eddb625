-- Each part has one value at the front of octets, and one rest.
use Rattle.std.proofs.Common.{◌≡◌, ◌^◌, ℕ, zero, suc, Bool, List, refl, sym, ap, ◌∙◌}
use Rattle.ldap_filter.proofs.ldap_ber.Same.{IsUnique, step, text_part, text_unique, number_unique, flag_unique}
use Rattle.ldap_filter.proofs.ldap_ber.RowLemmas.{IsOneValue}
use Rattle.ldap_filter.specs.Tree.{Tree}
use Rattle.ldap_filter.specs.Grammar.{HasFilter}
use Rattle.ldap_filter.proofs.Unique.{front_unique}
use Rattle.ldap_requests.specs.Values.{SearchRequestValue}
use Rattle.ldap_requests.specs.Grammar.{scope_number, deref_number, IsTarget, IsBounds, IsSearchRequest}
use Rattle.ldap_requests.specs.declared.search.Scope.{Scope}
use Rattle.ldap_requests.specs.declared.search.Scope.TheVariants.{BaseObject, SingleLevel, WholeSubtree, SubordinateSubtree}
use Rattle.ldap_requests.specs.declared.search.DerefAliases.{DerefAliases}
use Rattle.ldap_requests.specs.declared.search.DerefAliases.TheVariants.{NeverDerefAliases, DerefInSearching, DerefFindingBaseObj, DerefAlways}
use Rattle.ldap_filter.proofs.ldap_ber.Parts.{number_part, texts_part, texts_part_unique}

abbrev scope_at : ℕ → Scope
scope_at zero = BaseObject
scope_at (suc zero) = SingleLevel
scope_at (suc (suc zero)) = WholeSubtree
scope_at (suc (suc (suc n))) = SubordinateSubtree

scope_back : (s : Scope) → scope_at (scope_number s) ≡ s
scope_back BaseObject = refl
scope_back SingleLevel = refl
scope_back WholeSubtree = refl
scope_back SubordinateSubtree = refl

scope_same : (s t : Scope) → scope_number s ≡ scope_number t → s ≡ t
scope_same s t e = sym (scope_back s) ∙ ap scope_at e ∙ scope_back t

abbrev deref_at : ℕ → DerefAliases
deref_at zero = NeverDerefAliases
deref_at (suc zero) = DerefInSearching
deref_at (suc (suc zero)) = DerefFindingBaseObj
deref_at (suc (suc (suc n))) = DerefAlways

deref_back : (s : DerefAliases) → deref_at (deref_number s) ≡ s
deref_back NeverDerefAliases = refl
deref_back DerefInSearching = refl
deref_back DerefFindingBaseObj = refl
deref_back DerefAlways = refl

deref_same : (s t : DerefAliases) → deref_number s ≡ deref_number t → s ≡ t
deref_same s t e = sym (deref_back s) ∙ ap deref_at e ∙ deref_back t

pub record Target : Type 0 where
  pub base : List ℕ
  pub scope : Scope
  pub deref : DerefAliases

abbrev pub target_part : Target → List ℕ → List ℕ → Type 0
target_part v octets rest = IsTarget v.base v.scope v.deref octets rest

target_same : (v w : Target) → v.base ≡ w.base → v.scope ≡ w.scope → v.deref ≡ w.deref → v ≡ w
target_same v w e0 e1 e2 =
    ap (λ (x : List ℕ). let r : Target = record { base = x; scope = v.scope; deref = v.deref } in r) e0
    ∙ ap (λ (x : Scope). let r : Target = record { base = w.base; scope = x; deref = v.deref } in r) e1
    ∙ ap (λ (x : DerefAliases). let r : Target = record { base = w.base; scope = w.scope; deref = x } in r) e2

pub target_unique : IsUnique target_part
target_unique v w o x y p q =
    let s = step text_part (text_unique 4) _ v.base w.base o p.rest p.first q in
    let t = step (number_part 10 4) (number_unique 10 4) _ (scope_number v.scope) (scope_number w.scope) p.rest
    p.next.rest p.next.first s.next in
    let u = number_unique 10 4 (deref_number v.deref) (deref_number w.deref) p.next.rest x y p.next.next t.next in
    record {
      value = target_same v w s.value (scope_same v.scope w.scope t.value)
          (deref_same v.deref w.deref u.value);
      rest = u.rest;
    }

pub record Bounds : Type 0 where
  pub size : ℕ
  pub time : ℕ
  pub types_only : Bool

abbrev pub bounds_part : Bounds → List ℕ → List ℕ → Type 0
bounds_part v octets rest = IsBounds v.size v.time v.types_only octets rest

bounds_same : (v w : Bounds) → v.size ≡ w.size → v.time ≡ w.time → v.types_only ≡ w.types_only → v ≡ w
bounds_same v w e0 e1 e2 =
    ap (λ (x : ℕ). let r : Bounds = record { size = x; time = v.time; types_only = v.types_only } in r) e0
    ∙ ap (λ (x : ℕ). let r : Bounds = record { size = w.size; time = x; types_only = v.types_only } in r) e1
    ∙ ap (λ (x : Bool). let r : Bounds = record { size = w.size; time = w.time; types_only = x } in r) e2

pub bounds_unique : IsUnique bounds_part
bounds_unique v w o x y p q =
    let s = step (number_part 2 (2 ^ 31)) (number_unique 2 (2 ^ 31)) _ v.size w.size o p.rest p.first q in
    let t = step (number_part 2 (2 ^ 31)) (number_unique 2 (2 ^ 31)) _ v.time w.time p.rest p.next.rest p.next.first
    s.next in
    let u = flag_unique 1 v.types_only w.types_only p.next.rest x y p.next.next t.next in
    record { value = bounds_same v w s.value t.value u.value; rest = u.rest }

pub filter_unique : IsUnique HasFilter
filter_unique v w o x y p q =
    let same = front_unique v w p.spelling q.spelling x y p.is_filter q.is_filter (sym p.parts ∙ q.parts) in
    record { value = same.0; rest = same.1 }

abbrev pub target_of : SearchRequestValue → Target
target_of s = record { base = s.base; scope = s.scope; deref = s.deref_aliases }

abbrev pub bounds_of : SearchRequestValue → Bounds
bounds_of s = record { size = s.size_limit; time = s.time_limit; types_only = s.types_only }

search_same : (v w : SearchRequestValue) → v.base ≡ w.base → v.scope ≡ w.scope → v.deref_aliases ≡ w.deref_aliases →
    v.size_limit ≡ w.size_limit → v.time_limit ≡ w.time_limit → v.types_only ≡ w.types_only → v.filter ≡ w.filter →
    v.attributes ≡ w.attributes → v ≡ w
search_same v w e0 e1 e2 e3 e4 e5 e6 e7 =
    ap (λ (x : List ℕ). let r : SearchRequestValue = record {
      base = x;
      scope = v.scope;
      deref_aliases =
          v.deref_aliases;
      size_limit = v.size_limit;
      time_limit = v.time_limit;
      types_only = v.types_only;
      filter =
          v.filter;
      attributes = v.attributes;
    } in r) e0
    ∙ ap (λ (x : Scope). let r : SearchRequestValue = record {
      base = w.base;
      scope = x;
      deref_aliases =
          v.deref_aliases;
      size_limit = v.size_limit;
      time_limit = v.time_limit;
      types_only = v.types_only;
      filter =
          v.filter;
      attributes = v.attributes;
    } in r) e1
    ∙ ap (λ (x : DerefAliases). let r : SearchRequestValue = record {
      base = w.base;
      scope = w.scope;
      deref_aliases =
          x;
      size_limit = v.size_limit;
      time_limit = v.time_limit;
      types_only = v.types_only;
      filter =
          v.filter;
      attributes = v.attributes;
    } in r) e2
    ∙ ap (λ (x : ℕ). let r : SearchRequestValue = record {
      base = w.base;
      scope = w.scope;
      deref_aliases =
          w.deref_aliases;
      size_limit = x;
      time_limit = v.time_limit;
      types_only = v.types_only;
      filter =
          v.filter;
      attributes = v.attributes;
    } in r) e3
    ∙ ap (λ (x : ℕ). let r : SearchRequestValue = record {
      base = w.base;
      scope = w.scope;
      deref_aliases =
          w.deref_aliases;
      size_limit = w.size_limit;
      time_limit = x;
      types_only = v.types_only;
      filter =
          v.filter;
      attributes = v.attributes;
    } in r) e4
    ∙ ap (λ (x : Bool). let r : SearchRequestValue = record {
      base = w.base;
      scope = w.scope;
      deref_aliases =
          w.deref_aliases;
      size_limit = w.size_limit;
      time_limit = w.time_limit;
      types_only = x;
      filter =
          v.filter;
      attributes = v.attributes;
    } in r) e5
    ∙ ap (λ (x : Tree). let r : SearchRequestValue = record {
      base = w.base;
      scope = w.scope;
      deref_aliases =
          w.deref_aliases;
      size_limit = w.size_limit;
      time_limit = w.time_limit;
      types_only = w.types_only;
      filter =
          x;
      attributes = v.attributes;
    } in r) e6
    ∙ ap (λ (x : List (List ℕ)). let r : SearchRequestValue = record {
      base = w.base;
      scope = w.scope;
      deref_aliases =
          w.deref_aliases;
      size_limit = w.size_limit;
      time_limit = w.time_limit;
      types_only = w.types_only;
      filter =
          w.filter;
      attributes = x;
    } in r) e7

pub search_one : IsOneValue IsSearchRequest
search_one v w o p q =
    let s = step target_part target_unique _ (target_of v) (target_of w) o p.rest p.first q in
    let t = step bounds_part bounds_unique _ (bounds_of v) (bounds_of w) p.rest p.next.rest p.next.first s.next in
    let u = step HasFilter filter_unique _ v.filter w.filter p.next.rest p.next.next.rest p.next.next.first t.next in
    let r = step (texts_part 48) (texts_part_unique 48) _ v.attributes w.attributes p.next.next.rest
    p.next.next.next.rest p.next.next.next.first u.next in
    search_same v w (ap (λ (z : Target). z.base) s.value) (ap (λ (z : Target). z.scope) s.value)
    (ap (λ (z : Target). z.deref) s.value)
    (ap (λ (z : Bounds). z.size) t.value) (ap (λ (z : Bounds). z.time) t.value) (ap (λ (z : Bounds). z.types_only)
    t.value) u.value r.value
