-- What is answered once what is found is seen in other words.
use Rattle.std.proofs.Common.{◌≡◌, ◌∙◌, ◌≤◌, ℕ, List, length, Result, sym, subst}
use Rattle.std.specs.Prelude.{IfOk}
use Rattle.std.proofs.Common.{Bool, true, false, ◌&&◌, not, Option, None, Some, ap}
use Rattle.indexed_tree.specs.ldap_schema.Schema.{SchemaModel}
use Rattle.ldap_eval.specs.declared.bound.BoundFilter.{BoundFilter}
use Rattle.indexed_tree.specs.directory_api.ldap_msg.Messages.{SearchRequestValue}
use Rattle.indexed_tree.specs.directory_api.ldap_msg.ldap_requests.declared.search.Scope.{Scope}
use Rattle.indexed_tree.specs.directory_api.ldap_msg.ldap_requests.declared.search.Scope.TheVariants.{BaseObject, SingleLevel, WholeSubtree, SubordinateSubtree}
use Rattle.indexed_tree.specs.index_choice.declared.kinds.Kinds.{Kinds}
use Rattle.indexed_tree.specs.ldap_dn.Names.{RdnModel, rdns}
use Rattle.indexed_tree.specs.dir_tree.Directory.{Entered}
use Rattle.indexed_tree.specs.Listed.{StoreModel}
use Rattle.dir_search.specs.private.Among.{FindsOf, FindsWhere}
use Rattle.dir_search.specs.Answer.{is_subordinate, is_empty, is_base, stands}
use Rattle.indexed_tree.specs.directory_api.Answers.{Answer}
use Rattle.dir_search.specs.Counted.{IsCountAtBase, IsCountFrom, IsCountAt}
use Rattle.dir_search.specs.Evaluated.{IsFewAt}
use Rattle.dir_search.specs.private.Numbered.{found_of}
use Rattle.dir_search.specs.Scopes.{is_in_scope}
use Rattle.dir_search.specs.private.View.{Finds, FindsAmong}
use Rattle.dir_search.specs.declared.bound_search.BoundSearch.{BoundSearch}
use Rattle.indexed_tree.specs.directory_api.declared.search_answer.SearchAnswer.{SearchAnswer}

-- among the same numbers
pub among_same : {E : Type 0} (r : Result SearchAnswer E) (b : BoundSearch) (ks ls : List ℕ) → ks ≡ ls →
    IfOk r (FindsOf b ks) → IfOk r (FindsOf b ls)
among_same r b ks ls same h = subst (λ (l : List ℕ). IfOk r (FindsOf b l)) same h

-- in the same scope
pub among_scope : {E : Type 0} (r : Result SearchAnswer E) (b : BoundSearch) (x : Scope) → b.request.now.scope ≡ x
    → IfOk r (FindsWhere b (is_in_scope (rdns b.indexed.now.tree.suffix) x (rdns b.base.now))) →
    IfOk r (FindsWhere b (is_in_scope (rdns b.indexed.now.tree.suffix) b.request.now.scope (rdns b.base.now)))
among_scope r b x is h = subst
    (λ (y : Scope). IfOk r (FindsWhere b (is_in_scope (rdns b.indexed.now.tree.suffix) y (rdns b.base.now)))) (sym is) h

-- as many numbers as entries, and what is found of them
pub found_among : (a : SearchAnswer) (s : SchemaModel) (q : SearchRequestValue) (ix : List Kinds) (b : BoundFilter)
    (d : List Entered) (ks : List ℕ) (x : Answer) (n : ℕ)
    → found_of s q ks d ≡ x → length ks ≡ n → FindsAmong a s q ix b d ks → Finds a x n
found_among a s q ix b d ks x n same count h = record {
  shown = h.shown ∙ same;
  tests = subst (λ (k : ℕ). a.tests ≤ k)
      count h.few.within;
}

-- what is not gone over
pub not_root : (sub root stands : Bool) → root ≡ true → (not sub && (not root && stands)) ≡ true → ⊥
not_root true root stands e h = cc
not_root false true stands e h = cc
not_root false false stands e h = cc

pub not_standing : (sub root stands : Bool) → stands ≡ false → (not sub && (not root && stands)) ≡ true → ⊥
not_standing true root stands e h = cc
not_standing false true stands e h = cc
not_standing false false true e h = cc
not_standing false false false e h = cc

-- nothing is subordinate to be gone over
pub no_scope : (s : StoreModel) (q : SearchRequestValue) (o : Option (List RdnModel)) (tests : ℕ) →
    is_subordinate q.scope ≡ true → IsFewAt s q o tests
no_scope s q None tests h = tt
no_scope s q (Some base) tests h =
    λ over.
    let none : false ≡ true =
    sym (ap (λ (b : Bool). not b && (not (is_empty base && is_base q.scope) && stands s.directory base)) h)
    ∙ over in
    absurd (cc none)

-- the count of the root DSE alone, of what is gone over, and of a base without an entry
pub count_root : (s : StoreModel) (q : SearchRequestValue) (base : List RdnModel) (tests : ℕ) →
    (is_empty base && is_base q.scope) ≡ true → tests ≡ 1 → IsCountFrom s q base tests
count_root s q base tests root h =
    record {
      over = λ over. absurd (not_root (is_subordinate q.scope) _ (stands s.directory base) root over);
      root =
          λ is. h;
    }

pub count_over : (s : StoreModel) (q : SearchRequestValue) (base : List RdnModel) (tests : ℕ) →
    (is_empty base && is_base q.scope) ≡ false → IsCountAtBase s.indexes s.directory q base tests →
    IsCountFrom s q base tests
count_over s q base tests root h = record { over = λ over. h; root = λ is. absurd (cc (sym is ∙ root)) }

pub count_none : (s : StoreModel) (q : SearchRequestValue) (base : List RdnModel) (tests : ℕ) →
    (is_empty base && is_base q.scope) ≡ false → stands s.directory base ≡ false → IsCountFrom s q base tests
count_none s q base tests root h =
    record {
      over = λ over. absurd (not_standing (is_subordinate q.scope) (is_empty base && is_base q.scope) _ h
          over);
      root = λ is. absurd (cc (sym is ∙ root));
    }

not_base : (x : Scope) (b : Bool) → is_subordinate x ≡ true → (b && is_base x) ≡ true → ⊥
not_base BaseObject b h k = cc h
not_base SingleLevel b h k = cc h
not_base WholeSubtree b h k = cc h
not_base SubordinateSubtree true h k = cc k
not_base SubordinateSubtree false h k = cc k

pub no_scope_counted : (s : StoreModel) (q : SearchRequestValue) (o : Option (List RdnModel)) (tests : ℕ) →
    is_subordinate q.scope ≡ true → IsCountAt s q o tests
no_scope_counted s q None tests h = tt
no_scope_counted s q (Some base) tests h = record {
  over = λ over.
      let none : false ≡ true =
      sym (ap (λ (b : Bool). not b && (not (is_empty base && is_base q.scope) && stands s.directory base)) h)
      ∙ over in
      absurd (cc none);
  root = λ is. absurd (not_base q.scope (is_empty base) h is);
}
