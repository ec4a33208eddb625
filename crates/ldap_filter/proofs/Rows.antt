-- A row of filters that grows, as the loop reads it.
use Rattle.std.proofs.Common.{◌≡◌, ℕ, ◌+◌, ◌≤◌, max, List, [], ◌∷◌, ◌++◌, map, refl, sym, ap, subst, ◌∙◌, append_assoc, arith}
use Rattle.std.proofs.lemmas.List.{append-nil, map_push}
use Rattle.ldap_filter.specs.Tree.{Tree, Trees, no_trees, tree, depth, depths, count, counts}
use Rattle.ldap_filter.specs.View.{view, row}
use Rattle.ldap_filter.specs.private.View.{views}
use Rattle.ldap_filter.specs.Grammar.{AreFilters, IsFilter}
use Rattle.ldap_filter.specs.Limits.{IsFault}
use Rattle.ldap_filter.specs.private.Limits.{Reads, ReadsRow, IsRowFault}
use Rattle.ldap_filter.specs.declared.tree.Filter.{Filter}
use Rattle.ldap_ber.specs.declared.message_fault.MsgFault.{MsgFault}
use Rattle.ldap_ber.specs.declared.message_fault.MsgFault.TheVariants.{TooLarge, NotAMessage, TooDeep, TooManyItems, NoMemory}
use Rattle.ldap_filter.proofs.Unique.{behind}

-- the trees with one more at the end
abbrev pub push : Trees → Tree → Trees
push no_trees u = tree u no_trees
push (tree t ts) u = tree t (push ts u)

row_push : (ts : List Tree) (u : Tree) → row (ts ++ u ∷ []) ≡ push (row ts) u
row_push [] u = refl
row_push (t ∷ ts) u = ap (tree t) (row_push ts u)

pub views_push : (fs : List Filter) (f : Filter) → views (fs ++ f ∷ []) ≡ push (views fs) (view f)
views_push fs f = ap row (map_push view fs f) ∙ row_push (map view fs) (view f)

are_push : (ts : Trees) (u : Tree) (done s : List ℕ) → AreFilters ts done → IsFilter u s →
    AreFilters (push ts u) (done ++ s)
are_push no_trees u done s are is = record {
  first = s;
  rest = [];
  parts = ap (λ (x : List ℕ). x ++ s) are
      ∙ sym (append-nil s);
  is_first = is;
  is_rest = refl;
}
are_push (tree t ts) u done s are is = record {
  first = are.first;
  rest = are.rest ++ s;
  parts = ap (λ (x : List ℕ). x ++ s) are.parts ∙ append_assoc are.first are.rest s;
  is_first = are.is_first;
  is_rest = are_push ts u are.rest s are.is_rest is;
}

depths_push : (ts : Trees) (u : Tree) → depths (push ts u) ≡ max (depths ts) (depth u)
depths_push no_trees u = omega arith
depths_push (tree t ts) u = omega (arith, depths_push ts u)

counts_push : (ts : Trees) (u : Tree) → counts (push ts u) ≡ counts ts + count u
counts_push no_trees u = omega arith
counts_push (tree t ts) u = omega (arith, counts_push ts u)

-- what a row has read of its content
pub record SoFar (limit items : ℕ) (content : List ℕ) (ts : Trees) (left : ℕ) (rest : List ℕ) : Type 0 where
  pub done : List ℕ
  pub parts : content ≡ done ++ rest
  pub are_filters : AreFilters ts done
  pub deep : depths ts ≤ limit
  pub many : counts ts + left ≡ items

pub begins : (limit items : ℕ) (content : List ℕ) → SoFar limit items content no_trees items content
begins limit items content = record {
  done = [];
  parts = refl;
  are_filters = refl;
  deep = omega arith;
  many =
      omega arith;
}

pub goes_on : (limit items : ℕ) (content : List ℕ) (ts : Trees) (left : ℕ) (rest : List ℕ) (t : Tree) (fewer : ℕ)
    (after : List ℕ)
    → SoFar limit items content ts left rest → Reads limit left rest t fewer after → SoFar limit items content
    (push ts t) fewer after
goes_on limit items content ts left rest t fewer after so_far reads = record {
  done = so_far.done ++ reads.spelling;
  parts = so_far.parts ∙ ap (λ (x : List ℕ). so_far.done ++ x) reads.parts
      ∙ sym (append_assoc so_far.done reads.spelling after);
  are_filters = are_push ts t so_far.done reads.spelling so_far.are_filters reads.is_filter;
  deep = omega (arith, depths_push ts t, so_far.deep, reads.deep);
  many = omega (arith, counts_push ts t, so_far.many, reads.many);
}

pub ends : (limit items : ℕ) (content : List ℕ) (ts : Trees) (left : ℕ) (rest : List ℕ) → SoFar limit items content ts
    left rest → rest ≡ [] → ReadsRow limit items content ts left
ends limit items content ts left rest so_far e =
    let whole : so_far.done ≡ content = sym (append-nil so_far.done) ∙ ap (λ (x : List ℕ). so_far.done ++ x) (sym e)
    ∙ sym so_far.parts in
    record { are_filters = subst (AreFilters ts) whole so_far.are_filters; deep = so_far.deep; many = so_far.many }

no_row : (us : Trees) (rest : List ℕ) → (rest ≡ [] → ⊥) → ((t : Tree) (s x : List ℕ) → IsFilter t s → rest ≡ s ++ x →
    ⊥) → AreFilters us rest → ⊥
no_row no_trees rest some none are = some are
no_row (tree u us) rest some none are = none u are.first are.rest are.is_first are.parts

pub fails : (e : MsgFault) (limit items : ℕ) (content : List ℕ) (ts : Trees) (left : ℕ) (rest : List ℕ)
    → SoFar limit items content ts left rest → (rest ≡ [] → ⊥) → IsFault e limit left rest →
    IsRowFault e limit items content
fails NotAMessage limit items content ts left rest so_far some fault =
    λ us are.
    let b = behind ts us so_far.done rest content so_far.are_filters are so_far.parts in
    no_row b.others rest some fault b.are_filters
fails TooDeep limit items content ts left rest so_far some fault = (
  counts ts + fault.0,
  record {
    before = ts;
    done = so_far.done;
    after = rest;
    inner = fault.0;
    parts =
        so_far.parts;
    are_filters = so_far.are_filters;
    items = refl;
    opens = fault.1;
  },
)
fails TooManyItems limit items content ts left rest so_far some fault = (
  fault.0,
  record {
    before = ts;
    done = so_far.done;
    after = rest;
    inner = left;
    parts = so_far.parts;
    are_filters = so_far.are_filters;
    items = sym so_far.many;
    opens = fault.1;
  },
)
fails NoMemory limit items content ts left rest so_far some fault = tt
fails TooLarge limit items content ts left rest so_far some fault = fault
