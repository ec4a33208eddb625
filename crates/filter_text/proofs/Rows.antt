-- Filter texts, reading: filters round filters, and rows of them, as the reader reads them.
use Rattle.std.proofs.Common.{◌≡◌, ℕ, suc, ◌+◌, ◌<◌, ◌≤◌, max, List, [], ◌∷◌, ◌++◌, map, Bool, true, false, not, Option, None, Some, nat_eq, refl, sym, ap, subst, ◌∙◌, arith}
use Rattle.std.specs.Option.{option_map, option_and_then}
use Rattle.std.specs.List.{list_all}
use Rattle.std.proofs.lemmas.List.{map_push}
use Rattle.std.proofs.lemmas.Bool.{eqb-true}
use Rattle.ldap_filter.specs.Item.{Item}
use Rattle.ldap_filter.specs.Tree.{Tree, conj, disj, negation, item, Trees, no_trees, tree, depth, depths, count, counts}
use Rattle.ldap_filter.specs.View.{view, row}
use Rattle.ldap_filter.specs.private.View.{views}
use Rattle.ldap_filter.specs.declared.tree.Filter.{Filter}
use Rattle.filter_text.specs.Items.{IsItemText}
use Rattle.filter_text.specs.Grammar.{HasFilter, HasFilters}
use Rattle.filter_text.specs.declared.fault.FilterTextError.{FilterTextError}
use Rattle.filter_text.specs.declared.fault.FilterTextError.TheVariants.{BadFilterText, TooDeep, TooManyItems, NoMemory}
use Rattle.filter_text.specs.private.Machine.{holds, run, accepts}
use Rattle.filter_text.specs.private.ItemScan.{item_step, item_ends}
use Rattle.filter_text.specs.private.Cuts.{is_other, front, behind, begins_with, item_of}
use Rattle.filter_text.specs.private.Reads.{IsItemRead, PartFault, IsFrontRead, IsRowRead, IsFrontFault, IsRowFault}
use Rattle.filter_text.specs.declared.place.ItemPlace.{ItemPlace}
use Rattle.filter_text.specs.declared.place.ItemPlace.TheVariants.{Start}
use Rattle.filter_text.proofs.Booleans.{both}
use Rattle.filter_text.proofs.Machines.{false_true, none_some, some_same}
use Rattle.filter_text.proofs.ItemRuns.{item_runs}
use Rattle.filter_text.proofs.FilterRuns.{no_close}
use Rattle.filter_text.proofs.Cuts.{front_is, item_is}

pub head_same : {a b : ℕ} {xs ys : List ℕ} → a ∷ xs ≡ b ∷ ys → a ≡ b
head_same e = cc

pub tail_same : {a b : ℕ} {xs ys : List ℕ} → a ∷ xs ≡ b ∷ ys → xs ≡ ys
tail_same e = cc

-- ---- items: none begins as an `and`, an `or` or a `not`, and none has a `)`

lacks_at : (b : Bool) (s : ItemPlace) (c : ℕ) (cs : List ℕ) (r : Option ItemPlace) → nat_eq c 41 ≡ b → item_step s c ≡ r
    → ((t : ItemPlace) → accepts item_step item_ends t cs ≡ true → list_all (is_other 41) cs ≡ true) →
    holds item_ends (option_and_then (λ t. run item_step t cs) r) ≡ true → list_all (is_other 41) (c ∷ cs) ≡ true
lacks_at b s c cs None e f more h = absurd (false_true h)
lacks_at true s c cs (Some t) e f more h =
    absurd (none_some (sym (no_close s) ∙ ap (item_step s) (sym (eqb-true c 41 e)) ∙ f))
lacks_at false s c cs (Some t) e f more h = both (is_other 41 c) (list_all (is_other 41) cs) (ap not e) (more t h)

lacks : (s : ItemPlace) (text : List ℕ) → accepts item_step item_ends s text ≡ true → list_all (is_other 41) text ≡ true
lacks s [] h = refl
lacks s (c ∷ cs) h = lacks_at (nat_eq c 41) s c cs (item_step s c) refl refl (λ t g. lacks t cs g) h

pub item_lacks : (i : Item) (body : List ℕ) → IsItemText i body → list_all (is_other 41) body ≡ true
item_lacks i body p = lacks Start body (item_runs i body p)

-- the first octet of an item
abbrev Opens : ℕ → Type 0
Opens c = item_step Start c ≡ None

opens_at : (c : ℕ) (body x rest : List ℕ) → Opens c → accepts item_step item_ends Start body ≡ true →
    c ∷ x ≡ body ++ 41 ∷ rest → ⊥
opens_at c [] x rest o h e = false_true h
opens_at c (d ∷ ds) x rest o h e =
    false_true (sym (ap (λ r. holds item_ends (option_and_then (λ t. run item_step t ds) r))
    (ap (item_step Start) (sym (head_same e)) ∙ o)) ∙ h)

pub no_item : (i : Item) (c : ℕ) (body x rest : List ℕ) → Opens c → IsItemText i body → c ∷ x ≡ body ++ 41 ∷ rest → ⊥
no_item i c body x rest o p e = opens_at c body x rest o (item_runs i body p) e

-- ---- what a filter begins with

-- two octets at the front
second : {c d : ℕ} {x y : List ℕ} → 40 ∷ c ∷ x ≡ 40 ∷ d ∷ y → c ≡ d
second e = head_same (tail_same e)

inners : {c d : ℕ} {x y : List ℕ} → 40 ∷ c ∷ x ≡ 40 ∷ d ∷ y → x ≡ y
inners e = tail_same (tail_same e)

pub conj_reads : (limit items : ℕ) (text : List ℕ) (us : Trees) (left : ℕ) (after : List ℕ) →
    IsRowRead limit items text us left after
    → IsFrontRead (suc limit) (suc items) (40 ∷ 38 ∷ text) (conj us) left after
conj_reads limit items text us left after r (conj ts) rest p =
    let q = r ts rest (subst (λ x. HasFilters ts x (41 ∷ rest)) (sym (inners p.parts)) p.is_inner) in
    record { same = ap conj q.same; behind = q.behind; deep = omega (arith, q.deep); many = omega (arith, q.many) }
conj_reads limit items text us left after r (disj ts) rest p = absurd (omega (arith, second p.parts))
conj_reads limit items text us left after r (negation t) rest p = absurd (omega (arith, second p.parts))
conj_reads limit items text us left after r (item i) rest p = absurd (no_item i 38 p.is_inner.body text rest refl
    p.is_inner.is_body (tail_same p.parts ∙ p.is_inner.parts))

pub disj_reads : (limit items : ℕ) (text : List ℕ) (us : Trees) (left : ℕ) (after : List ℕ) →
    IsRowRead limit items text us left after
    → IsFrontRead (suc limit) (suc items) (40 ∷ 124 ∷ text) (disj us) left after
disj_reads limit items text us left after r (conj ts) rest p = absurd (omega (arith, second p.parts))
disj_reads limit items text us left after r (disj ts) rest p =
    let q = r ts rest (subst (λ x. HasFilters ts x (41 ∷ rest)) (sym (inners p.parts)) p.is_inner) in
    record { same = ap disj q.same; behind = q.behind; deep = omega (arith, q.deep); many = omega (arith, q.many) }
disj_reads limit items text us left after r (negation t) rest p = absurd (omega (arith, second p.parts))
disj_reads limit items text us left after r (item i) rest p = absurd (no_item i 124 p.is_inner.body text rest refl
    p.is_inner.is_body (tail_same p.parts ∙ p.is_inner.parts))

pub negation_reads : (limit items : ℕ) (text : List ℕ) (u : Tree) (left : ℕ) (after behind : List ℕ) →
    IsFrontRead limit items text u left after → after ≡ 41 ∷ behind
    → IsFrontRead (suc limit) (suc items) (40 ∷ 33 ∷ text) (negation u) left behind
negation_reads limit items text u left after behind r e (conj ts) rest p = absurd (omega (arith, second p.parts))
negation_reads limit items text u left after behind r e (disj ts) rest p = absurd (omega (arith, second p.parts))
negation_reads limit items text u left after behind r e (negation t) rest p =
    let q = r t (41 ∷ rest) (subst (λ x. HasFilter t x (41 ∷ rest)) (sym (inners p.parts)) p.is_inner) in
    record {
      same = ap negation q.same;
      behind = tail_same (sym e ∙ q.behind);
      deep = omega (arith, q.deep);
      many =
          omega (arith, q.many);
    }
negation_reads limit items text u left after behind r e (item i) rest p =
    absurd (no_item i 33 p.is_inner.body text rest refl p.is_inner.is_body (tail_same p.parts ∙ p.is_inner.parts))

-- the octets at the front are other ones
abbrev pub Not : ℕ → List ℕ → Type 0
Not c text = (x : List ℕ) → text ≡ c ∷ x → ⊥

-- what is before the first `)` is the item's text
pub record Body (i : Item) (text rest : List ℕ) : Type 0 where
  pub is_body : IsItemText i (front (is_other 41) text)
  pub next : behind (is_other 41) text ≡ 41 ∷ rest

pub body_of : (i : Item) (text rest body : List ℕ) → text ≡ body ++ 41 ∷ rest → IsItemText i body → Body i text rest
body_of i text rest body e p =
    let f = front_is (is_other 41) body (41 ∷ rest) (item_lacks i body p) refl in
    record {
      is_body = subst (IsItemText i) (sym (ap (front (is_other 41)) e ∙ f.first)) p;
      next = ap (behind (is_other 41)) e ∙ f.next;
    }

item_found : (i : Item) (text rest : List ℕ) (u : Tree) → Body i text rest →
    option_map item (item_of (front (is_other 41) text)) ≡ Some u → u ≡ item i
item_found i text rest u b e = some_same (sym e ∙ ap (option_map item) (item_is i (front (is_other 41) text) b.is_body))

pub item_reads : (limit left : ℕ) (text : List ℕ) (f : Filter) (after : List ℕ) → Not 38 text → Not 124 text →
    Not 33 text
    → IsItemRead (item_of (front (is_other 41) text)) f → behind (is_other 41) text ≡ 41 ∷ after →
    IsFrontRead (suc limit) (suc left) (40 ∷ text) (view f) left after
item_reads limit left text f after a b d e g (conj ts) rest p = absurd (a p.inner (tail_same p.parts))
item_reads limit left text f after a b d e g (disj ts) rest p = absurd (b p.inner (tail_same p.parts))
item_reads limit left text f after a b d e g (negation t) rest p = absurd (d p.inner (tail_same p.parts))
item_reads limit left text f after a b d e g (item i) rest p =
    let k = body_of i text rest p.is_inner.body (tail_same p.parts ∙ p.is_inner.parts) p.is_inner.is_body in
    record {
      same = item_found i text rest (view f) k e;
      behind = tail_same (sym g ∙ k.next);
      deep = omega arith;
      many = omega arith;
    }

-- ---- faults

pub conj_fails : (e : FilterTextError) (limit items : ℕ) (text : List ℕ) → IsRowFault e limit items text →
    IsFrontFault e (suc limit) (suc items) (40 ∷ 38 ∷ text)
conj_fails e limit items text = by e
  where
    inside : (P : Trees → Type 0) → ((ts : Trees) (rest : List ℕ) → HasFilters ts text (41 ∷ rest) → P ts) →
        (t : Tree) (rest : List ℕ) → HasFilter t (40 ∷ 38 ∷ text) rest → (ts : Trees) × (t ≡ conj ts) × P ts
    inside P r (conj ts) rest p =
        (ts, refl, r ts rest (subst (λ x. HasFilters ts x (41 ∷ rest)) (sym (inners p.parts)) p.is_inner))
    inside P r (disj ts) rest p = absurd (omega (arith, second p.parts))
    inside P r (negation t) rest p = absurd (omega (arith, second p.parts))
    inside P r (item i) rest p = absurd (no_item i 38 p.is_inner.body text rest refl p.is_inner.is_body
        (tail_same p.parts ∙ p.is_inner.parts))

    by : (e : FilterTextError) → IsRowFault e limit items text → IsFrontFault e (suc limit) (suc items) (40 ∷ 38 ∷ text)
    by (BadFilterText at) h = λ t rest p. (inside (λ ts. ⊥) h t rest p).2
    by TooDeep h = λ t rest p. let q = inside (λ ts. limit < depths ts) h t rest p in omega (arith, q.2, ap depth q.1)
    by TooManyItems h = λ t rest p. let q = inside (λ ts. items < counts ts) h t rest p in omega
        (arith, q.2, ap count q.1)
    by NoMemory h = tt

pub disj_fails : (e : FilterTextError) (limit items : ℕ) (text : List ℕ) → IsRowFault e limit items text →
    IsFrontFault e (suc limit) (suc items) (40 ∷ 124 ∷ text)
disj_fails e limit items text = by e
  where
    inside : (P : Trees → Type 0) → ((ts : Trees) (rest : List ℕ) → HasFilters ts text (41 ∷ rest) → P ts) →
        (t : Tree) (rest : List ℕ) → HasFilter t (40 ∷ 124 ∷ text) rest → (ts : Trees) × (t ≡ disj ts) × P ts
    inside P r (conj ts) rest p = absurd (omega (arith, second p.parts))
    inside P r (disj ts) rest p =
        (ts, refl, r ts rest (subst (λ x. HasFilters ts x (41 ∷ rest)) (sym (inners p.parts)) p.is_inner))
    inside P r (negation t) rest p = absurd (omega (arith, second p.parts))
    inside P r (item i) rest p = absurd (no_item i 124 p.is_inner.body text rest refl p.is_inner.is_body
        (tail_same p.parts ∙ p.is_inner.parts))

    by : (e : FilterTextError) → IsRowFault e limit items text → IsFrontFault e (suc limit) (suc items)
        (40 ∷ 124 ∷ text)
    by (BadFilterText at) h = λ t rest p. (inside (λ ts. ⊥) h t rest p).2
    by TooDeep h = λ t rest p. let q = inside (λ ts. limit < depths ts) h t rest p in omega (arith, q.2, ap depth q.1)
    by TooManyItems h = λ t rest p. let q = inside (λ ts. items < counts ts) h t rest p in omega
        (arith, q.2, ap count q.1)
    by NoMemory h = tt

negated : (P : Tree → List ℕ → Type 0) (text : List ℕ) → ((u : Tree) (rest : List ℕ) → HasFilter u text rest →
    P u rest) → (t : Tree) (rest : List ℕ) → HasFilter t (40 ∷ 33 ∷ text) rest
    → (u : Tree) × (t ≡ negation u) × P u (41 ∷ rest)
negated P text r (conj ts) rest p = absurd (omega (arith, second p.parts))
negated P text r (disj ts) rest p = absurd (omega (arith, second p.parts))
negated P text r (negation u) rest p =
    (u, refl, r u (41 ∷ rest) (subst (λ x. HasFilter u x (41 ∷ rest)) (sym (inners p.parts)) p.is_inner))
negated P text r (item i) rest p = absurd (no_item i 33 p.is_inner.body text rest refl p.is_inner.is_body
    (tail_same p.parts ∙ p.is_inner.parts))

pub negation_fails : (e : FilterTextError) (limit items : ℕ) (text : List ℕ) → IsFrontFault e limit items text →
    IsFrontFault e (suc limit) (suc items) (40 ∷ 33 ∷ text)
negation_fails (BadFilterText at) limit items text h = λ t rest p. (negated (λ u r. ⊥) text h t rest p).2
negation_fails TooDeep limit items text h = λ t rest p. let q = negated (λ u r. limit < depth u) text h t rest p
    in omega (arith, q.2, ap depth q.1)
negation_fails TooManyItems limit items text h = λ t rest p. let q = negated (λ u r. items < count u) text h t rest p
    in omega (arith, q.2, ap count q.1)
negation_fails NoMemory limit items text h = tt

-- no `)` behind what is negated
pub negation_open : (limit items : ℕ) (text : List ℕ) (u : Tree) (left : ℕ) (after : List ℕ) →
    IsFrontRead limit items text u left after → Not 41 after
    → (t : Tree) (rest : List ℕ) → HasFilter t (40 ∷ 33 ∷ text) rest → ⊥
negation_open limit items text u left after r n t rest p =
    let q = negated (λ v s. after ≡ s) text (λ v s h. (r v s h).behind) t rest p in n rest q.2

item_inside : (P : Item → List ℕ → Type 0) (text : List ℕ) → Not 38 text → Not 124 text → Not 33 text →
    ((i : Item) (rest : List ℕ) → Body i text rest → P i rest)
    → (t : Tree) (rest : List ℕ) → HasFilter t (40 ∷ text) rest → (i : Item) × P i rest
item_inside P text a b d r (conj ts) rest p = absurd (a p.inner (tail_same p.parts))
item_inside P text a b d r (disj ts) rest p = absurd (b p.inner (tail_same p.parts))
item_inside P text a b d r (negation t) rest p = absurd (d p.inner (tail_same p.parts))
item_inside P text a b d r (item i) rest p =
    (i, r i rest (body_of i text rest p.is_inner.body (tail_same p.parts ∙ p.is_inner.parts) p.is_inner.is_body))

pub item_open : (text : List ℕ) → Not 38 text → Not 124 text → Not 33 text → Not 41 (behind (is_other 41) text) →
    (t : Tree) (rest : List ℕ) → HasFilter t (40 ∷ text) rest → ⊥
item_open text a b d n t rest p = (item_inside (λ i r. ⊥) text a b d (λ i r k. n r k.next) t rest p).1

pub item_fails : (e : FilterTextError) (limit items : ℕ) (text : List ℕ) → Not 38 text → Not 124 text → Not 33 text
    → PartFault e (item_of (front (is_other 41) text) ≡ None) → IsFrontFault e limit items (40 ∷ text)
item_fails (BadFilterText at) limit items text a b d h =
    λ t rest p. (item_inside (λ i r. ⊥) text a b d (λ i r k. none_some (sym h ∙ item_is i (front (is_other 41) text)
    k.is_body)) t rest p).1
item_fails TooDeep limit items text a b d h = absurd h
item_fails TooManyItems limit items text a b d h = absurd h
item_fails NoMemory limit items text a b d h = tt

-- no filter is at the front without `(`
pub opened : (t : Tree) (text rest : List ℕ) → HasFilter t text rest → (x : List ℕ) × (text ≡ 40 ∷ x)
opened (conj ts) text rest p = (38 ∷ p.inner, p.parts)
opened (disj ts) text rest p = (124 ∷ p.inner, p.parts)
opened (negation t) text rest p = (33 ∷ p.inner, p.parts)
opened (item i) text rest p = (p.inner, p.parts)

pub not_opened : (text : List ℕ) → Not 40 text → (t : Tree) (rest : List ℕ) → HasFilter t text rest → ⊥
not_opened text n t rest p = let o = opened t text rest p in n o.0 o.1

pub some_depth : (t : Tree) → 0 < depth t
some_depth (conj ts) = omega arith
some_depth (disj ts) = omega arith
some_depth (negation t) = omega arith
some_depth (item i) = omega arith

pub some_count : (t : Tree) → 0 < count t
some_count (conj ts) = omega arith
some_count (disj ts) = omega arith
some_count (negation t) = omega arith
some_count (item i) = omega arith

-- ---- rows

-- one row behind another
abbrev joined : Trees → Trees → Trees
joined no_trees us = us
joined (tree t ts) us = tree t (joined ts us)

abbrev push : Trees → Tree → Trees
push no_trees u = tree u no_trees
push (tree t ts) u = tree t (push ts u)

row_push : (ts : List Tree) (u : Tree) → row (ts ++ u ∷ []) ≡ push (row ts) u
row_push [] u = refl
row_push (t ∷ ts) u = ap (tree t) (row_push ts u)

pub views_push : (fs : List Filter) (f : Filter) → views (fs ++ f ∷ []) ≡ push (views fs) (view f)
views_push fs f = ap row (map_push view fs f) ∙ row_push (map view fs) (view f)

joined_push : (ts : Trees) (u : Tree) (us : Trees) → joined (push ts u) us ≡ joined ts (tree u us)
joined_push no_trees u us = refl
joined_push (tree t ts) u us = ap (tree t) (joined_push ts u us)

joined_none : (ts : Trees) → joined ts no_trees ≡ ts
joined_none no_trees = refl
joined_none (tree t ts) = ap (tree t) (joined_none ts)

-- what is left of a row, behind what was read of it
pub record Others (limit items : ℕ) (us : Trees) (left : ℕ) (ts : Trees) (behind : List ℕ) (rest : List ℕ) :
    Type 0 where
  pub others : Trees
  pub spell : HasFilters others behind (41 ∷ rest)
  pub same : ts ≡ joined us others
  pub deep : depths others ≤ limit → depths ts ≤ limit
  pub less : depths others ≤ depths ts
  pub many : counts ts + left ≡ items + counts others

-- whatever row stands at the front
abbrev pub SoFar : ℕ → ℕ → List ℕ → Trees → ℕ → List ℕ → Type 0
SoFar limit items text us left behind = (ts : Trees) (rest : List ℕ) → HasFilters ts text (41 ∷ rest) →
    Others limit items us left ts behind rest

pub begins : (limit items : ℕ) (text : List ℕ) → SoFar limit items text no_trees items text
begins limit items text ts rest p = record {
  others = ts;
  spell = p;
  same = refl;
  deep = λ h. h;
  less = omega arith;
  many = omega arith;
}

abbrev pub IsOpen : List ℕ → Type 0
IsOpen text = begins_with 40 text ≡ true

closed : (text rest : List ℕ) → IsOpen text → text ≡ 41 ∷ rest → ⊥
closed text rest o e = false_true (sym (ap (begins_with 40) e) ∙ o)

one_more : (limit items : ℕ) (us : Trees) (left : ℕ) (ts : Trees) (text rest : List ℕ) (u : Tree) (fewer : ℕ)
    (after : List ℕ) (vs : Trees) → IsOpen text → IsFrontRead limit left text u fewer after
    → HasFilters vs text (41 ∷ rest) → ts ≡ joined us vs → (depths vs ≤ limit → depths ts ≤ limit) →
    depths vs ≤ depths ts → counts ts + left ≡ items + counts vs → Others limit items (push us u) fewer ts after
    rest
one_more limit items us left ts text rest u fewer after no_trees o r p e d l m = absurd (closed text rest o p)
one_more limit items us left ts text rest u fewer after (tree v vs) o r p e d l m =
    let q = r v p.between p.first in
    let same : counts (tree v vs) ≡ count v + counts vs = refl in
    let deeper : depths (tree v vs) ≡ max (depth v) (depths vs) = refl in
    record {
      others = vs;
      spell = subst (λ x. HasFilters vs x (41 ∷ rest)) (sym q.behind) p.next;
      same = e ∙ ap (λ w. joined us (tree w vs)) (sym q.same) ∙ sym (joined_push us u vs);
      deep = λ h. d (omega (arith, h, q.deep));
      less = omega (arith, l);
      many = omega (arith, m, q.many);
    }

pub goes_on : (limit items : ℕ) (text : List ℕ) (us : Trees) (left : ℕ) (behind : List ℕ) (u : Tree) (fewer : ℕ)
    (after : List ℕ) → SoFar limit items text us left behind → IsOpen behind
    → IsFrontRead limit left behind u fewer after → SoFar limit items text (push us u) fewer after
goes_on limit items text us left behind u fewer after so_far o r ts rest p =
    let q = so_far ts rest p in one_more limit items us left ts behind rest u fewer after q.others o r q.spell q.same
    q.deep q.less q.many

not_open : (vs : Trees) (text rest : List ℕ) → begins_with 40 text ≡ false → HasFilters vs text (41 ∷ rest) →
    (vs ≡ no_trees) × (text ≡ 41 ∷ rest)
not_open no_trees text rest o p = (refl, p)
not_open (tree v vs) text rest o p = let x = opened v text p.between p.first in absurd
    (false_true (sym (sym (ap (begins_with 40) x.1) ∙ o)))

pub ends : (limit items : ℕ) (text : List ℕ) (us : Trees) (left : ℕ) (behind after : List ℕ) →
    SoFar limit items text us left behind → begins_with 40 behind ≡ false → behind ≡ 41 ∷ after
    → IsRowRead limit items text us left after
ends limit items text us left behind after so_far o e ts rest p =
    let q = so_far ts rest p in
    let n = not_open q.others behind rest o q.spell in
    record {
      same = sym (q.same ∙ ap (joined us) n.0 ∙ joined_none us);
      behind = tail_same (sym e ∙ n.1);
      deep = q.deep (omega (arith, ap depths n.0));
      many = omega (arith, q.many, ap counts n.0);
    }

pub never_ends : (limit items : ℕ) (text : List ℕ) (us : Trees) (left : ℕ) (behind : List ℕ) →
    SoFar limit items text us left behind → begins_with 40 behind ≡ false → Not 41 behind
    → (ts : Trees) (rest : List ℕ) → HasFilters ts text (41 ∷ rest) → ⊥
never_ends limit items text us left behind so_far o n ts rest p =
    let q = so_far ts rest p in
    n rest (not_open q.others behind rest o q.spell).1

-- the first of what is left
first_of : (vs : Trees) (text rest : List ℕ) → IsOpen text → HasFilters vs text (41 ∷ rest) → (u : Tree)
    × (after : List ℕ) × HasFilter u text after × (depth u ≤ depths vs) × (count u ≤ counts vs)
first_of no_trees text rest o p = absurd (closed text rest o p)
first_of (tree v vs) text rest o p = (v, p.between, p.first, omega arith, omega arith)

pub row_fails : (e : FilterTextError) (limit items : ℕ) (text : List ℕ) (us : Trees) (left : ℕ) (behind : List ℕ) →
    SoFar limit items text us left behind → IsOpen behind
    → IsFrontFault e limit left behind → IsRowFault e limit items text
row_fails (BadFilterText at) limit items text us left behind so_far o h = λ ts rest p.
    let q = so_far ts rest p in
    let f = first_of q.others behind rest o q.spell in
    h f.0 f.1 f.2
row_fails TooDeep limit items text us left behind so_far o h = λ ts rest p.
    let q = so_far ts rest p in
    let f = first_of q.others behind rest o q.spell in
    omega (arith, h f.0 f.1 f.2, f.3, q.less)
row_fails TooManyItems limit items text us left behind so_far o h = λ ts rest p.
    let q = so_far ts rest p in
    let f = first_of q.others behind rest o q.spell in
    omega (arith, h f.0 f.1 f.2, f.4, q.many)
row_fails NoMemory limit items text us left behind so_far o h = tt
