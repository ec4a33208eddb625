-- What the indexes decide of a bound filter is what they decide of the filter that it is made of, and the same of
-- runs.
use Rattle.std.proofs.Common.{◌≡◌, ℕ, ◌+◌, Bool, true, false, not, ◌&&◌, ◌||◌, List, [], ◌∷◌, ◌++◌, cond, Option, None, Some, Vec, Box, Global, map, refl, sym, ap, ap₂, ◌∙◌}
use Rattle.std.specs.List.{list_any, list_all}
use Rattle.ldap_eval.specs.dir_entry.ldap_schema.Schema.{SchemaModel, TypeModel, find, is_under}
use Rattle.ldap_eval.specs.ldap_filter.Item as filter_item
use Rattle.ldap_eval.specs.ldap_filter.Item.{ExtensibleValue}
use Rattle.ldap_eval.specs.ldap_filter.Tree.{Tree, conj, disj, negation, item, Trees, no_trees, tree}
use Rattle.ldap_eval.specs.ldap_match.Item.{Item, present, equal, substrings, is_answerable}
use Rattle.ldap_eval.specs.Matched.{match_for}
use Rattle.ldap_eval.specs.declared.naming_rules.How.{How}
use Rattle.ldap_eval.specs.ldap_match.Keyed.{test_for}
use Rattle.ldap_eval.specs.dir_entry.Entry.{KeyedAttribute, attributes_of, IsKeyedBy}
use Rattle.dir_index.specs.index_choice.declared.kinds.Kinds.{Kinds}
use Rattle.ldap_eval.specs.Value.{asked_by, parts_of, how_of, type_of, is_matched, is_looked_at}
use Rattle.ldap_eval.specs.Bound.{leaf_if, leaves_from, matches_from, matches_for, matches_with}
use Rattle.ldap_eval.specs.Made.{IsMadeOf, AreMadeOf, IsMadeOfItem, IsItemFor, IsItemOn, IsMatchOn, IsMatchFor, IsExtensible, is_equality_item}
use Rattle.ldap_eval.specs.declared.bound.Leaf.{Leaf}
use Rattle.ldap_eval.specs.declared.bound.Match.{Match}
use Rattle.ldap_eval.specs.declared.bound.BoundFilter.{BoundFilter}
use Rattle.ldap_eval.specs.declared.bound.BoundFilter.TheVariants as bound
use Rattle.ldap_eval.specs.declared.bound.BoundFilter.TheVariants.{rolls-And, rolls-Or, rolls-Not, rolls-Undefined, rolls-Leaf, rolls-Match}
use Rattle.ldap_eval.specs.declared.bound.BoundFilter.TheOpen.{BoundFilter-F}
use Rattle.ldap_eval.specs.declared.bound.BoundFilter.TheFolds.{fold-roll-BoundFilter}
use Rattle.search_plans.specs.Bounds.{is_decided as is_bound_decided, decided_step, is_test_decided}
use Rattle.search_plans.specs.OctetRuns.{has_runs_for, runs_step, has_runs_of_test}
use Rattle.search_plans.specs.Decided.{put_if, types_from, types_under, is_decided_on, is_item_decided, looks_from, looks_at_some, is_left_open, is_extensible_decided, is_wire_item_decided, is_decided, are_decided}
use Rattle.search_plans.specs.Held.{has_runs_on, has_runs_of_item, has_runs_of_extensible, has_runs_of_wire_item, has_runs, has_all_runs, has_some_runs}
use Rattle.search_plans.proofs.HeldRuns.{TestsAreItems, test_decided, test_held}
use Rattle.std.specs.Option.{option_flatten}

module _ (ix : List Kinds) where
  decided-And : (v : Vec BoundFilter Global) → is_bound_decided ix (bound.And v) ≡ list_all (λ b. b)
      (map (is_bound_decided ix) v.items)
  decided-And v = ap (is_bound_decided ix) (sym (rolls-And v)) ∙ fold-roll-BoundFilter Bool (decided_step ix)
      (BoundFilter-F.And v)

  decided-Or : (v : Vec BoundFilter Global) → is_bound_decided ix (bound.Or v) ≡ list_all (λ b. b)
      (map (is_bound_decided ix) v.items)
  decided-Or v = ap (is_bound_decided ix) (sym (rolls-Or v)) ∙ fold-roll-BoundFilter Bool (decided_step ix)
      (BoundFilter-F.Or v)

  decided-Not : (x : Box BoundFilter Global) → is_bound_decided ix (bound.Not x) ≡ is_bound_decided ix x.value
  decided-Not x = ap (is_bound_decided ix) (sym (rolls-Not x)) ∙ fold-roll-BoundFilter Bool (decided_step ix)
      (BoundFilter-F.Not x)

  decided-Undefined : is_bound_decided ix bound.Undefined ≡ true
  decided-Undefined = ap (is_bound_decided ix) (sym rolls-Undefined) ∙ fold-roll-BoundFilter Bool (decided_step ix)
      BoundFilter-F.Undefined

  decided-Leaf : (leaf : Leaf) → is_bound_decided ix (bound.Leaf leaf) ≡ is_test_decided ix leaf.type_id leaf.test
  decided-Leaf leaf = ap (is_bound_decided ix) (sym (rolls-Leaf leaf)) ∙ fold-roll-BoundFilter Bool (decided_step ix)
      (BoundFilter-F.Leaf leaf)

  decided-Match : (m : Match) → is_bound_decided ix (bound.Match m) ≡ false
  decided-Match m = ap (is_bound_decided ix) (sym (rolls-Match m)) ∙ fold-roll-BoundFilter Bool (decided_step ix)
      (BoundFilter-F.Match m)

-- both of two rows, and some of them
all_append : (f : BoundFilter → Bool) (xs ys : List BoundFilter) → list_all (λ b. b) (map f (xs ++ ys)) ≡
    (list_all (λ b. b) (map f xs) && list_all (λ b. b) (map f ys))
all_append f [] ys = refl
all_append f (x ∷ xs) ys = by (f x) (all_append f xs ys)
  where
    by : (b : Bool) → list_all (λ b. b) (map f (xs ++ ys)) ≡ (list_all (λ b. b) (map f xs)
        && list_all (λ b. b) (map f ys))
        → (b && list_all (λ b. b) (map f (xs ++ ys))) ≡ ((b && list_all (λ b. b) (map f xs))
        && list_all (λ b. b) (map f ys))
    by true ih = ih
    by false ih = refl

any_append : (f : BoundFilter → Bool) (xs ys : List BoundFilter) → list_any (λ b. b) (map f (xs ++ ys)) ≡
    (list_any (λ b. b) (map f xs) || list_any (λ b. b) (map f ys))
any_append f [] ys = refl
any_append f (x ∷ xs) ys = by (f x) (any_append f xs ys)
  where
    by : (b : Bool) → list_any (λ b. b) (map f (xs ++ ys)) ≡ (list_any (λ b. b) (map f xs) || list_any (λ b. b)
        (map f ys))
        → (b || list_any (λ b. b) (map f (xs ++ ys))) ≡ ((b || list_any (λ b. b) (map f xs)) || list_any (λ b. b)
        (map f ys))
    by true ih = refl
    by false ih = ih

module _ (law : TestsAreItems) (s : SchemaModel) (ix : List Kinds) where
  decided_matches_from : (h : How) (t : Option ℕ) (a : List ℕ) (dn : Bool) (xs : List TypeModel) (i : ℕ) →
      list_all (λ b. b) (map (is_bound_decided ix) (matches_from s h t a dn xs i)) ≡ not (looks_from s h t xs i)
  decided_matches_from h t a dn [] i = refl
  decided_matches_from h t a dn (x ∷ xs) i = by (is_looked_at s h t i) (decided_matches_from h t a dn xs (i + 1))
    where
      by : (b : Bool) → list_all (λ b. b) (map (is_bound_decided ix) (matches_from s h t a dn xs (i + 1))) ≡
          not (looks_from s h t xs (i + 1))
          → list_all (λ b. b) (map (is_bound_decided ix)
          (leaf_if b (bound.Match (record { type_id = i; test = match_for s h a i; in_name = dn }))
          (matches_from s h t a dn xs (i + 1)))) ≡ not (b || looks_from s h t xs (i + 1))
      by true ih =
          ap (λ (x : Bool). x && list_all (λ b. b) (map (is_bound_decided ix) (matches_from s h t a dn xs (i + 1))))
          (decided-Match ix (record { type_id = i; test = match_for s h a i; in_name = dn }))
      by false ih = ih

  decided_matches : (h : How) (t : Option ℕ) (a : List ℕ) (dn : Bool) →
      list_all (λ b. b) (map (is_bound_decided ix) (matches_with s h t a dn)) ≡ not (looks_at_some s h t)
  decided_matches h t a dn =
      all_append (is_bound_decided ix) (matches_for s h t a false) (cond dn (matches_for s h t a true) [])
      ∙ ap₂ (λ (x y : Bool). x && y) (decided_matches_from h t a false s.types 0) (named dn)
      ∙ same (looks_at_some s h t) dn
    where
      named : (b : Bool) → list_all (λ b. b) (map (is_bound_decided ix) (cond b (matches_for s h t a true) [])) ≡
          cond b (not (looks_at_some s h t)) true
      named true = decided_matches_from h t a true s.types 0
      named false = refl

      same : (l b : Bool) → (not l && cond b (not l) true) ≡ not l
      same true b = refl
      same false true = refl
      same false false = refl

  decided_match_on : (h : How) (t : Option ℕ) (a : List ℕ) (dn : Bool) (b : BoundFilter) → IsMatchOn s h t a dn b →
      is_bound_decided ix b ≡ not (is_matched s h t a && looks_at_some s h t)
  decided_match_on h t a dn b m = by (is_matched s h t a) refl
    where
      by : (can : Bool) → is_matched s h t a ≡ can → is_bound_decided ix b ≡ not (can && looks_at_some s h t)
      by true e =
          let o = m.matched e in
          ap (is_bound_decided ix) o.is ∙ decided-Or ix o.parts
          ∙ ap (λ (l : List BoundFilter). list_all (λ b. b) (map (is_bound_decided ix) l)) o.hold
          ∙ decided_matches h t a dn
      by false e = ap (is_bound_decided ix) (m.unmatched e) ∙ decided-Undefined ix

  decided_match_for : (x : ExtensibleValue) (h : Option How) (t : Option (Option ℕ)) (b : BoundFilter) →
      IsMatchFor s x h t b → is_bound_decided ix b ≡ not (is_left_open s x h t)
  decided_match_for x None t b m = ap (is_bound_decided ix) m ∙ decided-Undefined ix
  decided_match_for x (Some h) None b m = ap (is_bound_decided ix) m ∙ decided-Undefined ix
  decided_match_for x (Some h) (Some t) b m = decided_match_on h t x.match_value x.dn_attributes b m

  decided_leaves : (asked : Item) (t : ℕ) (xs : List TypeModel) (i : ℕ)
      → list_all (λ b. b) (map (is_bound_decided ix) (leaves_from s asked t xs i)) ≡
      list_all (is_decided_on s ix asked) (types_from s t xs i)
  decided_leaves asked t [] i = refl
  decided_leaves asked t (x ∷ xs) i = by (is_under s i t) (decided_leaves asked t xs (i + 1))
    where
      by : (b : Bool) → list_all (λ b. b) (map (is_bound_decided ix) (leaves_from s asked t xs (i + 1))) ≡
          list_all (is_decided_on s ix asked) (types_from s t xs (i + 1))
          → list_all (λ b. b) (map (is_bound_decided ix)
          (leaf_if b (bound.Leaf (record { type_id = i; test = test_for s asked i }))
          (leaves_from s asked t xs (i + 1))))
          ≡ list_all (is_decided_on s ix asked) (put_if b i (types_from s t xs (i + 1)))
      by true ih = ap₂ (λ (a b : Bool). a && b) (decided-Leaf ix (record { type_id = i; test = test_for s asked i })
          ∙ test_decided law s ix asked i) ih
      by false ih = ih

  decided_on : (asked : Item) (t : ℕ) (b : BoundFilter) → IsItemOn s asked t b → is_bound_decided ix b ≡
      is_item_decided s ix asked (Some t)
  decided_on asked t b h = by (is_answerable s asked t) refl
    where
      by : (can : Bool) → is_answerable s asked t ≡ can → is_bound_decided ix b ≡
          (not can || list_all (is_decided_on s ix asked) (types_under s t))
      by true e =
          let o = h.answered e in
          ap (is_bound_decided ix) o.is ∙ decided-Or ix o.parts
          ∙ ap (λ (l : List BoundFilter). list_all (λ b. b) (map (is_bound_decided ix) l)) o.hold
          ∙ decided_leaves asked t s.types 0
      by false e = ap (is_bound_decided ix) (h.unanswered e) ∙ decided-Undefined ix

  decided_for : (asked : Item) (o : Option ℕ) (b : BoundFilter) → IsItemFor s asked o b → is_bound_decided ix b ≡
      is_item_decided s ix asked o
  decided_for asked None b h = ap (is_bound_decided ix) h ∙ decided-Undefined ix
  decided_for asked (Some t) b h = decided_on asked t b h

  decided_extensible : (x : ExtensibleValue) (h : Option How) (t : Option (Option ℕ)) (b : BoundFilter) →
      IsExtensible s x h t b → is_bound_decided ix b ≡ is_extensible_decided s ix x h t
  decided_extensible x h t b m = by (is_equality_item s x h t) refl
    where
      by : (own : Bool) → is_equality_item s x h t ≡ own → is_bound_decided ix b ≡
          cond own (is_item_decided s ix (equal x.match_value) (option_flatten t)) (not (is_left_open s x h t))
      by true e = decided_for (equal x.match_value) (option_flatten t) b (m.equality e)
      by false e = decided_match_for x h t b (m.residual e)

  decided_item : (i : filter_item.Item) (b : BoundFilter) → IsMadeOfItem s i b → is_bound_decided ix b ≡
      is_wire_item_decided s ix i
  decided_item (filter_item.comparison k d a) b h = decided_for (asked_by k a) (find s d) b h
  decided_item (filter_item.substrings x) b h = decided_for (substrings (parts_of x)) (find s x.description) b h
  decided_item (filter_item.presence d) b h = decided_for present (find s d) b h
  decided_item (filter_item.extensible x) b h = decided_extensible x (how_of x.matching_rule)
      (type_of s x.description) b h

  mutual
    -- what the indexes decide of a bound filter
    pub decided_same : (t : Tree) (b : BoundFilter) → IsMadeOf s t b → is_bound_decided ix b ≡ is_decided s ix t
    decided_same (conj ts) b h = ap (is_bound_decided ix) h.is ∙ decided-And ix h.parts
        ∙ decided_rows ts h.parts.items h.hold
    decided_same (disj ts) b h = ap (is_bound_decided ix) h.is ∙ decided-Or ix h.parts ∙ decided_rows ts h.parts.items
        h.hold
    decided_same (negation t) b h = ap (is_bound_decided ix) h.is ∙ decided-Not ix h.part
        ∙ decided_same t h.part.value h.hold
    decided_same (item i) b h = decided_item i b h

    decided_rows : (ts : Trees) (bs : List BoundFilter) → AreMadeOf s ts bs →
        list_all (λ b. b) (map (is_bound_decided ix) bs) ≡ are_decided s ix ts
    decided_rows no_trees [] h = refl
    decided_rows no_trees (b ∷ bs) h = absurd h
    decided_rows (tree t ts) [] h = absurd h
    decided_rows (tree t ts) (b ∷ bs) h = ap₂ (λ (x y : Bool). x && y) (decided_same t b h.1) (decided_rows ts bs h.2)

module _ (ix : List Kinds) (e : List KeyedAttribute) where
  runs-And : (v : Vec BoundFilter Global) → has_runs_for ix e (bound.And v) ≡ list_all (λ b. b)
      (map (has_runs_for ix e) v.items)
  runs-And v = ap (has_runs_for ix e) (sym (rolls-And v)) ∙ fold-roll-BoundFilter Bool (runs_step ix e)
      (BoundFilter-F.And v)

  runs-Or : (v : Vec BoundFilter Global) → has_runs_for ix e (bound.Or v) ≡ list_any (λ b. b)
      (map (has_runs_for ix e) v.items)
  runs-Or v = ap (has_runs_for ix e) (sym (rolls-Or v)) ∙ fold-roll-BoundFilter Bool (runs_step ix e)
      (BoundFilter-F.Or v)

  runs-Not : (x : Box BoundFilter Global) → has_runs_for ix e (bound.Not x) ≡ true
  runs-Not x = ap (has_runs_for ix e) (sym (rolls-Not x)) ∙ fold-roll-BoundFilter Bool (runs_step ix e)
      (BoundFilter-F.Not x)

  runs-Undefined : has_runs_for ix e bound.Undefined ≡ false
  runs-Undefined = ap (has_runs_for ix e) (sym rolls-Undefined) ∙ fold-roll-BoundFilter Bool (runs_step ix e)
      BoundFilter-F.Undefined

  runs-Leaf : (leaf : Leaf) → has_runs_for ix e (bound.Leaf leaf) ≡ has_runs_of_test ix leaf.type_id leaf.test e
  runs-Leaf leaf = ap (has_runs_for ix e) (sym (rolls-Leaf leaf)) ∙ fold-roll-BoundFilter Bool (runs_step ix e)
      (BoundFilter-F.Leaf leaf)

  runs-Match : (m : Match) → has_runs_for ix e (bound.Match m) ≡ true
  runs-Match m = ap (has_runs_for ix e) (sym (rolls-Match m)) ∙ fold-roll-BoundFilter Bool (runs_step ix e)
      (BoundFilter-F.Match m)

module _ (law : TestsAreItems) (s : SchemaModel) (ix : List Kinds) (e : List KeyedAttribute) (keyed : IsKeyedBy s e)
  where
    runs_matches_from : (h : How) (t : Option ℕ) (a : List ℕ) (dn : Bool) (xs : List TypeModel) (i : ℕ) →
        list_any (λ b. b) (map (has_runs_for ix e) (matches_from s h t a dn xs i)) ≡ looks_from s h t xs i
    runs_matches_from h t a dn [] i = refl
    runs_matches_from h t a dn (x ∷ xs) i = by (is_looked_at s h t i) (runs_matches_from h t a dn xs (i + 1))
      where
        by : (b : Bool) → list_any (λ b. b) (map (has_runs_for ix e) (matches_from s h t a dn xs (i + 1))) ≡
            looks_from s h t xs (i + 1)
            → list_any (λ b. b) (map (has_runs_for ix e)
            (leaf_if b (bound.Match (record { type_id = i; test = match_for s h a i; in_name = dn }))
            (matches_from s h t a dn xs (i + 1)))) ≡ (b || looks_from s h t xs (i + 1))
        by true ih =
            ap (λ (x : Bool). x || list_any (λ b. b) (map (has_runs_for ix e) (matches_from s h t a dn xs (i + 1))))
            (runs-Match ix e (record { type_id = i; test = match_for s h a i; in_name = dn }))
        by false ih = ih

    runs_matches : (h : How) (t : Option ℕ) (a : List ℕ) (dn : Bool) →
        list_any (λ b. b) (map (has_runs_for ix e) (matches_with s h t a dn)) ≡ looks_at_some s h t
    runs_matches h t a dn =
        any_append (has_runs_for ix e) (matches_for s h t a false) (cond dn (matches_for s h t a true) [])
        ∙ ap₂ (λ (x y : Bool). x || y) (runs_matches_from h t a false s.types 0) (named dn)
        ∙ same (looks_at_some s h t) dn
      where
        named : (b : Bool) → list_any (λ b. b) (map (has_runs_for ix e) (cond b (matches_for s h t a true) [])) ≡
            cond b (looks_at_some s h t) false
        named true = runs_matches_from h t a true s.types 0
        named false = refl

        same : (l b : Bool) → (l || cond b l false) ≡ l
        same true b = refl
        same false true = refl
        same false false = refl

    runs_match_on : (h : How) (t : Option ℕ) (a : List ℕ) (dn : Bool) (b : BoundFilter) → IsMatchOn s h t a dn b →
        has_runs_for ix e b ≡ (is_matched s h t a && looks_at_some s h t)
    runs_match_on h t a dn b m = by (is_matched s h t a) refl
      where
        by : (can : Bool) → is_matched s h t a ≡ can → has_runs_for ix e b ≡ (can && looks_at_some s h t)
        by true r =
            let o = m.matched r in
            ap (has_runs_for ix e) o.is ∙ runs-Or ix e o.parts
            ∙ ap (λ (l : List BoundFilter). list_any (λ b. b) (map (has_runs_for ix e) l)) o.hold
            ∙ runs_matches h t a dn
        by false r = ap (has_runs_for ix e) (m.unmatched r) ∙ runs-Undefined ix e

    runs_match_for : (x : ExtensibleValue) (h : Option How) (t : Option (Option ℕ)) (b : BoundFilter) →
        IsMatchFor s x h t b → has_runs_for ix e b ≡ is_left_open s x h t
    runs_match_for x None t b m = ap (has_runs_for ix e) m ∙ runs-Undefined ix e
    runs_match_for x (Some h) None b m = ap (has_runs_for ix e) m ∙ runs-Undefined ix e
    runs_match_for x (Some h) (Some t) b m = runs_match_on h t x.match_value x.dn_attributes b m

    runs_leaves : (asked : Item) (t : ℕ) (xs : List TypeModel) (i : ℕ)
        → list_any (λ b. b) (map (has_runs_for ix e) (leaves_from s asked t xs i)) ≡
        list_any (λ u. has_runs_on s ix asked u (attributes_of e)) (types_from s t xs i)
    runs_leaves asked t [] i = refl
    runs_leaves asked t (x ∷ xs) i = by (is_under s i t) (runs_leaves asked t xs (i + 1))
      where
        by : (b : Bool) → list_any (λ b. b) (map (has_runs_for ix e) (leaves_from s asked t xs (i + 1))) ≡
            list_any (λ u. has_runs_on s ix asked u (attributes_of e)) (types_from s t xs (i + 1))
            → list_any (λ b. b) (map (has_runs_for ix e)
            (leaf_if b (bound.Leaf (record { type_id = i; test = test_for s asked i }))
            (leaves_from s asked t xs (i + 1))))
            ≡ list_any (λ u. has_runs_on s ix asked u (attributes_of e)) (put_if b i (types_from s t xs (i + 1)))
        by true ih = ap₂ (λ (a b : Bool). a || b) (runs-Leaf ix e (record { type_id = i; test = test_for s asked i })
            ∙ test_held law s ix asked i e keyed) ih
        by false ih = ih

    runs_on : (asked : Item) (t : ℕ) (b : BoundFilter) → IsItemOn s asked t b → has_runs_for ix e b ≡ has_runs_of_item s
        ix (attributes_of e) asked (Some t)
    runs_on asked t b h = by (is_answerable s asked t) refl
      where
        by : (can : Bool) → is_answerable s asked t ≡ can → has_runs_for ix e b ≡
            (can && list_any (λ u. has_runs_on s ix asked u (attributes_of e)) (types_under s t))
        by true r =
            let o = h.answered r in
            ap (has_runs_for ix e) o.is ∙ runs-Or ix e o.parts
            ∙ ap (λ (l : List BoundFilter). list_any (λ b. b) (map (has_runs_for ix e) l)) o.hold
            ∙ runs_leaves asked t s.types 0
        by false r = ap (has_runs_for ix e) (h.unanswered r) ∙ runs-Undefined ix e

    runs_for : (asked : Item) (o : Option ℕ) (b : BoundFilter) → IsItemFor s asked o b → has_runs_for ix e b ≡
        has_runs_of_item s ix (attributes_of e) asked o
    runs_for asked None b h = ap (has_runs_for ix e) h ∙ runs-Undefined ix e
    runs_for asked (Some t) b h = runs_on asked t b h

    runs_extensible : (x : ExtensibleValue) (h : Option How) (t : Option (Option ℕ)) (b : BoundFilter) →
        IsExtensible s x h t b → has_runs_for ix e b ≡ has_runs_of_extensible s ix (attributes_of e) x h t
    runs_extensible x h t b m = by (is_equality_item s x h t) refl
      where
        by : (own : Bool) → is_equality_item s x h t ≡ own → has_runs_for ix e b ≡
            cond own (has_runs_of_item s ix (attributes_of e) (equal x.match_value) (option_flatten t))
            (is_left_open s x h t)
        by true r = runs_for (equal x.match_value) (option_flatten t) b (m.equality r)
        by false r = runs_match_for x h t b (m.residual r)

    runs_item : (i : filter_item.Item) (b : BoundFilter) → IsMadeOfItem s i b → has_runs_for ix e b ≡
        has_runs_of_wire_item s ix (attributes_of e) i
    runs_item (filter_item.comparison k d a) b h = runs_for (asked_by k a) (find s d) b h
    runs_item (filter_item.substrings x) b h = runs_for (substrings (parts_of x)) (find s x.description) b h
    runs_item (filter_item.presence d) b h = runs_for present (find s d) b h
    runs_item (filter_item.extensible x) b h = runs_extensible x (how_of x.matching_rule) (type_of s x.description) b h

    mutual
      -- whether an entry holds the runs that a bound filter asks for
      pub runs_same : (t : Tree) (b : BoundFilter) → IsMadeOf s t b → has_runs_for ix e b ≡ has_runs s ix
          (attributes_of e) t
      runs_same (conj ts) b h = ap (has_runs_for ix e) h.is ∙ runs-And ix e h.parts ∙ runs_every ts h.parts.items h.hold
      runs_same (disj ts) b h = ap (has_runs_for ix e) h.is ∙ runs-Or ix e h.parts ∙ runs_some ts h.parts.items h.hold
      runs_same (negation t) b h = ap (has_runs_for ix e) h.is ∙ runs-Not ix e h.part
      runs_same (item i) b h = runs_item i b h

      runs_every : (ts : Trees) (bs : List BoundFilter) → AreMadeOf s ts bs →
          list_all (λ b. b) (map (has_runs_for ix e) bs) ≡ has_all_runs s ix (attributes_of e) ts
      runs_every no_trees [] h = refl
      runs_every no_trees (b ∷ bs) h = absurd h
      runs_every (tree t ts) [] h = absurd h
      runs_every (tree t ts) (b ∷ bs) h = ap₂ (λ (x y : Bool). x && y) (runs_same t b h.1) (runs_every ts bs h.2)

      runs_some : (ts : Trees) (bs : List BoundFilter) → AreMadeOf s ts bs →
          list_any (λ b. b) (map (has_runs_for ix e) bs) ≡ has_some_runs s ix (attributes_of e) ts
      runs_some no_trees [] h = refl
      runs_some no_trees (b ∷ bs) h = absurd h
      runs_some (tree t ts) [] h = absurd h
      runs_some (tree t ts) (b ∷ bs) h = ap₂ (λ (x y : Bool). x || y) (runs_same t b h.1) (runs_some ts bs h.2)
