-- The leaves of an item against the item on the attributes under its type.
use Rattle.std.proofs.Common.{ℕ, ◌+◌, ◌<◌, ◌≤◌, zero, suc, List, [], ◌∷◌, Bool, true, false, cond, ◌||◌, Option, Some, Vec, Global, ◌≡◌, ◌≢◌, refl, ap, ap₂, sym, subst, ◌∙◌, map, drop, length, slice_get, nat_eq, nat_lt, arith}
use Rattle.std.specs.List.{list_any, position_from}
use Rattle.std.proofs.lemmas.Option.{slice_get_past}
use Rattle.std.proofs.lemmas.Bool.Decides.{nat_tests}
use Rattle.dir_entry.specs.ldap_schema.Schema.{TypeModel, SchemaModel, find, is_called, is_under, led, superior_in, superiors}
use Rattle.dir_entry.specs.ldap_match.Truth.{truth_or, disjunction}
use Rattle.dir_entry.specs.ldap_match.Item.{Item, item_on_attribute}
use Rattle.dir_entry.specs.ldap_match.Keyed.{test_for, test_value, AreKeysOf}
use Rattle.dir_entry.specs.ldap_match.declared.truth.Truth.{Truth}
use Rattle.dir_entry.specs.ldap_match.declared.truth.Truth.TheVariants.{False, Undefined}
use Rattle.dir_entry.specs.ldap_dn.Names.{RdnModel}
use Rattle.dir_entry.specs.Entry.{AttributeModel, KeyedAttribute, shown, attributes_of, IsKeyedBy}
use Rattle.ldap_eval.specs.Value.{attributes_under}
use Rattle.ldap_eval.specs.Bound.{leaf_on, leaf_value, value_step, bound_value, leaf_if, leaves_from}
use Rattle.ldap_eval.specs.declared.bound.Leaf.{Leaf}
use Rattle.ldap_eval.specs.declared.bound.BoundFilter.{BoundFilter}
use Rattle.ldap_eval.specs.declared.bound.BoundFilter.TheVariants as bound
use Rattle.ldap_eval.specs.declared.bound.BoundFilter.TheVariants.{rolls-Leaf, rolls-Or, rolls-Undefined}
use Rattle.ldap_eval.specs.declared.bound.BoundFilter.TheOpen.{BoundFilter-F}
use Rattle.ldap_eval.specs.declared.bound.BoundFilter.TheFolds.{fold-roll-BoundFilter}
use Rattle.ldap_eval.proofs.Truths.{or_assoc, or_false, or_swap}

pub value-Leaf : (n : List RdnModel) (e : List KeyedAttribute) (leaf : Leaf) → bound_value n e (bound.Leaf leaf) ≡
    leaf_value e leaf
value-Leaf n e leaf = ap (bound_value n e) (sym (rolls-Leaf leaf)) ∙ fold-roll-BoundFilter Truth (value_step n e)
    (BoundFilter-F.Leaf leaf)

pub value-Or : (n : List RdnModel) (e : List KeyedAttribute) (v : Vec BoundFilter Global) →
    bound_value n e (bound.Or v) ≡ disjunction (map (bound_value n e) v.items)
value-Or n e v = ap (bound_value n e) (sym (rolls-Or v)) ∙ fold-roll-BoundFilter Truth (value_step n e)
    (BoundFilter-F.Or v)

pub value-Undefined : (n : List RdnModel) (e : List KeyedAttribute) → bound_value n e bound.Undefined ≡ Undefined
value-Undefined n e = ap (bound_value n e) (sym rolls-Undefined) ∙ fold-roll-BoundFilter Truth (value_step n e)
    BoundFilter-F.Undefined

pub same_number : (n : ℕ) → nat_eq n n ≡ true
same_number n = grind (arith, nat_tests)

pub is_number : (m n : ℕ) → nat_eq m n ≡ true → m ≡ n
is_number m n h = grind (arith, nat_tests, h)

pub is_other : (m n : ℕ) → nat_eq m n ≡ false → m ≢ n
is_other m n h = grind (arith, nat_tests, h)

pub less_is_other : (m n : ℕ) → m < n → nat_eq m n ≡ false
less_is_other m n h = grind (arith, nat_tests, h)

pub more_is_other : (m n : ℕ) → n < m → nat_eq m n ≡ false
more_is_other m n h = grind (arith, nat_tests, h)

pub is_less : (m n : ℕ) → nat_lt m n ≡ true → m < n
is_less m n h = grind (arith, nat_tests, h)

pub is_not_less : (m n : ℕ) → nat_lt m n ≡ false → n ≤ m
is_not_less m n h = grind (arith, nat_tests, h)

no_superiors : (k : ℕ) (ts : List TypeModel) (u : ℕ) → length ts ≤ u → superiors k ts u ≡ []
no_superiors zero ts u h = refl
no_superiors (suc k) ts u h = ap (λ (o : Option ℕ). led o (λ v. superiors k ts v))
    (ap superior_in (slice_get_past ts u h))

-- a number that is no type's is under no type
pub strange_is_not_under : (s : SchemaModel) (u t : ℕ) → t < length s.types → length s.types ≤ u → is_under s u t ≡
    false
strange_is_not_under s u t lt h =
    ap₂ (λ (x : Bool) (us : List ℕ). x || list_any (λ v. nat_eq v t) us) (more_is_other u t (omega (arith, lt, h)))
    (no_superiors (length s.types) s.types u h)

position_step : {A : Type 0} (p : A → Bool) (x : A) (xs : List A) (i t : ℕ) (b : Bool) →
    (position_from p (i + 1) xs ≡ Some t → t < i + 1 + length xs) → cond b (Some i) (position_from p (i + 1) xs) ≡
    Some t → t < i + length (x ∷ xs)
position_step p x xs i t true rest h = let e : i ≡ t = cc in omega (arith, e)
position_step p x xs i t false rest h = omega (arith, rest h)

position_below : {A : Type 0} (p : A → Bool) (xs : List A) (i t : ℕ) → position_from p i xs ≡ Some t → t < i + length xs
position_below p [] i t h = absurd (cc)
position_below p (x ∷ xs) i t h = position_step p x xs i t (p x) (position_below p xs (i + 1) t) h

-- the type of a description is one of the schema
pub find_below : (s : SchemaModel) (d : List ℕ) (t : ℕ) → find s d ≡ Some t → t < length s.types
find_below s d t h = omega (arith, position_below (λ x. is_called d x.oid x.names) s.types 0 t h)

module _ (s : SchemaModel) (item : Item) (t : ℕ) where
  -- the leaf of a type
  abbrev pub leaf_at : ℕ → Leaf
  leaf_at i = record { type_id = i; test = test_for s item i }

  -- an `or` with a leaf in it, where its type is under
  abbrev pub or_if : Bool → Truth → Truth → Truth
  or_if true a b = truth_or a b
  or_if false a b = b

  -- the `or` of the leaves from a number on
  abbrev pub leaves_value : List KeyedAttribute → List TypeModel → ℕ → Truth
  leaves_value e [] i = False
  leaves_value e (x ∷ xs) i = or_if (is_under s i t) (leaf_value e (leaf_at i)) (leaves_value e xs (i + 1))

  -- the `or` of the leaves on one attribute
  abbrev pub leaves_on : KeyedAttribute → List TypeModel → ℕ → Truth
  leaves_on a [] i = False
  leaves_on a (x ∷ xs) i = or_if (is_under s i t) (leaf_on (leaf_at i) a) (leaves_on a xs (i + 1))

  valued_if : (n : List RdnModel) (e : List KeyedAttribute) (b : Bool) (i : ℕ) (rest : List BoundFilter) →
      disjunction (map (bound_value n e) (leaf_if b (bound.Leaf (leaf_at i)) rest)) ≡
      or_if b (leaf_value e (leaf_at i)) (disjunction (map (bound_value n e) rest))
  valued_if n e true i rest = ap (λ (x : Truth). truth_or x (disjunction (map (bound_value n e) rest)))
      (value-Leaf n e (leaf_at i))
  valued_if n e false i rest = refl

  pub leaves_valued : (n : List RdnModel) (e : List KeyedAttribute) (xs : List TypeModel) (i : ℕ) →
      disjunction (map (bound_value n e) (leaves_from s item t xs i)) ≡ leaves_value e xs i
  leaves_valued n e [] i = refl
  leaves_valued n e (x ∷ xs) i = valued_if n e (is_under s i t) i (leaves_from s item t xs (i + 1))
      ∙ ap (or_if (is_under s i t) (leaf_value e (leaf_at i))) (leaves_valued n e xs (i + 1))

  none_if : (b : Bool) (r : Truth) → r ≡ False → or_if b False r ≡ False
  none_if true r h = h
  none_if false r h = h

  -- no attribute, no truth
  none_valued : (xs : List TypeModel) (i : ℕ) → leaves_value [] xs i ≡ False
  none_valued [] i = refl
  none_valued (x ∷ xs) i = none_if (is_under s i t) (leaves_value [] xs (i + 1)) (none_valued xs (i + 1))

  split_if : (b : Bool) (here there first rest all : Truth) → all ≡ truth_or first rest →
      or_if b (truth_or here there) all ≡ truth_or (or_if b here first) (or_if b there rest)
  split_if true here there first rest all h = ap (truth_or (truth_or here there)) h ∙ or_swap here there first rest
  split_if false here there first rest all h = h

  -- the leaves on one attribute more
  one_more : (a : KeyedAttribute) (e : List KeyedAttribute) (xs : List TypeModel) (i : ℕ) →
      leaves_value (a ∷ e) xs i ≡ truth_or (leaves_on a xs i) (leaves_value e xs i)
  one_more a e [] i = refl
  one_more a e (x ∷ xs) i = split_if (is_under s i t) (leaf_on (leaf_at i) a) (leaf_value e (leaf_at i))
      (leaves_on a xs (i + 1)) (leaves_value e xs (i + 1)) (leaves_value (a ∷ e) xs (i + 1)) (one_more a e xs (i + 1))

  other_leaf : (a : KeyedAttribute) (i : ℕ) → nat_eq a.kind i ≡ false → leaf_on (leaf_at i) a ≡ False
  other_leaf a i h = rw h refl

  own_test : (a : KeyedAttribute) → leaf_on (leaf_at a.kind) a ≡ test_value (test_for s item a.kind) a.keys
  own_test a = rw (same_number a.kind) refl

  own_leaf : (a : KeyedAttribute) (i : ℕ) → a.kind ≡ i → leaf_on (leaf_at i) a ≡ test_value (test_for s item a.kind)
      a.keys
  own_leaf a i h = subst (λ (j : ℕ). leaf_on (leaf_at j) a ≡ test_value (test_for s item a.kind) a.keys) h (own_test a)

  skip_if : (b : Bool) (here rest : Truth) → here ≡ False → or_if b here rest ≡ rest
  skip_if true here rest h = ap (λ (x : Truth). truth_or x rest) h
  skip_if false here rest h = refl

  -- past the attribute's type
  past_own : (a : KeyedAttribute) (xs : List TypeModel) (i : ℕ) → a.kind < i → leaves_on a xs i ≡ False
  past_own a [] i lt = refl
  past_own a (x ∷ xs) i lt =
      skip_if (is_under s i t) (leaf_on (leaf_at i) a) (leaves_on a xs (i + 1))
      (other_leaf a i (less_is_other a.kind i lt))
      ∙ past_own a xs (i + 1) (omega (arith, lt))

  -- no type of that number
  beyond : (a : KeyedAttribute) (xs : List TypeModel) (i : ℕ) → i + length xs ≤ a.kind → leaves_on a xs i ≡ False
  beyond a [] i h = refl
  beyond a (x ∷ xs) i h =
      skip_if (is_under s i t) (leaf_on (leaf_at i) a) (leaves_on a xs (i + 1))
      (other_leaf a i (more_is_other a.kind i (omega (arith, h))))
      ∙ beyond a xs (i + 1) (omega (arith, h))

  own_if : (b : Bool) (here rest x : Truth) → here ≡ x → rest ≡ False → or_if b here rest ≡ cond b x False
  own_if true here rest x h k = ap₂ truth_or h k ∙ or_false x
  own_if false here rest x h k = k

  at_or_later : (a : KeyedAttribute) (x : TypeModel) (xs : List TypeModel) (i : ℕ) (b : Bool) → nat_eq a.kind i ≡ b →
      i ≤ a.kind
      → (i + 1 ≤ a.kind → leaves_on a xs (i + 1) ≡ cond (is_under s a.kind t) (test_value (test_for s item a.kind)
      a.keys) False)
      → leaves_on a (x ∷ xs) i ≡ cond (is_under s a.kind t) (test_value (test_for s item a.kind) a.keys) False
  at_or_later a x xs i true e low further =
      own_if (is_under s i t) (leaf_on (leaf_at i) a) (leaves_on a xs (i + 1)) (test_value (test_for s item a.kind)
      a.keys) (own_leaf a i (is_number a.kind i e)) (past_own a xs (i + 1) (omega (arith, is_number a.kind i e)))
      ∙ ap (λ (j : ℕ). cond (is_under s j t) (test_value (test_for s item a.kind) a.keys) False)
      (sym (is_number a.kind i e))
  at_or_later a x xs i false e low further =
      skip_if (is_under s i t) (leaf_on (leaf_at i) a) (leaves_on a xs (i + 1)) (other_leaf a i e)
      ∙ further (omega (arith, is_other a.kind i e, low))

  at_own : (a : KeyedAttribute) (xs : List TypeModel) (i : ℕ) → i ≤ a.kind → a.kind < i + length xs →
      leaves_on a xs i ≡ cond (is_under s a.kind t) (test_value (test_for s item a.kind) a.keys) False
  at_own a [] i low high = absurd (omega (arith, low, high))
  at_own a (x ∷ xs) i low high =
      at_or_later a x xs i (nat_eq a.kind i) refl low (λ more. at_own a xs (i + 1) more (omega (arith, high)))

  by_range : (a : KeyedAttribute) → t < length s.types → (b : Bool) → nat_lt a.kind (length s.types) ≡ b →
      leaves_on a s.types 0 ≡ cond (is_under s a.kind t) (test_value (test_for s item a.kind) a.keys) False
  by_range a lt true h = at_own a s.types 0 (omega arith) (omega (arith, is_less a.kind (length s.types) h))
  by_range a lt false h =
      beyond a s.types 0 (omega (arith, is_not_less a.kind (length s.types) h))
      ∙ ap (λ (b : Bool). cond b (test_value (test_for s item a.kind) a.keys) False)
      (sym (strange_is_not_under s a.kind t lt (is_not_less a.kind (length s.types) h)))

  pub leaves_on_is : (a : KeyedAttribute) → t < length s.types → leaves_on a s.types 0 ≡ cond (is_under s a.kind t)
      (test_value (test_for s item a.kind) a.keys) False
  leaves_on_is a lt = by_range a lt (nat_lt a.kind (length s.types)) refl

  -- the item on one attribute, where it is under the type
  if_under : (b : Bool) (a : KeyedAttribute) (x : Truth) (e : List AttributeModel) →
      test_value (test_for s item a.kind) a.keys ≡ item_on_attribute s item a.kind a.values
      → truth_or (cond b (test_value (test_for s item a.kind) a.keys) False)
      (disjunction (map (λ y. item_on_attribute s item y.kind y.values) e)) ≡
      disjunction (map (λ y. item_on_attribute s item y.kind y.values) (cond b (shown a ∷ e) e))
  if_under true a x e h = ap (λ (z : Truth). truth_or z
      (disjunction (map (λ y. item_on_attribute s item y.kind y.values) e))) h
  if_under false a x e h = refl

  pub leaves_are_item : (e : List KeyedAttribute) → t < length s.types → ((k : ℕ) (values keys : List (List ℕ)) →
      AreKeysOf s k values keys → test_value (test_for s item k) keys ≡ item_on_attribute s item k values) →
      IsKeyedBy s e
      → leaves_value e s.types 0 ≡ disjunction (map (λ a. item_on_attribute s item a.kind a.values)
      (attributes_under s t (attributes_of e)))
  leaves_are_item [] lt law k = none_valued s.types 0
  leaves_are_item (a ∷ e) lt law k =
      one_more a e s.types 0
      ∙ ap₂ truth_or (leaves_on_is a lt) (leaves_are_item e lt law k.1)
      ∙ if_under (is_under s a.kind t) a False (attributes_under s t (attributes_of e)) (law a.kind a.values a.keys k.0)

-- the attribute at a place, and those behind it
step : (leaf : Leaf) (e : List KeyedAttribute) (p : ℕ) (r : Truth) → p < length e →
    ((a : KeyedAttribute) → slice_get e p ≡ Some a → r ≡ leaf_on leaf a) →
    disjunction (map (leaf_on leaf) (drop p e)) ≡ truth_or r (disjunction (map (leaf_on leaf) (drop (suc p) e)))
step leaf [] p r h f = Prim.grind (arith)
step leaf (a ∷ e) zero r h f = ap (λ (x : Truth). truth_or x (disjunction (map (leaf_on leaf) e))) (sym (f a refl))
step leaf (a ∷ e) (suc p) r h f = step leaf e p r (Prim.grind (arith)) f

-- the same with those before it
pub leaf_more : (leaf : Leaf) (e : List KeyedAttribute) (p : ℕ) (t r : Truth) → p < length e →
    ((a : KeyedAttribute) → slice_get e p ≡ Some a → r ≡ leaf_on leaf a) →
    truth_or t (disjunction (map (leaf_on leaf) (drop p e))) ≡ truth_or (truth_or t r)
    (disjunction (map (leaf_on leaf) (drop (p + 1) e)))
leaf_more leaf e p t r h f =
    subst (λ (q : ℕ). truth_or t (disjunction (map (leaf_on leaf) (drop p e))) ≡ truth_or (truth_or t r)
    (disjunction (map (leaf_on leaf) (drop q e)))) behind
    (ap (truth_or t) (step leaf e p r h f) ∙ sym (or_assoc t r (disjunction (map (leaf_on leaf) (drop (suc p) e)))))
  where
    behind : suc p ≡ p + 1
    behind = Prim.grind (arith)
