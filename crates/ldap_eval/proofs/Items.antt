-- Bound items and filters.
use Rattle.std.proofs.Common.{ℕ, ◌+◌, ◌<◌, List, [], ◌∷◌, ◌++◌, Bool, true, false, cond, Option, Some, Vec, Global, ◌≡◌, refl, ap, ap₂, sym, ◌∙◌, map, length, drop, suc, zero, arith, add-one, append_assoc}
use Rattle.dir_entry.specs.ldap_schema.Schema.{TypeModel, SchemaModel, find, is_under}
use Rattle.dir_entry.specs.ldap_match.Truth.{disjunction}
use Rattle.dir_entry.specs.ldap_match.Item.{Item, is_answerable, item_on_attribute}
use Rattle.dir_entry.specs.ldap_match.Keyed.{test_for, test_value, AreKeysOf}
use Rattle.dir_entry.specs.ldap_match.declared.truth.Truth.TheVariants.{Undefined}
use Rattle.dir_entry.specs.ldap_dn.Names.{RdnModel}
use Rattle.dir_entry.specs.Entry.{KeyedAttribute, attributes_of, IsKeyedBy}
use Rattle.ldap_eval.specs.Value.{attributes_under, item_on}
use Rattle.ldap_eval.specs.Bound.{bound_value, leaves_for, leaves_from, leaf_if}
use Rattle.ldap_eval.specs.private.Bound.{IsBoundItem}
use Rattle.ldap_eval.specs.declared.bound.BoundFilter.{BoundFilter}
use Rattle.ldap_eval.specs.declared.bound.BoundFilter.TheVariants as bound
use Rattle.ldap_eval.proofs.Leaves.{value-Or, value-Undefined, leaves_valued, leaves_are_item, find_below}

-- the law that a test on keys is the item on the values
abbrev pub TestsAreItems : Type 0
TestsAreItems = (s : SchemaModel) (asked : Item) (t : ℕ) (values keys : List (List ℕ)) → AreKeysOf s t values keys →
    test_value (test_for s asked t) keys ≡ item_on_attribute s asked t values

-- an item on a type that can be answered, bound as its leaves
pub leaves_item : (s : SchemaModel) (item : Item) (t : ℕ) (v : Vec BoundFilter Global) → TestsAreItems →
    t < length s.types → is_answerable s item t ≡ true → v.items ≡ leaves_for s item t
    → (n : List RdnModel) (e : List KeyedAttribute) → IsKeyedBy s e → bound_value n e (bound.Or v) ≡ item_on s item
    (Some t) (attributes_of e)
leaves_item s item t v law lt can is n e k =
    value-Or n e v
    ∙ ap (λ (bs : List BoundFilter). disjunction (map (bound_value n e) bs)) is
    ∙ leaves_valued s item t n e s.types 0
    ∙ leaves_are_item s item t e lt (λ u values keys. law s item u values keys) k
    ∙ sym (ap (λ (b : Bool). cond b (disjunction (map (λ a. item_on_attribute s item a.kind a.values)
    (attributes_under s t (attributes_of e)))) Undefined) can)

-- one that can't
pub unanswered_item : (s : SchemaModel) (item : Item) (t : ℕ) → is_answerable s item t ≡ false →
    (n : List RdnModel) (e : List KeyedAttribute) → bound_value n e bound.Undefined ≡ item_on s item (Some t)
    (attributes_of e)
unanswered_item s item t cant n e =
    value-Undefined n e ∙ sym
    (ap (λ (b : Bool). cond b (disjunction (map (λ a. item_on_attribute s item a.kind a.values)
    (attributes_under s t (attributes_of e)))) Undefined) cant)

-- an item on a type is the item whose description stands for the type
pub item_bound : (s : SchemaModel) (d : List ℕ) (item : Item) (t : ℕ) (b : BoundFilter) → find s d ≡ Some t
    → (t < length s.types → (n : List RdnModel) (e : List KeyedAttribute) → IsKeyedBy s e → bound_value n e b ≡
    item_on s item (Some t) (attributes_of e)) → IsBoundItem s d item b
item_bound s d item t b found h = λ n e k. h (find_below s d t found) n e k
    ∙ sym (ap (λ (o : Option ℕ). item_on s item o (attributes_of e)) found)

leaf_front : (s : SchemaModel) (item : Item) (t : ℕ) (xs : List TypeModel) (i j : ℕ) → j < length xs →
    leaves_from s item t (drop j xs) i ≡ leaf_if (is_under s i t)
    (bound.Leaf (record { type_id = i; test = test_for s item i })) (leaves_from s item t (drop (suc j) xs) (i + 1))
leaf_front s item t [] i j lt = absurd (omega (arith, lt))
leaf_front s item t (x ∷ xs) i zero lt = refl
leaf_front s item t (x ∷ xs) i (suc j) lt = leaf_front s item t xs i j (omega (arith, lt))

-- a turn of the loop over the types, where the type is under
pub leaf_more : (s : SchemaModel) (item : Item) (t i : ℕ) (old new all : List BoundFilter) (leaf : BoundFilter) →
    i < length s.types → true ≡ is_under s i t → leaf ≡ bound.Leaf (record { type_id = i; test = test_for s item i })
    → new ≡ old ++ leaf ∷ []
    → old ++ leaves_from s item t (drop i s.types) i ≡ all → new ++ leaves_from s item t (drop (i + 1) s.types)
    (i + 1) ≡ all
leaf_more s item t i old new all leaf lt under is pushed so_far =
    ap (λ (x : List BoundFilter). x ++ leaves_from s item t (drop (i + 1) s.types) (i + 1)) pushed
    ∙ append_assoc old (leaf ∷ []) (leaves_from s item t (drop (i + 1) s.types) (i + 1))
    ∙ ap₂ (λ (x : BoundFilter) (n : ℕ). old ++ x ∷ leaves_from s item t (drop n s.types) (i + 1)) is (add-one i)
    ∙ sym (ap (λ (x : List BoundFilter). old ++ x) (leaf_front s item t s.types i i lt
    ∙ ap (λ (b : Bool). leaf_if b (bound.Leaf (record { type_id = i; test = test_for s item i }))
    (leaves_from s item t (drop (suc i) s.types) (i + 1))) (sym under)))
    ∙ so_far

-- and where it is not
pub leaf_skipped : (s : SchemaModel) (item : Item) (t i : ℕ) (old all : List BoundFilter) → i < length s.types →
    false ≡ is_under s i t
    → old ++ leaves_from s item t (drop i s.types) i ≡ all → old ++ leaves_from s item t (drop (i + 1) s.types)
    (i + 1) ≡ all
leaf_skipped s item t i old all lt under so_far =
    ap (λ (n : ℕ). old ++ leaves_from s item t (drop n s.types) (i + 1)) (add-one i)
    ∙ sym (ap (λ (x : List BoundFilter). old ++ x) (leaf_front s item t s.types i i lt
    ∙ ap (λ (b : Bool). leaf_if b (bound.Leaf (record { type_id = i; test = test_for s item i }))
    (leaves_from s item t (drop (suc i) s.types) (i + 1))) (sym under)))
    ∙ so_far
