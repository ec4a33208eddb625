-- Extensible items: matches type by type against the item on attributes and on pairs of a name.
use Rattle.std.proofs.Common.{ℕ, ◌+◌, ◌<◌, ◌≤◌, suc, zero, List, [], ◌∷◌, ◌++◌, Bool, true, false, cond, not, ◌&&◌, ◌||◌, Option, None, Some, is_some, Vec, Global, ◌≡◌, refl, ap, ap₂, sym, ◌∙◌, map, filter, length, drop, slice_get, arith, add-one, append_assoc, option_map}
use Rattle.std.proofs.lemmas.Option.{slice_get_past}
use Rattle.std.specs.List.{list_any}
use Rattle.std.specs.Option.{option_map_or}
use Rattle.dir_entry.specs.ldap_schema.Schema.{TypeModel, SchemaModel, find}
use Rattle.dir_entry.specs.ldap_schema.Rules.{equality_in, equality_of}
use Rattle.dir_entry.specs.ldap_words.declared.rule.Rule.{Rule}
use Rattle.dir_entry.specs.ldap_match.Item.{equal, is_valid_by, is_of_rule, is_of_type}
use Rattle.ldap_filter.specs.Item.{ExtensibleValue}
use Rattle.dir_entry.specs.ldap_match.Truth.{truth_or, disjunction}
use Rattle.dir_entry.specs.ldap_match.Keyed.{AreKeysOf}
use Rattle.ldap_eval.specs.Matching.{rule_for, supported_in, match_on_values, match_on_pair}
use Rattle.ldap_eval.specs.Matched.{match_for, match_value, match_pair}
use Rattle.dir_entry.specs.ldap_match.declared.truth.Truth.{Truth}
use Rattle.dir_entry.specs.ldap_match.declared.truth.Truth.TheVariants.{False, Undefined}
use Rattle.ldap_eval.specs.declared.naming_rules.How.{How}
use Rattle.ldap_eval.specs.declared.naming_rules.How.TheVariants as how
use Rattle.dir_entry.specs.ldap_dn.Names.{RdnModel}
use Rattle.dir_entry.specs.ldap_dn.Pairs.{PairModel, pairs_of}
use Rattle.dir_entry.specs.Entry.{AttributeModel, KeyedAttribute, shown, attributes_of, IsKeyedBy}
use Rattle.ldap_eval.specs.Value.{item_on, how_of, type_of, is_matched, is_looked_at, match_on_entry, match_on_name, match_with, match_by, extensible_value}
use Rattle.ldap_eval.specs.Made.{is_equality_item, type_with_equality}
use Rattle.ldap_eval.specs.Bound.{match_of_entry, value_step, bound_value, leaf_if, matches_from, matches_for, matches_with}
use Rattle.ldap_eval.specs.private.Bound.{IsBoundMatch}
use Rattle.ldap_eval.specs.declared.bound.Match.{Match}
use Rattle.ldap_eval.specs.declared.bound.BoundFilter.{BoundFilter}
use Rattle.ldap_eval.specs.declared.bound.BoundFilter.TheVariants as bound
use Rattle.ldap_eval.specs.declared.bound.BoundFilter.TheVariants.{rolls-Match}
use Rattle.ldap_eval.specs.declared.bound.BoundFilter.TheOpen.{BoundFilter-F}
use Rattle.ldap_eval.specs.declared.bound.BoundFilter.TheFolds.{fold-roll-BoundFilter}
use Rattle.ldap_eval.proofs.Leaves.{value-Or, value-Undefined, find_below, strange_is_not_under}
use Rattle.ldap_eval.proofs.Truths.{or_false}
use Rattle.ldap_eval.proofs.Across.{or_append, same_map, or_where, by_type, by_kind}

value-Match : (n : List RdnModel) (e : List KeyedAttribute) (m : Match) → bound_value n e (bound.Match m) ≡
    match_of_entry n e m
value-Match n e m = ap (bound_value n e) (sym (rolls-Match m)) ∙ fold-roll-BoundFilter Truth (value_step n e)
    (BoundFilter-F.Match m)

-- the laws that tests are items
pub record MatchLaws : Type 0 where
  pub values : (s : SchemaModel) (h : How) (a : List ℕ) (t : ℕ) (values keys : List (List ℕ)) →
      AreKeysOf s t values keys → match_value (match_for s h a t) values keys ≡ match_on_values s h a t values
  pub pairs : (s : SchemaModel) (h : How) (a : List ℕ) (p : PairModel) → match_pair (match_for s h a p.kind) p ≡
      match_on_pair s h a p

-- a type that is asked for is one of the schema
abbrev pub IsOfSchema : SchemaModel → Option ℕ → Type 0
IsOfSchema s asked = (t : ℕ) → asked ≡ Some t → t < length s.types

no_rule : (s : SchemaModel) (h : How) (k : ℕ) → length s.types ≤ k → is_some (rule_for s h k) ≡ false
no_rule s how.Own k h = ap (λ (o : Option TypeModel). is_some (equality_in o)) (slice_get_past s.types k h)
no_rule s (how.Named r) k h = ap (λ (o : Option TypeModel). is_some (supported_in o r.family))
    (slice_get_past s.types k h)

-- a number that is no type's is not looked at
not_looked_at : (s : SchemaModel) (h : How) (asked : Option ℕ) → IsOfSchema s asked → (k : ℕ) → length s.types ≤ k →
    is_looked_at s h asked k ≡ false
not_looked_at s h None below k out = no_rule s h k out
not_looked_at s h (Some t) below k out = strange_is_not_under s k t (below t refl) out

module _ (s : SchemaModel) (h : How) (asked : Option ℕ) (a : List ℕ) where
  abbrev pub on_attribute : ℕ → KeyedAttribute → Truth
  on_attribute i x = match_value (match_for s h a i) x.values x.keys

  abbrev pub on_name : ℕ → PairModel → Truth
  on_name i p = match_pair (match_for s h a i) p

  abbrev pub match_at : ℕ → Bool → Match
  match_at i dn = record { type_id = i; test = match_for s h a i; in_name = dn }

  valued_where : (n : List RdnModel) (e : List KeyedAttribute) (b : Bool) (i : ℕ) (dn : Bool)
      (rest : List BoundFilter) → disjunction (map (bound_value n e) (leaf_if b (bound.Match (match_at i dn)) rest)) ≡
      or_where b (match_of_entry n e (match_at i dn)) (disjunction (map (bound_value n e) rest))
  valued_where n e true i dn rest = ap (λ (x : Truth). truth_or x (disjunction (map (bound_value n e) rest)))
      (value-Match n e (match_at i dn))
  valued_where n e false i dn rest = refl

  attributes_valued : (n : List RdnModel) (e : List KeyedAttribute) (xs : List TypeModel) (i : ℕ) →
      disjunction (map (bound_value n e) (matches_from s h asked a false xs i)) ≡
      by_type (λ (x : KeyedAttribute). x.kind) (is_looked_at s h asked) on_attribute e xs i
  attributes_valued n e [] i = refl
  attributes_valued n e (x ∷ xs) i =
      valued_where n e (is_looked_at s h asked i) i false (matches_from s h asked a false xs (i + 1))
      ∙ ap (or_where (is_looked_at s h asked i) (match_of_entry n e (match_at i false)))
      (attributes_valued n e xs (i + 1))

  name_valued : (n : List RdnModel) (e : List KeyedAttribute) (xs : List TypeModel) (i : ℕ) →
      disjunction (map (bound_value n e) (matches_from s h asked a true xs i)) ≡ by_type (λ (p : PairModel). p.kind)
      (is_looked_at s h asked) on_name (pairs_of n) xs i
  name_valued n e [] i = refl
  name_valued n e (x ∷ xs) i =
      valued_where n e (is_looked_at s h asked i) i true (matches_from s h asked a true xs (i + 1))
      ∙ ap (or_where (is_looked_at s h asked i) (match_of_entry n e (match_at i true))) (name_valued n e xs (i + 1))

  -- the attributes with their keys, and without
  item_where : (laws : MatchLaws) (b : Bool) (x : KeyedAttribute) (r : List KeyedAttribute)
      (q : List AttributeModel) → AreKeysOf s x.kind x.values x.keys
      → disjunction (map (λ (y : KeyedAttribute). on_attribute y.kind y) r) ≡
      disjunction (map (λ (y : AttributeModel). match_on_values s h a y.kind y.values) q)
      → disjunction (map (λ (y : KeyedAttribute). on_attribute y.kind y) (cond b (x ∷ r) r)) ≡
      disjunction (map (λ (y : AttributeModel). match_on_values s h a y.kind y.values) (cond b (shown x ∷ q) q))
  item_where laws true x r q k e = ap₂ truth_or (laws.values s h a x.kind x.values x.keys k) e
  item_where laws false x r q k e = e

  on_shown : MatchLaws → (e : List KeyedAttribute) → IsKeyedBy s e
      → disjunction (map (λ (y : KeyedAttribute). on_attribute y.kind y)
      (filter (λ (y : KeyedAttribute). is_looked_at s h asked y.kind) e)) ≡ match_on_entry s h asked a
      (attributes_of e)
  on_shown laws [] k = refl
  on_shown laws (x ∷ e) k =
      item_where laws (is_looked_at s h asked x.kind) x
      (filter (λ (y : KeyedAttribute). is_looked_at s h asked y.kind) e)
      (filter (λ (y : AttributeModel). is_looked_at s h asked y.kind) (attributes_of e)) k.0 (on_shown laws e k.1)

  attributes_are : MatchLaws → IsOfSchema s asked → (n : List RdnModel) (e : List KeyedAttribute) → IsKeyedBy s e →
      disjunction (map (bound_value n e) (matches_for s h asked a false)) ≡ match_on_entry s h asked a (attributes_of e)
  attributes_are laws below n e k =
      attributes_valued n e s.types 0
      ∙ by_kind (λ (x : KeyedAttribute). x.kind) (is_looked_at s h asked) on_attribute s.types e
      (not_looked_at s h asked below)
      ∙ on_shown laws e k

  name_is : MatchLaws → IsOfSchema s asked → (n : List RdnModel) (e : List KeyedAttribute) →
      disjunction (map (bound_value n e) (matches_for s h asked a true)) ≡ match_on_name s h asked a n
  name_is laws below n e =
      name_valued n e s.types 0
      ∙ by_kind (λ (p : PairModel). p.kind) (is_looked_at s h asked) on_name s.types (pairs_of n)
      (not_looked_at s h asked below)
      ∙ ap disjunction (same_map (λ (p : PairModel). on_name p.kind p) (match_on_pair s h a) (λ p. laws.pairs s h a p)
      (filter (λ (p : PairModel). is_looked_at s h asked p.kind) (pairs_of n)))

  name_where : MatchLaws → IsOfSchema s asked → (dn : Bool) (n : List RdnModel) (e : List KeyedAttribute) →
      disjunction (map (bound_value n e) (cond dn (matches_for s h asked a true) [])) ≡
      cond dn (match_on_name s h asked a n) False
  name_where laws below true n e = name_is laws below n e
  name_where laws below false n e = refl

  -- an item that can be matched, bound as its matches
  pub bound_matches : (dn : Bool) (v : Vec BoundFilter Global) → MatchLaws → IsOfSchema s asked →
      is_matched s h asked a ≡ true → v.items ≡ matches_with s h asked a dn
      → (n : List RdnModel) (e : List KeyedAttribute) → IsKeyedBy s e → bound_value n e (bound.Or v) ≡ match_with s h
      asked a dn n (attributes_of e)
  bound_matches dn v laws below can is n e k =
      value-Or n e v
      ∙ ap (λ (bs : List BoundFilter). disjunction (map (bound_value n e) bs)) is
      ∙ or_append (bound_value n e) (matches_for s h asked a false) (cond dn (matches_for s h asked a true) [])
      ∙ ap₂ truth_or (attributes_are laws below n e k) (name_where laws below dn n e)
      ∙ sym (ap (λ (b : Bool). cond b (truth_or (match_on_entry s h asked a (attributes_of e))
      (cond dn (match_on_name s h asked a n) False)) Undefined) can)

  -- one that can't
  pub bound_unmatched : (dn : Bool) → is_matched s h asked a ≡ false → (n : List RdnModel) (e : List KeyedAttribute) →
      bound_value n e bound.Undefined ≡ match_with s h asked a dn n (attributes_of e)
  bound_unmatched dn cant n e =
      value-Undefined n e
      ∙ sym (ap (λ (b : Bool). cond b (truth_or (match_on_entry s h asked a (attributes_of e))
      (cond dn (match_on_name s h asked a n) False)) Undefined) cant)

  match_front : (dn : Bool) (xs : List TypeModel) (i j : ℕ) → j < length xs → matches_from s h asked a dn (drop j xs)
      i ≡ leaf_if (is_looked_at s h asked i) (bound.Match (match_at i dn))
      (matches_from s h asked a dn (drop (suc j) xs) (i + 1))
  match_front dn [] i j lt = absurd (omega (arith, lt))
  match_front dn (x ∷ xs) i zero lt = refl
  match_front dn (x ∷ xs) i (suc j) lt = match_front dn xs i j (omega (arith, lt))

  -- a turn of the loop over the types, where the type is looked at
  pub match_more : (dn : Bool) (i : ℕ) (old new all : List BoundFilter) (m : BoundFilter) → i < length s.types →
      true ≡ is_looked_at s h asked i → m ≡ bound.Match (match_at i dn) → new ≡ old ++ m ∷ []
      → old ++ matches_from s h asked a dn (drop i s.types) i ≡ all → new ++ matches_from s h asked a dn
      (drop (i + 1) s.types) (i + 1) ≡ all
  match_more dn i old new all m lt looked is pushed so_far =
      ap (λ (x : List BoundFilter). x ++ matches_from s h asked a dn (drop (i + 1) s.types) (i + 1)) pushed
      ∙ append_assoc old (m ∷ []) (matches_from s h asked a dn (drop (i + 1) s.types) (i + 1))
      ∙ ap₂ (λ (x : BoundFilter) (k : ℕ). old ++ x ∷ matches_from s h asked a dn (drop k s.types) (i + 1)) is
      (add-one i)
      ∙ sym (ap (λ (x : List BoundFilter). old ++ x) (match_front dn s.types i i lt
      ∙ ap (λ (b : Bool). leaf_if b (bound.Match (match_at i dn))
      (matches_from s h asked a dn (drop (suc i) s.types) (i + 1))) (sym looked)))
      ∙ so_far

  -- and where it is not
  pub match_skipped : (dn : Bool) (i : ℕ) (old all : List BoundFilter) → i < length s.types →
      false ≡ is_looked_at s h asked i
      → old ++ matches_from s h asked a dn (drop i s.types) i ≡ all → old ++ matches_from s h asked a dn
      (drop (i + 1) s.types) (i + 1) ≡ all
  match_skipped dn i old all lt looked so_far =
      ap (λ (k : ℕ). old ++ matches_from s h asked a dn (drop k s.types) (i + 1)) (add-one i)
      ∙ sym (ap (λ (x : List BoundFilter). old ++ x) (match_front dn s.types i i lt
      ∙ ap (λ (b : Bool). leaf_if b (bound.Match (match_at i dn))
      (matches_from s h asked a dn (drop (suc i) s.types) (i + 1))) (sym looked)))
      ∙ so_far

some_type_is : (o : Option ℕ) (t : ℕ) → option_map (λ (x : ℕ). Some x) o ≡ Some (Some t) → o ≡ Some t
some_type_is None t e = absurd (cc)
some_type_is (Some u) t e = cc

-- the type of a description is one of the schema
pub type_below : (s : SchemaModel) (d : Option (List ℕ)) (asked : Option ℕ) → type_of s d ≡ Some asked →
    IsOfSchema s asked
type_below s None asked e t is = absurd (cc)
type_below s (Some d) asked e t is = find_below s d t (some_type_is (find s d) t (e ∙ ap Some is))

-- whether one of the types from a number on passes
pub some_type_step : (p : Option TypeModel → Bool) (xs : List TypeModel) (i : ℕ) → i < length xs →
    list_any (λ t. p (Some t)) (drop i xs) ≡ (p (slice_get xs i) || list_any (λ t. p (Some t)) (drop (suc i) xs))
some_type_step p [] i lt = absurd (omega (arith, lt))
some_type_step p (x ∷ xs) zero lt = refl
some_type_step p (x ∷ xs) (suc i) lt = some_type_step p xs i (omega (arith, lt))

-- ---- the value of an extensible item whose rule and type are known

pub known_value : (s : SchemaModel) (x : ExtensibleValue) (h : How) (t : Option ℕ) → how_of x.matching_rule ≡ Some h →
    type_of s x.description ≡ Some t → (n : List RdnModel) (e : List AttributeModel)
    → match_with s h t x.match_value x.dn_attributes n e ≡ extensible_value s x n e
known_value s x h t is_how is_type n e =
    sym (ap (λ (o : Option How). match_by s o x n e) is_how
    ∙ ap (λ (o : Option (Option ℕ)). option_map_or (λ (u : Option ℕ). match_with s h u x.match_value
    x.dn_attributes n e) o Undefined) is_type)

-- bound as its matches
pub bound_match : (s : SchemaModel) (x : ExtensibleValue) (h : How) (t : Option ℕ) (b : BoundFilter) →
    how_of x.matching_rule ≡ Some h → type_of s x.description ≡ Some t
    → (IsOfSchema s t → (n : List RdnModel) (e : List KeyedAttribute) → IsKeyedBy s e → bound_value n e b ≡
    match_with s h t x.match_value x.dn_attributes n (attributes_of e)) → IsBoundMatch s x b
bound_match s x h t b is_how is_type m = λ n e k. m (type_below s x.description t is_type) n e k
    ∙ known_value s x h t is_how is_type n (attributes_of e)

same_valid : (s : SchemaModel) (o : Option TypeModel) (a : List ℕ) → is_some (equality_in o) ≡ true →
    is_of_type s o a ≡ is_valid_by s (equality_in o) a
same_valid s None a h = absurd (cc)
same_valid s (Some t) a h = by t.equality h
  where
    by : (r : Option Rule) → is_some r ≡ true → is_of_rule s t.syntax r a ≡ is_valid_by s r a
    by None h = absurd (cc)
    by (Some r) h = refl

-- the equality item on a type with an EQUALITY rule
equality_match : (s : SchemaModel) (a : List ℕ) (t : ℕ) (n : List RdnModel) (e : List AttributeModel) →
    is_some (equality_of s t) ≡ true → item_on s (equal a) (Some t) e ≡ match_with s how.Own (Some t) a false n e
equality_match s a t n e own =
    ap₂ (λ (b : Bool) (x : Truth). cond b x Undefined) (sym (same_valid s (slice_get s.types t) a own))
    (sym (or_false (match_on_entry s how.Own (Some t) a e)))

named_not : (a b : Bool) (t : ℕ) → is_some (cond (not a && b) (Some t) None) ≡ true → a ≡ false
named_not true b t h = absurd (cc)
named_not false b t h = refl

has_rule : (a b : Bool) (t : ℕ) → is_some (cond (not a && b) (Some t) None) ≡ true → b ≡ true
has_rule true b t h = absurd (cc)
has_rule false true t h = refl
has_rule false false t h = absurd (cc)

with_equality_is : (s : SchemaModel) (dn : Bool) (asked : Option ℕ) (t : ℕ) → type_with_equality s dn asked ≡ Some t →
    asked ≡ Some t
with_equality_is s dn None t e = absurd (cc)
with_equality_is s dn (Some u) t e = by (not dn && is_some (equality_of s u)) e
  where
    by : (b : Bool) → cond b (Some u) None ≡ Some t → Some u ≡ Some t
    by true e = e
    by false e = absurd (cc)

-- what is known of the type of an equality item
pub own_some : (s : SchemaModel) (x : ExtensibleValue) (asked : Option ℕ) (t : ℕ) →
    type_with_equality s x.dn_attributes asked ≡ Some t → (asked ≡ Some t)
    × (is_equality_item s x (Some how.Own) (Some asked) ≡ true)
own_some s x asked t e = (with_equality_is s x.dn_attributes asked t e, ap is_some e)

pub own_none : (s : SchemaModel) (x : ExtensibleValue) (asked : Option ℕ) → type_with_equality s x.dn_attributes
    asked ≡ None → is_equality_item s x (Some how.Own) (Some asked) ≡ false
own_none s x asked e = ap is_some e

-- bound as the equality item that it is
pub bound_equality : (s : SchemaModel) (x : ExtensibleValue) (h : How) (asked : Option ℕ) (t : ℕ) (b : BoundFilter) →
    h ≡ how.Own → asked ≡ Some t → is_equality_item s x (Some h) (Some asked) ≡ true
    → how_of x.matching_rule ≡ Some h → type_of s x.description ≡ Some asked
    → (t < length s.types → (n : List RdnModel) (e : List KeyedAttribute) → IsKeyedBy s e → bound_value n e b ≡
    item_on s (equal x.match_value) (Some t) (attributes_of e)) → IsBoundMatch s x b
bound_equality s x h asked t b own is same is_how is_type m = λ n e k.
    let here : is_equality_item s x (Some how.Own) (Some (Some t)) ≡ true =
    ap₂ (λ (g : How) (o : Option ℕ). is_equality_item s x (Some g) (Some o)) (sym own) (sym is) ∙ same in
    m (type_below s x.description asked is_type t is) n e k
    ∙ equality_match s x.match_value t n (attributes_of e) (has_rule x.dn_attributes (is_some (equality_of s t)) t here)
    ∙ ap (λ (dn : Bool). match_with s how.Own (Some t) x.match_value dn n (attributes_of e))
    (sym (named_not x.dn_attributes (is_some (equality_of s t)) t here))
    ∙ ap₂ (λ (g : How) (o : Option ℕ). match_with s g o x.match_value x.dn_attributes n (attributes_of e)) (sym own)
    (sym is)
    ∙ known_value s x h asked is_how is_type n (attributes_of e)

-- one whose rule or whose description is not recognised
pub no_how : (s : SchemaModel) (x : ExtensibleValue) → how_of x.matching_rule ≡ None → IsBoundMatch s x bound.Undefined
no_how s x e = λ n es k. value-Undefined n es ∙ sym (ap (λ (o : Option How). match_by s o x n (attributes_of es)) e)

pub no_type : (s : SchemaModel) (x : ExtensibleValue) (h : How) → how_of x.matching_rule ≡ Some h →
    type_of s x.description ≡ None → IsBoundMatch s x bound.Undefined
no_type s x h e f = λ n es k.
    value-Undefined n es ∙ sym (ap (λ (o : Option How). match_by s o x n (attributes_of es)) e
    ∙ ap (λ (o : Option (Option ℕ)). option_map_or (λ (u : Option ℕ). match_with s h u x.match_value
    x.dn_attributes n (attributes_of es)) o Undefined) f)
