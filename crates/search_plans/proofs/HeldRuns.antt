-- What a test on keys asks for is what its item asks for of values.
use Rattle.std.proofs.Common.{◌≡◌, ℕ, Bool, true, false, not, ◌&&◌, ◌||◌, List, [], ◌∷◌, cond, nat_eq, Option, None, Some, is_some, map, encode_utf8_all, refl, sym, ap, ap₂, subst, ◌∙◌, eqb-true, slice_get}
use Rattle.std.specs.Option.{option_and_then}
use Rattle.std.specs.List.{list_any, list_all}
use mathlib.Core.Path.{fun_ext}
use Rattle.ldap_eval.specs.ldap_words.Families.{has_substrings}
use Rattle.ldap_eval.specs.ldap_syntax.Meaning.{Meaning, as_text, part_meaning}
use Rattle.ldap_eval.specs.ldap_syntax.Keys as syntax_keys
use Rattle.ldap_eval.specs.ldap_syntax.declared.preparing.Part.TheVariants.{Initial, Any, Final}
use Rattle.ldap_eval.specs.ldap_words.declared.rule.Family.{Family}
use Rattle.ldap_eval.specs.ldap_words.declared.rule.Family.TheVariants as family
use Rattle.ldap_eval.specs.ldap_words.declared.rule.Syntax.{Syntax}
use Rattle.ldap_eval.specs.ldap_words.declared.rule.Rule.{Rule}
use Rattle.ldap_eval.specs.dir_entry.ldap_schema.Schema.{SchemaModel, TypeModel}
use Rattle.ldap_eval.specs.dir_entry.ldap_schema.Rules.{equality_in, equality_of}
use Rattle.ldap_eval.specs.ldap_match.Meaning.{meaning}
use Rattle.ldap_eval.specs.ldap_match.Parts.{PartsModel}
use Rattle.ldap_eval.specs.ldap_match.Item.{Item, present, equal, at_least, at_most, substrings, is_meant, is_at_least, is_at_most, has_prepared, of_family, beside, ordering_of, substrings_of, some_of, end_by, put_before, each_by, three_parts, prepared_parts, answered, by_rule, item_on_attribute, is_valid_by, are_valid_by, is_answerable}
use Rattle.ldap_eval.specs.ldap_match.Keyed.{key_at, part_keys_at, test_of, test_by_rule, test_for, test_value, AreKeysBy, AreKeysOf}
use Rattle.ldap_eval.specs.ldap_match.declared.truth.Truth.TheVariants.{False, Undefined}
use Rattle.ldap_eval.specs.ldap_match.declared.testing.Test.{Test}
use Rattle.ldap_eval.specs.ldap_match.declared.testing.Test.TheVariants as test
use Rattle.ldap_eval.specs.dir_entry.Entry.{KeyedAttribute, attributes_of, IsKeyedBy}
use Rattle.dir_index.specs.index_choice.declared.kinds.Kinds.{Kinds}
use Rattle.dir_index.specs.index_choice.Choice.{kinds_of}
use Rattle.dir_index.specs.Postings.{some_key, stands_in}
use Rattle.search_plans.specs.Bounds.{is_test_decided}
use Rattle.search_plans.specs.Decided.{has_index_for, is_decided_on}
use Rattle.search_plans.specs.Held.{utf8_parts, stands_in_text, stands_in_some, has_prepared_runs, has_runs_by, has_runs_on}
use Rattle.search_plans.specs.OctetRuns.{has_runs_of_test, asked_runs}
use Rattle.ldap_eval.specs.ldap_words.Octets.{utf8_of}

-- what a test on keys says is what the item says
abbrev pub TestsAreItems : Type 0
TestsAreItems = (s : SchemaModel) (asked : Item) (t : ℕ) (values keys : List (List ℕ)) → AreKeysOf s t values keys →
    test_value (test_for s asked t) keys ≡ item_on_attribute s asked t values

-- ---- which tests nobody can tell

abbrev is_known : Test → Bool
is_known test.Present = true
is_known test.Unknown = false
is_known (test.Equal k) = true
is_known (test.AtLeast k) = true
is_known (test.AtMost k) = true
is_known (test.Parts p) = true

known : (x : Test) (b : Bool) → test_value x [] ≡ cond b False Undefined → is_known x ≡ b
known test.Present true h = cc
known test.Present false h = cc
known test.Unknown true h = cc
known test.Unknown false h = refl
known (test.Equal k) true h = refl
known (test.Equal k) false h = cc
known (test.AtLeast k) true h = refl
known (test.AtLeast k) false h = cc
known (test.AtMost k) true h = refl
known (test.AtMost k) false h = cc
known (test.Parts p) true h = refl
known (test.Parts p) false h = cc

no_keys_by : (s : SchemaModel) (o : Option Rule) → AreKeysBy s o [] []
no_keys_by s None = tt
no_keys_by s (Some r) = refl

answered_none : {A : Type 0} (asks : A → Option Meaning → Bool) (s : SchemaModel) (r : Rule) (m : Option A) →
    answered asks s r m [] ≡ cond (is_some m) False Undefined
answered_none asks s r None = refl
answered_none asks s r (Some x) = refl

one_asked : (asks : Meaning → Option Meaning → Bool) (s : SchemaModel) (a : List ℕ) (o : Option Rule) →
    by_rule asks (λ r. meaning s r a) s o [] ≡ cond (is_valid_by s o a) False Undefined
one_asked asks s a None = refl
one_asked asks s a (Some r) = answered_none asks s r (meaning s r a)

parts_asked : (s : SchemaModel) (p : PartsModel) (o : Option Rule) → by_rule has_prepared (λ r. prepared_parts r p) s
    o [] ≡ cond (are_valid_by o p) False Undefined
parts_asked s p None = refl
parts_asked s p (Some r) = answered_none has_prepared s r (prepared_parts r p)

-- a test that an item makes tells, just where the type can answer the item
tells : TestsAreItems → (s : SchemaModel) (asked : Item) (u : ℕ) → is_known (test_for s asked u) ≡ is_answerable s
    asked u
tells law s present u = refl
tells law s (equal a) u = known (test_for s (equal a) u) (is_answerable s (equal a) u)
    (law s (equal a) u [] [] (no_keys_by s (equality_of s u)) ∙ one_asked is_meant s a (equality_of s u))
tells law s (at_least a) u = known (test_for s (at_least a) u) (is_answerable s (at_least a) u)
    (law s (at_least a) u [] [] (no_keys_by s (equality_of s u)) ∙ one_asked is_at_least s a (ordering_of s u))
tells law s (at_most a) u = known (test_for s (at_most a) u) (is_answerable s (at_most a) u)
    (law s (at_most a) u [] [] (no_keys_by s (equality_of s u)) ∙ one_asked is_at_most s a (ordering_of s u))
tells law s (substrings p) u = known (test_for s (substrings p) u) (is_answerable s (substrings p) u)
    (law s (substrings p) u [] [] (no_keys_by s (equality_of s u)) ∙ parts_asked s p (substrings_of s u))

-- something told of tests by what they are made of
made : {A : Type 0} (f : Test → Bool) (make : A → Test) (keyed : Rule → Option A) (b : Bool) →
    ((x : A) → f (make x) ≡ b) → ((x : A) → is_known (make x) ≡ true) → (o : Option Rule)
    → f (test_by_rule make keyed o) ≡ cond (is_known (test_by_rule make keyed o)) b (f test.Unknown)
made {A = A} f make keyed b is shows None = refl
made {A = A} f make keyed b is shows (Some r) = by (keyed r)
  where
    by : (k : Option A) → f (test_of make k) ≡ cond (is_known (test_of make k)) b (f test.Unknown)
    by None = refl
    by (Some x) = is x ∙ sym (ap (λ (v : Bool). cond v b (f test.Unknown)) (shows x))

-- what the indexes of a type decide of a test is what they decide of its item
pub test_decided : TestsAreItems → (s : SchemaModel) (ix : List Kinds) (asked : Item) (u : ℕ) →
    is_test_decided ix u (test_for s asked u) ≡ is_decided_on s ix asked u
test_decided law s ix present u = refl
test_decided law s ix (equal a) u =
    made (is_test_decided ix u) test.Equal (λ r. key_at s r a) (has_index_for ix (equal a) u) (λ x. refl) (λ x. refl)
    (equality_of s u)
    ∙ ap (λ (v : Bool). cond v (has_index_for ix (equal a) u) (kinds_of ix u).presence) (tells law s (equal a) u)
test_decided law s ix (at_least a) u =
    made (is_test_decided ix u) test.AtLeast (λ r. key_at s r a) (has_index_for ix (at_least a) u) (λ x. refl)
    (λ x. refl) (ordering_of s u)
    ∙ ap (λ (v : Bool). cond v (has_index_for ix (at_least a) u) (kinds_of ix u).presence) (tells law s (at_least a) u)
test_decided law s ix (at_most a) u =
    made (is_test_decided ix u) test.AtMost (λ r. key_at s r a) (has_index_for ix (at_most a) u) (λ x. refl)
    (λ x. refl) (ordering_of s u)
    ∙ ap (λ (v : Bool). cond v (has_index_for ix (at_most a) u) (kinds_of ix u).presence) (tells law s (at_most a) u)
test_decided law s ix (substrings p) u =
    made (is_test_decided ix u) test.Parts (λ r. part_keys_at r p) (has_index_for ix (substrings p) u) (λ x. refl)
    (λ x. refl) (substrings_of s u)
    ∙ ap (λ (v : Bool). cond v (has_index_for ix (substrings p) u) (kinds_of ix u).presence)
    (tells law s (substrings p) u)

-- ---- the keys of parts are the prepared parts in UTF-8

abbrev spelled_end : Option (Option (List ℕ)) → Option (Option (List ℕ))
spelled_end None = None
spelled_end (Some i) = Some (utf8_of i)

abbrev spelled_each : Option (List (List ℕ)) → Option (List (List ℕ))
spelled_each None = None
spelled_each (Some ts) = Some (map encode_utf8_all ts)

abbrev spelled_all : Option PartsModel → Option PartsModel
spelled_all None = None
spelled_all (Some p) = Some (utf8_parts p)

end_some : (o : Option (List ℕ)) → some_of (utf8_of o) ≡ spelled_end (some_of o)
end_some None = refl
end_some (Some t) = refl

ends_spelled : (g : List ℕ → Option (List ℕ)) (o : Option (List ℕ)) → end_by (λ v. utf8_of (g v)) o ≡
    spelled_end (end_by g o)
ends_spelled g None = refl
ends_spelled g (Some v) = end_some (g v)

before_spelled : (o : Option (List ℕ)) (os : Option (List (List ℕ))) → put_before (utf8_of o) (spelled_each os) ≡
    spelled_each (put_before o os)
before_spelled None os = refl
before_spelled (Some t) None = refl
before_spelled (Some t) (Some ts) = refl

each_spelled : (g : List ℕ → Option (List ℕ)) (vs : List (List ℕ)) → each_by (λ v. utf8_of (g v)) vs ≡ spelled_each
    (each_by g vs)
each_spelled g [] = refl
each_spelled g (v ∷ vs) = ap (put_before (utf8_of (g v))) (each_spelled g vs) ∙ before_spelled (g v) (each_by g vs)

three_spelled : (i : Option (Option (List ℕ))) (a : Option (List (List ℕ))) (l : Option (Option (List ℕ))) →
    three_parts (spelled_end i) (spelled_each a) (spelled_end l) ≡ spelled_all (three_parts i a l)
three_spelled None a l = refl
three_spelled (Some i) None l = refl
three_spelled (Some i) (Some a) None = refl
three_spelled (Some i) (Some a) (Some l) = refl

parts_spelled : (r : Rule) (p : PartsModel) → part_keys_at r p ≡ spelled_all (prepared_parts r p)
parts_spelled r p =
    ap₂ (λ (i : Option (Option (List ℕ))) (a : Option (List (List ℕ))). three_parts i a
    (end_by (syntax_keys.part_key_at r Final) p.last)) (ends_spelled (part_meaning r Initial) p.initial)
    (each_spelled (part_meaning r Any) p.any)
    ∙ ap (three_parts (spelled_end (end_by (part_meaning r Initial) p.initial))
    (spelled_each (each_by (part_meaning r Any) p.any))) (ends_spelled (part_meaning r Final) p.last)
    ∙ three_spelled (end_by (part_meaning r Initial) p.initial) (each_by (part_meaning r Any) p.any)
    (end_by (part_meaning r Final) p.last)

-- ---- the key of a value is the text that it means, in UTF-8

text_stands : (g k : List ℕ) (b : Bool) (o : Option (List ℕ)) → cond b (utf8_of o) None ≡ Some k → stands_in g k ≡
    stands_in_text g (cond b (as_text o) None)
text_stands g k true None h = absurd (cc)
text_stands g k true (Some t) h = let same : encode_utf8_all t ≡ k = cc in ap (stands_in g) (sym same)
text_stands g k false o h = absurd (cc)

key_stands : (s : SchemaModel) (g v k : List ℕ) (f : Family) (x : Syntax) → has_substrings f ≡ true →
    key_at s (record { family = f; syntax = x }) v ≡ Some k → stands_in g k ≡ stands_in_text g
    (meaning s (record { family = f; syntax = x }) v)
key_stands s g v k family.Ignore x w h = text_stands g k _ _ h
key_stands s g v k family.Exact x w h = text_stands g k _ _ h
key_stands s g v k family.Numeric x w h = text_stands g k _ _ h
key_stands s g v k family.Telephone x w h = text_stands g k _ _ h
key_stands s g v k family.Ia5 x w h = text_stands g k _ _ h
key_stands s g v k family.Identifier x w h = absurd (cc w)
key_stands s g v k family.Name x w h = absurd (cc w)
key_stands s g v k family.Boolean x w h = absurd (cc w)
key_stands s g v k family.Integer x w h = absurd (cc w)
key_stands s g v k family.Octet x w h = absurd (cc w)
key_stands s g v k family.Time x w h = absurd (cc w)
key_stands s g v k family.Ia5Exact x w h = absurd (cc w)

values_stand : (s : SchemaModel) (r : Rule) (g : List ℕ) → has_substrings r.family ≡ true →
    (values keys : List (List ℕ)) → map (key_at s r) values ≡ map Some keys → list_any (stands_in g) keys ≡
    list_any (λ v. stands_in_text g (meaning s r v)) values
values_stand s r g w [] [] h = refl
values_stand s r g w [] (k ∷ keys) h = absurd (cc)
values_stand s r g w (v ∷ values) [] h = absurd (cc)
values_stand s r g w (v ∷ values) (k ∷ keys) h =
    let head : key_at s r v ≡ Some k = cc in
    let rest : map (key_at s r) values ≡ map Some keys = cc in
    ap₂ (λ (a b : Bool). a || b) (key_stands s g v k r.family r.syntax w head) (values_stand s r g w values keys rest)

-- ---- the rule of substrings is the EQUALITY rule

of_family_is : (o : Option Rule) (r : Rule) → of_family has_substrings o ≡ Some r → (o ≡ Some r)
    × (has_substrings r.family ≡ true)
of_family_is None r e = absurd (cc)
of_family_is (Some q) r e = offered (has_substrings q.family) refl e
  where
    offered : (b : Bool) → has_substrings q.family ≡ b → cond b (Some q) None ≡ Some r → (Some q ≡ Some r)
        × (has_substrings r.family ≡ true)
    offered true f e = let same : q ≡ r = cc e in (e, sym (ap (λ (x : Rule). has_substrings x.family) same) ∙ f)
    offered false f e = absurd (cc e)

beside_is : (x y : Option Rule) (r : Rule) → beside x y ≡ Some r → y ≡ Some r
beside_is None y r e = absurd (cc)
beside_is (Some o) y r e = e

substrings_is : (o : Option TypeModel) (r : Rule) → option_and_then (λ (d : TypeModel). beside d.substrings
    (of_family has_substrings d.equality)) o ≡ Some r → (equality_in o ≡ Some r) × (has_substrings r.family ≡ true)
substrings_is None r e = absurd (cc)
substrings_is (Some t) r e = of_family_is t.equality r (beside_is t.substrings (of_family has_substrings t.equality) r
    e)

-- octets stand in a key of a type, where they stand in the text of a value of the type
keys_stand : (s : SchemaModel) (r : Rule) (u : ℕ) (g : List ℕ) → equality_of s u ≡ Some r → has_substrings r.family ≡
    true → (e : List KeyedAttribute) → IsKeyedBy s e → some_key u (stands_in g) e ≡ stands_in_some s r u g
    (attributes_of e)
keys_stand s r u g is w [] keyed = refl
keys_stand s r u g is w (a ∷ e) keyed = by (nat_eq a.kind u) refl (keys_stand s r u g is w e keyed.1)
  where
    of_type : a.kind ≡ u → map (key_at s r) a.values ≡ map Some a.keys
    of_type same = subst (λ (o : Option Rule). AreKeysBy s o a.values a.keys) (ap (equality_of s) same ∙ is) keyed.0

    by : (b : Bool) → nat_eq a.kind u ≡ b → some_key u (stands_in g) e ≡ stands_in_some s r u g (attributes_of e)
        → ((b && list_any (stands_in g) a.keys) || some_key u (stands_in g) e) ≡
        ((b && list_any (λ v. stands_in_text g (meaning s r v)) a.values) || stands_in_some s r u g
        (attributes_of e))
    by true same ih = ap₂ (λ (x y : Bool). x || y) (values_stand s r g w a.values a.keys
        (of_type (eqb-true a.kind u same))) ih
    by false same ih = ih

prepared_held : (s : SchemaModel) (ix : List Kinds) (r : Rule) (u : ℕ) → equality_of s u ≡ Some r →
    has_substrings r.family ≡ true → (e : List KeyedAttribute) → IsKeyedBy s e → (o : Option PartsModel)
    → has_runs_of_test ix u (test_of test.Parts (spelled_all o)) e ≡ has_prepared_runs s ix r u o (attributes_of e)
prepared_held s ix r u is w e keyed None = refl
prepared_held s ix r u is w e keyed (Some p) =
    ap (λ (f : List ℕ → Bool). not (kinds_of ix u).substrings || list_all f (asked_runs (utf8_parts p)))
    (fun_ext (λ g. keys_stand s r u g is w e keyed))

parts_held : (s : SchemaModel) (ix : List Kinds) (u : ℕ) (p : PartsModel) (e : List KeyedAttribute) → IsKeyedBy s e →
    (o : Option Rule) → substrings_of s u ≡ o
    → has_runs_of_test ix u (test_by_rule test.Parts (λ r. part_keys_at r p) o) e ≡ has_runs_by s ix o u p
    (attributes_of e)
parts_held s ix u p e keyed None is = refl
parts_held s ix u p e keyed (Some r) is =
    let own = substrings_is (slice_get s.types u) r is in
    ap (λ (o : Option PartsModel). has_runs_of_test ix u (test_of test.Parts o) e) (parts_spelled r p)
    ∙ prepared_held s ix r u own.0 own.1 e keyed (prepared_parts r p)

cond_itself : (b : Bool) → cond b true false ≡ b
cond_itself true = refl
cond_itself false = refl

-- the runs that a test asks of keys are those that its item asks of values
pub test_held : TestsAreItems → (s : SchemaModel) (ix : List Kinds) (asked : Item) (u : ℕ) (e : List KeyedAttribute) →
    IsKeyedBy s e → has_runs_of_test ix u (test_for s asked u) e ≡ has_runs_on s ix asked u (attributes_of e)
test_held law s ix present u e keyed = refl
test_held law s ix (equal a) u e keyed =
    made (λ x. has_runs_of_test ix u x e) test.Equal (λ r. key_at s r a) true (λ x. refl) (λ x. refl)
    (equality_of s u) ∙ cond_itself (is_known (test_for s (equal a) u)) ∙ tells law s (equal a) u
test_held law s ix (at_least a) u e keyed =
    made (λ x. has_runs_of_test ix u x e) test.AtLeast (λ r. key_at s r a) true (λ x. refl) (λ x. refl)
    (ordering_of s u) ∙ cond_itself (is_known (test_for s (at_least a) u)) ∙ tells law s (at_least a) u
test_held law s ix (at_most a) u e keyed =
    made (λ x. has_runs_of_test ix u x e) test.AtMost (λ r. key_at s r a) true (λ x. refl) (λ x. refl)
    (ordering_of s u) ∙ cond_itself (is_known (test_for s (at_most a) u)) ∙ tells law s (at_most a) u
test_held law s ix (substrings p) u e keyed = parts_held s ix u p e keyed (substrings_of s u) refl
