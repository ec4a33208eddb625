-- Tests made of items that name a rule, against the items.
use Rattle.std.proofs.Common.{ℕ, List, [], ◌∷◌, Bool, true, false, cond, ◌||◌, Option, None, Some, is_some, ◌≡◌, refl, ap, ap₂, sym, subst, ◌∙◌, map}
use Rattle.std.specs.List.{list_any}
use Rattle.std.specs.Option.{option_map_or}
use Rattle.dir_entry.specs.ldap_words.Families.{is_used_on, is_textual, is_ordering}
use Rattle.dir_entry.specs.ldap_syntax.Meaning.{Meaning}
use Rattle.dir_entry.specs.ldap_words.declared.rule.Rule.{Rule}
use Rattle.dir_entry.specs.ldap_syntax.Forms.{is_met, is_met_by, is_text_met, TextsTell}
use Rattle.dir_entry.specs.ldap_schema.Schema.{SchemaModel}
use Rattle.dir_entry.specs.ldap_dn.Pairs.{PairModel}
use Rattle.dir_entry.specs.ldap_match.Meaning.{meaning}
use Rattle.dir_entry.specs.ldap_match.Truth.{truth_of}
use Rattle.dir_entry.specs.ldap_match.declared.truth.Truth.TheVariants.{Undefined}
use Rattle.dir_entry.specs.ldap_match.Item.{answered, by_rule}
use Rattle.dir_entry.specs.ldap_match.Keyed.{key_at, AreKeysBy, AreKeysOf}
use Rattle.ldap_eval.specs.Matching.{rule_for, asks_less, satisfies, goes_by_key, key_meets, match_on_values, pair_answered, match_on_pair}
use Rattle.ldap_eval.specs.Matched.{match_made, match_of_key, match_of_rule, match_for, match_value, match_pair}
use Rattle.ldap_eval.specs.declared.naming_rules.How.{How}
use Rattle.dir_entry.proofs.ldap_match.Items.{KeysMean, same_test, same_order}
use Rattle.ldap_eval.proofs.Kept.{RuleFits, rule_fits, text_key_is}

-- one value: its key meets the asserted one where its meaning satisfies the rule
met_by : (s : SchemaModel) (r : Rule) (less : Bool) (a k : List ℕ) (m : Meaning) → KeysMean s r →
    (less ≡ true → is_ordering r.family ≡ true) → meaning s r a ≡ Some m → key_at s r a ≡ Some k
    → (v : List ℕ) (o : Option (List ℕ)) (p : Option Meaning) → key_at s r v ≡ o → meaning s r v ≡ p →
    is_some o ≡ is_some p → is_met_by less k o ≡ satisfies less m p
met_by s r true a k m h orders ma ka v None None kv mv e = refl
met_by s r false a k m h orders ma ka v None None kv mv e = refl
met_by s r less a k m h orders ma ka v None (Some n) kv mv e = absurd (cc)
met_by s r less a k m h orders ma ka v (Some l) None kv mv e = absurd (cc)
met_by s r true a k m h orders ma ka v (Some l) (Some n) kv mv e = same_order s r a k m h (orders refl) ma ka v l n kv
    mv
met_by s r false a k m h orders ma ka v (Some l) (Some n) kv mv e = same_test k l m n (h.is_equal v a n m l k mv ma kv
    ka)

module _ (s : SchemaModel) (r : Rule) (less : Bool) (a k : List ℕ) (m : Meaning) (h : KeysMean s r)
    (orders : less ≡ true → is_ordering r.family ≡ true) (ma : meaning s r a ≡ Some m) (ka : key_at s r a ≡ Some k)
  where
    met : (v : List ℕ) → is_met_by less k (key_at s r v) ≡ satisfies less m (meaning s r v)
    met v = met_by s r less a k m h orders ma ka v (key_at s r v) (meaning s r v) refl refl (h.is_present v)

    head_is : (x y : Option (List ℕ)) (xs ys : List (Option (List ℕ))) → x ∷ xs ≡ y ∷ ys → x ≡ y
    head_is x y xs ys e = cc

    tail_is : (x y : Option (List ℕ)) (xs ys : List (Option (List ℕ))) → x ∷ xs ≡ y ∷ ys → xs ≡ ys
    tail_is x y xs ys e = cc

    -- by the keys that are kept
    any_kept : (values keys : List (List ℕ)) → map (key_at s r) values ≡ map Some keys → list_any (is_met less k) keys ≡
        list_any (λ v. satisfies less m (meaning s r v)) values
    any_kept [] [] e = refl
    any_kept [] (l ∷ keys) e = absurd (cc)
    any_kept (v ∷ values) [] e = absurd (cc)
    any_kept (v ∷ values) (l ∷ keys) e =
        ap₂ (λ (x y : Bool). x || y)
        (sym (ap (is_met_by less k) (head_is (key_at s r v) (Some l) (map (key_at s r) values) (map Some keys) e))
        ∙ met v)
        (any_kept values keys (tail_is (key_at s r v) (Some l) (map (key_at s r) values) (map Some keys) e))

    -- by texts
    text_met : TextsTell → is_used_on r.family r.syntax ≡ true → is_textual r.syntax ≡ true → (v : List ℕ) →
        is_text_met r less k v ≡ satisfies less m (meaning s r v)
    text_met tell u t v = tell r less k v u t ∙ ap (is_met_by less k) (sym (text_key_is s r.family r.syntax v u t))
        ∙ met v

    any_text : TextsTell → is_used_on r.family r.syntax ≡ true → is_textual r.syntax ≡ true → (values : List (List ℕ)) →
        list_any (is_text_met r less k) values ≡ list_any (λ v. satisfies less m (meaning s r v)) values
    any_text tell u t [] = refl
    any_text tell u t (v ∷ values) = ap₂ (λ (x y : Bool). x || y) (text_met tell u t v) (any_text tell u t values)

    by_way : TextsTell → (by_key : Bool) (values keys : List (List ℕ)) →
        (by_key ≡ true → map (key_at s r) values ≡ map Some keys) → (by_key ≡ false → is_used_on r.family r.syntax ≡
        true) → (by_key ≡ false → is_textual r.syntax ≡ true)
        → match_value (match_made by_key r less k) values keys ≡
        truth_of (list_any (λ v. satisfies less m (meaning s r v)) values)
    by_way tell true values keys kept u t = ap truth_of (any_kept values keys (kept refl))
    by_way tell false values keys kept u t = ap truth_of (any_text tell (u refl) (t refl) values)

    pair_way : TextsTell → (by_key : Bool) (p : PairModel) → (by_key ≡ false → is_used_on r.family r.syntax ≡ true) →
        (by_key ≡ false → is_textual r.syntax ≡ true)
        → match_pair (match_made by_key r less k) p ≡ truth_of (cond by_key (key_meets less (key_at s r a) p.key)
        (satisfies less m (meaning s r p.value)))
    pair_way tell true p u t = ap (λ (x : Option (List ℕ)). truth_of (key_meets less x p.key)) (sym ka)
    pair_way tell false p u t = ap truth_of (text_met tell (u refl) (t refl) p.value)

module _ (s : SchemaModel) (h : How) (a : List ℕ) (laws : (r : Rule) → KeysMean s r) (tell : TextsTell) where
  by_key : (t : ℕ) (r : Rule) (values keys : List (List ℕ)) (o : Option (List ℕ)) (p : Option Meaning) →
      RuleFits s h t r → AreKeysOf s t values keys → key_at s r a ≡ o → meaning s r a ≡ p → is_some o ≡ is_some p
      → match_value (match_of_key s h t r o) values keys ≡ answered (satisfies (asks_less h)) s r p values
  by_key t r values keys None None f kept ka ma e = refl
  by_key t r values keys None (Some m) f kept ka ma e = absurd (cc)
  by_key t r values keys (Some k) None f kept ka ma e = absurd (cc)
  by_key t r values keys (Some k) (Some m) f kept ka ma e =
      by_way s r (asks_less h) a k m (laws r) f.orders ma ka tell (goes_by_key s h t) values keys
      (λ g. subst (λ (x : Option Rule). AreKeysBy s x values keys) (f.kept g) kept) f.used f.text

  by_rule_for : (t : ℕ) (values keys : List (List ℕ)) (o : Option Rule) → rule_for s h t ≡ o →
      AreKeysOf s t values keys → match_value (match_of_rule s h a t o) values keys ≡
      by_rule (satisfies (asks_less h)) (λ r. meaning s r a) s o values
  by_rule_for t values keys None e kept = refl
  by_rule_for t values keys (Some r) e kept = by_key t r values keys (key_at s r a) (meaning s r a)
      (rule_fits s h t r e) kept refl refl ((laws r).is_present a)

  -- the test on an attribute is the item on it
  pub on_values : (t : ℕ) (values keys : List (List ℕ)) → AreKeysOf s t values keys → match_value (match_for s h a t)
      values keys ≡ match_on_values s h a t values
  on_values t values keys kept = by_rule_for t values keys (rule_for s h t) refl kept

  pair_key : (p : PairModel) (r : Rule) (o : Option (List ℕ)) (q : Option Meaning) → RuleFits s h p.kind r →
      key_at s r a ≡ o → meaning s r a ≡ q → is_some o ≡ is_some q → match_pair (match_of_key s h p.kind r o) p ≡
      pair_answered s h r a q p
  pair_key p r None None f ka ma e = refl
  pair_key p r None (Some m) f ka ma e = absurd (cc)
  pair_key p r (Some k) None f ka ma e = absurd (cc)
  pair_key p r (Some k) (Some m) f ka ma e = pair_way s r (asks_less h) a k m (laws r) f.orders ma ka tell
      (goes_by_key s h p.kind) p f.used f.text

  pair_rule : (p : PairModel) (o : Option Rule) → rule_for s h p.kind ≡ o → match_pair (match_of_rule s h a p.kind o)
      p ≡ option_map_or (λ (r : Rule). pair_answered s h r a (meaning s r a) p) o Undefined
  pair_rule p None e = refl
  pair_rule p (Some r) e = pair_key p r (key_at s r a) (meaning s r a) (rule_fits s h p.kind r e) refl refl
      ((laws r).is_present a)

  -- and on a pair of a name
  pub on_pair : (p : PairModel) → match_pair (match_for s h a p.kind) p ≡ match_on_pair s h a p
  on_pair p = pair_rule p (rule_for s h p.kind) refl

pub any_map : {A B : Type 0} (p : B → Bool) (f : A → B) (xs : List A) → list_any p (map f xs) ≡
    list_any (λ x. p (f x)) xs
any_map p f [] = refl
any_map p f (x ∷ xs) = ap (λ (b : Bool). p (f x) || b) (any_map p f xs)
