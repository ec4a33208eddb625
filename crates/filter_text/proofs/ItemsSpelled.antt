-- Filter texts, scanning: a text that the machine of items accepts spells an item.
use Rattle.std.proofs.Common.{◌≡◌, ℕ, List, [], ◌∷◌, ◌++◌, Bool, true, false, cond, not, ◌&&◌, ◌||◌, Option, None, Some, nat_eq, refl, sym, ap, subst, ◌∙◌, inl, inr}
use Rattle.std.specs.Option.{option_map}
use Rattle.std.proofs.lemmas.Bool.{eqb-true}
use Rattle.ldap_filter.specs.Item.{Comparison, equal, at_least, at_most, approximate, Item, comparison, substrings, presence, extensible}
use Rattle.filter_text.specs.Descriptions.{is_oid, is_description, is_dn}
use Rattle.filter_text.specs.Values.{IsValue, nothing, normal, escaped}
use Rattle.filter_text.specs.Items.{AreParts, operator, rule_text, IsFlag, is_applicable, IsItemText}
use Rattle.filter_text.specs.private.Machine.{accepts}
use Rattle.filter_text.specs.private.ItemScan.{oid_first, oid_step, oid_ends, name_step, name_ends, word_first, behind_word, rule_first, last_out, name_out, is_sign, item_step, item_ends}
use Rattle.filter_text.specs.declared.place.OidPlace.{OidPlace}
use Rattle.filter_text.specs.declared.place.NamePlace.TheVariants.{Oid}
use Rattle.filter_text.specs.declared.place.ValuePlace.TheVariants.{Between}
use Rattle.filter_text.specs.declared.place.Word.{Word}
use Rattle.filter_text.specs.declared.place.Word.TheVariants.{OnlyD, Dn, Other}
use Rattle.filter_text.specs.declared.place.ItemPlace.{ItemPlace}
use Rattle.filter_text.specs.declared.place.ItemPlace.TheVariants.{Start, Name, Sign, Plain, Part, BareColon, Colon, Rule, DnColon, LastRule, Assign}
use Rattle.filter_text.proofs.Booleans.{left, right, both}
use Rattle.filter_text.proofs.Machines.{false_true, none_some, some_same, cut}
use Rattle.filter_text.proofs.Oids.{is_oid_run}
use Rattle.filter_text.proofs.Names.{is_name_run}
use Rattle.filter_text.proofs.ValueRuns.{Either, Tail, taken, plain_spells, part_spells}
use Rattle.filter_text.proofs.Words.{is_dn_word, dn_word, word_oid, put_rule, out_of_rule, rule_inside, unworded}

abbrev Accepts : ItemPlace → List ℕ → Type 0
Accepts p text = accepts item_step item_ends p text ≡ true

-- some item that the text spells
abbrev Some_item : List ℕ → Type 0
Some_item text = (i : Item) × IsItemText i text

-- ---- `=` and a value

record Assigned (text : List ℕ) : Type 0 where
  value : List ℕ
  spelled : List ℕ
  parts : text ≡ 61 ∷ value
  is_value : IsValue spelled value

assigned_at : (b : Bool) (c : ℕ) (cs : List ℕ) → nat_eq c 61 ≡ b → taken (cond b (Some (Plain Between)) None) cs ≡
    true → Assigned (c ∷ cs)
assigned_at true c cs e h = let s = plain_spells cs h in record {
  value = cs;
  spelled = s.0;
  parts = ap (λ d. d ∷ cs)
      (eqb-true c 61 e);
  is_value = s.1;
}
assigned_at false c cs e h = absurd (false_true h)

sign_assigned : (text : List ℕ) → Accepts Sign text → Assigned text
sign_assigned [] h = absurd (false_true h)
sign_assigned (c ∷ cs) h = assigned_at (nat_eq c 61) c cs refl h

assign_assigned : (text : List ℕ) → Accepts Assign text → Assigned text
assign_assigned [] h = absurd (false_true h)
assign_assigned (c ∷ cs) h = assigned_at (nat_eq c 61) c cs refl h

-- ---- what stands behind a description or the first colon

-- whether a flag and a rule may stand behind a description, or behind none
abbrev fits : Bool → Bool → Option (List ℕ) → Bool
fits true b None = true
fits false b None = false
fits true b (Some r) = is_oid r && (b || not (is_dn r))
fits false b (Some r) = is_oid r

record Applied (described : Bool) (text : List ℕ) : Type 0 where
  dn : Bool
  rule : Option (List ℕ)
  flag : List ℕ
  value : List ℕ
  spelled : List ℕ
  parts : 58 ∷ text ≡ flag ++ (rule_text rule ++ 58 ∷ 61 ∷ value)
  is_flag : IsFlag dn flag
  fit : fits described dn rule ≡ true
  is_value : IsValue spelled value

fits_dn : (k : Bool) (r : List ℕ) → is_oid r ≡ true → fits k true (Some r) ≡ true
fits_dn true r h = both (is_oid r) true h refl
fits_dn false r h = h

fits_word : (k : Bool) (r : List ℕ) → is_oid r ≡ true → is_dn r ≡ false → fits k false (Some r) ≡ true
fits_word true r h e = both (is_oid r) (not (is_dn r)) h (ap not e)
fits_word false r h e = h

-- `:=` right behind the description
alone : (c : ℕ) (cs : List ℕ) → nat_eq c 61 ≡ true → Accepts (Plain Between) cs → Applied true (c ∷ cs)
alone c cs e h =
    let s = plain_spells cs h in
    record {
      dn = false;
      rule = None;
      flag = [];
      value = cs;
      spelled = s.0;
      parts = ap (λ d. 58 ∷ d ∷ cs)
          (eqb-true c 61 e);
      is_flag = refl;
      fit = refl;
      is_value = s.1;
    }

-- a rule, a colon, `=` and a value
a_rule : (k : Bool) (r rest : List ℕ) → is_oid r ≡ true → is_dn r ≡ false → Assigned rest → Applied k (r ++ 58 ∷ rest)
a_rule k r rest h e a = record {
  dn = false;
  rule = Some r;
  flag = [];
  value = a.value;
  spelled = a.spelled;
  parts = ap (λ x. 58 ∷ (r ++ 58 ∷ x)) a.parts;
  is_flag = refl;
  fit = fits_word k r h e;
  is_value = a.is_value;
}

-- `dn`, a colon, `=` and a value: a flag behind a description, and a rule of that name behind none
a_flag : (k : Bool) (r rest : List ℕ) → is_oid r ≡ true → is_dn r ≡ true → Assigned rest → Applied k (r ++ 58 ∷ rest)
a_flag true r rest h e a = record {
  dn = true;
  rule = None;
  flag = 58 ∷ r;
  value = a.value;
  spelled = a.spelled;
  parts = ap (λ x. 58 ∷ (r ++ 58 ∷ x)) a.parts;
  is_flag = (r, refl, e);
  fit = refl;
  is_value = a.is_value;
}
a_flag false r rest h e a = record {
  dn = false;
  rule = Some r;
  flag = [];
  value = a.value;
  spelled = a.spelled;
  parts = ap (λ x. 58 ∷ (r ++ 58 ∷ x)) a.parts;
  is_flag = refl;
  fit = h;
  is_value = a.is_value;
}

-- `dn`, a colon, a rule, a colon, `=` and a value
flag_and_rule : (k : Bool) (w r rest : List ℕ) → is_dn w ≡ true → is_oid r ≡ true → Assigned rest →
    Applied k (w ++ 58 ∷ (r ++ 58 ∷ rest))
flag_and_rule k w r rest e h a = record {
  dn = true;
  rule = Some r;
  flag = 58 ∷ w;
  value = a.value;
  spelled = a.spelled;
  parts = ap (λ x. 58 ∷ (w ++ 58 ∷ (r ++ 58 ∷ x))) a.parts;
  is_flag = (w, refl, e);
  fit = fits_dn k r h;
  is_value = a.is_value;
}

-- the colon behind an oid
record Left (o : OidPlace) (c : ℕ) : Type 0 where
  done : oid_ends o ≡ true
  is : c ≡ 58

left_at : {p after : ItemPlace} (e b : Bool) (o : OidPlace) (c : ℕ) → oid_ends o ≡ e → nat_eq c 58 ≡ b →
    cond e (cond b (Some p) None) None ≡ Some after → Left o c × (p ≡ after)
left_at true true o c e f h = (record { done = e; is = eqb-true c 58 f }, some_same h)
left_at true false o c e f h = absurd (none_some h)
left_at false b o c e f h = absurd (none_some h)

-- behind `:dn:`
record LastOf (text : List ℕ) : Type 0 where
  rule : List ℕ
  rest : List ℕ
  parts : text ≡ rule ++ 58 ∷ rest
  is_rule : is_oid rule ≡ true
  assigned : Assigned rest

last_of : (c : ℕ) (cs : List ℕ) (o : OidPlace) → oid_first c ≡ Some o → Accepts (LastRule o) cs → LastOf (c ∷ cs)
last_of c cs o e h =
    let k = cut oid_step item_step item_ends LastRule last_out (λ s d. refl) (λ s. refl) o cs h in
    let l = left_at (oid_ends k.place) (nat_eq k.next 58) k.place k.next refl refl k.left in
    record {
      rule = c ∷ k.front;
      rest = k.rest;
      parts = ap (λ x. c ∷ x) k.parts ∙ ap (λ d. c ∷ (k.front ++ d ∷ k.rest)) l.0.is;
      is_rule = is_oid_run c k.front o k.place e k.ran l.0.done;
      assigned = assign_assigned k.rest (ap (λ p. accepts item_step item_ends p k.rest) l.1 ∙ k.accepted);
    }

behind_dn_rule : (r : Option OidPlace) (k : Bool) (w : List ℕ) (c : ℕ) (cs : List ℕ) → oid_first c ≡ r →
    is_dn w ≡ true → taken (option_map LastRule r) cs ≡ true → Applied k (w ++ 58 ∷ c ∷ cs)
behind_dn_rule None k w c cs e d h = absurd (false_true h)
behind_dn_rule (Some o) k w c cs e d h = let l = last_of c cs o e h in subst (λ x. Applied k (w ++ 58 ∷ x))
    (sym l.parts) (flag_and_rule k w l.rule l.rest d l.is_rule l.assigned)

behind_dn_at : (b k : Bool) (w : List ℕ) (c : ℕ) (cs : List ℕ) → nat_eq c 61 ≡ b → is_oid w ≡ true → is_dn w ≡ true
    → taken (cond b (Some (Plain Between)) (option_map LastRule (oid_first c))) cs ≡ true → Applied k (w ++ 58 ∷ c ∷ cs)
behind_dn_at true k w c cs e o d h = a_flag k w (c ∷ cs) o d (assigned_at true c cs e h)
behind_dn_at false k w c cs e o d h = behind_dn_rule (oid_first c) k w c cs refl d h

behind_dn : (k : Bool) (w rest : List ℕ) → is_oid w ≡ true → is_dn w ≡ true → Accepts DnColon rest →
    Applied k (w ++ 58 ∷ rest)
behind_dn k w [] o d h = absurd (false_true h)
behind_dn k w (c ∷ cs) o d h = behind_dn_at (nat_eq c 61) k w c cs refl o d h

-- a word and a colon
behind_a_word : (word : Word) (k : Bool) (w rest : List ℕ) → is_oid w ≡ true → is_dn w ≡ is_dn_word word →
    Accepts (behind_word word) rest → Applied k (w ++ 58 ∷ rest)
behind_a_word OnlyD k w rest o e h = a_rule k w rest o e (assign_assigned rest h)
behind_a_word Dn k w rest o e h = behind_dn k w rest o e h
behind_a_word Other k w rest o e h = a_rule k w rest o e (assign_assigned rest h)

a_word : (k : Bool) (c : ℕ) (cs : List ℕ) (o : OidPlace) → oid_first c ≡ Some o → Accepts (Rule (word_first c) o) cs →
    Applied k (c ∷ cs)
a_word k c cs o e h =
    let t = cut word_oid item_step item_ends put_rule out_of_rule rule_inside (λ s. refl) (word_first c, o) cs h in
    let l = left_at (oid_ends t.place.1) (nat_eq t.next 58) t.place.1 t.next refl refl t.left in
    let u = unworded (word_first c) o t.place t.front t.ran in
    let same = ap (λ x. c ∷ x) t.parts ∙ ap (λ d. c ∷ (t.front ++ d ∷ t.rest)) l.0.is in
    subst (Applied k) (sym same)
    (behind_a_word t.place.0 k (c ∷ t.front) t.rest (is_oid_run c t.front o t.place.1 e u.0 l.0.done)
    (dn_word c t.front ∙ ap is_dn_word (sym u.1)) (ap (λ p. accepts item_step item_ends p t.rest) l.1 ∙ t.accepted))

rule_at : (r : Option OidPlace) (k : Bool) (c : ℕ) (cs : List ℕ) → oid_first c ≡ r →
    taken (option_map (λ o. Rule (word_first c) o) r) cs ≡ true → Applied k (c ∷ cs)
rule_at None k c cs e h = absurd (false_true h)
rule_at (Some o) k c cs e h = a_word k c cs o e h

bare_applied : (text : List ℕ) → Accepts BareColon text → Applied false text
bare_applied [] h = absurd (false_true h)
bare_applied (c ∷ cs) h = rule_at (oid_first c) false c cs refl h

colon_at : (b : Bool) (c : ℕ) (cs : List ℕ) → nat_eq c 61 ≡ b → taken (cond b (Some (Plain Between)) (rule_first c))
    cs ≡ true → Applied true (c ∷ cs)
colon_at true c cs e h = alone c cs e h
colon_at false c cs e h = rule_at (oid_first c) true c cs refl h

colon_applied : (text : List ℕ) → Accepts Colon text → Applied true text
colon_applied [] h = absurd (false_true h)
colon_applied (c ∷ cs) h = colon_at (nat_eq c 61) c cs refl h

-- ---- the item of a colon

bare_item : (text x : List ℕ) → text ≡ 58 ∷ x → Applied false x → Some_item text
bare_item text x e a = bare_rule a.rule e a.parts a.fit
  where
    bare_rule : (r : Option (List ℕ)) → text ≡ 58 ∷ x → 58 ∷ x ≡ a.flag ++ (rule_text r ++ 58 ∷ 61 ∷ a.value) →
        fits false a.dn r ≡ true → Some_item text
    bare_rule None f p h = absurd (false_true h)
    bare_rule (Some r) f p h = (
      extensible (record { matching_rule = Some r; description = None; match_value = a.spelled; dn_attributes = a.dn }),
      record { flag = a.flag; value = a.value; parts = f ∙ p; is_flag = a.is_flag; applies = h; is_value = a.is_value },
    )

described_fits : (d : List ℕ) (b : Bool) (r : Option (List ℕ)) → is_description d ≡ true → fits true b r ≡ true →
    is_applicable (Some d) b r ≡ true
described_fits d b None h f = h
described_fits d b (Some r) h f =
    both (is_description d && is_oid r) (b || not (is_dn r)) (both (is_description d) (is_oid r) h
    (left (is_oid r) (b || not (is_dn r)) f)) (right (is_oid r) (b || not (is_dn r)) f)

described_item : (d text x : List ℕ) → is_description d ≡ true → text ≡ d ++ 58 ∷ x → Applied true x → Some_item text
described_item d text x h e a = (
  extensible (record { matching_rule = a.rule; description = Some d; match_value = a.spelled; dn_attributes = a.dn }),
  record {
    flag = a.flag;
    value = a.value;
    parts = e ∙ ap (λ y. d ++ y) a.parts;
    is_flag = a.is_flag;
    applies =
        described_fits d a.dn a.rule h a.fit;
    is_value = a.is_value;
  },
)

-- ---- the item of an operator

sign_comparison : (a b e : Bool) (c : ℕ) → nat_eq c 62 ≡ a → nat_eq c 60 ≡ b → nat_eq c 126 ≡ e → (a || b || e) ≡
    true → (k : Comparison) × (operator k ≡ c ∷ 61 ∷ [])
sign_comparison true b e c f g h s = (at_least, ap (λ d. d ∷ 61 ∷ []) (sym (eqb-true c 62 f)))
sign_comparison false true e c f g h s = (at_most, ap (λ d. d ∷ 61 ∷ []) (sym (eqb-true c 60 g)))
sign_comparison false false true c f g h s = (approximate, ap (λ d. d ∷ 61 ∷ []) (sym (eqb-true c 126 h)))
sign_comparison false false false c f g h s = absurd (false_true s)

compared_item : (d text x : List ℕ) (c : ℕ) → is_description d ≡ true → text ≡ d ++ c ∷ x → is_sign c ≡ true →
    Assigned x → Some_item text
compared_item d text x c h e s a =
    let k = sign_comparison (nat_eq c 62) (nat_eq c 60) (nat_eq c 126) c refl refl refl s in (
      comparison k.0 d a.spelled,
      record {
        value = a.value;
        parts = e ∙ ap (λ y. d ++ c ∷ y) a.parts
            ∙ ap (λ y. d ++ (y ++ a.value)) (sym k.1);
        is_description = h;
        is_value = a.is_value;
      },
    )

-- ---- the item of `=`

some_octet : {v text : List ℕ} → IsValue v text → v ≡ [] → text ≡ []
some_octet nothing e = refl
some_octet (normal c f s) e = cc
some_octet (escaped h l c f s) e = cc

tail_item : (any : List (List ℕ)) (last : Option (List ℕ)) (d text x before behind : List ℕ) → is_description d ≡
    true → text ≡ d ++ 61 ∷ x → x ≡ before ++ 42 ∷ behind → before ≡ []
    → AreParts any last behind → Some_item text
tail_item [] None d text x before behind h e f g p = (
  presence d,
  record {
    parts = e ∙ ap (λ y. d ++ 61 ∷ y) f ∙ ap (λ y. d ++ 61 ∷ (y ++ 42 ∷ behind)) g
        ∙ ap (λ y. d ++ 61 ∷ 42 ∷ y) p;
    is_description = h;
  },
)
tail_item [] (Some v) d text x before behind h e f g p = (
  substrings (record { description = d; initial = None; any = []; last = Some v }),
  record {
    value = x;
    parts = e;
    is_description = h;
    are_parts = record {
      before = before;
      behind = behind;
      parts =
          f;
      is_before = g;
      is_behind = p;
    };
    some = refl;
  },
)
tail_item (u ∷ us) last d text x before behind h e f g p = (
  substrings (record { description = d; initial = None; any = u ∷ us; last = last }),
  record {
    value = x;
    parts = e;
    is_description = h;
    are_parts = record {
      before = before;
      behind = behind;
      parts =
          f;
      is_before = g;
      is_behind = p;
    };
    some = refl;
  },
)

split_item : (value : List ℕ) (d text x before behind : List ℕ) → is_description d ≡ true → text ≡ d ++ 61 ∷ x →
    x ≡ before ++ 42 ∷ behind → IsValue value before → Tail behind → Some_item text
split_item [] d text x before behind h e f s t = tail_item t.any t.last d text x before behind h e f
    (some_octet s refl) t.are_parts
split_item (c ∷ cs) d text x before behind h e f s t = (
  substrings (record { description = d; initial = Some (c ∷ cs); any = t.any; last = t.last }),
  record {
    value = x;
    parts = e;
    is_description = h;
    are_parts = record {
      before = before;
      behind = behind;
      parts = f;
      is_before = record {
        is_value = s;
        is_some =
            λ g. cc;
      };
      is_behind = t.are_parts;
    };
    some = refl;
  },
)

equals_item : (d text x : List ℕ) → is_description d ≡ true → text ≡ d ++ 61 ∷ x → Either x → Some_item text
equals_item d text x h e (inl s) = (
  comparison equal d s.0,
  record {
    value = x;
    parts = e;
    is_description =
        h;
    is_value = s.1;
  },
)
equals_item d text x h e (inr s) = split_item s.value d text x s.before s.behind h e s.parts s.is_value s.tail

-- ---- items

name_item_at : (n a b s : Bool) (d text x : List ℕ) (c : ℕ) (p : ItemPlace) → is_description d ≡ true →
    text ≡ d ++ c ∷ x → nat_eq c 61 ≡ a → nat_eq c 58 ≡ b → is_sign c ≡ s
    → cond n (cond a (Some (Part Between)) (cond b (Some Colon) (cond s (Some Sign) None))) None ≡ Some p →
    Accepts p x → Some_item text
name_item_at false a b s d text x c p h e f g k q acc = absurd (none_some q)
name_item_at true true b s d text x c p h e f g k q acc =
    equals_item d text x h (e ∙ ap (λ y. d ++ y ∷ x) (eqb-true c 61 f))
    (part_spells x (ap (λ r. accepts item_step item_ends r x) (some_same q) ∙ acc))
name_item_at true false true s d text x c p h e f g k q acc =
    described_item d text x h (e ∙ ap (λ y. d ++ y ∷ x) (eqb-true c 58 g))
    (colon_applied x (ap (λ r. accepts item_step item_ends r x) (some_same q) ∙ acc))
name_item_at true false false true d text x c p h e f g k q acc = compared_item d text x c h e k
    (sign_assigned x (ap (λ r. accepts item_step item_ends r x) (some_same q) ∙ acc))
name_item_at true false false false d text x c p h e f g k q acc = absurd (none_some q)

name_item : (c : ℕ) (cs : List ℕ) (o : OidPlace) → oid_first c ≡ Some o → Accepts (Name (Oid o)) cs → Some_item (c ∷ cs)
name_item c cs o e h =
    let k = cut name_step item_step item_ends Name name_out (λ s d. refl) (λ s. refl) (Oid o) cs h in
    name_item_at (name_ends k.place) (nat_eq k.next 61) (nat_eq k.next 58) (is_sign k.next) (c ∷ k.front) (c ∷ cs)
    k.rest k.next k.after
    (is_name_run c k.front o k.place e k.ran (ends_at (name_ends k.place) k.next k.after k.left))
    (ap (λ x. c ∷ x) k.parts) refl refl refl k.left k.accepted
  where
    ends_at : (n : Bool) (d : ℕ) (p : ItemPlace) →
        cond n (cond (nat_eq d 61) (Some (Part Between)) (cond (nat_eq d 58) (Some Colon)
        (cond (is_sign d) (Some Sign) None))) None ≡ Some p → n ≡ true
    ends_at true d p q = refl
    ends_at false d p q = absurd (none_some q)

start_at : (b : Bool) (r : Option OidPlace) (c : ℕ) (cs : List ℕ) → nat_eq c 58 ≡ b → oid_first c ≡ r
    → taken (cond b (Some BareColon) (option_map (λ o. Name (Oid o)) r)) cs ≡ true → Some_item (c ∷ cs)
start_at true r c cs e f h = bare_item (c ∷ cs) cs (ap (λ d. d ∷ cs) (eqb-true c 58 e)) (bare_applied cs h)
start_at false None c cs e f h = absurd (false_true h)
start_at false (Some o) c cs e f h = name_item c cs o f h

pub item_spelled : (text : List ℕ) → accepts item_step item_ends Start text ≡ true → (i : Item) × IsItemText i text
item_spelled [] h = absurd (false_true h)
item_spelled (c ∷ cs) h = start_at (nat_eq c 58) (oid_first c) c cs refl refl h
