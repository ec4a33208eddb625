-- Filter texts, scanning: the machine of values accepts the texts that spell values, and the one of parts the parts
-- between asterisks.
use Rattle.std.proofs.Common.{◌≡◌, ◌≢◌, ℕ, List, [], ◌∷◌, ◌++◌, Bool, true, false, cond, Option, None, Some, nat_eq, refl, sym, ap, subst, ◌∙◌, ◌⊎◌, inl, inr, append-nil, append_assoc}
use Rattle.std.specs.Option.{option_map, is_some, option_and_then}
use Rattle.std.proofs.lemmas.Bool.{eqb-true}
use Rattle.filter_text.specs.Values.{is_normal, hex_digit, with_high, hex_octet, IsValue, nothing, normal, escaped}
use Rattle.filter_text.specs.Items.{IsPart, IsPartOrNone, AreParts, Starred}
use Rattle.filter_text.specs.private.Machine.{holds, run, accepts}
use Rattle.filter_text.specs.private.ItemScan.{is_hex, value_step, item_step, item_ends}
use Rattle.filter_text.specs.declared.place.ValuePlace.{ValuePlace}
use Rattle.filter_text.specs.declared.place.ValuePlace.TheVariants.{Between, Escape, Half}
use Rattle.filter_text.specs.declared.place.ItemPlace.{ItemPlace}
use Rattle.filter_text.specs.declared.place.ItemPlace.TheVariants.{Plain, Part, Star}
use Rattle.filter_text.proofs.Machines.{false_true, one_step}

-- ---- octets

pub not_backslash_at : (b : Bool) (c : ℕ) → nat_eq c 92 ≡ b → is_normal c ≡ true → b ≡ false
not_backslash_at false c t e = refl
not_backslash_at true c t e = absurd (false_true (sym (ap is_normal (eqb-true c 92 t)) ∙ e))

not_backslash : (c : ℕ) → is_normal c ≡ true → nat_eq c 92 ≡ false
not_backslash c e = not_backslash_at (nat_eq c 92) c refl e

not_star_at : (b : Bool) (c : ℕ) → nat_eq c 42 ≡ b → is_normal c ≡ true → b ≡ false
not_star_at false c t e = refl
not_star_at true c t e = absurd (false_true (sym (ap is_normal (eqb-true c 42 t)) ∙ e))

not_star : (c : ℕ) → is_normal c ≡ true → nat_eq c 42 ≡ false
not_star c e = not_star_at (nat_eq c 42) c refl e

first_hex_at : (o p : Option ℕ) (c : ℕ) → with_high o p ≡ Some c → is_some o ≡ true
first_hex_at None p c e = cc
first_hex_at (Some h) p c e = refl

second_hex_at : (o p : Option ℕ) (c : ℕ) → with_high o p ≡ Some c → is_some p ≡ true
second_hex_at None p c e = cc
second_hex_at (Some h) None c e = cc
second_hex_at (Some h) (Some l) c e = refl

pub first_hex : (h l c : ℕ) → hex_octet h l ≡ Some c → is_hex h ≡ true
first_hex h l c e = first_hex_at (hex_digit h) (hex_digit l) c e

pub second_hex : (h l c : ℕ) → hex_octet h l ≡ Some c → is_hex l ≡ true
second_hex h l c e = second_hex_at (hex_digit h) (hex_digit l) c e

two_hex_at : (o p : Option ℕ) → is_some o ≡ true → is_some p ≡ true → (c : ℕ) × (with_high o p ≡ Some c)
two_hex_at None p e f = absurd (false_true e)
two_hex_at (Some h) None e f = absurd (false_true f)
two_hex_at (Some h) (Some l) e f = (_, refl)

two_hex : (h l : ℕ) → is_hex h ≡ true → is_hex l ≡ true → (c : ℕ) × (hex_octet h l ≡ Some c)
two_hex h l e f = two_hex_at (hex_digit h) (hex_digit l) e f

-- ---- what is spelled is accepted

normal_step : (c : ℕ) → is_normal c ≡ true → value_step Between c ≡ Some Between
normal_step c e = ap (λ b. cond b (Some Escape) (cond (is_normal c) (Some Between) None)) (not_backslash c e)
    ∙ ap (λ b. cond b (Some Between) None) e

hex_steps : (c : ℕ) → is_hex c ≡ true → value_step Escape c ≡ Some Half
hex_steps c e = ap (λ b. cond b (Some Half) None) e

hex_ends : (c : ℕ) → is_hex c ≡ true → value_step Half c ≡ Some Between
hex_ends c e = ap (λ b. cond b (Some Between) None) e

pub plain_run : {v text : List ℕ} → IsValue v text → run item_step (Plain Between) text ≡ Some (Plain Between)
plain_run nothing = refl
plain_run (normal {v} {text} c e s) = one_step item_step (Plain Between) (Plain Between) c text
    (ap (option_map Plain) (normal_step c e)) ∙ plain_run s
plain_run (escaped {v} {text} h l c e s) =
    one_step item_step (Plain Escape) (Plain Half) h (l ∷ text)
    (ap (option_map Plain) (hex_steps h (first_hex h l c e)))
    ∙ one_step item_step (Plain Half) (Plain Between) l text (ap (option_map Plain) (hex_ends l (second_hex h l c e)))
    ∙ plain_run s

part_first : (c : ℕ) → is_normal c ≡ true → item_step (Part Between) c ≡ Some (Part Between)
part_first c e = ap (λ b. cond b (Some Star) (option_map Part (value_step Between c))) (not_star c e)
    ∙ ap (option_map Part) (normal_step c e)

two_more : (h l c : ℕ) (x : List ℕ) → hex_octet h l ≡ Some c → run item_step (Part Escape) (h ∷ l ∷ x) ≡ run item_step
    (Part Between) x
two_more h l c x e =
    one_step item_step (Part Escape) (Part Half) h (l ∷ x) (ap (option_map Part) (hex_steps h (first_hex h l c e)))
    ∙ one_step item_step (Part Half) (Part Between) l x (ap (option_map Part) (hex_ends l (second_hex h l c e)))

pub part_run : {v text : List ℕ} (x : List ℕ) → IsValue v text → run item_step (Part Between) (text ++ x) ≡
    run item_step (Part Between) x
part_run x nothing = refl
part_run x (normal {v} {text} c e s) = one_step item_step (Part Between) (Part Between) c (text ++ x) (part_first c e)
    ∙ part_run x s
part_run x (escaped {v} {text} h l c e s) = two_more h l c (text ++ x) e ∙ part_run x s

star_run : {v text : List ℕ} (x : List ℕ) → IsValue v text → v ≢ [] → run item_step Star (text ++ x) ≡ run item_step
    (Part Between) x
star_run x nothing some = absurd (some refl)
star_run x (normal {v} {text} c e s) some = one_step item_step Star (Part Between) c (text ++ x)
    (ap (option_map Part) (normal_step c e)) ∙ part_run x s
star_run x (escaped {v} {text} h l c e s) some = two_more h l c (text ++ x) e ∙ part_run x s

one_part : (v text x : List ℕ) → IsPart v text → run item_step Star (text ++ x) ≡ run item_step (Part Between) x
one_part v text x p = star_run x p.is_value p.is_some

last_part : (v text : List ℕ) → IsPart v text → accepts item_step item_ends Star text ≡ true
last_part v text p = ap (λ t. accepts item_step item_ends Star t) (sym (append-nil text))
    ∙ ap (holds item_ends) (one_part v text [] p)

pub parts_run : (vs : List (List ℕ)) (o : Option (List ℕ)) (text : List ℕ) → AreParts vs o text →
    accepts item_step item_ends Star text ≡ true
parts_run [] None text p = ap (λ t. accepts item_step item_ends Star t) p
parts_run [] (Some v) text p = last_part v text p
parts_run (v ∷ vs) o text p =
    ap (λ t. accepts item_step item_ends Star t) p.parts ∙ ap (holds item_ends) (one_part v p.before (42 ∷ p.behind)
    p.is_before) ∙ parts_run vs o p.behind p.is_behind

pub starred_run : (i o : Option (List ℕ)) (vs : List (List ℕ)) (text : List ℕ) →
    Starred (IsPartOrNone i) (AreParts vs o) text → accepts item_step item_ends (Part Between) text ≡ true
starred_run None o vs text p = ap (λ t. accepts item_step item_ends (Part Between) t) (p.parts
    ∙ ap (λ x. x ++ 42 ∷ p.behind) p.is_before) ∙ parts_run vs o p.behind p.is_behind
starred_run (Some v) o vs text p =
    ap (λ t. accepts item_step item_ends (Part Between) t) p.parts
    ∙ ap (holds item_ends) (part_run (42 ∷ p.behind) p.is_before.is_value) ∙ parts_run vs o p.behind p.is_behind

-- ---- what is accepted is spelled

abbrev pub Spelled : List ℕ → Type 0
Spelled text = (v : List ℕ) × IsValue v text

one_octet : (c : ℕ) (cs : List ℕ) → is_normal c ≡ true → Spelled cs → Spelled (c ∷ cs)
one_octet c cs e s = (c ∷ s.0, normal c e s.1)

three_octets : (h l : ℕ) (cs : List ℕ) → is_hex h ≡ true → is_hex l ≡ true → Spelled cs → Spelled (92 ∷ h ∷ l ∷ cs)
three_octets h l cs e f s = let o = two_hex h l e f in (o.0 ∷ s.0, escaped h l o.0 o.1 s.1)

abbrev pub taken : Option ItemPlace → List ℕ → Bool
taken o cs = holds item_ends (option_and_then (λ t. run item_step t cs) o)

plain_at : (b n : Bool) (c : ℕ) (cs : List ℕ) → nat_eq c 92 ≡ b → is_normal c ≡ n →
    (accepts item_step item_ends (Plain Between) cs ≡ true → Spelled cs)
    → (accepts item_step item_ends (Plain Escape) cs ≡ true → Spelled (92 ∷ cs))
    → taken (option_map Plain (cond b (Some Escape) (cond n (Some Between) None))) cs ≡ true → Spelled (c ∷ cs)
plain_at true n c cs e f more escape h = subst (λ d. Spelled (d ∷ cs)) (sym (eqb-true c 92 e)) (escape h)
plain_at false true c cs e f more escape h = one_octet c cs f (more h)
plain_at false false c cs e f more escape h = absurd (false_true h)

half_at : (b d : Bool) (h l : ℕ) (cs : List ℕ) → is_hex h ≡ b → is_hex l ≡ d →
    (accepts item_step item_ends (Plain Between) cs ≡ true → Spelled cs)
    → holds item_ends (option_and_then (λ t. run item_step t (l ∷ cs)) (option_map Plain (cond b (Some Half) None))) ≡
    true → Spelled (92 ∷ h ∷ l ∷ cs)
half_at false d h l cs e f more a = absurd (false_true a)
half_at true false h l cs e f more a =
    absurd (false_true (sym (ap (λ x. taken (option_map Plain (cond x (Some Between) None)) cs) f) ∙ a))
half_at true true h l cs e f more a = three_octets h l cs e f
    (more (sym (ap (λ x. taken (option_map Plain (cond x (Some Between) None)) cs) f) ∙ a))

escape_end_at : (b : Bool) → holds item_ends (option_and_then (λ t. run item_step t [])
    (option_map Plain (cond b (Some Half) None))) ≡ true → ⊥
escape_end_at true h = false_true h
escape_end_at false h = false_true h

pub plain_spells : (text : List ℕ) → accepts item_step item_ends (Plain Between) text ≡ true → Spelled text
plain_spells [] h = ([], nothing)
plain_spells (c ∷ []) h = plain_at (nat_eq c 92) (is_normal c) c [] refl refl (λ g. plain_spells [] g)
    (λ g. absurd (false_true g)) h
plain_spells (c ∷ d ∷ []) h = plain_at (nat_eq c 92) (is_normal c) c (d ∷ []) refl refl (λ g. plain_spells (d ∷ []) g)
    (λ g. absurd (escape_end_at (is_hex d) g)) h
plain_spells (c ∷ d ∷ e ∷ cs) h =
    plain_at (nat_eq c 92) (is_normal c) c (d ∷ e ∷ cs) refl refl (λ g. plain_spells (d ∷ e ∷ cs) g)
    (λ g. half_at (is_hex d) (is_hex e) d e cs refl refl (λ k. plain_spells cs k) g) h

-- ---- parts

-- parts behind an asterisk
pub record Tail (text : List ℕ) : Type 0 where
  pub any : List (List ℕ)
  pub last : Option (List ℕ)
  pub are_parts : AreParts any last text

-- a value, an asterisk and parts
pub record Split (text : List ℕ) : Type 0 where
  pub value : List ℕ
  pub before : List ℕ
  pub behind : List ℕ
  pub parts : text ≡ before ++ 42 ∷ behind
  pub is_value : IsValue value before
  pub tail : Tail behind

abbrev pub Either : List ℕ → Type 0
Either text = Spelled text ⊎ Split text

more_split : (front cs : List ℕ) → ((v b : List ℕ) → IsValue v b → Spelled (front ++ b)) → Split cs →
    Split (front ++ cs)
more_split front cs f s =
    let g = f s.value s.before s.is_value in
    record {
      value = g.0;
      before = front ++ s.before;
      behind = s.behind;
      parts = ap (λ x. front ++ x) s.parts ∙ sym (append_assoc front s.before (42 ∷ s.behind));
      is_value = g.1;
      tail = s.tail;
    }

more_either : (front cs : List ℕ) → ((v b : List ℕ) → IsValue v b → Spelled (front ++ b)) → Either cs →
    Either (front ++ cs)
more_either front cs f (inl s) = inl (f s.0 cs s.1)
more_either front cs f (inr s) = inr (more_split front cs f s)

either_octet : (c : ℕ) (cs : List ℕ) → is_normal c ≡ true → Either cs → Either (c ∷ cs)
either_octet c cs e s = more_either (c ∷ []) cs (λ v b h. one_octet c b e (v, h)) s

either_escape : (h l : ℕ) (cs : List ℕ) → is_hex h ≡ true → is_hex l ≡ true → Either cs → Either (92 ∷ h ∷ l ∷ cs)
either_escape h l cs e f s = more_either (92 ∷ h ∷ l ∷ []) cs (λ v b k. three_octets h l b e f (v, k)) s

at_star : (c : ℕ) (cs : List ℕ) → nat_eq c 42 ≡ true → Tail cs → Either (c ∷ cs)
at_star c cs e t = inr (record {
  value = [];
  before = [];
  behind = cs;
  parts = ap (λ d. d ∷ cs) (eqb-true c 42 e);
  is_value = nothing;
  tail = t;
})

abbrev part_taken : Option ValuePlace → List ℕ → Bool
part_taken o cs = taken (option_map Part o) cs

octet_at : (b n : Bool) (c : ℕ) (cs : List ℕ) → nat_eq c 92 ≡ b → is_normal c ≡ n →
    (accepts item_step item_ends (Part Between) cs ≡ true → Either cs)
    → (accepts item_step item_ends (Part Escape) cs ≡ true → Either (92 ∷ cs))
    → part_taken (cond b (Some Escape) (cond n (Some Between) None)) cs ≡ true → Either (c ∷ cs)
octet_at true n c cs e f more escape h = subst (λ d. Either (d ∷ cs)) (sym (eqb-true c 92 e)) (escape h)
octet_at false true c cs e f more escape h = either_octet c cs f (more h)
octet_at false false c cs e f more escape h = absurd (false_true h)

part_at : (s : Bool) (c : ℕ) (cs : List ℕ) → nat_eq c 42 ≡ s → (accepts item_step item_ends Star cs ≡ true → Tail cs)
    → (part_taken (value_step Between c) cs ≡ true → Either (c ∷ cs))
    → taken (cond s (Some Star) (option_map Part (value_step Between c))) cs ≡ true → Either (c ∷ cs)
part_at true c cs e star more h = at_star c cs e (star h)
part_at false c cs e star more h = more h

either_half_at : (b d : Bool) (h l : ℕ) (cs : List ℕ) → is_hex h ≡ b → is_hex l ≡ d →
    (accepts item_step item_ends (Part Between) cs ≡ true → Either cs)
    → holds item_ends (option_and_then (λ t. run item_step t (l ∷ cs)) (option_map Part (cond b (Some Half) None))) ≡
    true → Either (92 ∷ h ∷ l ∷ cs)
either_half_at false d h l cs e f more a = absurd (false_true a)
either_half_at true false h l cs e f more a =
    absurd (false_true (sym (ap (λ x. part_taken (cond x (Some Between) None) cs) f) ∙ a))
either_half_at true true h l cs e f more a = either_escape h l cs e f
    (more (sym (ap (λ x. part_taken (cond x (Some Between) None) cs) f) ∙ a))

part_end_at : (b : Bool) → holds item_ends (option_and_then (λ t. run item_step t [])
    (option_map Part (cond b (Some Half) None))) ≡ true → ⊥
part_end_at true h = false_true h
part_end_at false h = false_true h

cons_nil : {c : ℕ} {cs : List ℕ} → c ∷ cs ≡ [] → ⊥
cons_nil e = cc

some_octet : {v text : List ℕ} → IsValue v text → (text ≡ [] → ⊥) → v ≢ []
some_octet nothing f = absurd (f refl)
some_octet (normal c e s) f = λ g. cons_nil g
some_octet (escaped h l c e s) f = λ g. cons_nil g

last_tail : (c : ℕ) (cs : List ℕ) → Spelled (c ∷ cs) → Tail (c ∷ cs)
last_tail c cs s = record {
  any = [];
  last = Some s.0;
  are_parts = record {
    is_value = s.1;
    is_some = some_octet s.1
        (λ e. cons_nil e);
  };
}

no_star : (c : ℕ) (cs : List ℕ) → part_taken (value_step Between c) cs ≡ true → c ≡ 42 → ⊥
no_star c cs h e = false_true (sym (ap (λ d. part_taken (value_step Between d) cs) e) ∙ h)

head_same : {a b : ℕ} {xs ys : List ℕ} → a ∷ xs ≡ b ∷ ys → a ≡ b
head_same e = cc

split_tail : (c : ℕ) (cs value before behind : List ℕ) → (c ≡ 42 → ⊥) → c ∷ cs ≡ before ++ 42 ∷ behind →
    IsValue value before → Tail behind → Tail (c ∷ cs)
split_tail c cs value [] behind f e s t = absurd (f (head_same e))
split_tail c cs value (b ∷ bs) behind f e s t = record {
  any = value ∷ t.any;
  last = t.last;
  are_parts = record {
    before = b ∷ bs;
    behind = behind;
    parts = e;
    is_before = record {
      is_value = s;
      is_some =
          some_octet s (λ g. cons_nil g);
    };
    is_behind = t.are_parts;
  };
}

either_tail : (c : ℕ) (cs : List ℕ) → (c ≡ 42 → ⊥) → Either (c ∷ cs) → Tail (c ∷ cs)
either_tail c cs f (inl s) = last_tail c cs s
either_tail c cs f (inr s) = split_tail c cs s.value s.before s.behind f s.parts s.is_value s.tail

mutual
  pub part_spells : (text : List ℕ) → accepts item_step item_ends (Part Between) text ≡ true → Either text
  part_spells [] h = inl ([], nothing)
  part_spells (c ∷ []) h =
      part_at (nat_eq c 42) c [] refl (λ g. star_spells [] g)
      (λ g. octet_at (nat_eq c 92) (is_normal c) c [] refl refl (λ k. part_spells [] k) (λ k. absurd (false_true k))
      g) h
  part_spells (c ∷ d ∷ []) h =
      part_at (nat_eq c 42) c (d ∷ []) refl (λ g. star_spells (d ∷ []) g)
      (λ g. octet_at (nat_eq c 92) (is_normal c) c (d ∷ []) refl refl (λ k. part_spells (d ∷ []) k)
      (λ k. absurd (part_end_at (is_hex d) k)) g) h
  part_spells (c ∷ d ∷ e ∷ cs) h =
      part_at (nat_eq c 42) c (d ∷ e ∷ cs) refl (λ g. star_spells (d ∷ e ∷ cs) g)
      (λ g. octet_at (nat_eq c 92) (is_normal c) c (d ∷ e ∷ cs) refl refl (λ k. part_spells (d ∷ e ∷ cs) k)
      (λ k. either_half_at (is_hex d) (is_hex e) d e cs refl refl (λ j. part_spells cs j) k) g) h

  pub star_spells : (text : List ℕ) → accepts item_step item_ends Star text ≡ true → Tail text
  star_spells [] h = record { any = []; last = None; are_parts = refl }
  star_spells (c ∷ []) h =
      either_tail c [] (no_star c [] h)
      (octet_at (nat_eq c 92) (is_normal c) c [] refl refl (λ k. part_spells [] k) (λ k. absurd (false_true k)) h)
  star_spells (c ∷ d ∷ []) h =
      either_tail c (d ∷ []) (no_star c (d ∷ []) h)
      (octet_at (nat_eq c 92) (is_normal c) c (d ∷ []) refl refl (λ k. part_spells (d ∷ []) k)
      (λ k. absurd (part_end_at (is_hex d) k)) h)
  star_spells (c ∷ d ∷ e ∷ cs) h =
      either_tail c (d ∷ e ∷ cs) (no_star c (d ∷ e ∷ cs) h)
      (octet_at (nat_eq c 92) (is_normal c) c (d ∷ e ∷ cs) refl refl (λ k. part_spells (d ∷ e ∷ cs) k)
      (λ k. either_half_at (is_hex d) (is_hex e) d e cs refl refl (λ j. part_spells cs j) k) h)
