-- Filter texts, scanning: the machine of items accepts each text that spells an item.
use Rattle.std.proofs.Common.{◌≡◌, ℕ, List, [], ◌∷◌, ◌++◌, Bool, true, false, cond, not, ◌&&◌, ◌||◌, Option, None, Some, nat_eq, refl, sym, ap, subst, ◌∙◌, append-nil}
use Rattle.std.specs.Option.{option_map}
use Rattle.std.proofs.lemmas.Bool.{eqb-true}
use Rattle.ldap_words.specs.Numbers.{is_digit}
use Rattle.ldap_filter.specs.Item.{Comparison, equal, at_least, at_most, approximate, Item, comparison, substrings, presence, extensible}
use Rattle.filter_text.specs.Descriptions.{is_key_octet, is_oid, is_description, is_dn}
use Rattle.filter_text.specs.Values.{IsValue}
use Rattle.filter_text.specs.Items.{operator, part_or_nothing, rule_text, IsFlag, is_applicable, IsItemText}
use Rattle.filter_text.specs.private.Machine.{holds, run, accepts, within}
use Rattle.filter_text.specs.private.ItemScan.{oid_first, dotted, oid_step, oid_ends, oid_out, name_step, name_ends, word_first, word_step, behind_word, rule_first, rule_out, last_out, name_out, item_step, item_ends}
use Rattle.filter_text.specs.declared.place.OidPlace.{OidPlace}
use Rattle.filter_text.specs.declared.place.OidPlace.TheVariants.{Letters, Zero, Number, Dot, DottedZero, DottedNumber}
use Rattle.filter_text.specs.declared.place.NamePlace.{NamePlace}
use Rattle.filter_text.specs.declared.place.NamePlace.TheVariants.{Oid, Semicolon, Keys}
use Rattle.filter_text.specs.declared.place.ValuePlace.TheVariants.{Between}
use Rattle.filter_text.specs.declared.place.Word.{Word}
use Rattle.filter_text.specs.declared.place.Word.TheVariants.{OnlyD, Dn, Other}
use Rattle.filter_text.specs.declared.place.ItemPlace.{ItemPlace}
use Rattle.filter_text.specs.declared.place.ItemPlace.TheVariants.{Start, Name, Sign, Plain, Part, BareColon, Colon, Rule, DnColon, LastRule, Assign}
use Rattle.filter_text.proofs.Machines.{false_true, none_some, one_step, embed}
use Rattle.filter_text.proofs.Booleans.{left, right}
use Rattle.filter_text.proofs.Oids.{oid_run}
use Rattle.filter_text.proofs.Names.{name_run}
use Rattle.filter_text.proofs.ValueRuns.{plain_run, part_run, starred_run}
use Rattle.filter_text.proofs.Words.{words, is_dn_word, dn_word, is_dn_here, dn_oid, word_oid, put_rule, out_of_rule, rule_inside, worded}

-- ---- octets that no description has

pub record IsOther (c : ℕ) : Type 0 where
  pub key : is_key_octet c ≡ false
  pub digit : is_digit c ≡ false
  pub zero : nat_eq c 48 ≡ false
  pub dot : nat_eq c 46 ≡ false
  pub semicolon : nat_eq c 59 ≡ false

no_dot : (c : ℕ) → IsOther c → dotted c ≡ None
no_dot c s = ap (λ b. cond b (Some Dot) None) s.dot

pub no_oid : (c : ℕ) → IsOther c → (o : OidPlace) → oid_step o c ≡ None
no_oid c s Letters = ap (λ b. cond b (Some Letters) None) s.key
no_oid c s Zero = no_dot c s
no_oid c s Number = ap (λ b. cond b (Some Number) (dotted c)) s.digit ∙ no_dot c s
no_oid c s Dot = ap (λ b. cond b (Some DottedZero) (cond (is_digit c) (Some DottedNumber) None)) s.zero
    ∙ ap (λ b. cond b (Some DottedNumber) None) s.digit
no_oid c s DottedZero = no_dot c s
no_oid c s DottedNumber = ap (λ b. cond b (Some DottedNumber) (dotted c)) s.digit ∙ no_dot c s

no_out : (b : Bool) → cond b (cond false (Some Semicolon) None) None ≡ None
no_out true = refl
no_out false = refl

pub no_name : (c : ℕ) → IsOther c → (n : NamePlace) → name_step n c ≡ None
no_name c s (Oid o) = ap (within Oid (oid_out o c)) (no_oid c s o)
    ∙ ap (λ b. cond (oid_ends o) (cond b (Some Semicolon) None) None) s.semicolon ∙ no_out (oid_ends o)
no_name c s Semicolon = ap (λ b. cond b (Some Keys) None) s.key
no_name c s Keys = ap (λ b. cond b (Some Keys) (cond (nat_eq c 59) (Some Semicolon) None)) s.key
    ∙ ap (λ b. cond b (Some Semicolon) None) s.semicolon

colon_is_other : IsOther 58
colon_is_other = record { key = refl; digit = refl; zero = refl; dot = refl; semicolon = refl }

equals_is_other : IsOther 61
equals_is_other = record { key = refl; digit = refl; zero = refl; dot = refl; semicolon = refl }

-- ---- descriptions

not_colon_at : (b : Bool) (c : ℕ) (o : OidPlace) → nat_eq c 58 ≡ b → oid_first c ≡ Some o → b ≡ false
not_colon_at true c o e f = absurd (none_some (ap oid_first (sym (eqb-true c 58 e)) ∙ f))
not_colon_at false c o e f = refl

not_equals_at : (b : Bool) (c : ℕ) (o : OidPlace) → nat_eq c 61 ≡ b → oid_first c ≡ Some o → b ≡ false
not_equals_at true c o e f = absurd (none_some (ap oid_first (sym (eqb-true c 61 e)) ∙ f))
not_equals_at false c o e f = refl

pub not_equals : (c : ℕ) (o : OidPlace) → oid_first c ≡ Some o → nat_eq c 61 ≡ false
not_equals c o e = not_equals_at (nat_eq c 61) c o refl e

start_step : (c : ℕ) (o : OidPlace) → oid_first c ≡ Some o → item_step Start c ≡ Some (Name (Oid o))
start_step c o e = ap (λ b. cond b (Some BareColon) (option_map (λ u. Name (Oid u)) (oid_first c)))
    (not_colon_at (nat_eq c 58) c o refl e) ∙ ap (option_map (λ u. Name (Oid u))) e

record NameTo (d x : List ℕ) : Type 0 where
  place : NamePlace
  done : name_ends place ≡ true
  ran : run item_step Start (d ++ x) ≡ run item_step (Name place) x

name_to : (d x : List ℕ) → is_description d ≡ true → NameTo d x
name_to d x h =
    let r = name_run d h in
    subst (λ y. NameTo y x) (sym r.parts) (record {
      place = r.place;
      done = r.done;
      ran = one_step item_step Start (Name (Oid r.first)) r.head (r.tail ++ x) (start_step r.head r.first r.begins)
          ∙ embed name_step item_step Name name_out (λ s c. refl) (Oid r.first) r.place r.tail x r.ran;
    })

leave : (n : NamePlace) (c : ℕ) (p : ItemPlace) (x : List ℕ) → IsOther c → name_out n c ≡ Some p →
    run item_step (Name n) (c ∷ x) ≡ run item_step p x
leave n c p x s e = one_step item_step (Name n) p c x (ap (within Name (name_out n c)) (no_name c s n) ∙ e)

-- ---- a description, an operator and a value

to_equals : (d x : List ℕ) → is_description d ≡ true → run item_step Start (d ++ 61 ∷ x) ≡ run item_step
    (Part Between) x
to_equals d x h =
    let t = name_to d (61 ∷ x) h in
    t.ran ∙ leave t.place 61 (Part Between) x equals_is_other (ap (λ b. cond b (Some (Part Between)) None) t.done)

to_colon : (d x : List ℕ) → is_description d ≡ true → run item_step Start (d ++ 58 ∷ x) ≡ run item_step Colon x
to_colon d x h =
    let t = name_to d (58 ∷ x) h in
    t.ran ∙ leave t.place 58 Colon x colon_is_other (ap (λ b. cond b (Some Colon) None) t.done)

to_value : (k : Comparison) (d x : List ℕ) → is_description d ≡ true → ((e : k ≡ equal) → ⊥) →
    run item_step Start (d ++ (operator k ++ x)) ≡ run item_step (Plain Between) x
to_value equal d x h f = absurd (f refl)
to_value at_least d x h f =
    let t = name_to d (62 ∷ 61 ∷ x) h in
    t.ran ∙ leave t.place 62 Sign (61 ∷ x) (record {
      key = refl;
      digit = refl;
      zero = refl;
      dot = refl;
      semicolon =
          refl;
    }) (ap (λ b. cond b (Some Sign) None) t.done)
to_value at_most d x h f =
    let t = name_to d (60 ∷ 61 ∷ x) h in
    t.ran ∙ leave t.place 60 Sign (61 ∷ x) (record {
      key = refl;
      digit = refl;
      zero = refl;
      dot = refl;
      semicolon =
          refl;
    }) (ap (λ b. cond b (Some Sign) None) t.done)
to_value approximate d x h f =
    let t = name_to d (126 ∷ 61 ∷ x) h in
    t.ran ∙ leave t.place 126 Sign (61 ∷ x) (record {
      key = refl;
      digit = refl;
      zero = refl;
      dot = refl;
      semicolon =
          refl;
    }) (ap (λ b. cond b (Some Sign) None) t.done)

abbrev Accepted : List ℕ → Type 0
Accepted text = accepts item_step item_ends Start text ≡ true

whole : (text : List ℕ) (p : ItemPlace) (x : List ℕ) → run item_step Start text ≡ run item_step p x →
    accepts item_step item_ends p x ≡ true → Accepted text
whole text p x e h = ap (holds item_ends) e ∙ h

plain_accepts : {v text : List ℕ} → IsValue v text → accepts item_step item_ends (Plain Between) text ≡ true
plain_accepts s = ap (holds item_ends) (plain_run s)

part_accepts : {v text : List ℕ} → IsValue v text → accepts item_step item_ends (Part Between) text ≡ true
part_accepts {v} {text} s = ap (accepts item_step item_ends (Part Between)) (sym (append-nil text))
    ∙ ap (holds item_ends) (part_run [] s)

simple : (k : Comparison) (d a value : List ℕ) → is_description d ≡ true → IsValue a value →
    Accepted (d ++ (operator k ++ value))
simple equal d a value h s = whole (d ++ 61 ∷ value) (Part Between) value (to_equals d value h) (part_accepts s)
simple at_least d a value h s = whole (d ++ 62 ∷ 61 ∷ value) (Plain Between) value
    (to_value at_least d value h (λ e. cc)) (plain_accepts s)
simple at_most d a value h s = whole (d ++ 60 ∷ 61 ∷ value) (Plain Between) value
    (to_value at_most d value h (λ e. cc)) (plain_accepts s)
simple approximate d a value h s = whole (d ++ 126 ∷ 61 ∷ value) (Plain Between) value (to_value approximate d value h
    (λ e. cc)) (plain_accepts s)

-- ---- behind a colon

record WordTo (r x : List ℕ) : Type 0 where
  word : Word
  place : OidPlace
  done : oid_ends place ≡ true
  says : is_dn r ≡ is_dn_word word
  bare : run item_step BareColon (r ++ x) ≡ run item_step (Rule word place) x
  behind : run item_step Colon (r ++ x) ≡ run item_step (Rule word place) x

word_run : (w : Word) (o p : OidPlace) (cs x : List ℕ) → run oid_step o cs ≡ Some p →
    run item_step (Rule w o) (cs ++ x) ≡ run item_step (Rule (words w cs) p) x
word_run w o p cs x e = embed word_oid item_step put_rule out_of_rule rule_inside (w, o) (words w cs, p) cs x
    (worded w o p cs e)

colon_step : (c : ℕ) (o : OidPlace) → oid_first c ≡ Some o → item_step Colon c ≡ Some (Rule (word_first c) o)
colon_step c o e = ap (λ b. cond b (Some (Plain Between)) (rule_first c)) (not_equals_at (nat_eq c 61) c o refl e)
    ∙ ap (option_map (λ u. Rule (word_first c) u)) e

word_to : (r x : List ℕ) → is_oid r ≡ true → WordTo r x
word_to r x h =
    let t = oid_run r h in
    subst (λ y. WordTo y x) (sym t.parts) (record {
      word = words (word_first t.head) t.tail;
      place = t.place;
      done = t.done;
      says = dn_word t.head t.tail;
      bare = one_step item_step BareColon (Rule (word_first t.head) t.first) t.head (t.tail ++ x)
          (ap (option_map (λ u. Rule (word_first t.head) u)) t.begins) ∙ word_run (word_first t.head) t.first t.place
          t.tail x t.ran;
      behind = one_step item_step Colon (Rule (word_first t.head) t.first) t.head (t.tail ++ x)
          (colon_step t.head t.first t.begins) ∙ word_run (word_first t.head) t.first t.place t.tail x t.ran;
    })

word_end : (w : Word) (o : OidPlace) (x : List ℕ) → oid_ends o ≡ true → run item_step (Rule w o) (58 ∷ x) ≡
    run item_step (behind_word w) x
word_end w o x h =
    one_step item_step (Rule w o) (behind_word w) 58 x
    (ap (within (Rule (word_step w 58)) (rule_out w o 58)) (no_oid 58 colon_is_other o)
    ∙ ap (λ b. cond b (Some (behind_word w)) None) h)

word_assign : (w : Word) (x : List ℕ) → run item_step (behind_word w) (61 ∷ x) ≡ run item_step (Plain Between) x
word_assign OnlyD x = refl
word_assign Dn x = refl
word_assign Other x = refl

-- `=` and a value behind a word and a colon
word_value : {v value : List ℕ} (w : Word) (o : OidPlace) → oid_ends o ≡ true → IsValue v value →
    accepts item_step item_ends (Rule w o) (58 ∷ 61 ∷ value) ≡ true
word_value {v} {value} w o h s = ap (holds item_ends) (word_end w o (61 ∷ value) h ∙ word_assign w value)
    ∙ plain_accepts s

dn_step : (c : ℕ) (o : OidPlace) → oid_first c ≡ Some o → item_step DnColon c ≡ Some (LastRule o)
dn_step c o e = ap (λ b. cond b (Some (Plain Between)) (option_map LastRule (oid_first c)))
    (not_equals_at (nat_eq c 61) c o refl e) ∙ ap (option_map LastRule) e

last_end : (o : OidPlace) (x : List ℕ) → oid_ends o ≡ true → run item_step (LastRule o) (58 ∷ x) ≡ run item_step
    Assign x
last_end o x h = one_step item_step (LastRule o) Assign 58 x (ap (within LastRule (last_out o 58))
    (no_oid 58 colon_is_other o) ∙ ap (λ b. cond b (Some Assign) None) h)

-- a rule, `:=` and a value behind `:dn:`
last_value : {v value : List ℕ} (r : List ℕ) → is_oid r ≡ true → IsValue v value → accepts item_step item_ends DnColon
    (r ++ 58 ∷ 61 ∷ value) ≡ true
last_value {v} {value} r h s =
    let t = oid_run r h in
    subst (λ y. accepts item_step item_ends DnColon (y ++ 58 ∷ 61 ∷ value) ≡ true) (sym t.parts)
    (ap (holds item_ends)
    (one_step item_step DnColon (LastRule t.first) t.head (t.tail ++ 58 ∷ 61 ∷ value) (dn_step t.head t.first t.begins)
    ∙ embed oid_step item_step LastRule last_out (λ s c. refl) t.first t.place t.tail (58 ∷ 61 ∷ value) t.ran
    ∙ last_end t.place (61 ∷ value) t.done) ∙ plain_accepts s)

-- behind `dn` and a colon
dn_end : (w : Word) (o : OidPlace) (x : List ℕ) → is_dn_word w ≡ true → oid_ends o ≡ true →
    run item_step (Rule w o) (58 ∷ x) ≡ run item_step DnColon x
dn_end w o x e h = word_end w o x h ∙ ap (λ u. run item_step (behind_word u) x) (is_dn_here w e)

-- what follows the colon behind a description, or at the beginning
record Behind (place : ItemPlace) : Type 0 where
  words_to : (r x : List ℕ) → is_oid r ≡ true → (w : Word) × (o : OidPlace) × (oid_ends o ≡ true)
      × (is_dn r ≡ is_dn_word w) × (run item_step place (r ++ x) ≡ run item_step (Rule w o) x)

behind_bare : Behind BareColon
behind_bare = record { words_to = λ r x h. let t = word_to r x h in (t.word, t.place, t.done, t.says, t.bare) }

behind_name : Behind Colon
behind_name = record { words_to = λ r x h. let t = word_to r x h in (t.word, t.place, t.done, t.says, t.behind) }

rule_value : {v value : List ℕ} (p : ItemPlace) → Behind p → (r : List ℕ) → is_oid r ≡ true → IsValue v value →
    accepts item_step item_ends p (r ++ 58 ∷ 61 ∷ value) ≡ true
rule_value {v} {value} p b r h s = let t = b.words_to r (58 ∷ 61 ∷ value) h in ap (holds item_ends) t.4
    ∙ word_value t.0 t.1 t.2 s

dn_value : {v value : List ℕ} (p : ItemPlace) → Behind p → (w : List ℕ) → is_dn w ≡ true → IsValue v value →
    accepts item_step item_ends p (w ++ 58 ∷ 61 ∷ value) ≡ true
dn_value p b w h s = rule_value p b w (dn_oid w h) s

dn_rule_value : {v value : List ℕ} (p : ItemPlace) → Behind p → (w r : List ℕ) → is_dn w ≡ true → is_oid r ≡ true →
    IsValue v value
    → accepts item_step item_ends p (w ++ 58 ∷ (r ++ 58 ∷ 61 ∷ value)) ≡ true
dn_rule_value {v} {value} p b w r h g s =
    let t = b.words_to w (58 ∷ (r ++ 58 ∷ 61 ∷ value)) (dn_oid w h) in
    ap (holds item_ends) (t.4 ∙ dn_end t.0 t.1 (r ++ 58 ∷ 61 ∷ value) (sym t.3 ∙ h) t.2) ∙ last_value r g s

-- ---- extensible items

bare_to : (text x : List ℕ) → text ≡ 58 ∷ x → accepts item_step item_ends BareColon x ≡ true → Accepted text
bare_to text x e h = ap (accepts item_step item_ends Start) e ∙ h

name_colon : (d text x : List ℕ) → is_description d ≡ true → text ≡ d ++ 58 ∷ x → accepts item_step item_ends Colon
    x ≡ true → Accepted text
name_colon d text x h e g = ap (accepts item_step item_ends Start) e ∙ (ap (holds item_ends) (to_colon d x h) ∙ g)

extensible_runs : (d : Option (List ℕ)) (b : Bool) (r : Option (List ℕ)) (v flag value text : List ℕ)
    → text ≡ part_or_nothing d ++ (flag ++ (rule_text r ++ 58 ∷ 61 ∷ value)) → IsFlag b flag → is_applicable d b r ≡
    true → IsValue v value → Accepted text
extensible_runs None b None v flag value text e f h s = absurd (false_true h)
extensible_runs None false (Some r) v flag value text e f h s =
    bare_to text (r ++ 58 ∷ 61 ∷ value) (e ∙ ap (λ x. x ++ 58 ∷ (r ++ 58 ∷ 61 ∷ value)) f)
    (rule_value BareColon behind_bare r h s)
extensible_runs None true (Some r) v flag value text e f h s =
    bare_to text (f.0 ++ 58 ∷ (r ++ 58 ∷ 61 ∷ value)) (e ∙ ap (λ x. x ++ 58 ∷ (r ++ 58 ∷ 61 ∷ value)) f.1)
    (dn_rule_value BareColon behind_bare f.0 r f.2 h s)
extensible_runs (Some d) false None v flag value text e f h s =
    name_colon d text (61 ∷ value) h (e ∙ ap (λ x. d ++ (x ++ 58 ∷ 61 ∷ value)) f) (plain_accepts s)
extensible_runs (Some d) true None v flag value text e f h s =
    name_colon d text (f.0 ++ 58 ∷ 61 ∷ value) h (e ∙ ap (λ x. d ++ (x ++ 58 ∷ 61 ∷ value)) f.1)
    (dn_value Colon behind_name f.0 f.2 s)
extensible_runs (Some d) false (Some r) v flag value text e f h s =
    let p = left (is_description d && is_oid r) (false || not (is_dn r)) h in
    name_colon d text (r ++ 58 ∷ 61 ∷ value) (left (is_description d) (is_oid r) p)
    (e ∙ ap (λ x. d ++ (x ++ 58 ∷ (r ++ 58 ∷ 61 ∷ value))) f)
    (rule_value Colon behind_name r (right (is_description d) (is_oid r) p) s)
extensible_runs (Some d) true (Some r) v flag value text e f h s =
    let p = left (is_description d && is_oid r) (true || not (is_dn r)) h in
    name_colon d text (f.0 ++ 58 ∷ (r ++ 58 ∷ 61 ∷ value)) (left (is_description d) (is_oid r) p)
    (e ∙ ap (λ x. d ++ (x ++ 58 ∷ (r ++ 58 ∷ 61 ∷ value))) f.1)
    (dn_rule_value Colon behind_name f.0 r f.2 (right (is_description d) (is_oid r) p) s)

-- ---- items

to_part : (d text x : List ℕ) → is_description d ≡ true → text ≡ d ++ 61 ∷ x → accepts item_step item_ends
    (Part Between) x ≡ true → Accepted text
to_part d text x h e g = ap (accepts item_step item_ends Start) e ∙ (ap (holds item_ends) (to_equals d x h) ∙ g)

pub item_runs : (i : Item) (text : List ℕ) → IsItemText i text → accepts item_step item_ends Start text ≡ true
item_runs (comparison k d a) text p = ap (accepts item_step item_ends Start) p.parts
    ∙ simple k d a p.value p.is_description p.is_value
item_runs (substrings s) text p = to_part s.description text p.value p.is_description p.parts
    (starred_run s.initial s.last s.any p.value p.are_parts)
item_runs (presence d) text p = to_part d text (42 ∷ []) p.is_description p.parts refl
item_runs (extensible e) text p = extensible_runs e.description e.dn_attributes e.matching_rule e.match_value p.flag
    p.value text p.parts p.is_flag p.applies p.is_value
