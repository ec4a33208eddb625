-- Filter texts, scanning: the machine of filters accepts each filter's text, and each text that it accepts is one.
use Rattle.std.proofs.Common.{◌≡◌, ℕ, List, [], ◌∷◌, ◌++◌, Bool, true, false, cond, ◌||◌, Option, None, Some, nat_eq, refl, sym, ap, subst, ◌∙◌}
use Rattle.std.specs.Option.{option_map, option_and_then}
use Rattle.std.proofs.lemmas.Bool.{eqb-true}
use Rattle.ldap_filter.specs.Tree.{Tree, conj, disj, negation, item, Trees, no_trees, tree}
use Rattle.filter_text.specs.Grammar.{HasFilter, HasFilters, IsFilterText}
use Rattle.filter_text.specs.private.Machine.{holds, run, accepts, within}
use Rattle.filter_text.specs.private.ItemScan.{oid_ends, name_ends, name_out, word_step, rule_out, last_out, item_step, item_ends}
use Rattle.filter_text.specs.private.FilterScan.{Spot, at, filter_step, filter_ends, is_empty}
use Rattle.filter_text.specs.declared.place.ValuePlace.TheVariants.{Between, Escape, Half}
use Rattle.filter_text.specs.declared.place.ItemPlace.{ItemPlace}
use Rattle.filter_text.specs.declared.place.ItemPlace.TheVariants.{Start, Name, Sign, Plain, Part, Star, BareColon, Colon, Rule, DnColon, LastRule, Assign}
use Rattle.filter_text.specs.declared.place.Around.{Around}
use Rattle.filter_text.specs.declared.place.Around.TheVariants.{Row, Negation}
use Rattle.filter_text.specs.declared.place.ScanState.{ScanState}
use Rattle.filter_text.specs.declared.place.ScanState.TheVariants.{Opening, Inside, InItem, Behind}
use Rattle.filter_text.proofs.Machines.{false_true, none_some, one_step, embed, takes}
use Rattle.filter_text.proofs.ItemRuns.{IsOther, no_oid, no_name, item_runs}
use Rattle.filter_text.proofs.ItemsSpelled.{item_spelled}

-- ---- no item's text has a `)`

close_is_other : IsOther 41
close_is_other = record { key = refl; digit = refl; zero = refl; dot = refl; semicolon = refl }

abbrev no_place : Option ItemPlace
no_place = None

nowhere : (b : Bool) → cond b no_place None ≡ None
nowhere true = refl
nowhere false = refl

pub no_close : (s : ItemPlace) → item_step s 41 ≡ None
no_close Start = refl
no_close (Name n) = ap (within Name (name_out n 41)) (no_name 41 close_is_other n) ∙ nowhere (name_ends n)
no_close Sign = refl
no_close (Plain Between) = refl
no_close (Plain Escape) = refl
no_close (Plain Half) = refl
no_close (Part Between) = refl
no_close (Part Escape) = refl
no_close (Part Half) = refl
no_close Star = refl
no_close BareColon = refl
no_close Colon = refl
no_close (Rule w o) = ap (within (Rule (word_step w 41)) (rule_out w o 41)) (no_oid 41 close_is_other o)
    ∙ nowhere (oid_ends o)
no_close DnColon = refl
no_close (LastRule o) = ap (within LastRule (last_out o 41)) (no_oid 41 close_is_other o) ∙ nowhere (oid_ends o)
no_close Assign = refl

-- ---- items in filters

abbrev put_item : List Around → ItemPlace → Spot
put_item around s = at (InItem s) around

abbrev out_of_item : List Around → ItemPlace → ℕ → Option Spot
out_of_item around s c = cond (nat_eq c 41) (cond (item_ends s) (Some (at Behind around)) None) None

inside_at : (b : Bool) (r : Option ItemPlace) (around : List Around) (s : ItemPlace) (c : ℕ) → nat_eq c 41 ≡ b →
    item_step s c ≡ r
    → cond b (cond (item_ends s) (Some (at Behind around)) None) (option_map (put_item around) r) ≡
    within (put_item around) (cond b (cond (item_ends s) (Some (at Behind around)) None) None) r
inside_at true None around s c e f = refl
inside_at true (Some t) around s c e f =
    absurd (none_some (sym (no_close s) ∙ ap (item_step s) (sym (eqb-true c 41 e)) ∙ f))
inside_at false None around s c e f = refl
inside_at false (Some t) around s c e f = refl

item_inside : (around : List Around) (s : ItemPlace) (c : ℕ) → filter_step (put_item around s) c ≡
    within (put_item around) (out_of_item around s c) (item_step s c)
item_inside around s c = inside_at (nat_eq c 41) (item_step s c) around s c refl refl

-- an item's text and `)`
pub item_close : (around : List Around) (s : ItemPlace) (body rest : List ℕ) → accepts item_step item_ends s body ≡
    true → run filter_step (at (InItem s) around) (body ++ 41 ∷ rest) ≡ run filter_step (at Behind around) rest
item_close around s body rest h =
    let t = takes item_step item_ends s body h in
    embed item_step filter_step (put_item around) (out_of_item around) (item_inside around) s t.place body (41 ∷ rest)
    t.ran
    ∙ one_step filter_step (at (InItem t.place) around) (at Behind around) 41 rest
    (ap (λ b. cond b (Some (at Behind around)) None) t.done)

first_at : (a b d : Bool) (around : List Around) (c : ℕ) (s : ItemPlace) → nat_eq c 38 ≡ a → nat_eq c 124 ≡ b →
    nat_eq c 33 ≡ d → item_step Start c ≡ Some s
    → cond (a || b) (Some (at Behind (Row ∷ around))) (cond d (Some (at Opening (Negation ∷ around)))
    (option_map (put_item around) (item_step Start c))) ≡ Some (at (InItem s) around)
first_at true b d around c s e f g h = absurd (none_some (ap (item_step Start) (sym (eqb-true c 38 e)) ∙ h))
first_at false true d around c s e f g h = absurd (none_some (ap (item_step Start) (sym (eqb-true c 124 f)) ∙ h))
first_at false false true around c s e f g h = absurd (none_some (ap (item_step Start) (sym (eqb-true c 33 g)) ∙ h))
first_at false false false around c s e f g h = ap (option_map (put_item around)) h

inside_item_at : (r : Option ItemPlace) (around : List Around) (c : ℕ) (cs rest : List ℕ) → item_step Start c ≡ r →
    holds item_ends (option_and_then (λ t. run item_step t cs) r) ≡ true
    → run filter_step (at Inside around) (c ∷ cs ++ 41 ∷ rest) ≡ run filter_step (at Behind around) rest
inside_item_at None around c cs rest e h = absurd (false_true h)
inside_item_at (Some s) around c cs rest e h =
    one_step filter_step (at Inside around) (at (InItem s) around) c (cs ++ 41 ∷ rest)
    (first_at (nat_eq c 38) (nat_eq c 124) (nat_eq c 33) around c s refl refl refl e)
    ∙ item_close around s cs rest h

inside_item : (around : List Around) (body rest : List ℕ) → accepts item_step item_ends Start body ≡ true →
    run filter_step (at Inside around) (body ++ 41 ∷ rest) ≡ run filter_step (at Behind around) rest
inside_item around [] rest h = absurd (false_true h)
inside_item around (c ∷ cs) rest h = inside_item_at (item_step Start c) around c cs rest refl h

-- ---- each filter's text is accepted

record OpenedRun (around : List Around) (text rest : List ℕ) : Type 0 where
  inner : List ℕ
  parts : text ≡ 40 ∷ inner
  ran : run filter_step (at Inside around) inner ≡ run filter_step (at Behind around) rest

from_opening : (around : List Around) (text rest : List ℕ) → OpenedRun around text rest →
    run filter_step (at Opening around) text ≡ run filter_step (at Behind around) rest
from_opening around text rest o = ap (run filter_step (at Opening around)) o.parts ∙ o.ran

from_row : (around : List Around) (text rest : List ℕ) → OpenedRun (Row ∷ around) text rest →
    run filter_step (at Behind (Row ∷ around)) text ≡ run filter_step (at Behind (Row ∷ around)) rest
from_row around text rest o = ap (run filter_step (at Behind (Row ∷ around))) o.parts ∙ o.ran

mutual
  filter_runs : (t : Tree) (around : List Around) (text rest : List ℕ) → HasFilter t text rest →
      OpenedRun around text rest
  filter_runs (conj ts) around text rest p = record {
    inner = 38 ∷ p.inner;
    parts = p.parts;
    ran = row_runs ts around
        p.inner (41 ∷ rest) p.is_inner;
  }
  filter_runs (disj ts) around text rest p = record {
    inner = 124 ∷ p.inner;
    parts = p.parts;
    ran = row_runs ts around
        p.inner (41 ∷ rest) p.is_inner;
  }
  filter_runs (negation t) around text rest p = record {
    inner = 33 ∷ p.inner;
    parts = p.parts;
    ran = from_opening (Negation ∷ around) p.inner (41 ∷ rest) (filter_runs t (Negation ∷ around) p.inner (41 ∷ rest)
        p.is_inner);
  }
  filter_runs (item i) around text rest p = record {
    inner = p.inner;
    parts = p.parts;
    ran = ap (run filter_step (at Inside around)) p.is_inner.parts ∙ inside_item around p.is_inner.body rest
        (item_runs i p.is_inner.body p.is_inner.is_body);
  }

  row_runs : (ts : Trees) (around : List Around) (text rest : List ℕ) → HasFilters ts text rest →
      run filter_step (at Behind (Row ∷ around)) text ≡ run filter_step (at Behind (Row ∷ around)) rest
  row_runs no_trees around text rest p = ap (run filter_step (at Behind (Row ∷ around))) p
  row_runs (tree t ts) around text rest p = from_row around text p.between (filter_runs t (Row ∷ around) text
      p.between p.first) ∙ row_runs ts around p.between rest p.next

pub filter_accepted : (t : Tree) (text : List ℕ) → IsFilterText t text → accepts filter_step filter_ends
    (at Opening []) text ≡ true
filter_accepted t text p = ap (holds filter_ends) (from_opening [] text [] (filter_runs t [] text [] p))

-- ---- each text that is accepted is a filter's

-- filters up to a `)`, and what follows it
record RowThen (Rest : List ℕ → Type 0) (text : List ℕ) : Type 0 where
  trees : Trees
  after : List ℕ
  spell : HasFilters trees text (41 ∷ after)
  follows : Rest after

-- a `)`, and what follows it
record CloseThen (Rest : List ℕ → Type 0) (text : List ℕ) : Type 0 where
  after : List ℕ
  parts : text ≡ 41 ∷ after
  follows : Rest after

-- a filter, and what follows it
record FilterThen (Rest : List ℕ → Type 0) (text : List ℕ) : Type 0 where
  is : Tree
  after : List ℕ
  spells : HasFilter is text after
  follows : Rest after

-- the rest of an item, a `)`, and what follows it
record BodyThen (Rest : List ℕ → Type 0) (s : ItemPlace) (text : List ℕ) : Type 0 where
  body : List ℕ
  after : List ℕ
  parts : text ≡ body ++ 41 ∷ after
  accepted : accepts item_step item_ends s body ≡ true
  follows : Rest after

abbrev Round : List Around → List ℕ → Type 0
Round [] text = text ≡ []
Round (Row ∷ around) text = RowThen (Round around) text
Round (Negation ∷ around) text = CloseThen (Round around) text

-- what a text completes from a place
abbrev Completes : ScanState → List Around → List ℕ → Type 0
Completes Opening around text = FilterThen (Round around) text
Completes Inside around text = FilterThen (Round around) (40 ∷ text)
Completes (InItem s) around text = BodyThen (Round around) s text
Completes Behind around text = Round around text

abbrev Accepts : ScanState → List Around → List ℕ → Type 0
Accepts p around text = accepts filter_step filter_ends (at p around) text ≡ true

abbrev led : Option Spot → List ℕ → Bool
led o cs = holds filter_ends (option_and_then (λ t. run filter_step t cs) o)

opening_at : (b : Bool) (around : List Around) (c : ℕ) (cs : List ℕ) → nat_eq c 40 ≡ b →
    (Accepts Inside around cs → FilterThen (Round around) (40 ∷ cs))
    → led (cond b (Some (at Inside around)) None) cs ≡ true → FilterThen (Round around) (c ∷ cs)
opening_at true around c cs e f h = subst (λ d. FilterThen (Round around) (d ∷ cs)) (sym (eqb-true c 40 e)) (f h)
opening_at false around c cs e f h = absurd (false_true h)

conj_then : (around : List Around) (cs : List ℕ) → RowThen (Round around) cs → FilterThen (Round around) (40 ∷ 38 ∷ cs)
conj_then around cs r = record {
  is = conj r.trees;
  after = r.after;
  spells =
      record { inner = cs; parts = refl; is_inner = r.spell };
  follows = r.follows;
}

disj_then : (around : List Around) (cs : List ℕ) → RowThen (Round around) cs → FilterThen (Round around) (40 ∷ 124 ∷ cs)
disj_then around cs r = record {
  is = disj r.trees;
  after = r.after;
  spells =
      record { inner = cs; parts = refl; is_inner = r.spell };
  follows = r.follows;
}

negation_then : (around : List Around) (cs : List ℕ) → FilterThen (CloseThen (Round around)) cs →
    FilterThen (Round around) (40 ∷ 33 ∷ cs)
negation_then around cs r = record {
  is = negation r.is;
  after = r.follows.after;
  spells = record { inner = cs; parts = refl; is_inner = subst (HasFilter r.is cs) r.follows.parts r.spells };
  follows = r.follows.follows;
}

item_then : (around : List Around) (c : ℕ) (cs : List ℕ) (s : ItemPlace) → item_step Start c ≡ Some s →
    BodyThen (Round around) s cs → FilterThen (Round around) (40 ∷ c ∷ cs)
item_then around c cs s e b =
    let i = item_spelled (c ∷ b.body) (ap (λ o. holds item_ends (option_and_then (λ t. run item_step t b.body) o)) e
    ∙ b.accepted) in
    record {
      is = item i.0;
      after = b.after;
      spells = record {
        inner = c ∷ cs;
        parts = refl;
        is_inner = record {
          body = c ∷ b.body;
          parts = ap (λ x. c ∷ x)
              b.parts;
          is_body = i.1;
        };
      };
      follows = b.follows;
    }

inside_accepts : (a b d : Bool) (r : Option ItemPlace) (around : List Around) (c : ℕ) (cs : List ℕ) → nat_eq c 38 ≡
    a → nat_eq c 124 ≡ b → nat_eq c 33 ≡ d → item_step Start c ≡ r
    → ((p : ScanState) (over : List Around) → Accepts p over cs → Completes p over cs)
    → led (cond (a || b) (Some (at Behind (Row ∷ around))) (cond d (Some (at Opening (Negation ∷ around)))
    (option_map (put_item around) r))) cs ≡ true → FilterThen (Round around) (40 ∷ c ∷ cs)
inside_accepts true b d r around c cs e f g k more h = subst (λ x. FilterThen (Round around) (40 ∷ x ∷ cs))
    (sym (eqb-true c 38 e)) (conj_then around cs (more Behind (Row ∷ around) h))
inside_accepts false true d r around c cs e f g k more h = subst (λ x. FilterThen (Round around) (40 ∷ x ∷ cs))
    (sym (eqb-true c 124 f)) (disj_then around cs (more Behind (Row ∷ around) h))
inside_accepts false false true r around c cs e f g k more h = subst (λ x. FilterThen (Round around) (40 ∷ x ∷ cs))
    (sym (eqb-true c 33 g)) (negation_then around cs (more Opening (Negation ∷ around) h))
inside_accepts false false false None around c cs e f g k more h = absurd (false_true h)
inside_accepts false false false (Some s) around c cs e f g k more h = item_then around c cs s k
    (more (InItem s) around h)

longer_body : (around : List Around) (c : ℕ) (cs : List ℕ) (s t : ItemPlace) → item_step s c ≡ Some t →
    BodyThen (Round around) t cs → BodyThen (Round around) s (c ∷ cs)
longer_body around c cs s t e b = record {
  body = c ∷ b.body;
  after = b.after;
  parts = ap (λ x. c ∷ x) b.parts;
  accepted = ap (λ o. holds item_ends (option_and_then (λ t. run item_step t b.body) o)) e ∙ b.accepted;
  follows = b.follows;
}

body_at : (a d : Bool) (r : Option ItemPlace) (around : List Around) (s : ItemPlace) (c : ℕ) (cs : List ℕ) →
    nat_eq c 41 ≡ a → item_ends s ≡ d → item_step s c ≡ r
    → ((p : ScanState) (over : List Around) → Accepts p over cs → Completes p over cs)
    → led (cond a (cond d (Some (at Behind around)) None) (option_map (put_item around) r)) cs ≡ true →
    BodyThen (Round around) s (c ∷ cs)
body_at true true r around s c cs e f g more h = record {
  body = [];
  after = cs;
  parts = ap (λ x. x ∷ cs)
      (eqb-true c 41 e);
  accepted = f;
  follows = more Behind around h;
}
body_at true false r around s c cs e f g more h = absurd (false_true h)
body_at false d None around s c cs e f g more h = absurd (false_true h)
body_at false d (Some t) around s c cs e f g more h = longer_body around c cs s t g (more (InItem t) around h)

one_more : (around : List Around) (cs : List ℕ) → FilterThen (RowThen (Round around)) cs → RowThen (Round around) cs
one_more around cs f = record {
  trees = tree f.is f.follows.trees;
  after = f.follows.after;
  spell =
      record { between = f.after; first = f.spells; next = f.follows.spell };
  follows = f.follows.follows;
}

row_at : (a b : Bool) (around : List Around) (c : ℕ) (cs : List ℕ) → nat_eq c 40 ≡ a → nat_eq c 41 ≡ b →
    ((p : ScanState) (over : List Around) → Accepts p over cs → Completes p over cs)
    → led (cond a (Some (at Inside (Row ∷ around))) (cond b (Some (at Behind around)) None)) cs ≡ true →
    RowThen (Round around) (c ∷ cs)
row_at true b around c cs e f more h = subst (λ x. RowThen (Round around) (x ∷ cs)) (sym (eqb-true c 40 e))
    (one_more around (40 ∷ cs) (more Inside (Row ∷ around) h))
row_at false true around c cs e f more h = record {
  trees = no_trees;
  after = cs;
  spell = ap (λ x. x ∷ cs)
      (eqb-true c 41 f);
  follows = more Behind around h;
}
row_at false false around c cs e f more h = absurd (false_true h)

close_at : (b : Bool) (around : List Around) (c : ℕ) (cs : List ℕ) → nat_eq c 41 ≡ b →
    (Accepts Behind around cs → Round around cs)
    → led (cond b (Some (at Behind around)) None) cs ≡ true → CloseThen (Round around) (c ∷ cs)
close_at true around c cs e f h = record { after = cs; parts = ap (λ x. x ∷ cs) (eqb-true c 41 e); follows = f h }
close_at false around c cs e f h = absurd (false_true h)

round_end : (around : List Around) → is_empty around ≡ true → Round around []
round_end [] h = refl
round_end (a ∷ around) h = absurd (false_true h)

completes : (text : List ℕ) (p : ScanState) (around : List Around) → Accepts p around text → Completes p around text
completes [] Opening around h = absurd (false_true h)
completes [] Inside around h = absurd (false_true h)
completes [] (InItem s) around h = absurd (false_true h)
completes [] Behind around h = round_end around h
completes (c ∷ cs) Opening around h = opening_at (nat_eq c 40) around c cs refl (λ g. completes cs Inside around g) h
completes (c ∷ cs) Inside around h =
    inside_accepts (nat_eq c 38) (nat_eq c 124) (nat_eq c 33) (item_step Start c) around c cs refl refl refl refl
    (λ p over g. completes cs p over g) h
completes (c ∷ cs) (InItem s) around h = body_at (nat_eq c 41) (item_ends s) (item_step s c) around s c cs refl refl
    refl (λ p over g. completes cs p over g) h
completes (c ∷ cs) Behind [] h = absurd (false_true h)
completes (c ∷ cs) Behind (Row ∷ around) h = row_at (nat_eq c 40) (nat_eq c 41) around c cs refl refl
    (λ p over g. completes cs p over g) h
completes (c ∷ cs) Behind (Negation ∷ around) h = close_at (nat_eq c 41) around c cs refl
    (λ g. completes cs Behind around g) h

pub accepted_filter : (text : List ℕ) → accepts filter_step filter_ends (at Opening []) text ≡ true → (t : Tree)
    × IsFilterText t text
accepted_filter text h = let f = completes text Opening [] h in (f.is, subst (HasFilter f.is text) f.follows f.spells)
