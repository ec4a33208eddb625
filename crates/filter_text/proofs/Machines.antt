-- Filter texts, scanning: what holds of every machine.
use Rattle.std.proofs.Common.{◌≡◌, ℕ, List, [], ◌∷◌, ◌++◌, Bool, true, false, Option, None, Some, refl, sym, ap, ◌∙◌}
use Rattle.filter_text.specs.private.Machine.{holds, run, accepts, within}
use Rattle.std.specs.Option.{option_and_then}

pub false_true : false ≡ true → ⊥
false_true e = cc

pub none_some : {S : Type 0} {s : S} → None ≡ Some s → ⊥
none_some e = cc

pub some_same : {S : Type 0} {s t : S} → Some s ≡ Some t → s ≡ t
some_same e = cc

-- ---- texts one after the other

-- an octet and a text behind it
pub one_step : {S : Type 0} (step : S → ℕ → Option S) (s t : S) (c : ℕ) (cs : List ℕ) → step s c ≡ Some t →
    run step s (c ∷ cs) ≡ run step t cs
one_step step s t c cs e = ap (λ o. option_and_then (λ u. run step u cs) o) e

-- ---- a text that is accepted

pub record Takes {S : Type 0} (step : S → ℕ → Option S) (ends : S → Bool) (s : S) (text : List ℕ) : Type 0 where
  pub place : S
  pub ran : run step s text ≡ Some place
  pub done : ends place ≡ true

takes_at : {S : Type 0} (step : S → ℕ → Option S) (ends : S → Bool) (s : S) (text : List ℕ) (o : Option S) →
    run step s text ≡ o → holds ends o ≡ true → Takes step ends s text
takes_at step ends s text None e h = absurd (false_true h)
takes_at step ends s text (Some t) e h = record { place = t; ran = e; done = h }

pub takes : {S : Type 0} (step : S → ℕ → Option S) (ends : S → Bool) (s : S) (text : List ℕ) →
    accepts step ends s text ≡ true → Takes step ends s text
takes step ends s text h = takes_at step ends s text (run step s text) refl h

-- ---- a machine that is a part of another

embed_at : {S T : Type 0} (sub : S → ℕ → Option S) (step : T → ℕ → Option T) (put : S → T) (out : S → ℕ → Option T)
    → (o : Option S) (s t : S) (c : ℕ) (cs x : List ℕ) → step (put s) c ≡ within put (out s c) o
    → ((u : S) → run sub u cs ≡ Some t → run step (put u) (cs ++ x) ≡ run step (put t) x)
    → option_and_then (λ u. run sub u cs) o ≡ Some t → run step (put s) (c ∷ cs ++ x) ≡ run step (put t) x
embed_at sub step put out None s t c cs x e h r = absurd (none_some r)
embed_at sub step put out (Some u) s t c cs x e h r = one_step step (put s) (put u) c (cs ++ x) e ∙ h u r

pub embed : {S T : Type 0} (sub : S → ℕ → Option S) (step : T → ℕ → Option T) (put : S → T) (out : S → ℕ → Option T)
    → ((s : S) (c : ℕ) → step (put s) c ≡ within put (out s c) (sub s c))
    → (s t : S) (text x : List ℕ) → run sub s text ≡ Some t → run step (put s) (text ++ x) ≡ run step (put t) x
embed sub step put out e s t [] x r = ap (λ u. run step (put u) x) (some_same r)
embed sub step put out e s t (c ∷ cs) x r = embed_at sub step put out (sub s c) s t c cs x (e s c)
    (λ u q. embed sub step put out e u t cs x q) r

-- a text that is accepted from inside a part in which no text ends: the part's text, the octet that leads out of it,
-- and what follows
pub record Cut {S T : Type 0} (sub : S → ℕ → Option S) (step : T → ℕ → Option T) (ends : T → Bool) (out : S → ℕ →
    Option T) (s : S) (text : List ℕ) : Type 0 where
  pub front : List ℕ
  pub next : ℕ
  pub rest : List ℕ
  pub place : S
  pub after : T
  pub parts : text ≡ front ++ next ∷ rest
  pub ran : run sub s front ≡ Some place
  pub left : out place next ≡ Some after
  pub accepted : accepts step ends after rest ≡ true

cut_here : {S T : Type 0} (sub : S → ℕ → Option S) (step : T → ℕ → Option T) (ends : T → Bool) (out : S → ℕ → Option T)
    → (o : Option T) (s : S) (c : ℕ) (cs : List ℕ) → out s c ≡ o →
    holds ends (option_and_then (λ u. run step u cs) o) ≡ true → Cut sub step ends out s (c ∷ cs)
cut_here sub step ends out None s c cs e h = absurd (false_true h)
cut_here sub step ends out (Some t) s c cs e h = record {
  front = [];
  next = c;
  rest = cs;
  place = s;
  after =
      t;
  parts = refl;
  ran = refl;
  left = e;
  accepted = h;
}

longer : {S T : Type 0} (sub : S → ℕ → Option S) (step : T → ℕ → Option T) (ends : T → Bool) (out : S → ℕ → Option T)
    → (s u : S) (c : ℕ) (cs : List ℕ) → sub s c ≡ Some u → Cut sub step ends out u cs → Cut sub step ends out s (c ∷ cs)
longer sub step ends out s u c cs e k = record {
  front = c ∷ k.front;
  next = k.next;
  rest = k.rest;
  place = k.place;
  after = k.after;
  parts = ap (λ x. c ∷ x) k.parts;
  ran = one_step sub s u c k.front e ∙ k.ran;
  left = k.left;
  accepted = k.accepted;
}

cut_at : {S T : Type 0} (sub : S → ℕ → Option S) (step : T → ℕ → Option T) (ends : T → Bool) (put : S → T) (out : S →
    ℕ → Option T)
    → (o : Option S) (s : S) (c : ℕ) (cs : List ℕ) → sub s c ≡ o → step (put s) c ≡ within put (out s c) o
    → ((u : S) → accepts step ends (put u) cs ≡ true → Cut sub step ends out u cs)
    → accepts step ends (put s) (c ∷ cs) ≡ true → Cut sub step ends out s (c ∷ cs)
cut_at sub step ends put out None s c cs e f h a = cut_here sub step ends out (out s c) s c cs refl
    (sym (ap (λ o. holds ends (option_and_then (λ u. run step u cs) o)) f) ∙ a)
cut_at sub step ends put out (Some u) s c cs e f h a = longer sub step ends out s u c cs e
    (h u (sym (ap (holds ends) (one_step step (put s) (put u) c cs f)) ∙ a))

pub cut : {S T : Type 0} (sub : S → ℕ → Option S) (step : T → ℕ → Option T) (ends : T → Bool) (put : S → T) (out : S →
    ℕ → Option T)
    → ((s : S) (c : ℕ) → step (put s) c ≡ within put (out s c) (sub s c)) → ((s : S) → ends (put s) ≡ false)
    → (s : S) (text : List ℕ) → accepts step ends (put s) text ≡ true → Cut sub step ends out s text
cut sub step ends put out e f s [] a = absurd (false_true (sym (f s) ∙ a))
cut sub step ends put out e f s (c ∷ cs) a = cut_at sub step ends put out (sub s c) s c cs refl (e s c)
    (λ u b. cut sub step ends put out e f u cs b) a
