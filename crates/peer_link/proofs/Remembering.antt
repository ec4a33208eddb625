-- Who is refused.
use Rattle.std.proofs.Common.{◌≡◌, ℕ, ◌≤◌, ◌<◌, max, ◌⊎◌, inl, inr, ⊎_elim, Bool, true, false, cond, ◌&&◌, ◌||◌, ◌==◌, nat_lt, nat_le, List, [], ◌∷◌, Option, Some, None, arith, refl, sym, ◌∙◌, subst, ltb-true, leb-true, true≢false}
use Rattle.std.proofs.lemmas.Bool.{le-ltb}
use Rattle.std.proofs.lemmas.Bool.Decides.{leb_tells}
use Rattle.peer_link.specs.declared.claim.Claim.{Claim}
use Rattle.peer_link.specs.declared.past.Reach.{Reach}
use Rattle.peer_link.specs.declared.past.Past.{Past}
use Rattle.peer_link.specs.declared.past.Forgotten.{Forgotten}
use Rattle.peer_link.specs.declared.past.Forgotten.TheVariants as forgotten
use Rattle.peer_link.specs.Past.{is_further, reach_of, reached, Saying, Greets, Says, past_of, is_same_start, judged, GoesForward, ForwardIsTaken, SomeSaid, Forgets, RefusalsHaveCause}

by_test : {A : Type 0} (Q : A → Type 0) (b : Bool) (x y : A) → (b ≡ true → Q x) → (b ≡ false → Q y) → Q (cond b x y)
by_test Q true x y f g = f refl
by_test Q false x y f g = g refl

both_true : (a b : Bool) → (a && b) ≡ true → (a ≡ true) × (b ≡ true)
both_true true true e = (refl, refl)
both_true true false e = absurd (cc)
both_true false b e = absurd (cc)

not_both : (b : Bool) → b ≡ true → b ≡ false → ⊥
not_both b t f = true≢false (sym t ∙ f)

neither : (a b : Bool) → a ≡ false → b ≡ false → (a || b) ≡ false
neither true b e f = absurd (true≢false e)
neither false b e f = f

second_false : (a b : Bool) → b ≡ false → (a && b) ≡ false
second_false true b e = e
second_false false b e = refl

-- no log
abbrev nowhere : Reach
nowhere = record { last_normal = 0; length = 0 }

-- it goes further than none
none_further : (r : Reach) → is_further nowhere r ≡ false
none_further r = neither (nat_lt r.last_normal 0) _ (le-ltb r.last_normal 0 (omega arith))
    (second_false (0 == r.last_normal) _ (le-ltb r.length 0 (omega arith)))

max_is : (a b : ℕ) → (max a b ≡ a) ⊎ (max a b ≡ b)
max_is a b = ⊎_elim (λ t. inr (omega (arith, t.1))) (λ t. inl (omega (arith, t.1))) (leb_tells a b)

-- what was said comes before a start
record IsBefore (c : Claim) (p : Past) : Type 0 where
  start : p.start < c.start
  view : p.view ≤ c.view
  reach : c.remembers ≡ true → is_further p.reach (reach_of c) ≡ false

reached_before : (old new r : Reach) → is_further old r ≡ false → is_further new r ≡ false →
    is_further (reached old new) r ≡ false
reached_before old new r f g = by_test (λ (x : Reach). is_further x r ≡ false) (is_further new old) new old (λ t. g)
    (λ t. f)

before : (c : Claim) (xs : List Saying) → GoesForward c xs → IsBefore c (past_of xs)
before c [] h = record { start = h; view = omega arith; reach = λ k. none_further (reach_of c) }
before c (Greets d ∷ xs) (one, rest) = record {
  start = one.0;
  view = omega (arith, (before c xs rest).view, one.1);
  reach = λ k. by_test (λ (x : Reach). is_further x (reach_of c) ≡ false) d.remembers
      (reached (past_of xs).reach (reach_of d)) (past_of xs).reach
      (λ t. reached_before (past_of xs).reach (reach_of d) (reach_of c) ((before c xs rest).reach k) (one.2 k t))
      (λ t. (before c xs rest).reach k);
}
before c (Says v l ∷ xs) (one, rest) = record {
  start = (before c xs rest).start;
  view = omega (arith, (before c xs rest).view, one.0);
  reach = λ k. reached_before (past_of xs).reach l (reach_of c) ((before c xs rest).reach k) (one.1 k);
}

taken : (p : Past) (c : Claim) → IsBefore c p → judged p c ≡ None
taken p c h = by_test (λ (o : Option Forgotten). o ≡ None) (is_same_start p c) _ _ (λ t. refl)
    (λ t. by_test (λ (o : Option Forgotten). o ≡ None) (nat_le c.start p.start) _ _
    (λ k. absurd (omega (arith, leb-true _ _ k, h.start)))
    (λ k. by_test (λ (o : Option Forgotten). o ≡ None) (nat_lt c.view p.view) _ _
    (λ l. absurd (omega (arith, ltb-true _ _ l, h.view)))
    (λ l. by_test (λ (o : Option Forgotten). o ≡ None) (c.remembers && is_further p.reach (reach_of c)) _ _
    (λ m. absurd (not_both _ (both_true c.remembers _ m).1 (h.reach (both_true c.remembers _ m).0))) (λ m. refl))))

pub forward_is_taken : ForwardIsTaken
forward_is_taken c xs h = taken (past_of xs) c (before c xs h)

-- what is kept was said
start_said : (xs : List Saying) → ((past_of xs).start ≡ 0) ⊎ SomeSaid (forgotten.Start (past_of xs).start) xs
start_said [] = inl refl
start_said (Greets d ∷ xs) = inr (inl refl)
start_said (Says v l ∷ xs) = ⊎_elim (λ e. inl e) (λ s. inr (inr s)) (start_said xs)

view_said : (xs : List Saying) → ((past_of xs).view ≡ 0) ⊎ SomeSaid (forgotten.View (past_of xs).view) xs
view_said [] = inl refl
view_said (Greets d ∷ xs) = ⊎_elim
    (λ e. subst (λ (v : ℕ). (v ≡ 0) ⊎ SomeSaid (forgotten.View v) (Greets d ∷ xs)) (sym e)
    (⊎_elim (λ z. inl z) (λ s. inr (inr s)) (view_said xs)))
    (λ e. subst (λ (v : ℕ). (v ≡ 0) ⊎ SomeSaid (forgotten.View v) (Greets d ∷ xs)) (sym e) (inr (inl refl)))
    (max_is (past_of xs).view d.view)
view_said (Says w l ∷ xs) = ⊎_elim
    (λ e. subst (λ (v : ℕ). (v ≡ 0) ⊎ SomeSaid (forgotten.View v) (Says w l ∷ xs)) (sym e)
    (⊎_elim (λ z. inl z) (λ s. inr (inr s)) (view_said xs)))
    (λ e. subst (λ (v : ℕ). (v ≡ 0) ⊎ SomeSaid (forgotten.View v) (Says w l ∷ xs)) (sym e) (inr (inl refl)))
    (max_is (past_of xs).view w)

-- no log was named, or this one was
abbrev IsNamed : List Saying → Reach → Type 0
IsNamed xs r = (r ≡ nowhere) ⊎ SomeSaid (forgotten.Log r) xs

one_more : (x : Saying) (xs : List Saying) (r : Reach) → IsNamed xs r → IsNamed (x ∷ xs) r
one_more x xs r h = ⊎_elim (λ z. inl z) (λ s. inr (inr s)) h

log_said : (xs : List Saying) → IsNamed xs (past_of xs).reach
log_said [] = inl refl
log_said (Greets d ∷ xs) = by_test (IsNamed (Greets d ∷ xs)) d.remembers (reached (past_of xs).reach (reach_of d))
    (past_of xs).reach
    (λ t. by_test (IsNamed (Greets d ∷ xs)) (is_further (reach_of d) (past_of xs).reach) (reach_of d)
    (past_of xs).reach (λ k. inr (inl (t, refl))) (λ k. one_more (Greets d) xs _ (log_said xs)))
    (λ t. one_more (Greets d) xs _ (log_said xs))
log_said (Says w l ∷ xs) = by_test (IsNamed (Says w l ∷ xs)) (is_further l (past_of xs).reach) l (past_of xs).reach
    (λ k. inr (inl refl)) (λ k. one_more (Says w l) xs _ (log_said xs))

module _ (c : Claim) (xs : List Saying) (f : Forgotten) (counted : 0 < c.start) where
  abbrev Causes : Option Forgotten → Type 0
  Causes o = o ≡ Some f → SomeSaid f xs × Forgets c f

  abbrev Because : Forgotten → Type 0
  Because g = SomeSaid g xs × Forgets c g

  none : None ≡ Some f → SomeSaid f xs × Forgets c f
  none e = absurd (cc)

  start : c.start ≤ (past_of xs).start → Because (forgotten.Start (past_of xs).start)
  start k = (⊎_elim (λ z. absurd (omega (arith, k, z, counted))) (λ s. s) (start_said xs), k)

  view : c.view < (past_of xs).view → Because (forgotten.View (past_of xs).view)
  view k = (⊎_elim (λ z. absurd (omega (arith, k, z))) (λ s. s) (view_said xs), k)

  log : c.remembers ≡ true → is_further (past_of xs).reach (reach_of c) ≡ true →
      Because (forgotten.Log (past_of xs).reach)
  log r k = (
    ⊎_elim (λ z. absurd (not_both _ (subst (λ (x : Reach). is_further x (reach_of c) ≡ true) z k)
        (none_further (reach_of c)))) (λ s. s) (log_said xs),
    (r, k),
  )

  some_is : (g : Forgotten) → Because g → Causes (Some g)
  some_is g b e = subst Because same b
    where
      same : g ≡ f
      same = cc e

  causes : Causes (judged (past_of xs) c)
  causes = by_test Causes (is_same_start (past_of xs) c) _ _ (λ t. none)
      (λ t. by_test Causes (nat_le c.start (past_of xs).start) _ _ (λ k. some_is _ (start (leb-true _ _ k)))
      (λ k. by_test Causes (nat_lt c.view (past_of xs).view) _ _ (λ l. some_is _ (view (ltb-true _ _ l)))
      (λ l. by_test Causes (c.remembers && is_further (past_of xs).reach (reach_of c)) _ _
      (λ m. some_is _ (log (both_true c.remembers _ m).0 (both_true c.remembers _ m).1)) (λ m. none))))

pub refusals_have_cause : RefusalsHaveCause
refusals_have_cause c xs f counted e = causes c xs f counted e
