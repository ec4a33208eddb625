-- LDIF: a part put behind lines, whatever follows.
use Rattle.std.proofs.Common.{◌≡◌, ◌≤◌, ℕ, zero, suc, List, [], ◌∷◌, ◌++◌, length, drop, arith, Bool, true, false, cond, nat_eq, refl, sym, ap, ◌∙◌, append_assoc}
use Rattle.ldif.specs.Lines.{LineModel, continues, before, folded}
use Rattle.ldif.specs.private.Folding.{resumed, Puts}

abbrev line : ℕ → List ℕ → LineModel
line n t = record { number = n; text = t }

same_test : (c d : ℕ) (cs ds t : List ℕ) → continues (c ∷ cs) t ≡ continues (d ∷ ds) t
same_test c d cs ds [] = refl
same_test c d cs ds (x ∷ xs) = refl

-- the head of what follows, where it may continue a line
joined_head : (b : Bool) (n m c d : ℕ) (cs ds x : List ℕ) (r : LineModel) (rs : List LineModel) → nat_eq d 32 ≡ true
    → cond b (line n ((c ∷ (cs ++ ds)) ++ x) ∷ rs) (line n (c ∷ (cs ++ ds)) ∷ r ∷ rs)
    ≡ before (line n (c ∷ cs)) (cond b (line m ((d ∷ ds) ++ x) ∷ rs) (line m (d ∷ ds) ∷ r ∷ rs))
joined_head true n m c d cs ds x r rs e =
    ap (λ t. line n (c ∷ t) ∷ rs) (append_assoc cs ds x)
    ∙ sym (ap (λ b. cond b (line n (c ∷ (cs ++ (ds ++ x))) ∷ rs) (line n (c ∷ cs) ∷ line m (d ∷ (ds ++ x)) ∷ rs)) e)
joined_head false n m c d cs ds x r rs e =
    sym (ap (λ b. cond b (line n (c ∷ (cs ++ ds)) ∷ r ∷ rs) (line n (c ∷ cs) ∷ line m (d ∷ ds) ∷ r ∷ rs)) e)

-- two that continue a line, one after the other
before_folded : (n m : ℕ) (s t : List ℕ) (rest : List LineModel) → continues s t ≡ true
    → before (line n (s ++ drop 1 t)) rest ≡ before (line n s) (before (line m t) rest)
before_folded n m [] t rest e = absurd cc
before_folded n m (c ∷ cs) [] rest e = absurd cc
before_folded n m (c ∷ cs) (d ∷ ds) [] e =
    sym (ap (λ b. cond b (line n (c ∷ (cs ++ ds)) ∷ []) (line n (c ∷ cs) ∷ line m (d ∷ ds) ∷ [])) e)
before_folded n m (c ∷ cs) (d ∷ ds) (r ∷ rs) e =
    ap (λ b. cond b (line n ((c ∷ (cs ++ ds)) ++ drop 1 r.text) ∷ rs) (line n (c ∷ (cs ++ ds)) ∷ r ∷ rs))
    (same_test c d (cs ++ ds) ds r.text)
    ∙ joined_head (continues (d ∷ ds) r.text) n m c d cs ds (drop 1 r.text) r rs e

alone_head : (b : Bool) (m : ℕ) (a : LineModel) (t x : List ℕ) (r : LineModel) (rs : List LineModel) →
    continues a.text t ≡ false → (b ≡ true → continues a.text (t ++ x) ≡ false)
    → before a (cond b (line m (t ++ x) ∷ rs) (line m t ∷ r ∷ rs)) ≡ a ∷ cond b (line m (t ++ x) ∷ rs)
    (line m t ∷ r ∷ rs)
alone_head true m a t x r rs e f = ap (λ b. cond b (folded a (line m (t ++ x)) ∷ rs) (a ∷ line m (t ++ x) ∷ rs))
    (f refl)
alone_head false m a t x r rs e f = ap (λ b. cond b (folded a (line m t) ∷ r ∷ rs) (a ∷ line m t ∷ r ∷ rs)) e

more_continues : (s t x y : List ℕ) → continues s t ≡ false → continues t y ≡ true → continues s (t ++ x) ≡ false
more_continues [] t x y e f = refl
more_continues (c ∷ cs) [] x y e f = absurd cc
more_continues (c ∷ cs) (d ∷ ds) x y e f = e

-- a part that does not continue a line
before_alone : (m : ℕ) (a : LineModel) (t : List ℕ) (rest : List LineModel) → continues a.text t ≡ false
    → before a (before (line m t) rest) ≡ a ∷ before (line m t) rest
before_alone m a t [] e = ap (λ b. cond b (folded a (line m t) ∷ []) (a ∷ line m t ∷ [])) e
before_alone m a t (r ∷ rs) e = alone_head (continues t r.text) m a t (drop 1 r.text) r rs e
    (λ f. more_continues a.text t (drop 1 r.text) r.text e f)

resumed_last : (xs : List LineModel) (a : LineModel) (rest : List LineModel) → resumed (xs ++ a ∷ []) rest ≡
    xs ++ before a rest
resumed_last [] a rest = refl
resumed_last (x ∷ []) a rest = refl
resumed_last (x ∷ y ∷ ys) a rest = ap (λ l. x ∷ l) (resumed_last (y ∷ ys) a rest)

pub resumed_nil : (xs : List LineModel) → resumed xs [] ≡ xs
resumed_nil [] = refl
resumed_nil (x ∷ []) = refl
resumed_nil (x ∷ y ∷ ys) = ap (λ l. x ∷ l) (resumed_nil (y ∷ ys))

-- one that continues the last line
pub puts_folded : (xs : List LineModel) (a : LineModel) (m : ℕ) (t : List ℕ) → continues a.text t ≡ true →
    Puts (xs ++ a ∷ []) (line m t) (xs ++ line a.number (a.text ++ drop 1 t) ∷ [])
puts_folded xs a m t e = record {
  whatever_follows = λ rest.
      resumed_last xs (line a.number (a.text ++ drop 1 t)) rest
      ∙ ap (λ l. xs ++ l) (before_folded a.number m a.text t rest e)
      ∙ sym (resumed_last xs a (before (line m t) rest));
}

-- one of its own
pub puts_alone : (xs : List LineModel) (a : LineModel) (m : ℕ) (t : List ℕ) → continues a.text t ≡ false →
    Puts (xs ++ a ∷ []) (line m t) ((xs ++ a ∷ []) ++ line m t ∷ [])
puts_alone xs a m t e = record {
  whatever_follows = λ rest.
      resumed_last (xs ++ a ∷ []) (line m t) rest
      ∙ append_assoc xs (a ∷ []) (before (line m t) rest)
      ∙ ap (λ l. xs ++ l) (sym (before_alone m a t rest e))
      ∙ sym (resumed_last xs a (before (line m t) rest));
}

-- ---- the same, over what calls gave

pub put_folded : (old xs new : List LineModel) (a b : LineModel) (m : ℕ) (s p q : List ℕ) → old ≡ xs ++ a ∷ [] →
    new ≡ xs ++ b ∷ [] → b ≡ line a.number (a.text ++ q) → q ≡ drop 1 p → s ≡ a.text
    → continues s p ≡ true → Puts old (line m p) new
put_folded old xs new a b m s p q was is extended rest text e =
    let h : Puts (xs ++ a ∷ []) (line m p) (xs ++ line a.number (a.text ++ drop 1 p) ∷ []) = puts_folded xs a m p
    (ap (λ t. continues t p) (sym text) ∙ e) in
    let put : new ≡ xs ++ line a.number (a.text ++ drop 1 p) ∷ [] = is ∙ ap (λ l. xs ++ l ∷ []) (extended
    ∙ ap (λ t. line a.number (a.text ++ t)) rest) in
    rw (was, put) h

pub put_alone : (old xs mid new : List LineModel) (a b : LineModel) (m : ℕ) (s p : List ℕ) → old ≡ xs ++ a ∷ [] →
    mid ≡ xs ++ a ∷ [] → new ≡ mid ++ b ∷ [] → b ≡ line m p → s ≡ a.text
    → continues s p ≡ false → Puts old (line m p) new
put_alone old xs mid new a b m s p was back is made text e =
    let h : Puts (xs ++ a ∷ []) (line m p) ((xs ++ a ∷ []) ++ line m p ∷ []) = puts_alone xs a m p
    (ap (λ t. continues t p) (sym text) ∙ e) in
    let put : new ≡ (xs ++ a ∷ []) ++ line m p ∷ [] = is ∙ ap (λ l. l ++ b ∷ []) back
    ∙ ap (λ l. (xs ++ a ∷ []) ++ l ∷ []) made in
    rw (was, put) h

pub drop_past : {A : Type 0} (i : ℕ) (xs : List A) → length xs ≤ i → drop i xs ≡ []
drop_past zero [] h = refl
drop_past zero (x ∷ xs) h = absurd (omega arith)
drop_past (suc i) [] h = refl
drop_past (suc i) (x ∷ xs) h = drop_past i xs (omega arith)
