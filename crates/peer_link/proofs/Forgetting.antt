-- Items that are forgotten one by one.
use Rattle.std.proofs.Common.{◌≡◌, inl, inr, ℕ, ◌+◌, List, [], ◌∷◌, ◌++◌, drop, refl, sym, ap, ◌∙◌, subst, arith}
use Rattle.std.proofs.lemmas.List.{drop-drop}
use Rattle.std.proofs.lemmas.Bool.{cases_lt}
use Rattle.peer_link.specs.declared.weighted.Weighted.{Weighted}
use Rattle.peer_link.specs.Waiting.{QueueValue, HaveRoom, HasForgotten, weight_of}

pub none_forgotten : {T : Type 0} (old : QueueValue T) (weight : ℕ) → HasForgotten old weight old
none_forgotten old weight =
    record {
      count = 0;
      rest = refl;
      needed = λ k below room. absurd (omega (below, arith));
      most_items =
          refl;
      most_weight = refl;
    }

-- room at equal limits and behind equal items
same_room : {T : Type 0} (a b m n : ℕ) (xs ys : List (Weighted T)) (weight : ℕ) → a ≡ m → b ≡ n → xs ≡ ys →
    HaveRoom a b xs weight → HaveRoom m n ys weight
same_room a b m n xs ys weight e f g room =
    subst (λ v. HaveRoom v n ys weight) e (subst (λ v. HaveRoom a v ys weight) f (subst (λ v. HaveRoom a b v weight) g
    room))

pub one_more_forgotten : {T : Type 0} (old mid new : QueueValue T) (weight : ℕ) → HasForgotten old weight mid
    → (HaveRoom mid.most_items mid.most_weight mid.waiting weight → ⊥) →
    new ≡ record mid { waiting = drop 1 mid.waiting } → HasForgotten old weight new
one_more_forgotten old mid new weight h full e = record {
  count = h.count + 1;
  rest = ap (λ q. q.waiting) e ∙ (ap (λ ws. drop 1 ws) h.rest ∙ drop-drop 1 h.count old.waiting);
  needed = λ k below room. elim (cases_lt k h.count) [
    | inl before ↦ h.needed k before room
    | inr after ↦
        let same : k ≡ h.count = omega (below, after, arith) in
        full (same_room _ _ _ _ _ _ weight (sym h.most_items) (sym h.most_weight) (ap (λ n. drop n old.waiting) same
        ∙ sym h.rest) room)
  ];
  most_items = ap (λ q. q.most_items) e ∙ h.most_items;
  most_weight = ap (λ q. q.most_weight) e ∙ h.most_weight;
}

-- the weight of one item more
pub weight_of_more : {T : Type 0} (waiting : List (Weighted T)) (come : Weighted T) →
    weight_of (waiting ++ come ∷ []) ≡ weight_of waiting + come.weight
weight_of_more [] come = omega arith
weight_of_more (w ∷ ws) come = ap (λ n. w.weight + n) (weight_of_more ws come) ∙ omega arith
