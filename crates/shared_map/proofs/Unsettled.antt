-- A fork of which one side was altered: counted anew where that side is as high as before, else to be settled.
use Rattle.std.proofs.Common.{◌≡◌, ℕ, ◌+◌, List, ◌++◌, length, refl, sym, ap, ◌∙◌, false, arith, length-append}
use Rattle.std.specs.Prelude.{Option, max}
use Rattle.std.specs.declared.cmp.Ordering.{Ordering}
use Rattle.std.specs.declared.cmp.Ordering.TheVariants.{Less}
use Rattle.std.specs.Ordering.{is_lt}
use Rattle.std.specs.Cmp.{IsTotalOrder}
use Rattle.shared_map.specs.declared.tree.Node.{Node}
use Rattle.shared_map.specs.declared.tree.Node.TheVariants.{Leaf, Fork}
use Rattle.shared_map.specs.Altered.{altered_at}
use Rattle.shared_map.specs.Entries.{IsParted, DifferByAtMost}
use Rattle.shared_map.proofs.Altering.{altered_past, altered_ahead, altered_left, altered_right}
use Rattle.shared_map.proofs.Order.{ahead_from_from, past_from_under}
use Rattle.shared_map.proofs.Parting.{moved}

module _ {K X : Type 0} (R : K → K → Ordering) (f : Option X → X) where
  -- sides that are to be settled: together they are the altered entries of what was seen before
  pub record Unsettled (key : K) (before l : List (K × X)) (k : K) (r : List (K × X)) : Type 0 where
    pub parted : IsParted R l k r
    pub entries : l ++ r ≡ altered_at R f before key

  abbrev pub IsUnsettled : K → List (K × X) → Node K X → Type 0
  IsUnsettled key before (Leaf es) = Unit {0}
  IsUnsettled key before (Fork h n l k r) = Unsettled key before l.value.0 k r.value.0

  module _ (o : IsTotalOrder R) where
    pub left_altered : (before l m r : List (K × X)) (k key : K) → IsParted R l k r → R key k ≡ Less →
        m ≡ altered_at R f l key → l ++ r ≡ before → Unsettled key before m k r
    left_altered before l m r k key p h e w = record {
      parted = moved (altered_left R f o l r k key p h) e refl refl;
      entries = ap (λ (x : List (K × X)). x ++ r) e
          ∙ sym (altered_ahead R f l r key (ahead_from_from o r k key p.from h))
          ∙ ap (λ (x : List (K × X)). altered_at R f x key) w;
    }

    pub right_altered : (before l m r : List (K × X)) (k key : K) → IsParted R l k r → is_lt (R key k) ≡ false →
        m ≡ altered_at R f r key → l ++ r ≡ before → Unsettled key before l k m
    right_altered before l m r k key p h e w = record {
      parted = moved (altered_right R f o l r k key p h) refl refl e;
      entries = ap (λ (x : List (K × X)). l ++ x) e
          ∙ sym (altered_past R f l r key (past_from_under o l k key p.under h))
          ∙ ap (λ (x : List (K × X)). altered_at R f x key) w;
    }

-- what a side that is as high as before leaves the height and the count of a fork
module _ {A : Type 0} where
  pub left_recounted : (l m r : List A × ℕ) (h n c : ℕ) (b a : ℕ × ℕ) → h ≡ max l.1 r.1 + 1 →
      DifferByAtMost 1 l.1 r.1 → n ≡ length (l.0 ++ r.0) → b ≡ (l.1, length l.0) → a ≡ (m.1, length m.0) →
      b.0 ≡ a.0 → c + b.1 ≡ n + a.1
      → (h ≡ max m.1 r.1 + 1) × DifferByAtMost 1 m.1 r.1 × (c ≡ length (m.0 ++ r.0))
  left_recounted l m r h n c b a q d v x y s z =
      let same : l.1 ≡ m.1 = sym (ap (λ w. w.0) x) ∙ s ∙ ap (λ w. w.0) y in
      let bl : b.1 ≡ length l.0 = ap (λ w. w.1) x in
      let al : a.1 ≡ length m.0 = ap (λ w. w.1) y in (
        q ∙ ap (λ w. max w r.1 + 1) same,
        (omega (arith, d.0, d.1, same), omega (arith, d.0, d.1, same)),
        omega (arith, length-append l.0 r.0, length-append m.0 r.0),
      )

  pub right_recounted : (l m r : List A × ℕ) (h n c : ℕ) (b a : ℕ × ℕ) → h ≡ max l.1 r.1 + 1 →
      DifferByAtMost 1 l.1 r.1 → n ≡ length (l.0 ++ r.0) → b ≡ (r.1, length r.0) → a ≡ (m.1, length m.0) →
      b.0 ≡ a.0 → c + b.1 ≡ n + a.1
      → (h ≡ max l.1 m.1 + 1) × DifferByAtMost 1 l.1 m.1 × (c ≡ length (l.0 ++ m.0))
  right_recounted l m r h n c b a q d v x y s z =
      let same : r.1 ≡ m.1 = sym (ap (λ w. w.0) x) ∙ s ∙ ap (λ w. w.0) y in
      let bl : b.1 ≡ length r.0 = ap (λ w. w.1) x in
      let al : a.1 ≡ length m.0 = ap (λ w. w.1) y in (
        q ∙ ap (λ w. max l.1 w + 1) same,
        (omega (arith, d.0, d.1, same), omega (arith, d.0, d.1, same)),
        omega (arith, length-append l.0 r.0, length-append l.0 m.0),
      )
