-- Zeros that join the end of an image.
use Rattle.std.proofs.Common.{◌≡◌, ℕ, ◌+◌, List, ◌++◌, replicate, sym, ap, ◌∙◌, subst, append_assoc}
use Rattle.std.proofs.lemmas.List.{replicate-append-replicate}
use Rattle.journal.specs.Device.{Only, Follows, Grown, Longer}
use Rattle.journal.specs.Frames.{recorded}
use Rattle.journal.specs.Journal.{IsImage, IsSettled}
use Rattle.journal.proofs.Crash.{recorded_now}

module _ (bs : List (List ℕ)) (end : ℕ) (image : List ℕ) (i : IsImage bs end image) where
  pub grown_image : (count : ℕ) (c : List ℕ) → Longer count image c → IsImage bs end c
  grown_image count c e = record {
    front = i.front;
    room = i.room + count;
    is = e ∙ ap (λ (l : List ℕ). l ++ replicate count 0) i.is ∙ append_assoc i.front (replicate i.room 0)
        (replicate count 0)
        ∙ ap (λ (l : List ℕ). i.front ++ l) (replicate-append-replicate i.room count 0);
    long = i.long;
    reads = i.reads;
  }

  -- A crash during a growth leaves the same strings.
  pub grown_crash : (most : ℕ) (before after : List ℕ → Type 0) → Only image before → Follows (Grown most) before
      after → (c : List ℕ) → after c → recorded c ≡ bs
  grown_crash most before after only follows c left =
      let from = follows c left in
      recorded_now bs end c (grown_image from.2.count c (from.2.is
      ∙ ap (λ (l : List ℕ). l ++ replicate from.2.count 0) (only from.0 from.1)))

  -- What grew is settled, with the same strings.
  pub grown_settled : (count : ℕ) (before after : List ℕ → Type 0) (new : List ℕ) → Only image before →
      Longer count image new → Follows (Longer count) before after → IsSettled new after (recorded new) end
  grown_settled count before after new only e follows = record {
    image = subst (λ (l : List (List ℕ)). IsImage l end new) (sym (recorded_now bs end new grown)) grown;
    durable = λ c left. let from = follows c left in from.2 ∙ ap (λ (l : List ℕ). l ++ replicate count 0)
        (only from.0 from.1) ∙ sym e;
  }
    where
      grown : IsImage bs end new
      grown = grown_image count new e

-- A device that reads as before is settled as before.
pub still_settled : (seen new : List ℕ) (before after : List ℕ → Type 0) (end : ℕ) →
    IsSettled seen before (recorded seen) end → new ≡ seen → ((c : List ℕ) → after c → before c) →
    IsSettled new after (recorded new) end
still_settled seen new before after end s e less = record {
  image = subst (λ (l : List ℕ). IsImage (recorded l) end l) (sym e) s.image;
  durable = λ c left. s.durable c (less c left) ∙ sym e;
}
