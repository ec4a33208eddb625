-- One string more in a batch.
use Rattle.std.proofs.Common.{◌≡◌, ◌<◌, ◌+◌, ◌^◌, ℕ, List, [], ◌∷◌, ◌++◌, length, refl, sym, ap, ◌∙◌, subst, arith, append_assoc, length-append}
use Rattle.std.proofs.lemmas.List.{append-nil}
use Rattle.journal.specs.Frames.{frame, frames, recorded, FramesAreRead}
use Rattle.log_journal.specs.private.Framed.{IsFramed}

frames_more : (bs : List (List ℕ)) (s : List ℕ) → frames (bs ++ s ∷ []) ≡ frames bs ++ frame s
frames_more [] s = append-nil (frame s)
frames_more (b ∷ bs) s = ap (λ (l : List ℕ). frame b ++ l) (frames_more bs s)
    ∙ sym (append_assoc (frame b) (frames bs) (frame s))

pub frame_length : (s : List ℕ) → length (frame s) ≡ length s + 10
frame_length s = omega arith

-- how long the frames with one more are
pub frames_longer : (old s : List ℕ) (strings : List (List ℕ)) → IsFramed old → recorded old ≡ strings →
    length (frames (strings ++ s ∷ [])) ≡ length old + length s + 10
frames_longer old s strings h is =
    let whole : length (frames strings) ≡ length old = ap (λ (l : List (List ℕ)). length (frames l)) (sym is)
    ∙ sym (ap length h.framed) in
    omega (arith, ap length (frames_more strings s), length-append (frames strings) (frame s), frame_length s, whole)

module _ (law : FramesAreRead) (old s new : List ℕ) (h : IsFramed old) (is : new ≡ old ++ frame s)
    (short : length new < 2 ^ 35) where
  are_frames : new ≡ frames (recorded old ++ s ∷ [])
  are_frames = is ∙ ap (λ (l : List ℕ). l ++ frame s) h.framed ∙ sym (frames_more (recorded old) s)

  -- they are read as the strings and this one
  pub read_more : recorded new ≡ recorded old ++ s ∷ []
  read_more = ap recorded (are_frames ∙ sym (append-nil (frames (recorded old ++ s ∷ []))))
      ∙ law (recorded old ++ s ∷ []) 0 (subst (λ (l : List ℕ). length l < 2 ^ 35) are_frames short)

  pub framed_more : IsFramed new
  framed_more = record { framed = are_frames ∙ ap frames (sym read_more); short = short }

frames_both : (xs bs : List (List ℕ)) → frames (xs ++ bs) ≡ frames xs ++ frames bs
frames_both [] bs = refl
frames_both (x ∷ xs) bs = ap (λ (l : List ℕ). frame x ++ l) (frames_both xs bs)
    ∙ sym (append_assoc (frame x) (frames xs) (frames bs))

-- the frames of two batches, one behind the other
module _ (law : FramesAreRead) (old more new : List ℕ) (h : IsFramed old) (k : IsFramed more) (is : new ≡ old ++ more)
    (short : length new < 2 ^ 35) where
  are_both : new ≡ frames (recorded old ++ recorded more)
  are_both = is ∙ ap (λ (l : List ℕ). l ++ more) h.framed ∙ ap (λ (l : List ℕ). frames (recorded old) ++ l) k.framed
      ∙ sym (frames_both (recorded old) (recorded more))

  pub read_both : recorded new ≡ recorded old ++ recorded more
  read_both = ap recorded (are_both ∙ sym (append-nil (frames (recorded old ++ recorded more))))
      ∙ law (recorded old ++ recorded more) 0 (subst (λ (l : List ℕ). length l < 2 ^ 35) are_both short)

  pub framed_both : IsFramed new
  framed_both = record { framed = are_both ∙ ap frames (sym read_both); short = short }
