-- A reader goes over an image.
use Rattle.std.proofs.Common.{◌≡◌, ℕ, zero, suc, ◌+◌, ◌-◌, ◌<◌, ◌≤◌, ◌==◌, nat_le, Bool, true, false, cond, ◌&&◌, List, [], ◌∷◌, ◌++◌, length, take, drop, min, refl, sym, ap, ap₂, ◌∙◌, subst, arith, leb-true, le-leb, append_assoc, length-append, length-drop, take-append-drop}
use Rattle.std.proofs.lemmas.List.{append-nil, drop_at, take-append-le, drop-append-le, drop-drop, length-take-le}
use Rattle.journal.specs.Frames.{are_digits, nonzeros, head_length, head_count, body_at, after, is_whole, bodies, recorded}
use Rattle.journal.specs.Journal.{IsReadTo, IsRead}
use Rattle.journal.specs.Reading.{HasRead, ReadsNext, ReadsNone, ahead, string_read}
use Rattle.journal.specs.private.Reading.{TakesFrame}
use Rattle.journal.specs.declared.reader.StringReader.{StringReader}
use Rattle.journal.proofs.Clearing.{no_frame}
use Rattle.journal.proofs.Reading.{Headed, headed, digits_alone, named_alone, counted_alone, behind, after_shorter, not_whole, reads_next, reads_none, read_is}
use Rattle.journal.proofs.Torn.{both}

cond_same : {A : Type 0} (b : Bool) (x y z : A) → (b ≡ true → x ≡ y) → cond b x z ≡ cond b y z
cond_same true x y z f = f refl
cond_same false x y z f = refl

nothing : (n : ℕ) (octets : List ℕ) → length octets ≤ 0 → bodies n octets ≡ []
nothing zero octets p = refl
nothing (suc n) [] p = refl
nothing (suc n) (x ∷ octets) p = absurd (omega (arith, p))

-- There are no more strings than octets.
bodies_enough : (m n : ℕ) (octets : List ℕ) → length octets ≤ m → length octets ≤ n → bodies m octets ≡ bodies n octets
bodies_enough zero n octets p q = sym (nothing n octets p)
bodies_enough (suc m) zero octets p q = nothing (suc m) octets q
bodies_enough (suc m) (suc n) octets p q =
    cond_same (is_whole octets) _ _ [] (λ whole. ap (λ (l : List (List ℕ)). body_at octets ∷ l)
    (bodies_enough m n (after octets)
    (omega (arith, p, after_shorter octets whole)) (omega (arith, q, after_shorter octets whole))))

-- What is recorded from a whole frame on is its string, and what is recorded behind it.
pub recorded_next : (octets : List ℕ) → is_whole octets ≡ true → recorded octets ≡ body_at octets ∷ recorded
    (after octets)
recorded_next octets whole =
    bodies_enough (length octets) (suc (length octets)) octets (omega arith) (omega arith)
    ∙ ap (λ b. cond b (body_at octets ∷ bodies (length octets) (after octets)) []) whole
    ∙ ap (λ (l : List (List ℕ)). body_at octets ∷ l) (bodies_enough (length octets) (length (after octets))
    (after octets) (omega (arith, after_shorter octets whole)) (omega arith))

-- A whole frame fits.
pub whole_fits : (octets : List ℕ) → is_whole octets ≡ true → 10 + head_length octets ≤ length octets
whole_fits octets whole =
    let t = both (are_digits 10 octets) _ whole in
    let v = both (nat_le (head_length octets) (length (drop 10 octets))) _ t.1 in
    let h = headed 10 octets t.0 in
    omega (arith, leb-true _ _ v.0, length-drop 10 octets, h.long, ap length h.is, length-append h.head h.tail)

pub body_long : (octets : List ℕ) → is_whole octets ≡ true → length (body_at octets) ≡ head_length octets
body_long octets whole = length-take-le (head_length octets) (drop 10 octets)
    (omega (arith, whole_fits octets whole, length-drop 10 octets))

-- The length that a header names stands in itself.
pub named_same : (a later : List ℕ) → 10 ≤ length a → head_length (a ++ later) ≡ head_length a
named_same a later ten = ap Rattle.journal.specs.Frames.number (take-append-le 5 a later (omega (arith, ten)))

-- A frame that is there in full is tested by itself.
module _ (h t later : List ℕ) (ten : length h ≡ 10) (full : head_length (h ++ t) ≤ length t) where
  abbrev len : ℕ
  len = head_length (h ++ t)

  named : head_length (h ++ (t ++ later)) ≡ len
  named = named_alone h ten (t ++ later) t

  body_same : body_at (h ++ (t ++ later)) ≡ body_at (h ++ t)
  body_same = ap₂ (λ k (l : List ℕ). take k l) named (behind h ten (t ++ later)) ∙ take-append-le len t later full
      ∙ ap (take len) (sym (behind h ten t))

  after_same : after (h ++ (t ++ later)) ≡ after (h ++ t) ++ later
  after_same = ap₂ (λ k (l : List ℕ). drop k l) named (behind h ten (t ++ later)) ∙ drop-append-le len t later full
      ∙ ap (λ (l : List ℕ). drop len l ++ later) (sym (behind h ten t))

  fits_same : nat_le (head_length (h ++ (t ++ later))) (length (drop 10 (h ++ (t ++ later)))) ≡
      nat_le len (length (drop 10 (h ++ t)))
  fits_same = le-leb _ _ (omega (arith, named, ap length (behind h ten (t ++ later)), length-append t later, full))
      ∙ sym (le-leb _ _ (omega (arith, ap length (behind h ten t), full)))

  whole_same : is_whole (h ++ (t ++ later)) ≡ is_whole (h ++ t)
  whole_same = λ i. digits_alone 10 h (t ++ later) t ten i && (fits_same i && nonzeros (body_same i) == counted_alone
      h ten (t ++ later) t i)

-- The frame at the front of a first part that has it in full is the frame at the front of all.
pub record SameFrame (a later : List ℕ) : Type 0 where
  pub whole : is_whole (a ++ later) ≡ is_whole a
  pub body : body_at (a ++ later) ≡ body_at a
  pub after_is : after (a ++ later) ≡ after a ++ later

pub same_frame : (a later : List ℕ) → 10 + head_length a ≤ length a → SameFrame a later
same_frame a later fits = subst (λ (x : List ℕ). SameFrame x later) (take-append-drop 10 a) (record {
  whole = ap is_whole (append_assoc h t later) ∙ whole_same h t later ten full;
  body = ap body_at (append_assoc h t later) ∙ body_same h t later ten full;
  after_is = ap after (append_assoc h t later) ∙ after_same h t later ten full;
})
  where
    h : List ℕ
    h = take 10 a

    t : List ℕ
    t = drop 10 a

    ten : length h ≡ 10
    ten = length-take-le 10 a (omega (arith, fits))

    full : head_length (h ++ t) ≤ length t
    full = omega (arith, fits, ap head_length (take-append-drop 10 a), length-drop 10 a)

not_true : (b : Bool) → (b ≡ true → ⊥) → b ≡ false
not_true false f = refl
not_true true f = absurd (f refl)

-- Where no header stands in a first part that has room for one, or that is all, no frame stands.
pub no_header : (a later : List ℕ) → are_digits 10 a ≡ false → min 10 (length (a ++ later)) ≤ length a →
    is_whole (a ++ later) ≡ false
no_header a [] none least = ap is_whole (append-nil a) ∙ no_frame a none
no_header a (x ∷ later) none least = no_frame (a ++ x ∷ later) (ap (are_digits 10) split ∙ digits_alone 10 (take 10 a)
    (drop 10 a ++ x ∷ later) (drop 10 a) long ∙ ap (are_digits 10) (take-append-drop 10 a) ∙ none)
  where
    long : length (take 10 a) ≡ 10
    long = length-take-le 10 a (omega (arith, least, length-append a (x ∷ later)))

    split : a ++ x ∷ later ≡ take 10 a ++ (drop 10 a ++ x ∷ later)
    split = ap (λ (l : List ℕ). l ++ x ∷ later) (sym (take-append-drop 10 a)) ∙ append_assoc (take 10 a) (drop 10 a)
        (x ∷ later)

-- A header that announces more than there is is no frame.
pub too_long : (a later : List ℕ) → 10 ≤ length a → length (a ++ later) < 10 + head_length a → is_whole (a ++ later) ≡
    false
too_long a later ten less = not_true (is_whole (a ++ later))
    (λ whole. omega (arith, whole_fits (a ++ later) whole, named_same a later ten, less))

-- A reader in front of the first string.
pub first_read : (r : StringReader) (image : List ℕ) → r.end ≡ 0 → r.size ≡ length image → r.string_end ≡ 0 →
    r.window.items ≡ [] → HasRead r image
first_read r image e size s w = record {
  strings = [];
  read = subst (λ k. IsReadTo [] image (drop k image)) (sym e) (reads_none image);
  later = image;
  window = ap (λ k. drop k image) e ∙ ap (λ (l : List ℕ). l ++ image) (sym (ap₂ (λ k (l : List ℕ). drop k l) s w));
  within = omega (arith, e);
  size = size;
}

-- A frame of the window is taken.
pub frame_taken : (old : StringReader) (a : List ℕ) (n : ℕ) → a ≡ ahead old → is_whole a ≡ true → n ≡ length (body_at a)
    → (is_whole (ahead old) ≡ true) × (take (old.string_end + 10 + n - (old.string_end + 10))
    (drop (old.string_end + 10) old.window.items) ≡ body_at (ahead old))
    × (drop (old.string_end + 10 + n) old.window.items ≡ after (ahead old))
    × (old.end + (10 + n) ≡ old.end + (10 + head_length (ahead old))) × (old.size ≡ old.size)
frame_taken old a n is whole long = (
  whole_here,
  ap₂ (λ k (l : List ℕ). take k l) (omega (arith, named)) (sym (drop-drop 10 old.string_end old.window.items)),
  ap (λ k. drop k old.window.items) (omega (arith, named))
      ∙ sym (drop-drop (head_length (ahead old)) (old.string_end + 10) old.window.items)
      ∙ ap (drop (head_length (ahead old))) (sym (drop-drop 10 old.string_end old.window.items)),
  ap (λ k. old.end + (10 + k)) named,
  refl,
)
  where
    whole_here : is_whole (ahead old) ≡ true
    whole_here = subst (λ (l : List ℕ). is_whole l ≡ true) is whole

    named : n ≡ head_length (ahead old)
    named = long ∙ ap (λ (l : List ℕ). length (body_at l)) is ∙ body_long (ahead old) whole_here

-- More of the device is read behind what is ahead.
pub record Filled (new : StringReader) (image now : List ℕ) (wanted : ℕ) : Type 0 where
  pub read : HasRead new now
  pub enough : min wanted (length image - new.end) ≤ length (ahead new)

pub filled : (old new : StringReader) (image now : List ℕ) (held more wanted left : ℕ) → HasRead old image →
    now ≡ image → held ≡ length (ahead old) → new.end ≡ old.end → new.size ≡ old.size → new.string_end ≡ 0
    → new.window.items ≡ ahead old ++ take more (drop (old.end + held) image) → left ≡ old.size - old.end - held →
    more ≤ left → min (wanted - held) left ≤ more → Filled new image now wanted
filled old new image now held more wanted left h same held_is end size string_end window left_is most least = record {
  read = subst (HasRead new) (sym same) (record {
    strings = h.strings;
    read = subst (λ k. IsReadTo h.strings image (drop k image)) (sym end) h.read;
    later = drop more h.later;
    window = ap (λ k. drop k image) end ∙ h.window ∙ ap (λ (l : List ℕ). ahead old ++ l)
        (sym (take-append-drop more h.later))
        ∙ sym (append_assoc (ahead old) (take more h.later) (drop more h.later))
        ∙ ap (λ (l : List ℕ). l ++ drop more h.later) (sym ahead_is);
    within = omega (arith, end, h.within);
    size = size ∙ h.size;
  });
  enough = omega (
    arith,
    end,
    h.size,
    left_is,
    most,
    least,
    held_is,
    ap length ahead_is,
    length-append (ahead
        old) (take more h.later),
    piece_long,
    rest_long,
    h.within,
  );
}
  where
    later_is : drop (old.end + held) image ≡ h.later
    later_is = sym (drop-drop held old.end image) ∙ ap (drop held) h.window ∙ drop_at (ahead old) h.later held
        (sym held_is)

    ahead_is : ahead new ≡ ahead old ++ take more h.later
    ahead_is = ap₂ (λ k (l : List ℕ). drop k l) string_end (window ∙ ap (λ (l : List ℕ). ahead old ++ take more l)
        later_is)

    rest_long : length image - old.end ≡ held + length h.later
    rest_long = sym (length-drop old.end image) ∙ ap length h.window ∙ length-append (ahead old) h.later
        ∙ ap (λ k. k + length h.later) (sym held_is)

    piece_long : length (take more h.later) ≡ more
    piece_long = length-take-le more h.later (omega (arith, most, left_is, h.size, rest_long))

-- No frame stands at the end, where no header is ahead,
pub none_ahead : (r : StringReader) (image : List ℕ) → HasRead r image → are_digits 10 (ahead r) ≡ false →
    min 10 (length image - r.end) ≤ length (ahead r) → is_whole (drop r.end image) ≡ false
none_ahead r image h none least = ap is_whole h.window ∙ no_header (ahead r) h.later none
    (omega (arith, least, ap length h.window, length-drop r.end image))

-- nor where one is that announces more than there is.
pub none_fits : (r : StringReader) (image : List ℕ) → HasRead r image → 10 ≤ length (ahead r) →
    length image - r.end < 10 + head_length (ahead r) → is_whole (drop r.end image) ≡ false
none_fits r image h ten less = ap is_whole h.window ∙ too_long (ahead r) h.later ten
    (omega (arith, less, ap length h.window, length-drop r.end image))

pub nothing_read : (old new : StringReader) (image : List ℕ) → new.end ≡ old.end → is_whole (drop new.end image) ≡
    false → ReadsNone old new image
nothing_read old new image e none = record { none = here; stays = e; left = not_whole _ (drop old.end image) here }
  where
    here : is_whole (drop old.end image) ≡ false
    here = ap (λ k. is_whole (drop k image)) (sym e) ∙ none

-- A header that was read stays the same.
pub header_stays : (r s : StringReader) (image : List ℕ) → HasRead r image → HasRead s image → s.end ≡ r.end →
    10 ≤ length (ahead r) → 10 ≤ length (ahead s) → head_length (ahead s) ≡ head_length (ahead r)
header_stays r s image h k e ten long = sym (named_same (ahead s) k.later long) ∙ ap head_length (sym k.window
    ∙ ap (λ j. drop j image) e ∙ h.window) ∙ named_same (ahead r) h.later ten

-- A reader that has a frame in full ahead goes on.
pub record GoesOn (b : Bool) (old new : StringReader) (image : List ℕ) : Type 0 where
  pub string : Rattle.journal.specs.Reading.Advances b old new image
  pub read : HasRead new image

pub goes_on : (b : Bool) (old mid new : StringReader) (image : List ℕ) → HasRead mid image → mid.end ≡ old.end →
    10 + head_length (ahead mid) ≤ length (ahead mid) → TakesFrame b mid new → GoesOn b old new image
goes_on false old mid new image h e full taken = record {
  string = nothing_read old new image (ap (λ (r : StringReader). r.end) taken.1 ∙ e)
      (ap (λ (r : StringReader). is_whole (drop r.end image)) taken.1 ∙ ap is_whole h.window
      ∙ (same_frame (ahead mid) h.later full).whole ∙ taken.0);
  read = subst (λ (r : StringReader). HasRead r image) (sym taken.1) h;
}
goes_on true old mid new image h e full taken = record {
  string = record {
    whole = whole_old;
    string = taken.1 ∙ sym same.body ∙ ap body_at (sym h.window) ∙ ap (λ k. body_at (drop k image)) e;
    behind = behind_is ∙ ap (λ k. after (drop k image)) e;
    rises = omega (arith, taken.3, e);
    left = recorded_next (drop old.end image) whole_old
        ∙ ap₂ (λ (x : List ℕ) (l : List ℕ). x ∷ recorded l) (ap (λ k. body_at (drop k image)) (sym e)
        ∙ ap body_at h.window ∙ same.body ∙ sym taken.1) (ap (λ k. after (drop k image)) (sym e) ∙ sym behind_is);
  };
  read = record {
    strings = h.strings ++ body_at (drop mid.end image) ∷ [];
    read = subst (λ (l : List ℕ). IsReadTo (h.strings ++ body_at (drop mid.end image) ∷ []) image l) (sym behind_is)
        (reads_next h.strings image (drop mid.end image) h.read whole_mid);
    later = h.later;
    window = behind_is ∙ ap after h.window ∙ same.after_is ∙ ap (λ (l : List ℕ). l ++ h.later) (sym taken.2);
    within = omega (
      arith,
      taken.3,
      full,
      h.within,
      ap length h.window,
      length-drop mid.end image,
      length-append (ahead mid) h.later,
    );
    size = taken.4 ∙ h.size;
  };
}
  where
    same : SameFrame (ahead mid) h.later
    same = same_frame (ahead mid) h.later full

    whole_mid : is_whole (drop mid.end image) ≡ true
    whole_mid = ap is_whole h.window ∙ same.whole ∙ taken.0

    whole_old : is_whole (drop old.end image) ≡ true
    whole_old = ap (λ k. is_whole (drop k image)) (sym e) ∙ whole_mid

    behind_is : drop new.end image ≡ after (drop mid.end image)
    behind_is = ap (λ k. drop k image) (taken.3 ∙ omega arith)
        ∙ sym (drop-drop (head_length (ahead mid)) (mid.end + 10) image)
        ∙ ap₂ (λ k (l : List ℕ). drop k l) (sym (named_same (ahead mid) h.later (omega (arith, full)))
        ∙ ap head_length (sym h.window)) (sym (drop-drop 10 mid.end image))

-- What was read to the end is what is recorded.
pub all_read : (r : StringReader) (image : List ℕ) → HasRead r image → is_whole (drop r.end image) ≡ false →
    IsRead (recorded image) r.end image
all_read r image h none = subst (λ (bs : List (List ℕ)). IsRead bs r.end image)
    (sym (read_is h.strings r.end image is)) is
  where
    is : IsRead h.strings r.end image
    is = Rattle.journal.proofs.Reading.reads_end h.strings image (drop r.end image) r.end h.read none
        (omega (arith, h.within, length-drop r.end image))

-- A journal holds nothing where its first step reads nothing,
pub empty_read : (old new : StringReader) (image : List ℕ) → old.end ≡ 0 → ReadsNone old new image → recorded image ≡ []
empty_read old new image e r = ap (λ k. recorded (drop k image)) (sym e) ∙ r.left

-- and something where that reads a string.
pub not_empty_read : (old new : StringReader) (image : List ℕ) → old.end ≡ 0 → ReadsNext old new image →
    recorded image ≡ [] → ⊥
not_empty_read old new image e r none = let both : string_read new ∷ recorded (drop new.end image) ≡ [] = sym r.left
    ∙ ap (λ k. recorded (drop k image)) e ∙ none in absurd (cc both)
