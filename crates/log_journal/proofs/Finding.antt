-- What a journal tells as its strings are read.
use Rattle.std.proofs.Common.{◌≡◌, ◌≢◌, ◌⊎◌, inl, inr, ⊎_elim, ◌<◌, ℕ, zero, suc, List, [], ◌∷◌, ◌++◌, length, map, take, drop, get_or, refl, sym, ap, ◌∙◌, subst, arith}
use Rattle.journal.specs.Frames.{recorded}
use Rattle.journal.specs.Reading.{ReadsNext, ReadsNone, string_read}
use Rattle.journal.specs.declared.reader.StringReader.{StringReader}
use Rattle.log_journal.specs.Found.{HasAnotherVersion, IsOfAnotherVersion}
use Rattle.log_journal.specs.Refused.{HasDamage, IsDamaged}
use Rattle.log_journal.specs.Told.{Told, Tells, nothing_told}
use Rattle.log_journal.specs.private.Told.{TakesString}

-- What is told so far, up to a place of an image.
pub record IsTelling (image : List ℕ) (end : ℕ) (t : Told) : Type 0 where
  pub tells : (u : Told) → Tells t (recorded (drop end image)) u → Tells nothing_told (recorded image) u
  pub version : HasAnotherVersion (recorded (drop end image)) → HasAnotherVersion (recorded image)
  pub damage : HasDamage (recorded (drop end image)) → HasDamage (recorded image)
  pub some : (end ≡ 0) ⊎ (recorded image ≢ [])

-- Nothing is told at first.
pub telling_none : (image : List ℕ) (end : ℕ) (t : Told) → end ≡ 0 → t ≡ nothing_told → IsTelling image end t
telling_none image end t e is = record {
  tells = λ u h. subst (λ k. Tells nothing_told (recorded (drop k image)) u) e
      (subst (λ (v : Told). Tells v (recorded (drop end image)) u) is h);
  version = λ h. subst (λ k. HasAnotherVersion (recorded (drop k image))) e h;
  damage = λ h. subst (λ k. HasDamage (recorded (drop k image))) e h;
  some = inl e;
}

not_nothing : (s : List ℕ) (ss : List (List ℕ)) → s ∷ ss ≡ [] → ⊥
not_nothing s ss e = cc e

-- one string more
pub telling_next : (image : List ℕ) (old new : StringReader) (t u : Told) → IsTelling image old.end t →
    ReadsNext old new image → TakesString (string_read new) t u → IsTelling image new.end u
telling_next image old new t u h r k = record {
  tells = λ v told. h.tells v (subst (λ (l : List (List ℕ)). Tells t l v) (sym r.left)
      (k.note, k.spells, subst (λ (w : Told). Tells w (recorded (drop new.end image)) v) (sym k.told) told));
  version = λ w. h.version (subst HasAnotherVersion (sym r.left)
      (record {
        before = string_read new ∷ w.before;
        string = w.string;
        behind = w.behind;
        is =
            ap (λ (l : List (List ℕ)). string_read new ∷ l) w.is;
        of = w.of;
      }));
  damage = λ w. h.damage (subst HasDamage (sym r.left) (record {
    before = string_read new ∷ w.before;
    string =
        w.string;
    behind = w.behind;
    is = ap (λ (l : List (List ℕ)). string_read new ∷ l) w.is;
    of = w.of;
  }));
  some = ⊎_elim (λ e. inr (λ none. not_nothing (string_read new) (recorded (drop new.end image)) (sym r.left
      ∙ ap (λ k. recorded (drop k image)) e ∙ none))) (λ s. inr s) h.some;
}

-- all strings
pub telling_done : (image : List ℕ) (old new : StringReader) (t : Told) → IsTelling image old.end t →
    ReadsNone old new image → Tells nothing_told (recorded image) t
telling_done image old new t h r = h.tells t (subst (λ (l : List (List ℕ)). Tells t l t) (sym r.left) refl)

-- A string of another version stands among those that are left.
pub version_ahead : (image : List ℕ) (old new : StringReader) (s : List ℕ) → ReadsNext old new image →
    s ≡ string_read new → IsOfAnotherVersion s → HasAnotherVersion (recorded (drop old.end image))
version_ahead image old new s r e h = record {
  before = [];
  string = string_read new;
  behind =
      recorded (drop new.end image);
  is = r.left;
  of = subst IsOfAnotherVersion e h;
}

-- A damaged string stands among those that are left.
pub damage_ahead : (image : List ℕ) (old new : StringReader) (s : List ℕ) → ReadsNext old new image →
    s ≡ string_read new → IsDamaged s → HasDamage (recorded (drop old.end image))
damage_ahead image old new s r e h = record {
  before = [];
  string = string_read new;
  behind =
      recorded (drop new.end image);
  is = r.left;
  of = subst IsDamaged e h;
}

-- There are no strings where the end is at the front, and some where it isn't.
pub nothing_found : (image : List ℕ) (end : ℕ) → end ≡ 0 → recorded (drop end image) ≡ [] → recorded image ≡ []
nothing_found image end e none = ap (λ k. recorded (drop k image)) (sym e) ∙ none

pub some_found : (image : List ℕ) (end : ℕ) → (end ≡ 0) ⊎ (recorded image ≢ []) → (end ≡ 0 → ⊥) → recorded image ≢ []
some_found image end h off = ⊎_elim (λ e. absurd (off e)) (λ s. s) h

-- a list's item, with what stands before and behind it
item_at : {A : Type 0} (f : A → List ℕ) (xs : List A) (i : ℕ) (d : A) → i < length xs →
    map f xs ≡ take i (map f xs) ++ f (get_or xs i d) ∷ drop (suc i) (map f xs)
item_at f [] i d p = absurd (omega (arith, p))
item_at f (x ∷ xs) zero d p = refl
item_at f (x ∷ xs) (suc i) d p = ap (λ (l : List (List ℕ)). f x ∷ l) (item_at f xs i d (omega (arith, p)))

-- A string of another version stands among these, and a damaged one.
pub version_at : {A : Type 0} (f : A → List ℕ) (xs : List A) (i : ℕ) (d : A) (s : List ℕ) → i < length xs →
    s ≡ f (get_or xs i d) → IsOfAnotherVersion s → HasAnotherVersion (map f xs)
version_at f xs i d s p e h = record {
  before = take i (map f xs);
  string = f (get_or xs i d);
  behind = drop (suc i)
      (map f xs);
  is = item_at f xs i d p;
  of = subst IsOfAnotherVersion e h;
}

pub damage_at : {A : Type 0} (f : A → List ℕ) (xs : List A) (i : ℕ) (d : A) (s : List ℕ) → i < length xs →
    s ≡ f (get_or xs i d) → IsDamaged s → HasDamage (map f xs)
damage_at f xs i d s p e h = record {
  before = take i (map f xs);
  string = f (get_or xs i d);
  behind = drop (suc i)
      (map f xs);
  is = item_at f xs i d p;
  of = subst IsDamaged e h;
}
