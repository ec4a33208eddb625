-- What strings tell. Which notes a step makes isn't looked into here.
use Rattle.std.proofs.Common.{◌≡◌, ℕ, zero, suc, ◌+◌, ◌<◌, length, get_or, List, [], ◌∷◌, ◌++◌, map, take, refl, sym, ap, ◌∙◌, subst}
use Rattle.std.proofs.lemmas.List.{take-map, map_more}
use Rattle.ldap_op.specs.Values.{OpValue}
use Rattle.vr_state.specs.Journaled as journaled
use Rattle.log_journal.specs.Notes.{Note, Step, Spells, SpellAll}
use Rattle.log_journal.specs.Told.{Told, told_by, Tells}
use Rattle.log_journal.specs.private.Told.{TakesString}
use Rattle.log_journal.specs.Batches.{BatchesAreTold, ToldGoesOn, notes_of_batch}

-- one string more
pub one_more : (ss : List (List ℕ)) (s : List ℕ) (x : Note) (t u : Told) → Tells t ss u → Spells x s →
    Tells t (ss ++ s ∷ []) (told_by u x)
one_more [] s x t u e h = (x, h, ap (λ (v : Told). told_by v x) e)
one_more (r ∷ rs) s x t u (y, z, rest) h = (y, z, one_more rs s x (told_by t y) u rest h)

-- strings in two parts
pub goes_on : ToldGoesOn
goes_on [] new t u v e h = subst (λ (w : Told). Tells w new v) (sym e) h
goes_on (s ∷ ss) new t u v (x, y, rest) h = (x, y, goes_on ss new (told_by t x) u v rest h)

-- what steps note is told as it is kept
told_steps : (xs : List (journaled.Note OpValue)) (ss : List (List ℕ)) (t : Told) → SpellAll (map (λ x. Step x) xs)
    ss → Tells t ss (record t { kept = journaled.after_notes t.kept xs })
told_steps [] [] t h = refl
told_steps [] (s ∷ ss) t h = absurd h
told_steps (x ∷ xs) [] t h = absurd h
told_steps (x ∷ xs) (s ∷ ss) t h = (Step x, h.0, told_steps xs ss (told_by t (Step x)) h.1)

-- the first strings spell the first notes
spell_first : (m : ℕ) (xs : List Note) (ss : List (List ℕ)) → SpellAll xs ss → SpellAll (take m xs) (take m ss)
spell_first zero xs ss h = tt
spell_first (suc m) [] [] h = tt
spell_first (suc m) [] (s ∷ ss) h = absurd h
spell_first (suc m) (x ∷ xs) [] h = absurd h
spell_first (suc m) (x ∷ xs) (s ∷ ss) h = (h.0, spell_first m xs ss h.1)

-- strings of notes in two parts
pub spell_both : (xs ys : List Note) (ss rs : List (List ℕ)) → SpellAll xs ss → SpellAll ys rs →
    SpellAll (xs ++ ys) (ss ++ rs)
spell_both [] ys [] rs h k = k
spell_both [] ys (s ∷ ss) rs h k = absurd h
spell_both (x ∷ xs) ys [] rs h k = absurd h
spell_both (x ∷ xs) ys (s ∷ ss) rs h k = (h.0, spell_both xs ys ss rs h.1 k)

-- The law on batches, from that of steps.
pub batches_told : journaled.BatchesAreJournaled OpValue → BatchesAreTold
batches_told law n i r xs alike t k none ss h = record {
  kept = journaled.after_notes t.kept (journaled.notes_of_all n i r xs);
  tells = told_steps (journaled.notes_of_all n i r xs) ss t h;
  all = (law n i r xs alike t.kept k none).0;
  none_waits = (law n i r xs alike t.kept k none).1;
  some = λ m. (
    journaled.after_notes t.kept (take m (journaled.notes_of_all n i r xs)),
    told_steps (take m (journaled.notes_of_all n i r xs)) (take m ss) t
        (subst (λ (l : List Note). SpellAll l (take m ss))
        (take-map (λ x. Step x) m (journaled.notes_of_all n i r xs)) (spell_first m (notes_of_batch n i r xs) ss
        h)),
    (law n i r xs alike t.kept k none).2 m,
  );
}

-- a loop's next string
pub more_tells : {X : Type 0} (f : X → List ℕ) (xs : List X) (i : ℕ) (d : X) (s : List ℕ) (t u v : Told) →
    i < length xs → s ≡ f (get_or xs i d) → Tells t (map f (take i xs)) u → TakesString s u v →
    Tells t (map f (take (i + 1) xs)) v
more_tells f xs i d s t u v lt is h k =
    subst (λ (l : List (List ℕ)). Tells t l v) (ap (λ (x : List ℕ). map f (take i xs) ++ x ∷ []) is
    ∙ sym (map_more f xs i d lt))
    (subst (λ (w : Told). Tells t (map f (take i xs) ++ s ∷ []) w) k.told (one_more (map f (take i xs)) s k.note t u h
    k.spells))
