-- Batches that are taken are told.
use Rattle.std.proofs.Common.{◌≡◌, inl, inr, ℕ, List, [], ◌∷◌, ◌++◌, map, take, Option, Some, None, IfSome, MatchOption, Result, Ok, Err, refl, sym, ap, ◌∙◌, subst, append_assoc}
use Rattle.std.proofs.lemmas.List.{append-nil, map-append}
use Rattle.std.specs.declared.alloc.AllocError.{AllocError}
use Rattle.ldap_op.specs.Values.{OpValue}
use Rattle.vr_state.specs.State.{State}
use Rattle.vr_state.specs.Step.{step}
use Rattle.vr_state.specs.Outcome.{Outcome}
use Rattle.vr_state.specs.Journaled as journaled
use Rattle.vr_state.specs.declared.event.Event.{Event}
use Rattle.vr_state.specs.declared.message.Outputs.{Outputs}
use Rattle.log_journal.specs.Notes.{Note, Step, SpellAll}
use Rattle.log_journal.specs.Batches.{BatchesAreTold, notes_of_batch}
use Rattle.log_journal.specs.Taken.{TakesOne, TakesAll, AreSome, IsTold, TakenIsTold}
use Rattle.log_journal.proofs.ToldOn.{spell_both}

-- The events that were taken, and what they noted.
record IsNoted (n i : ℕ) (r : State OpValue) (es : List (Event OpValue)) (s : State OpValue)
    (old new : List (List ℕ)) : Type 0 where
  xs : List (Event OpValue × ℕ)
  some : AreSome xs es
  alike : journaled.StayAlike n i r xs
  after : journaled.after_events n i r xs ≡ s
  strings : List (List ℕ)
  is : new ≡ old ++ strings
  spelled : SpellAll (notes_of_batch n i r xs) strings

some_of_more : (xs : List (Event OpValue × ℕ)) (e : Event OpValue) (es : List (Event OpValue)) → AreSome xs es →
    AreSome xs (e ∷ es)
some_of_more [] e es h = tt
some_of_more (x ∷ xs) e es h = inr h

-- one event and those behind it
noted_on : (n i : ℕ) (r t s : State OpValue) (e : Event OpValue) (es : List (Event OpValue)) (out : Outputs OpValue)
    (old mid new : List (List ℕ)) →
    TakesOne n i r e out t old mid → IsNoted n i t es s mid new → IsNoted n i r (e ∷ es) s old new
noted_on n i r t s e es out old mid new one more = record {
  xs = (e, one.base) ∷ more.xs;
  some = inl (refl, more.some);
  alike = (
    one.alike ∙ ap (λ (x : State OpValue). take one.base x.log) made,
    subst (λ (x : State OpValue).
        journaled.StayAlike n i x more.xs) made more.alike,
  );
  after = ap (λ (x : State OpValue). journaled.after_events n i x more.xs) (sym made) ∙ more.after;
  strings = one.puts.strings ++ more.strings;
  is = more.is ∙ ap (λ (l : List (List ℕ)). l ++ more.strings) one.puts.is ∙ append_assoc old one.puts.strings
      more.strings;
  spelled = subst (λ (l : List Note). SpellAll l (one.puts.strings ++ more.strings)) (sym parts)
      (spell_both (map (λ x. Step x) mine) (notes_of_batch n i t more.xs) one.puts.strings more.strings
      one.puts.spelled more.spelled);
}
  where
    made : t ≡ (step n i r e).state
    made = ap (λ (o : Outcome OpValue). o.state) one.step

    mine : List (journaled.Note OpValue)
    mine = journaled.notes_of r t e one.base

    parts : notes_of_batch n i r ((e, one.base) ∷ more.xs) ≡ map (λ x. Step x) (journaled.notes_of r t e one.base) ++
        notes_of_batch n i t more.xs
    parts = ap (λ (x : State OpValue). map (λ y. Step y) (journaled.notes_of r x e one.base ++ journaled.notes_of_all
        n i x more.xs)) (sym made) ∙ map-append (λ x. Step x) (journaled.notes_of r t e one.base)
        (journaled.notes_of_all n i t more.xs)

noted : (n i : ℕ) (r s : State OpValue) (es : List (Event OpValue)) (xs : List (Result (Outputs OpValue) AllocError))
    (old new : List (List ℕ)) → TakesAll n i r es xs s old new → IsNoted n i r es s old new
noted n i r s [] [] old new h = record {
  xs = [];
  some = tt;
  alike = tt;
  after = sym h.0;
  strings = [];
  is = h.1
      ∙ sym (append-nil old);
  spelled = tt;
}
noted n i r s [] (x ∷ xs) old new h = absurd h
noted n i r s (e ∷ es) [] old new h = absurd h
noted n i r s (e ∷ es) (Ok out ∷ xs) old new (t, mid, one, more) = noted_on n i r t s e es out old mid new one
    (noted n i t s es xs mid new more)
noted n i r s (e ∷ es) (Err x ∷ xs) old new (t, mid, none, more) =
    left_out (subst (λ (l : List (List ℕ)). IsNoted n i r es s l new) none.1
    (subst (λ (x : State OpValue). IsNoted n i x es s mid new) none.0 (noted n i t s es xs mid new more)))
  where
    left_out : IsNoted n i r es s old new → IsNoted n i r (e ∷ es) s old new
    left_out m = record {
      xs = m.xs;
      some = some_of_more m.xs e es m.some;
      alike = m.alike;
      after = m.after;
      strings =
          m.strings;
      is = m.is;
      spelled = m.spelled;
    }

-- The law.
pub taken_told : BatchesAreTold → TakenIsTold
taken_told law n i r s es xs old new h t k none = go (noted n i r s es xs old new h)
  where
    go : IsNoted n i r es s old new → IsTold n i r es s t old new
    go m = let b = law n i r m.xs m.alike t k none m.strings m.spelled in record {
      strings = m.strings;
      is = m.is;
      kept = b.kept;
      tells = b.tells;
      all = subst (λ (x : State OpValue). journaled.IsKeptOf b.kept x) m.after b.all;
      none_waits = b.none_waits;
      some = λ j. ((b.some j).0, (b.some j).1, record { taken = m.xs; some = m.some; kept = (b.some j).2 });
    }

-- what is alike of a copy of the log is alike of the log
pub alike_of : {E : Type 0} (o : Option (List E)) (r s : List E) (b : ℕ) → IfSome o (λ l. l ≡ r) →
    MatchOption o (b ≡ 0) (λ l. take b l ≡ take b s) → take b r ≡ take b s
alike_of (Some l) r s b h k = ap (take b) (sym h) ∙ k
alike_of {E} None r s b h k = ap (λ (j : ℕ). take j r) k ∙ ap (λ (j : ℕ). take j s) (sym k)
