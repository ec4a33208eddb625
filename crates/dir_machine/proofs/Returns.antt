-- What a journal tells of a replica that is down still is what the world keeps after a start that was refused.
use Rattle.std.proofs.Common.{◌≡◌, ℕ, zero, suc, ◌+◌, ◌&&◌, nat_lt, Bool, true, false, inl, inr, List, [], ◌∷◌, ◌++◌, take, refl, arith, lt-ltb, sym, ap, ◌∙◌, subst, true≢false}
use Rattle.dir_node.specs.Logged.{IsBegun}
use Rattle.dir_node.specs.Restarting.{IsRestart, Restart, may_resume}
use Rattle.dir_node.specs.declared.owner.Owner.{Owner}
use Rattle.dir_node.specs.log_journal.Batches.{OneIsTold}
use Rattle.dir_node.specs.log_journal.Notes.{Note, SpellAll, Spells, Start}
use Rattle.dir_node.specs.log_journal.Told.{Told, Tells, nothing_told, told_by}
use Rattle.journal.specs.Frames.{recorded}
use Rattle.state_machine.specs.dir_store.ldap_op.Values.{OpValue}
use Rattle.view_store.specs.declared.slot.Pair.{Pair}
use Rattle.vr_world.specs.World.{World}
use Rattle.dir_machine.specs.private.Running.{HasKept, IsKeptTold, IsLogOf}

-- What strings tell that two parts make: what the first tells, and then the others.
record IsSplit (t v : Told) (xs ys : List (List ℕ)) : Type 0 where
  pub mid : Told
  pub first : Tells t xs mid
  pub then : Tells mid ys v

split : (t v : Told) (xs ys : List (List ℕ)) → Tells t (xs ++ ys) v → IsSplit t v xs ys
split t v [] ys h = record { mid = t; first = refl; then = h }
split t v (x ∷ xs) ys h = let s = split (told_by t h.0) v xs ys h.2 in record {
  mid = s.mid;
  first =
      (h.0, h.1, s.first);
  then = s.then;
}

module _ (one : OneIsTold) (w : World OpValue) (i : ℕ) where
  -- What one string tells that spells this note.
  by_note : (t u : Told) (x : Note) (string : List ℕ) → Spells x string → Tells t (string ∷ []) u → u ≡ told_by t x
  by_note t u x string spelled tells = one (string ∷ []) t u (told_by t x) tells (x, spelled, refl)

  -- What a journal tells stays, as a start from it is noted.
  goes_on : (t u : Told) (restarts : ℕ) → may_resume t ≡ true → HasKept w i t →
      u ≡ told_by t (Start (restarts + 1) t.kept.view true) → IsKeptTold w i u
  goes_on t u restarts may k is = subst (λ (x : Told). IsKeptTold w i x) (sym is) (record {
    whole = both t.kept.whole ∙ whole t.kept.whole may;
    has = record { stored = k.stored; change = k.change; kept = k.kept; log = k.log; last = k.last; low = k.low };
  })
    where
      whole : (b : Bool) → (b && nat_lt 0 t.restarts) ≡ true → b ≡ true
      whole true h = refl
      whole false h = h

      both : (b : Bool) → (b && nat_lt 0 (restarts + 1)) ≡ b
      both true = lt-ltb 0 (restarts + 1) (omega arith)
      both false = refl

  -- A start that was refused may have noted some first of what it notes.
  pub notes_left : (o : Owner) (pair : Pair) (strings : List (List ℕ)) (start : Restart) (image : List ℕ) →
      IsRestart o pair strings start → IsLogOf w i strings → IsBegun strings start.notes image →
      IsLogOf w i (recorded image)
  notes_left o pair strings start image is log begun t tells = go is
    where
      parts : IsSplit nothing_told t strings (take begun.2.count begun.0)
      parts = split nothing_told t strings (take begun.2.count begun.0)
          (subst (λ (l : List (List ℕ)). Tells nothing_told l t) begun.2.is tells)

      go : IsRestart o pair strings start → IsKeptTold w i t
      go (inl b) = absurd (true≢false
          (sym (log nothing_told (subst (λ (l : List (List ℕ)). Tells nothing_told l nothing_told) (sym b.empty)
          refl)).whole))
      go (inr (inl b)) = absurd (true≢false (sym (log b.told b.tells).whole ∙ b.lost))
      go (inr (inr b)) = by begun.2.count begun.0 (subst (λ (s : Restart). SpellAll s.notes begun.0) b.is begun.1)
          parts.then
        where
          same : parts.mid ≡ b.told
          same = one strings nothing_told parts.mid b.told parts.first b.tells

          noted : t ≡ told_by parts.mid (Start (pair.restarts + 1) b.told.kept.view true) → IsKeptTold w i t
          noted is = goes_on b.told t pair.restarts b.whole (log b.told b.tells).has
              (is ∙ ap (λ (u : Told). told_by u (Start (pair.restarts + 1) b.told.kept.view true)) same)

          by : (c : ℕ) (ss : List (List ℕ)) → SpellAll (Start (pair.restarts + 1) b.told.kept.view true ∷ []) ss →
              Tells parts.mid (take c ss) t → IsKeptTold w i t
          by zero ss spelled h = log t (subst (λ (u : Told). Tells nothing_told strings u) h parts.first)
          by (suc zero) (a ∷ []) spelled h =
              noted (by_note parts.mid t (Start (pair.restarts + 1) b.told.kept.view true) a spelled.0 h)
          by (suc (suc c)) (a ∷ []) spelled h =
              noted (by_note parts.mid t (Start (pair.restarts + 1) b.told.kept.view true) a spelled.0 h)
          by (suc c) [] spelled h = absurd spelled
          by (suc c) (a ∷ d ∷ ss) spelled h = absurd spelled.1
