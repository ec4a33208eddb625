-- What a start notes is told.
use Rattle.std.proofs.Common.{◌≡◌, ◌+◌, ◌≤◌, ℕ, min, Bool, true, false, cond, not, nat_lt, ◌==◌, List, [], ◌∷◌, ◌++◌, inl, inr, Result, Ok, Err, IfOk, refl, sym, ap, ◌∙◌, subst, arith}
use Rattle.std.proofs.lemmas.Bool.{and_parts}
use Rattle.log_journal.specs.Kept.{IsMemory}
use Rattle.log_journal.specs.Notes.{Note, Start, SpellAll, Puts}
use Rattle.log_journal.specs.Told.{Told, Tells, nothing_told, told_by, nothing_kept}
use Rattle.log_journal.specs.Views.{told_view}
use Rattle.log_journal.specs.journal.Journal.{IsGrown}
use Rattle.log_journal.proofs.ToldOn.{goes_on}
use Rattle.view_store.specs.declared.slot.Pair.{Pair}
use Rattle.vr_state.specs.State.{first, is_recovering}
use Rattle.vr_state.specs.declared.words.Status.TheVariants.{Normal, ViewChange}
use Rattle.dir_node.specs.Logged.{IsBegun, head_of}
use Rattle.dir_node.specs.Restarting.{IsOf, IsRestart, begins, first_notes, may_resume, recovered, resumed}
use Rattle.dir_node.specs.private.Ways.{IsWay, IsWayOf, start_by}
use Rattle.dir_node.specs.declared.error.NodeError.{NodeError}
use Rattle.dir_node.specs.declared.owner.Owner.{Owner}
use Rattle.dir_node.specs.declared.way.Way.{Way}
use Rattle.dir_node.specs.declared.way.Way.TheVariants.{Begin, BeginAgain, Resume}

-- what is told after these notes
abbrev after_all : Told → List Note → Told
after_all t [] = t
after_all t (x ∷ xs) = after_all (told_by t x) xs

tells_all : (xs : List Note) (ss : List (List ℕ)) (t : Told) → SpellAll xs ss → Tells t ss (after_all t xs)
tells_all [] [] t h = refl
tells_all [] (s ∷ ss) t h = absurd h
tells_all (x ∷ xs) [] t h = absurd h
tells_all (x ∷ xs) (s ∷ ss) t h = (x, h.0, tells_all xs ss (told_by t x) h.1)

-- strings that tell something, and then those of these notes
noted : (old : List (List ℕ)) (xs : List Note) (ss : List (List ℕ)) (t u : Told) → Tells nothing_told old t →
    SpellAll xs ss → after_all t xs ≡ u → Tells nothing_told (old ++ ss) u
noted old xs ss t u tells h is = goes_on old ss nothing_told t u tells (subst (λ (v : Told). Tells t ss v) is
    (tells_all xs ss t h))

-- a replica that goes on isn't recovering
goes_on_whole : (b : Bool) → true ≡ not (is_recovering (cond b Normal ViewChange))
goes_on_whole true = refl
goes_on_whole false = refl

least : (k : ℕ) → k ≤ min k k
least k = omega arith

-- A journal that is begun, or begun again, by a replica that recovers.
recovering_told : (is_new : Bool) (o : Owner) (pair : Pair) (old ss : List (List ℕ)) (t : Told) →
    Tells nothing_told old t → SpellAll (recovered is_new o pair).notes ss
    → after_all t (begins is_new o) ≡ record t { cluster = o.cluster; index = o.index; count = o.count }
    → IsMemory (head_of o.cluster o.index o.count (pair.restarts + 2)) (recovered is_new o pair).outcome.state
    (old ++ ss)
recovering_told is_new o pair old ss t tells h is = record {
  kept = nothing_kept false pair.view;
  tells = noted old (recovered is_new o pair).notes ss t _ tells h
      (after_both (begins is_new o) (Start (pair.restarts + 2) pair.view false) t
      ∙ ap (λ (v : Told). told_by v (Start (pair.restarts + 2) pair.view false)) is);
  of = record { view = refl; last = refl; log = refl; low = omega arith; whole = refl };
  none_waits = refl;
}
  where
    after_both : (xs : List Note) (x : Note) (v : Told) → after_all v (xs ++ x ∷ []) ≡ told_by (after_all v xs) x
    after_both [] x v = refl
    after_both (y ∷ ys) x v = after_both ys x (told_by v y)

-- What a start over a journal notes, tells the replica.
pub way_told : (o : Owner) (pair : Pair) (old ss : List (List ℕ)) (way : Way) → IsWay o pair old way →
    SpellAll (start_by o pair way).notes ss
    → IsMemory (head_of o.cluster o.index o.count (start_by o pair way).pair.restarts)
    (start_by o pair way).outcome.state (old ++ ss)
way_told o pair old ss Begin empty h = recovering_told true o pair old ss nothing_told
    (subst (λ (l : List (List ℕ)). Tells nothing_told l nothing_told) (sym empty) refl) h refl
way_told o pair old ss BeginAgain (t, tells, (of, lost)) h = recovering_told false o pair old ss t tells h
    (λ i. record {
      cluster = of.cluster i;
      index = of.index i;
      count = of.count i;
      restarts = t.restarts;
      kept =
          t.kept;
    })
way_told o pair old ss (Resume told) (t, tells, (same, of, whole, together)) h = record {
  kept = record v.kept { staged = [] };
  tells = noted old (resumed o pair v).notes ss v _ (subst (λ (u : Told). Tells nothing_told old u) (sym same) tells) h
      (λ i. record {
        cluster = (mine.cluster) i;
        index = (mine.index) i;
        count = (mine.count) i;
        restarts =
            pair.restarts + 1;
        kept = record v.kept { staged = [] };
      });
  of = record {
    view = refl;
    last = refl;
    log = refl;
    low = least v.kept.k;
    whole = (and_parts v.kept.whole (nat_lt 0 v.restarts) (ap may_resume same ∙ whole)).0
        ∙ goes_on_whole (v.kept.last == v.kept.view);
  };
  none_waits = refl;
}
  where
    v : Told
    v = told_view told

    mine : IsOf o v
    mine = subst (λ (u : Told). IsOf o u) (sym same) of

-- A first start's notes tell its replica.
pub first_told : (o : Owner) (old ss : List (List ℕ)) → old ≡ [] → SpellAll (first_notes o) ss →
    IsMemory (head_of o.cluster o.index o.count 1) (first o.count) (old ++ ss)
first_told o old ss empty h = record {
  kept = nothing_kept true 0;
  tells = noted old (first_notes o) ss nothing_told _
      (subst (λ (l : List (List ℕ)). Tells nothing_told l nothing_told) (sym empty) refl) h refl;
  of = record { view = refl; last = refl; log = refl; low = omega arith; whole = refl };
  none_waits = refl;
}

-- a way's start is one of the three
pub way_is : (o : Owner) (pair : Pair) (strings : List (List ℕ)) (way : Way) → IsWay o pair strings way →
    IsRestart o pair strings (start_by o pair way)
way_is o pair strings Begin empty = inl (record { empty = empty; is = refl })
way_is o pair strings BeginAgain (t, tells, (of, lost)) =
    inr (inl (record { told = t; tells = tells; of = of; lost = lost; is = refl }))
way_is o pair strings (Resume told) (t, tells, (same, of, whole, together)) =
    inr (inr (record {
      told = t;
      tells = tells;
      of = of;
      whole = whole;
      together = together;
      is = ap (resumed o pair)
          same;
    }))

-- strings put into an empty batch
pub put_first : (xs : List Note) (batch : List (List ℕ)) → Puts xs [] batch → SpellAll xs batch
put_first xs batch p = subst (λ (l : List (List ℕ)). SpellAll xs l) (sym p.is) p.spelled

-- an image that has grown by a first part of a start's strings
pub begun : (old : List (List ℕ)) (xs : List Note) (batch : List (List ℕ)) (image : List ℕ) → SpellAll xs batch →
    IsGrown old batch image → IsBegun old xs image
begun old xs batch image h g = (batch, h, g)

-- a way over what strings tell is one over the strings
pub way_told_by : (o : Owner) (pair : Pair) (strings : List (List ℕ)) (t : Told) (r : Result Way NodeError) →
    Tells nothing_told strings t → IfOk r (λ way. IsWayOf o pair t way) → IfOk r (λ way. IsWay o pair strings way)
way_told_by o pair strings t (Ok Begin) tells is = absurd is
way_told_by o pair strings t (Ok BeginAgain) tells is = (t, tells, is)
way_told_by o pair strings t (Ok (Resume told)) tells is = (t, tells, is)
way_told_by o pair strings t (Err e) tells is = tt
