-- What is kept of replicas, place by place.
use Rattle.std.proofs.Common.{◌≡◌, ◌≢◌, ℕ, zero, suc, ◌+◌, ◌<◌, ◌≤◌, ◌==◌, Bool, true, false, ◌⊎◌, inl, inr, List, [], ◌∷◌, length, replicate, get_or, set, slice_get, Option, Some, None, refl, sym, ap, ◌∙◌, subst, arith, eqb-true, eq-eqb, true≢false}
use Rattle.std.proofs.lemmas.Bool.{cases_lt}
use Rattle.std.proofs.lemmas.List.{length-set}
use Rattle.std.proofs.lemmas.Option.{slice_get_past, slice_get-get_or}
use Rattle.vr_state.specs.State.{State}
use Rattle.vr_state.specs.Words.{LogEntry}
use Rattle.vr_world.specs.Cluster.{up_state, world}
use Rattle.vr_world.specs.World.{World}
use Rattle.vr_world.specs.declared.cluster.Cluster.{Cluster}
use Rattle.state_machine.specs.Executing.{ExecutedValue}
use Rattle.state_machine.specs.dir_store.ldap_schema.Schema.{SchemaModel}
use Rattle.state_machine.specs.dir_store.ldap_dn.Names.{RdnModel}
use Rattle.state_machine.specs.dir_store.ldap_op.Values.{OpValue}
use Rattle.dir_lab.specs.private.Executions.{records_of, records_in, records_by, caught_up, all_caught_up, IsOver, AreOver, IsAdvancedAt}

-- what is written is there,
get_here : {A : Type 0} (xs : List A) (i : ℕ) (x : A) → i < length xs → slice_get (set xs i x) i ≡ Some x
get_here [] i x lt = absurd (omega arith)
get_here (y ∷ ys) zero x lt = refl
get_here (y ∷ ys) (suc i) x lt = get_here ys i x (omega arith)

-- and nothing else changes
get_there : {A : Type 0} (xs : List A) (i j : ℕ) (x : A) → j ≢ i → slice_get (set xs i x) j ≡ slice_get xs j
get_there [] i j x ne = refl
get_there (y ∷ ys) zero zero x ne = absurd (ne refl)
get_there (y ∷ ys) zero (suc j) x ne = refl
get_there (y ∷ ys) (suc i) zero x ne = refl
get_there (y ∷ ys) (suc i) (suc j) x ne = get_there ys i j x (λ e. ne (ap suc e))

-- one or the other
same_or : (i j : ℕ) → (j ≡ i) ⊎ (j ≢ i)
same_or i j = go (j == i) refl
  where
    go : (b : Bool) → (j == i) ≡ b → (j ≡ i) ⊎ (j ≢ i)
    go true e = inl (eqb-true j i e)
    go false e = inr (λ q. true≢false (sym (eq-eqb j i q) ∙ e))

-- a place that is taken out and written again
module _ (old new : List (Option ExecutedValue)) (i : ℕ) (gone o : Option ExecutedValue)
    (is : new ≡ set (set old i gone) i o) (within : i < length old) where
  -- as many as before
  pub counted : length new ≡ length old
  counted = ap length is ∙ length-set (set old i gone) i o ∙ length-set old i gone

  -- what it has
  pub here : slice_get new i ≡ Some o
  here = ap (λ (l : List (Option ExecutedValue)). slice_get l i) is ∙ get_here (set old i gone) i o
      (omega (arith, within, length-set old i gone))

  -- what the others have
  pub there : (j : ℕ) → j ≢ i → slice_get new j ≡ slice_get old j
  there j ne = ap (λ (l : List (Option ExecutedValue)). slice_get l j) is ∙ get_there (set old i gone) i j o ne
      ∙ get_there old i j gone ne

  -- It has caught up, where it did.
  pub advanced : (w : World OpValue) (before : Option ExecutedValue) → slice_get old i ≡ Some before → records_of o ≡
      caught_up (records_of before) (w.replicas i) → IsAdvancedAt w old i new
  advanced w before was e = record {
    counted = counted;
    here = ap records_in here ∙ e ∙ ap (λ (x : Option (Option ExecutedValue)). caught_up (records_in x)
        (w.replicas i)) (sym was);
    there = λ j ne. ap records_in (there j ne);
  }

  -- All are over the schema and the root.
  pub still_over : (s : SchemaModel) (root : List RdnModel) → AreOver s root old → IsOver s root o → AreOver s root new
  still_over s root all one j x h = go (same_or i j)
    where
      go : (j ≡ i) ⊎ (j ≢ i) → IsOver s root x
      go (inl e) = let same : o ≡ x = cc (here, h, e) in subst (IsOver s root) same one
      go (inr ne) = all j x (sym (there j ne) ∙ h)

-- The places below one have caught up, and the others are as they were.
pub record UpTo (w : World OpValue) (old : List (Option ExecutedValue)) (k : ℕ) (new : List (Option ExecutedValue)) :
    Type 0 where
  pub counted : length new ≡ length old
  pub done : (j : ℕ) → j < k → records_by new j ≡ caught_up (records_by old j) (w.replicas j)
  pub left : (j : ℕ) → k ≤ j → records_by new j ≡ records_by old j

-- All of them: where there is no place there is no replica.
pub up_to_all : (cluster : Cluster OpValue) (old new : List (Option ExecutedValue)) (k : ℕ) → cluster.count ≤ k →
    length old ≡ cluster.count → length cluster.up.items ≡ cluster.count
    → UpTo (world cluster) old k new → records_by new ≡ all_caught_up (records_by old) (world cluster)
up_to_all cluster old new k end kept up u = λ t. λ j. each j (cases_lt j cluster.count) t
  where
    each : (j : ℕ) → (j < cluster.count) ⊎ (cluster.count ≤ j) → records_by new j ≡ all_caught_up (records_by old)
        (world cluster) j
    each j (inl lt) = u.done j (omega (arith, lt, end))
    each j (inr le) =
        ap records_in (slice_get_past new j (omega (arith, u.counted, kept, le)))
        ∙ sym (ap (λ (o : Option (State OpValue)). caught_up (records_by old j) o)
        (ap up_state (slice_get_past cluster.up.items j (omega (arith, up, le)))))

-- nothing is kept at first
pub none_by : (n : ℕ) (kept : List (Option ExecutedValue)) → kept ≡ replicate n None →
    ◌≡◌ {A = ℕ → List (LogEntry OpValue)} (records_by kept) (λ i. [])
none_by n kept e = λ t. λ i. (ap (λ (l : List (Option ExecutedValue)). records_by l i) e ∙ each n i) t
  where
    each : (n i : ℕ) → records_by (replicate n None) i ≡ []
    each zero i = refl
    each (suc n) zero = refl
    each (suc n) (suc i) = each n i

-- what is kept at a place
pub records_here : (kept : List (Option ExecutedValue)) (i : ℕ) (o : Option ExecutedValue) → o ≡ get_or kept i o →
    i < length kept → records_of o ≡ records_by kept i
records_here kept i o is within = ap records_of is ∙ sym (ap records_in (slice_get-get_or kept i o within))
