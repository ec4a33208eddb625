-- Frames: what the first octets of a frame say, behind its length.
use Rattle.std.proofs.Common.{◌≡◌, ℕ, ◌==◌, ◌&&◌, true, nat_lt, List, [], ◌∷◌, ◌++◌, length, take, drop, slice_index}
use Rattle.std.proofs.Common.{Option, Some, None, refl, sym, ap, subst, ◌∙◌, arith, inl, inr, eqb-true}
use Rattle.std.specs.Int.{w64, from_be_bytes}
use Rattle.std.proofs.lemmas.Bool.{lt-ltb}
use Rattle.std.proofs.lemmas.List.{length-take, length-drop}
use Rattle.view_store.specs.Cluster.{IsCluster, cluster_octets}
use Rattle.vr_state.specs.declared.message.PeerMessage.{PeerMessage}
use Rattle.vr_state.specs.declared.message.PeerMessage.TheVariants.{Prepare, PrepareOk, Commit, StartViewChange, DoViewChange, StartView, GetState}
use Rattle.vr_state.specs.declared.message.PeerMessage.TheVariants.{NewState, Recovery, RecoveryResponse}
use Rattle.vr_wire.specs.Frames.{kind_of}
use Rattle.vr_wire.specs.Heading.{is_kind, Begins, IsAnyFrame}
use Rattle.vr_wire.specs.private.Heading.{Tells, heading_of, heading_by}
use Rattle.vr_wire.proofs.Fields.{IsBytes, IsBytes-drop, IsBytes-take, guard_some, some_is, read_cluster, written_six}
use Rattle.vr_wire.proofs.Messages.{both_hold, not_some}

-- the octets behind the length of a frame, up to the sender
abbrev pub first_octets : ℕ → ℕ → ℕ → List ℕ
first_octets cluster kind sender = 2 ∷ (cluster_octets cluster ++ kind ∷ sender ∷ [])

known_kind : (m : PeerMessage (List ℕ)) → is_kind (kind_of m) ≡ true
known_kind (Prepare v e p k) = refl
known_kind (PrepareOk v p) = refl
known_kind (Commit v k) = refl
known_kind (StartViewChange v) = refl
known_kind (DoViewChange v c) = refl
known_kind (StartView v held) = refl
known_kind (Recovery x) = refl
known_kind (RecoveryResponse x a) = refl
known_kind (GetState v k) = refl
known_kind (NewState v x tail) = refl

-- how a frame of a cluster begins
record IsBeginning (cluster : ℕ) (first : List ℕ) : Type 0 where
  kind : ℕ
  sender : ℕ
  octets : first ≡ first_octets cluster kind sender
  kind_is : is_kind kind ≡ true
  cluster_is : IsCluster cluster

any_begins : (cluster : ℕ) (first octets : List ℕ) → Begins first octets → IsAnyFrame cluster octets →
    IsBeginning cluster first
any_begins cluster first octets begins (inl f) =
    record {
      kind = kind_of f.2.raw;
      sender = f.0;
      octets = sym begins ∙ ap (λ (l : List ℕ). take 9 (drop 4 l)) f.2.spelled;
      kind_is = known_kind f.2.raw;
      cluster_is = f.2.cluster_is;
    }
any_begins cluster first octets begins (inr p) =
    record {
      kind = 13;
      sender = p.0.label.sender;
      octets = sym begins ∙ ap (λ (l : List ℕ). take 9 (drop 4 l)) p.1.spelled;
      kind_is = refl;
      cluster_is = p.1.cluster_is;
    }

heading_again : (cluster kind sender : ℕ) → IsCluster cluster → is_kind kind ≡ true →
    heading_of (first_octets cluster kind sender) ≡ Some (cluster, (kind, sender))
heading_again cluster kind sender h k =
    let least : nat_lt 0 cluster ≡ true = lt-ltb 0 cluster (omega (arith, h.0)) in
    ap (λ (n : ℕ). heading_by n (first_octets cluster kind sender)) (read_cluster cluster h.1)
    ∙ rw (least, k) refl

-- where the octets tell nothing, no frame begins so
pub tells_nothing : (first : List ℕ) → heading_of first ≡ None → (other : ℕ) (octets : List ℕ) → Begins first octets →
    IsAnyFrame other octets → ⊥
tells_nothing first none other octets begins any =
    let b = any_begins other first octets begins any in
    not_some (other, (b.kind, b.sender)) (heading_of first) none (ap heading_of b.octets ∙ heading_again other b.kind
    b.sender b.cluster_is b.kind_is)

-- where they tell another cluster, no frame of this one begins so
pub tells_another : (first : List ℕ) (said : ℕ × (ℕ × ℕ)) (cluster : ℕ) → heading_of first ≡ Some said →
    (said.0 ≡ cluster → ⊥) → (octets : List ℕ) → Begins first octets → IsAnyFrame cluster octets → ⊥
tells_another first said cluster tells differs octets begins any =
    let b = any_begins cluster first octets begins any in
    let same = some_is said (cluster, (b.kind, b.sender)) (sym tells ∙ ap heading_of b.octets
    ∙ heading_again cluster b.kind b.sender b.cluster_is b.kind_is) in
    differs (ap (λ (p : ℕ × (ℕ × ℕ)). p.0) same)

nine : (o : List ℕ) → length o ≡ 9 → o ≡ slice_index o 0 ∷ (take 6 (drop 1 o) ++ slice_index o 7 ∷ slice_index o 8 ∷ [])
nine (a ∷ b ∷ c ∷ d ∷ e ∷ f ∷ g ∷ h ∷ i ∷ []) len = refl
nine [] len = absurd (omega (arith, len))
nine (a ∷ []) len = absurd (omega (arith, len))
nine (a ∷ b ∷ []) len = absurd (omega (arith, len))
nine (a ∷ b ∷ c ∷ []) len = absurd (omega (arith, len))
nine (a ∷ b ∷ c ∷ d ∷ []) len = absurd (omega (arith, len))
nine (a ∷ b ∷ c ∷ d ∷ e ∷ []) len = absurd (omega (arith, len))
nine (a ∷ b ∷ c ∷ d ∷ e ∷ f ∷ []) len = absurd (omega (arith, len))
nine (a ∷ b ∷ c ∷ d ∷ e ∷ f ∷ g ∷ []) len = absurd (omega (arith, len))
nine (a ∷ b ∷ c ∷ d ∷ e ∷ f ∷ g ∷ h ∷ []) len = absurd (omega (arith, len))
nine (a ∷ b ∷ c ∷ d ∷ e ∷ f ∷ g ∷ h ∷ i ∷ j ∷ l) len = absurd (omega (arith, len))

six_there : (o : List ℕ) → length o ≡ 9 → length (take 6 (drop 1 o)) ≡ 6
six_there o len = omega (arith, length-take 6 (drop 1 o), length-drop 1 o, len)

-- the octets are those of what they tell
tells : (first : List ℕ) (said : ℕ × (ℕ × ℕ)) → length first ≡ 9 → IsBytes first → heading_of first ≡ Some said →
    (first ≡ first_octets said.0 said.1.0 said.1.1) × (is_kind said.1.0 ≡ true)
tells first said len fits e =
    let six = take 6 (drop 1 first) in
    let n = from_be_bytes w64 (0 ∷ 0 ∷ six) in
    let k = slice_index first 7 in
    let s = slice_index first 8 in
    let g = guard_some (slice_index first 0 == 2 && nat_lt 0 n && is_kind k) (n, (k, s)) said e in
    let h = both_hold (slice_index first 0 == 2 && nat_lt 0 n) (is_kind k) g.0 in
    let v = both_hold (slice_index first 0 == 2) (nat_lt 0 n) h.0 in
    let version : slice_index first 0 ≡ 2 = eqb-true (slice_index first 0) 2 v.0 in
    let spelled : cluster_octets n ≡ six = written_six six (six_there first len) (IsBytes-take 6 (drop 1 first)
    (IsBytes-drop 1 first fits)) in
    let whole : first ≡ first_octets n k s =
    nine first len ∙ ap (λ (x : ℕ). x ∷ (six ++ k ∷ s ∷ [])) version ∙ ap (λ (l : List ℕ). 2 ∷ (l ++ k ∷ s ∷ []))
    (sym spelled) in
    subst (λ (p : ℕ × (ℕ × ℕ)). (first ≡ first_octets p.0 p.1.0 p.1.1) × (is_kind p.1.0 ≡ true)) g.1 (whole, h.1)

pub told : (first : List ℕ) (said : Option (ℕ × (ℕ × ℕ))) → length first ≡ 9 → IsBytes first →
    said ≡ heading_of first → Tells said first
told first None len fits e = tt
told first (Some said) len fits e = tells first said len fits (sym e)
