-- Frames: the parts of a message, taken in their order, give the message.
use Rattle.std.proofs.Common.{◌≡◌, ◌≢◌, ℕ, zero, suc, ◌+◌, ◌^◌, ◌<◌, ◌≤◌, ◌⊎◌, inl, inr, ◌==◌, Bool, true, false, cond, nat_lt, List, [], ◌∷◌}
use Rattle.std.proofs.Common.{◌++◌, length, Option, Some, None, Result, Ok, Err, refl, sym, ap, subst, ◌∙◌, append_assoc, append-nil, arith, eq-eqb, eqb-true}
use Rattle.std.proofs.lemmas.Bool.{ltb-true, lt-ltb}
use Rattle.std.specs.Bool.{MatchBool}
use Rattle.std.specs.List.{concat, AllByRecursion}
use Rattle.ldap_op.specs.Values.{OpValue}
use Rattle.view_store.specs.Cluster.{IsCluster}
use Rattle.vr_state.specs.declared.message.PeerMessage.{PeerMessage}
use Rattle.vr_wire.specs.declared.error.WireError.{WireError}
use Rattle.vr_wire.specs.declared.error.WireError.TheVariants as error
use Rattle.vr_wire.specs.declared.labels.Portion.{Portion}
use Rattle.vr_wire.specs.declared.gathering.Came.{Came}
use Rattle.vr_wire.specs.declared.gathering.Came.TheVariants as came
use Rattle.vr_wire.specs.Heap.{Heap}
use Rattle.vr_wire.specs.Frames.{limit}
use Rattle.vr_wire.specs.Parts.{part_octets, parts_from, IsPart, IsSaying}
use Rattle.vr_wire.specs.Gathering.{is_next, begun, with_part, gathered, IsRead, ComesOfPart, Takes, TakesAll}
use Rattle.vr_wire.specs.PartLaws.{message_at_last, PartsGiveMessage}
use Rattle.vr_wire.proofs.OneFrame.{OneUpdate}
use Rattle.vr_wire.proofs.PartFrames.{one_part}
use Rattle.vr_wire.proofs.Runs.{IsNext, next_again, one_saying, by_test}

abbrev portion : ℕ → ℕ → ℕ → ℕ → List ℕ → Portion (List ℕ)
portion sender message count place piece =
    record { label = record { sender = sender; number = message; count = count }; place = place; piece = piece }

abbrev heap : ℕ → ℕ → ℕ → ℕ → List ℕ → Heap
heap sender message count next octets =
    record { label = record { sender = sender; number = message; count = count }; next = next; octets = octets }

-- nothing is to be known of what was gathered before the first part; before another, the parts before it are gathered
abbrev Ready : ℕ → ℕ → ℕ → ℕ → List ℕ → Option Heap → Type 0
Ready sender message count place octets old = ((place ≡ 0) × (octets ≡ []))
    ⊎ (old ≡ Some (heap sender message count place octets))

test_true : {A : Type 0} (b : Bool) (x y : A) → b ≡ true → cond b x y ≡ x
test_true b x y e = rw e refl

gathered_first : (old : Option Heap) (p : Portion (List ℕ)) → p.place ≡ 0 → gathered old p ≡ Some (begun p)
gathered_first None p e = test_true (p.place == 0) (Some (begun p)) None (eq-eqb p.place 0 e)
gathered_first (Some g) p e = test_true (p.place == 0) (Some (begun p)) (cond (is_next g p) (Some (with_part g p))
    None) (eq-eqb p.place 0 e)

-- part 0 begins anew even where it would be the next
begun_so : (sender message count place : ℕ) (piece : List ℕ) → place ≡ 0 →
    begun (portion sender message count place piece) ≡ heap sender message count (place + 1) ([] ++ piece)
begun_so sender message count place piece e =
    let one : 1 ≡ place + 1 = omega (arith, e) in
    ap (λ (n : ℕ). heap sender message count n piece) one

zero_or_not : (n : ℕ) → (n ≡ 0) ⊎ (0 < n)
zero_or_not zero = inl refl
zero_or_not (suc n) = inr (omega arith)

next_of : (g : Heap) (p : Portion (List ℕ)) → 0 < p.place → IsNext g p → gathered (Some g) p ≡ Some (with_part g p)
next_of g p lt is =
    by_test (λ (o : Option Heap). o ≡ Some (with_part g p)) (p.place == 0) (Some (begun p))
    (cond (is_next g p) (Some (with_part g p)) None)
    (λ e. let none : p.place ≡ 0 = eqb-true p.place 0 e in absurd (omega (arith, none, lt)))
    (λ e. test_true (is_next g p) (Some (with_part g p)) None (next_again g p is))

ready_gathers : (sender message count place : ℕ) (octets piece : List ℕ) (old : Option Heap) →
    (place ≡ 0 → octets ≡ []) → Ready sender message count place octets old
    → gathered old (portion sender message count place piece) ≡ Some (heap sender message count (place + 1)
    (octets ++ piece))
ready_gathers sender message count place octets piece old empty (inl h) =
    gathered_first old (portion sender message count place piece) h.0
    ∙ ap (λ (g : Heap). Some g) (begun_so sender message count place piece h.0)
    ∙ ap (λ (l : List ℕ). Some (heap sender message count (place + 1) (l ++ piece))) (sym h.1)
ready_gathers sender message count place octets piece old empty (inr h) =
    elim (zero_or_not place) [
      | inl e ↦
          (gathered_first old (portion sender message count place piece) e
          ∙ ap (λ (g : Heap). Some g) (begun_so sender message count place piece e)
          ∙ ap (λ (l : List ℕ). Some (heap sender message count (place + 1) (l ++ piece))) (sym (empty e)))
      | inr lt ↦
          (ap (λ (o : Option Heap). gathered o (portion sender message count place piece)) h
          ∙ next_of (heap sender message count place octets) (portion sender message count place piece) lt
          (record { sender = refl; number = refl; count = refl; place = refl }))
    ]

-- what comes of the part that is expected, where memory suffices
comes_so : (cluster : ℕ) (old : Option Heap) (p : Portion (List ℕ)) (f : List ℕ) (r : Result Came WireError)
    (new : Option Heap) → IsPart cluster p f → r ≢ Err error.NoMemory → Takes cluster old f r new →
    ComesOfPart (gathered old p) p.label.sender r new
comes_so cluster old p f r new is enough (inl t) =
    let same : p ≡ t.portion = (one_part f cluster cluster p t.portion is t.part).1 in
    subst (λ (q : Portion (List ℕ)). ComesOfPart (gathered old q) q.label.sender r new) (sym same) t.comes
comes_so cluster old p f r new is enough (inr (inl t)) = absurd (t.part cluster p is)
comes_so cluster old p f r new is enough (inr (inr (inl t))) =
    absurd (t.differs (sym (one_part f cluster t.other p t.portion is t.part).0))
comes_so cluster old p f r new is enough (inr (inr (inr t))) = absurd (enough t.refused)

kept_so : (g : Heap) (sender : ℕ) (r : Result Came WireError) (new : Option Heap) → g.next < g.label.count →
    ComesOfPart (Some g) sender r new → (r ≡ Ok (came.Part sender)) × (new ≡ Some g)
kept_so g sender r new lt c =
    subst (λ (b : Bool). MatchBool b ((r ≡ Ok (came.Part sender)) × (new ≡ Some g)) (IsRead sender g.octets r
    × (new ≡ None))) (lt-ltb g.next g.label.count lt) c

not_below : (a b : ℕ) → a ≡ b → nat_lt a b ≡ false
not_below a b e =
    elim (nat_lt a b) as (λ t. t ≡ nat_lt a b → t ≡ false) [
      | true ↦ (λ h. let lt : a < b = ltb-true a b (sym h) in absurd (omega (arith, lt, e)))
      | false ↦ (λ h. refl)
    ] refl

read_so : (g : Heap) (sender : ℕ) (r : Result Came WireError) (new : Option Heap) → g.next ≡ g.label.count →
    ComesOfPart (Some g) sender r new → IsRead sender g.octets r × (new ≡ None)
read_so g sender r new e c =
    subst (λ (b : Bool). MatchBool b ((r ≡ Ok (came.Part sender)) × (new ≡ Some g)) (IsRead sender g.octets r
    × (new ≡ None))) (not_below g.next g.label.count e) c

said_so : OneUpdate → (sender : ℕ) (octets : List ℕ) (m : PeerMessage OpValue) (r : Result Came WireError) →
    IsSaying m octets → r ≢ Err error.NoMemory → IsRead sender octets r → r ≡ Ok (came.Message sender m)
said_so one sender octets m (Ok (came.Message speaker n)) says enough h =
    let same : n ≡ m = one_saying one octets n m h.1 says in
    ap (λ (s : ℕ). Ok (came.Message s n)) h.0 ∙ ap (λ (x : PeerMessage OpValue). Ok (came.Message sender x)) same
said_so one sender octets m (Ok (came.Part speaker)) says enough h = absurd h
said_so one sender octets m (Ok (came.Dropped speaker)) says enough h = absurd h
said_so one sender octets m (Err error.BadFrame) says enough h = absurd (h m says)
said_so one sender octets m (Err error.ForeignFrame) says enough h = absurd h
said_so one sender octets m (Err error.NoMemory) says enough h = absurd (enough refl)

first_result : (sender : ℕ) (m : PeerMessage OpValue) (f g : List ℕ) (fs : List (List ℕ)) (r : Result Came WireError)
    (rs : List (Result Came WireError)) → r ≡ Ok (came.Part sender) → rs ≡ message_at_last sender m (g ∷ fs) →
    r ∷ rs ≡ message_at_last sender m (f ∷ g ∷ fs)
first_result sender m f g fs r rs first others =
    ap (λ (x : Result Came WireError). x ∷ rs) first
    ∙ ap (λ (l : List (Result Came WireError)). Ok (came.Part sender) ∷ l) others

-- what is known of the message whose parts are taken
record IsSent (cluster sender message count : ℕ) (m : PeerMessage OpValue) (octets : List ℕ) : Type 0 where
  cluster_is : IsCluster cluster
  number_is : message < 2 ^ 64
  count_is : count < 2 ^ 32
  says : IsSaying m octets

is_part : (cluster sender message count place : ℕ) (m : PeerMessage OpValue) (octets piece : List ℕ) →
    IsSent cluster sender message count m octets → place < count → 1 ≤ length piece →
    length (part_octets cluster sender message place count piece) ≤ limit
    → IsPart cluster (portion sender message count place piece) (part_octets cluster sender message place count piece)
is_part cluster sender message count place m octets piece sent lt there small =
    record {
      spelled = refl;
      cluster_is = sent.cluster_is;
      number_is = sent.number_is;
      count_is = sent.count_is;
      place_is = lt;
      there = there;
      small = small;
    }

goes : OneUpdate → (cluster sender message count : ℕ) (m : PeerMessage OpValue) (octets : List ℕ) →
    IsSent cluster sender message count m octets
    → (ps : List (List ℕ)) (p : List ℕ) (place : ℕ) (so_far : List ℕ) (old new : Option Heap)
    (rs : List (Result Came WireError))
    → (place ≡ 0 → so_far ≡ []) → Ready sender message count place so_far old → count ≡ place + length (p ∷ ps) →
    so_far ++ concat (p ∷ ps) ≡ octets
    → AllByRecursion (λ (q : List ℕ). 1 ≤ length q) (p ∷ ps) → AllByRecursion (λ (f : List ℕ). length f ≤ limit)
    (parts_from cluster sender message count place (p ∷ ps))
    → TakesAll cluster old (parts_from cluster sender message count place (p ∷ ps)) rs new →
    AllByRecursion (λ (r : Result Came WireError). r ≢ Err error.NoMemory) rs
    → (rs ≡ message_at_last sender m (parts_from cluster sender message count place (p ∷ ps))) × (new ≡ None)
goes one cluster sender message count m octets sent ps p place so_far old new [] empty ready counts joined there small
    run enough = absurd run
goes one cluster sender message count m octets sent [] p place so_far old new (r ∷ s ∷ rs) empty ready counts joined
    there small run enough = absurd run.2
goes one cluster sender message count m octets sent [] p place so_far old new (r ∷ []) empty ready counts joined there
    small run enough =
    let f = part_octets cluster sender message place count p in
    let lt : place < count = omega (arith, counts) in
    let is = is_part cluster sender message count place m octets p sent lt there.0 small.0 in
    let comes = comes_so cluster old (portion sender message count place p) f r run.0 is enough.0 run.1 in
    let g = heap sender message count (place + 1) (so_far ++ p) in
    let at : ComesOfPart (Some g) sender r run.0 = subst (λ (o : Option Heap). ComesOfPart o sender r run.0)
    (ready_gathers sender message count place so_far p old empty ready) comes in
    let read = read_so g sender r run.0 (omega (arith, counts)) at in
    let whole : octets ≡ so_far ++ p = sym joined ∙ ap (λ (l : List ℕ). so_far ++ l) (append-nil p) in
    let says : IsSaying m (so_far ++ p) = subst (IsSaying m) whole sent.says in
    let said : r ≡ Ok (came.Message sender m) = said_so one sender (so_far ++ p) m r says enough.0 read.0 in
    (ap (λ (x : Result Came WireError). x ∷ []) said, run.2 ∙ read.1)
goes one cluster sender message count m octets sent (q ∷ ps) p place so_far old new (r ∷ rs) empty ready counts joined
    there small run enough =
    let f = part_octets cluster sender message place count p in
    let lt : place < count = omega (arith, counts) in
    let is = is_part cluster sender message count place m octets p sent lt there.0 small.0 in
    let comes = comes_so cluster old (portion sender message count place p) f r run.0 is enough.0 run.1 in
    let g = heap sender message count (place + 1) (so_far ++ p) in
    let at : ComesOfPart (Some g) sender r run.0 = subst (λ (o : Option Heap). ComesOfPart o sender r run.0)
    (ready_gathers sender message count place so_far p old empty ready) comes in
    let kept = kept_so g sender r run.0 (omega (arith, counts)) at in
    let next : place + 1 ≡ suc place = omega arith in
    let mid : run.0 ≡ Some (heap sender message count (suc place) (so_far ++ p)) = kept.1
    ∙ ap (λ (n : ℕ). Some (heap sender message count n (so_far ++ p))) next in
    let later = goes one cluster sender message count m octets sent ps q (suc place) (so_far ++ p) run.0 new rs
    (λ e. absurd (omega (arith, e))) (inr mid) (omega (arith, counts))
    (append_assoc so_far p (concat (q ∷ ps)) ∙ joined) there.1 small.1 run.2 enough.1 in (
      first_result sender m f (part_octets cluster sender message (suc place) count q) (parts_from cluster sender
          message count (suc (suc place)) ps) r rs kept.0 later.0,
      later.1,
    )

-- a message has a kind, so that there is a piece of it
some_piece : (m : PeerMessage OpValue) (octets : List ℕ) → IsSaying m octets → concat [] ≡ octets → ⊥
some_piece m octets says joined = let e = joined ∙ says.spelled in absurd cc

sent_parts : OneUpdate → (cluster sender number : ℕ) (m : PeerMessage OpValue) (octets : List ℕ)
    (pieces : List (List ℕ)) (old new : Option Heap) (results : List (Result Came WireError))
    → IsCluster cluster → number < 2 ^ 64 → IsSaying m octets → concat pieces ≡ octets → length pieces < 2 ^ 32 →
    AllByRecursion (λ (q : List ℕ). 1 ≤ length q) pieces
    → AllByRecursion (λ (f : List ℕ). length f ≤ limit) (parts_from cluster sender number (length pieces) 0 pieces)
    → TakesAll cluster old (parts_from cluster sender number (length pieces) 0 pieces) results new →
    AllByRecursion (λ (r : Result Came WireError). r ≢ Err error.NoMemory) results
    → (results ≡ message_at_last sender m (parts_from cluster sender number (length pieces) 0 pieces)) × (new ≡ None)
sent_parts one cluster sender number m octets [] old new results c n says joined few there small run enough =
    absurd (some_piece m octets says joined)
sent_parts one cluster sender number m octets (p ∷ ps) old new results c n says joined few there small run enough =
    let sent : IsSent cluster sender number (length (p ∷ ps)) m octets = record {
      cluster_is = c;
      number_is =
          n;
      count_is = few;
      says = says;
    } in
    goes one cluster sender number (length (p ∷ ps)) m octets sent ps p 0 [] old new results (λ e. refl)
    (inl (refl, refl)) (omega arith) joined there small run enough

pub parts_give : OneUpdate → PartsGiveMessage
parts_give one cluster sender number m octets frames old new results c n says are run enough =
    let made = parts_from cluster sender number (length are.pieces) 0 are.pieces in
    let done = sent_parts one cluster sender number m octets are.pieces old new results c n says are.joined are.few
    are.there
    (subst (AllByRecursion (λ (f : List ℕ). length f ≤ limit)) are.spelled are.small)
    (subst (λ (fs : List (List ℕ)). TakesAll cluster old fs results new) are.spelled run) enough in
    (subst (λ (fs : List (List ℕ)). results ≡ message_at_last sender m fs) (sym are.spelled) done.0, done.1)
