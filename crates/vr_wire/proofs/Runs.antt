-- Frames: the parts of a message give it, and nothing else does.
use Rattle.std.proofs.Common.{◌≡◌, ℕ, suc, ◌+◌, ◌^◌, ◌<◌, ◌≤◌, ◌⊎◌, inl, inr, ◌==◌, ◌&&◌, Bool, true, false, cond, nat_lt, List, [], ◌∷◌}
use Rattle.std.proofs.Common.{◌++◌, length, Option, Some, None, Result, Ok, Err, refl, sym, ap, subst, ◌∙◌, append_assoc, append-nil, arith, eq-eqb, eqb-true, true≢false}
use Rattle.std.proofs.lemmas.Bool.{lt-ltb, cases_lt}
use Rattle.std.proofs.lemmas.List.{length-append}
use Rattle.std.specs.Bool.{MatchBool}
use Rattle.std.specs.List.{concat, AllByRecursion}
use Rattle.ldap_op.specs.Values.{OpValue}
use Rattle.vr_state.specs.declared.message.PeerMessage.{PeerMessage}
use Rattle.vr_wire.specs.declared.error.WireError.{WireError}
use Rattle.vr_wire.specs.declared.labels.Portion.{Portion}
use Rattle.vr_wire.specs.declared.gathering.Came.{Came}
use Rattle.vr_wire.specs.declared.gathering.Came.TheVariants as came
use Rattle.vr_wire.specs.Heap.{Heap}
use Rattle.vr_wire.specs.Frames.{limit}
use Rattle.vr_wire.specs.Payloads.{written, IsMessageOf}
use Rattle.vr_wire.specs.Parts.{part_octets, parts_from, ArePartsOf, IsPart, IsSaying}
use Rattle.vr_wire.specs.Gathering.{is_next, begun, with_part, gathered, IsRead, ComesOfPart, Takes, TakesAll}
use Rattle.vr_wire.specs.PartLaws.{WrittenIsSaying, EndsWithParts, OnlyPartsGiveMessage}
use Rattle.vr_wire.proofs.OneFrame.{OneUpdate, UpdatesAreWritten, one_message, message_written}
use Rattle.vr_wire.proofs.PartFrames.{saying_again}
use Rattle.vr_wire.proofs.Fields.{some_is}
use Rattle.vr_wire.proofs.Messages.{both_hold, all_hold}

pub is_saying : UpdatesAreWritten → WrittenIsSaying
is_saying is m h u = record { raw = written m; spelled = refl; range = h; payloads = message_written is m h u }

-- octets say one message at most
pub one_saying : OneUpdate → (octets : List ℕ) (m n : PeerMessage OpValue) → IsSaying m octets → IsSaying n octets →
    m ≡ n
one_saying one octets m n s t =
    let same : s.raw ≡ t.raw = some_is s.raw t.raw (sym (saying_again octets m s) ∙ saying_again octets n t) in
    one_message one t.raw m n (subst (λ (raw : PeerMessage (List ℕ)). IsMessageOf m raw) same s.payloads) t.payloads

pub by_test : {A : Type 0} (Q : A → Type 0) (b : Bool) (x y : A) → (b ≡ true → Q x) → (b ≡ false → Q y) → Q (cond b x y)
by_test Q true x y here there = here refl
by_test Q false x y here there = there refl

-- what comes of a frame is a message
abbrev is_message : Result Came WireError → Bool
is_message (Ok (came.Message sender m)) = true
is_message (Ok (came.Part sender)) = false
is_message (Ok (came.Dropped sender)) = false
is_message (Err e) = false

abbrev given : Came → Result Came WireError
given x = Ok x

-- ---- nothing else does

-- parts that are put one after the other
parts_more : (cluster sender message count place : ℕ) (ps : List (List ℕ)) (p : List ℕ) (at : ℕ) →
    at ≡ place + length ps
    → parts_from cluster sender message count place (ps ++ p ∷ []) ≡ parts_from cluster sender message count place
    ps ++ part_octets cluster sender message at count p ∷ []
parts_more cluster sender message count place [] p at is =
    let same : place ≡ at = omega (arith, is) in
    ap (λ (n : ℕ). part_octets cluster sender message n count p ∷ []) same
parts_more cluster sender message count place (q ∷ ps) p at is =
    ap (λ (l : List (List ℕ)). part_octets cluster sender message place count q ∷ l)
    (parts_more cluster sender message count (suc place) ps p at (omega (arith, is)))

all_more : {A : Type 0} (P : A → Type 0) (xs : List A) (x : A) → AllByRecursion P xs → P x →
    AllByRecursion P (xs ++ x ∷ [])
all_more P [] x h one = (one, tt)
all_more P (y ∷ xs) x h one = (h.0, all_more P xs x h.1 one)

concat_more : (ps : List (List ℕ)) (p : List ℕ) → concat (ps ++ p ∷ []) ≡ concat ps ++ p
concat_more [] p = append-nil p
concat_more (q ∷ ps) p = ap (λ (l : List ℕ). q ++ l) (concat_more ps p) ∙ sym (append_assoc q (concat ps) p)

-- what was taken ends with the first parts of the message that is gathered
record IsBegun (cluster : ℕ) (done : List (List ℕ)) (g : Heap) : Type 0 where
  before : List (List ℕ)
  pieces : List (List ℕ)
  done_is : done ≡ before ++ parts_from cluster g.label.sender g.label.number g.label.count 0 pieces
  joined : concat pieces ≡ g.octets
  next_is : length pieces ≡ g.next
  next_le : g.next ≤ g.label.count
  few : g.label.count < 2 ^ 32
  there : AllByRecursion (λ (p : List ℕ). 1 ≤ length p) pieces
  small : AllByRecursion (λ (f : List ℕ). length f ≤ limit) (parts_from cluster g.label.sender g.label.number
      g.label.count 0 pieces)

abbrev Holds : ℕ → List (List ℕ) → Option Heap → Type 0
Holds cluster done None = Unit {0}
Holds cluster done (Some g) = IsBegun cluster done g

begins : (cluster : ℕ) (done : List (List ℕ)) (p : Portion (List ℕ)) (f : List ℕ) → IsPart cluster p f → p.place ≡ 0 →
    IsBegun cluster (done ++ f ∷ []) (begun p)
begins cluster done p f is zero_is =
    let spelled : f ≡ part_octets cluster p.label.sender p.label.number 0 p.label.count p.piece = is.spelled
    ∙ ap (λ (n : ℕ). part_octets cluster p.label.sender p.label.number n p.label.count p.piece) zero_is in
    record {
      before = done;
      pieces = p.piece ∷ [];
      done_is = ap (λ (x : List ℕ). done ++ x ∷ []) spelled;
      joined = append-nil p.piece;
      next_is = refl;
      next_le = omega (arith, is.place_is);
      few = is.count_is;
      there = (is.there, tt);
      small = (subst (λ (x : List ℕ). length x ≤ limit) spelled is.small, tt);
    }

-- the part has the label and the place that are gathered for
pub record IsNext (g : Heap) (p : Portion (List ℕ)) : Type 0 where
  pub sender : g.label.sender ≡ p.label.sender
  pub number : g.label.number ≡ p.label.number
  pub count : g.label.count ≡ p.label.count
  pub place : g.next ≡ p.place

next_so : (g : Heap) (p : Portion (List ℕ)) → is_next g p ≡ true → IsNext g p
next_so g p e =
    let a = both_hold (g.label.sender == p.label.sender && g.label.number == p.label.number && g.label.count ==
    p.label.count) (g.next == p.place) e in
    let b = both_hold (g.label.sender == p.label.sender && g.label.number == p.label.number)
    (g.label.count == p.label.count) a.0 in
    let c = both_hold (g.label.sender == p.label.sender) (g.label.number == p.label.number) b.0 in
    record {
      sender = eqb-true g.label.sender p.label.sender c.0;
      number = eqb-true g.label.number p.label.number c.1;
      count = eqb-true g.label.count p.label.count b.1;
      place = eqb-true g.next p.place a.1;
    }

pub next_again : (g : Heap) (p : Portion (List ℕ)) → IsNext g p → is_next g p ≡ true
next_again g p h =
    all_hold (g.label.sender == p.label.sender && g.label.number == p.label.number && g.label.count == p.label.count)
    (g.next == p.place)
    (all_hold (g.label.sender == p.label.sender && g.label.number == p.label.number) (g.label.count == p.label.count)
    (all_hold (g.label.sender == p.label.sender) (g.label.number == p.label.number)
    (eq-eqb g.label.sender p.label.sender h.sender) (eq-eqb g.label.number p.label.number h.number))
    (eq-eqb g.label.count p.label.count h.count))
    (eq-eqb g.next p.place h.place)

part_is : (cluster : ℕ) (g : Heap) (p : Portion (List ℕ)) (f : List ℕ) → IsPart cluster p f → IsNext g p →
    f ≡ part_octets cluster g.label.sender g.label.number g.next g.label.count p.piece
part_is cluster g p f is h =
    is.spelled
    ∙ ap (λ (n : ℕ). part_octets cluster n p.label.number p.place p.label.count p.piece) (sym h.sender)
    ∙ ap (λ (n : ℕ). part_octets cluster g.label.sender n p.place p.label.count p.piece) (sym h.number)
    ∙ ap (λ (n : ℕ). part_octets cluster g.label.sender g.label.number n p.label.count p.piece) (sym h.place)
    ∙ ap (λ (n : ℕ). part_octets cluster g.label.sender g.label.number g.next n p.piece) (sym h.count)

goes_on : (cluster : ℕ) (done : List (List ℕ)) (g : Heap) (p : Portion (List ℕ)) (f : List ℕ) → IsPart cluster p f →
    IsNext g p → IsBegun cluster done g → IsBegun cluster (done ++ f ∷ []) (with_part g p)
goes_on cluster done g p f is h b =
    let spelled = part_is cluster g p f is h in
    let made = parts_from cluster g.label.sender g.label.number g.label.count 0 in
    let part = part_octets cluster g.label.sender g.label.number g.next g.label.count p.piece in
    let more : made (b.pieces ++ p.piece ∷ []) ≡ made b.pieces ++ part ∷ [] = parts_more cluster g.label.sender
    g.label.number g.label.count 0 b.pieces p.piece g.next (omega (arith, b.next_is)) in
    let fits : length part ≤ limit = subst (λ (x : List ℕ). length x ≤ limit) spelled is.small in
    record {
      before = b.before;
      pieces = b.pieces ++ p.piece ∷ [];
      done_is = ap (λ (l : List (List ℕ)). l ++ f ∷ []) b.done_is ∙ append_assoc b.before (made b.pieces) (f ∷ [])
          ∙ ap (λ (x : List ℕ). b.before ++ (made b.pieces ++ x ∷ [])) spelled
          ∙ ap (λ (l : List (List ℕ)). b.before ++ l) (sym more);
      joined = concat_more b.pieces p.piece ∙ ap (λ (l : List ℕ). l ++ p.piece) b.joined;
      next_is = omega (arith, length-append b.pieces (p.piece ∷ []), b.next_is);
      next_le = omega (arith, is.place_is, h.place, h.count);
      few = b.few;
      there = all_more (λ (x : List ℕ). 1 ≤ length x) b.pieces p.piece b.there is.there;
      small = subst (AllByRecursion (λ (x : List ℕ). length x ≤ limit)) (sym more)
          (all_more (λ (x : List ℕ). length x ≤ limit) (made b.pieces) part b.small fits);
    }

part_holds : (cluster : ℕ) (done : List (List ℕ)) (old : Option Heap) (p : Portion (List ℕ)) (f : List ℕ) →
    IsPart cluster p f → Holds cluster done old → Holds cluster (done ++ f ∷ []) (gathered old p)
part_holds cluster done None p f is h =
    by_test (Holds cluster (done ++ f ∷ [])) (p.place == 0) (Some (begun p)) None (λ e. begins cluster done p f is
    (eqb-true p.place 0 e)) (λ e. tt)
part_holds cluster done (Some g) p f is h =
    by_test (Holds cluster (done ++ f ∷ [])) (p.place == 0) (Some (begun p))
    (cond (is_next g p) (Some (with_part g p)) None) (λ e. begins cluster done p f is (eqb-true p.place 0 e))
    (λ e. by_test (Holds cluster (done ++ f ∷ [])) (is_next g p) (Some (with_part g p)) None
    (λ n. goes_on cluster done g p f is (next_so g p n) h) (λ n. tt))

none_holds : (cluster : ℕ) (done : List (List ℕ)) (new : Option Heap) → new ≡ None → Holds cluster done new
none_holds cluster done new e = subst (Holds cluster done) (sym e) tt

kept_or_none : (o : Option Heap) (sender : ℕ) (r : Result Came WireError) (new : Option Heap) →
    ComesOfPart o sender r new → (new ≡ o) ⊎ (new ≡ None)
kept_or_none None sender r new h = inr h.1
kept_or_none (Some g) sender r new h =
    elim (nat_lt g.next g.label.count) as (λ b. MatchBool b ((r ≡ Ok (came.Part sender)) × (new ≡ Some g))
    (IsRead sender g.octets r × (new ≡ None)) → (new ≡ Some g) ⊎ (new ≡ None)) [
      | true ↦ (λ k. inl k.1)
      | false ↦ (λ k. inr k.1)
    ] h

step_holds : (cluster : ℕ) (done : List (List ℕ)) (old : Option Heap) (f : List ℕ) (r : Result Came WireError)
    (new : Option Heap) → Holds cluster done old → Takes cluster old f r new → Holds cluster (done ++ f ∷ []) new
step_holds cluster done old f r new h (inl t) =
    elim (kept_or_none (gathered old t.portion) t.portion.label.sender r new t.comes) [
      | inl e ↦ subst (Holds cluster (done ++ f ∷ [])) (sym e) (part_holds cluster done old t.portion f t.part h)
      | inr e ↦ none_holds cluster (done ++ f ∷ []) new e
    ]
step_holds cluster done old f r new h (inr (inl t)) = none_holds cluster (done ++ f ∷ []) new t.dropped
step_holds cluster done old f r new h (inr (inr (inl t))) = none_holds cluster (done ++ f ∷ []) new t.dropped
step_holds cluster done old f r new h (inr (inr (inr t))) = none_holds cluster (done ++ f ∷ []) new t.dropped

all_hold_so : (cluster : ℕ) (done : List (List ℕ)) (old : Option Heap) (fs : List (List ℕ))
    (rs : List (Result Came WireError)) (new : Option Heap) → Holds cluster done old → TakesAll cluster old fs rs
    new → Holds cluster (done ++ fs) new
all_hold_so cluster done old [] [] new h run = subst (λ (d : List (List ℕ)). Holds cluster d new)
    (sym (append-nil done)) (subst (Holds cluster done) (sym run) h)
all_hold_so cluster done old [] (r ∷ rs) new h run = absurd run
all_hold_so cluster done old (f ∷ fs) [] new h run = absurd run
all_hold_so cluster done old (f ∷ fs) (r ∷ rs) new h run =
    subst (λ (d : List (List ℕ)). Holds cluster d new) (append_assoc done (f ∷ []) fs)
    (all_hold_so cluster (done ++ f ∷ []) run.0 fs rs new (step_holds cluster done old f r run.0 h run.1) run.2)

-- whose message is gathered is whose part it is
sender_is : (old : Option Heap) (p : Portion (List ℕ)) (g : Heap) → gathered old p ≡ Some g → g.label.sender ≡
    p.label.sender
sender_is None p g =
    by_test (λ (o : Option Heap). o ≡ Some g → g.label.sender ≡ p.label.sender) (p.place == 0) (Some (begun p)) None
    (λ e s. ap (λ (x : Heap). x.label.sender) (sym (some_is (begun p) g s))) (λ e s. absurd cc)
sender_is (Some h) p g =
    by_test (λ (o : Option Heap). o ≡ Some g → g.label.sender ≡ p.label.sender) (p.place == 0) (Some (begun p))
    (cond (is_next h p) (Some (with_part h p)) None)
    (λ e s. ap (λ (x : Heap). x.label.sender) (sym (some_is (begun p) g s)))
    (λ e. by_test (λ (o : Option Heap). o ≡ Some g → g.label.sender ≡ p.label.sender) (is_next h p)
    (Some (with_part h p)) None
    (λ n s. ap (λ (x : Heap). x.label.sender) (sym (some_is (with_part h p) g s)) ∙ (next_so h p n).sender)
    (λ n s. absurd cc))

last_part : (n count : ℕ) → nat_lt n count ≡ false → n ≤ count → n ≡ count
last_part n count e le =
    elim (cases_lt n count) [
      | inl lt ↦ (let t = lt-ltb n count lt in absurd cc)
      | inr ge ↦ omega (arith, ge, le)
    ]

finished : (cluster sender : ℕ) (m : PeerMessage OpValue) (frames : List (List ℕ)) (g : Heap) (speaker : ℕ) →
    g.label.sender ≡ speaker → IsBegun cluster frames g → nat_lt g.next g.label.count ≡ false → sender ≡ speaker →
    IsSaying m g.octets → EndsWithParts cluster sender m frames
finished cluster sender m frames g speaker from b e who says =
    let same : g.label.sender ≡ sender = from ∙ sym who in
    let count : g.label.count ≡ length b.pieces = sym (b.next_is ∙ last_part g.next g.label.count e b.next_le) in
    let parts = parts_from cluster g.label.sender g.label.number g.label.count 0 b.pieces in
    let are : ArePartsOf cluster g.label.sender g.label.number g.octets parts = record {
      pieces = b.pieces;
      joined = b.joined;
      spelled = ap (λ (n : ℕ). parts_from cluster g.label.sender g.label.number n 0 b.pieces) count;
      few = subst (λ (n : ℕ). n < 2 ^ 32) count b.few;
      there = b.there;
      small = b.small;
    } in
    record {
      number = g.label.number;
      octets = g.octets;
      saying = says;
      before = b.before;
      parts = parts;
      are = subst (λ (n : ℕ). ArePartsOf cluster n g.label.number g.octets parts) same are;
      ends = b.done_is;
    }

ended : (cluster sender : ℕ) (m : PeerMessage OpValue) (frames : List (List ℕ)) (o : Option Heap) (speaker : ℕ)
    (new : Option Heap)
    → ((g : Heap) → o ≡ Some g → g.label.sender ≡ speaker) → Holds cluster frames o →
    ComesOfPart o speaker (Ok (came.Message sender m)) new → EndsWithParts cluster sender m frames
ended cluster sender m frames None speaker new from h c = absurd (true≢false (ap is_message c.0))
ended cluster sender m frames (Some g) speaker new from h c =
    elim (nat_lt g.next g.label.count) as (λ b. b ≡ nat_lt g.next g.label.count →
    MatchBool b ((given (came.Message sender m) ≡ given (came.Part speaker)) × (new ≡ Some g))
    (IsRead speaker g.octets (given (came.Message sender m)) × (new ≡ None)) → EndsWithParts cluster sender m
    frames) [
      | true ↦ (λ e k. absurd (true≢false (ap is_message k.0)))
      | false ↦ (λ e k. finished cluster sender m frames g speaker (from g refl) h (sym e) k.0.0 k.0.1)
    ] refl c

pub only_parts : OnlyPartsGiveMessage
only_parts cluster sender m frames results p last mid new run is (inl t) =
    let before = all_hold_so cluster [] None frames results mid tt run in
    ended cluster sender m (frames ++ last ∷ []) (gathered mid t.portion) t.portion.label.sender new
    (λ g e. sender_is mid t.portion g e)
    (part_holds cluster frames mid t.portion last t.part before) t.comes
only_parts cluster sender m frames results p last mid new run is (inr (inl t)) = absurd (t.part cluster p is)
only_parts cluster sender m frames results p last mid new run is (inr (inr (inl t))) =
    absurd (true≢false (ap is_message t.refused))
only_parts cluster sender m frames results p last mid new run is (inr (inr (inr t))) =
    absurd (true≢false (ap is_message t.refused))
