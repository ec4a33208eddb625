-- What comes of frames of many messages that a connection hears: a message once all its frames have come, in order.
use Rattle.std.proofs.Common.{◌≡◌, ◌≢◌, ℕ, zero, suc, ◌+◌, ◌==◌, ◌&&◌, ◌<◌, ◌≤◌, ◌^◌, nat_lt, Bool, true, false, cond, ◌⊎◌, inl, inr, List, [], ◌∷◌, ◌++◌, length, Option, Some, None, Result, Ok, Err, Vec, slice_get, refl, sym, ap, ◌∙◌, subst, arith, append_assoc, append-nil, length-append, eqb-true, lt-ltb, true≢false}
use Rattle.std.proofs.lemmas.Bool.{cases_lt}
use Rattle.std.proofs.lemmas.Option.{slice_get_within}
use Rattle.std.specs.Bool.{MatchBool}
use Rattle.std.specs.Global.{Global}
use Rattle.std.specs.List.{AllByRecursion}
use Rattle.state_machine.specs.dir_store.ldap_op.Values.{OpValue}
use Rattle.view_store.specs.Cluster.{IsCluster}
use Rattle.vr_state.specs.declared.event.Event.{Event}
use Rattle.vr_state.specs.declared.event.Event.TheVariants as event
use Rattle.vr_wire.proofs.PartFrames.{one_part}
use Rattle.vr_wire.specs.Frames.{limit}
use Rattle.vr_wire.specs.Gathering.{ComesOfPart, IsRead, Takes, TakesAll, begun, gathered, is_next, with_part}
use Rattle.vr_wire.specs.Heap.{Heap}
use Rattle.vr_wire.specs.PartLaws.{FramesGiveMessage}
use Rattle.vr_wire.specs.Parts.{ArePartsOf, IsPart, TellMessage, part_octets, parts_from}
use Rattle.vr_wire.specs.declared.error.WireError.{WireError}
use Rattle.vr_wire.specs.declared.error.WireError.TheVariants as error
use Rattle.vr_wire.specs.declared.gathering.Came.{Came}
use Rattle.vr_wire.specs.declared.gathering.Came.TheVariants as came
use Rattle.vr_wire.specs.declared.labels.Portion.{Portion}
use Rattle.vr_world.specs.declared.words.Message.{Message}
use Rattle.dir_machine.proofs.Gathered.{last_is}
use Rattle.dir_machine.specs.Happening.{EndsWithAll, IsOneUnwritten}
use Rattle.dir_machine.specs.Shown.{frame_in, message_at, message_framed, message_written, octets_in, octets_of, places_from, places_in}
use Rattle.dir_machine.specs.private.Givens.{IsHeard}
use Rattle.dir_machine.specs.private.Hearing.{AreAt, PlacesCome, event_of, last_event}
use Rattle.dir_machine.specs.private.Running.{AreFramed, IsFramed}
use Rattle.dir_machine.specs.declared.events.FramePlace.{FramePlace}
use Rattle.dir_machine.specs.declared.events.Place.{Place}
use Rattle.dir_machine.specs.declared.replies.MachineReply.{MachineReply}
use Rattle.dir_machine.specs.declared.replies.MachineReply.TheVariants as reply

-- Lists of frames.

-- what holds of all holds of each
all_at : {A : Type 0} (P : A → Type 0) (xs : List A) (k : ℕ) (x : A) → AllByRecursion P xs → slice_get xs k ≡ Some x →
    P x
all_at P [] k x h at = absurd (cc)
all_at P (y ∷ xs) zero x h at = let same : y ≡ x = cc at in subst P same h.0
all_at P (y ∷ xs) (suc k) x h at = all_at P xs k x h.1 at

-- the octets of a frame
octets_at : (vs : List (Vec ℕ Global)) (k : ℕ) (v : Vec ℕ Global) → slice_get vs k ≡ Some v →
    slice_get (octets_of vs) k ≡ Some v.items
octets_at [] k v at = absurd (cc)
octets_at (u ∷ vs) zero v at = ap octets_in at
octets_at (u ∷ vs) (suc k) v at = octets_at vs k v at

-- the frame behind some first ones
get_behind : (front rest : List (Vec ℕ Global)) (v : Vec ℕ Global) → slice_get (front ++ rest) (length front) ≡ Some v →
    (tail : List (Vec ℕ Global)) × (rest ≡ v ∷ tail)
get_behind [] [] v at = absurd (cc)
get_behind [] (u ∷ rest) v at = (rest, let same : u ≡ v = cc at in ap (λ (x : Vec ℕ Global). x ∷ rest) same)
get_behind (u ∷ front) rest v at = get_behind front rest v at

get_first : (vs : List (Vec ℕ Global)) (v : Vec ℕ Global) → slice_get vs 0 ≡ Some v → (tail : List (Vec ℕ Global))
    × (vs ≡ v ∷ tail)
get_first vs v at = get_behind [] vs v at

-- the places of one more
places_more : (e k j : ℕ) (vs : List (Vec ℕ Global)) (v : Vec ℕ Global) → j ≡ k + length vs →
    places_from e k (vs ++ v ∷ []) ≡ places_from e k vs ++ record { event = e; frame = j } ∷ []
places_more e k j [] v is =
    let same : k ≡ j = omega (arith, is) in
    ap (λ (n : ℕ). record { event = e; frame = n } ∷ []) same
places_more e k j (u ∷ vs) v is = ap (λ (l : List FramePlace). record { event = e; frame = k } ∷ l)
    (places_more e (suc k) j vs v (omega (arith, is)))

-- one frame alone
one_alone : (vs : List (Vec ℕ Global)) (f : List ℕ) (k : ℕ) (v : Vec ℕ Global) → octets_of vs ≡ f ∷ [] →
    slice_get vs k ≡ Some v → (vs ≡ v ∷ []) × (k ≡ 0)
one_alone [] f k v is at = absurd (cc)
one_alone (u ∷ []) f zero v is at = (let same : u ≡ v = cc at in ap (λ (x : Vec ℕ Global). x ∷ []) same, refl)
one_alone (u ∷ []) f (suc k) v is at = absurd (cc)
one_alone (u ∷ w ∷ vs) f k v is at = absurd (cc is)

-- A frame among the parts of a message.
record IsPieceAt (cluster sender number count place : ℕ) (pieces : List (List ℕ)) (k : ℕ) (frame : List ℕ) :
    Type 0 where
  piece : List ℕ
  at : slice_get pieces k ≡ Some piece
  is : frame ≡ part_octets cluster sender number place count piece

piece_at : (cluster sender number count from place : ℕ) (pieces : List (List ℕ)) (vs : List (Vec ℕ Global)) (k : ℕ)
    (v : Vec ℕ Global) → place ≡ from + k → octets_of vs ≡ parts_from cluster sender number count from pieces →
    slice_get vs k ≡ Some v → IsPieceAt cluster sender number count place pieces k v.items
piece_at cluster sender number count from place pieces [] k v is are at = absurd (cc)
piece_at cluster sender number count from place [] (u ∷ vs) k v is are at = absurd (cc are)
piece_at cluster sender number count from place (p ∷ pieces) (u ∷ vs) zero v is are at =
    let same : u ≡ v = cc at in
    let head : u.items ≡ part_octets cluster sender number from count p = cc are in
    let here : from ≡ place = omega (arith, is) in
    record {
      piece = p;
      at = refl;
      is = ap (λ (x : Vec ℕ Global). x.items) (sym same) ∙ head
          ∙ ap (λ (n : ℕ). part_octets cluster sender number n count p) here;
    }
piece_at cluster sender number count from place (p ∷ pieces) (u ∷ vs) (suc k) v is are at =
    let tail : octets_of vs ≡ parts_from cluster sender number count (suc from) pieces = cc are in
    let then = piece_at cluster sender number count (suc from) place pieces vs k v (omega (arith, is)) tail at in
    record { piece = then.piece; at = then.at; is = then.is }

-- as many frames as pieces
as_many : (cluster sender number count from : ℕ) (pieces : List (List ℕ)) (vs : List (Vec ℕ Global)) →
    octets_of vs ≡ parts_from cluster sender number count from pieces → length pieces ≡ length vs
as_many cluster sender number count from [] [] are = refl
as_many cluster sender number count from [] (v ∷ vs) are = absurd (cc are)
as_many cluster sender number count from (p ∷ pieces) [] are = absurd (cc are)
as_many cluster sender number count from (p ∷ pieces) (v ∷ vs) are =
    let tail : octets_of vs ≡ parts_from cluster sender number count (suc from) pieces = cc are in
    ap suc (as_many cluster sender number count (suc from) pieces vs tail)

by_test : {A : Type 0} (Q : A → Type 0) (b : Bool) (x y : A) → (b ≡ true → Q x) → (b ≡ false → Q y) → Q (cond b x y)
by_test Q true x y here there = here refl
by_test Q false x y here there = there refl

both_true : (a b : Bool) → (a && b) ≡ true → (a ≡ true) × (b ≡ true)
both_true true true e = (refl, refl)
both_true true false e = absurd (true≢false (sym e))
both_true false b e = absurd (true≢false (sym e))

-- The next part has the number and the place that are gathered for.
next_so : (h : Heap) (q : Portion (List ℕ)) → is_next h q ≡ true → (h.label.number ≡ q.label.number)
    × (h.next ≡ q.place)
next_so h q e =
    let a = both_true (h.label.sender == q.label.sender && h.label.number == q.label.number && h.label.count ==
    q.label.count) (h.next == q.place) e in
    let b = both_true (h.label.sender == q.label.sender && h.label.number == q.label.number)
    (h.label.count == q.label.count) a.0 in
    let d = both_true (h.label.sender == q.label.sender) (h.label.number == q.label.number) b.0 in
    (eqb-true h.label.number q.label.number d.1, eqb-true h.next q.place a.1)

-- What a connection hears.

module _ (before : List MachineReply) (i : ℕ) where
  -- a reply shows this frame for replica i
  record IsFrameAt (e k : ℕ) (frame : List ℕ) : Type 0 where
    place : Place
    to : ℕ
    frames : Vec (Vec ℕ Global) Global
    there : slice_get before e ≡ Some (reply.Written place to frames)
    receiver : to ≡ i
    v : Vec ℕ Global
    at : slice_get frames.items k ≡ Some v
    is : v.items ≡ frame

  frame_so : (e k : ℕ) (frame : List ℕ) → frame_in i (slice_get before e) k ≡ Some frame → IsFrameAt e k frame
  frame_so e k frame = go (slice_get before e) refl
    where
      go : (o : Option MachineReply) → slice_get before e ≡ o → frame_in i o k ≡ Some frame → IsFrameAt e k frame
      go None q h = absurd (cc)
      go (Some (reply.Written place to frames)) q h = by (to == i) refl h
        where
          one : to ≡ i → (o : Option (Vec ℕ Global)) → slice_get frames.items k ≡ o → octets_in o ≡ Some frame →
              IsFrameAt e k frame
          one own None r g = absurd (cc)
          one own (Some v) r g = record {
            place = place;
            to = to;
            frames = frames;
            there = q;
            receiver = own;
            v = v;
            at = r;
            is = cc g;
          }

          by : (b : Bool) → (to == i) ≡ b → cond b (octets_in (slice_get frames.items k)) None ≡ Some frame →
              IsFrameAt e k frame
          by true is g = one (eqb-true to i is) (slice_get frames.items k) refl g
          by false is g = absurd (cc)
      go (Some _) q h = absurd (cc)

  -- the first parts of a message came last
  record IsBegun (places : List FramePlace) (h : Heap) : Type 0 where
    place : Place
    to : ℕ
    frames : Vec (Vec ℕ Global) Global
    there : slice_get before h.label.number ≡ Some (reply.Written place to frames)
    receiver : to ≡ i
    front : List (Vec ℕ Global)
    rest : List (Vec ℕ Global)
    split : frames.items ≡ front ++ rest
    next_is : h.next ≡ length front
    count_is : h.label.count ≡ length frames.items
    earlier : List FramePlace
    ends : places ≡ earlier ++ places_from h.label.number 0 front

  abbrev Holds : List FramePlace → Option Heap → Type 0
  Holds places None = Unit {0}
  Holds places (Some h) = IsBegun places h

  -- all frames of a message came last
  record IsAllCome (places : List FramePlace) (e : ℕ) : Type 0 where
    place : Place
    to : ℕ
    frames : Vec (Vec ℕ Global) Global
    there : slice_get before e ≡ Some (reply.Written place to frames)
    receiver : to ≡ i
    all : EndsWithAll before e places

  -- so it is where a message came
  abbrev Comes : List FramePlace → Option (Event OpValue) → Type 0
  Comes places o = (e : Event OpValue) → o ≡ Some e → (number : ℕ) × IsAllCome places number

  none_comes : (places : List FramePlace) (o : Option (Event OpValue)) → o ≡ None → Comes places o
  none_comes places o is e h = absurd (cc (is, h))

  none_holds : (places : List FramePlace) (new : Option Heap) → new ≡ None → Holds places new
  none_holds places new is = subst (Holds places) (sym is) tt

  -- what comes of what is gathered
  gathered_comes : (places : List FramePlace) (o : Option Heap) (sender : ℕ) (r : Result Came WireError)
      (new : Option Heap) → Holds places o → ComesOfPart o sender r new → Holds places new × Comes places (event_of r)
  gathered_comes places None sender r new h come =
      (none_holds places new come.1, none_comes places (event_of r) (ap event_of come.0))
  gathered_comes places (Some g) sender r new h come = go (nat_lt g.next g.label.count) refl come
    where
      whole : nat_lt g.next g.label.count ≡ false → IsAllCome places g.label.number
      whole past = record {
        place = h.place;
        to = h.to;
        frames = h.frames;
        there = h.there;
        receiver = h.receiver;
        all = record {
          earlier = h.earlier;
          all = h.ends ∙ ap (λ (l : List (Vec ℕ Global)). h.earlier ++ places_from g.label.number 0 l)
              (sym (h.split ∙ full h.rest (no_more h.rest (omega (
                arith,
                h.next_is,
                h.count_is,
                ap length h.split,
                length-append h.front h.rest,
                reached,
              )))))
              ∙ ap (λ (o : Option MachineReply). h.earlier ++ places_in g.label.number o) (sym h.there);
        };
      }
        where
          reached : g.label.count ≤ g.next
          reached = elim (cases_lt g.next g.label.count) [
            | inl lt ↦ absurd (true≢false (sym (lt-ltb g.next g.label.count lt) ∙ past))
            | inr ge ↦ ge
          ]

          no_more : (l : List (Vec ℕ Global)) → length l ≡ 0 → l ≡ []
          no_more [] e = refl
          no_more (x ∷ l) e = absurd (omega (arith, e))

          full : (l : List (Vec ℕ Global)) → l ≡ [] → h.front ++ l ≡ h.front
          full l e = ap (λ (x : List (Vec ℕ Global)). h.front ++ x) e ∙ append-nil h.front

      go : (b : Bool) → nat_lt g.next g.label.count ≡ b →
          MatchBool b ((r ≡ Ok (came.Part sender)) × (new ≡ Some g)) (IsRead sender g.octets r × (new ≡ None)) →
          Holds places new × Comes places (event_of r)
      go true is k = (subst (Holds places) (sym k.1) h, none_comes places (event_of r) (ap event_of k.0))
      go false is k = (none_holds places new k.1, λ e q. (g.label.number, whole is))

  -- One part more.
  module _ (places : List FramePlace) (p : FramePlace) (frame : List ℕ) (s : IsFrameAt p.event p.frame frame)
      (q : Portion (List ℕ)) (number_is : q.label.number ≡ p.event) (place_is : q.place ≡ p.frame)
      (count_is : q.label.count ≡ length s.frames.items) where
    -- it begins a message
    part_begins : q.place ≡ 0 → IsBegun (places ++ p ∷ []) (begun q)
    part_begins first =
        let at : slice_get s.frames.items 0 ≡ Some s.v = ap (λ (k : ℕ). slice_get s.frames.items k)
        (sym first ∙ place_is) ∙ s.at in
        let tail = get_first s.frames.items s.v at in
        record {
          place = s.place;
          to = s.to;
          frames = s.frames;
          there = ap (λ (n : ℕ). slice_get before n) number_is ∙ s.there;
          receiver = s.receiver;
          front = s.v ∷ [];
          rest = tail.0;
          split = tail.1;
          next_is = refl;
          count_is = count_is;
          earlier = places;
          ends = ap (λ (n : ℕ). places ++ record { event = n; frame = p.frame } ∷ []) (sym number_is)
              ∙ ap (λ (n : ℕ). places ++ record { event = q.label.number; frame = n } ∷ []) (sym place_is ∙ first);
        }

    -- it is behind those that came
    part_behind : (h : Heap) (b : IsBegun places h) → h.label.number ≡ p.event → length b.front ≡ p.frame →
        (tail : List (Vec ℕ Global)) × (b.rest ≡ s.v ∷ tail)
    part_behind h b own place = get_behind b.front b.rest s.v
        (ap (λ (l : List (Vec ℕ Global)). slice_get l (length b.front)) (sym b.split)
        ∙ ap (λ (x : Vec (Vec ℕ Global) Global). slice_get x.items (length b.front)) (sym frames)
        ∙ ap (λ (k : ℕ). slice_get s.frames.items k) place ∙ s.at)
      where
        same : Some (reply.Written s.place s.to s.frames) ≡ Some (reply.Written b.place b.to b.frames)
        same = sym s.there ∙ ap (λ (k : ℕ). slice_get before k) (sym own) ∙ b.there

        frames : s.frames ≡ b.frames
        frames = cc same

    -- so is its place
    place_behind : (h : Heap) (b : IsBegun places h) → h.label.number ≡ p.event → length b.front ≡ p.frame →
        places ++ p ∷ [] ≡ b.earlier ++ places_from h.label.number 0 (b.front ++ s.v ∷ [])
    place_behind h b own place =
        ap (λ (l : List FramePlace). l ++ p ∷ []) b.ends
        ∙ append_assoc b.earlier (places_from h.label.number 0 b.front) (p ∷ [])
        ∙ ap (λ (k : ℕ). b.earlier ++ (places_from h.label.number 0 b.front ++ at k ∷ [])) (sym own)
        ∙ ap (λ (l : List FramePlace). b.earlier ++ l)
        (sym (places_more h.label.number 0 p.frame b.front s.v (omega (arith, place))))
      where
        at : ℕ → FramePlace
        at k = record { event = k; frame = p.frame }

    -- or it is the next one
    part_goes_on : (h : Heap) → is_next h q ≡ true → IsBegun places h → IsBegun (places ++ p ∷ []) (with_part h q)
    part_goes_on h e b = go (next_so h q e)
      where
        go : (h.label.number ≡ q.label.number) × (h.next ≡ q.place) → IsBegun (places ++ p ∷ []) (with_part h q)
        go n = by (n.0 ∙ number_is) (sym b.next_is ∙ n.1 ∙ place_is)
          where
            by : h.label.number ≡ p.event → length b.front ≡ p.frame → IsBegun (places ++ p ∷ []) (with_part h q)
            by own place = one (part_behind h b own place)
              where
                one : (tail : List (Vec ℕ Global)) × (b.rest ≡ s.v ∷ tail) →
                    IsBegun (places ++ p ∷ []) (with_part h q)
                one tail = record {
                  place = b.place;
                  to = b.to;
                  frames = b.frames;
                  there = b.there;
                  receiver = b.receiver;
                  front = b.front ++ s.v ∷ [];
                  rest = tail.0;
                  split = b.split ∙ ap (λ (l : List (Vec ℕ Global)). b.front ++ l) tail.1
                      ∙ sym (append_assoc b.front (s.v ∷ []) tail.0);
                  next_is = omega (arith, b.next_is, length-append b.front (s.v ∷ []));
                  count_is = b.count_is;
                  earlier = b.earlier;
                  ends = place_behind h b own place;
                }

    part_holds : (old : Option Heap) → Holds places old → Holds (places ++ p ∷ []) (gathered old q)
    part_holds None h = by_test (Holds (places ++ p ∷ [])) (q.place == 0) (Some (begun q)) None
        (λ e. part_begins (eqb-true q.place 0 e)) (λ e. tt)
    part_holds (Some g) h = by_test (Holds (places ++ p ∷ [])) (q.place == 0) (Some (begun q))
        (cond (is_next g q) (Some (with_part g q)) None) (λ e. part_begins (eqb-true q.place 0 e))
        (λ e. by_test (Holds (places ++ p ∷ [])) (is_next g q) (Some (with_part g q)) None
        (λ n. part_goes_on g n h) (λ n. tt))

  module _ (law : FramesGiveMessage) (cluster : ℕ) (cluster_is : IsCluster cluster) (framed : AreFramed cluster before)
      (few : length before < 2 ^ 64) where
    small : (e : ℕ) (x : MachineReply) → slice_get before e ≡ Some x → e < 2 ^ 64
    small e x h = let within : e < length before = slice_get_within before e x h in omega (arith, within, few)

    -- One frame more: of a message that has one,
    module _ (places : List FramePlace) (p : FramePlace) (frame : List ℕ) (s : IsFrameAt p.event p.frame frame)
        (old new : Option Heap) (r : Result Came WireError) (h : Holds places old)
        (takes : Takes cluster old frame r new)
        (enough : r ≢ Err error.NoMemory) where
      f : IsFramed cluster p.event s.to (message_at before s.place) (octets_of s.frames.items)
      f = framed p.event s.place s.to s.frames s.there

      plain_step : (whole : List ℕ) → octets_of s.frames.items ≡ whole ∷ [] → Holds (places ++ p ∷ []) new
          × Comes (places ++ p ∷ []) (event_of r)
      plain_step whole is =
          let one = one_alone s.frames.items whole p.frame s.v is s.at in
          let alone : octets_of s.frames.items ≡ frame ∷ [] = ap octets_of one.0
          ∙ ap (λ (l : List ℕ). l ∷ []) s.is in
          let given = law cluster f.message.from p.event f.message.body (octets_of s.frames.items) old new (r ∷ [])
          cluster_is (small p.event (reply.Written s.place s.to s.frames) s.there) f.tell
          (subst (λ (fs : List (List ℕ)). TakesAll cluster old fs (r ∷ []) new) (sym alone) (new, takes, refl))
          (enough, tt) in (
            none_holds (places ++ p ∷ []) new given.1,
            λ e q. (
              p.event,
              record {
                place = s.place;
                to = s.to;
                frames = s.frames;
                there = s.there;
                receiver = s.receiver;
                all = record {
                  earlier = places;
                  all = ap (λ (k : ℕ). places ++ record { event = p.event; frame = k } ∷ []) one.1
                      ∙ ap (λ (l : List (Vec ℕ Global)). places ++ places_from p.event 0 l) (sym one.0)
                      ∙ ap (λ (o : Option MachineReply). places ++ places_in p.event o) (sym s.there);
                };
              },
            ),
          )

      -- or of one in parts.
      part_step : (octets : List ℕ) → ArePartsOf cluster f.message.from p.event octets (octets_of s.frames.items) →
          Holds (places ++ p ∷ []) new × Comes (places ++ p ∷ []) (event_of r)
      part_step octets parts = by takes
        where
          piece : IsPieceAt cluster f.message.from p.event (length parts.pieces) p.frame parts.pieces p.frame s.v.items
          piece = piece_at cluster f.message.from p.event (length parts.pieces) 0 p.frame parts.pieces s.frames.items
              p.frame s.v (omega arith) parts.spelled s.at

          q : Portion (List ℕ)
          q = record {
            label = record { sender = f.message.from; number = p.event; count = length parts.pieces };
            place = p.frame;
            piece = piece.piece;
          }

          is_part : IsPart cluster q frame
          is_part = record {
            spelled = sym s.is ∙ piece.is;
            cluster_is = cluster_is;
            number_is = small p.event (reply.Written s.place s.to s.frames) s.there;
            count_is = parts.few;
            place_is = slice_get_within parts.pieces p.frame piece.piece piece.at;
            there = all_at (λ (x : List ℕ). 1 ≤ length x) parts.pieces p.frame piece.piece parts.there piece.at;
            small = subst (λ (x : List ℕ). length x ≤ limit) s.is
                (all_at (λ (x : List ℕ). length x ≤ limit) (octets_of s.frames.items) p.frame s.v.items parts.small
                (octets_at s.frames.items p.frame s.v s.at));
          }

          by : Takes cluster old frame r new → Holds (places ++ p ∷ []) new × Comes (places ++ p ∷ []) (event_of r)
          by (inl t) =
              let same = one_part frame cluster cluster t.portion q t.part is_part in
              gathered_comes (places ++ p ∷ []) (gathered old t.portion) t.portion.label.sender r new
              (subst (λ (x : Portion (List ℕ)). Holds (places ++ p ∷ []) (gathered old x)) (sym same.1)
              (part_holds places p frame s q refl refl
              (as_many cluster f.message.from p.event (length parts.pieces) 0 parts.pieces s.frames.items parts.spelled)
              old h)) t.comes
          by (inr (inl t)) = absurd (t.part cluster q is_part)
          by (inr (inr (inl t))) = (
            none_holds (places ++ p ∷ []) new t.dropped,
            none_comes (places ++ p ∷ []) (event_of r) (ap event_of t.refused),
          )
          by (inr (inr (inr t))) = absurd (enough t.refused)

      step : Holds (places ++ p ∷ []) new × Comes (places ++ p ∷ []) (event_of r)
      step = by f.tell
        where
          by : TellMessage cluster f.message.from p.event f.message.body (octets_of s.frames.items) →
              Holds (places ++ p ∷ []) new × Comes (places ++ p ∷ []) (event_of r)
          by (inl t) = plain_step t.0 t.1
          by (inr t) = part_step t.0 t.2

    -- One after another.
    all_come : (done places : List FramePlace) (fs : List (List ℕ)) (rs : List (Result Came WireError))
        (old new : Option Heap) (o : Option (Event OpValue)) → AreAt i before places fs →
        TakesAll cluster old fs rs new →
        AllByRecursion (λ r. r ≢ Err error.NoMemory) rs → Holds done old → Comes done o →
        Comes (done ++ places) (last_event o rs)
    all_come done [] [] [] old new o at takes enough holds comes =
        subst (λ (l : List FramePlace). Comes l o) (sym (append-nil done)) comes
    all_come done (p ∷ places) (f ∷ fs) (r ∷ rs) old new o at takes enough holds comes =
        let then = step done p f (frame_so p.event p.frame f at.0) old takes.0 r holds takes.1 enough.0 in
        subst (λ (l : List FramePlace). Comes l (last_event (event_of r) rs)) (append_assoc done (p ∷ []) places)
        (all_come (done ++ p ∷ []) places fs rs takes.0 new (event_of r) at.1 takes.2 enough.1 then.0 then.1)
    all_come done [] [] (r ∷ rs) old new o at takes enough holds comes = absurd takes
    all_come done [] (f ∷ fs) rs old new o at takes enough holds comes = absurd at
    all_come done (p ∷ places) [] rs old new o at takes enough holds comes = absurd at
    all_come done (p ∷ places) (f ∷ fs) [] old new o at takes enough holds comes = absurd takes

    -- The frames at all places of an event are those that it showed,
    module _ (e : ℕ) (place : Place) (to : ℕ) (frames : Vec (Vec ℕ Global) Global)
        (there : slice_get before e ≡ Some (reply.Written place to frames)) where
      own_frame : (k : ℕ) (f : List ℕ) → frame_in i (slice_get before e) k ≡ Some f →
          octets_in (slice_get frames.items k) ≡ Some f
      own_frame k f h = by (to == i) (ap (λ (o : Option MachineReply). frame_in i o k) (sym there) ∙ h)
        where
          by : (b : Bool) → cond b (octets_in (slice_get frames.items k)) None ≡ Some f →
              octets_in (slice_get frames.items k) ≡ Some f
          by true g = g
          by false g = absurd (cc)

      -- the frame behind some first ones
      get_here : (front vs : List (Vec ℕ Global)) (v : Vec ℕ Global) → slice_get (front ++ v ∷ vs) (length front) ≡
          Some v
      get_here [] vs v = refl
      get_here (u ∷ front) vs v = get_here front vs v

      own_frames : (front vs : List (Vec ℕ Global)) (k : ℕ) (fs : List (List ℕ)) → frames.items ≡ front ++ vs →
          k ≡ length front → AreAt i before (places_from e k vs) fs → fs ≡ octets_of vs
      own_frames front [] k [] split is at = refl
      own_frames front (v ∷ vs) k (f ∷ fs) split is at =
          let here : slice_get frames.items k ≡ Some v = ap (λ (l : List (Vec ℕ Global)). slice_get l k) split
          ∙ ap (λ (n : ℕ). slice_get (front ++ v ∷ vs) n) is ∙ get_here front vs v in
          let first : v.items ≡ f = cc (own_frame k f at.0, ap octets_in here) in
          let more : frames.items ≡ (front ++ v ∷ []) ++ vs = split ∙ sym (append_assoc front (v ∷ []) vs) in
          ap (λ (x : List ℕ). x ∷ fs) (sym first)
          ∙ ap (λ (l : List (List ℕ)). v.items ∷ l)
          (own_frames (front ++ v ∷ []) vs (suc k) fs more (omega (arith, is, length-append front (v ∷ []))) at.1)
      own_frames front [] k (f ∷ fs) split is at = absurd at
      own_frames front (v ∷ vs) k [] split is at = absurd at

      -- so their message comes, whatever came before.
      whole_comes : (earlier : List FramePlace) (fs : List (List ℕ)) (rs : List (Result Came WireError))
          (old new : Option Heap) (o : Option (Event OpValue)) →
          AreAt i before (earlier ++ places_from e 0 frames.items) fs → TakesAll cluster old fs rs new →
          AllByRecursion (λ r. r ≢ Err error.NoMemory) rs → last_event o rs ≡
          Some (event.Message (framed e place to frames there).message.from
          (framed e place to frames there).message.body)
      whole_comes [] fs rs old new o at takes enough =
          let f = framed e place to frames there in
          let all = own_frames [] frames.items 0 fs refl refl at in
          let given = law cluster f.message.from e f.message.body (octets_of frames.items) old new rs cluster_is
          (small e (reply.Written place to frames) there) f.tell
          (subst (λ (l : List (List ℕ)). TakesAll cluster old l rs new) all takes) enough in
          ap (λ (l : List (Result Came WireError)). last_event o l) given.0
          ∙ last_is cluster f.message.from e f.message.body o (octets_of frames.items) f.tell
      whole_comes (p ∷ earlier) (f ∷ fs) (r ∷ rs) old new o at takes enough =
          whole_comes earlier fs rs takes.0 new (event_of r) at.1 takes.2 enough.1
      whole_comes (p ∷ earlier) [] rs old new o at takes enough = absurd at
      whole_comes (p ∷ earlier) (f ∷ fs) [] old new o at takes enough = absurd takes

-- What comes of the frames at places is the message whose frames have all come.
pub places_heard : FramesGiveMessage → (cluster : ℕ) (before : List MachineReply) (i : ℕ) (places : List FramePlace)
    (ev : Event OpValue) → AreFramed cluster before → PlacesCome cluster before i places (Some ev) → (e : ℕ)
    × EndsWithAll before e places × IsHeard i (message_framed before e) ev
places_heard law cluster before i places ev framed (inl u) = absurd (cc (u.1))
places_heard law cluster before i places ev framed (inr h) =
    go (all_come before i law cluster h.heard.cluster_is framed h.few [] places h.frames h.heard.hears.came None
    h.heard.new None h.at h.heard.hears.takes h.heard.hears.enough tt (none_comes before i [] None refl) ev
    (sym h.heard.hears.is))
  where
    go : (e : ℕ) × IsAllCome before i places e → (e : ℕ) × EndsWithAll before e places
        × IsHeard i (message_framed before e) ev
    go k =
        let a = k.1 in
        let f = framed k.0 a.place a.to a.frames a.there in
        let all : places ≡ a.all.earlier ++ places_from k.0 0 a.frames.items = a.all.all
        ∙ ap (λ (o : Option MachineReply). a.all.earlier ++ places_in k.0 o) a.there in
        let same : Some ev ≡ Some (event.Message f.message.from f.message.body) = h.heard.hears.is
        ∙ whole_comes before i law cluster h.heard.cluster_is framed h.few k.0 a.place a.to a.frames a.there
        a.all.earlier
        h.frames h.heard.hears.came None h.heard.new None
        (subst (λ (l : List FramePlace). AreAt i before l h.frames) all h.at) h.heard.hears.takes h.heard.hears.enough
        in (
          k.0,
          a.all,
          record {
            message = f.message;
            shown = ap (message_written before) a.there ∙ f.there;
            to = sym f.receiver ∙ a.receiver;
            is = cc same;
          },
        )

-- Nothing comes only where a frame isn't there, or no message's frames have all come.
pub places_missing : FramesGiveMessage → (cluster : ℕ) (before : List MachineReply) (i : ℕ) (places : List FramePlace) →
    AreFramed cluster before → PlacesCome cluster before i places None → IsOneUnwritten before i places
    ⊎ ((e : ℕ) (m : Message OpValue) → message_framed before e ≡ Some m → EndsWithAll before e places → ⊥)
places_missing law cluster before i places framed (inl u) = inl u.0
places_missing law cluster before i places framed (inr h) = inr (λ e m shown ends. go e m
    (slice_get before e) refl shown
    ends)
  where
    go : (e : ℕ) (m : Message OpValue) (o : Option MachineReply) → slice_get before e ≡ o → message_written before o ≡
        Some m → EndsWithAll before e places → ⊥
    go e m (Some (reply.Written place to frames)) q shown ends =
        let all : places ≡ ends.earlier ++ places_from e 0 frames.items = ends.all
        ∙ ap (λ (o : Option MachineReply). ends.earlier ++ places_in e o) q in
        let came = h.heard.hears.is
        ∙ whole_comes before i law cluster h.heard.cluster_is framed h.few e place to frames q ends.earlier h.frames
        h.heard.hears.came None h.heard.new None
        (subst (λ (l : List FramePlace). AreAt i before l h.frames) all h.at) h.heard.hears.takes h.heard.hears.enough
        in
        absurd (cc came)
    go e m _ q shown ends = absurd (cc shown)
