-- Frames: what contracts that aren't public say of it.
-- What public contracts say is in specs/Cutting.
use Rattle.std.specs.Prelude.{◌≡◌, ◌^◌, ◌+◌, ℕ, zero, suc, ◌==◌, not, ◌&&◌, cond, nat_le, nat_lt, List, [], ◌∷◌, length}
use Rattle.std.specs.Prelude.{take, drop, Option, Some, None, Result, Ok, Err}
use Rattle.std.specs.Int.{w32, w64, from_be_bytes}
use Rattle.vr_state.specs.Words.{Client}
use Rattle.vr_state.specs.Words.{LogEntry}
use Rattle.vr_state.specs.declared.message.PeerMessage.{PeerMessage}
use Rattle.vr_state.specs.declared.message.PeerMessage.TheVariants.{Prepare, PrepareOk, Commit, StartViewChange, DoViewChange, StartView, GetState}
use Rattle.vr_state.specs.declared.message.PeerMessage.TheVariants.{NewState, Recovery, RecoveryResponse}
use Rattle.vr_state.specs.declared.message.Snapshot.{Snapshot}
use Rattle.vr_wire.specs.Frames.{limit}
use Rattle.vr_wire.specs.declared.error.WireError.{WireError}
use Rattle.vr_wire.specs.declared.error.WireError.TheVariants as error
use Rattle.std.specs.Option.{option_and_then}

-- what comes after a cut
abbrev pub then : {A B : Type 0} → Option A → (A → Option B) → Option B
then cut next = option_and_then next cut

-- why nothing was cut: there is nothing, or memory ran out; whose cluster it is isn't asked
abbrev pub Fails : {Y : Type 0} → WireError → Option Y → Type 0
Fails error.NoMemory cut = Unit {0}
Fails error.BadFrame cut = cut ≡ None
Fails error.ForeignFrame cut = ⊥

-- what a reader gives, seen by `view`, is what is cut, unless memory ran out
abbrev pub Gives : {X Y : Type 0} → (X → Y) → Result X WireError → Option Y → Type 0
Gives view (Ok x) cut = cut ≡ Some (view x)
Gives view (Err e) cut = Fails e cut

-- an octet
unfoldable pub cut_octet : List ℕ → Option (ℕ × List ℕ)
cut_octet [] = None
cut_octet (x ∷ xs) = Some (x, xs)

-- so many octets
unfoldable pub cut_octets : ℕ → List ℕ → Option (List ℕ × List ℕ)
cut_octets n o = cond (nat_le n (length o)) (Some (take n o, drop n o)) None

-- a number of 63 bits
abbrev pub small_number : ℕ → List ℕ → Option (ℕ × List ℕ)
small_number n rest = cond (nat_lt n (2 ^ 63)) (Some (n, rest)) None

unfoldable pub cut_number : List ℕ → Option (ℕ × List ℕ)
cut_number o = then (cut_octets 8 o) (λ e. small_number (from_be_bytes w64 e.0) e.1)

-- a count or a length
unfoldable pub cut_short : List ℕ → Option (ℕ × List ℕ)
cut_short o = then (cut_octets 4 o) (λ f. Some (from_be_bytes w32 f.0, f.1))

-- a cluster's number in six octets, which isn't 0
abbrev pub known_cluster : ℕ → List ℕ → Option (ℕ × List ℕ)
known_cluster n rest = cond (nat_lt 0 n) (Some (n, rest)) None

unfoldable pub cut_cluster : List ℕ → Option (ℕ × List ℕ)
cut_cluster o = then (cut_octets 6 o) (λ e. known_cluster (from_be_bytes w64 (0 ∷ 0 ∷ e.0)) e.1)

-- a client; one that names itself has no life
abbrev pub known_client : ℕ → ℕ → ℕ → List ℕ → Option (Client × List ℕ)
known_client home life number rest =
    cond (home == 0 && not (life == 0)) None (Some (record { home = home; life = life; number = number }, rest))

unfoldable pub cut_client : List ℕ → Option (Client × List ℕ)
cut_client o = then (cut_octet o)
    (λ h. then (cut_number h.1) (λ l. then (cut_number l.1) (λ n. known_client h.0 l.0 n.0 n.1)))

-- a payload: its length, and as many octets
unfoldable pub cut_payload : List ℕ → Option (List ℕ × List ℕ)
cut_payload o = then (cut_short o) (λ n. cut_octets n.0 n.1)

-- a record
unfoldable pub cut_entry : List ℕ → Option (LogEntry (List ℕ) × List ℕ)
cut_entry o =
    then (cut_client o) (λ c. then (cut_number c.1) (λ s. then (cut_payload s.1) (λ p.
    Some (record { client = c.0; request_number = s.0; payload = p.0 }, p.1))))

-- so many records
abbrev pub cut_entries : ℕ → List ℕ → Option (List (LogEntry (List ℕ)) × List ℕ)
cut_entries zero o = Some ([], o)
cut_entries (suc n) o = then (cut_entry o) (λ e. then (cut_entries n e.1) (λ es. Some (e.0 ∷ es.0, es.1)))

-- a log
unfoldable pub cut_log : List ℕ → Option (List (LogEntry (List ℕ)) × List ℕ)
cut_log o = then (cut_short o) (λ n. cut_entries n.0 n.1)

-- a commit-number and a log
unfoldable pub cut_held : List ℕ → Option (Snapshot (List ℕ) × List ℕ)
cut_held o = then (cut_number o) (λ k. then (cut_log k.1) (λ l. Some (record { log = l.0; commit_number = k.0 }, l.1)))

-- a log that may be missing
abbrev pub perhaps_by : ℕ → List ℕ → Option (Option (Snapshot (List ℕ)) × List ℕ)
perhaps_by t o = cond (t == 0) (Some (None, o)) (cond (t == 1) (then (cut_held o) (λ h. Some (Some h.0, h.1))) None)

unfoldable pub cut_perhaps : List ℕ → Option (Option (Snapshot (List ℕ)) × List ℕ)
cut_perhaps o = then (cut_octet o) (λ t. perhaps_by t.0 t.1)

-- nothing comes after it
abbrev pub whole : {A : Type 0} → A × List ℕ → Option A
whole p = cond (length p.1 == 0) (Some p.0) None

-- two numbers
unfoldable pub cut_two : List ℕ → Option ((ℕ × ℕ) × List ℕ)
cut_two o = then (cut_number o) (λ a. then (cut_number a.1) (λ b. Some ((a.0, b.0), b.1)))

-- three numbers
unfoldable pub cut_three : List ℕ → Option ((ℕ × (ℕ × ℕ)) × List ℕ)
cut_three o = then (cut_number o) (λ a. then (cut_two a.1) (λ b. Some ((a.0, b.0), b.1)))

-- a number, two numbers, a number and a log, and nothing after them
unfoldable pub only_number : List ℕ → Option ℕ
only_number o = then (cut_number o) (λ v. whole v)

unfoldable pub only_two : List ℕ → Option (ℕ × ℕ)
only_two o = then (cut_two o) (λ n. whole n)

unfoldable pub only_state : List ℕ → Option (ℕ × Snapshot (List ℕ))
only_state o = then (cut_number o) (λ v. then (cut_held v.1) (λ h. whole ((v.0, h.0), h.1)))

-- each kind of message
unfoldable pub cut_prepare : List ℕ → Option (PeerMessage (List ℕ))
cut_prepare o =
    then (cut_three o) (λ n. then (cut_entry n.1) (λ e. whole (Prepare n.0.0 e.0 n.0.1.0 n.0.1.1, e.1)))

unfoldable pub cut_prepare_ok : List ℕ → Option (PeerMessage (List ℕ))
cut_prepare_ok o = then (only_two o) (λ n. Some (PrepareOk n.0 n.1))

unfoldable pub cut_commit : List ℕ → Option (PeerMessage (List ℕ))
cut_commit o = then (only_two o) (λ n. Some (Commit n.0 n.1))

unfoldable pub cut_start_view_change : List ℕ → Option (PeerMessage (List ℕ))
cut_start_view_change o = then (only_number o) (λ v. Some (StartViewChange v))

unfoldable pub cut_do_view_change : List ℕ → Option (PeerMessage (List ℕ))
cut_do_view_change o =
    then (cut_three o) (λ n. then (cut_log n.1) (λ l.
    whole (DoViewChange n.0.0 (record { log = l.0; last_normal_view = n.0.1.0; commit_number = n.0.1.1 }), l.1)))

unfoldable pub cut_start_view : List ℕ → Option (PeerMessage (List ℕ))
cut_start_view o = then (only_state o) (λ s. Some (StartView s.0 s.1))

unfoldable pub cut_get_state : List ℕ → Option (PeerMessage (List ℕ))
cut_get_state o = then (only_two o) (λ n. Some (GetState n.0 n.1))

unfoldable pub cut_new_state : List ℕ → Option (PeerMessage (List ℕ))
cut_new_state o =
    then (cut_three o) (λ n. then (cut_log n.1) (λ l.
    whole (NewState n.0.0 n.0.1.1 (record { log = l.0; commit_number = n.0.1.0 }), l.1)))

unfoldable pub cut_recovery : List ℕ → Option (PeerMessage (List ℕ))
cut_recovery o = then (only_number o) (λ x. Some (Recovery x))

unfoldable pub cut_recovery_response : List ℕ → Option (PeerMessage (List ℕ))
cut_recovery_response o =
    then (cut_two o) (λ n. then (cut_perhaps n.1)
    (λ h. whole (RecoveryResponse n.0.1 (record { view_number = n.0.0; held = h.0 }), h.1)))

-- the message of this kind
abbrev pub cut_body : ℕ → List ℕ → Option (PeerMessage (List ℕ))
cut_body kind o =
    cond (kind == 1) (cut_prepare o)
    (cond (kind == 2) (cut_prepare_ok o)
    (cond (kind == 3) (cut_commit o)
    (cond (kind == 4) (cut_start_view_change o)
    (cond (kind == 5) (cut_do_view_change o)
    (cond (kind == 6) (cut_start_view o)
    (cond (kind == 9) (cut_recovery o)
    (cond (kind == 10) (cut_recovery_response o)
    (cond (kind == 11) (cut_get_state o)
    (cond (kind == 12) (cut_new_state o) None)))))))))

-- version 2, and the cluster's number
unfoldable pub cut_head : List ℕ → Option (ℕ × List ℕ)
cut_head o = then (cut_octet o) (λ v. cond (v.0 == 2) (cut_cluster v.1) None)

-- a kind, a sender, and a message of that kind
unfoldable pub cut_said : List ℕ → Option (ℕ × PeerMessage (List ℕ))
cut_said o = then (cut_octet o) (λ k. then (cut_octet k.1) (λ s. then (cut_body k.0 s.1) (λ m. Some (s.0, m))))

-- what follows the length: a cluster, and what is said in it
unfoldable pub cut_rest : List ℕ → Option (ℕ × (ℕ × PeerMessage (List ℕ)))
cut_rest o = then (cut_head o) (λ c. then (cut_said c.1) (λ p. Some (c.0, p)))

-- a frame: the length of the rest, which isn't over the limit, and the rest
abbrev pub sized : ℕ → List ℕ → Option (List ℕ)
sized n rest = cond (nat_le (n + 4) limit && length rest == n) (Some rest) None

unfoldable pub cut_frame : List ℕ → Option (ℕ × (ℕ × PeerMessage (List ℕ)))
cut_frame o = then (cut_short o) (λ n. then (sized n.0 n.1) cut_rest)
