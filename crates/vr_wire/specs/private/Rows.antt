-- Worked octets.
use Rattle.std.specs.Prelude.{◌≡◌, refl, ℕ, List, [], ◌∷◌, take, drop, Some, None}
use Rattle.vr_state.specs.Words.{LogEntry}
use Rattle.vr_state.specs.declared.message.PeerMessage.{PeerMessage}
use Rattle.vr_state.specs.declared.message.PeerMessage.TheVariants.{Commit, NewState}
use Rattle.vr_wire.specs.Frames.{frame_octets}
use Rattle.vr_wire.specs.private.Cutting.{cut_frame, cut_short, cut_octets, cut_rest, cut_head, cut_said, cut_cluster, cut_octet, cut_commit, only_two}
use Rattle.vr_wire.specs.private.Cutting.{cut_two, cut_number}
use Rattle.vr_wire.specs.declared.labels.Portion.{Portion}
use Rattle.vr_wire.specs.Gathering.{begun, gathered}
use Rattle.vr_wire.specs.private.Heading.{heading_of}
use Rattle.vr_wire.specs.Heap.{Heap}
use Rattle.vr_wire.specs.Parts.{saying_octets, pieces_of, parts_from}
use Rattle.vr_wire.specs.private.Parts.{cut_part, cut_part_rest, cut_part_said, cut_portion, cut_long, cut_place}

-- view 0 of cluster 9: replica 0 says that four records are committed
abbrev commit_4 : List ℕ
commit_4 = 0 ∷ 0 ∷ 0 ∷ 25 ∷ 2 ∷ 0 ∷ 0 ∷ 0 ∷ 0 ∷ 0 ∷ 9 ∷ 3 ∷ 0 ∷ 0 ∷ 0 ∷ 0 ∷ 0 ∷ 0 ∷ 0 ∷ 0 ∷ 0 ∷ 0 ∷ 0 ∷ 0 ∷ 0 ∷ 0 ∷
    0 ∷ 0 ∷ 4 ∷ []

commit_spelled : frame_octets 9 0 (Commit 0 4) ≡ commit_4
commit_spelled = refl

commit_cut : cut_frame commit_4 ≡ Some (9, (0, Commit 0 4))
unfolding cut_frame cut_short cut_octets cut_rest cut_head cut_said cut_cluster cut_octet cut_commit only_two cut_two
    cut_number
commit_cut = refl

-- the same of version 1, which names no cluster
abbrev first_version_4 : List ℕ
first_version_4 = 0 ∷ 0 ∷ 0 ∷ 19 ∷ 1 ∷ 3 ∷ 0 ∷ 0 ∷ 0 ∷ 0 ∷ 0 ∷ 0 ∷ 0 ∷ 0 ∷ 0 ∷ 0 ∷ 0 ∷ 0 ∷ 0 ∷ 0 ∷ 0 ∷ 0 ∷ 4 ∷ []

first_version_refused : cut_frame first_version_4 ≡ None
unfolding cut_frame cut_short cut_octets cut_rest cut_head cut_said cut_cluster cut_octet cut_commit only_two cut_two
    cut_number
first_version_refused = refl

-- a record that changes nothing
abbrev noop_entry : ℕ → LogEntry (List ℕ)
noop_entry n = record { client = record { home = 1; life = 1; number = 1 }; request_number = n; payload = [] }

-- the records after the first two, which are two
abbrev two_noops : PeerMessage (List ℕ)
two_noops = NewState 0 2 (record { log = noop_entry 3 ∷ noop_entry 4 ∷ []; commit_number = 4 })

-- what replica 0 of cluster 9 sends of them begins so
new_state_begins : take 13 (frame_octets 9 0 two_noops) ≡ 0 ∷ 0 ∷ 0 ∷ 95 ∷ 2 ∷ 0 ∷ 0 ∷ 0 ∷ 0 ∷ 0 ∷ 9 ∷ 12 ∷ 0 ∷ []
new_state_begins = refl

-- the same message in two parts, of nine octets and eight, as replica 0's message 7: the first of them
abbrev commit_first : List ℕ
commit_first =
    0 ∷ 0 ∷ 0 ∷ 34 ∷ 2 ∷ 0 ∷ 0 ∷ 0 ∷ 0 ∷ 0 ∷ 9 ∷ 13 ∷ 0 ∷ 0 ∷ 0 ∷ 0 ∷ 0 ∷ 0 ∷ 0 ∷ 0 ∷ 7 ∷ 0 ∷ 0 ∷ 0 ∷ 0 ∷ 0 ∷ 0 ∷ 0 ∷
    2 ∷ 3 ∷ 0 ∷ 0 ∷ 0 ∷ 0 ∷ 0 ∷ 0 ∷ 0 ∷ 0 ∷ []

-- and the second
abbrev commit_second : List ℕ
commit_second =
    0 ∷ 0 ∷ 0 ∷ 33 ∷ 2 ∷ 0 ∷ 0 ∷ 0 ∷ 0 ∷ 0 ∷ 9 ∷ 13 ∷ 0 ∷ 0 ∷ 0 ∷ 0 ∷ 0 ∷ 0 ∷ 0 ∷ 0 ∷ 7 ∷ 0 ∷ 0 ∷ 0 ∷ 1 ∷ 0 ∷ 0 ∷ 0 ∷
    2 ∷ 0 ∷ 0 ∷ 0 ∷ 0 ∷ 0 ∷ 0 ∷ 0 ∷ 4 ∷ []

commit_in_parts : parts_from 9 0 7 2 0 (pieces_of 9 2 (saying_octets (Commit 0 4))) ≡ commit_first ∷ commit_second ∷ []
commit_in_parts = refl

abbrev commit_part : ℕ → List ℕ → Portion (List ℕ)
commit_part place piece = record { label = record { sender = 0; number = 7; count = 2 }; place = place; piece = piece }

commit_second_cut : cut_part commit_second ≡ Some (9, commit_part 1 (0 ∷ 0 ∷ 0 ∷ 0 ∷ 0 ∷ 0 ∷ 0 ∷ 4 ∷ []))
unfolding cut_part cut_short cut_octets cut_part_rest cut_head cut_cluster cut_octet cut_part_said cut_portion
    cut_long cut_place
commit_second_cut = refl

-- a part is no frame of a message
commit_second_no_frame : cut_frame commit_second ≡ None
unfolding cut_frame cut_short cut_octets cut_rest cut_head cut_said cut_cluster cut_octet
commit_second_no_frame = refl

-- its nine octets behind the length tell its cluster, its kind and its sender
commit_second_heading : heading_of (take 9 (drop 4 commit_second)) ≡ Some (9, (13, 0))
commit_second_heading = refl

-- both together are what the message says; the second alone, or twice, is nothing
abbrev commit_heap : Heap
commit_heap = begun (commit_part 0 (3 ∷ 0 ∷ 0 ∷ []))

commit_joined : gathered (Some commit_heap) (commit_part 1 (7 ∷ [])) ≡
    Some (record { label = record { sender = 0; number = 7; count = 2 }; next = 2; octets = 3 ∷ 0 ∷ 0 ∷ 7 ∷ [] })
commit_joined = refl

commit_alone : gathered None (commit_part 1 (7 ∷ [])) ≡ None
commit_alone = refl

commit_twice : gathered (gathered (Some commit_heap) (commit_part 1 (7 ∷ []))) (commit_part 1 (7 ∷ [])) ≡ None
commit_twice = refl
