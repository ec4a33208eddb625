-- What is known of each replica: on how many connections it is heard, why it isn't, and what it has said.
use Rattle.std.specs.Prelude.{ℕ, ◌+◌, ◌-◌, ◌^◌, min, nat_lt, ◌==◌, cond, Bool, false, List, [], ◌∷◌, slice_index_or, slice_set, Some, None}
use Rattle.peer_link.specs.Past.{nothing_said}
use Rattle.peer_link.specs.Past as past
use Rattle.peer_link.specs.declared.claim.Claim.{Claim}
use Rattle.peer_link.specs.declared.past.Reach.{Reach}
use Rattle.peer_link.specs.declared.terms.Term.{Term}
use Rattle.peer_messages.specs.declared.link_table.Link.{Link}

-- nothing is known
abbrev pub nothing_known : Link
nothing_known = record { connections = 0; refused = None; past = nothing_said; forgetful = None; is_earlier = false }

-- It is heard on a connection.
abbrev pub is_heard : Link → Bool
is_heard l = nat_lt 0 l.connections

-- it is heard on a connection more, and a refusal after that is news
abbrev pub after_coming : Link → Link
after_coming l = record l { connections = min (l.connections + 1) (2 ^ 64 - 1); refused = None }

-- a connection has ended
abbrev pub after_going : Link → Link
after_going l = record l { connections = l.connections - 1 }

-- it is refused for a term
abbrev pub after_refusal : Term → Link → Link
after_refusal t l = record l { refused = Some t }

-- a start of it is refused, since it remembers less than was said
abbrev pub after_refused_start : Claim → Link → Link
after_refused_start c l = record l { forgetful = Some c }

-- a start of it greets, and isn't refused
abbrev pub after_greeting : Claim → Link → Link
after_greeting c l = record l { past = past.after_greeting l.past c }

-- it greets as version 0.2.0 does, or not
abbrev pub after_version : Bool → Link → Link
after_version is_earlier l = record l { is_earlier = is_earlier }

-- a message of it says that it is in a view, and has a log that goes so far
abbrev pub after_saying : ℕ → Reach → Link → Link
after_saying view reach l = record l { past = past.after_saying l.past view reach }

-- what is known of the replica of an index; nothing, where there is none
abbrev pub link_at : List Link → ℕ → Link
link_at links i = slice_index_or links i nothing_known

-- Of one replica something else is known, and of the others what was. A replica that isn't there changes nothing.
abbrev pub changed_at : (Link → Link) → ℕ → List Link → List Link
changed_at f i links = slice_set links i (f (link_at links i))

-- the index of a replica, and 1 where it is heard
abbrev pub label_of : ℕ → Link → ℕ × ℕ
label_of i l = (i, cond (is_heard l) 1 0)

-- the same of all replicas from an index on, but for one of them
abbrev pub labels : ℕ → ℕ → List Link → List (ℕ × ℕ)
labels own i [] = []
labels own i (l ∷ ls) = cond (i == own) (labels own (i + 1) ls) (label_of i l ∷ labels own (i + 1) ls)
