-- The first octets of a note, and of a greeting, name one sender; those of a frame say what their parts say.
use Rattle.std.proofs.Common.{◌≡◌, ◌≤◌, ◌+◌, ◌-◌, inl, inr, ℕ, List, Result, Ok, Err, true, false, [], ◌∷◌, take, drop, sym, subst, ap, ◌∙◌}
use Rattle.std.proofs.Math.Nat.{sub-add_cancel}
use Rattle.std.specs.Int.{w32, from_be_bytes}
use Rattle.vr_short.specs.Notes.{note_heading}
use Rattle.peer_link.specs.Meeting.{Heads as GreetingHeads, IsForeign, IsHeading}
use Rattle.peer_link.specs.declared.meeting.Heading.{Heading}
use Rattle.peer_link.specs.vr_wire.Frames.{limit}
use Rattle.peer_link.specs.vr_wire.Heading.{Heads}
use Rattle.peer_link.specs.vr_wire.declared.error.WireError.{WireError}
use Rattle.peer_link.specs.vr_wire.declared.error.WireError.TheVariants as error
use Rattle.peer_messages.specs.Heard.{HeardFrame, is_other}
use Rattle.peer_messages.specs.declared.senders.Senders.{Senders}

abbrev head_of : List ℕ → ℕ
head_of [] = 0
head_of (a ∷ rest) = a

-- the octet that names a sender, behind the length, the version, the cluster and the kind
abbrev named : List ℕ → ℕ
named first = head_of (drop 12 first)

-- a note's heading is that of one sender
pub note_of_one : (cluster s t : ℕ) (first : List ℕ) → first ≡ note_heading cluster s →
    first ≡ note_heading cluster t → s ≡ t
note_of_one cluster s t first e f = ap named (sym e ∙ f)

-- a greeting's heading is that of one sender
pub greeting_of_one : (cluster : ℕ) (first : List ℕ) (h g : Heading) → IsHeading cluster first h →
    IsHeading cluster first g → h.sender ≡ g.sender
greeting_of_one cluster first h g (inl e) (inl f) = ap named (sym e.0 ∙ f.0)
greeting_of_one cluster first h g (inl e) (inr f) = ap named (sym e.0 ∙ f.0)
greeting_of_one cluster first h g (inr e) (inl f) = ap named (sym e.0 ∙ f.0)
greeting_of_one cluster first h g (inr e) (inr f) = ap named (sym e.0 ∙ f.0)

no_heading : (cluster : ℕ) (first : List ℕ) (h : Heading) → IsForeign cluster first → IsHeading cluster first h → ⊥
no_heading cluster first h f (inl e) = f h.sender (inl e.0)
no_heading cluster first h f (inr e) = f h.sender (inr e.0)

-- what is refused as a greeting begins none of this cluster
pub none_refused : (cluster : ℕ) (first : List ℕ) (e : WireError) → GreetingHeads cluster first (Err e) →
    (h : Heading) → IsHeading cluster first h → ⊥
none_refused cluster first error.BadFrame f h i = no_heading cluster first h (f cluster) i
none_refused cluster first error.ForeignFrame f h i = no_heading cluster first h f i
none_refused cluster first error.NoMemory f h i = f

-- a frame's first octets say what each part of them says, if another replica sends it
pub frame_heard : (s : Senders) (first length behind : List ℕ) (count : ℕ) (p : ℕ × ℕ) → length ≡ take 4 first →
    behind ≡ drop 4 first → (count ≡ from_be_bytes w32 length) × (from_be_bytes w32 length + 4 ≤ limit) →
    Heads s.cluster behind (Ok p) → is_other s p.1 ≡ true → 9 ≤ count → HeardFrame s first (Ok (count - 9))
frame_heard s first length behind count p at from said heads other enough = (
  p,
  subst (λ octets. Heads s.cluster octets (Ok p)) from heads,
  other,
  ap (from_be_bytes w32) (sym at) ∙ sym said.0 ∙ sym (sub-add_cancel enough),
  subst (λ octets. from_be_bytes w32 octets + 4 ≤ limit) at said.1,
)

-- what is refused by its heading is refused
pub frame_refused : (s : Senders) (first behind : List ℕ) (e : WireError) → behind ≡ drop 4 first →
    Heads s.cluster behind (Err e) → HeardFrame s first (Err e)
frame_refused s first behind error.BadFrame from heads =
    inr (inr (inl (subst (λ octets. Heads s.cluster octets (Err error.BadFrame)) from heads)))
frame_refused s first behind error.ForeignFrame from heads =
    subst (λ octets. Heads s.cluster octets (Err error.ForeignFrame)) from heads
frame_refused s first behind error.NoMemory from heads =
    subst (λ octets. Heads s.cluster octets (Err error.NoMemory)) from heads

-- a frame of this replica, or of one that isn't there, is refused
pub frame_of_none : (s : Senders) (first behind : List ℕ) (p : ℕ × ℕ) → behind ≡ drop 4 first →
    Heads s.cluster behind (Ok p) → is_other s p.1 ≡ false → HeardFrame s first (Err error.BadFrame)
frame_of_none s first behind p from heads none = inr (inr (inr (
  p,
  subst (λ octets. Heads s.cluster octets (Ok p)) from heads,
  none,
)))
