-- Greetings: what a heading is refused for, the frame is refused for; and what stands behind a heading is met.
use Rattle.std.proofs.Common.{◌≡◌, ◌≢◌, ℕ, List, length, take, drop, Result, Ok, Err, sym, subst, inl, inr}
use Rattle.vr_wire.specs.declared.error.WireError.{WireError}
use Rattle.vr_wire.specs.declared.error.WireError.TheVariants as error
use Rattle.peer_link.specs.declared.meeting.Heading.{Heading}
use Rattle.peer_link.specs.declared.meeting.Met.{Met}
use Rattle.peer_link.specs.declared.meeting.Met.TheVariants as met
use Rattle.peer_link.specs.declared.terms.Terms.{Terms}
use Rattle.peer_link.specs.Meeting.{Heads, HasMet, IsHeading, MeetsSender}

pub passes_on : (cluster : ℕ) (frame first : List ℕ) (own : Terms) (e : WireError) → first ≡ take 13 frame →
    Heads cluster first (Err e) → HasMet cluster frame own (Err e)
passes_on cluster frame first own error.BadFrame same h =
    inr (inl (subst (λ (l : List ℕ). Heads cluster l (Err error.BadFrame)) same h))
passes_on cluster frame first own error.ForeignFrame same h =
    subst (λ (l : List ℕ). Heads cluster l (Err error.ForeignFrame)) same h
passes_on cluster frame first own error.NoMemory same h = h

-- the length isn't what the heading says
pub misses : (cluster : ℕ) (frame first behind : List ℕ) (own : Terms) (h : Heading) → first ≡ take 13 frame →
    behind ≡ drop 13 frame → IsHeading cluster first h → length behind ≢ h.behind →
    HasMet cluster frame own (Err error.BadFrame)
misses cluster frame first behind own h same rest head long =
    inr (inr (inl (
      h,
      subst (λ (l : List ℕ). IsHeading cluster l h) same head,
      subst (λ (l : List ℕ). length l ≢
          h.behind) rest long,
    )))

pub meets : (cluster : ℕ) (frame first behind : List ℕ) (own : Terms) (h : Heading) (r : Result Met WireError) →
    first ≡ take 13 frame → behind ≡ drop 13 frame →
    IsHeading cluster first h → length behind ≡ h.behind → MeetsSender h.sender behind own r →
    HasMet cluster frame own r
meets cluster frame first behind own h r same rest head long m =
    go r (subst (λ (l : List ℕ). MeetsSender h.sender l own r) rest m)
  where
    headed : IsHeading cluster (take 13 frame) h
    headed = subst (λ (l : List ℕ). IsHeading cluster l h) same head

    whole : length (drop 13 frame) ≡ h.behind
    whole = subst (λ (l : List ℕ). length l ≡ h.behind) rest long

    go : (r : Result Met WireError) → MeetsSender h.sender (drop 13 frame) own r → HasMet cluster frame own r
    go (Ok (met.Alike from claim)) k = record {
      heading = h;
      headed = headed;
      from = sym k.0;
      long = whole;
      behind =
          subst (λ (s : ℕ). MeetsSender s (drop 13 frame) own (Ok (met.Alike from claim))) (sym k.0) k;
    }
    go (Ok (met.Other from term)) k = record {
      heading = h;
      headed = headed;
      from = sym k.0;
      long = whole;
      behind =
          subst (λ (s : ℕ). MeetsSender s (drop 13 frame) own (Ok (met.Other from term))) (sym k.0) k;
    }
    go (Err error.BadFrame) (inl k) = inl k
    go (Err error.BadFrame) (inr k) = inr (inr (inr k))
    go (Err error.ForeignFrame) k = absurd k
    go (Err error.NoMemory) k = absurd k
