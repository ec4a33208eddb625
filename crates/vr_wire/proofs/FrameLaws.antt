-- Frames: what is read is the message of the octets, and a frame is refused only for want of memory.
use Rattle.std.proofs.Common.{◌≡◌, ◌≤◌, ℕ, List, length, Some, sym, ap, subst, ◌∙◌}
use Rattle.ldap_op.specs.Values.{OpValue}
use Rattle.vr_state.specs.declared.message.PeerMessage.{PeerMessage}
use Rattle.vr_wire.specs.declared.error.WireError.{WireError}
use Rattle.vr_wire.specs.declared.error.WireError.TheVariants as error
use Rattle.vr_wire.specs.private.Cutting.{Fails, cut_frame}
use Rattle.vr_wire.specs.Frames.{limit}
use Rattle.vr_wire.specs.Payloads.{Refuses, RefusesFrame, IsMessageOf, IsFrame}
use Rattle.vr_wire.specs.private.Payloads.{IsFrameOf}
use Rattle.vr_wire.proofs.Fields.{IsBytes, some_is}
use Rattle.vr_wire.proofs.Messages.{frame_takes, frame_again, not_some as nothing_is}

pub frame_read : (bytes : List ℕ) (x : ℕ × (ℕ × PeerMessage (List ℕ))) (m : PeerMessage OpValue) → IsBytes bytes →
    cut_frame bytes ≡ Some x → IsMessageOf m x.1.1 → IsFrameOf (x.0, (x.1.0, m)) bytes
frame_read bytes x m fits e h =
    let t = frame_takes bytes x fits e in
    record {
      raw = x.1.1;
      spelled = t.octets;
      cluster_is = t.cluster_is;
      range = t.range;
      payloads = h;
      small =
          t.small;
    }

pub is_cut : (bytes : List ℕ) (cluster sender : ℕ) (m : PeerMessage OpValue) (f : IsFrame cluster sender m bytes) →
    cut_frame bytes ≡ Some (cluster, (sender, f.raw))
is_cut bytes cluster sender m f = ap cut_frame f.spelled ∙ frame_again cluster sender f.raw f.cluster_is f.range
    (subst (λ (l : List ℕ). length l ≤ limit) f.spelled f.small)

pub frame_refused : (e : WireError) (bytes : List ℕ) → Fails e (cut_frame bytes) → Refuses IsFrameOf e bytes
frame_refused error.BadFrame bytes none = λ p f. nothing_is (p.0, (p.1.0, f.raw)) (cut_frame bytes) none
    (is_cut bytes p.0 p.1.0 p.1.1 f)
frame_refused error.ForeignFrame bytes none = none
frame_refused error.NoMemory bytes none = tt

payload_lacks : (bytes : List ℕ) (x : ℕ × (ℕ × PeerMessage (List ℕ))) → cut_frame bytes ≡ Some x →
    ((m : PeerMessage OpValue) → IsMessageOf m x.1.1 → ⊥) → (p : ℕ × (ℕ × PeerMessage OpValue)) → IsFrameOf p bytes → ⊥
payload_lacks bytes x e r p f =
    let same : (p.0, (p.1.0, f.raw)) ≡ x = some_is (p.0, (p.1.0, f.raw)) x (sym (is_cut bytes p.0 p.1.0 p.1.1 f) ∙ e) in
    r p.1.1 (subst (λ (m : PeerMessage (List ℕ)). IsMessageOf p.1.1 m)
    (ap (λ (y : ℕ × (ℕ × PeerMessage (List ℕ))). y.1.1) same) f.payloads)

pub payload_refused : (e : WireError) (bytes : List ℕ) (x : ℕ × (ℕ × PeerMessage (List ℕ))) → cut_frame bytes ≡
    Some x → Refuses IsMessageOf e x.1.1 → Refuses IsFrameOf e bytes
payload_refused error.BadFrame bytes x e r = payload_lacks bytes x e r
payload_refused error.ForeignFrame bytes x e r = r
payload_refused error.NoMemory bytes x e r = tt

-- ---- whose frame it is

pub refused_so : (cluster : ℕ) (e : WireError) (bytes : List ℕ) → Refuses IsFrameOf e bytes →
    RefusesFrame cluster e bytes
refused_so cluster error.BadFrame bytes r = λ other sender m f. r (other, (sender, m)) f
refused_so cluster error.ForeignFrame bytes r = absurd r
refused_so cluster error.NoMemory bytes r = tt
