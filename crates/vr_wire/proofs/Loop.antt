-- Frames: cutting records one after the other, as a loop does.
use Rattle.std.proofs.Common.{◌≡◌, ℕ, suc, ◌-◌, ◌+◌, ◌≤◌, ◌<◌, List, [], ◌∷◌, ◌++◌, Option, Some, None, refl, sym, ap, ◌∙◌, append_assoc, arith}
use Rattle.std.proofs.Common.{append-nil}
use Rattle.vr_state.specs.Words.{LogEntry}
use Rattle.vr_wire.specs.declared.error.WireError.{WireError}
use Rattle.vr_wire.specs.declared.error.WireError.TheVariants as errors
use Rattle.vr_wire.specs.private.Cutting.{then, Fails, cut_entry, cut_entries}

-- what was cut before, and what is still cut
abbrev pub with_front : List (LogEntry (List ℕ)) → Option (List (LogEntry (List ℕ)) × List ℕ) →
    Option (List (LogEntry (List ℕ)) × List ℕ)
with_front front cut = then cut (λ x. Some (front ++ x.0, x.1))

regroup : (front : List (LogEntry (List ℕ))) (n : LogEntry (List ℕ)) (cut : Option (List (LogEntry (List ℕ))
    × List ℕ)) → with_front front (then cut (λ x. Some (n ∷ x.0, x.1))) ≡ with_front (front ++ n ∷ []) cut
regroup front n (Some x) = ap (λ (ns : List (LogEntry (List ℕ))). Some (ns, x.1))
    (sym (append_assoc front (n ∷ []) x.0))
regroup front n None = refl

pub goes_on : (front : List (LogEntry (List ℕ))) (count i : ℕ) (bytes : List ℕ) (n : LogEntry (List ℕ))
    (after : List ℕ) (total : Option (List (LogEntry (List ℕ)) × List ℕ)) → i < count → cut_entry bytes ≡
    Some (n, after)
    → with_front front (cut_entries (count - i) bytes) ≡ total → with_front (front ++ n ∷ [])
    (cut_entries (count - (i + 1)) after) ≡ total
goes_on front count i bytes n after total lt h so_far =
    let k : count - i ≡ suc (count - (i + 1)) = omega arith in
    let one : with_front front (cut_entries (count - i) bytes) ≡ with_front (front ++ n ∷ [])
    (cut_entries (count - (i + 1)) after) = rw (k, h) (regroup front n (cut_entries (count - (i + 1)) after)) in
    sym one ∙ so_far

pub ends : (e : WireError) (front : List (LogEntry (List ℕ))) (count i : ℕ) (bytes : List ℕ)
    (total : Option (List (LogEntry (List ℕ)) × List ℕ)) → i < count → Fails e (cut_entry bytes)
    → with_front front (cut_entries (count - i) bytes) ≡ total → Fails e total
ends errors.NoMemory front count i bytes total lt h so_far = tt
ends errors.ForeignFrame front count i bytes total lt h so_far = h
ends errors.BadFrame front count i bytes total lt h so_far =
    let k : count - i ≡ suc (count - (i + 1)) = omega arith in
    let one : with_front front (cut_entries (count - i) bytes) ≡ None = rw (k, h) refl in
    sym so_far ∙ one

pub is_done : (front : List (LogEntry (List ℕ))) (count i : ℕ) (bytes : List ℕ)
    (total : Option (List (LogEntry (List ℕ)) × List ℕ)) → count ≤ i →
    with_front front (cut_entries (count - i) bytes) ≡ total → total ≡ Some (front, bytes)
is_done front count i bytes total le so_far =
    let k : count - i ≡ 0 = omega arith in
    let one : with_front front (cut_entries (count - i) bytes) ≡ Some (front, bytes) =
    rw k (ap (λ (ns : List (LogEntry (List ℕ))). Some (ns, bytes)) (append-nil front)) in
    sym so_far ∙ one
