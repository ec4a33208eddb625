-- Keywords in their order, one piece after the other.
use Rattle.std.proofs.Common.{◌≡◌, ℕ, ◌+◌, ◌<◌, List, [], Bool, true, false, Option, Bor, map, drop, length, ap, sym, ◌∙◌, add-one}
use Rattle.std.proofs.Math.Seq.{drop-cons}
use Rattle.schema_faults.specs.declared.forms.Lines.{Lines}
use Rattle.schema_faults.specs.Forms.{FormModel}
use Rattle.schema_faults.specs.Descriptions.{order_fault_from}

-- a piece that is an argument
pub argument_skipped : (ls : Lines) (last : Option FormModel) (pieces : List (Bor (List ℕ))) (i : ℕ) (b : Bool)
    (whole : List ℕ) → i < length pieces → b ≡ true
    → order_fault_from ls b last (map (λ x. x.now) (drop i pieces)) ≡ whole → order_fault_from ls false last
    (map (λ x. x.now) (drop (i + 1) pieces)) ≡ whole
argument_skipped ls last pieces i b whole lt e w =
    let nothing : Bor (List ℕ) = record { ref_ptr = (0, 0); now = [] } in
    let step : order_fault_from ls b last (map (λ x. x.now) (drop i pieces)) ≡ order_fault_from ls false last
    (map (λ x. x.now) (drop (i + 1) pieces)) =
    ap (λ v. order_fault_from ls v last (map (λ x. x.now) (drop i pieces))) e
    ∙ ap (λ (ps : List (Bor (List ℕ))). order_fault_from ls true last (map (λ x. x.now) ps))
    (drop-cons pieces i nothing lt)
    ∙ ap (λ k. order_fault_from ls false last (map (λ x. x.now) (drop k pieces))) (sym (add-one i))
    in
    sym step ∙ w
