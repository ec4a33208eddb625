-- LDIF and messages: what is wrong with messages is no matter of hex.
use Rattle.std.proofs.Common.{◌≡◌, ℕ, List, [], ◌∷◌, Bool, true, false, cond, nat_eq, Some}
use Rattle.ldif.specs.declared.meant.Meant.{Meant}
use Rattle.ldif.specs.declared.meant.Meant.TheVariants.{Entry, Done, Other}
use Rattle.ldif.specs.declared.refusals.ExportError.{ExportError}
use Rattle.ldif.specs.declared.refusals.ExportError.TheVariants.{BadHexLine, Code, NoDoneMessage, BadMessage, NoMemory}
use Rattle.ldif.specs.Exports.{wrong_behind, first_wrong, AreMeant, IsExportFault}

behind_is_no_hex : (ms : List Meant) (k : ℕ) → wrong_behind ms ≡ Some (BadHexLine k) → ⊥
behind_is_no_hex [] k h = cc
behind_is_no_hex (m ∷ ms) k h = cc

end_is_no_hex : (b : Bool) (n : ℕ) (ms : List Meant) (k : ℕ) → cond b (wrong_behind ms) (Some (Code n)) ≡
    Some (BadHexLine k) → ⊥
end_is_no_hex true n ms k h = behind_is_no_hex ms k h
end_is_no_hex false n ms k h = cc

wrong_is_no_hex : (ms : List Meant) (k : ℕ) → first_wrong ms ≡ Some (BadHexLine k) → ⊥
wrong_is_no_hex [] k h = cc
wrong_is_no_hex (Entry r ∷ ms) k h = wrong_is_no_hex ms k h
wrong_is_no_hex (Done n ∷ ms) k h = end_is_no_hex (nat_eq n 0) n ms k h
wrong_is_no_hex (Other ∷ ms) k h = cc

-- what is wrong first keeps lines from being exported
pub wrong_is_fault : (text : List ℕ) (ms : List Meant) (e : ExportError) → AreMeant text ms → first_wrong ms ≡
    Some e → IsExportFault e text
wrong_is_fault text ms (BadHexLine k) are h = absurd (wrong_is_no_hex ms k h)
wrong_is_fault text ms (Code n) are h = record { meant = ms; are_meant = are; wrong = h }
wrong_is_fault text ms NoDoneMessage are h = record { meant = ms; are_meant = are; wrong = h }
wrong_is_fault text ms BadMessage are h = record { meant = ms; are_meant = are; wrong = h }
wrong_is_fault text ms NoMemory are h = tt
