-- Lists of classes filled with superclasses, a step at a time.
use Rattle.std.proofs.Common.{ℕ, ◌+◌, ◌-◌, ◌<◌, suc, List, Some, ◌≡◌, refl, ap, sym, ◌∙◌, arith}
use Rattle.std.specs.List.{slice_get}
use Rattle.ldap_schema.specs.Schema.{ClassModel}
use Rattle.ldap_schema.specs.Superclasses.{direct_superclasses, with_missing, filled_from}

pub fill_one : (m k : ℕ) (classes : List ClassModel) (i c : ℕ) (have : List ℕ) → m ≡ suc k → slice_get have i ≡
    Some c → filled_from m classes i have ≡ filled_from k classes (i + 1)
    (with_missing have (direct_superclasses classes c))
fill_one m k classes i c have e is = rw (e, is) refl

pub fill_step : (n : ℕ) (classes : List ClassModel) (i c : ℕ) (have new up : List ℕ) (all : List ℕ) → i < n →
    slice_get have i ≡ Some c → up ≡ direct_superclasses classes c → new ≡ with_missing have up
    → filled_from (n - i) classes i have ≡ all → filled_from (n - (i + 1)) classes (i + 1) new ≡ all
fill_step n classes i c have new up all lt is ups news so_far =
    ap (filled_from (n - (i + 1)) classes (i + 1)) (news ∙ ap (with_missing have) ups)
    ∙ sym (fill_one (n - i) (n - (i + 1)) classes i c have (omega arith) is)
    ∙ so_far
