-- The laws of the order of octet strings.
use Rattle.std.proofs.Common.{List, ℕ, sym, ◌∙◌}
use Rattle.std.specs.Ordering.{nat_cmp, eq_by_cmp}
use Rattle.std.specs.Str.{bytes_eq}
use Rattle.std.specs.Cmp.{IsEquivalence, eq_by_cmp_equiv}
use Rattle.std.specs.Cmp.Lexicographic.{slice_cmp, nat_list_cmp_total, texts_ties}

-- to be the same octets is an equivalence
pub octets_equiv : IsEquivalence {K = List ℕ} bytes_eq
octets_equiv =
    let h = texts_ties in
    let e : IsEquivalence (eq_by_cmp (slice_cmp nat_cmp)) = eq_by_cmp_equiv nat_list_cmp_total in
    record {
      refl = λ x. h x x ∙ e.refl x;
      symm = λ x y. h x y ∙ e.symm x y ∙ sym (h y x);
      congr = λ x y z g. h x z
          ∙ e.congr x y z (sym (h x y) ∙ g) ∙ sym (h y z);
    }
