-- Rows of a table of metrics, one behind the other.
use Rattle.std.proofs.Common.{◌≡◌, ℕ, List, [], ◌∷◌, ◌++◌, OnOk, Result, ap, flat_map, ◌∙◌}
use Rattle.std.proofs.lemmas.Grind.{flat_map-append}
use Rattle.std.proofs.lemmas.List.{append-nil}
use Rattle.status_page.specs.declared.samples.Metric.{Metric}
use Rattle.status_page.specs.private.Rows.{metric_text}
use Rattle.status_page.proofs.Written.{appended_as}

-- rows, with their octets
pub record Rows (rows : List Metric) (octets : List ℕ) : Type 0 where
  pub are : flat_map metric_text rows ≡ octets

-- one row
pub row : (r : Metric) (octets : List ℕ) → metric_text r ≡ octets → Rows (r ∷ []) octets
row r octets e = record { are = append-nil (metric_text r) ∙ e }

-- rows, and others behind them
infixl 30 ◌▸◌
pub ◌▸◌ : {rs ss : List Metric} {xs ys : List ℕ} → Rows rs xs → Rows ss ys → Rows (rs ++ ss) (xs ++ ys)
◌▸◌ {rs} {ss} {xs} {ys} a b = record {
  are = flat_map-append metric_text rs ss
      ∙ (ap (λ z. z ++ flat_map metric_text ss) a.are ∙ ap (λ z. xs ++ z) b.are);
}

-- what a call adds that adds all rows
pub added : {T E : Type 0} {rs : List Metric} {xs : List ℕ} (r : Result T E) (before after : List ℕ) → Rows rs xs →
    OnOk r (after ≡ before ++ flat_map metric_text rs) → OnOk r (after ≡ before ++ xs)
added {rs = rs} {xs = xs} r before after a h = appended_as r before after (flat_map metric_text rs) xs a.are h
