-- Filter texts, printing: the goals of `print_text` that no tactic closes.
use Rattle.std.proofs.Common.{◌≡◌, ℕ, List, [], Bool, true, false, sym, refl, ap, ◌++◌, subst, ◌∙◌}
use Rattle.ldap_filter.specs.View.{view}
use Rattle.ldap_filter.specs.Tree.{Tree}
use Rattle.filter_text.specs.Grammar.{has_text, IsFilterText, filter_text}
use Rattle.filter_text.proofs.Spelled.{filter_spells, spelled_filter}
use Rattle.filter_text.proofs.printing.print_text.Goals as goal

no_text : (b : Bool) (t : Tree) → b ≡ has_text t → b ≡ false → (text : List ℕ) → IsFilterText t text → ⊥
no_text b t e f text p = absurd (differ (sym f ∙ e ∙ spelled_filter t text [] p))
  where
    differ : false ≡ true → ⊥
    differ h = cc

pub returns-then-not-has_text-clause-refused : goal.returns-then-not-has_text-clause-refused
returns-then-not-has_text-clause-refused c =
    (refl, no_text c.has_text.result (view c.args.filter.now) c.has_text.ensures c.if-not-has_text.true)

pub returns-clause-spells : goal.returns-clause-spells
returns-clause-spells c =
    subst (IsFilterText (view c.args.filter.now)) (sym (c.in_ok-put_filter.ensures.ok
    ∙ ap (λ (x : List ℕ). x ++ filter_text (view c.args.filter.now)) c.new-out.ensures.bytes))
    (filter_spells (view c.args.filter.now) [] (sym c.has_text.ensures ∙ c.if-not-has_text.false))
