-- The goals of `copy` that no tactic closes, each by one lemma over plain lists.
use Rattle.std.proofs.Common.{ℕ, ◌+◌, ◌<◌, ◌≡◌, List, [], ◌∷◌, ◌++◌, length, get_or, take, ap, ap₂, sym, ◌∙◌}
use Rattle.std.proofs.lemmas.List.{take_more}
use Rattle.ldap_filter.specs.View.{view}
use Rattle.ldap_filter.specs.private.View.{views}
use Rattle.ldap_filter.specs.declared.tree.Filter.{Filter}
use Rattle.ldap_filter.proofs.Rows.{push, views_push}
use Rattle.ldap_filter.proofs.copying.+copy.Goals as goal

copy_step : (old new fs : List Filter) (i : ℕ) (f g : Filter) → i < length fs → f ≡ get_or fs i f →
    views old ≡ views (take i fs) → new ≡ old ++ g ∷ [] → view g ≡ view f → views new ≡ views (take (i + 1) fs)
copy_step old new fs i f g lt is so_far pushed same =
    ap views pushed ∙ views_push old g ∙ ap₂ push so_far (same ∙ ap view is) ∙ sym (ap views (take_more fs i f lt)
    ∙ views_push (take i fs) (get_or fs i f))

pub copy_row-loop-filter-preserved : goal.copy_row-loop-filter-preserved
copy_row-loop-filter-preserved t c =
    copy_step c.loop-filter.copies.items c.push.new.self.items c.args.filters.now c.loop-filter.filter-index
    c.filter-item.result c.in_ok-copy_filter.field-0 c.loop-filter-test.true c.filter-item.is
    c.loop-filter.invariant c.in_ok-push.ensures.items c.in_ok-copy_filter.ensures
