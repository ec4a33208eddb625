-- Filter texts, reading: the goals of `item_of` that no tactic closes, each by one lemma over plain lists.
use Rattle.std.proofs.Common.{◌≡◌, List, ℕ, None, suc, sym, subst, ◌∙◌}
use Rattle.std.proofs.lemmas.Result.{err_from_is_err_and}
use Rattle.filter_text.specs.private.Cuts.{item_of}
use Rattle.filter_text.specs.private.Reads.{PartFault, IsItemRead}
use Rattle.filter_text.proofs.Rows.{item_open, item_fails, item_reads}
use Rattle.filter_text.proofs.reading.item_of.Goals as goal

pub returns-in-None-clause-fault : goal.returns-in-None-clause-fault
returns-in-None-clause-fault c = λ limit t rest p. item_open c.args.text.now c.requires.and c.requires.or
    c.requires.not (λ x e. c.in-None.ensures x (c.from.ensures ∙ e)) t rest p

pub returns-in_err-filter-clause-fault : goal.returns-in_err-filter-clause-fault
returns-in_err-filter-clause-fault c = λ limit.
    let p = err_from_is_err_and c.from_residual.result c.from_residual.ensures.1 in
    rw (p.1, p.2)
    (item_fails c.in_err-filter.field-0.0 limit (suc c.args.items) c.args.text.now c.requires.and c.requires.or
    c.requires.not
    (subst (λ (b : List ℕ). PartFault c.in_err-filter.field-0.0 (item_of b ≡ None)) c.before-2.ensures
    c.in_err-filter.ensures.fault))

pub returns-clause-found : goal.returns-clause-found
returns-clause-found c = λ limit.
    item_reads limit c.args.items c.args.text.now c.in_ok-filter.filter c.in-Some.rest.now c.requires.and
    c.requires.or c.requires.not
    (subst (λ (b : List ℕ). IsItemRead (item_of b) c.in_ok-filter.filter) c.before-2.ensures
    c.in_ok-filter.ensures.found) (sym c.from.ensures ∙ c.in-Some.ensures)
