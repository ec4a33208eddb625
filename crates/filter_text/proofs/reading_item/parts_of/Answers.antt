-- Filter texts, reading: the goals of `parts_of` that no tactic closes, each by one lemma over plain lists.
use Rattle.std.proofs.Common.{map, ap, ◌∙◌}
use Rattle.std.proofs.lemmas.List.{map_push}
use Rattle.std.proofs.lemmas.Result.{err_from_is_err_and}
use Rattle.std.specs.Option.{option_map}
use Rattle.filter_text.specs.private.Cuts.{tail}
use Rattle.filter_text.proofs.Cuts.{part_fault, part_missing, part_found, last_found, last_missing}
use Rattle.filter_text.proofs.reading_item.parts_of.Goals as goal

pub returns-in_err-part-clause-fault : goal.returns-in_err-part-clause-fault
returns-in_err-part-clause-fault c =
    let p = err_from_is_err_and c.from_residual.result c.from_residual.ensures.1 in
    rw (p.1, p.2)
    (part_fault c.in_err-part.field-0.0
    (part_missing (map (λ v. v.items) c.loop-rest.any.items) c.loop-rest.rest.now c.args.octets.now c.from.result.now
    c.before-in-loop-rest.result.now c.is_nil.result c.loop-rest.invariant c.from.ensures c.is_nil.ensures
    c.loop-rest-test.true c.before-in-loop-rest.ensures)
    c.in_err-part.ensures.fault)

pub loop-rest-preserved : goal.loop-rest-preserved
loop-rest-preserved c =
    let pushed = ap (map (λ v. v.items)) c.in_ok-push.ensures.items ∙ map_push (λ v. v.items) c.loop-rest.any.items
    c.in_ok-part.part in
    let same = c.tail-rest.ensures ∙ ap tail c.from-in-loop-rest.ensures in
    rw (pushed, same)
    (part_found (map (λ v. v.items) c.loop-rest.any.items) c.loop-rest.rest.now c.args.octets.now c.from.result.now
    c.before-in-loop-rest.result.now c.in_ok-part.part.items c.is_nil.result c.loop-rest.invariant c.from.ensures
    c.is_nil.ensures c.loop-rest-test.true c.before-in-loop-rest.ensures c.in_ok-part.ensures.found)

pub returns-in_err-last-clause-fault : goal.returns-in_err-last-clause-fault
returns-in_err-last-clause-fault c =
    let p = err_from_is_err_and c.from_residual-in_err-last.result c.from_residual-in_err-last.ensures.1 in
    rw (p.1, p.2)
    (part_fault c.in_err-last.field-0.0
    (last_missing (map (λ v. v.items) c.loop-rest.any.items) c.loop-rest.rest.now c.args.octets.now c.from.result.now
    c.is_nil.result c.loop-rest.invariant c.from.ensures c.is_nil.ensures c.loop-rest-test.false)
    c.in_err-last.ensures.fault)

pub returns-clause-found : goal.returns-clause-found
returns-clause-found c =
    last_found (map (λ v. v.items) c.loop-rest.any.items) (option_map (λ v. v.items) c.in_ok-last.last)
    c.loop-rest.rest.now c.args.octets.now c.from.result.now c.is_nil.result c.loop-rest.invariant c.from.ensures
    c.is_nil.ensures c.loop-rest-test.false c.in_ok-last.ensures.found
