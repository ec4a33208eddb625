-- The goals of `any_parts` that no tactic closes, each by one lemma over plain lists.
use Rattle.std.proofs.Common.{map, ap, ◌∙◌}
use Rattle.std.proofs.lemmas.List.{map_push}
use Rattle.std.proofs.lemmas.Result.{err_from_is_err_and}
use Rattle.ldap_ber.proofs.Same.{plain_weaker}
use Rattle.ldap_filter.proofs.Exits.{one_more_part, all_parts, no_part}
use Rattle.ldap_filter.proofs.parts.any_parts.Goals as goal

pub returns-in_err-part-clause-fault : goal.returns-in_err-part-clause-fault
returns-in_err-part-clause-fault c =
    let p = err_from_is_err_and c.from_residual.result c.from_residual.ensures.1 in
    rw (p.1, p.2) (plain_weaker c.in_err-part.field-0.0 _ _ (no_part c.args.octets.now c.loop-alloc.rest.now
    (map (λ v. v.items) c.loop-alloc.parts.items) c.loop-alloc.invariant c.loop-alloc-test.ensures.yes)
    c.in_err-part.ensures.fault)

pub loop-alloc-preserved : goal.loop-alloc-preserved
loop-alloc-preserved c =
    one_more_part c.args.octets.now (map (λ v. v.items) c.loop-alloc.parts.items)
    (map (λ v. v.items) c.push.new.self.items) c.loop-alloc.rest.now c.in_ok-part.part.items c.in_ok-part.after.now
    c.loop-alloc.invariant c.loop-alloc-test.ensures.yes c.in_ok-part.ensures.found
    (ap (map (λ v. v.items)) c.in_ok-push.ensures.items ∙ map_push (λ v. v.items) c.loop-alloc.parts.items
    c.in_ok-part.part)

pub returns-clause-found : goal.returns-clause-found
returns-clause-found c = all_parts c.args.octets.now c.loop-alloc.rest.now
    (map (λ v. v.items) c.loop-alloc.parts.items) c.loop-alloc.invariant c.loop-alloc-test.ensures.no
