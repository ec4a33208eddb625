-- What search doesn't prove of `joined`: what it returns with a last part that is filled up, by lemmas of `Wholes`.
use Rattle.std.proofs.Common.{◌∙◌}
use Rattle.std.proofs.lemmas.Result.{IfOk-weaker}
use Rattle.value_parts.specs.KeptParts.{as_part}
use Rattle.value_parts.proofs.Wholes.{filled}
use Rattle.value_parts.proofs.part_list.joined.Goals as goal

pub returns-in_ok-lists-in-Some : goal.returns-in_ok-lists-in-Some
returns-in_ok-lists-in-Some c =
    IfOk-weaker c.extended.result _ _
    (λ v e. e ∙ filled c.pop.new.self.items c.args.parts.items c.in-Some.last (as_part c.in_ok-into_lists-in-Some.field-0)
    (as_part c.in_ok-lists-in-Some.lists) (as_part c.args.more) c.in-Some.ensures.items
    c.in_ok-into_lists-in-Some.ensures.values c.in_ok-into_lists-in-Some.ensures.keys
    c.in_ok-into_lists-in-Some.ensures.forms c.in_ok-lists-in-Some.ensures.values c.in_ok-lists-in-Some.ensures.keys
    c.in_ok-lists-in-Some.ensures.forms) c.extended.ensures
