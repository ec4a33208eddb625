-- What search doesn't prove of `resolve_unless_sure`: what it returns, by lemmas of `Rows`.
use Rattle.search_plans.proofs.Rows.{if_ok_weaker}
use Rattle.search_plans.proofs.resolved.resolve_unless_sure.Goals as goal

pub returns-else-is_sure : goal.returns-else-is_sure
returns-else-is_sure g c = if_ok_weaker _ _ (λ r is n sure. is n) c.resolve.result c.resolve.ensures
