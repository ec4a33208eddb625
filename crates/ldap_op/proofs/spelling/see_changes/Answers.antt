-- What search doesn't prove of `see_changes`: `loop-change-preserved` and what it returns, by lemmas of `Texts`.
use Rattle.std.proofs.Common.{ℕ, List, subst}
use Rattle.std.specs.Str.{IsUtf8}
use Rattle.ldap_parts.specs.UpdateView.{change_view}
use Rattle.ldap_op.proofs.Texts.{all_more_at, all_done}
use Rattle.ldap_op.proofs.spelling.see_changes.Goals as goal

pub loop-change-preserved : goal.loop-change-preserved
loop-change-preserved c = all_more_at (λ k. IsUtf8 k.modification.description) change_view c.args.changes.now
    c.loop-change.change-index c.change-item.result
    c.loop-change-test.true c.change-item.is c.loop-change.invariant (subst (λ (l : List ℕ). IsUtf8 l)
    c.as_str.ensures.value c.as_str.utf8)

pub returns : goal.returns
returns c = all_done (λ k. IsUtf8 k.modification.description) change_view c.args.changes.now
    c.loop-change.change-index c.loop-change-test.false c.loop-change.invariant
