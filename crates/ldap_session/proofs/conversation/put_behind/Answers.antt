-- What search doesn't prove of `put_behind`: what it returns, by lemmas of `Kept`.
use Rattle.std.proofs.Common.{List, ℕ, sym, ap, ◌∙◌, ◌++◌}
use Rattle.ldap_session.proofs.Kept.{none_grown, all_grown, filled}
use Rattle.ldap_session.proofs.conversation.put_behind.Goals as goal

pub returns-then-len-ge-LARGE : goal.returns-then-len-ge-LARGE
returns-then-len-ge-LARGE c = filled c.args.octets.now.items _ _ (sym c.is_empty.ensures ∙ c.if-is_empty.true)
    c.from_vec.ensures

pub returns-in-Ok : goal.returns-in-Ok
returns-in-Ok c = all_grown _ _ _ (c.in-Ok.ensures.ok ∙ ap (λ (l : List ℕ). c.args.octets.now.items ++ l)
    c.deref.ensures.value)

pub returns : goal.returns
returns c = none_grown _ _ _ c.in-Err.ensures.err
