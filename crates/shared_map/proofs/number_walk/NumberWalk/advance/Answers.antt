-- What search doesn't prove of `advance`: the invariant and what it returns, by lemmas of `Ahead`.
use Rattle.std.proofs.Common.{sym, ap, ◌∙◌}
use Rattle.std.specs.Prelude.{slice_get}
use Rattle.shared_map.proofs.Ahead.{run_is, step_amid, step_value}
use Rattle.shared_map.proofs.number_walk.NumberWalk.advance.Goals as goal

pub invariant_of-self-in-len1-up : goal.invariant_of-self-in-len1-up
invariant_of-self-in-len1-up c =
    step_amid _ _ c.self.inside.rest.now _ _ c.args.number c.self.invariant (run_is c.self.inside.rest.now _
    c.in-len1-up.len_at_least) (ap (λ l. slice_get l 0) c.self.view_is ∙ c.requires)

pub returns-in-len1-up : goal.returns-in-len1-up
returns-in-len1-up c =
    sym c.self.view_is ∙ step_value _ _ c.self.inside.rest.now _ _ c.args.number c.self.invariant
    (run_is c.self.inside.rest.now _ c.in-len1-up.len_at_least) (ap (λ l. slice_get l 0) c.self.view_is
    ∙ c.requires)
