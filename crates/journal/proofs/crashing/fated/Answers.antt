-- What search doesn't prove of `fated`: what it returns, by lemmas of `Mixing`.
use Rattle.std.proofs.Common.{List, ℕ, sym, subst}
use Rattle.std.proofs.lemmas.Result.{IfOk-weaker}
use Rattle.journal.specs.Device.{Mixed}
use Rattle.journal.proofs.Mixing.{first_mixed}
use Rattle.journal.proofs.crashing.fated.Goals as goal

pub returns : goal.returns
returns c =
    IfOk-weaker c.spliced.result _ _ (λ r is.
    subst (λ (l : List ℕ). Mixed c.args.at c.args.octets.now c.args.image.now l) (sym is)
    (first_mixed c.args.at c.args.octets.now c.args.image.now c.requires c.lasting-lasting.result
    c.lasting-lasting.ensures)) c.spliced.ensures
