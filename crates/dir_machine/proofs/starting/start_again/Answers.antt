-- What search doesn't prove of `start_again`: what it returns, step by step.
use Rattle.std.proofs.Common.{ℕ, Option, Vec, IfOk, sym, subst}
use Rattle.std.specs.Global.{Global}
use Rattle.dir_machine.specs.private.Processes.{IsStarted}
use Rattle.dir_machine.specs.declared.process.Process.TheVariants.{Down}
use Rattle.dir_machine.proofs.starting.start_again.Goals as goal

pub returns-in-None : goal.returns-in-None
returns-in-None c =
    subst (λ (o : Option (Vec ℕ Global)). IfOk c.start_alone.result (λ x. IsStarted c.args.machine.now c.args.replica
    (Down (record { image = c.args.left.image; journal = o })) x.0 x.1)) (sym c.in-None.is) c.start_alone.ensures

pub returns-in-Some : goal.returns-in-Some
returns-in-Some c =
    subst (λ (o : Option (Vec ℕ Global)). IfOk c.start_over.result (λ x. IsStarted c.args.machine.now c.args.replica
    (Down (record { image = c.args.left.image; journal = o })) x.0 x.1)) (sym c.in-Some.is) c.start_over.ensures
