-- What search doesn't prove of `write`: what it returns where a message can't be sent.
use Rattle.std.proofs.Common.{ℕ, Option, Vec, length, refl, sym, ◌∙◌, subst}
use Rattle.std.specs.Global.{Global}
use Rattle.dir_machine.specs.private.Hearing.{AreWrittenOr}
use Rattle.dir_machine.proofs.framing.write.Goals as goal

pub returns-in-None-2 : goal.returns-in-None-2
returns-in-None-2 c = (
  refl,
  c.in-Some.message,
  sym c.in_ok-copy_message_at.ensures ∙ c.in-Some.is,
  subst (λ (o : Option (Vec (Vec ℕ Global) Global)). AreWrittenOr c.args.cluster (length c.args.shown.now) c.args.sizes
      c.in-Some.message o) c.in-None-2.is c.in_ok-frames_of-in-Some.ensures,
)
