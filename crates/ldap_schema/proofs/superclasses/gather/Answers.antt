-- What search doesn't prove of `gather`: `loop-place-preserved`, by lemmas of `Filling`.
use Rattle.std.proofs.Common.{◌+◌, length, sym, ◌∙◌}
use Rattle.ldap_schema.proofs.Filling.{fill_step}
use Rattle.ldap_schema.proofs.superclasses.gather.Goals as goal

pub loop-place-preserved : goal.loop-place-preserved
loop-place-preserved c =
    fill_step (length c.args.named.now + length c.args.classes.now) c.args.classes.now c.loop-place.place
    c.in-Some.class c.loop-place.have c.add_missing.new.have c.superclasses_of.result.now _
    c.loop-place-test.true (sym c.at.ensures ∙ c.in-Some.is) c.superclasses_of.ensures c.in_ok-add_missing.ensures
    c.loop-place.invariant
