-- What search doesn't prove of `gather_high`: `loop-place-preserved`, by lemmas of `Ranked`.
use Rattle.std.proofs.Common.{◌+◌, length, sym, ◌∙◌}
use Rattle.ldap_schema.proofs.Ranked.{cut_goes_on}
use Rattle.ldap_schema.proofs.lines.gather_high.Goals as goal

pub loop-place-preserved : goal.loop-place-preserved
loop-place-preserved c =
    cut_goes_on (length c.args.named.now + length c.args.classes.now) c.args.classes.now c.args.ranks.now c.args.low
    c.loop-place.place c.in-Some.class c.loop-place.have c.add_missing.new.have
    c.as_slice.result.now c.superclasses_of.result.now _ c.loop-place-test.true (sym c.at.ensures ∙ c.in-Some.is)
    c.superclasses_of.ensures (c.as_slice.ensures.value ∙ c.in_ok-above.ensures)
    c.in_ok-add_missing.ensures c.loop-place.invariant
