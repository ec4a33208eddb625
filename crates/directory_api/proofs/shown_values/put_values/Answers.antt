-- What search doesn't prove of `put_values`: the loop, and what it returns, by lemmas of `ShownValues` and `Puts`
-- (`ldap_msg`).
use Rattle.std.proofs.Common.{drop, length, refl}
use Rattle.std.proofs.lemmas.Result.{err_from_is_err_and}
use Rattle.ldap_msg.proofs.ldap_ber.Puts.{kept_same, kept_more}
use Rattle.directory_api.proofs.ShownValues.{written_first, written_more, written_all, part_long}
use Rattle.directory_api.proofs.shown_values.put_values.Goals as goal

pub loop-part-init : goal.loop-part-init
loop-part-init c = record {
  written = written_first c.args.out.now.items c.parts-rest.result.values c.args.attribute.now.values c.parts-rest.ensures.values;
  kept = kept_same _ _ refl;
}

pub loop-part-preserved : goal.loop-part-preserved
loop-part-preserved c = record {
  written = written_more c.args.out.now.items c.loop-part.out.items c.put_part.new.out.items c.loop-part.rest.values
      c.in-Some.part.values.now c.in-Some.others.values c.args.attribute.now.values c.in-Some.ensures.values
      c.in_ok-put_part.ensures.ok c.loop-part.invariant.written;
  kept = kept_more _ c.loop-part.out.items _ (drop (length c.args.out.now.items) c.loop-part.out.items)
      c.loop-part.invariant.kept c.put_part.ensures.kept;
}

pub returns-in_err-put_part-clause-too_long : goal.returns-in_err-put_part-clause-too_long
returns-in_err-put_part-clause-too_long c =
    let p = err_from_is_err_and c.from_residual.result c.from_residual.ensures.1 in
    rw (p.1, p.2) (λ h. part_long c.args.out.now.items c.loop-part.out.items c.loop-part.rest.values
    c.in-Some.part.values.now c.in-Some.others.values c.args.attribute.now.values 4294967296 c.in-Some.ensures.values
    c.loop-part.invariant.written c.loop-part.invariant.kept (c.in_err-put_part.ensures.too_long h))

pub returns-in_err-put_part-clause-kept : goal.returns-in_err-put_part-clause-kept
returns-in_err-put_part-clause-kept c = kept_more _ c.loop-part.out.items _
    (drop (length c.args.out.now.items) c.loop-part.out.items) c.loop-part.invariant.kept c.in_err-put_part.ensures.kept

pub returns-clause-ok : goal.returns-clause-ok
returns-clause-ok c = written_all c.args.out.now.items c.loop-part.out.items c.loop-part.rest.values
    c.args.attribute.now.values c.in_default.ensures.values c.loop-part.invariant.written

pub returns-clause-kept : goal.returns-clause-kept
returns-clause-kept c = c.loop-part.invariant.kept
