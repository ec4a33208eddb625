-- LDIF and messages: the goals of `add_lines`.
use Rattle.std.proofs.lemmas.Result.{err_from_is_err_and}
use Rattle.ldif.proofs.Puts.{lines_next, too_long_next}
use Rattle.ldif.proofs.TooLong.{put_to_ask}
use Rattle.ldif.proofs.asking.add_lines.Goals as goal

pub returns-in_err-put_add-in-Some-clause-refused : goal.returns-in_err-put_add-in-Some-clause-refused
returns-in_err-put_add-in-Some-clause-refused c =
    let p = err_from_is_err_and c.from_residual.result c.from_residual.ensures.1 in
    rw (p.1, p.2)
    (put_to_ask c.in_err-put_add-in-Some.field-0.0 c.args.records.now c.loop-index.index c.in-Some.id
    c.index-records-index.result c.loop-index-test.true
    c.index-records-index.is c.in-Some.ensures.0 c.loop-index.invariant.1 c.in_err-put_add-in-Some.ensures.refused)

pub loop-index-preserved : goal.loop-index-preserved
loop-index-preserved c =
    let rs = c.args.records.now in
    let r = c.index-records-index.result in (
      lines_next rs c.loop-index.index c.in-Some.id r c.loop-index.out.items c.put_add.new.out.items _
          c.loop-index-test.true c.index-records-index.is c.in-Some.ensures.0 c.loop-index.invariant.0
          c.in_ok-put_add-in-Some.ensures.ok,
      (λ long. c.loop-index.invariant.1 (too_long_next rs c.loop-index.index r c.loop-index-test.true
          c.index-records-index.is long)),
      c.in-Some.ensures.1,
    )
