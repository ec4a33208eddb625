-- What search doesn't prove of `entry_responses`: the clause `too_long` and `loop-entry-preserved`, by lemmas of
-- `EntryLists`.
use Rattle.std.proofs.Common.{rules}
use Rattle.std.proofs.lemmas.Result.{err_from_is_err_and}
use Rattle.session_handler.proofs.EntryLists.{same_error, too_long_at, too_long_more, written_more}
use Rattle.request_checks.specs.declared.fault.AnswerError.TheVariants as AnswerError
use Rattle.session_handler.proofs.responses.entry_responses.Goals as goal

pub returns-in_err-put_found-clause-too_long : goal.returns-in_err-put_found-clause-too_long
returns-in_err-put_found-clause-too_long c =
    let p = err_from_is_err_and c.from_residual-in_err-put_found.result c.from_residual-in_err-put_found.ensures.1 in
    rw (p.1, p.2) (λ h. let long = c.in_err-put_found.ensures.too_long (same_error c.in_err-put_found.field-0.0
    AnswerError.TooLong h) in
    c.loop-entry.invariant.2 (too_long_at c.args.id c.deref-entry-items.result.now c.loop-entry.entry-index
    c.entry-item.result c.loop-entry-test.true c.entry-item.is long))

pub loop-entry-preserved : goal.loop-entry-preserved
loop-entry-preserved c =
    let more = written_more c.args.id c.deref-entry-items.result.now c.loop-entry.entry-index c.entry-item.result
    c.loop-entry.lengths.items c.loop-entry.octets.items
    c.push.new.self.items c.put_found.new.octets.items _ _
    c.loop-entry-test.true c.entry-item.is c.loop-entry.invariant.0 c.in_ok-put_found.ensures.ok (search rules)
    c.in_ok-push.ensures.ok c.loop-entry.invariant.1 in (
      more.0,
      more.1,
      λ h. c.loop-entry.invariant.2 (too_long_more c.args.id c.deref-entry-items.result.now c.loop-entry.entry-index
          c.entry-item.result c.loop-entry-test.true c.entry-item.is h),
    )
