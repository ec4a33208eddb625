-- What search doesn't prove of `say_found`: what it returns, by lemmas of `EntryLists`.
use Rattle.std.proofs.Common.{ap, map, Err}
use Rattle.std.proofs.lemmas.Result.{err_from_is_err_and}
use Rattle.request_checks.specs.ldap_msg.Messages.{ResponseValue}
use Rattle.request_checks.specs.ldap_msg.View.{response_view}
use Rattle.directory_api.specs.FoundView.{found_view}
use Rattle.request_checks.specs.Messages.{message, number_told, entry_messages}
use Rattle.session_handler.specs.declared.answered.Next.TheVariants.{GoesOn}
use Rattle.session_handler.proofs.EntryLists.{said_error, too_long_front, said_last}
use Rattle.session_handler.proofs.responses.say_found.Goals as goal

pub returns-in_err-responses : goal.returns-in_err-responses
returns-in_err-responses c =
    let p = err_from_is_err_and c.from_residual.result c.from_residual.ensures.1 in
    rw (p.1, p.2) (said_error _ _ c.in_err-responses.field-0.0
    (λ is. too_long_front _ _ (c.in_err-responses.ensures.too_long (ap Err is))))

pub returns : goal.returns
returns c =
    said_last (entry_messages c.args.id (map found_view c.args.found.answer.entries.items))
    (message c.args.id (response_view c.reply_to-done.result) (number_told c.args.asked c.args.found.at)) _
    c.in_ok-responses.responses GoesOn c.with_last.result
    c.in_ok-responses.ensures.ok
    (ap (λ (r : ResponseValue). message c.args.id r (number_told c.args.asked c.args.found.at))
    c.reply_to-done.ensures)
    c.with_last.ensures.written c.with_last.ensures.next c.with_last.ensures.too_long
