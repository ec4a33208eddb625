-- What search doesn't prove of `answer_lines`: `loop-number-init`, the clause `err`, the clause `ok` and
-- `loop-number-preserved`, by lemmas of `Reading`.
use Rattle.std.proofs.Common.{refl}
use Rattle.std.proofs.lemmas.Result.{err_from_is_err_and}
use Rattle.ldap_session.specs.session_handler.View.{config_view}
use Rattle.ldap_session.specs.View.{session_view}
use Rattle.local_directory.specs.declared.answering.Flow.TheVariants.{Goes, Ends}
use Rattle.local_directory.specs.declared.line_fault.LineFault.TheVariants.{CannotRead}
use Rattle.local_directory.proofs.Reading.{begun, takes_as, line_taken, line_ends, line_fails_as, answer_fails, unread}
use Rattle.local_directory.proofs.answering.answer_lines.Goals as goal

pub loop-number-init : goal.loop-number-init
loop-number-init g c =
    begun g.D.Directory.allows (config_view c.args.config.now) c.args.directory.now
    (session_view c.new-session.result) (g.R.Read.remaining c.args.input.now) (g.W.Write.contents c.args.output.now)
    c.new-session.ensures.stream c.new-session.ensures.ready c.new-session.ensures.fault c.new-session.ensures.state

pub returns-in_err-line-clause-err : goal.returns-in_err-line-clause-err
returns-in_err-line-clause-err g c =
    let p = err_from_is_err_and c.from_residual.result c.from_residual.ensures.1 in
    line_fails_as g.D.Directory.allows (config_view c.args.config.now) c.args.directory.now c.loop-number.directory
    (session_view c.loop-number.session) (g.R.Read.remaining c.args.input.now)
    (g.R.Read.remaining c.loop-number.input) (g.W.Write.contents c.args.output.now)
    (g.W.Write.contents c.loop-number.output)
    c.loop-number.number c.from_residual.result p.0 c.in_err-line.field-0.0 p.1 p.2 c.loop-number.invariant
    c.in_err-line.ensures.err

pub returns-in-Ok-Ends-clause-ok : goal.returns-in-Ok-Ends-clause-ok
returns-in-Ok-Ends-clause-ok g c =
    line_ends g.D.Directory.allows (config_view c.args.config.now) c.args.directory.now c.loop-number.directory
    c.answer_line.new.directory (session_view c.loop-number.session) (session_view c.answer_line.new.session)
    (g.R.Read.remaining c.args.input.now)
    (g.R.Read.remaining c.loop-number.input) (g.R.Read.remaining c.next_piece.new.input)
    (g.W.Write.contents c.args.output.now) (g.W.Write.contents c.loop-number.output)
    (g.W.Write.contents c.answer_line.new.output)
    c.loop-number.number c.in_ok-line.line (Ends c.in-Ok-Ends.end) c.in-Ok-Ends.end c.loop-number.invariant
    c.in_ok-line.ensures.ok
    (takes_as g.D.Directory.allows (config_view c.args.config.now) c.loop-number.directory c.answer_line.new.directory
    (session_view c.loop-number.session) (session_view c.answer_line.new.session) c.in_ok-line.line
    (g.W.Write.contents c.loop-number.output) (g.W.Write.contents c.answer_line.new.output) c.answer_line.result
    c.in-Ok-Ends.field-0 (Ends c.in-Ok-Ends.end) c.in-Ok-Ends.is c.in-Ok-Ends.field-0-is c.answer_line.ensures.ok)
    refl

pub returns-in-Err-clause-err : goal.returns-in-Err-clause-err
returns-in-Err-clause-err g c =
    answer_fails g.D.Directory.allows (config_view c.args.config.now) c.args.directory.now c.loop-number.directory
    c.answer_line.new.directory (session_view c.loop-number.session) (g.R.Read.remaining c.args.input.now)
    (g.R.Read.remaining c.loop-number.input) (g.R.Read.remaining c.next_piece.new.input)
    (g.W.Write.contents c.args.output.now) (g.W.Write.contents c.loop-number.output)
    (g.W.Write.contents c.answer_line.new.output)
    c.loop-number.number c.in_ok-line.line c.in-Err.fault c.loop-number.invariant c.in_ok-line.ensures.ok
    c.in-Err.ensures.err

pub loop-number-preserved : goal.loop-number-preserved
loop-number-preserved g c =
    line_taken g.D.Directory.allows (config_view c.args.config.now) c.args.directory.now c.loop-number.directory
    c.answer_line.new.directory (session_view c.loop-number.session) (session_view c.answer_line.new.session)
    (g.R.Read.remaining c.args.input.now)
    (g.R.Read.remaining c.loop-number.input) (g.R.Read.remaining c.next_piece.new.input)
    (g.W.Write.contents c.args.output.now) (g.W.Write.contents c.loop-number.output)
    (g.W.Write.contents c.answer_line.new.output)
    c.loop-number.number c.in_ok-line.line Goes c.loop-number.invariant c.in_ok-line.ensures.ok
    (takes_as g.D.Directory.allows (config_view c.args.config.now) c.loop-number.directory c.answer_line.new.directory
    (session_view c.loop-number.session) (session_view c.answer_line.new.session) c.in_ok-line.line
    (g.W.Write.contents c.loop-number.output) (g.W.Write.contents c.answer_line.new.output) c.answer_line.result
    c.in-Ok-Goes.field-0 Goes c.in-Ok-Goes.is c.in-Ok-Goes.field-0-is c.answer_line.ensures.ok) refl

pub returns-clause-err : goal.returns-clause-err
returns-clause-err g c =
    unread g.D.Directory.allows (config_view c.args.config.now) c.args.directory.now c.loop-number.directory
    (session_view c.loop-number.session) (g.R.Read.remaining c.args.input.now)
    (g.R.Read.remaining c.loop-number.input) (g.W.Write.contents c.args.output.now)
    (g.W.Write.contents c.loop-number.output)
    c.loop-number.number CannotRead c.loop-number.invariant tt
