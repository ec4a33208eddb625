-- What search doesn't prove of `serve`: `loop-init`, what it returns and `loop-preserved`, by lemmas of `Served`.
use Rattle.std.proofs.Common.{subst}
use Rattle.std.proofs.KnownBytes.{Consumes-nil}
use Rattle.session_handler.specs.View.{config_view}
use Rattle.ldap_session.specs.View.{conversation_view}
use Rattle.ldap_session.specs.private.Steps.{HasGot}
use Rattle.ldap_session.specs.declared.serving.Got.{Got}
use Rattle.ldap_session.specs.declared.serving.Got.TheVariants.{Octets, End}
use Rattle.ldap_session.proofs.Served.{going_first, going_on, going_ends, served_last, served_failed}
use Rattle.ldap_session.proofs.serving.serve.Goals as goal

pub loop-init : goal.loop-init
loop-init g c =
    let f = c.new-conversation.ensures in (
      going_first g.D.Directory.allows (config_view c.args.config.now) c.args.directory.now
          (conversation_view c.new-conversation.result).session (g.R.Read.remaining c.args.reader.now)
          (g.W.Write.contents c.args.writer.now)
          f.seen f.none_ready f.no_fault f.state,
      record { none_unsent = f.unsent; goes_on = f.goes_on },
    )

pub returns-in-End : goal.returns-in-End
returns-in-End g c =
    let got : HasGot (g.R.Read.remaining c.loop.reader) (g.R.Read.remaining c.read_some.new.reader)
    c.read_some.new.buffer End =
    subst (λ (r : Got). HasGot (g.R.Read.remaining c.loop.reader) (g.R.Read.remaining c.read_some.new.reader)
    c.read_some.new.buffer r) c.in-End.is c.read_some.ensures in
    served_last g.D.Directory.allows (config_view c.args.config.now) c.args.directory.now c.loop.directory
    (conversation_view c.loop.conversation).session
    (g.R.Read.remaining c.args.reader.now) (g.R.Read.remaining c.loop.reader)
    (g.R.Read.remaining c.read_some.new.reader) (g.W.Write.contents c.args.writer.now)
    (g.W.Write.contents c.loop.writer)
    c.end_of_input.result c.loop.invariant.0 got.0 got.1 c.end_of_input.ensures

pub returns-in-Failed : goal.returns-in-Failed
returns-in-Failed g c =
    served_failed g.D.Directory.allows (config_view c.args.config.now) c.args.directory.now c.loop.directory
    (conversation_view c.loop.conversation).session
    (g.R.Read.remaining c.args.reader.now) (g.R.Read.remaining c.loop.reader)
    (g.R.Read.remaining c.read_some.new.reader) (g.W.Write.contents c.args.writer.now)
    (g.W.Write.contents c.loop.writer)
    c.loop.invariant.0 c.in-Failed.ensures

pub returns-in-Ends : goal.returns-in-Ends
returns-in-Ends g c =
    let got : HasGot (g.R.Read.remaining c.loop.reader) (g.R.Read.remaining c.read_some.new.reader)
    c.read_some.new.buffer (Octets c.in-Octets.count) =
    subst (λ (r : Got). HasGot (g.R.Read.remaining c.loop.reader) (g.R.Read.remaining c.read_some.new.reader)
    c.read_some.new.buffer r) c.in-Octets.is c.read_some.ensures in
    going_ends g.D.Directory.allows (config_view c.args.config.now) c.args.directory.now c.loop.directory
    c.answer_piece.new.directory (conversation_view c.loop.conversation).session
    (conversation_view c.answer_piece.new.conversation).session
    (g.R.Read.remaining c.args.reader.now) (g.R.Read.remaining c.loop.reader)
    (g.R.Read.remaining c.read_some.new.reader)
    (g.W.Write.contents c.args.writer.now) (g.W.Write.contents c.loop.writer)
    (g.W.Write.contents c.answer_piece.new.writer)
    _ c.in-Ends.end c.loop.invariant.0 got.1 c.in-Ends.ensures.fed

pub loop-preserved : goal.loop-preserved
loop-preserved g c =
    let got : HasGot (g.R.Read.remaining c.loop.reader) (g.R.Read.remaining c.read_some.new.reader)
    c.read_some.new.buffer (Octets c.in-Octets.count) =
    subst (λ (r : Got). HasGot (g.R.Read.remaining c.loop.reader) (g.R.Read.remaining c.read_some.new.reader)
    c.read_some.new.buffer r) c.in-Octets.is c.read_some.ensures in (
      going_on g.D.Directory.allows (config_view c.args.config.now) c.args.directory.now c.loop.directory
          c.answer_piece.new.directory (conversation_view c.loop.conversation).session
          (conversation_view c.answer_piece.new.conversation).session
          (g.R.Read.remaining c.args.reader.now) (g.R.Read.remaining c.loop.reader)
          (g.R.Read.remaining c.read_some.new.reader)
          (g.W.Write.contents c.args.writer.now) (g.W.Write.contents c.loop.writer)
          (g.W.Write.contents c.answer_piece.new.writer)
          _ c.loop.invariant.0 got.1 c.in-Goes.ensures.fed,
      c.in-Goes.ensures.sent,
    )

pub returns : goal.returns
returns g c =
    served_failed g.D.Directory.allows (config_view c.args.config.now) c.args.directory.now c.loop.directory
    (conversation_view c.loop.conversation).session
    (g.R.Read.remaining c.args.reader.now) (g.R.Read.remaining c.loop.reader) (g.R.Read.remaining c.loop.reader)
    (g.W.Write.contents c.args.writer.now) (g.W.Write.contents c.loop.writer)
    c.loop.invariant.0 (Consumes-nil (g.R.Read.remaining c.loop.reader))
