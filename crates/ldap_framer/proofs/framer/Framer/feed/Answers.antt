-- The goals of `feed` that no tactic closes, each by one lemma over plain lists.
use Rattle.ldap_framer.specs.View.{framed}
use Rattle.ldap_framer.proofs.Seen.{seen_ok, seen_err}
use Rattle.ldap_framer.proofs.framer.Framer.feed.Goals as goal

pub returns-clause-stream : goal.returns-clause-stream
returns-clause-stream c = λ stream handed seen.
    seen_ok c.take.result (framed c.args.self.now) (framed c.take.new.self) c.args.piece.now stream handed
    c.take.ensures.ok seen

pub returns-clause-stopped : goal.returns-clause-stopped
returns-clause-stopped c = λ stream handed seen.
    seen_err c.take.result (framed c.args.self.now) (framed c.take.new.self) c.args.piece.now stream handed
    c.take.ensures.fault seen
