-- What search doesn't prove of `octets`: what it returns, by lemmas of `Cutting`.
use Rattle.std.proofs.Common.{sym, ap, ◌∙◌}
use Rattle.session_handler.specs.Rows.{joined}
use Rattle.session_handler.proofs.Cutting.{joined_cut}
use Rattle.session_handler.proofs.rows.Responses.octets.Goals as goal

pub returns : goal.returns
returns c = c.deref.ensures.value ∙ sym (joined_cut c.self.inside.lengths.items c.self.inside.octets.items
    c.self.invariant) ∙ ap joined c.self.view_is
