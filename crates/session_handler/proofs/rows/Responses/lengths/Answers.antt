-- What search doesn't prove of `lengths`: what it returns, by lemmas of `Cutting`.
use Rattle.std.proofs.Common.{length, map, sym, ap, ◌∙◌}
use Rattle.session_handler.proofs.Cutting.{lengths_cut}
use Rattle.session_handler.proofs.rows.Responses.lengths.Goals as goal

pub returns : goal.returns
returns c = c.as_slice.ensures ∙ sym (lengths_cut c.self.inside.lengths.items c.self.inside.octets.items
    c.self.invariant) ∙ ap (map length) c.self.view_is
