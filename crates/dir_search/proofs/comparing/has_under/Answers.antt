-- What search doesn't prove of `has_under`: what it returns, by lemmas of `Selectors`.
use Rattle.std.proofs.Common.{◌∙◌}
use Rattle.dir_search.proofs.Selectors.{some_under}
use Rattle.dir_search.proofs.comparing.has_under.Goals as goal

pub returns : goal.returns
returns c = c.is_some_under.ensures ∙ some_under c.args.schema.now c.args.type_id c.args.attributes.now
