-- What search doesn't prove of `first_characters`: what it returns, step by step.
use Rattle.std.proofs.Common.{ap, ◌∙◌}
use Rattle.std.proofs.lemmas.Iterator.{items_from_collect, YieldsList-from_chars, YieldsList-from_take}
use Rattle.std.specs.Str.Iter.{chars_rest}
use Rattle.text_faults.proofs.showing.first_characters.Goals as goal

pub returns : goal.returns
returns c =
    items_from_collect c.collect.result c.collect.ensures.ran
    (YieldsList-from_take c.args.count
    (YieldsList-from_chars c.args.text.now c.utf8.text (ap chars_rest c.take.ensures.source ∙ c.chars.ensures.rest))
    c.take.ensures.count)
