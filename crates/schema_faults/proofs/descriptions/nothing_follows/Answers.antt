-- What search doesn't prove of `nothing_follows`: what it returns, by lemmas of `Written` (`text_faults`).
use Rattle.std.proofs.Common.{codes, string_bytes}
use Rattle.text_faults.proofs.Written.{word_then}
use Rattle.schema_faults.proofs.descriptions.nothing_follows.Goals as goal

pub returns : goal.returns
returns c = word_then string_bytes c.format.result (codes "nothing follows ") _ _ (codes ", which needs ")
    c.args.wanted.now c.in_ok-word.ensures c.format.ensures.ok
