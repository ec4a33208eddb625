-- What search doesn't prove of `another_follows`: what it returns, by lemmas of `Written` (`text_faults`).
use Rattle.std.proofs.Common.{codes, string_bytes}
use Rattle.text_faults.proofs.Written.{between_words}
use Rattle.schema_faults.proofs.descriptions.another_follows.Goals as goal

pub returns : goal.returns
returns c =
    between_words string_bytes c.format.result _ _ (codes " needs ") c.args.wanted.now (codes ", not: ") _ _
    c.in_ok-word.ensures c.in_ok-argument.ensures c.format.ensures.ok
