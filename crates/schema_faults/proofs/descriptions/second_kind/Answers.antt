-- What search doesn't prove of `second_kind`: what it returns, by lemmas of `Written` (`text_faults`).
use Rattle.std.proofs.Common.{codes, string_bytes}
use Rattle.text_faults.proofs.Written.{begun_with}
use Rattle.schema_faults.proofs.descriptions.second_kind.Goals as goal

pub returns : goal.returns
returns c = begun_with string_bytes c.format.result c.args.after.now (codes " behind ") c.args.before.now
    (codes ": a class has one kind") c.format.ensures.ok
