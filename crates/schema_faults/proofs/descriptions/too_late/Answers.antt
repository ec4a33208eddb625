-- What search doesn't prove of `too_late`: what it returns, by lemmas of `Written` (`text_faults`).
use Rattle.std.proofs.Common.{codes, string_bytes}
use Rattle.text_faults.proofs.Written.{begun_with}
use Rattle.schema_faults.proofs.descriptions.too_late.Goals as goal

pub returns : goal.returns
returns c = begun_with string_bytes c.format.result c.args.after.now (codes " comes before ") c.args.before.now
    (codes " in a description") c.format.ensures.ok
