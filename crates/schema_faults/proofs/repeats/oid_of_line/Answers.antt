-- What search doesn't prove of `oid_of_line`: what it returns, by lemmas of `Written` (`text_faults`).
use Rattle.std.proofs.Common.{codes, decimal, refl, string_bytes}
use Rattle.text_faults.proofs.Written.{two_words}
use Rattle.schema_faults.proofs.repeats.oid_of_line.Goals as goal

pub returns : goal.returns
returns c =
    two_words string_bytes c.format.result (codes "the object identifier ") _ _ (codes " is that of line ")
    (decimal c.args.line) (decimal c.args.line) (codes " too")
    c.in_ok-oid.ensures refl c.format.ensures.ok
