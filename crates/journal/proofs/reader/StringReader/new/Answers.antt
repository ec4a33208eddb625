-- What search doesn't prove of `new`: the clause `read`, by lemmas of `Advancing`.
use Rattle.std.proofs.Common.{length, refl, sym, ap, ◌∙◌, rules}
use Rattle.journal.proofs.Advancing.{first_read}
use Rattle.journal.proofs.reader.StringReader.new.Goals as goal

pub returns-clause-read : goal.returns-clause-read
returns-clause-read g c = first_read _ _ refl (c.in_ok-size.ensures.length ∙ ap length (sym c.len.ensures.seen)) refl
    (search rules)
