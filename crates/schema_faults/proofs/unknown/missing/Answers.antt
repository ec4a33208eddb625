-- What search doesn't prove of `missing`: the parts of its sentence, in another order.
use Rattle.std.proofs.Common.{codes, string_bytes}
use Rattle.text_faults.proofs.Written.{written_as}
use Rattle.text_faults.specs.Words.{word_shown}
use Rattle.schema_faults.specs.Schemas.{title}
use Rattle.schema_faults.proofs.Sentences.{missing_parts}
use Rattle.schema_faults.proofs.unknown.missing.Goals as goal

pub returns : goal.returns
returns c =
    written_as string_bytes c.format.result _ _
    (missing_parts (codes "no ") c.args.kind.now (codes " '") (string_bytes c.in_ok-word.word)
    (word_shown c.args.word.now) (codes "'") (codes " (in ") c.args.keyword.now (codes " of '")
    (string_bytes c.in_ok-title.title) (title c.args.description.now) (codes "')")
    c.in_ok-word.ensures c.in_ok-title.ensures)
    c.format.ensures.ok
