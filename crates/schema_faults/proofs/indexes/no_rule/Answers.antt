-- What search doesn't prove of `no_rule`: the parts of its sentence, in another order.
use Rattle.std.proofs.Common.{codes, string_bytes}
use Rattle.text_faults.proofs.Written.{written_as}
use Rattle.text_faults.specs.Words.{word_shown}
use Rattle.schema_faults.specs.Indexes.{keyword_word}
use Rattle.schema_faults.proofs.Sentences.{no_rule_parts}
use Rattle.schema_faults.proofs.indexes.no_rule.Goals as goal

pub returns : goal.returns
returns c =
    written_as string_bytes c.format.result _ _
    (no_rule_parts (codes "no index '") (string_bytes c.in_ok-kind.kind) (word_shown c.args.kind.now) (codes "'")
    (codes " of '") (string_bytes c.in_ok-name.name) (word_shown c.args.name.now) (codes "': the type has no ")
    c.keyword_word-word.result.now (keyword_word c.args.keyword)
    c.in_ok-kind.ensures c.in_ok-name.ensures c.keyword_word-word.ensures)
    c.format.ensures.ok
