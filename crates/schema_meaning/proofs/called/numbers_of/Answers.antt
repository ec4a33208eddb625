-- What search doesn't prove of `numbers_of`: what it returns, by lemmas of `Kept`.
use Rattle.std.proofs.Math.ListN.{drop_of_length-le}
use Rattle.std.specs.Str.{bytes_eq}
use Rattle.schema_text.specs.Descriptions.{DescriptionModel}
use Rattle.schema_meaning.specs.private.Octets.{number_at, has_folded}
use Rattle.schema_meaning.specs.Naming.{names_of}
use Rattle.schema_meaning.proofs.Kept.{numbers_done, found_either}
use Rattle.schema_meaning.proofs.called.numbers_of.Goals as goal

pub returns : goal.returns
returns c =
    found_either c.args.descriptions.now (number_at c.loop-number.by_name.entries)
    (number_at c.loop-number.by_oid.entries)
    (λ q. numbers_done (λ (d : DescriptionModel). has_folded q (names_of d)) _ c.loop-number.number _ _
    (drop_of_length-le c.args.descriptions.now c.loop-number-test.false) (c.loop-number.invariant.names q))
    (λ q. numbers_done (λ (d : DescriptionModel). bytes_eq q d.oid) _ c.loop-number.number _ _
    (drop_of_length-le c.args.descriptions.now c.loop-number-test.false) (c.loop-number.invariant.oids q))
