-- What search doesn't prove of `of_classes`: what it returns, by lemmas of `Indexed`.
use Rattle.std.proofs.Math.ListN.{drop_of_length-le}
use Rattle.std.specs.Str.{bytes_eq}
use Rattle.ldap_schema.specs.private.NameOrder.{has_name}
use Rattle.ldap_schema.specs.Schema.{ClassModel}
use Rattle.ldap_schema.proofs.Indexed.{numbers_done, found_either}
use Rattle.ldap_schema.proofs.name_index.NameIndex.of_classes.Goals as goal

pub returns : goal.returns
returns c =
    found_either (λ (x : ClassModel). x.oid) (λ (x : ClassModel). x.names) c.args.classes.now c.loop-number.index
    (λ q. numbers_done (λ (x : ClassModel). has_name q x.names) _ c.loop-number.number _ _
    (drop_of_length-le c.args.classes.now c.loop-number-test.false) (c.loop-number.invariant.names q))
    (λ q. numbers_done (λ (x : ClassModel). bytes_eq q x.oid) _ c.loop-number.number _ _
    (drop_of_length-le c.args.classes.now c.loop-number-test.false) (c.loop-number.invariant.oids q))
