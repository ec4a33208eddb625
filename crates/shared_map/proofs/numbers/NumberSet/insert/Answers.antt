-- What search doesn't prove of `insert`: what it returns, by lemmas of `Keys`.
use Rattle.std.proofs.Common.{sym, ap, ◌∙◌}
use Rattle.std.specs.Ordering.{nat_cmp}
use Rattle.std.specs.Map.{keys_of}
use Rattle.std.specs.BTreeMap.{insert_entry}
use Rattle.std.specs.BTreeSet.{insert_key}
use Rattle.shared_map.specs.Sets.{numbers_in}
use Rattle.shared_map.proofs.Keys.{keys-insert}
use Rattle.shared_map.proofs.numbers.NumberSet.insert.Goals as goal

pub returns-in_ok-two-in-One : goal.returns-in_ok-two-in-One
returns-in_ok-two-in-One c =
    let whole = sym c.self.view_is ∙ ap numbers_in c.in-One.is in
    let one = ap keys_of c.in_ok-one-in-One.ensures ∙ ap (λ l. keys_of (insert_entry nat_cmp l c.in-One.only tt))
    c.new.ensures in
    ap keys_of c.in_ok-two-in-One.ensures ∙ keys-insert nat_cmp c.in_ok-one-in-One.one c.args.number _
    ∙ ap (λ l. insert_key nat_cmp l c.args.number) (one ∙ sym whole)

pub returns-in_ok-more-in-Many : goal.returns-in_ok-more-in-Many
returns-in_ok-more-in-Many c =
    let whole = sym c.self.view_is ∙ ap numbers_in c.in-Many.is in
    ap keys_of c.in_ok-more-in-Many.ensures ∙ keys-insert nat_cmp c.in-Many.map c.args.number _
    ∙ ap (λ l. insert_key nat_cmp l c.args.number) (sym whole)
