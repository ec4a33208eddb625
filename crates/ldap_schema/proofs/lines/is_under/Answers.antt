-- What search doesn't prove of `is_under`: what it returns, by lemmas of `Ranked`.
use Rattle.std.proofs.Common.{ℕ, List, ap, sym, ◌∙◌}
use Rattle.ldap_schema.specs.Superclasses.{is_among}
use Rattle.ldap_schema.proofs.Ranked.{direct_under, under_cut}
use Rattle.ldap_schema.proofs.lines.is_under.Goals as goal

pub returns-then-is_class_among : goal.returns-then-is_class_among
returns-then-is_class_among c =
    sym (direct_under c.args.classes.now c.args.below c.args.above c.requires.known
    (ap (λ (cs : List ℕ). is_among cs c.args.above) (sym c.superclasses_of.ensures) ∙ sym c.is_class_among.ensures
    ∙ c.if-is_class_among.true))

pub returns : goal.returns
returns c =
    c.is_or_has.ensures
    ∙ under_cut c.args.classes.now c.args.ranks.now c.rank_of.result c.args.below c.args.above _ c.requires.known
    c.requires.ranking c.rank_of.ensures c.in_ok-found.ensures
