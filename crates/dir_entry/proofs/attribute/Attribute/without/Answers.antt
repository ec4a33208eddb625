-- What search doesn't prove of `without`: the clause `values`, the clause `keys` and the invariant, by lemmas of
-- `Taken`.
use Rattle.std.proofs.Common.{List, ℕ, Bor, ap, map, sym, subst, ◌∙◌}
use Rattle.dir_entry.specs.Entry.{KeyedAttribute}
use Rattle.value_parts.specs.Parts.{PartModel}
use Rattle.value_parts.specs.Picked.{picked}
use Rattle.dir_entry.specs.Compared.{octets_by}
use Rattle.value_parts.specs.Kept.{part_of}
use Rattle.value_parts.specs.KeptParts.{are_beside, part_without, HaveTexts}
use Rattle.value_parts.proofs.Taken.{without_texts}
use Rattle.dir_entry.proofs.attribute.Attribute.without.Goals as goal

pub returns-clause-values : goal.returns-clause-values
returns-clause-values c =
    ap (λ (p : PartModel). p.values) c.in_ok-without.ensures
    ∙ ap (λ (gs : List (List ℕ)). (part_without gs c.args.by_keys (part_of c.self.inside.held)).values)
    (c.deref.ensures.value ∙ c.in_ok-given.ensures)
    ∙ ap (λ (a : KeyedAttribute). picked (are_beside (map (λ (o : Bor (List ℕ)). o.now) c.args.given.now)
    (octets_by c.args.by_keys a)) a.values) c.self.view_is

pub returns-clause-keys : goal.returns-clause-keys
returns-clause-keys c =
    ap (λ (p : PartModel). p.keys) c.in_ok-without.ensures
    ∙ ap (λ (gs : List (List ℕ)). (part_without gs c.args.by_keys (part_of c.self.inside.held)).keys)
    (c.deref.ensures.value ∙ c.in_ok-given.ensures)
    ∙ ap (λ (a : KeyedAttribute). picked (are_beside (map (λ (o : Bor (List ℕ)). o.now) c.args.given.now)
    (octets_by c.args.by_keys a)) a.keys) c.self.view_is

pub invariant_of-result : goal.invariant_of-result
invariant_of-result c =
    subst (λ (p : PartModel). HaveTexts p) (sym c.in_ok-without.ensures)
    (without_texts c.deref.result.now c.args.by_keys (part_of c.self.inside.held) c.self.invariant)
