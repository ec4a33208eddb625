-- What search doesn't prove of `run_for`: what it returns, by lemmas of `Parts`.
use Rattle.std.proofs.Common.{refl, ap, subst, ◌∙◌}
use Rattle.std.specs.Map.{lookup}
use Rattle.std.specs.BTreeMap.{is_at}
use Rattle.shared_map.specs.Entries.{Rises}
use Rattle.shared_map.proofs.Parts.{part_rises}
use Rattle.shared_map.proofs.cursor.run_for.Goals as goal

pub returns-then-reaches : goal.returns-then-reaches
returns-then-reaches g c =
    let p = c.requires.part in
    record {
      at = c.requires;
      rises = part_rises g.K.Ord.cmp c.args.map.now c.args.run.now c.requires.rising p;
      value = ap (lookup (is_at (g.K.Ord.cmp c.args.key.now))) p.is ∙ c.if-reaches.ensures refl p.before p.after
          (subst (Rises g.K.Ord.cmp) p.is c.requires.rising);
    }

pub returns-else-reaches : goal.returns-else-reaches
returns-else-reaches g c = record {
  at = record { rising = c.requires.rising; part = c.leaf_at.ensures.part };
  rises = part_rises g.K.Ord.cmp c.args.map.now c.leaf_at.result.now c.requires.rising c.leaf_at.ensures.part;
  value = c.leaf_at.ensures.value;
}
