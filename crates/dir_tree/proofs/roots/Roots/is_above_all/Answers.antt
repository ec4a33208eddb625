-- What search doesn't prove of `is_above_all`: what it returns, by lemmas of `TreeReads` and `Shown`.
use Rattle.std.proofs.Common.{sym, ◌∙◌}
use Rattle.std.specs.Ordering.{nat_cmp}
use Rattle.dir_entry.specs.shared_map.Runs.{entries_after}
use Rattle.dir_tree.proofs.TreeReads.{all_below, none_after, no_run, no_rest, empty_test}
use Rattle.dir_tree.specs.Superiors.{place_at}
use Rattle.dir_tree.proofs.Shown.{below-none}
use Rattle.dir_tree.proofs.roots.Roots.is_above_all.Goals as goal

pub returns-in-Some : goal.returns-in-Some
returns-in-Some c = (
  (λ h. absurd (cc h)),
  (λ h.
      absurd (cc (
        c.in-Some.ensures,
        below-none c.args.self.now.reach (place_at
            c.args.self.now.entries) c.args.number c.args.self.now.entries h,
      ))),
)

pub returns-in-None : goal.returns-in-None
returns-in-None c = (
  (λ h. all_below c.args.self.now.reach (place_at c.args.self.now.entries) c.args.number c.args.self.now.entries
      (sym c.in-None.ensures)
      (no_run c.run_after.result.now (entries_after (nat_cmp c.args.number) c.args.self.now.entries)
      c.run_after.ensures ((empty_test c.run_after.result.now).0 (sym c.is_empty.ensures ∙ h)))),
  (λ b. c.is_empty.ensures ∙ (empty_test c.run_after.result.now).1 (no_rest c.run_after.result.now
      (entries_after (nat_cmp c.args.number) c.args.self.now.entries) c.run_after.ensures
      (none_after c.args.self.now.reach (place_at c.args.self.now.entries) c.args.number c.args.self.now.entries b))),
)
