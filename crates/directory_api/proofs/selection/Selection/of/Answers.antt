-- What search doesn't prove of `of`: `loop-selector-init`, by lemmas of `Resolved`.
use Rattle.std.proofs.Common.{ℕ, List, ap, length}
use Rattle.std.specs.List.{list_any}
use Rattle.std.specs.Ordering.{nat_cmp}
use Rattle.std.specs.BTreeMap.{is_at}
use Rattle.dir_tree.specs.ldap_schema.Schema.{superiors}
use Rattle.directory_api.specs.private.Resolved.{is_held, is_none}
use Rattle.directory_api.proofs.Resolved.{nothing_yet}
use Rattle.directory_api.proofs.selection.Selection.of.Goals as goal

pub loop-selector-init : goal.loop-selector-init
loop-selector-init c = λ t.
    nothing_yet c.are_none.result (is_none c.args.selectors.now) (is_held c.new.result) t
    (superiors (length c.args.schema.now.types) c.args.schema.now.types t) c.are_none.ensures
    (λ q. ap (λ (ks : List ℕ). list_any (is_at (nat_cmp q)) ks) c.new.ensures.empty)
