-- How a directory begins: the sample's adds, one after the other.
use Rattle.std.proofs.Common.{◌≡◌, ap, ◌∙◌}
use Rattle.local_directory.specs.ldap_op.Values.{add}
use Rattle.local_directory.specs.indexed_tree.Directory.{Directory}
use Rattle.local_directory.specs.dir_store.Updates.{applied, directory_after}
use Rattle.dird_commands.specs.Sample.{sample, example, items_unit, ana, anna, anana, an_na}

pub six_adds : (d s t u : Directory) → s ≡ applied (applied d 1 (add example)) 2 (add items_unit) →
    t ≡ applied (applied s 3 (add ana)) 4 (add anna) → u ≡ applied (applied t 5 (add anana)) 6 (add an_na) →
    u ≡ directory_after d 0 sample
unfolding sample
six_adds d s t u e f g =
    g ∙ ap (λ (x : Directory). applied (applied x 5 (add anana)) 6 (add an_na))
    (f ∙ ap (λ (x : Directory). applied (applied x 3 (add ana)) 4 (add anna)) e)
