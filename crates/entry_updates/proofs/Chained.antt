-- Structural classes in line form one chain.
use Rattle.std.proofs.Common.{ℕ, List, Bool, true, ◌&&◌, ◌≡◌, ap, sym, ◌∙◌}
use Rattle.std.specs.List.{list_any}
use Rattle.dir_entry.specs.ldap_schema.Schema.{SchemaModel}
use Rattle.dir_entry.specs.ldap_schema.Superclasses.{is_subclass}
use Rattle.dir_entry.specs.ldap_schema.Lines.{are_all_in_line}
use Rattle.entry_updates.specs.Classes.{is_structural, structural_of, is_one_chain}

pub chained : (s : SchemaModel) (cs xs : List ℕ) (b : Bool) → b ≡ are_all_in_line (is_subclass s) xs →
    xs ≡ structural_of s cs → list_any (is_structural s) cs ≡ true → b ≡ is_one_chain s cs
chained s cs xs b e is h =
    e ∙ ap (are_all_in_line (is_subclass s)) is ∙ ap (λ (a : Bool). a && are_all_in_line (is_subclass s)
    (structural_of s cs)) (sym h)
