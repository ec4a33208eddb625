-- A compare of the entry that a name has, known by its attributes.
use Rattle.std.proofs.Common.{◌≡◌, List, Option, None, Some, refl, ap, is_some, ℕ}
use Rattle.std.specs.Option.{option_map}
use Rattle.indexed_tree.specs.ldap_dn.Names.{RdnModel, rdns}
use Rattle.indexed_tree.specs.dir_entry.Entry.{AttributeModel}
use Rattle.indexed_tree.specs.Directory.{Directory, NamedEntry}
use Rattle.indexed_tree.specs.Places.{entry_named}
use Rattle.indexed_tree.specs.Replies.{entry_asked, or_refused, not_found}
use Rattle.indexed_tree.specs.directory_api.Answers.{only}
use Rattle.indexed_tree.specs.ldap_schema.Schema.{SchemaModel, find}
use Rattle.indexed_tree.specs.directory_api.ldap_msg.ldap_requests.Values.{AssertionValue}
use Rattle.dir_search.specs.Compared.{code_on, reply_on}

-- the reply on an entry is told by its attributes
pub replied : (d : Directory) (s : SchemaModel) (v : AssertionValue) (name : List RdnModel)
    (a : List AttributeModel) → Some a ≡ option_map (λ (e : NamedEntry). e.attributes)
    (entry_named (rdns name) d.entries)
    → only (code_on s v.assertion_value a (find s v.attribute_desc)) ≡ reply_on s v (entry_asked d name)
replied d s v name a h = by (entry_named (rdns name) d.entries) h
  where
    by : (o : Option NamedEntry) → Some a ≡ option_map (λ (e : NamedEntry). e.attributes) o →
        only (code_on s v.assertion_value a (find s v.attribute_desc)) ≡ reply_on s v (or_refused o (not_found d name))
    by None g = absurd (cc g)
    by (Some e) g = let same : a ≡ e.attributes = cc g in ap (λ (x : List AttributeModel).
        only (code_on s v.assertion_value x (find s v.attribute_desc))) same

pub none_asked : (d : Directory) (s : SchemaModel) (v : AssertionValue) (name : List RdnModel) →
    ◌≡◌ {A = Option ℕ} None (option_map (λ (e : NamedEntry). e.number) (entry_named (rdns name) d.entries))
    → not_found d name ≡ reply_on s v (entry_asked d name)
none_asked d s v name h = by (entry_named (rdns name) d.entries) h
  where
    by : (o : Option NamedEntry) → ◌≡◌ {A = Option ℕ} None (option_map (λ (e : NamedEntry). e.number) o) →
        not_found d name ≡ reply_on s v (or_refused o (not_found d name))
    by None g = refl
    by (Some e) g = absurd (cc g)

-- whether there is one is told by its number
pub some_named : {A : Type 0} (f : NamedEntry → A) (o : Option NamedEntry) (p : Option A) → p ≡ option_map f o →
    is_some p ≡ is_some o
some_named f None p h = ap (λ x. is_some x) h
some_named f (Some e) p h = ap (λ x. is_some x) h
