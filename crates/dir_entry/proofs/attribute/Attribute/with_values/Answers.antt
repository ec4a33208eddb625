-- What search doesn't prove of `with_values`: the clause `keyed`, by lemmas of `Keyed`.
use Rattle.std.proofs.Common.{ℕ, List, ◌≡◌, ◌++◌, sym, subst}
use Rattle.ldap_match.specs.Keyed.{AreKeysOf}
use Rattle.dir_entry.specs.Entry.{KeyedAttribute}
use Rattle.value_parts.specs.Kept.{values_in, keys_in}
use Rattle.dir_entry.proofs.Keyed.{keyed_join}
use Rattle.dir_entry.proofs.attribute.Attribute.with_values.Goals as goal

pub returns-clause-keyed : goal.returns-clause-keyed
returns-clause-keyed c = λ k.
    let s = c.args.schema.now in
    let t = c.self.inside.type_id in
    let more = c.in_ok-more.more in
    let own = subst (λ (a : KeyedAttribute). AreKeysOf s a.kind a.values a.keys) (sym c.self.view_is) k in
    let values : values_in c.in_ok-joined_lists.field-0 ≡ values_in c.self.inside.held ++ more.values.items =
    c.in_ok-joined_lists.ensures.values in
    let keys : keys_in c.in_ok-joined_lists.field-0 ≡ keys_in c.self.inside.held ++ more.keys.items =
    c.in_ok-joined_lists.ensures.keys in
    subst (λ (v : List (List ℕ)). AreKeysOf s t v (keys_in c.in_ok-joined_lists.field-0)) (sym values)
    (subst (λ (l : List (List ℕ)). AreKeysOf s t (values_in c.self.inside.held ++ more.values.items) l) (sym keys)
    (keyed_join s t (values_in c.self.inside.held) (keys_in c.self.inside.held) more.values.items more.keys.items own
    c.in_ok-more.ensures.keyed))
