-- What search doesn't prove of `add_names`: what it returns, by lemmas of `Steps` and `Indexed`.
use Rattle.std.proofs.Common.{ap, sym, ◌∙◌, map}
use Rattle.std.proofs.Math.ListN.{drop_of_length-le}
use Rattle.std.specs.Char.{to_ascii_lowercase}
use Rattle.std.specs.Str.{bytes_eq}
use Rattle.std.specs.String.{string_bytes}
use Rattle.ldap_schema.specs.private.NameOrder.{number_at, kept_or}
use Rattle.ldap_schema.proofs.Steps.{list_any-map}
use Rattle.ldap_schema.proofs.Indexed.{names_done}
use Rattle.ldap_schema.proofs.name_index.add_names.Goals as goal

pub returns : goal.returns
returns c q =
    names_done (λ n. bytes_eq q (map to_ascii_lowercase (string_bytes n))) c.args.names.now _
    (number_at c.loop-name.table q) _ c.args.number (drop_of_length-le c.args.names.now c.loop-name-test.false)
    (c.loop-name.invariant q)
    ∙ ap (λ b. kept_or (number_at c.args.table.now q) b c.args.number)
    (sym (list_any-map (λ n. bytes_eq q (map to_ascii_lowercase n)) string_bytes c.args.names.now))
