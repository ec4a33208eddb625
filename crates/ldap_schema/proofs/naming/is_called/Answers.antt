-- What search doesn't prove of `is_called`: what it returns, by lemmas of `Steps`.
use Rattle.std.proofs.Common.{ap, sym, ◌∙◌}
use Rattle.std.specs.Str.{bytes_eq}
use Rattle.std.specs.String.{string_bytes}
use Rattle.ldap_schema.specs.Schema.{is_same_name}
use Rattle.ldap_schema.proofs.Steps.{list_any-map, or_false}
use Rattle.ldap_schema.proofs.naming.is_called.Goals as goal

pub returns-else-eq : goal.returns-else-eq
returns-else-eq c =
    or_false _ _ c.is_among.result (c.if-eq.ensures ∙ ap (bytes_eq c.args.name.now) c.as_bytes.ensures.value)
    (c.is_among.ensures ∙ sym (list_any-map (is_same_name c.args.name.now) string_bytes c.args.names.now))
