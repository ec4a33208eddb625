-- What search doesn't prove of `tested`: what an equality returns, by lemmas of `ByParts`.
use Rattle.std.proofs.Common.{ℕ, List, ap, sym, ◌∙◌}
use Rattle.std.specs.List.{list_any}
use Rattle.std.specs.Str.{bytes_eq}
use Rattle.dir_entry.specs.ldap_match.Truth.{truth_of}
use Rattle.dir_entry.specs.ldap_match.Keyed.{test_value}
use Rattle.dir_entry.specs.ldap_match.declared.testing.Test.{Test}
use Rattle.ldap_eval.proofs.ByParts.{any_turned}
use Rattle.ldap_eval.proofs.evaluating.tested.Goals as goal

pub returns-in-Equal : goal.returns-in-Equal
returns-in-Equal c =
    let keys = c.args.attribute.now.keys in
    c.truth.ensures
    ∙ ap truth_of (c.has.ensures ∙ ap (λ (k : List ℕ). list_any (bytes_eq k) keys) c.as_octets.ensures
    ∙ any_turned c.in-Equal.key keys)
    ∙ sym (ap (λ (t : Test). test_value t keys) c.in-Equal.is)
