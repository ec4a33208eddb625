-- What search doesn't prove of `has_repeats`: what it returns, by a lemma of `Equivalents`.
use Rattle.std.proofs.Common.{ℕ, List, Bor, is_some, map, ap, ◌∙◌}
use Rattle.ldap_match.specs.ldap_schema.Rules.{equality_of}
use Rattle.std.proofs.lemmas.Result.{IfOk-weaker}
use Rattle.std.specs.Str.{bytes_eq}
use Rattle.dir_entry.specs.Values.{has_twice}
use Rattle.dir_entry.proofs.Equivalents.{repeats_by}
use Rattle.dir_entry.proofs.attribute.Attribute.has_repeats.Goals as goal

pub returns : goal.returns
returns c = λ h. IfOk-weaker c.has_twice.result _ _
    (λ b e. e ∙ ap (λ (os : List (Bor (List ℕ))). has_twice bytes_eq (map (λ (o : Bor (List ℕ)). o.now) os))
    c.as_slice.ensures.value
    ∙ ap (has_twice bytes_eq) c.in_ok-octets.ensures
    ∙ repeats_by c.tests_are_items.ensures c.args.schema.now c.args.self.now c.is_by_keys-by_keys.result
    (c.is_by_keys-by_keys.ensures ∙ ap (λ (t : ℕ). is_some (equality_of c.args.schema.now t)) c.type_id.ensures) h)
    c.has_twice.ensures
