use Rattle.std.proofs.Common.{Some, ◌≡◌, drop}
use Rattle.std.specs.List.{list_any}
use Rattle.dir_entry.specs.ldap_schema.Schema.{TypeModel}
use Rattle.dir_entry.specs.ldap_match.Item.{is_valid_by}
use Rattle.ldap_eval.specs.Matching.{supported_in}
use Rattle.ldap_eval.proofs.binding.is_matched_somewhere.Given as goal

-- no type so far supports the rule and has the assertion in its syntax
abbrev pub invariant-loop-number : goal.invariant-loop-number
invariant-loop-number l =
    list_any (λ (t : TypeModel). is_valid_by l.schema (supported_in (Some t) l.rule.family) l.assertion)
    (drop l.number l.schema.types)
    ≡ list_any (λ (t : TypeModel). is_valid_by l.schema (supported_in (Some t) l.rule.family) l.assertion)
    l.schema.types
