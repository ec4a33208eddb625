-- LDIF and messages: the goals of `join`. Search doesn't find what a replaced attribute is among the views.
use Rattle.std.proofs.Common.{ℕ, List, Vec, Global, map, ap, sym, ◌∙◌, ◌∷◌, [], length, arith, string_bytes}
use Rattle.std.proofs.lemmas.List.{map-append, length-map}
use Rattle.ldap_msg.specs.Messages.{PartialAttributeValue}
use Rattle.ldap_msg.specs.View.{attribute_view}
use Rattle.ldif.specs.private.Adding.{with_value}
use Rattle.ldif.proofs.Growing.{replaced, past_all}
use Rattle.ldif.proofs.adding.join.Goals as goal

pub returns-in_ok-push : goal.returns-in_ok-push
returns-in_ok-push c =
    let with_values : List (List ℕ) → PartialAttributeValue = λ vs.
    record { description = string_bytes c.index_mut.result.now.description; values = vs } in
    replaced attribute_view c.args.attributes.now.items c.args.index _ c.index_mut.result.now c.args.octets.items
    (omega (arith, c.if-index-as_slice.true, ap length c.as_slice.ensures.value))
    (ap with_values (ap (map (λ (v : Vec ℕ Global). v.items)) c.in_ok-push.ensures.items
    ∙ map-append (λ (v : Vec ℕ Global). v.items) c.index_mut.result.now.values.items (c.args.octets ∷ []))
    ∙ ap (λ a. with_value (attribute_view a) c.args.octets.items) c.index_mut.ensures.value)

pub returns-else-index-as_slice : goal.returns-else-index-as_slice
returns-else-index-as_slice c =
    sym (past_all (map attribute_view c.args.attributes.now.items) c.args.index c.args.octets.items
    (omega (
      arith,
      c.if-index-as_slice.false,
      ap length c.as_slice.ensures.value,
      length-map c.args.attributes.now.items attribute_view,
    )))
