use Rattle.std.proofs.Common.{◌≡◌, drop, map}
use Rattle.std.specs.List.{list_any}
use Rattle.dir_entry.specs.ldap_syntax.Forms.{form_of, is_text_met}
use Rattle.ldap_eval.proofs.matching.has_text.Given as goal

-- none of the values so far meets the key, and the texts of the others are left
abbrev pub invariant-loop-value : goal.invariant-loop-value
invariant-loop-value l = record {
  left : l.rest ≡ map form_of (drop l.value-index l.values);
  none : list_any (is_text_met l.rule l.asserted.less l.asserted.key) (drop l.value-index l.values) ≡
      list_any (is_text_met l.rule l.asserted.less l.asserted.key) l.values;
}
