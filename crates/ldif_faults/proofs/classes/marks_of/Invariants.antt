use Rattle.std.proofs.Common.{◌≡◌, ◌||◌, ◌&&◌, ℕ, false, drop, get_or, length, nat_lt}
use Rattle.ldap_match.specs.ldap_schema.Superclasses.{is_among}
use Rattle.ldif_faults.proofs.classes.marks_of.Given as goal

abbrev pub invariant-loop-type_id : goal.invariant-loop-type_id
invariant-loop-type_id l = record {
  count : length l.marks.items ≡ l.count;
  marks : (t : ℕ) → (get_or l.marks.items t false || (nat_lt t l.count && is_among (drop l.type_id-index l.types) t))
      ≡ (nat_lt t l.count && is_among l.types t);
}
