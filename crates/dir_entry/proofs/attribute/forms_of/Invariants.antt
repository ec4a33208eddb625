use Rattle.std.proofs.Common.{ℕ, Vec, Global, ◌≡◌, ◌++◌, drop, map}
use Rattle.ldap_match.specs.ldap_syntax.Forms.{form_of}
use Rattle.dir_entry.proofs.attribute.forms_of.Given as goal

abbrev pub invariant-loop-value : goal.invariant-loop-value
invariant-loop-value l = l.forms.items ++ map (λ (v : Vec ℕ Global). form_of v.items) (drop l.value-index l.values) ≡
    map (λ (v : Vec ℕ Global). form_of v.items) l.values
