-- What the folds give at each variant of a filter.
use Rattle.std.proofs.Common.{false, ◌≡◌, Bool, true, List, map, Vec, Box, Global, sym, ap, ◌∙◌}
use Rattle.std.specs.List.{list_any, list_all}
use Rattle.ldap_eval.specs.ldap_match.Truth.{truth_not, conjunction, disjunction}
use Rattle.ldap_eval.specs.ldap_match.declared.truth.Truth.{Truth}
use Rattle.ldap_eval.specs.ldap_match.declared.truth.Truth.TheVariants.{Undefined}
use Rattle.ldap_eval.specs.dir_entry.Entry.{KeyedAttribute}
use Rattle.ldap_eval.specs.dir_entry.ldap_dn.Names.{RdnModel}
use Rattle.dir_index.specs.index_choice.declared.kinds.Kinds.{Kinds}
use Rattle.ldap_eval.specs.Bound.{bound_value, value_step, leaf_value}
use Rattle.ldap_eval.specs.declared.bound.Leaf.{Leaf as TheLeaf}
use Rattle.ldap_eval.specs.declared.bound.Match.{Match as TheMatch}
use Rattle.ldap_eval.specs.declared.bound.BoundFilter.{BoundFilter}
use Rattle.ldap_eval.specs.declared.bound.BoundFilter.TheVariants as bound
use Rattle.ldap_eval.specs.declared.bound.BoundFilter.TheVariants.{rolls-And, rolls-Or, rolls-Not, rolls-Undefined, rolls-Leaf, rolls-Match}
use Rattle.ldap_eval.specs.declared.bound.BoundFilter.TheOpen.{BoundFilter-F}
use Rattle.ldap_eval.specs.declared.bound.BoundFilter.TheFolds.{fold-roll-BoundFilter}
use Rattle.search_plans.specs.Bounds.{is_decided, decided_step, is_test_decided}
use Rattle.search_plans.specs.OctetRuns.{has_runs_for, runs_step, has_runs_of_test}

pub value-And : (n : List RdnModel) (e : List KeyedAttribute) (v : Vec BoundFilter Global) →
    bound_value n e (bound.And v) ≡ conjunction (map (bound_value n e) v.items)
value-And n e v = ap (bound_value n e) (sym (rolls-And v)) ∙ fold-roll-BoundFilter Truth (value_step n e)
    (BoundFilter-F.And v)

pub value-Or : (n : List RdnModel) (e : List KeyedAttribute) (v : Vec BoundFilter Global) →
    bound_value n e (bound.Or v) ≡ disjunction (map (bound_value n e) v.items)
value-Or n e v = ap (bound_value n e) (sym (rolls-Or v)) ∙ fold-roll-BoundFilter Truth (value_step n e)
    (BoundFilter-F.Or v)

pub value-Not : (n : List RdnModel) (e : List KeyedAttribute) (b : Box BoundFilter Global) →
    bound_value n e (bound.Not b) ≡ truth_not (bound_value n e b.value)
value-Not n e b = ap (bound_value n e) (sym (rolls-Not b)) ∙ fold-roll-BoundFilter Truth (value_step n e)
    (BoundFilter-F.Not b)

pub value-Undefined : (n : List RdnModel) (e : List KeyedAttribute) → bound_value n e bound.Undefined ≡ Undefined
value-Undefined n e = ap (bound_value n e) (sym rolls-Undefined) ∙ fold-roll-BoundFilter Truth (value_step n e)
    BoundFilter-F.Undefined

pub value-Leaf : (n : List RdnModel) (e : List KeyedAttribute) (leaf : TheLeaf) → bound_value n e (bound.Leaf leaf) ≡
    leaf_value e leaf
value-Leaf n e leaf = ap (bound_value n e) (sym (rolls-Leaf leaf)) ∙ fold-roll-BoundFilter Truth (value_step n e)
    (BoundFilter-F.Leaf leaf)

pub decided-Match : (ix : List Kinds) (m : TheMatch) → is_decided ix (bound.Match m) ≡ false
decided-Match ix m = ap (is_decided ix) (sym (rolls-Match m)) ∙ fold-roll-BoundFilter Bool (decided_step ix)
    (BoundFilter-F.Match m)

pub runs-Match : (ix : List Kinds) (e : List KeyedAttribute) (m : TheMatch) → has_runs_for ix e (bound.Match m) ≡ true
runs-Match ix e m = ap (has_runs_for ix e) (sym (rolls-Match m)) ∙ fold-roll-BoundFilter Bool (runs_step ix e)
    (BoundFilter-F.Match m)

pub decided-And : (ix : List Kinds) (v : Vec BoundFilter Global) → is_decided ix (bound.And v) ≡ list_all (λ b. b)
    (map (is_decided ix) v.items)
decided-And ix v = ap (is_decided ix) (sym (rolls-And v)) ∙ fold-roll-BoundFilter Bool (decided_step ix)
    (BoundFilter-F.And v)

pub decided-Or : (ix : List Kinds) (v : Vec BoundFilter Global) → is_decided ix (bound.Or v) ≡ list_all (λ b. b)
    (map (is_decided ix) v.items)
decided-Or ix v = ap (is_decided ix) (sym (rolls-Or v)) ∙ fold-roll-BoundFilter Bool (decided_step ix)
    (BoundFilter-F.Or v)

pub decided-Not : (ix : List Kinds) (b : Box BoundFilter Global) → is_decided ix (bound.Not b) ≡ is_decided ix b.value
decided-Not ix b = ap (is_decided ix) (sym (rolls-Not b)) ∙ fold-roll-BoundFilter Bool (decided_step ix)
    (BoundFilter-F.Not b)

pub decided-Leaf : (ix : List Kinds) (leaf : TheLeaf) → is_decided ix (bound.Leaf leaf) ≡ is_test_decided ix
    leaf.type_id leaf.test
decided-Leaf ix leaf = ap (is_decided ix) (sym (rolls-Leaf leaf)) ∙ fold-roll-BoundFilter Bool (decided_step ix)
    (BoundFilter-F.Leaf leaf)

pub runs-And : (ix : List Kinds) (e : List KeyedAttribute) (v : Vec BoundFilter Global) →
    has_runs_for ix e (bound.And v) ≡ list_all (λ b. b) (map (has_runs_for ix e) v.items)
runs-And ix e v = ap (has_runs_for ix e) (sym (rolls-And v)) ∙ fold-roll-BoundFilter Bool (runs_step ix e)
    (BoundFilter-F.And v)

pub runs-Or : (ix : List Kinds) (e : List KeyedAttribute) (v : Vec BoundFilter Global) →
    has_runs_for ix e (bound.Or v) ≡ list_any (λ b. b) (map (has_runs_for ix e) v.items)
runs-Or ix e v = ap (has_runs_for ix e) (sym (rolls-Or v)) ∙ fold-roll-BoundFilter Bool (runs_step ix e)
    (BoundFilter-F.Or v)

pub runs-Not : (ix : List Kinds) (e : List KeyedAttribute) (b : Box BoundFilter Global) →
    has_runs_for ix e (bound.Not b) ≡ true
runs-Not ix e b = ap (has_runs_for ix e) (sym (rolls-Not b)) ∙ fold-roll-BoundFilter Bool (runs_step ix e)
    (BoundFilter-F.Not b)

pub runs-Leaf : (ix : List Kinds) (e : List KeyedAttribute) (leaf : TheLeaf) → has_runs_for ix e (bound.Leaf leaf) ≡
    has_runs_of_test ix leaf.type_id leaf.test e
runs-Leaf ix e leaf = ap (has_runs_for ix e) (sym (rolls-Leaf leaf)) ∙ fold-roll-BoundFilter Bool (runs_step ix e)
    (BoundFilter-F.Leaf leaf)
