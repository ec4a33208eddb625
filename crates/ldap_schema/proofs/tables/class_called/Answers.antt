-- What search doesn't prove of `class_called`: `loop-number-init`, what it returns and `loop-number-preserved`, by
-- lemmas of `Steps`.
use Rattle.std.proofs.Common.{ℕ, List, Bool, true, false, Some, ap, ap₂, sym, ◌∙◌, ◌≡◌, refl}
use Rattle.std.proofs.Math.ListN.{drop_of_length-le}
use Rattle.std.specs.List.{position_from}
use Rattle.ldap_schema.specs.Schema.{is_called, ClassModel}
use Rattle.ldap_schema.proofs.Steps.{found_here, found_later}
use Rattle.ldap_schema.proofs.tables.class_called.Goals as goal

pub loop-number-init : goal.loop-number-init
loop-number-init c = refl

pub returns-then-is_called : goal.returns-then-is_called
returns-then-is_called c =
    let p : ClassModel → Bool = λ (t : ClassModel). is_called c.args.name.now t.oid t.names in
    let is : p c.index-classes-number.result ≡ true =
    sym (ap₂ (λ (o : List ℕ) (ns : List (List ℕ)). is_called c.args.name.now o ns) c.oid.ensures
    c.names.ensures) ∙ sym c.if-is_called.ensures in
    ap Some c.new.ensures ∙ sym (found_here p c.args.classes.now c.loop-number.number c.index-classes-number.result
    c.loop-number-test.true c.index-classes-number.is is) ∙ c.loop-number.invariant

pub loop-number-preserved : goal.loop-number-preserved
loop-number-preserved c =
    let p : ClassModel → Bool = λ (t : ClassModel). is_called c.args.name.now t.oid t.names in
    let is : p c.index-classes-number.result ≡ false =
    sym (ap₂ (λ (o : List ℕ) (ns : List (List ℕ)). is_called c.args.name.now o ns) c.oid.ensures
    c.names.ensures) ∙ sym c.if-is_called.ensures in
    sym (found_later p c.args.classes.now c.loop-number.number c.index-classes-number.result c.loop-number-test.true
    c.index-classes-number.is is) ∙ c.loop-number.invariant

pub returns : goal.returns
returns c =
    let p : ClassModel → Bool = λ (t : ClassModel). is_called c.args.name.now t.oid t.names in
    sym (ap (position_from p c.loop-number.number) (drop_of_length-le c.args.classes.now c.loop-number-test.false))
    ∙ c.loop-number.invariant
