-- The algebra of three-valued `or` that the leaves need.
use Rattle.std.proofs.Common.{◌≡◌, refl, ap, sym, ◌∙◌}
use Rattle.dir_entry.specs.ldap_match.Truth.{truth_or}
use Rattle.dir_entry.specs.ldap_match.declared.truth.Truth.{Truth}
use Rattle.dir_entry.specs.ldap_match.declared.truth.Truth.TheVariants.{True, False, Undefined}

pub or_comm : (a b : Truth) → truth_or a b ≡ truth_or b a
or_comm True True = refl
or_comm True False = refl
or_comm True Undefined = refl
or_comm False True = refl
or_comm False False = refl
or_comm False Undefined = refl
or_comm Undefined True = refl
or_comm Undefined False = refl
or_comm Undefined Undefined = refl

pub or_assoc : (a b c : Truth) → truth_or (truth_or a b) c ≡ truth_or a (truth_or b c)
or_assoc True b c = refl
or_assoc False b c = refl
or_assoc Undefined True c = refl
or_assoc Undefined False c = refl
or_assoc Undefined Undefined True = refl
or_assoc Undefined Undefined False = refl
or_assoc Undefined Undefined Undefined = refl

pub or_false : (a : Truth) → truth_or a False ≡ a
or_false True = refl
or_false False = refl
or_false Undefined = refl

or_left_comm : (b c d : Truth) → truth_or b (truth_or c d) ≡ truth_or c (truth_or b d)
or_left_comm b c d = sym (or_assoc b c d) ∙ ap (λ (x : Truth). truth_or x d) (or_comm b c) ∙ or_assoc c b d

pub or_swap : (a b c d : Truth) → truth_or (truth_or a b) (truth_or c d) ≡ truth_or (truth_or a c) (truth_or b d)
or_swap a b c d = or_assoc a b (truth_or c d) ∙ ap (truth_or a) (or_left_comm b c d) ∙ sym (or_assoc a c (truth_or b d))
