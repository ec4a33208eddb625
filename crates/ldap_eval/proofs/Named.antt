-- The pairs of a name, relative name by relative name.
use Rattle.std.proofs.Common.{ℕ, ◌<◌, zero, suc, List, [], ◌∷◌, ◌++◌, append_assoc, Some, ◌≡◌, refl, ap, sym, ◌∙◌, map, length, drop, slice_get, arith}
use Rattle.dir_entry.specs.ldap_dn.Names.{RdnModel}
use Rattle.dir_entry.specs.ldap_dn.Pairs.{PairModel, pairs_in, pairs_of}
use Rattle.dir_entry.specs.ldap_match.Truth.{truth_or, disjunction}
use Rattle.dir_entry.specs.ldap_match.declared.truth.Truth.{Truth}
use Rattle.std.proofs.lemmas.List.{append-nil}
use Rattle.ldap_eval.proofs.Truths.{or_assoc, or_comm}
use Rattle.ldap_eval.proofs.Across.{or_append}

pub map_map : {A B C : Type 0} (f : B → C) (g : A → B) (xs : List A) → map f (map g xs) ≡ map (λ x. f (g x)) xs
map_map f g [] = refl
map_map f g (x ∷ xs) = ap (λ (ys : List _). f (g x) ∷ ys) (map_map f g xs)

-- one relative name more
pub name_step : (f : PairModel → Truth) (ns : List RdnModel) (i : ℕ) (old new here all : Truth) → i < length ns →
    ((r : RdnModel) → slice_get ns i ≡ Some r → here ≡ disjunction (map f (pairs_in r))) → new ≡ truth_or old here
    → truth_or old (disjunction (map f (pairs_of (drop i ns)))) ≡ all →
    truth_or new (disjunction (map f (pairs_of (drop (suc i) ns)))) ≡ all
name_step f [] i old new here all lt h e so_far = absurd (omega (arith, lt))
name_step f (r ∷ ns) zero old new here all lt h e so_far =
    ap (λ (x : Truth). truth_or x (disjunction (map f (pairs_of ns)))) (e ∙ ap (truth_or old) (h r refl))
    ∙ or_assoc old (disjunction (map f (pairs_in r))) (disjunction (map f (pairs_of ns)))
    ∙ ap (truth_or old) (sym (or_append f (pairs_in r) (pairs_of ns)))
    ∙ so_far
name_step f (r ∷ ns) (suc i) old new here all lt h e so_far = name_step f ns i old new here all (omega (arith, lt)) h
    e so_far

-- the pairs of two parts of a name
pairs_append : (ns ms : List RdnModel) → pairs_of (ns ++ ms) ≡ pairs_of ns ++ pairs_of ms
pairs_append [] ms = refl
pairs_append (r ∷ ns) ms = ap (λ (ps : List PairModel). pairs_in r ++ ps) (pairs_append ns ms)
    ∙ sym (append_assoc (pairs_in r) (pairs_of ns) (pairs_of ms))

-- the last relative name
pub name_up : (f : PairModel → Truth) (n above : List RdnModel) (r : RdnModel) (old new here all : Truth) →
    n ≡ above ++ r ∷ [] → here ≡ disjunction (map f (pairs_in r)) → new ≡ truth_or old here
    → truth_or old (disjunction (map f (pairs_of n))) ≡ all → truth_or new (disjunction (map f (pairs_of above))) ≡ all
name_up f n above r old new here all is h e so_far =
    ap (λ (x : Truth). truth_or x (disjunction (map f (pairs_of above)))) (e ∙ ap (truth_or old) h)
    ∙ or_assoc old (disjunction (map f (pairs_in r))) (disjunction (map f (pairs_of above)))
    ∙ ap (truth_or old) (or_comm (disjunction (map f (pairs_in r))) (disjunction (map f (pairs_of above)))
    ∙ sym (or_append f (pairs_of above) (pairs_in r)) ∙ ap (λ (ps : List PairModel). disjunction (map f ps))
    (sym parts))
    ∙ so_far
  where
    parts : pairs_of n ≡ pairs_of above ++ pairs_in r
    parts = ap pairs_of is ∙ pairs_append above (r ∷ []) ∙ ap (λ (ps : List PairModel). pairs_of above ++ ps)
        (append-nil (pairs_in r))
