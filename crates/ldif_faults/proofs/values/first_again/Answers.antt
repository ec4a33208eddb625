-- What search doesn't prove of `first_again`: what it returns, by lemmas of `Again`.
use Rattle.std.proofs.Common.{ℕ, Bor, List, [], ◌∙◌}
use Rattle.std.specs.Str.{bytes_eq}
use Rattle.std.proofs.lemmas.Result.{IfOk-weaker}
use Rattle.std.proofs.lemmas.Map.Text.{is_eq-slice_cmp}
use Rattle.ldif_faults.proofs.Again.{again_of_map}
use Rattle.ldif_faults.proofs.values.first_again.Goals as goal

pub returns : goal.returns
returns c = IfOk-weaker c.first_equal.result _ _ (λ o e. e ∙ again_of_map _ bytes_eq (λ (o : Bor (List ℕ)). o.now)
    (λ x y. is_eq-slice_cmp x.now y.now) [] 0 c.args.list.now) c.first_equal.ensures
