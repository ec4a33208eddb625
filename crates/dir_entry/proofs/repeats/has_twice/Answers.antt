-- What search doesn't prove of `has_twice`: what it returns, by lemmas of `Twice`.
use Rattle.std.proofs.Common.{ℕ, Bor, List, ◌∙◌}
use Rattle.std.specs.Str.{bytes_eq}
use Rattle.std.proofs.lemmas.Result.{IfOk-weaker}
use Rattle.std.proofs.lemmas.Map.Text.{is_eq-slice_cmp}
use Rattle.dir_entry.proofs.Twice.{twice_of_map}
use Rattle.dir_entry.proofs.repeats.has_twice.Goals as goal

pub returns : goal.returns
returns c = IfOk-weaker c.has_equal.result _ _ (λ b e. e ∙ twice_of_map _ bytes_eq (λ (o : Bor (List ℕ)). o.now)
    (λ x y. is_eq-slice_cmp x.now y.now) c.args.list.now) c.has_equal.ensures
