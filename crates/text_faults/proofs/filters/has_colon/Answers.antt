-- What search doesn't prove of `has_colon`: that a place of a colon is found where there is one.
use Rattle.std.proofs.Common.{◌≡◌, ℕ, List, [], ◌∷◌, nat_eq, is_some, refl, ap, ◌∙◌, arith}
use Rattle.std.proofs.lemmas.Grind.{common_steps}
use Rattle.std.specs.List.{list_any, position}
use Rattle.text_faults.proofs.filters.has_colon.Goals as goal

found : (xs : List ℕ) → is_some (position (λ octet. nat_eq octet 58) xs) ≡ list_any (λ octet. nat_eq octet 58) xs
found [] = refl
found (x ∷ xs) = grind (arith, common_steps, found xs)

pub returns : goal.returns
returns c = c.is_some.ensures ∙ (ap is_some c.colon.ensures ∙ found c.args.octets.now)
