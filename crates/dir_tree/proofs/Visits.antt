-- What is read off the entries that a visit keeps is what its tree says.
use Rattle.std.proofs.Common.{◌≡◌, ℕ, List, [], ◌∷◌, ◌++◌, Option, Some, None, true}
use Rattle.std.specs.Prelude.{is_some, IfSome}
use Rattle.std.specs.Option.{option_map}
use denote.Bor.{Bor}
use Rattle.dir_entry.specs.ldap_dn.Names.{RdnModel}
use Rattle.dir_tree.specs.Directory.{Entered, TreeModel, entry_at}
use Rattle.dir_tree.specs.Superiors.{place_at}
use Rattle.dir_tree.specs.declared.place.Place.{Place}
use Rattle.dir_tree.specs.declared.place.Place.TheVariants.{Under}
use Rattle.dir_tree.specs.declared.place.Standing.{Standing}
use Rattle.dir_tree.specs.private.Visits.{IsVisit}

module _ (d : TreeModel) (es : List (ℕ × Standing)) (v : IsVisit d es) (k : ℕ) where
  pub here_below : (o : Option (ℕ × Bor RdnModel)) (place : Option Place) → place ≡ place_at es k →
      IfSome o (λ p. place ≡ Some (Under p.0 p.1.now))
      → IfSome o (λ p. is_some (entry_at k d.entries) ≡ true)
  here_below None place e h = tt
  here_below (Some p) place e h = let same : place_at es k ≡ Some (Under p.0 p.1.now) =
      cc (e, h) in (v.names k p.0 p.1.now same).0

  pub named_below : (o : Option (ℕ × Bor RdnModel)) (place : Option Place) → place ≡ place_at es k →
      IfSome o (λ p. place ≡ Some (Under p.0 p.1.now))
      → IfSome o (λ p. option_map (λ (e : Entered). e.name) (entry_at k d.entries) ≡
      option_map (λ (e : Entered). e.name ++ p.1.now ∷ []) (entry_at p.0 d.entries))
  named_below None place e h = tt
  named_below (Some p) place e h = let same : place_at es k ≡ Some (Under p.0 p.1.now) =
      cc (e, h) in (v.names k p.0 p.1.now same).1
