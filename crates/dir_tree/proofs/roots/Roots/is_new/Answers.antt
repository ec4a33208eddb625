-- What search doesn't prove of `is_new`: what it says of a number that nothing is kept of.
use Rattle.std.proofs.Common.{ap, sym, Option}
use Rattle.std.specs.Option.{option_map, option_map_or}
use Rattle.dir_tree.specs.declared.place.Standing.{Standing}
use Rattle.dir_tree.specs.declared.place.Below.{Below}
use Rattle.dir_tree.specs.private.Superiors.{alone}
use Rattle.dir_tree.proofs.roots.Roots.is_new.Goals as goal

pub returns-in-None-get-clause-absent : goal.returns-in-None-get-clause-absent
returns-in-None-get-clause-absent c = λ is.
    ap (λ (o : Option Standing). option_map (λ (s : Standing). s.place) o) (sym c.in-None.ensures)

pub returns-in-None-get-clause-alone : goal.returns-in-None-get-clause-alone
returns-in-None-get-clause-alone c = λ is.
    ap (λ (o : Option Below). (option_map_or (λ (b : Below). b) o (alone c.args.number)).within)
    (sym c.in-None-get.ensures)
