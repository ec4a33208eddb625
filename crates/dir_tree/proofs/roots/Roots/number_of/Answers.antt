-- What search doesn't prove of `number_of`: what it returns, by lemmas of `NameFacts`.
use Rattle.std.proofs.Common.{Bool, ap, sym, ◌∙◌, cond, length, drop, None}
use Rattle.std.specs.Option.{option_and_then}
use Rattle.dir_entry.specs.ldap_dn.Names.{rdns}
use Rattle.dir_tree.specs.Directory.{NameKey}
use Rattle.dir_tree.specs.private.Superiors.{down, step_at}
use Rattle.dir_tree.proofs.NameFacts.{behind_is}
use Rattle.dir_tree.proofs.roots.Roots.number_of.Goals as goal

pub returns-in-Some : goal.returns-in-Some
returns-in-Some c =
    let s = behind_is c.rdns.result.now c.args.self.now.suffix c.args.name.now c.in-Some.path.now (c.rdns.ensures
    ∙ c.get.ensures) c.in-Some.ensures in
    c.number_behind.ensures ∙ ap (λ (q : NameKey). option_and_then (down (step_at c.args.self.now.levels) q)
    c.args.self.now.root) s.1
    ∙ sym (ap (λ (b : Bool). cond b
    (option_and_then (down (step_at c.args.self.now.levels) (drop (length (rdns c.args.self.now.suffix))
    (rdns c.args.name.now))) c.args.self.now.root) None) s.0)
