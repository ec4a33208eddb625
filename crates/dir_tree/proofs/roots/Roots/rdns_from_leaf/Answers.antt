-- What search doesn't prove of `rdns_from_leaf`: what it returns, by lemmas of `LevelFacts`.
use Rattle.std.proofs.Common.{◌∙◌, sym, ap, map, reverse, Vec}
use Rattle.std.specs.Global.{Global}
use Rattle.std.proofs.lemmas.List.{reverse-reverse}
use denote.Bor.{Bor}
use Rattle.dir_entry.specs.ldap_dn.Names.{RdnModel}
use Rattle.dir_tree.proofs.LevelFacts.{if_ok}
use Rattle.dir_tree.proofs.roots.Roots.rdns_from_leaf.Goals as goal

pub returns : goal.returns
returns c = if_ok _ _ c.rdns_up.result (λ (v : Vec (Bor RdnModel) Global) e.
    sym (reverse-reverse (map (λ (r : Bor RdnModel). r.now) v.items)) ∙ ap reverse e) c.rdns_up.ensures
