-- What search doesn't prove of `rdns`: what it returns, by lemmas of `UpFacts`.
use denote.Bor.{Bor}
use Rattle.dir_entry.specs.ldap_dn.Names.{RdnModel}
use Rattle.dir_tree.proofs.UpFacts.{turned_back}
use Rattle.dir_tree.proofs.roots.Roots.rdns.Goals as goal

pub returns : goal.returns
returns c = turned_back (λ (r : Bor RdnModel). r.now) c.in_ok-rdns.rdns.items c.reverse.new.self.items _
    c.reverse.ensures.items c.in_ok-rdns.ensures
