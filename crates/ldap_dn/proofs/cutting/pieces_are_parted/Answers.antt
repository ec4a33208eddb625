-- What search doesn't prove of `pieces_are_parted`: what it returns, by lemmas of `Parted`.
use Rattle.ldap_dn.proofs.Parted.{parts_parted}
use Rattle.ldap_dn.proofs.cutting.pieces_are_parted.Goals as goal

pub returns : goal.returns
returns c = parts_parted
