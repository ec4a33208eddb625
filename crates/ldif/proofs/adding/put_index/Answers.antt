-- What search doesn't prove of `put_index`: what it returns, by lemmas of `NumbersKept` (`ldap_words`).
use Rattle.std.proofs.Common.{ℕ, List, Vec, Global, ap, ◌∙◌}
use Rattle.ldif.specs.private.Adding.{number_at}
use Rattle.ldap_words.proofs.NumbersKept.{number_put}
use Rattle.ldif.proofs.adding.put_index.Goals as goal

pub returns : goal.returns
returns c = λ q. ap (λ (l : List (Vec ℕ Global × ℕ)). number_at l q) c.in_ok-insert.ensures.entries
    ∙ number_put c.args.folded c.args.index c.args.indexes.now.entries q
