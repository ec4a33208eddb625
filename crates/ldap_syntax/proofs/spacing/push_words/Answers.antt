-- What search doesn't prove of `push_words`: `loop-c-init`, by lemmas of `Words`.
use Rattle.std.proofs.Common.{ℕ, List, ◌++◌, ap, string_bytes, encode_utf8_all, false}
use Rattle.ldap_syntax.proofs.Words.{writes}
use Rattle.ldap_syntax.proofs.spacing.push_words.Goals as goal

pub loop-c-init : goal.loop-c-init
loop-c-init c = ap (λ (x : List ℕ). string_bytes c.args.out.now ++ encode_utf8_all x)
    ((writes c.args.text.now).at_start false)
