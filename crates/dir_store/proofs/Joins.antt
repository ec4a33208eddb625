-- Lists of updates, one behind the other.
use Rattle.std.proofs.Common.{◌≡◌, ℕ, suc, ◌+◌, List, [], ◌∷◌, ◌++◌, length, ap, ◌∙◌, arith}
use Rattle.entry_updates.specs.ldap_op.Values.{OpValue}
use Rattle.indexed_tree.specs.Directory.{Directory}
use Rattle.indexed_tree.specs.directory_api.Answers.{ReplyModel}
use Rattle.dir_store.specs.Updates.{applied, reply_to, directory_after, replies_after}

plus_none : (m : ℕ) → m ≡ m + 0
plus_none m = omega arith

one_later : (n l : ℕ) → n + 1 + l ≡ n + suc l
one_later n l = omega arith

-- updates one after the other, and on over others
pub after_join : (d : Directory) (n : ℕ) (ops more : List OpValue) → directory_after d n (ops ++ more) ≡
    directory_after (directory_after d n ops) (n + length ops) more
after_join d n [] more = ap (λ (k : ℕ). directory_after d k more) (plus_none n)
after_join d n (u ∷ ops) more =
    after_join (applied d (n + 1) u) (n + 1) ops more
    ∙ ap (λ (k : ℕ). directory_after (directory_after (applied d (n + 1) u) (n + 1) ops) k more)
    (one_later n (length ops))

pub replies_join : (d : Directory) (n : ℕ) (ops more : List OpValue) → replies_after d n (ops ++ more) ≡ replies_after
    d n ops ++ replies_after (directory_after d n ops) (n + length ops) more
replies_join d n [] more = ap (λ (k : ℕ). replies_after d k more) (plus_none n)
replies_join d n (u ∷ ops) more =
    ap (λ (rs : List ReplyModel). reply_to d (n + 1) u ∷ rs) (replies_join (applied d (n + 1) u) (n + 1) ops more
    ∙ ap (λ (k : ℕ). replies_after (applied d (n + 1) u) (n + 1) ops ++ replies_after
    (directory_after (applied d (n + 1) u) (n + 1) ops) k more) (one_later n (length ops)))
