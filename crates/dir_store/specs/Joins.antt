-- Lists of updates, one behind the other. What one update comes to is above.
use Rattle.std.specs.Prelude.{◌≡◌, ℕ, ◌+◌, List, ◌++◌, length}
use Rattle.entry_updates.specs.ldap_op.Values.{OpValue}
use Rattle.indexed_tree.specs.Directory.{Directory}
use Rattle.dir_store.specs.Updates.{directory_after, replies_after}

-- The directory after updates and then others is that after the others, from the directory after the first ones on.
abbrev pub DirectoriesJoin : Type 0
DirectoriesJoin = (d : Directory) (n : ℕ) (ops more : List OpValue) → directory_after d n (ops ++ more) ≡
    directory_after (directory_after d n ops) (n + length ops) more

-- So are the replies.
abbrev pub RepliesJoin : Type 0
RepliesJoin =
    (d : Directory) (n : ℕ) (ops more : List OpValue) → replies_after d n (ops ++ more) ≡ replies_after d n
    ops ++ replies_after (directory_after d n ops) (n + length ops) more
