-- The reply at a place of a list of updates. What one update comes to is above.
use Rattle.std.specs.Prelude.{◌≡◌, ℕ, zero, suc, ◌+◌, List, [], ◌∷◌, ◌++◌, length, Option, None, Some}
use Rattle.std.specs.List.{slice_get}
use Rattle.entry_updates.specs.ldap_op.Values.{OpValue}
use Rattle.indexed_tree.specs.Directory.{Directory}
use Rattle.indexed_tree.specs.directory_api.Answers.{ReplyModel}
use Rattle.dir_store.specs.Updates.{applied, reply_to, directory_after, replies_after}

-- The reply to the update at a place, counted from 0, of updates that are made one after the other, the first under the
-- number that follows this one; none, where no update has the place.
abbrev pub reply_at : Directory → ℕ → List OpValue → ℕ → Option ReplyModel
reply_at d number [] p = None
reply_at d number (op ∷ ops) zero = Some (reply_to d (number + 1) op)
reply_at d number (op ∷ ops) (suc p) = reply_at (applied d (number + 1) op) (number + 1) ops p

-- The list of the replies has at each place the reply of that place.
abbrev pub RepliesArePlaced : Type 0
RepliesArePlaced = (d : Directory) (n : ℕ) (ops : List OpValue) (p : ℕ) → slice_get (replies_after d n ops) p ≡
    reply_at d n ops p

-- At the places behind updates stand the replies to those that follow, over the directory after the first ones.
abbrev pub PlacesJoin : Type 0
PlacesJoin = (d : Directory) (n : ℕ) (ops more : List OpValue) (p : ℕ) → reply_at d n (ops ++ more) (length ops + p) ≡
    reply_at (directory_after d n ops) (n + length ops) more p
