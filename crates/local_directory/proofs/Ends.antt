-- Ends of updates, told apart.
use Rattle.std.proofs.Common.{◌≡◌, ℕ, Bool, true, false, ap, true≢false}
use Rattle.dir_store.specs.directory_api.Answers.{ReplyModel}
use Rattle.dir_store.specs.directory_api.Talk.{EndedValue, done, stale, lost, refused_memory}

-- an end's number, and its reply
number_in : EndedValue → ℕ
number_in (done n r) = n
number_in stale = 0
number_in lost = 0
number_in refused_memory = 0

is_done : EndedValue → Bool
is_done (done n r) = true
is_done stale = false
is_done lost = false
is_done refused_memory = false

reply_or : ReplyModel → EndedValue → ReplyModel
reply_or x (done n r) = r
reply_or x stale = x
reply_or x lost = x
reply_or x refused_memory = x

pub same_number : (a b : ℕ) (r s : ReplyModel) → done a r ≡ done b s → a ≡ b
unfolding number_in
same_number a b r s h = ap number_in h

pub same_reply : (a b : ℕ) (r s : ReplyModel) → done a r ≡ done b s → r ≡ s
unfolding reply_or
same_reply a b r s h = ap (reply_or r) h

pub not_stale : (a : ℕ) (r : ReplyModel) → done a r ≡ stale → ⊥
unfolding is_done
not_stale a r h = absurd (true≢false (ap is_done h))

pub not_lost : (a : ℕ) (r : ReplyModel) → done a r ≡ lost → ⊥
unfolding is_done
not_lost a r h = absurd (true≢false (ap is_done h))
