-- What a talk with a directory of one server alone comes to. How each exchange is answered is below.
use Rattle.std.specs.Prelude.{◌≡◌, ℕ, ◌+◌, ◌≤◌, List, [], ◌∷◌, ◌++◌, map, length, cond, nat_eq, Some}
use Rattle.std.specs.List.{slice_get}
use Rattle.std.specs.FinMap as fin
use Rattle.dir_store.specs.directory_api.ldap_op.Values.{OpValue}
use Rattle.dir_store.specs.directory_api.Answers.{ReplyModel}
use Rattle.dir_store.specs.Updates.{directory_after, replies_after}
use Rattle.dir_store.specs.Placed.{reply_at}
use Rattle.dir_store.specs.directory_api.log_entry.declared.words.Client.{Client}
use Rattle.dir_store.specs.directory_api.Talk.{EndedValue, done, stale, lost, refused_memory}
use Rattle.dir_store.specs.directory_api.Talk.{Exchange, asked_role, learned, searched, compared, updated, Along}
use Rattle.local_directory.specs.Latest.{KeptValue}
use Rattle.local_directory.specs.Local.{LocalValue}
use Rattle.local_directory.specs.Allows.{allows}

-- an update that took a number, and its reply
pub record MadeUpdate : Type 0 where
  pub op : OpValue
  pub reply : ReplyModel

-- an update that is done under the next number was made then; one that is done under another number was made before
abbrev pub made_if : ℕ → OpValue → EndedValue → List MadeUpdate
made_if number op (done n reply) = cond (nat_eq n (number + 1)) (record { op = op; reply = reply } ∷ []) []
made_if number op stale = []
made_if number op lost = []
made_if number op refused_memory = []

-- what an exchange with a directory at this number made
abbrev pub made_in : ℕ → Exchange (Unit {0}) → List MadeUpdate
made_in number (asked_role role told) = []
made_in number (learned told) = []
made_in number (searched named q looked) = []
made_in number (compared named q looked) = []
made_in number (updated client request op ended) = made_if number op ended

-- the updates that a talk with a directory at this number made, one after the other
abbrev pub made_along : ℕ → List (Exchange (Unit {0})) → List MadeUpdate
made_along number [] = []
made_along number (x ∷ xs) = made_in number x ++ made_along (number + length (made_in number x)) xs

-- the updates alone
abbrev pub ops_of : List MadeUpdate → List OpValue
ops_of made = map (λ (m : MadeUpdate). m.op) made

-- Updates lead from one directory to another: that is their fold, each under its own number, and each was replied to as
-- its definition says: at each place stands the reply to the update of that place.
pub record IsFold (d : LocalValue) (made : List MadeUpdate) (e : LocalValue) : Type 0 where
  pub directory : e.directory ≡ directory_after d.directory d.number (ops_of made)
  pub number : e.number ≡ d.number + length made
  pub replies : map (λ (m : MadeUpdate). m.reply) made ≡ replies_after d.directory d.number (ops_of made)
  pub placed : (p : ℕ) → slice_get (map (λ (m : MadeUpdate). m.reply) made) p ≡ reply_at d.directory d.number
      (ops_of made) p

-- No kept reply is of an update that is not made yet.
abbrev pub IsKept : LocalValue → Type 0
IsKept d = (client : Client) (k : KeptValue) → fin.get d.latest client ≡ Some k → k.number ≤ d.number

-- Along any talk the directory is the fold of the updates that the talk made. What this asks of the directory stays so,
-- and is so where no client has asked yet.
abbrev pub DirectoryIsFold : Type 0
DirectoryIsFold =
    ((d e : LocalValue) (talk : List (Exchange (Unit {0}))) → IsKept d → Along allows d talk e →
    IsFold d (made_along d.number talk) e × IsKept e)
    × ((d : LocalValue) → d.latest ≡ fin.empty → IsKept d)

-- A client's request that was done is done again with the same number and reply alone, and changes nothing, whatever
-- was asked in between.
abbrev pub MadeOnce : Type 0
MadeOnce =
    (d e f g : LocalValue) (talk : List (Exchange (Unit {0}))) (client : Client) (request n m : ℕ) (op other : OpValue)
    (reply again : ReplyModel) →
    allows d (updated client request op (done n reply)) e → Along allows e talk f →
    allows f (updated client request other (done m again)) g →
    (m ≡ n) × (again ≡ reply) × (g ≡ f)
