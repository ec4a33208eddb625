-- What is kept of each client's latest request, and how a further request stands to it.
use Rattle.std.specs.Prelude.{ℕ, cond, nat_lt, Option, Some, None}
use Rattle.dir_store.specs.directory_api.Answers.{ReplyModel}

-- what a client's latest request was answered with: the request's number, the number of its update, and the reply
pub record KeptValue : Type 0 where
  pub request : ℕ
  pub number : ℕ
  pub reply : ReplyModel

-- a request of this number was answered as the update of that number, with this reply
abbrev pub kept_as : ℕ → ℕ → ReplyModel → KeptValue
kept_as request number reply = record { request = request; number = number; reply = reply }

-- how a request stands to its client's latest one: its number is lower, or the same, or greater than any
pub data Standing : Type 0 where
  older : Standing
  repeated : KeptValue → Standing
  newer : Standing

-- how a request of this number stands to the one that this is kept of
abbrev pub standing_to : KeptValue → ℕ → Standing
standing_to k request = cond (nat_lt request k.request) older (cond (nat_lt k.request request) newer (repeated k))

-- how a request stands to what is kept of its client; to nothing, any is new
abbrev pub standing : Option KeptValue → ℕ → Standing
standing None request = newer
standing (Some k) request = standing_to k request
