-- What a directory of one server alone answers to each exchange, and what it is after that.
use Rattle.std.specs.Prelude.{◌≡◌, ℕ, ◌+◌, cond, nat_lt}
use Rattle.std.specs.FinMap as map
use Rattle.dir_store.specs.directory_api.ldap_op.Values.{OpValue}
use Rattle.dir_store.specs.Updates.{applied, reply_to}
use Rattle.dir_search.specs.Answer.{answer}
use Rattle.dir_search.specs.Compared.{compared as compared_reply}
use Rattle.dir_store.specs.directory_api.log_entry.declared.words.Client.{Client}
use Rattle.dir_store.specs.directory_api.Reading.{IsReadAt}
use Rattle.dir_store.specs.directory_api.Talk.{primary}
use Rattle.dir_store.specs.directory_api.Talk.{EndedValue, done, stale, lost, refused_memory}
use Rattle.dir_store.specs.directory_api.Talk.{Exchange, asked_role, learned, searched, compared, updated}
use Rattle.local_directory.specs.Latest.{kept_as, Standing, older, repeated, newer, standing}
use Rattle.local_directory.specs.Local.{LocalValue}
pub use Rattle.ldif.specs.ldap_words.Numbers.{greatest}

-- how an update ends where there is memory, and the directory after it
pub record Outcome : Type 0 where
  pub ended : EndedValue
  pub after : LocalValue

-- it ends so, and nothing changes
abbrev pub unchanged : LocalValue → EndedValue → Outcome
unchanged d ended = record { ended = ended; after = d }

-- An update is made, or refused, as the one of this number. Its reply is kept as that of the client's latest request.
abbrev pub made_as : LocalValue → ℕ → Client → ℕ → OpValue → Outcome
made_as d number client request op =
    record {
      ended = done number (reply_to d.directory number op);
      after =
          record {
            directory = applied d.directory number op;
            number = number;
            latest = map.insert d.latest client (kept_as request number (reply_to d.directory number op));
          };
    }

-- an update is made as the next one; it is lost where there is no further number
abbrev pub made_next : LocalValue → Client → ℕ → OpValue → Outcome
made_next d client request op =
    cond (nat_lt d.number greatest) (made_as d (d.number + 1) client request op) (unchanged d lost)

-- a request below its client's latest one is stale; a repeated one is done with what it was answered with; a new one is
-- made
abbrev pub outcome_by : Standing → LocalValue → Client → ℕ → OpValue → Outcome
outcome_by older d client request op = unchanged d stale
outcome_by (repeated k) d client request op = unchanged d (done k.number k.reply)
outcome_by newer d client request op = made_next d client request op

-- what a client's request for an update comes to
abbrev pub outcome : LocalValue → Client → ℕ → OpValue → Outcome
outcome d client request op = outcome_by (standing (map.get d.latest client) request) d client request op

-- An update ends as its outcome says, or there is no memory for it, and nothing changes.
abbrev pub Ends : Outcome → LocalValue → EndedValue → LocalValue → Type 0
Ends o d (done number reply) e = (o.ended ≡ done number reply) × (e ≡ o.after)
Ends o d stale e = (o.ended ≡ stale) × (e ≡ o.after)
Ends o d lost e = (o.ended ≡ lost) × (e ≡ o.after)
Ends o d refused_memory e = e ≡ d

-- The exchanges of a directory of one server alone, and the directory after each: it is always the primary, and only an
-- update changes it.
abbrev pub allows : LocalValue → Exchange (Unit {0}) → LocalValue → Type 0
allows d (asked_role role told) e = (role ≡ primary) × (e ≡ d)
allows d (learned told) e = e ≡ d
allows d (searched named q looked) e = IsReadAt d.number named (answer d.directory q) looked × (e ≡ d)
allows d (compared named q looked) e = IsReadAt d.number named (compared_reply d.directory q) looked × (e ≡ d)
allows d (updated client request op ended) e = Ends (outcome d client request op) d ended e
