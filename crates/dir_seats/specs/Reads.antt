-- What a read through a seat comes to, and what a session may be told by one.
use Rattle.std.specs.Prelude.{◌≡◌, ℕ, length, Option, Some, None}
use Rattle.dir_search.specs.Answer.{answer}
use Rattle.dir_search.specs.Compared.{compared as compared_reply}
use Rattle.dir_search.specs.directory_api.Reading.{IsReadAt}
use Rattle.dir_search.specs.directory_api.Talk.{Looked, found, not_yet, gone, no_memory, Exchange, asked_role, learned, searched, compared, updated}
use Rattle.state_machine.specs.Executing.{ExecutedValue, directory_at}
use Rattle.dir_seats.specs.Lists.{IsBeginning, longer}

-- A read is of one published list, which the floor begins and which is the floor from then on: it is answered at its
-- length, or told that it is shorter than was named, or finds no memory. Where the publisher is gone, the floor stays.
abbrev pub IsReadFrom : {A : Type 0} → ExecutedValue → ExecutedValue → ℕ → A → Looked A → Type 0
IsReadFrom floor now named answered gone = now ≡ floor
IsReadFrom floor now named answered (found at a) = IsBeginning floor now × IsReadAt (length now.records) named
    answered (found at a)
IsReadFrom floor now named answered (not_yet at) = IsBeginning floor now × IsReadAt (length now.records) named
    answered (not_yet at)
IsReadFrom floor now named answered no_memory = IsBeginning floor now × IsReadAt (length now.records) named answered
    no_memory

-- the floor after something is told, if anything is
abbrev pub floor_told : Option ExecutedValue → ExecutedValue → ExecutedValue
floor_told None floor = floor
floor_told (Some told) floor = longer told floor

-- The exchanges of a seat, and its floor after each: it answers reads and learns, and nothing else is asked of it.
abbrev pub seat_allows : ExecutedValue → Exchange (Option ExecutedValue) → ExecutedValue → Type 0
seat_allows floor (asked_role role told) now = ⊥
seat_allows floor (learned told) now = now ≡ floor_told told floor
seat_allows floor (searched named q looked) now = IsReadFrom floor now named (answer (directory_at now) q) looked
seat_allows floor (compared named q looked) now = IsReadFrom floor now named (compared_reply (directory_at now) q)
    looked
seat_allows floor (updated client number op ended) now = ⊥
