-- Directories that answer in place of a replica's: one that finds out where updates are made, and one that has no
-- memory for a search. A question and its answer come in.
use Rattle.std.specs.Prelude.{◌≡◌}
use Rattle.client_link.specs.directory_api.Talk.{Exchange, asked_role, learned, searched, compared, updated, changing, no_memory}

-- The exchanges of a directory that finds out where updates are made: that is its role, whenever it is asked.
abbrev pub finds_out : {D T : Type 0} → D → Exchange T → D → Type 0
finds_out d (asked_role role told) e = role ≡ changing
finds_out d (learned told) e = Unit {0}
finds_out d (searched named q looked) e = Unit {0}
finds_out d (compared named q looked) e = Unit {0}
finds_out d (updated client number op ended) e = Unit {0}

-- The exchanges of a directory that has no memory for a search.
abbrev pub has_no_memory : {D T : Type 0} → D → Exchange T → D → Type 0
has_no_memory d (searched named q looked) e = looked ≡ no_memory
has_no_memory d (asked_role role told) e = Unit {0}
has_no_memory d (learned told) e = Unit {0}
has_no_memory d (compared named q looked) e = Unit {0}
has_no_memory d (updated client number op ended) e = Unit {0}
