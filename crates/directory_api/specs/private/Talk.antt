-- What is asked of a directory and what it answers, in turn: what contracts that aren't public say of it.
-- What public contracts say is in specs/Talk.
use Rattle.std.specs.Prelude.{List, ◌++◌}
use Rattle.directory_api.specs.Talk.{Exchange, Along}

-- A directory that goes along a talk and then along another goes along both.
abbrev pub TalksJoin : Type 1
TalksJoin = (D T : Type 0) (allows : D → Exchange T → D → Type 0) (d e f : D) (xs ys : List (Exchange T)) →
    Along allows d xs e → Along allows e ys f → Along allows d (xs ++ ys) f
