-- Talks that follow each other.
use Rattle.std.specs.Prelude.{List, ◌++◌}
use Rattle.directory_api.specs.Talk.{Exchange, Along, ends, goes}
use Rattle.directory_api.specs.private.Talk.{TalksJoin}

joined : {D T : Type 0} (allows : D → Exchange T → D → Type 0) (d e f : D) (xs ys : List (Exchange T)) →
    Along allows d xs e → Along allows e ys f → Along allows d (xs ++ ys) f
joined allows d e f xs ys ends second = second
joined allows d e f xs ys (goes {e = m} {xs = later} x rest) second = goes x (joined allows m e f later ys rest second)

pub talks_join : TalksJoin
talks_join D T = joined
