-- What is kept as a whole, and which entries it is of: what contracts that aren't public say of it.
-- What public contracts say is in specs/Whole.
use Rattle.std.specs.Prelude.{Bool, ◌&&◌, ◌||◌, not}

-- whether a number is in a list once its entry has changed: it is in those that list the entry after and not before, it
-- isn't in those that list the entry before and not after, and elsewhere it is as it was
abbrev pub moved : Bool → Bool → Bool → Bool
moved before after was = (was || (after && not before)) && not (before && not after)
