-- The attributes that a change may touch.
use Rattle.std.specs.Prelude.{ℕ, List, [], Bool, true, ◌||◌}
use Rattle.index_choice.specs.dir_entry.Entry.{KeyedAttribute}
use Rattle.dir_index.specs.declared.touched.Touched.{Touched}
use Rattle.dir_index.specs.declared.touched.Touched.TheVariants.{All, These}
use Rattle.dir_index.specs.Postings.{has_type}
use Rattle.dir_index.specs.Whole.{is_one_of, AreSameBut}

-- whether all attributes of a type may be touched
abbrev pub is_whole : Touched → ℕ → Bool
is_whole All t = true
is_whole (These types named) t = is_one_of types.now t

-- the values that may be there on one side alone, of types that aren't touched whole
abbrev pub named_in : Touched → List KeyedAttribute
named_in All = []
named_in (These types named) = named.now

-- whether attributes of a type may be touched
abbrev pub is_touched : Touched → ℕ → Bool
is_touched w t = is_whole w t || has_type t (named_in w)

-- two entries are the same but for what is touched
abbrev pub AreSameElsewhere : Touched → List KeyedAttribute → List KeyedAttribute → Type 0
AreSameElsewhere All before after = Unit {0}
AreSameElsewhere (These types named) before after = AreSameBut types.now named.now before after
