-- The text of an index choice, line by line: what contracts that aren't public say of it.
-- What public contracts say is in specs/Texts.
use Rattle.std.specs.Prelude.{ℕ, List, cond, ◌||◌, Result, Err, ◌≡◌}
use Rattle.index_choice.specs.declared.kinds.Kinds.{Kinds}
use Rattle.index_choice.specs.declared.line.IndexLine.{IndexLine}
use Rattle.index_choice.specs.declared.error.IndexError.{IndexError}
use Rattle.index_choice.specs.declared.error.IndexError.TheVariants.{BadDescription, UnknownName, IndexWithoutRule, NoMemory}
use Rattle.index_choice.specs.Texts.{is_type}

-- the error is the first bad line; want of memory is none
abbrev pub IsBadLine : Result (List IndexLine) ℕ → IndexError → Type 0
IsBadLine said (BadDescription line) = said ≡ Err line
IsBadLine said (UnknownName line) = ⊥
IsBadLine said (IndexWithoutRule line) = ⊥
IsBadLine said NoMemory = Unit {0}

-- the kinds of both
abbrev pub joined : Kinds → Kinds → Kinds
joined a b = record {
  presence = a.presence || b.presence;
  equality = a.equality || b.equality;
  ordering = a.ordering || b.ordering;
  substrings = a.substrings || b.substrings;
}

-- the kinds of a type with those that one more line asks for
abbrev pub one_more : IndexLine → ℕ → Kinds → Kinds
one_more l t k = cond (is_type t l.named) (joined k l.kinds) k
