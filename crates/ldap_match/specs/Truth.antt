-- Three-valued truth: RFC 4511 4.5.1.7.
use Rattle.std.specs.Prelude.{Bool, true, false, List, [], ◌∷◌, ◌≡◌}
use Rattle.ldap_match.specs.declared.truth.Truth.{Truth}
use Rattle.ldap_match.specs.declared.truth.Truth.TheVariants.{True, False, Undefined}

-- False if one is False, True if both are True, else Undefined (RFC 4511 4.5.1.7)
abbrev pub truth_and : Truth → Truth → Truth
truth_and True b = b
truth_and False b = False
truth_and Undefined False = False
truth_and Undefined b = Undefined

-- True if one is True, False if both are False, else Undefined (RFC 4511 4.5.1.7)
abbrev pub truth_or : Truth → Truth → Truth
truth_or True b = True
truth_or False b = b
truth_or Undefined True = True
truth_or Undefined b = Undefined

-- swaps True and False (RFC 4511 4.5.1.7)
abbrev pub truth_not : Truth → Truth
truth_not True = False
truth_not False = True
truth_not Undefined = Undefined

-- a test that is decided
abbrev pub truth_of : Bool → Truth
truth_of true = True
truth_of false = False

-- the `or` of many
abbrev pub disjunction : List Truth → Truth
disjunction [] = False
disjunction (t ∷ ts) = truth_or t (disjunction ts)

-- the `and` of many
abbrev pub conjunction : List Truth → Truth
conjunction [] = True
conjunction (t ∷ ts) = truth_and t (conjunction ts)

-- the order of the parts does not matter
abbrev pub IsCommutative : (Truth → Truth → Truth) → Type 0
IsCommutative f = (a b : Truth) → f a b ≡ f b a

-- nor does how they are grouped
abbrev pub IsAssociative : (Truth → Truth → Truth) → Type 0
IsAssociative f = (a b c : Truth) → f (f a b) c ≡ f a (f b c)
