-- How octets are written in texts.
use Rattle.std.specs.Prelude.{ℕ, List, [], ◌∷◌, ◌++◌, cond, ◌||◌, nat_eq}
use Rattle.std.specs.Char.{to_ascii_lowercase}
use Rattle.ldap_syntax.specs.declared.plain.Style.{Style}
use Rattle.ldap_syntax.specs.declared.plain.Style.TheVariants.{Cased, Lowered, Digits, Called}

-- An octet in a text: a SPACE stands twice within words (RFC 4518 2.6.1); among digits there are no SPACEs (2.6.2), in
-- a telephone number no SPACEs and no hyphens (2.6.3).
abbrev pub written : Style → ℕ → List ℕ
written Cased c = cond (nat_eq c 32) (32 ∷ 32 ∷ []) (c ∷ [])
written Lowered c = cond (nat_eq c 32) (32 ∷ 32 ∷ []) (to_ascii_lowercase c ∷ [])
written Digits c = cond (nat_eq c 32) [] (c ∷ [])
written Called c = cond (nat_eq c 32 || nat_eq c 45) [] (to_ascii_lowercase c ∷ [])

-- octets in a text, one behind the other
abbrev pub text_by : Style → List ℕ → List ℕ
text_by s [] = []
text_by s (c ∷ v) = written s c ++ text_by s v
