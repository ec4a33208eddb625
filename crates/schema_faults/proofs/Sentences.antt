-- Sentences of formats, in another order of their parts.
use Rattle.std.proofs.Common.{◌≡◌, ◌++◌, ℕ, List, append_assoc}

-- a word that names what isn't there, and where
pub missing_parts : (a kind b word shown c d keyword e name title f : List ℕ) → word ≡ shown → name ≡ title →
    a ++ (kind ++ (b ++ (word ++ ((c ++ d) ++ (keyword ++ (e ++ (name ++ f))))))) ≡
    (a ++ kind ++ b ++ shown ++ c) ++ (d ++ keyword ++ e ++ title ++ f)
missing_parts a kind b word shown c d keyword e name title f g h = rw (g, h) (simp append_assoc)

-- a kind of index, and the type that lacks its rule
pub no_rule_parts : (a kind shown b c name title d keyword word : List ℕ) → kind ≡ shown → name ≡ title →
    keyword ≡ word →
    a ++ (kind ++ ((b ++ c) ++ (name ++ (d ++ keyword)))) ≡ (a ++ shown ++ b) ++ (c ++ title ++ d ++ word)
no_rule_parts a kind shown b c name title d keyword word f g h = rw (f, g, h) (simp append_assoc)
