-- Octets whose escapes the reader of names refuses.
use Rattle.std.proofs.Common.{◌≡◌, ◌++◌, ℕ, List, [], ◌∷◌, Bool, true, Option, None, Some, is_none, ◌+◌, ◌<◌, length, drop, get_or, ap, add-one, refl, ◌∙◌}
use Rattle.std.proofs.Math.Seq.{drop-cons}
use Rattle.ldap_match.specs.ldap_dn.Texts.{step, ended, stepped, scanned}
use Rattle.ldap_match.specs.ldap_dn.declared.token.Token.{Token}
use Rattle.ldap_match.specs.ldap_dn.declared.token.Scan.{Scan}
use Rattle.ldap_match.specs.ldap_dn.declared.token.Scan.TheVariants.{Between, Escape, Half}
use Rattle.ldap_match.specs.ldap_dn.declared.token.Step.TheVariants.{Refuses, Reads, Gives}
use Rattle.text_faults.specs.private.Names.{goes_to}

-- whether octets are refused behind others
abbrev pub fails : Scan → List ℕ → Bool
fails s cs = is_none (scanned [] s cs)

abbrev pub fails_by : Option Scan → List ℕ → Bool
fails_by None cs = true
fails_by (Some n) cs = fails n cs

whatever_before : (ts us : List Token) (s : Scan) (cs : List ℕ) → is_none (scanned ts s cs) ≡ is_none (scanned us s cs)
whatever_before ts us s [] = elim s as (λ s. is_none (ended ts s) ≡ is_none (ended us s))
    [ Between ↦ refl | Escape ↦ refl | Half h ↦ refl ]
whatever_before ts us s (c ∷ cs) =
    elim (step s c) as (λ n. is_none (stepped ts n (λ vs m. scanned vs m cs)) ≡
    is_none (stepped us n (λ vs m. scanned vs m cs))) [
      | Refuses ↦ refl
      | Reads n ↦ whatever_before ts us n cs
      | Gives t ↦ whatever_before (ts ++ t ∷ []) (us ++ t ∷
          []) Between cs
    ]

-- octets are refused by their first octet, or by those behind it
pub fails_cons : (s : Scan) (c : ℕ) (cs : List ℕ) → fails s (c ∷ cs) ≡ fails_by (goes_to (step s c)) cs
fails_cons s c cs =
    elim (step s c) as (λ n. is_none (stepped [] n (λ vs m. scanned vs m cs)) ≡ fails_by (goes_to n) cs)
    [ Refuses ↦ refl | Reads n ↦ refl | Gives t ↦ whatever_before (t ∷ []) [] Between cs ]

-- octets from an index on are refused by the octet there, or by those behind it
pub fails_drop : (s : Scan) (text : List ℕ) (i : ℕ) → i < length text → fails s (drop i text) ≡
    fails_by (goes_to (step s (get_or text i 0))) (drop (i + 1) text)
fails_drop s text i h = let e : drop i text ≡ get_or text i 0 ∷ drop (i + 1) text = rw (add-one, drop-cons text i 0)
    refl in ap (fails s) e ∙ fails_cons s (get_or text i 0) (drop (i + 1) text)
