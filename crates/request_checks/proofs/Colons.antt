-- Where the first colon stands, octet by octet.
use Rattle.std.proofs.Common.{◌≡◌, ℕ, suc, ◌+◌, ◌<◌, List, [], ◌∷◌, ◌++◌, length, take, drop, get_or, Bool, cond, nat_eq, true, false, sym, ap, ◌∙◌, add-one, drop-cons, append_assoc, append-nil}
use Rattle.std.proofs.Math.Seq.{take-suc}
use Rattle.request_checks.specs.Numbers.{before_colon, behind_colon}

-- by whether an octet is a colon
before_by : (b : Bool) (x : ℕ) (xs : List ℕ) → nat_eq x 58 ≡ b → before_colon (x ∷ xs) ≡ cond b [] (x ∷ before_colon xs)
before_by b x xs e = ap (λ (v : Bool). cond v [] (x ∷ before_colon xs)) e

behind_by : (b : Bool) (x : ℕ) (xs : List ℕ) → nat_eq x 58 ≡ b → behind_colon (x ∷ xs) ≡ cond b xs (behind_colon xs)
behind_by b x xs e = ap (λ (v : Bool). cond v xs (behind_colon xs)) e

-- another octet, which is no colon
pub before_more : (text : List ℕ) (i : ℕ) → take i text ++ before_colon (drop i text) ≡ before_colon text →
    i < length text → nat_eq (get_or text i 0) 58 ≡ false
    → take (i + 1) text ++ before_colon (drop (i + 1) text) ≡ before_colon text
before_more text i h lt other =
    ap (λ (k : ℕ). take k text ++ before_colon (drop k text)) (add-one i)
    ∙ ap (λ (l : List ℕ). l ++ before_colon (drop (suc i) text)) (take-suc text i 0 lt)
    ∙ append_assoc (take i text) (get_or text i 0 ∷ []) (before_colon (drop (suc i) text))
    ∙ sym (ap (λ (l : List ℕ). take i text ++ l) (ap before_colon (drop-cons text i 0 lt)
    ∙ before_by false (get_or text i 0) (drop (suc i) text) other))
    ∙ h

pub behind_more : (text : List ℕ) (i : ℕ) → behind_colon (drop i text) ≡ behind_colon text → i < length text →
    nat_eq (get_or text i 0) 58 ≡ false
    → behind_colon (drop (i + 1) text) ≡ behind_colon text
behind_more text i h lt other =
    ap (λ (k : ℕ). behind_colon (drop k text)) (add-one i)
    ∙ sym (ap behind_colon (drop-cons text i 0 lt) ∙ behind_by false (get_or text i 0) (drop (suc i) text) other)
    ∙ h

-- at the colon
pub before_here : (text : List ℕ) (i : ℕ) → take i text ++ before_colon (drop i text) ≡ before_colon text →
    i < length text → nat_eq (get_or text i 0) 58 ≡ true → take i text ≡ before_colon text
before_here text i h lt colon =
    sym (append-nil (take i text))
    ∙ sym (ap (λ (l : List ℕ). take i text ++ l) (ap before_colon (drop-cons text i 0 lt)
    ∙ before_by true (get_or text i 0) (drop (suc i) text) colon))
    ∙ h

pub behind_here : (text : List ℕ) (i : ℕ) → behind_colon (drop i text) ≡ behind_colon text → i < length text →
    nat_eq (get_or text i 0) 58 ≡ true → drop (i + 1) text ≡ behind_colon text
behind_here text i h lt colon =
    ap (λ (k : ℕ). drop k text) (add-one i)
    ∙ sym (ap behind_colon (drop-cons text i 0 lt) ∙ behind_by true (get_or text i 0) (drop (suc i) text) colon)
    ∙ h
