-- Octets that are written bit by bit.
use Rattle.std.proofs.Common.{◌≡◌, ℕ, List, [], ◌∷◌, ◌++◌, Bool, true, false, Option, refl, ap, sym, subst, ◌∙◌, map, append_assoc, append-nil}
use Rattle.std.proofs.KnownBytes.{Appends-nil, Appends-trans}
use Rattle.std.specs.Io.KnownBytes.{Appends}
use Rattle.session_handler.specs.ldap_msg.Messages.{MessageValue}
use Rattle.session_handler.specs.ldap_msg.Written.{message_bytes}
use Rattle.ldap_session.specs.Octets.{is_empty, joined, octets_of, IsFront, HasWritten}
use Rattle.ldap_session.specs.private.Octets.{WritesSome}

pub begun : (a : Option (List ℕ)) (octets : List ℕ) → WritesSome a a octets octets
begun a octets = record { taken = []; grown = Appends-nil a; whole = refl }

pub some_more : (a b c : Option (List ℕ)) (octets left rest : List ℕ) → WritesSome a b octets left →
    WritesSome b c left rest → WritesSome a c octets rest
some_more a b c octets left rest p q = record {
  taken = p.taken ++ q.taken;
  grown = Appends-trans a b c p.taken q.taken p.grown q.grown;
  whole = p.whole ∙ ap (λ (l : List ℕ). p.taken ++ l) q.whole ∙ sym (append_assoc p.taken q.taken rest);
}

apart : false ≡ true → ⊥
apart e = cc

pub no_octets : (xs : List ℕ) → is_empty xs ≡ true → xs ≡ []
no_octets [] e = refl
no_octets (x ∷ xs) e = absurd (apart e)

-- nothing is left
pub all_written : (a b : Option (List ℕ)) (octets left : List ℕ) → left ≡ [] → WritesSome a b octets left →
    HasWritten a b octets true
all_written a b octets left none p = record {
  taken = p.taken;
  grown = p.grown;
  front = record { rest = left; is = p.whole };
  whole = λ _. sym (p.whole ∙ ap (λ (l : List ℕ). p.taken ++ l) none ∙ append-nil p.taken);
}

-- it is given up
pub given_up : (a b c : Option (List ℕ)) (octets left : List ℕ) → WritesSome a b octets left → Appends b c [] →
    HasWritten a c octets false
given_up a b c octets left p q = record {
  taken = p.taken;
  grown = subst (λ (l : List ℕ). Appends a c l) (append-nil p.taken) (Appends-trans a b c p.taken [] p.grown q);
  front = record { rest = left; is = p.whole };
  whole = λ e. absurd (apart e);
}

-- the turns are used up
pub out_of_turns : (a b : Option (List ℕ)) (octets left : List ℕ) → WritesSome a b octets left →
    HasWritten a b octets false
out_of_turns a b octets left p = given_up a b b octets left p (Appends-nil b)

pub joined_append : (xs ys : List (List ℕ)) → joined (xs ++ ys) ≡ joined xs ++ joined ys
joined_append [] ys = refl
joined_append (x ∷ xs) ys = ap (λ (l : List ℕ). x ++ l) (joined_append xs ys)
    ∙ sym (append_assoc x (joined xs) (joined ys))

pub octets_append : (xs ys : List MessageValue) → octets_of (xs ++ ys) ≡ octets_of xs ++ octets_of ys
octets_append [] ys = refl
octets_append (x ∷ xs) ys = ap (λ (l : List ℕ). message_bytes x ++ l) (octets_append xs ys)
    ∙ sym (append_assoc (message_bytes x) (octets_of xs) (octets_of ys))

pub joined_octets : (ms : List MessageValue) → joined (map message_bytes ms) ≡ octets_of ms
joined_octets [] = refl
joined_octets (m ∷ ms) = ap (λ (l : List ℕ). message_bytes m ++ l) (joined_octets ms)

-- all octets, and nothing further, are a front of themselves
pub whole_front : (whole written : List ℕ) → written ≡ whole → IsFront (written ++ []) whole
whole_front whole written are = record {
  rest = [];
  is = sym are ∙ sym (append-nil written)
      ∙ sym (append-nil (written ++ []));
}

-- all was written, and then the writer was flushed
pub sent_off : (a b c : Option (List ℕ)) (octets : List ℕ) (done : Bool) → HasWritten a b octets true →
    Appends b c [] → HasWritten a c octets done
sent_off a b c octets done p q = record {
  taken = p.taken;
  grown = subst (λ (l : List ℕ). Appends a c l) (append-nil p.taken) (Appends-trans a b c p.taken [] p.grown q);
  front = p.front;
  whole = λ _. p.whole refl;
}
