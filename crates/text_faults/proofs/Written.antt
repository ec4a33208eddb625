-- What a format writes, in another order of its parts.
use Rattle.std.proofs.Common.{◌≡◌, ◌++◌, ℕ, List, Result, Some, IfOk, IfSome, ap, ◌∙◌, append_assoc}
use Rattle.std.proofs.lemmas.Result.{IfOk-weaker}

pub written_as : {E : Type 0} {S : Type 0} (octets : S → List ℕ) (r : Result S E) (xs ys : List ℕ) → xs ≡ ys →
    IfOk r (λ s. IfSome (Some xs) (λ bs. octets s ≡ bs)) → IfOk r (λ s. octets s ≡ ys)
written_as octets r xs ys e h = IfOk-weaker r (λ s. octets s ≡ xs) (λ s. octets s ≡ ys) (λ s p. p ∙ e) h

two : (a b c d e : List ℕ) → a ++ (b ++ (c ++ (d ++ e))) ≡ a ++ b ++ c ++ d ++ e
two a b c d e = simp append_assoc

three : (a b c d e f g : List ℕ) → a ++ (b ++ (c ++ (d ++ (e ++ (f ++ g))))) ≡ a ++ b ++ c ++ d ++ e ++ f ++ g
three a b c d e f g = simp append_assoc

-- a sentence round a word
pub one_word : {E : Type 0} {S : Type 0} (octets : S → List ℕ) (r : Result S E) (a x y z : List ℕ) → x ≡ y →
    IfOk r (λ s. IfSome (Some (a ++ (x ++ z))) (λ bs. octets s ≡ bs)) → IfOk r (λ s. octets s ≡ a ++ y ++ z)
one_word octets r a x y z e h =
    written_as octets r (a ++ (x ++ z)) (a ++ y ++ z) (ap (λ w. a ++ (w ++ z)) e ∙ simp append_assoc) h

-- a sentence round two words
pub two_words : {E : Type 0} {S : Type 0} (octets : S → List ℕ) (r : Result S E) (a x y b u v z : List ℕ) → x ≡ y →
    u ≡ v →
    IfOk r (λ s. IfSome (Some (a ++ (x ++ (b ++ (u ++ z))))) (λ bs. octets s ≡ bs)) →
    IfOk r (λ s. octets s ≡ a ++ y ++ b ++ v ++ z)
two_words octets r a x y b u v z e f h =
    written_as octets r (a ++ (x ++ (b ++ (u ++ z)))) (a ++ y ++ b ++ v ++ z)
    (ap (λ w. a ++ (w ++ (b ++ (u ++ z)))) e ∙ ap (λ w. a ++ (y ++ (b ++ (w ++ z)))) f ∙ two a y b v z) h

-- a sentence round three words
pub three_words : {E : Type 0} {S : Type 0} (octets : S → List ℕ) (r : Result S E) (a x y b u v c p q z : List ℕ) →
    x ≡ y → u ≡ v → p ≡ q →
    IfOk r (λ s. IfSome (Some (a ++ (x ++ (b ++ (u ++ (c ++ (p ++ z))))))) (λ bs. octets s ≡ bs)) →
    IfOk r (λ s. octets s ≡ a ++ y ++ b ++ v ++ c ++ q ++ z)
three_words octets r a x y b u v c p q z e f g h =
    written_as octets r (a ++ (x ++ (b ++ (u ++ (c ++ (p ++ z)))))) (a ++ y ++ b ++ v ++ c ++ q ++ z)
    (ap (λ w. a ++ (w ++ (b ++ (u ++ (c ++ (p ++ z)))))) e ∙ ap (λ w. a ++ (y ++ (b ++ (w ++ (c ++ (p ++ z)))))) f
    ∙ ap (λ w. a ++ (y ++ (b ++ (v ++ (c ++ (w ++ z)))))) g ∙ three a y b v c q z) h

after_two : (x b u z : List ℕ) → x ++ (b ++ (u ++ z)) ≡ x ++ b ++ u ++ z
after_two x b u z = simp append_assoc

after_three : (x b u z p : List ℕ) → x ++ (b ++ (u ++ (z ++ p))) ≡ x ++ b ++ u ++ z ++ p
after_three x b u z p = simp append_assoc

-- a sentence that begins with a word
pub begun_with : {E : Type 0} {S : Type 0} (octets : S → List ℕ) (r : Result S E) (x b u z : List ℕ) →
    IfOk r (λ s. IfSome (Some (x ++ (b ++ (u ++ z)))) (λ bs. octets s ≡ bs)) → IfOk r (λ s. octets s ≡ x ++ b ++ u ++ z)
begun_with octets r x b u z h = written_as octets r (x ++ (b ++ (u ++ z))) (x ++ b ++ u ++ z) (after_two x b u z) h

-- a sentence that begins with a word and ends with one
pub between_words : {E : Type 0} {S : Type 0} (octets : S → List ℕ) (r : Result S E) (x y b u z p q : List ℕ) →
    x ≡ y → p ≡ q →
    IfOk r (λ s. IfSome (Some (x ++ (b ++ (u ++ (z ++ p))))) (λ bs. octets s ≡ bs)) →
    IfOk r (λ s. octets s ≡ y ++ b ++ u ++ z ++ q)
between_words octets r x y b u z p q e f h =
    written_as octets r (x ++ (b ++ (u ++ (z ++ p)))) (y ++ b ++ u ++ z ++ q)
    (ap (λ w. w ++ (b ++ (u ++ (z ++ p)))) e ∙ ap (λ w. y ++ (b ++ (u ++ (z ++ w)))) f ∙ after_three y b u z q) h

then_two : (a x b u : List ℕ) → a ++ (x ++ (b ++ u)) ≡ a ++ x ++ b ++ u
then_two a x b u = simp append_assoc

-- a sentence round a word that another ends
pub word_then : {E : Type 0} {S : Type 0} (octets : S → List ℕ) (r : Result S E) (a x y b u : List ℕ) → x ≡ y →
    IfOk r (λ s. IfSome (Some (a ++ (x ++ (b ++ u)))) (λ bs. octets s ≡ bs)) → IfOk r (λ s. octets s ≡ a ++ y ++ b ++ u)
word_then octets r a x y b u e h =
    written_as octets r (a ++ (x ++ (b ++ u))) (a ++ y ++ b ++ u) (ap (λ w. a ++ (w ++ (b ++ u))) e
    ∙ then_two a y b u) h
