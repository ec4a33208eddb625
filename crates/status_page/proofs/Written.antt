-- What a format writes, in another order of its parts.
use Rattle.std.proofs.Common.{◌≡◌, ℕ, List, ◌++◌, OnOk, Result, Some, IfOk, IfSome, ap, append_assoc, ◌∙◌}
use Rattle.std.proofs.lemmas.Result.{IfOk-weaker, on_ok_weaker}
use Rattle.status_page.specs.declared.asking.Method.{Method}
use Rattle.status_page.specs.Pages.{response}

pub written_as : {E : Type 0} {S : Type 0} (octets : S → List ℕ) (r : Result S E) (xs ys : List ℕ) → xs ≡ ys →
    IfOk r (λ s. IfSome (Some xs) (λ bs. octets s ≡ bs)) → IfOk r (λ s. octets s ≡ ys)
written_as octets r xs ys e h = IfOk-weaker r (λ s. octets s ≡ xs) (λ s. octets s ≡ ys) (λ s p. p ∙ e) h

-- what is added, as other octets
pub appended_as : {T E : Type 0} (r : Result T E) (before after xs ys : List ℕ) → xs ≡ ys →
    OnOk r (after ≡ before ++ xs) → OnOk r (after ≡ before ++ ys)
appended_as r before after xs ys e h = on_ok_weaker r (λ p. p ∙ ap (λ z. before ++ z) e) h

-- what is added behind what was added before
pub appended_behind : {T E : Type 0} (r : Result T E) (before between after xs ys zs : List ℕ) →
    between ≡ before ++ xs → xs ++ ys ≡ zs → OnOk r (after ≡ between ++ ys) → OnOk r (after ≡ before ++ zs)
appended_behind r before between after xs ys zs e f h =
    on_ok_weaker r (λ p. p ∙ (ap (λ z. z ++ ys) e ∙ (append_assoc before xs ys ∙ ap (λ z. before ++ z) f))) h

-- the line of a sample with a label
pub labelled_line : (name a key b label shown c d number end : List ℕ) →
    label ≡ shown → name ++ (a ++ (key ++ (b ++ (label ++ ((c ++ d) ++ (number ++ end)))))) ≡
    name ++ a ++ key ++ b ++ shown ++ c ++ d ++ number ++ end
labelled_line name a key b label shown c d number end e = rw e (simp append_assoc)

-- the line of a sample with two labels
pub build_line : (a version b proved word c d number end : List ℕ) → proved ≡ word →
    a ++ (version ++ (b ++ (proved ++ ((c ++ d) ++ (number ++ end))))) ≡
    (a ++ version ++ b ++ word ++ c) ++ d ++ number ++ end
build_line a version b proved word c d number end e = rw e (simp append_assoc)

-- the lines of a sum and of a count, behind the buckets
pub times_lines : (buckets name a labels b micros c end d count : List ℕ) →
    buckets ++ (name ++ (a ++ (labels ++ (b ++ (micros ++ ((c ++ end) ++
    (name ++ (d ++ (labels ++ (b ++ (count ++ end))))))))))) ≡
    buckets ++ (name ++ a ++ labels ++ b ++ micros ++ c ++ end) ++ (name ++ d ++ labels ++ b ++ count ++ end)
times_lines buckets name a labels b micros c end d count = simp append_assoc

-- the lines before a metric's samples, and these
pub metric_lines : (a name b help c kind word end samples : List ℕ) → kind ≡ word →
    (a ++ (name ++ (b ++ (help ++ (c ++ (name ++ (b ++ (kind ++ end)))))))) ++ samples ≡
    a ++ name ++ b ++ help ++ c ++ name ++ b ++ word ++ end ++ samples
metric_lines a name b help c kind word end samples e = rw e (simp append_assoc)

-- a response with another text, that is the same octets
pub response_of : {E : Type 0} {S : Type 0} (octets : S → List ℕ) (r : Result S E) (how : Method) (status shown text :
    List ℕ) → shown ≡ text →
    IfOk r (λ s. octets s ≡ response how status shown) → IfOk r (λ s. octets s ≡ response how status text)
response_of octets r how status shown text e h =
    IfOk-weaker r (λ s. octets s ≡ response how status shown) (λ s. octets s ≡ response how status text)
    (λ s p. p ∙ ap (λ (x : List ℕ). response how status x) e) h

-- what is added by three calls
pub added_by_three : {T E : Type 0} (r : Result T E) (before second third after xs ys zs : List ℕ) →
    second ≡ before ++ xs → third ≡ second ++ ys → OnOk r (after ≡ third ++ zs) →
    OnOk r (after ≡ before ++ (xs ++ ys ++ zs))
added_by_three r before second third after xs ys zs e f h =
    on_ok_weaker r (λ p. p ∙ (ap (λ z. z ++ zs) (f ∙ ap (λ z. z ++ ys) e) ∙ simp append_assoc)) h

-- what is added by the calls that add all counts
pub counts_added : {T E : Type 0} (r : Result T E) (before second third fourth fifth sixth after answers threads clients
    traffic peers times process : List ℕ) →
    second ≡ before ++ answers → third ≡ second ++ threads → fourth ≡ third ++ (clients ++ traffic) →
    fifth ≡ fourth ++ peers → sixth ≡ fifth ++ times → OnOk r (after ≡ sixth ++ process) →
    OnOk r (after ≡ before ++ (answers ++ (threads ++ clients ++ traffic) ++ peers ++ times ++ process))
counts_added r before second third fourth fifth sixth after answers threads clients traffic peers times process e f g h
    i j = on_ok_weaker r (λ p. p ∙ rw (i, h, g, f, e) (simp append_assoc)) j
