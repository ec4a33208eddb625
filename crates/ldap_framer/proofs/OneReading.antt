-- A stream has one reading: its messages are these and no others, and it is awaited or stopped, not both.
use Rattle.std.proofs.Common.{◌≡◌, ℕ, ◌+◌, ◌-◌, ◌≤◌, List, [], ◌∷◌, ◌++◌, length, Result, Ok, refl, sym, ap, ap₂, subst, ◌∙◌, inl, inr, append_assoc, arith}
use Rattle.std.specs.Prelude.{replicate}
use Rattle.std.proofs.lemmas.List.{append-nil, append_cancel_left, append_cancel_right, length-append, length-replicate}
use Rattle.ldap_msg.specs.ldap_ber.Element.{IsElement, IsLength}
use Rattle.ldap_msg.specs.ldap_ber.Header.{IsHeader}
use Rattle.ldap_msg.specs.ldap_ber.private.Reading.{length_at}
use Rattle.ldap_msg.specs.ldap_ber.declared.fault.BerFault.{BerFault}
use Rattle.ldap_msg.proofs.ldap_ber.ElementLemmas.{one}
use Rattle.ldap_msg.proofs.ldap_ber.Lengths.{length_again}
use Rattle.ldap_msg.specs.ldap_ber.declared.message_fault.MsgFault.{MsgFault}
use Rattle.ldap_msg.specs.ldap_ber.declared.message_fault.MsgFault.TheVariants.{TooLarge, NotAMessage, TooDeep, TooManyItems, NoMemory}
use Rattle.ldap_msg.specs.Messages.{MessageValue}
use Rattle.ldap_msg.specs.Grammar.{IsMessage}
use Rattle.ldap_msg.specs.Limits.{IsFault}
use Rattle.ldap_msg.proofs.Unique.{one as one_message}
use Rattle.ldap_msg.proofs.Whole.{no_fault}
use Rattle.ldap_framer.specs.Stream.{IsFrame, IsWhole, IsAwaited, StatesTooLarge, BeginsNoFrame, HasBadFrame, IsStop, Ending, awaits, stops, EndsIn, Reads, IsSameEnding}
use Rattle.ldap_framer.proofs.Frames.{framed_by as element_of}

-- ---- headers

-- the octets of two lengths at one place, and what follows them
record SameLength (n m : ℕ) (x y : List ℕ) : Type 0 where
  pub length_is : n ≡ m
  pub rest_is : x ≡ y

ok_same : (n m : ℕ) (x y : List ℕ) → ◌≡◌ {A = Result (ℕ × List ℕ) BerFault} (Ok (n, x)) (Ok (m, y)) → SameLength n m x y
ok_same n m x y e = let p : ◌≡◌ {A = ℕ × List ℕ} (n, x) (m, y) = cc in record
    { length_is = ap (λ (z : ℕ × List ℕ). z.0) p; rest_is = ap (λ (z : ℕ × List ℕ). z.1) p }

same_length : (s t x y : List ℕ) (n m : ℕ) → IsLength s n → IsLength t m → s ++ x ≡ t ++ y → SameLength n m x y
same_length s t x y n m is₁ is₂ e = ok_same n m x y (sym (length_again s n x is₁) ∙ ap length_at e
    ∙ length_again t m y is₂)

-- the same of headers
same_header : (h k x y : List ℕ) (f g n m : ℕ) → IsHeader h f n → IsHeader k g m → h ++ x ≡ k ++ y → SameLength n m x y
same_header h k x y f g n m is₁ is₂ e =
    let w : f ∷ (is₁.len_octets ++ x) ≡ g ∷ (is₂.len_octets ++ y) = sym (ap (λ (s : List ℕ). s ++ x) is₁.whole) ∙ e
    ∙ ap (λ (s : List ℕ). s ++ y) is₂.whole in
    same_length is₁.len_octets is₂.len_octets x y n m is₁.len is₂.len cc

header_of : (frame content : List ℕ) (is : IsElement frame 48 content) → IsHeader (48 ∷ is.len_octets) 48
    (length content)
header_of frame content is = record { low_tag = is.low_tag; len_octets = is.len_octets; len = is.len; whole = refl }

some_octets : (x y : List ℕ) → x ++ y ≡ [] → length y ≡ 0
some_octets x y e = omega (arith, ap length e, length-append x y)

-- ---- where a whole frame stands

-- the octets behind a frame's header
behind : (o frame after content : List ℕ) (is : IsElement frame 48 content) → o ≡ frame ++ after →
    o ≡ (48 ∷ is.len_octets) ++ (content ++ after)
behind o frame after content is e = e ∙ ap (λ (s : List ℕ). s ++ after) is.whole ∙ append_assoc (48 ∷ is.len_octets)
    content after

no_octets : (o frame after : List ℕ) → IsFrame frame → o ≡ frame ++ after → o ≡ [] → ⊥
no_octets o frame after is e z = let w : (48 ∷ is.1.len_octets ++ is.0) ++ after ≡ [] =
    ap (λ (s : List ℕ). s ++ after) (sym is.1.whole) ∙ sym e ∙ z in cc

frame_not_awaited : (o frame after : List ℕ) → IsFrame frame → o ≡ frame ++ after → IsAwaited o → ⊥
frame_not_awaited [] frame after is e awaited = no_octets [] frame after is e refl
frame_not_awaited (a ∷ bs) frame after is e (begins, inl f) =
    let w : (48 ∷ is.1.len_octets) ++ ((is.0 ++ after) ++ f.more) ≡ f.header ++ [] =
    sym (append_assoc (48 ∷ is.1.len_octets) (is.0 ++ after) f.more)
    ∙ sym (ap (λ (s : List ℕ). s ++ f.more) (behind (a ∷ bs) frame after is.0 is.1 e)) ∙ f.front
    ∙ sym (append-nil f.header) in
    let s = same_header (48 ∷ is.1.len_octets) f.header ((is.0 ++ after) ++ f.more) [] 48 f.first (length is.0) f.n
    (header_of frame is.0 is.1) f.is_header w in
    omega (arith, f.some_more, some_octets (is.0 ++ after) f.more s.rest_is)
frame_not_awaited (a ∷ bs) frame after is e (begins, inr b) =
    let s = same_header (48 ∷ is.1.len_octets) b.header (is.0 ++ after) b.rest 48 48 (length is.0) b.n
    (header_of frame is.0 is.1) b.is_header (sym (behind (a ∷ bs) frame after is.0 is.1 e) ∙ b.whole) in
    omega (arith, b.not_whole, s.length_is, ap length s.rest_is, length-append is.0 after)

frame_not_large : (o frame after : List ℕ) → IsFrame frame → length frame ≤ 4194304 → o ≡ frame ++ after →
    StatesTooLarge o → ⊥
frame_not_large o frame after is small e t =
    let h : List ℕ = 48 ∷ is.1.len_octets in
    let x : List ℕ = is.0 ++ after in
    let w : h ++ x ≡ t.header ++ t.rest = sym (behind o frame after is.0 is.1 e) ∙ t.whole in
    let s = same_header h t.header x t.rest 48 48 (length is.0) t.n (header_of frame is.0 is.1) t.is_header w in
    let same : h ≡ t.header = append_cancel_right h t.header t.rest (ap (λ (r : List ℕ). h ++ r) (sym s.rest_is) ∙ w) in
    let sum : length frame ≡ length h + length is.0 = ap length is.1.whole ∙ length-append h is.0 in
    omega (arith, small, t.large, s.length_is, ap length same, sum)

-- a message is a frame
whole_frame : (o : List ℕ) (m : MessageValue) → IsMessage o m → IsFrame o
whole_frame o m h = (
  h.content,
  subst (λ (s : List ℕ). IsElement s 48 h.content) (sym (h.field.parts
      ∙ append-nil h.field.spelling)) h.field.is_element,
)

message_not_bad : (f : MsgFault) (o frame after : List ℕ) (m : MessageValue) → (f ≡ NoMemory → ⊥) → IsWhole frame m →
    o ≡ frame ++ after → HasBadFrame f o → ⊥
message_not_bad f o frame after m other is e bad =
    let mine = whole_frame frame m is.is_message in
    let same = one frame bad.frame after bad.rest mine.0 bad.is_frame.0 48 48 mine.1 bad.is_frame.1 (sym e
    ∙ bad.whole) in
    other (no_fault f frame m is.is_message is.within is.small (subst (λ (s : List ℕ). IsFault f s) (sym same.0)
    bad.is_fault))

message_not_stop : (f : MsgFault) (o frame after : List ℕ) (m : MessageValue) → IsWhole frame m → o ≡ frame ++ after →
    IsStop f o → ⊥
message_not_stop TooLarge o frame after m is e stop = frame_not_large o frame after
    (whole_frame frame m is.is_message) is.small e stop
message_not_stop NotAMessage o frame after m is e (inl none) = none [] frame after (whole_frame frame m is.is_message)
    (append-nil o ∙ e)
message_not_stop NotAMessage o frame after m is e (inr bad) = message_not_bad NotAMessage o frame after m
    (λ z. absurd cc) is e bad
message_not_stop TooDeep o frame after m is e bad = message_not_bad TooDeep o frame after m (λ z. absurd cc) is e bad
message_not_stop TooManyItems o frame after m is e bad = message_not_bad TooManyItems o frame after m (λ z. absurd cc)
    is e bad
message_not_stop NoMemory o frame after m is e stop = stop

message_not_end : (o frame after : List ℕ) (m : MessageValue) (ending : Ending) → IsWhole frame m →
    o ≡ frame ++ after → EndsIn o ending → ⊥
message_not_end o frame after m (awaits rest) is e h = frame_not_awaited o frame after
    (whole_frame frame m is.is_message) e h.1
message_not_end o frame after m (stops f) is e h = message_not_stop f o frame after m is e h

-- ---- what is awaited

nothing : ℕ → List ℕ
nothing n = replicate n 0

zeros : (n : ℕ) → length (nothing n) ≡ n
unfolding nothing
zeros n = length-replicate n 0

awaited_not_none : (o : List ℕ) → IsAwaited o → BeginsNoFrame o → ⊥
awaited_not_none [] awaited none =
    let empty : IsElement (48 ∷ 0 ∷ []) 48 [] = record {
      low_tag = omega arith;
      len_octets = 0 ∷ [];
      len =
          (omega arith, refl);
      whole = refl;
    } in
    none (48 ∷ 0 ∷ []) (48 ∷ 0 ∷ []) [] ([], empty) refl
awaited_not_none (a ∷ bs) (begins, inl f) none =
    let w : a ∷ (bs ++ f.more) ≡ f.first ∷ f.is_header.len_octets = f.front ∙ f.is_header.whole in
    let first : f.first ≡ 48 = let same : f.first ≡ a = cc in same ∙ begins in
    let is : IsHeader f.header 48 f.n = subst (λ (k : ℕ). IsHeader f.header k f.n) first f.is_header in
    let content : List ℕ = nothing f.n in
    none (f.more ++ content) (f.header ++ content) [] (content, element_of f.header content f.n is (zeros f.n))
    (sym (append_assoc (a ∷ bs) f.more content) ∙ ap (λ (s : List ℕ). s ++ content) f.front
    ∙ sym (append-nil (f.header ++ content)))
awaited_not_none (a ∷ bs) (begins, inr b) none =
    let fill : List ℕ = nothing (b.n - length b.rest) in
    let content : List ℕ = b.rest ++ fill in
    let long : length content ≡ b.n = omega (
      arith,
      b.not_whole,
      length-append b.rest fill,
      zeros (b.n - length
          b.rest),
    ) in
    none fill (b.header ++ content) [] (content, element_of b.header content b.n b.is_header long)
    (ap (λ (s : List ℕ). s ++ fill) b.whole ∙ append_assoc b.header b.rest fill
    ∙ sym (append-nil (b.header ++ content)))

awaited_not_large : (o : List ℕ) → IsAwaited o → StatesTooLarge o → ⊥
awaited_not_large [] awaited t = let w : (48 ∷ t.is_header.len_octets) ++ t.rest ≡ [] =
    ap (λ (s : List ℕ). s ++ t.rest) (sym t.is_header.whole) ∙ sym t.whole in cc
awaited_not_large (a ∷ bs) (begins, inl f) t =
    let w : t.header ++ (t.rest ++ f.more) ≡ f.header ++ [] = sym (append_assoc t.header t.rest f.more)
    ∙ sym (ap (λ (s : List ℕ). s ++ f.more) t.whole) ∙ f.front ∙ sym (append-nil f.header) in
    let s = same_header t.header f.header (t.rest ++ f.more) [] 48 f.first t.n f.n t.is_header f.is_header w in
    omega (arith, f.some_more, some_octets t.rest f.more s.rest_is)
awaited_not_large (a ∷ bs) (begins, inr b) t =
    let w : t.header ++ t.rest ≡ b.header ++ b.rest = sym t.whole ∙ b.whole in
    let s = same_header t.header b.header t.rest b.rest 48 48 t.n b.n t.is_header b.is_header w in
    let same : t.header ≡ b.header = append_cancel_right t.header b.header b.rest (ap (λ (r : List ℕ). t.header ++ r)
    (sym s.rest_is) ∙ w) in
    omega (arith, t.large, b.small, s.length_is, ap length same)

awaited_not_stop : (f : MsgFault) (o : List ℕ) → IsAwaited o → IsStop f o → ⊥
awaited_not_stop TooLarge o awaited stop = awaited_not_large o awaited stop
awaited_not_stop NotAMessage o awaited (inl none) = awaited_not_none o awaited none
awaited_not_stop NotAMessage o awaited (inr bad) = frame_not_awaited o bad.frame bad.rest bad.is_frame bad.whole awaited
awaited_not_stop TooDeep o awaited bad = frame_not_awaited o bad.frame bad.rest bad.is_frame bad.whole awaited
awaited_not_stop TooManyItems o awaited bad = frame_not_awaited o bad.frame bad.rest bad.is_frame bad.whole awaited
awaited_not_stop NoMemory o awaited stop = stop

-- ---- one reading

one_ending : (o : List ℕ) (e f : Ending) → EndsIn o e → EndsIn o f → IsSameEnding e f
one_ending o (awaits x) (awaits y) p q = sym p.0 ∙ q.0
one_ending o (stops f) (stops g) p q = tt
one_ending o (awaits x) (stops g) p q = absurd (awaited_not_stop g o p.1 q)
one_ending o (stops f) (awaits y) p q = absurd (awaited_not_stop f o q.1 p)

pub one_reading : (stream : List ℕ) (ms ns : List MessageValue) (e f : Ending) → Reads stream ms e →
    Reads stream ns f → (ms ≡ ns) × IsSameEnding e f
one_reading stream [] [] e f p q = (refl, one_ending stream e f p q)
one_reading stream (m ∷ ms) [] e f p q = absurd (message_not_end stream p.frame p.rest m f p.is_whole p.whole q)
one_reading stream [] (n ∷ ns) e f p q = absurd (message_not_end stream q.frame q.rest n e q.is_whole q.whole p)
one_reading stream (m ∷ ms) (n ∷ ns) e f p q =
    let w : p.frame ++ p.rest ≡ q.frame ++ q.rest = sym p.whole ∙ q.whole in
    let same = one_message m n p.frame q.frame p.rest q.rest p.is_whole.is_message q.is_whole.is_message w in
    let rest : p.rest ≡ q.rest = append_cancel_left p.frame p.rest q.rest (w ∙ ap (λ (s : List ℕ). s ++ q.rest)
    (sym same.0)) in
    let others = one_reading q.rest ms ns e f (subst (λ (s : List ℕ). Reads s ms e) rest p.next) q.next in
    (ap₂ (λ (x : MessageValue) (xs : List MessageValue). x ∷ xs) same.1 others.0, others.1)
