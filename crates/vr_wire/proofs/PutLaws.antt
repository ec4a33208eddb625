-- Octets put one after the other.
use Rattle.std.proofs.Common.{◌≡◌, ℕ, zero, suc, ◌<◌, ◌≤◌, List, [], ◌∷◌, ◌++◌, length, take, drop, slice_set, get_or, refl, sym, ap, subst, ◌∙◌, append_assoc, append-nil, arith, length-append, Result, Ok, Err}
use Rattle.ldap_op.specs.Values.{OpValue, add, delete, modify, modify_dn, noop}
use Rattle.ldap_op.specs.Written.{op_content, op_bytes}
use Rattle.ldap_op.specs.ldap_parts.ldap_ber.Element.{element_bytes, length_octets}
use Rattle.vr_state.specs.Words.{LogEntry}
use Rattle.vr_wire.specs.declared.error.WireError.{WireError}
use Rattle.vr_wire.specs.declared.error.WireError.TheVariants as error
use Rattle.vr_wire.specs.Frames.{short, entry_octets, entries_octets}
use Rattle.vr_wire.specs.Payloads.{written_entry, written_log}
use Rattle.vr_wire.specs.private.Putting.{IsLonger, PutsAlways, PutsWithin}

-- what is longer is too long too
pub longer : (most : ℕ) (e : WireError) (m n : ℕ) → m ≤ n → IsLonger most e m → IsLonger most e n
longer most error.BadFrame m n h l = omega (arith, h, l)
longer most error.ForeignFrame m n h l = l
longer most error.NoMemory m n h l = tt

-- want of memory says nothing of a length
pub memory : (most : ℕ) (e : WireError) (n : ℕ) → e ≡ error.NoMemory → IsLonger most e n
memory most e n is = subst (λ (f : WireError). IsLonger most f n) (sym is) tt

-- what fails only for want of memory may fail for it
pub within : (most : ℕ) (r : Result (Unit {0}) WireError) (old new text : List ℕ) → PutsAlways r old new text →
    PutsWithin most r old new text
within most (Ok t) old new text put = put
within most (Err e) old new text is = memory most e (length (old ++ text)) is

-- a part is too long, and so is the whole
pub longer_by : (most : ℕ) (e : WireError) (old part rest : List ℕ) → IsLonger most e (length (old ++ part)) →
    IsLonger most e (length (old ++ (part ++ rest)))
longer_by most e old part rest l = longer most e (length (old ++ part)) (length (old ++ (part ++ rest)))
    (omega (arith, length-append old part, length-append old (part ++ rest), length-append part rest)) l

-- a later part is too long, and so is the whole
pub longer_after : (most : ℕ) (e : WireError) (old mid part first : List ℕ) → mid ≡ old ++ first →
    IsLonger most e (length (mid ++ part)) → IsLonger most e (length (old ++ (first ++ part)))
longer_after most e old mid part first made l = subst (λ (x : List ℕ). IsLonger most e (length x))
    (ap (λ (x : List ℕ). x ++ part) made ∙ append_assoc old first part) l

-- parts one after the other
pub put_both : (old mid new first part : List ℕ) → mid ≡ old ++ first → new ≡ mid ++ part → new ≡ old ++ (first ++ part)
put_both old mid new first part made put = put ∙ ap (λ (x : List ℕ). x ++ part) made ∙ append_assoc old first part

element_longer : (first : ℕ) (content : List ℕ) → length content ≤ length (element_bytes first content)
element_longer first content = omega (arith, length-append (length_octets (length content)) content)

-- An update's content is no longer than its octets.
pub content_shorter : (op : OpValue) → length (op_content op) ≤ length (op_bytes op)
content_shorter (add x) = element_longer 104 (op_content (add x))
content_shorter (delete name) = element_longer 74 name
content_shorter (modify x) = element_longer 102 (op_content (modify x))
content_shorter (modify_dn x) = element_longer 108 (op_content (modify_dn x))
content_shorter noop = omega arith

-- ---- logs

entry_there : (x : LogEntry (List ℕ)) → 1 ≤ length (entry_octets x)
entry_there x = omega arith

-- a log has at least an octet a record
pub count_shorter : (es : List (LogEntry OpValue)) → length es ≤ length (entries_octets (written_log es))
count_shorter [] = omega arith
count_shorter (e ∷ es) =
    omega (
      arith,
      length-append (entry_octets (written_entry e)) (entries_octets
          (written_log es)),
      entry_there (written_entry e),
      count_shorter es,
    )

pub log_too_long : (most : ℕ) (old : List ℕ) (es : List (LogEntry OpValue)) → most < length es →
    most < length (old ++ (short (length (written_log es)) ++ entries_octets (written_log es)))
log_too_long most old es h =
    omega (
      arith,
      h,
      count_shorter es,
      length-append old (short (length (written_log es)) ++ entries_octets
          (written_log es)),
      length-append (short (length (written_log es))) (entries_octets (written_log es)),
    )

one_more : (es : List (LogEntry OpValue)) (i : ℕ) (e d : LogEntry OpValue) → i < length es → e ≡ get_or es i d →
    entries_octets (written_log (take (suc i) es)) ≡ entries_octets (written_log (take i es)) ++ entry_octets
    (written_entry e)
one_more [] i e d lt is = absurd (omega (arith, lt))
one_more (x ∷ es) zero e d lt is = append-nil (entry_octets (written_entry x))
    ∙ ap (λ (y : LogEntry OpValue). entry_octets (written_entry y)) (sym is)
one_more (x ∷ es) (suc i) e d lt is =
    ap (λ (l : List ℕ). entry_octets (written_entry x) ++ l) (one_more es i e d (omega (arith, lt)) is)
    ∙ sym (append_assoc (entry_octets (written_entry x)) (entries_octets (written_log (take i es)))
    (entry_octets (written_entry e)))

parted : (n : ℕ) (es : List (LogEntry OpValue)) → entries_octets (written_log es) ≡ entries_octets
    (written_log (take n es)) ++ entries_octets (written_log (drop n es))
parted zero es = refl
parted (suc n) [] = refl
parted (suc n) (x ∷ es) =
    ap (λ (l : List ℕ). entry_octets (written_entry x) ++ l) (parted n es)
    ∙ sym (append_assoc (entry_octets (written_entry x)) (entries_octets (written_log (take n es)))
    (entries_octets (written_log (drop n es))))

pub put_more : (old mid new : List ℕ) (es : List (LogEntry OpValue)) (i j : ℕ) (e d : LogEntry OpValue) → j ≡ suc i →
    i < length es → e ≡ get_or es i d → mid ≡ old ++ entries_octets (written_log (take i es)) →
    new ≡ mid ++ entry_octets (written_entry e) → new ≡ old ++ entries_octets (written_log (take j es))
put_more old mid new es i j e d next lt is so_far put =
    put_both old mid new (entries_octets (written_log (take i es))) (entry_octets (written_entry e)) so_far put
    ∙ ap (λ (l : List ℕ). old ++ l) (sym (one_more es i e d lt is)
    ∙ ap (λ (n : ℕ). entries_octets (written_log (take n es))) (sym next))

pub put_refused : (most : ℕ) (f : WireError) (old mid : List ℕ) (es : List (LogEntry OpValue)) (i : ℕ)
    (e d : LogEntry OpValue) → i < length es → e ≡ get_or es i d → mid ≡ old ++ entries_octets
    (written_log (take i es)) → IsLonger most f (length (mid ++ entry_octets (written_entry e))) →
    IsLonger most f (length (old ++ entries_octets (written_log es)))
put_refused most f old mid es i e d lt is so_far long =
    let first = entries_octets (written_log (take i es)) in
    let part = entry_octets (written_entry e) in
    let rest = entries_octets (written_log (drop (suc i) es)) in
    let whole : entries_octets (written_log es) ≡ (first ++ part) ++ rest = parted (suc i) es
    ∙ ap (λ (l : List ℕ). l ++ rest) (one_more es i e d lt is) in
    subst (λ (l : List ℕ). IsLonger most f (length (old ++ l))) (sym whole) (longer_by most f old (first ++ part) rest
    (longer_after most f old mid part first so_far long))

-- ---- three parts, the last of which may be refused

pub puts_last : (most : ℕ) (r : Result (Unit {0}) WireError) (old mid new first part : List ℕ) → mid ≡ old ++ first →
    PutsWithin most r mid new part → PutsWithin most r old new (first ++ part)
puts_last most (Ok t) old mid new first part made put = put_both old mid new first part made put
puts_last most (Err e) old mid new first part made long = longer_after most e old mid part first made long

pub three_parts : (most : ℕ) (r : Result (Unit {0}) WireError) (old one two new a b c whole : List ℕ) →
    one ≡ old ++ a → two ≡ one ++ b → PutsWithin most r two new c → a ++ (b ++ c) ≡ whole → PutsWithin most r old new
    whole
three_parts most r old one two new a b c whole first second put is =
    subst (λ (w : List ℕ). PutsWithin most r old new w) (append_assoc a b c ∙ is)
    (puts_last most r old two new (a ++ b) c (put_both old one two a b first second) put)

-- ---- the length, put in the place of four octets

pub four_set : (l : List ℕ) (a b c d : ℕ) → 4 ≤ length l → slice_set (slice_set (slice_set (slice_set l 0 a) 1 b) 2 c)
    3 d ≡ a ∷ b ∷ c ∷ d ∷ drop 4 l
four_set [] a b c d le = absurd (omega (arith, le))
four_set (w ∷ []) a b c d le = absurd (omega (arith, le))
four_set (w ∷ x ∷ []) a b c d le = absurd (omega (arith, le))
four_set (w ∷ x ∷ y ∷ []) a b c d le = absurd (omega (arith, le))
four_set (w ∷ x ∷ y ∷ z ∷ l) a b c d le = refl
