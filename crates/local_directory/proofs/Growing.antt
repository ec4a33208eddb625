-- Output that grows line by line, and input that is read line by line.
use Rattle.std.proofs.Common.{◌≡◌, ℕ, ◌+◌, ◌<◌, ◌≤◌, arith, List, [], ◌∷◌, ◌++◌, Option, None, Some, refl, ap, sym, subst, ◌∙◌, map, length, take, drop, get_or, append_assoc, take-append-drop}
use Rattle.std.proofs.lemmas.List.{drop_more, get_or-map, length-append, length-map, take_more}
use Rattle.std.proofs.Math.Seq.{drop-append_seam, take-append_seam}
use Rattle.std.specs.Io.KnownBytes.{Appends}
use Rattle.ldap_session.specs.ldap_msg.Messages.{MessageValue}
use Rattle.ldap_session.specs.ldap_msg.Written.{message_bytes}
use Rattle.ldap_session.specs.Octets.{joined}
use Rattle.local_directory.specs.Lines.{hex_line, message_lines}
use Rattle.local_directory.specs.private.Lines.{hex_lines}
use Rattle.local_directory.specs.private.Faults.{IsCutOff}
use Rattle.local_directory.specs.declared.line_fault.LineFault.{LineFault}

pub append-nil : {A : Type 0} (xs : List A) → xs ++ [] ≡ xs
append-nil [] = refl
append-nil (x ∷ xs) = ap (λ (ys : List _). x ∷ ys) (append-nil xs)

pub lines_append : (xs ys : List (List ℕ)) → hex_lines (xs ++ ys) ≡ hex_lines xs ++ hex_lines ys
lines_append [] ys = refl
lines_append (x ∷ xs) ys = ap (λ (l : List ℕ). hex_line x ++ l) (lines_append xs ys)
    ∙ sym (append_assoc (hex_line x) (hex_lines xs) (hex_lines ys))

pub messages_append : (xs ys : List MessageValue) → message_lines (xs ++ ys) ≡ message_lines xs ++ message_lines ys
messages_append [] ys = refl
messages_append (x ∷ xs) ys = ap (λ (l : List ℕ). hex_line (message_bytes x) ++ l) (messages_append xs ys)
    ∙ sym (append_assoc (hex_line (message_bytes x)) (message_lines xs) (message_lines ys))

-- the lines of messages written are those of their octets
pub written_lines : (ms : List MessageValue) → hex_lines (map message_bytes ms) ≡ message_lines ms
written_lines [] = refl
written_lines (m ∷ ms) = ap (λ (l : List ℕ). hex_line (message_bytes m) ++ l) (written_lines ms)

pub appends_both : (a b d : Option (List ℕ)) (xs ys : List ℕ) → Appends a b xs → Appends b d ys → Appends a d (xs ++ ys)
appends_both None b d xs ys p q = tt
appends_both (Some x) None d xs ys p q = absurd p
appends_both (Some x) (Some y) None xs ys p q = absurd q
appends_both (Some x) (Some y) (Some z) xs ys p q = q ∙ ap (λ (l : List ℕ). l ++ ys) p ∙ append_assoc x xs ys

-- the next of some rows stands at the front of the octets that are left
pub next_row : (rows : List (List ℕ)) (ns : List ℕ) (i n : ℕ) (rest : List ℕ) → ns ≡ map length rows → i < length ns →
    n ≡ get_or ns i 0 → rest ≡ joined (drop i rows)
    → (i < length rows) × (n ≤ length rest) × (take n rest ≡ get_or rows i [])
    × (drop n rest ≡ joined (drop (i + 1) rows))
next_row rows ns i n rest are lt is left =
    let there : i < length rows = omega (arith, lt, ap (λ (l : List ℕ). length l) are, length-map rows length) in
    let row : List ℕ = get_or rows i [] in
    let behind : List ℕ = joined (drop (i + 1) rows) in
    let long : n ≡ length row = is ∙ ap (λ (l : List ℕ). get_or l i 0) are ∙ get_or-map length rows i [] 0 there in
    let whole : rest ≡ row ++ behind = left ∙ ap joined (drop_more rows i [] there) in (
      there,
      omega (arith, long, ap (λ (l : List ℕ). length l) whole, length-append row behind),
      ap (λ (m : ℕ). take m rest) long ∙ ap (take (length row)) whole ∙ take-append_seam row behind,
      ap (λ (m : ℕ). drop m rest) long ∙ ap (drop (length row)) whole ∙ drop-append_seam row behind,
    )

-- one line more of some rows
lines_more : (rows : List (List ℕ)) (i : ℕ) → i < length rows → hex_lines (take i rows) ++ hex_line
    (get_or rows i []) ≡ hex_lines (take (i + 1) rows)
lines_more rows i lt =
    ap (λ (l : List ℕ). hex_lines (take i rows) ++ l) (sym (append-nil (hex_line (get_or rows i []))))
    ∙ sym (lines_append (take i rows) (get_or rows i [] ∷ []))
    ∙ ap hex_lines (sym (take_more rows i [] lt))

pub line_done : (rows : List (List ℕ)) (i : ℕ) (row : List ℕ) (a b d : Option (List ℕ)) → i < length rows →
    row ≡ get_or rows i [] → Appends a b (hex_lines (take i rows)) → Appends b d (hex_line row)
    → Appends a d (hex_lines (take (i + 1) rows))
line_done rows i row a b d lt is p q =
    subst (Appends a d) (lines_more rows i lt)
    (appends_both a b d (hex_lines (take i rows)) (hex_line (get_or rows i [])) p
    (subst (λ (l : List ℕ). Appends b d (hex_line l)) is q))

lines_split : (rows : List (List ℕ)) (n : ℕ) → hex_lines rows ≡ hex_lines (take n rows) ++ hex_lines (drop n rows)
lines_split rows n = ap hex_lines (sym (take-append-drop n rows)) ∙ lines_append (take n rows) (drop n rows)

-- a line is cut off, behind the lines before it
pub line_cut : (rows : List (List ℕ)) (i : ℕ) (row : List ℕ) (a b d : Option (List ℕ)) (fault : LineFault) →
    i < length rows → row ≡ get_or rows i [] →
    Appends a b (hex_lines (take i rows)) → IsCutOff b d (hex_line row) fault → IsCutOff a d (hex_lines rows) fault
line_cut rows i row a b d fault lt is p q = record {
  kind = q.kind;
  taken = hex_lines (take i rows) ++ q.taken;
  appended = appends_both a b d (hex_lines (take i rows)) q.taken p q.appended;
  front = record {
    rest = q.front.rest ++ hex_lines (drop (i + 1) rows);
    is =
        lines_split rows (i + 1)
        ∙ ap (λ (l : List ℕ). l ++ hex_lines (drop (i + 1) rows))
        (sym (lines_more rows i lt)
        ∙ ap (λ (l : List ℕ). hex_lines (take i rows) ++ l) (ap hex_line (sym is) ∙ q.front.is)
        ∙ sym (append_assoc (hex_lines (take i rows)) q.taken q.front.rest))
        ∙ append_assoc (hex_lines (take i rows) ++ q.taken) q.front.rest (hex_lines (drop (i + 1) rows));
  };
}
