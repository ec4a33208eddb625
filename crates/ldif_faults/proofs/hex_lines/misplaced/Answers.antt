-- What search doesn't prove of `misplaced`: what it returns, by lemmas of `Written` (`text_faults`).
use Rattle.std.proofs.Common.{◌≡◌, ℕ, List, ◌++◌, codes, decimal, append_assoc, ap, ◌∙◌, string_bytes}
use Rattle.ldif_faults.specs.HexLines.{bad_octet}
use Rattle.text_faults.proofs.Written.{written_as}
use Rattle.ldif_faults.proofs.hex_lines.misplaced.Goals as goal

parts : (q o a n z : List ℕ) → q ++ (o ++ (a ++ (n ++ z))) ≡ q ++ o ++ a ++ n ++ z
parts q o a n z = simp append_assoc

pub returns : goal.returns
returns c =
    let around : List ℕ → List ℕ = λ x.
    codes "'" ++ (x ++ (codes "' at column " ++ (decimal c.args.column ++ codes " is no hexadecimal digit"))) in
    written_as string_bytes c.format.result _ (bad_octet c.args.octet c.args.column)
    (ap around c.in_ok-octet.ensures ∙ parts (codes "'") _ (codes "' at column ") (decimal c.args.column)
    (codes " is no hexadecimal digit"))
    c.format.ensures.ok
