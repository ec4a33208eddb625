-- Strings tell one thing: each spells one note at most.
use Rattle.std.proofs.Common.{◌≡◌, ℕ, zero, suc, ◌≤◌, Bool, true, false, List, [], ◌∷◌, Some, refl, sym, ap, ◌∙◌, subst, arith}
use Rattle.ldap_op.specs.Grammar.{IsOp}
use Rattle.ldap_op.specs.Values.{OpValue}
use Rattle.vr_state.specs.Words.{LogEntry}
use Rattle.vr_state.specs.Journaled as journaled
use Rattle.log_journal.specs.Fields.{Fields}
use Rattle.log_journal.specs.Notes.{Note, Begin, Start, Step, Commit, flag, IsEntryIn, IsStepIn, IsNoteIn, Spells}
use Rattle.log_journal.specs.Told.{told_by, Tells}
use Rattle.log_journal.specs.Batches.{OneIsTold}

-- Octets spell one update.
abbrev pub OneUpdate : Type 0
OneUpdate = (op other : OpValue) (octets : List ℕ) → IsOp op octets → IsOp other octets → op ≡ other

-- a flag's number stands for it
abbrev unflag : ℕ → Bool
unflag zero = false
unflag (suc n) = true

flag_back : (b : Bool) → unflag (flag b) ≡ b
flag_back true = refl
flag_back false = refl

-- the kind of what a step notes
abbrev pub step_kind : journaled.Note OpValue → ℕ
step_kind (journaled.Enter v) = 2
step_kind (journaled.Record k e) = 3
step_kind (journaled.Stage e) = 4
step_kind (journaled.Adopt v last base k) = 5

-- the kind of a note
abbrev pub kind_of : Note → ℕ
kind_of (Begin cluster index count) = 0
kind_of (Start r v w) = 1
kind_of (Step x) = step_kind x
kind_of (Commit k) = 6

pub step_kind_is : (x : journaled.Note OpValue) (f : Fields) → IsStepIn x f → f.kind ≡ step_kind x
step_kind_is (journaled.Enter v) f h = ap (λ (g : Fields). g.kind) h
step_kind_is (journaled.Record k e) f h = h.kind_is
step_kind_is (journaled.Stage e) f h = h.kind_is
step_kind_is (journaled.Adopt v last base k) f h = ap (λ (g : Fields). g.kind) h

pub kind_is : (x : Note) (f : Fields) → IsNoteIn x f → f.kind ≡ kind_of x
kind_is (Begin cluster index count) f h = ap (λ (g : Fields). g.kind) h
kind_is (Start r v w) f h = ap (λ (g : Fields). g.kind) h
kind_is (Step x) f h = step_kind_is x f h
kind_is (Commit k) f h = ap (λ (g : Fields). g.kind) h

-- a step's kind is 2, 3, 4 or 5
step_kinds : (x : journaled.Note OpValue) → (2 ≤ step_kind x) × (step_kind x ≤ 5)
step_kinds (journaled.Enter v) = (omega arith, omega arith)
step_kinds (journaled.Record k e) = (omega arith, omega arith)
step_kinds (journaled.Stage e) = (omega arith, omega arith)
step_kinds (journaled.Adopt v last base k) = (omega arith, omega arith)

-- fields are those of one record
one_entry : OneUpdate → (kind k other j : ℕ) (e d : LogEntry OpValue) (f : Fields) → IsEntryIn kind k e f →
    IsEntryIn other j d f → e ≡ d
one_entry one kind k other j e d f h g = λ i. record {
  client = record {
    home = (sym h.home ∙ g.home) i;
    life = (sym h.life ∙ g.life) i;
    number = (sym h.number ∙ g.number)
        i;
  };
  request_number = (sym h.request ∙ g.request) i;
  payload = one e.payload d.payload f.rest h.update g.update i;
}

module _ (one : OneUpdate) (f : Fields) where
  -- fields are those of one note of a step
  one_step : (x y : journaled.Note OpValue) → IsStepIn x f → IsStepIn y f → step_kind x ≡ step_kind y → x ≡ y
  one_step (journaled.Enter v) (journaled.Enter w) h g e = λ t. journaled.Enter ((sym h ∙ g) t).first
  one_step (journaled.Record k a) (journaled.Record j b) h g e = λ t. journaled.Record ((sym h.first_is ∙ g.first_is)
      t) (one_entry one 3 k 3 j a b f h g t)
  one_step (journaled.Stage a) (journaled.Stage b) h g e = λ t. journaled.Stage (one_entry one 4 0 4 0 a b f h g t)
  one_step (journaled.Adopt v last base k) (journaled.Adopt w l b j) h g e = λ t. journaled.Adopt
      ((sym h ∙ g) t).first ((sym h ∙ g) t).second ((sym h ∙ g) t).third ((sym h ∙ g) t).fourth
  one_step x y h g e = absurd (omega (arith, e))

  -- fields are those of one note
  one_kind : (x y : Note) → IsNoteIn x f → IsNoteIn y f → kind_of x ≡ kind_of y → x ≡ y
  one_kind (Begin cluster index count) (Begin c i n) h g e = ap (λ (p : Fields). Begin p.second p.third p.fourth)
      (sym h ∙ g)
  one_kind (Start r v w) (Start s u x) h g e = ap (λ (b : Bool). Start r v b) (sym (flag_back w))
      ∙ (ap (λ (p : Fields). Start p.first p.second (unflag p.third)) (sym h ∙ g) ∙ ap (λ (b : Bool). Start s u b)
      (flag_back x))
  one_kind (Step x) (Step y) h g e = ap (λ (z : journaled.Note OpValue). Step z) (one_step x y h g e)
  one_kind (Commit k) (Commit j) h g e = ap (λ (p : Fields). Commit p.first) (sym h ∙ g)
  one_kind (Step x) y h g e = let b = step_kinds x in absurd (omega (arith, e, b.0, b.1))
  one_kind x (Step y) h g e = let b = step_kinds y in absurd (omega (arith, e, b.0, b.1))
  one_kind x y h g e = absurd (omega (arith, e))

  one_note : (x y : Note) → IsNoteIn x f → IsNoteIn y f → x ≡ y
  one_note x y h g = one_kind x y h g (sym (kind_is x f h) ∙ kind_is y f g)

-- a string spells one note
one_spelled : OneUpdate → (s : List ℕ) (x y : Note) → Spells x s → Spells y s → x ≡ y
one_spelled one s x y h g =
    let same : Some h.fields ≡ Some g.fields = sym h.read ∙ g.read in
    let fields : h.fields ≡ g.fields = cc in
    one_note one h.fields x y h.note (subst (λ (f : Fields). IsNoteIn y f) (sym fields) g.note)

-- The law.
pub one_told : OneUpdate → OneIsTold
one_told one [] t u v h k = sym h ∙ k
one_told one (s ∷ ss) t u v (x, a, rest) (y, b, more) =
    one_told one ss (told_by t x) u v rest (subst (λ (z : Note). Tells (told_by t z) ss v)
    (sym (one_spelled one s x y a b)) more)
