-- LDIF: what is read of lines is what their grammar says.
use Rattle.std.proofs.Common.{◌≡◌, ℕ, List, [], ◌∷◌, ◌++◌, map, Bool, true, false, cond, Option, None, Some, refl, sym, ap, subst, ◌∙◌, append_assoc, append-nil}
use Rattle.std.specs.declared.result.Result.{Result}
use Rattle.std.specs.declared.result.Result.TheVariants.{Ok, Err}
use Rattle.ldif.specs.declared.fault.LdifCause.{LdifCause}
use Rattle.ldif.specs.Records.{ValueModel, RecordModel}
use Rattle.ldif.specs.Lines.{LineModel, lines_of}
use Rattle.ldif.specs.Says.{Says, blank, comment, named, valued, encoded, wrong, line_says}
use Rattle.ldif.specs.Reading.{ReadingModel, with_open, after_line, is_version, misplaced, or_wrong, read_from, nothing_read}
use Rattle.ldif.specs.Content.{HasValues, text_ends, record_ends, a_value, an_encoded_value, comment_inside, AreRecords, no_record, blank_before, comment_before, a_record, IsContent, unversioned, versioned, blank_first, comment_first, RecordsAreOfText}

-- ---- reading without numbers

abbrev on_some : Result ReadingModel LdifCause → (ReadingModel → Option (List RecordModel)) → Option (List RecordModel)
on_some (Err cause) f = None
on_some (Ok s) f = f s

abbrev read_says : ReadingModel → List Says → Option (List RecordModel)
read_says s [] = Some (with_open s.done s.current)
read_says s (x ∷ xs) = on_some (after_line s x) (λ t. read_says t xs)

abbrev sayings : List LineModel → List Says
sayings ls = map (λ l. line_says l.text) ls

step_from : (o : Result ReadingModel LdifCause) (n : ℕ) (ls : List LineModel) (out : List RecordModel) →
    ((t : ReadingModel) → read_from t ls ≡ Ok out → read_says t (sayings ls) ≡ Some out)
    → or_wrong o n (λ t. read_from t ls) ≡ Ok out → on_some o (λ t. read_says t (sayings ls)) ≡ Some out
step_from (Err cause) n ls out f e = absurd cc
step_from (Ok t) n ls out f e = f t e

ok_from : (ls : List LineModel) (s : ReadingModel) (out : List RecordModel) → read_from s ls ≡ Ok out →
    read_says s (sayings ls) ≡ Some out
ok_from [] s out e = let same : with_open s.done s.current ≡ out = cc in ap Some same
ok_from (l ∷ ls) s out e = step_from (after_line s (line_says l.text)) l.number ls out (λ t. ok_from ls t out) e

step_to : (o : Result ReadingModel LdifCause) (n : ℕ) (ls : List LineModel) (out : List RecordModel) →
    ((t : ReadingModel) → read_says t (sayings ls) ≡ Some out → read_from t ls ≡ Ok out)
    → on_some o (λ t. read_says t (sayings ls)) ≡ Some out → or_wrong o n (λ t. read_from t ls) ≡ Ok out
step_to (Err cause) n ls out f e = absurd cc
step_to (Ok t) n ls out f e = f t e

ok_to : (ls : List LineModel) (s : ReadingModel) (out : List RecordModel) → read_says s (sayings ls) ≡ Some out →
    read_from s ls ≡ Ok out
ok_to [] s out e = let same : with_open s.done s.current ≡ out = cc in ap Ok same
ok_to (l ∷ ls) s out e = step_to (after_line s (line_says l.text)) l.number ls out (λ t. ok_to ls t out) e

abbrev state : List RecordModel → Option RecordModel → Bool → ReadingModel
state done current begun = record { done = done; current = current; begun = begun }

abbrev of : List ℕ → List ValueModel → RecordModel
of name vs = record { name = name; values = vs }

-- ---- what is of the grammar is read

values_are_read : {ss rest : List Says} {vs : List ValueModel} → HasValues ss vs rest → (done : List RecordModel)
    (name : List ℕ) (us : List ValueModel) (result : Option (List RecordModel))
    → read_says (state (done ++ of name (us ++ vs) ∷ []) None true) rest ≡ result →
    read_says (state done (Some (of name us)) true) ss ≡ result
values_are_read text_ends done name us result e = ap (λ x. Some (done ++ of name x ∷ [])) (sym (append-nil us)) ∙ e
values_are_read (record_ends rest) done name us result e =
    ap (λ x. read_says (state (done ++ of name x ∷ []) None true) rest) (sym (append-nil us)) ∙ e
values_are_read (a_value {ss} {rest} {vs} v p) done name us result e =
    values_are_read p done name (us ++ v ∷ []) result (ap (λ x. read_says (state (done ++ of name x ∷ []) None true)
    rest) (append_assoc us (v ∷ []) vs) ∙ e)
values_are_read (an_encoded_value {ss} {rest} {vs} v p) done name us result e =
    values_are_read p done name (us ++ v ∷ []) result (ap (λ x. read_says (state (done ++ of name x ∷ []) None true)
    rest) (append_assoc us (v ∷ []) vs) ∙ e)
values_are_read (comment_inside p) done name us result e = values_are_read p done name us result e

records_are_read : {ss : List Says} {rs : List RecordModel} → AreRecords ss rs → (done : List RecordModel)
    (begun : Bool) → read_says (state done None begun) ss ≡ Some (done ++ rs)
records_are_read no_record done begun = ap Some (sym (append-nil done))
records_are_read (blank_before p) done begun = records_are_read p done begun
records_are_read (comment_before p) done begun = records_are_read p done begun
records_are_read (a_record {ss} {rest} {rs} name vs p q) done begun =
    values_are_read p done name [] (Some (done ++ of name vs ∷ rs)) (records_are_read q (done ++ of name vs ∷ []) true
    ∙ ap Some (append_assoc done (of name vs ∷ []) rs))

content_is_read : {ss : List Says} {rs : List RecordModel} → IsContent ss rs → read_says nothing_read ss ≡ Some rs
content_is_read (unversioned p) = records_are_read p [] false
content_is_read (versioned {ss} {rs} v e p) =
    ap (λ b. on_some (cond b (Ok (state [] None true)) (Err (misplaced false v))) (λ t. read_says t ss)) e
    ∙ records_are_read p [] true
content_is_read (blank_first p) = content_is_read p
content_is_read (comment_first p) = content_is_read p

-- ---- what is read is of the grammar

record Inside (ss : List Says) (done : List RecordModel) (name : List ℕ) (us : List ValueModel)
    (out : List RecordModel) : Type 0 where
  vs : List ValueModel
  rest : List Says
  rs : List RecordModel
  has : HasValues ss vs rest
  are : AreRecords rest rs
  is : out ≡ done ++ of name (us ++ vs) ∷ rs

record Outside (ss : List Says) (done : List RecordModel) (out : List RecordModel) : Type 0 where
  rs : List RecordModel
  are : AreRecords ss rs
  is : out ≡ done ++ rs

mutual
  inside : (ss : List Says) (done : List RecordModel) (name : List ℕ) (us : List ValueModel)
      (out : List RecordModel) → read_says (state done (Some (of name us)) true) ss ≡ Some out →
      Inside ss done name us out
  inside [] done name us out e =
      let same : done ++ of name us ∷ [] ≡ out = cc in
      record {
        vs = [];
        rest = [];
        rs = [];
        has = text_ends;
        are = no_record;
        is = sym same
            ∙ ap (λ x. done ++ of name x ∷ []) (sym (append-nil us));
      }
  inside (blank ∷ ss) done name us out e =
      let o = outside ss (done ++ of name us ∷ []) out e in
      record {
        vs = [];
        rest = ss;
        rs = o.rs;
        has = record_ends ss;
        are = o.are;
        is = o.is
            ∙ append_assoc done (of name us ∷ []) o.rs ∙ ap (λ x. done ++ of name x ∷ o.rs) (sym (append-nil us));
      }
  inside (comment ∷ ss) done name us out e =
      let i = inside ss done name us out e in
      record { vs = i.vs; rest = i.rest; rs = i.rs; has = comment_inside i.has; are = i.are; is = i.is }
  inside (named n ∷ ss) done name us out e = absurd cc
  inside (valued v ∷ ss) done name us out e =
      let i = inside ss done name (us ++ v ∷ []) out e in
      record {
        vs = v ∷ i.vs;
        rest = i.rest;
        rs = i.rs;
        has = a_value v i.has;
        are = i.are;
        is = i.is
            ∙ ap (λ x. done ++ of name x ∷ i.rs) (append_assoc us (v ∷ []) i.vs);
      }
  inside (encoded v ∷ ss) done name us out e =
      let i = inside ss done name (us ++ v ∷ []) out e in
      record {
        vs = v ∷ i.vs;
        rest = i.rest;
        rs = i.rs;
        has = an_encoded_value v i.has;
        are = i.are;
        is = i.is
            ∙ ap (λ x. done ++ of name x ∷ i.rs) (append_assoc us (v ∷ []) i.vs);
      }
  inside (wrong cause ∷ ss) done name us out e = absurd cc

  outside : (ss : List Says) (done : List RecordModel) (out : List RecordModel) → read_says (state done None true)
      ss ≡ Some out → Outside ss done out
  outside [] done out e = let same : done ≡ out = cc in record {
    rs = [];
    are = no_record;
    is = sym same
        ∙ sym (append-nil done);
  }
  outside (blank ∷ ss) done out e = let o = outside ss done out e in record {
    rs = o.rs;
    are = blank_before o.are;
    is = o.is;
  }
  outside (comment ∷ ss) done out e = let o = outside ss done out e in record {
    rs = o.rs;
    are = comment_before o.are;
    is = o.is;
  }
  outside (named n ∷ ss) done out e =
      let i = inside ss done n [] out e in
      record { rs = of n i.vs ∷ i.rs; are = a_record n i.vs i.has i.are; is = i.is }
  outside (valued v ∷ ss) done out e = absurd cc
  outside (encoded v ∷ ss) done out e = absurd cc
  outside (wrong cause ∷ ss) done out e = absurd cc

by_version : (b : Bool) (v : ValueModel) (ss : List Says) (out : List RecordModel) → is_version v ≡ b →
    on_some (cond b (Ok (state [] None true)) (Err (misplaced false v))) (λ t. read_says t ss) ≡ Some out
    → IsContent (valued v ∷ ss) out
by_version true v ss out is e = let o = outside ss [] out e in subst (λ x. IsContent (valued v ∷ ss) x) (sym o.is)
    (versioned v is o.are)
by_version false v ss out is e = absurd cc

content_from : (ss : List Says) (out : List RecordModel) → read_says nothing_read ss ≡ Some out → IsContent ss out
content_from [] out e = let same : [] ≡ out = cc in subst (λ x. IsContent [] x) same (unversioned no_record)
content_from (blank ∷ ss) out e = blank_first (content_from ss out e)
content_from (comment ∷ ss) out e = comment_first (content_from ss out e)
content_from (named n ∷ ss) out e = let i = inside ss [] n [] out e in subst (λ x. IsContent (named n ∷ ss) x)
    (sym i.is) (unversioned (a_record n i.vs i.has i.are))
content_from (valued v ∷ ss) out e = by_version (is_version v) v ss out refl e
content_from (encoded v ∷ ss) out e = absurd cc
content_from (wrong cause ∷ ss) out e = absurd cc

pub records_are_of_text : RecordsAreOfText
records_are_of_text text rs = (
  λ e. content_from (sayings (lines_of text)) rs (ok_from (lines_of text) nothing_read rs e),
  λ p. ok_to (lines_of text) nothing_read rs (content_is_read p),
)
