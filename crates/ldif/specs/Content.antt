-- The grammar of a text's lines.
use Rattle.std.specs.Prelude.{◌≡◌, ◌↔◌, ℕ, List, [], ◌∷◌, map, true}
use Rattle.std.specs.declared.result.Result.TheVariants.{Ok}
use Rattle.ldif.specs.Records.{ValueModel, RecordModel}
use Rattle.ldif.specs.Lines.{lines_of}
use Rattle.ldif.specs.Says.{Says, blank, comment, named, valued, encoded, line_says}
use Rattle.ldif.specs.Reading.{is_version, records_of}

-- the values of a record, and the lines that follow: it ends by an empty line or where the text ends
-- (RFC 2849, 1*attrval-spec)
pub data HasValues : List Says → List ValueModel → List Says → Type 0 where
  text_ends : HasValues [] [] []
  record_ends : (rest : List Says) → HasValues (blank ∷ rest) [] rest
  a_value : {ss rest : List Says} {vs : List ValueModel} (v : ValueModel) → HasValues ss vs rest
      → HasValues (valued v ∷ ss) (v ∷ vs) rest
  an_encoded_value : {ss rest : List Says} {vs : List ValueModel} (v : ValueModel) → HasValues ss vs rest
      → HasValues (encoded v ∷ ss) (v ∷ vs) rest
  comment_inside : {ss rest : List Says} {vs : List ValueModel} → HasValues ss vs rest
      → HasValues (comment ∷ ss) vs rest

-- records, each its name's line and its values, with empty lines between (RFC 2849, ldif-content)
pub data AreRecords : List Says → List RecordModel → Type 0 where
  no_record : AreRecords [] []
  blank_before : {ss : List Says} {rs : List RecordModel} → AreRecords ss rs → AreRecords (blank ∷ ss) rs
  comment_before : {ss : List Says} {rs : List RecordModel} → AreRecords ss rs → AreRecords (comment ∷ ss) rs
  a_record : {ss rest : List Says} {rs : List RecordModel} (name : List ℕ) (vs : List ValueModel)
      → HasValues ss vs rest → AreRecords rest rs → AreRecords (named name ∷ ss)
      (record { name = name; values = vs } ∷ rs)

-- records, before which the version may stand, as it is and not in base64 (RFC 2849, ldif-file and version-spec)
pub data IsContent : List Says → List RecordModel → Type 0 where
  unversioned : {ss : List Says} {rs : List RecordModel} → AreRecords ss rs → IsContent ss rs
  versioned : {ss : List Says} {rs : List RecordModel} (v : ValueModel) → is_version v ≡ true → AreRecords ss rs
      → IsContent (valued v ∷ ss) rs
  blank_first : {ss : List Says} {rs : List RecordModel} → IsContent ss rs → IsContent (blank ∷ ss) rs
  comment_first : {ss : List Says} {rs : List RecordModel} → IsContent ss rs → IsContent (comment ∷ ss) rs

-- A text is one of these records.
abbrev pub IsLdifText : List ℕ → List RecordModel → Type 0
IsLdifText text rs = IsContent (map (λ l. line_says l.text) (lines_of text)) rs

-- The records that are read of a text are those that it is one of, and no others.
abbrev pub RecordsAreOfText : Type 0
RecordsAreOfText = (text : List ℕ) (rs : List RecordModel) → (records_of text ≡ Ok rs) ↔ IsLdifText text rs
