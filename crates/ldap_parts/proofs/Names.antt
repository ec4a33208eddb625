-- A modifyDN and a delete have one value; what a part lacks, the update lacks; what is written is one.
use Rattle.std.proofs.Common.{◌≡◌, ℕ, Bool, Option, List, [], ◌++◌, refl, sym, ap, subst, ◌∙◌, arith}
use Rattle.std.specs.Str.{IsUtf8}
use Rattle.std.proofs.lemmas.List.{append-nil}
use Rattle.ldap_ber.specs.Element.{element_bytes}
use Rattle.ldap_ber.specs.Fields.{HasText, HasFlag, HasTextOrNone}
use Rattle.ldap_ber.specs.Rows.{AreElements, none}
use Rattle.ldap_ber.specs.Written.{flag_octets, optional_bytes}
use Rattle.ldap_ber.proofs.Same.{IsUnique, step, flag_unique, text_part, text_unique, text_or_none_unique}
use Rattle.ldap_ber.proofs.RowLemmas.{IsOneValue}
use Rattle.ldap_ber.proofs.Parts.{text_or_none_part}
use Rattle.ldap_ber.proofs.Spelled.{IsShort, inner, left, right, text, flag, text_or_none, regroup}
use Rattle.ldap_parts.specs.UpdateValues.{ModifyDnRequestValue}
use Rattle.ldap_parts.specs.UpdateGrammar.{IsDelRequest, IsNewName, IsModifyDnRequest}
use Rattle.ldap_parts.specs.UpdatesWritten.{modify_dn_content, IsModifyDnInRange}

-- ---- one value

pub record NewName : Type 0 where
  pub entry : List ℕ
  pub newrdn : List ℕ
  pub deleteoldrdn : Bool

abbrev pub new_name_part : NewName → List ℕ → List ℕ → Type 0
new_name_part v octets rest = IsNewName v.entry v.newrdn v.deleteoldrdn octets rest

new_name_same : (v w : NewName) → v.entry ≡ w.entry → v.newrdn ≡ w.newrdn → v.deleteoldrdn ≡ w.deleteoldrdn → v ≡ w
new_name_same v w e0 e1 e2 =
    ap (λ (x : List ℕ). let r : NewName = record { entry = x; newrdn = v.newrdn; deleteoldrdn = v.deleteoldrdn } in r)
    e0
    ∙ ap (λ (x : List ℕ). let r : NewName = record { entry = w.entry; newrdn = x; deleteoldrdn = v.deleteoldrdn }
    in r) e1
    ∙ ap (λ (x : Bool). let r : NewName = record { entry = w.entry; newrdn = w.newrdn; deleteoldrdn = x } in r) e2

pub new_name_unique : IsUnique new_name_part
new_name_unique v w o x y p q =
    let s = step text_part (text_unique 4) _ v.entry w.entry o p.rest p.first q in
    let t = step text_part (text_unique 4) _ v.newrdn w.newrdn p.rest p.next.rest p.next.first s.next in
    let u = flag_unique 1 v.deleteoldrdn w.deleteoldrdn p.next.rest x y p.next.next t.next in
    record { value = new_name_same v w s.value t.value u.value; rest = u.rest }

abbrev new_name_of : ModifyDnRequestValue → NewName
new_name_of d = record { entry = d.entry; newrdn = d.newrdn; deleteoldrdn = d.deleteoldrdn }

modify_dn_same : (v w : ModifyDnRequestValue) → new_name_of v ≡ new_name_of w → v.new_superior ≡ w.new_superior → v ≡ w
modify_dn_same v w e0 e1 =
    ap (λ (x : NewName). let r : ModifyDnRequestValue = record {
      entry = x.entry;
      newrdn = x.newrdn;
      deleteoldrdn =
          x.deleteoldrdn;
      new_superior = v.new_superior;
    } in r) e0
    ∙ ap (λ (x : Option (List ℕ)). let r : ModifyDnRequestValue = record {
      entry = w.entry;
      newrdn =
          w.newrdn;
      deleteoldrdn = w.deleteoldrdn;
      new_superior = x;
    } in r) e1

pub modify_dn_one : IsOneValue IsModifyDnRequest
modify_dn_one v w o p q =
    let s = step new_name_part new_name_unique _ (new_name_of v) (new_name_of w) o p.rest p.first q in
    let t = step (text_or_none_part 128) (text_or_none_unique 128) _ v.new_superior w.new_superior p.rest p.next.rest
    p.next.first s.next in
    modify_dn_same v w s.value t.value

pub delete_one : IsOneValue IsDelRequest
delete_one v w o p q = p.is_content ∙ sym q.is_content

-- ---- exits of readers

pub name_newrdn : (o x d : List ℕ) → HasText o 4 d x → (entry newrdn : List ℕ) × (b : Bool) × (rest : List ℕ)
    × IsNewName entry newrdn b o rest → (t r : List ℕ) × HasText x 4 t r
name_newrdn o x d p (entry, newrdn, b, rest, h) = let s = step text_part (text_unique 4) _ d entry o x p h
    in (newrdn, s.next.rest, s.next.first)

pub name_flag : (o x y d t : List ℕ) → HasText o 4 d x → HasText x 4 t y → (entry newrdn : List ℕ) × (b : Bool)
    × (rest : List ℕ) × IsNewName entry newrdn b o rest → (b : Bool) × (r : List ℕ) × HasFlag y 1 b r
name_flag o x y d t p q (entry, newrdn, b, rest, h) =
    let s = step text_part (text_unique 4) _ d entry o x p h in
    let u = step text_part (text_unique 4) _ t newrdn x y q s.next in
    (b, rest, u.next)

pub modify_dn_name : (o : List ℕ) → (d : ModifyDnRequestValue) × IsModifyDnRequest d o → (entry newrdn : List ℕ)
    × (b : Bool) × (rest : List ℕ) × IsNewName entry newrdn b o rest
modify_dn_name o (v, h) = (v.entry, v.newrdn, v.deleteoldrdn, h.rest, h.first)

pub modify_dn_superior : (o x entry newrdn : List ℕ) (b : Bool) → IsNewName entry newrdn b o x →
    (d : ModifyDnRequestValue) × IsModifyDnRequest d o → (t : Option (List ℕ)) × (rest : List ℕ)
    × HasTextOrNone x 128 t rest
modify_dn_superior o x entry newrdn b p (v, h) =
    let n : NewName = record { entry = entry; newrdn = newrdn; deleteoldrdn = b } in
    let s = step new_name_part new_name_unique _ n (new_name_of v) o x p h in
    (v.new_superior, s.next.rest, s.next.first)

pub modify_dn_end : (o x y entry newrdn : List ℕ) (b : Bool) (t : Option (List ℕ)) → IsNewName entry newrdn b o x →
    HasTextOrNone x 128 t y → (d : ModifyDnRequestValue) × IsModifyDnRequest d o → AreElements y
modify_dn_end o x y entry newrdn b t p q (v, h) =
    let n : NewName = record { entry = entry; newrdn = newrdn; deleteoldrdn = b } in
    let s = step new_name_part new_name_unique _ n (new_name_of v) o x p h in
    (step (text_or_none_part 128) (text_or_none_unique 128) _ t v.new_superior x y q s.next).next

-- ---- what is written

pub modify_dn_written : (d : ModifyDnRequestValue) → IsModifyDnInRange d → IsShort (modify_dn_content d) →
    IsModifyDnRequest d (modify_dn_content d)
modify_dn_written k range small =
    let a = element_bytes 4 k.entry in
    let b = element_bytes 4 k.newrdn in
    let d = element_bytes 1 (flag_octets k.deleteoldrdn) in
    let e = optional_bytes 128 k.new_superior in
    let abd = left (a ++ b ++ d) e small in
    let ab = left (a ++ b) d abd in
    let whole : a ++ (b ++ (d ++ (e ++ []))) ≡ a ++ b ++ d ++ e = sym (regroup a b d e [])
    ∙ append-nil (a ++ b ++ d ++ e) in
    subst (IsModifyDnRequest k) whole (record {
      rest = e ++ [];
      first = record {
        rest = b ++ (d ++ (e ++ []));
        first = text k.entry (b ++ (d ++ (e ++ []))) range.entry (inner 4 k.entry (left a b ab));
        next = record {
          rest = d ++ (e ++ []);
          first = text k.newrdn (d ++ (e ++ [])) range.newrdn
              (inner 4 k.newrdn (right a b ab));
          next = flag k.deleteoldrdn (e ++ []);
        };
      };
      next = record {
        rest = [];
        first = text_or_none 128 k.new_superior [] (omega arith) range.new_superior
            (right (a ++ b ++ d) e small) tt;
        next = none;
      };
    })

pub delete_written : (name : List ℕ) → IsUtf8 name → IsShort name → IsDelRequest name name
delete_written name utf8 small = record { is_content = refl; is_text = utf8 }
