-- Filter texts: what is printed of an item spells it, and an item that a text spells is printed.
use Rattle.std.proofs.Common.{◌≡◌, ℕ, List, [], ◌∷◌, ◌++◌, Bool, true, false, ◌&&◌, Option, None, Some, refl, append_assoc}
use Rattle.std.specs.List.{list_all}
use Rattle.ldap_filter.specs.Item.{Item, comparison, substrings, presence, extensible}
use Rattle.filter_text.specs.Descriptions.{is_description}
use Rattle.filter_text.specs.Values.{are_octets, printed_value}
use Rattle.filter_text.specs.Items.{IsPart, IsPartOrNone, AreParts, has_part, IsFlag, is_applicable, IsItemText, printed_part, printed_parts, printed_flag, printed_item, is_part, is_part_or_none, has_item_text}
use Rattle.filter_text.proofs.Booleans.{left, right, both}
use Rattle.filter_text.proofs.Values.{from_spells, octets_spelled}

part_spells : (v : List ℕ) → is_part v ≡ true → IsPart v (printed_value v)
part_spells [] h = absurd cc
part_spells (c ∷ cs) h = record { is_value = from_spells 0 (c ∷ cs) h; is_some = λ e. absurd cc }

end_spells : (o : Option (List ℕ)) → is_part_or_none o ≡ true → IsPartOrNone o (printed_part o)
end_spells None h = refl
end_spells (Some v) h = part_spells v h

parts_spell : (vs : List (List ℕ)) (o : Option (List ℕ)) → list_all is_part vs ≡ true → is_part_or_none o ≡ true →
    AreParts vs o (printed_parts vs ++ printed_part o)
parts_spell [] o h e = end_spells o e
parts_spell (v ∷ vs) o h e = record {
  before = printed_value v;
  behind = printed_parts vs ++ printed_part o;
  parts = append_assoc (printed_value v) (42 ∷ printed_parts vs) (printed_part o);
  is_before = part_spells v (left (is_part v) (list_all is_part vs) h);
  is_behind = parts_spell vs o (right (is_part v) (list_all is_part vs) h) e;
}

flag_spells : (b : Bool) → IsFlag b (printed_flag b)
flag_spells true = (100 ∷ 110 ∷ [], refl, refl)
flag_spells false = refl

pub item_spells : (i : Item) → has_item_text i ≡ true → IsItemText i (printed_item i)
item_spells (comparison k d a) h = record {
  value = printed_value a;
  parts = refl;
  is_description = left (is_description d) (are_octets a) h;
  is_value = from_spells 0 a (right (is_description d) (are_octets a) h);
}
item_spells (substrings s) h =
    let p = right (is_description s.description) (is_part_or_none s.initial
    && (list_all is_part s.any && (is_part_or_none s.last && has_part s.initial s.any s.last))) h in
    let q = right (is_part_or_none s.initial) (list_all is_part s.any
    && (is_part_or_none s.last && has_part s.initial s.any s.last)) p in
    let r = right (list_all is_part s.any) (is_part_or_none s.last && has_part s.initial s.any s.last) q in
    record {
      value = printed_part s.initial ++ 42 ∷ (printed_parts s.any ++ printed_part s.last);
      parts = refl;
      is_description = left (is_description s.description) (is_part_or_none s.initial
          && (list_all is_part s.any && (is_part_or_none s.last && has_part s.initial s.any s.last))) h;
      are_parts = record {
        before = printed_part s.initial;
        behind = printed_parts s.any ++ printed_part s.last;
        parts = refl;
        is_before = end_spells s.initial (left (is_part_or_none s.initial) (list_all is_part s.any
            && (is_part_or_none s.last && has_part s.initial s.any s.last)) p);
        is_behind = parts_spell s.any s.last (left (list_all is_part s.any) (is_part_or_none s.last
            && has_part s.initial s.any s.last) q) (left (is_part_or_none s.last) (has_part s.initial s.any s.last) r);
      };
      some = right (is_part_or_none s.last) (has_part s.initial s.any s.last) r;
    }
item_spells (presence d) h = record { parts = refl; is_description = h }
item_spells (extensible e) h = record {
  flag = printed_flag e.dn_attributes;
  value = printed_value e.match_value;
  parts = refl;
  is_flag = flag_spells e.dn_attributes;
  applies = left (is_applicable e.description e.dn_attributes e.matching_rule) (are_octets e.match_value) h;
  is_value = from_spells 0 e.match_value (right (is_applicable e.description e.dn_attributes e.matching_rule)
      (are_octets e.match_value) h);
}

-- ---- what is spelled has a text that is printed

spelled_part : (v text : List ℕ) → IsPart v text → is_part v ≡ true
spelled_part [] text p = absurd (p.is_some refl)
spelled_part (c ∷ cs) text p = octets_spelled p.is_value

spelled_end : (o : Option (List ℕ)) (text : List ℕ) → IsPartOrNone o text → is_part_or_none o ≡ true
spelled_end None text p = refl
spelled_end (Some v) text p = spelled_part v text p

spelled_any : (vs : List (List ℕ)) (o : Option (List ℕ)) (text : List ℕ) → AreParts vs o text → list_all is_part vs ≡
    true
spelled_any [] o text p = refl
spelled_any (v ∷ vs) o text p = both (is_part v) (list_all is_part vs) (spelled_part v p.before p.is_before)
    (spelled_any vs o p.behind p.is_behind)

spelled_last : (vs : List (List ℕ)) (o : Option (List ℕ)) (text : List ℕ) → AreParts vs o text → is_part_or_none o ≡
    true
spelled_last [] o text p = spelled_end o text p
spelled_last (v ∷ vs) o text p = spelled_last vs o p.behind p.is_behind

pub spelled_item : (i : Item) (text : List ℕ) → IsItemText i text → has_item_text i ≡ true
spelled_item (comparison k d a) text p = both (is_description d) (are_octets a) p.is_description
    (octets_spelled p.is_value)
spelled_item (substrings s) text p =
    let q = p.are_parts in
    both (is_description s.description) (is_part_or_none s.initial
    && (list_all is_part s.any && (is_part_or_none s.last && has_part s.initial s.any s.last))) p.is_description
    (both (is_part_or_none s.initial) (list_all is_part s.any
    && (is_part_or_none s.last && has_part s.initial s.any s.last)) (spelled_end s.initial q.before q.is_before)
    (both (list_all is_part s.any) (is_part_or_none s.last && has_part s.initial s.any s.last)
    (spelled_any s.any s.last q.behind q.is_behind)
    (both (is_part_or_none s.last) (has_part s.initial s.any s.last) (spelled_last s.any s.last q.behind q.is_behind)
    p.some)))
spelled_item (presence d) text p = p.is_description
spelled_item (extensible e) text p = both (is_applicable e.description e.dn_attributes e.matching_rule)
    (are_octets e.match_value) p.applies (octets_spelled p.is_value)
