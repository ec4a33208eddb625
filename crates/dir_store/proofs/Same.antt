-- What a modify leaves as it is, of the entry that the tree has under a number.
use Rattle.std.proofs.Common.{◌≡◌, ℕ, List, sym, ap, ◌∙◌, subst, Some}
use Rattle.std.specs.Option.{option_map}
use Rattle.indexed_tree.specs.dir_entry.Entry.{KeyedAttribute}
use Rattle.indexed_tree.specs.dir_index.Whole.{AreSameBut}
use Rattle.indexed_tree.specs.dir_tree.Directory.{NameKey, Entered, find, NumbersRise}
use Rattle.indexed_tree.specs.Listed.{IsSameBut}
use Rattle.indexed_tree.proofs.Lookups.{found_at}

pub same_found : (types : List ℕ) (named : List KeyedAttribute) (q : NameKey) (d : List Entered) (x : Entered) (k : ℕ)
    (entry : List KeyedAttribute) → NumbersRise d → find q d ≡ Some x → x.number ≡ k → AreSameBut types named x.entry
    entry → IsSameBut types named k d entry
same_found types named q d x k entry rise found number same = λ a h.
    let at = found_at q d k rise (ap (option_map (λ (e : Entered). e.number)) found ∙ ap (λ (n : ℕ). Some n) number) in
    let both : Some x.entry ≡ Some a = sym (ap (option_map (λ (e : Entered). e.entry)) (at ∙ found)) ∙ h in
    let own : x.entry ≡ a = cc both in
    subst (λ (b : List KeyedAttribute). AreSameBut types named b entry) own same
