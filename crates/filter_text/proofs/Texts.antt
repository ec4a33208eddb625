-- Filter texts, reading: what is read of a whole text that the scanner passed, and what the refusals say of it.
use Rattle.std.proofs.Common.{◌≡◌, ℕ, ◌≤◌, List, [], None, refl, sym, ap, subst, arith}
use Rattle.ldap_filter.specs.Tree.{Tree, depth, count}
use Rattle.filter_text.specs.Grammar.{IsFilterText}
use Rattle.filter_text.specs.declared.fault.FilterTextError.{FilterTextError}
use Rattle.filter_text.specs.declared.fault.FilterTextError.TheVariants.{BadFilterText, TooDeep, TooManyItems, NoMemory}
use Rattle.filter_text.specs.private.Scanning.{stop, IsScanFault}
use Rattle.filter_text.specs.private.Reads.{IsFrontRead, IsFrontFault}
use Rattle.filter_text.specs.Refusals.{IsReadFault}
use Rattle.filter_text.proofs.Live.{stopped_longest, stopped_no_text, passed_text}

pub scan_only : (e : FilterTextError) (text : List ℕ) (t : Tree) → IsScanFault e text → IsFilterText t text →
    e ≡ NoMemory
scan_only (BadFilterText n) text t h p = absurd (stopped_no_text text n h t p)
scan_only TooDeep text t h p = absurd h
scan_only TooManyItems text t h p = absurd h
scan_only NoMemory text t h p = refl

pub scan_refused : (e : FilterTextError) (text : List ℕ) → IsScanFault e text → IsReadFault e text
scan_refused (BadFilterText n) text h = (stopped_no_text text n h, stopped_longest text n h)
scan_refused TooDeep text h = absurd h
scan_refused TooManyItems text h = absurd h
scan_refused NoMemory text h = tt

pub filter_refused : (e : FilterTextError) (text : List ℕ) → stop text ≡ None → IsFrontFault e 128 512 text →
    IsReadFault e text
filter_refused (BadFilterText n) text h f = let p = passed_text text h in absurd (f p.0 [] p.1)
filter_refused TooDeep text h f = let p = passed_text text h in (p.0, p.1, f p.0 [] p.1)
filter_refused TooManyItems text h f = let p = passed_text text h in (p.0, p.1, f p.0 [] p.1)
filter_refused NoMemory text h f = tt

pub filter_found : (text : List ℕ) (u : Tree) (left : ℕ) (after : List ℕ) → stop text ≡ None →
    IsFrontRead 128 512 text u left after → IsFilterText u text × (depth u ≤ 128) × (count u ≤ 512)
filter_found text u left after h r =
    let p = passed_text text h in
    let q = r p.0 [] p.1 in (
      subst (λ (t : Tree). IsFilterText t text) (sym
          q.same) p.1,
      omega (arith, ap depth q.same, q.deep),
      omega (arith, ap count q.same, q.many),
    )

pub filter_same : (text : List ℕ) (u t : Tree) (left : ℕ) (after : List ℕ) → IsFrontRead 128 512 text u left after →
    IsFilterText t text → u ≡ t
filter_same text u t left after r p = (r t [] p).same
