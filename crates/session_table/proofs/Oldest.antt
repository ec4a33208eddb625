-- The session that has waited longest for a thread that updates. What is looked up at its place comes in; that it is this
-- one comes out.
use Rattle.std.proofs.Common.{◌≡◌, ℕ, List, ◌∷◌, Option, Some, None, sym, ap, ◌∙◌, subst, slice_get, Bor}
use Rattle.std.specs.Prelude.{IfSome, IfNone, option_copied}
use Rattle.session_table.specs.Tabling.{Tabled, Works, WaitsFirst}
use Rattle.session_table.specs.declared.pooled.PooledSession.{PooledSession}

-- what is said of a value is said of what a reference to it shows
pub seen_some : {G : Type 0} (P : G → Type 0) (o : Option (Bor G)) (x : Option G) (g : G) → option_copied o ≡ x →
    x ≡ Some g → P g → IfSome o (λ r. P r.now)
seen_some P None x g e f h = cc
seen_some P (Some r) x g e f h = subst P (let k : g ≡ r.now = cc in k) h

pub seen_not_none : {G : Type 0} (Q : Type 0) (o : Option (Bor G)) (x : Option G) (g : G) → option_copied o ≡ x →
    x ≡ Some g → IfNone o Q
seen_not_none Q None x g e f = cc
seen_not_none Q (Some r) x g e f = tt

-- who has waited longest is one
first_of : (p q : ℕ) (ps qs : List ℕ) → p ∷ ps ≡ q ∷ qs → p ≡ q
first_of p q ps qs e = cc

one_there : {G : Type 0} (o : Option (Option G)) (g h : G) → o ≡ Some (Some g) → o ≡ Some (Some h) → g ≡ h
one_there o g h e f = cc

pub same_first : (t u : Tabled) (g h : PooledSession) → WaitsFirst t g → Works t h u → g ≡ h
same_first t u g h first works =
    let p : first.place ≡ works.place = first_of first.place works.place first.others u.updates
    (sym first.first ∙ works.first) in
    one_there (slice_get t.sessions first.place) g h first.home.here (ap (slice_get t.sessions) p ∙ works.home.here)
