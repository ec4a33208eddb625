-- Which page the head of a request asks for.
use Rattle.std.specs.Prelude.{◌≡◌, ◌⊎◌, ℕ, List, [], ◌∷◌}
use Rattle.httparse.specs.Grammar.{RequestHead, ReadsRequest, HasNoRequest, NeverHasRequest, MayBecomeRequest}
use Rattle.httparse.specs.Spans.{RequestExceeds}
use Rattle.status_page.specs.declared.asking.Page.{Page}
use Rattle.status_page.specs.declared.asking.Page.TheVariants as page
use Rattle.status_page.specs.declared.asking.Method.{Method}
use Rattle.status_page.specs.declared.asking.Method.TheVariants as method
use Rattle.status_page.specs.declared.asking.Head.{Head}
use Rattle.status_page.specs.declared.asking.Head.TheVariants as head

-- the method GET
abbrev pub get : List ℕ
get = 71 ∷ 69 ∷ 84 ∷ []

-- the method HEAD
abbrev pub head_word : List ℕ
head_word = 72 ∷ 69 ∷ 65 ∷ 68 ∷ []

-- how a method asks: by HEAD for the head of a response alone (RFC 9110 9.3.2)
abbrev pub IsMethod : List ℕ → Method → Type 0
IsMethod name method.Head = name ≡ head_word
IsMethod name method.Get = (name ≡ head_word) → ⊥

-- the methods by which a page is had
abbrev pub Reads : List ℕ → Type 0
Reads name = (name ≡ get) ⊎ (name ≡ head_word)

-- the paths /live, /ready and /metrics
abbrev pub live : List ℕ
live = 47 ∷ 108 ∷ 105 ∷ 118 ∷ 101 ∷ []

-- `/ready`
abbrev pub ready : List ℕ
ready = 47 ∷ 114 ∷ 101 ∷ 97 ∷ 100 ∷ 121 ∷ []

-- `/metrics`
abbrev pub metrics : List ℕ
metrics = 47 ∷ 109 ∷ 101 ∷ 116 ∷ 114 ∷ 105 ∷ 99 ∷ 115 ∷ []

-- the page of a method and a path: none but by GET or HEAD, and none where the path is no page's
abbrev pub IsPage : List ℕ → List ℕ → Page → Type 0
IsPage name path page.Live = Reads name × (path ≡ live)
IsPage name path page.Ready = Reads name × (path ≡ ready)
IsPage name path page.Metrics = Reads name × (path ≡ metrics)
IsPage name path page.None = Reads name → ((path ≡ live) → ⊥) × ((path ≡ ready) → ⊥) × ((path ≡ metrics) → ⊥)

-- how many header fields a head may have
abbrev pub most_fields : ℕ
most_fields = 64

-- What octets are that have come of a request: a whole head that asks for a page in some way; or no whole head, though
-- octets may follow that make one; or no head, whatever follows, or one of too many fields.
abbrev pub TellsHead : List ℕ → Head → Type 0
TellsHead octets (head.Asks how asked) =
    (h : RequestHead) × (rest : List ℕ) × ReadsRequest octets h rest × IsMethod h.method how
    × IsPage h.method h.target asked
TellsHead octets head.Part = HasNoRequest octets × MayBecomeRequest octets
TellsHead octets head.Bad = NeverHasRequest octets ⊎ RequestExceeds most_fields octets
