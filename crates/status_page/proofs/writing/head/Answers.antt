use Rattle.std.proofs.Common.{◌≡◌, ℕ, List, [], ◌∷◌, ◌++◌, codes, decimal, append_assoc, string_bytes}
use Rattle.status_page.specs.Pages.{head}
use Rattle.status_page.proofs.Written.{written_as}
use Rattle.status_page.proofs.writing.head.Goals as goal

-- the lines as the format has them
lines : (a s e t l d k : List ℕ) → a ++ (s ++ ((e ++ (t ++ (e ++ l))) ++ (d ++ (e ++ (k ++ (e ++ e)))))) ≡
    ((a ++ s) ++ e) ++ (t ++ e) ++ ((l ++ d) ++ e) ++ (k ++ e) ++ ([] ++ e)
lines a s e t l d k = simp append_assoc

same : (status : List ℕ) (n : ℕ) →
    codes "HTTP/1.1 " ++ (status ++ (codes
    "\r\nContent-Type: text/plain; version=0.0.4; charset=utf-8\r\nContent-Length: "
    ++ (decimal n ++ codes "\r\nConnection: close\r\n\r\n"))) ≡ head status n
same status n =
    lines (codes "HTTP/1.1 ") status (13 ∷ 10 ∷ []) (codes "Content-Type: text/plain; version=0.0.4; charset=utf-8")
    (codes "Content-Length: ") (decimal n) (codes "Connection: close")

pub returns : goal.returns
returns c = written_as string_bytes c.format.result _ (head c.args.status.now c.args.length)
    (same c.args.status.now c.args.length) c.format.ensures.ok
