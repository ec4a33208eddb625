-- What the replicas of a cluster must have alike, as digests.
use Rattle.std.specs.Prelude.{ℕ, List, replicate, Option, Some, None}
use Rattle.std.specs.Borrow.{Bor}
use Rattle.sha2.specs.Sha256.{sha256}
use Rattle.peer_link.specs.declared.terms.Terms.{Terms}

-- the text that is lent, or none
abbrev pub lent_text : Option (Bor (List ℕ)) → Option (List ℕ)
lent_text (Some text) = Some text.now
lent_text None = None

-- the digest of a text, and 32 zeros for none
abbrev pub text_digest : Option (List ℕ) → List ℕ
text_digest (Some text) = sha256 text
text_digest None = replicate 32 0

-- the terms of these texts
abbrev pub terms_of : Option (List ℕ) → List ℕ → List ℕ → Terms
terms_of schema suffix clients = record {
  schema = text_digest schema;
  suffix = sha256 suffix;
  clients = sha256 clients;
}
