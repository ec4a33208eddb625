-- What search doesn't prove of `text_of`: what it returns, by lemmas of `AsText`.
use Rattle.std.proofs.Common.{ap, ◌∙◌}
use Rattle.std.specs.String.{string_bytes}
use Rattle.std.proofs.lemmas.Str.{IsUtf8-string_bytes}
use Rattle.schema_reader.proofs.AsText.{text_found, text_missing, err_not_ok}
use Rattle.schema_reader.proofs.described.text_of.Goals as goal

pub returns-in-Ok : goal.returns-in-Ok
returns-in-Ok c = text_found c.args.octets.items (string_bytes c.in-Ok.text) (ap (λ v. v.items) c.in-Ok.ensures.ok)
    (IsUtf8-string_bytes c.in-Ok.text)

pub returns : goal.returns
returns c = c.new.ensures.bytes ∙ text_missing c.args.octets.items (λ u. err_not_ok c.from_utf8.result c.in-Err.is
    (c.from_utf8.ensures.succeeds u))
