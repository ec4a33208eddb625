-- Filter texts, reading: the goals of `read_text` that no tactic closes, each by one lemma over plain lists.
use Rattle.std.proofs.Common.{◌≡◌, List, ℕ, None, subst}
use Rattle.std.proofs.lemmas.Result.{err_from_is_err_and}
use Rattle.ldap_filter.specs.View.{view}
use Rattle.filter_text.specs.private.Scanning.{stop, IsScanFault}
use Rattle.filter_text.specs.private.Reads.{IsFrontRead, IsFrontFault}
use Rattle.filter_text.proofs.Texts.{scan_only, scan_refused, filter_refused, filter_found}
use Rattle.filter_text.proofs.reading.read_text.Goals as goal

pub returns-in_err-scan-clause-only : goal.returns-in_err-scan-clause-only
returns-in_err-scan-clause-only c = λ t is deep many.
    let p = err_from_is_err_and c.from_residual.result c.from_residual.ensures.1 in
    rw (p.1, p.2) (scan_only c.in_err-scan.field-0.0 c.args.text.now t
    (subst (λ (x : List ℕ). IsScanFault c.in_err-scan.field-0.0 x) c.as_bytes-octets.ensures.value
    c.in_err-scan.ensures.stopped) is)

pub returns-in_err-scan-clause-refused : goal.returns-in_err-scan-clause-refused
returns-in_err-scan-clause-refused c =
    let p = err_from_is_err_and c.from_residual.result c.from_residual.ensures.1 in
    rw (p.1, p.2) (scan_refused c.in_err-scan.field-0.0 c.args.text.now
    (subst (λ (x : List ℕ). IsScanFault c.in_err-scan.field-0.0 x) c.as_bytes-octets.ensures.value
    c.in_err-scan.ensures.stopped))

pub returns-in_err-filter-clause-refused : goal.returns-in_err-filter-clause-refused
returns-in_err-filter-clause-refused c =
    let p = err_from_is_err_and c.from_residual-in_err-filter.result c.from_residual-in_err-filter.ensures.1 in
    rw (p.1, p.2)
    (filter_refused c.in_err-filter.field-0.0 c.args.text.now (subst (λ (x : List ℕ). stop x ≡ None)
    c.as_bytes-octets.ensures.value c.in_ok-scan.ensures.passed)
    (subst (λ (x : List ℕ). IsFrontFault c.in_err-filter.field-0.0 128 512 x) c.as_bytes-octets.ensures.value
    c.in_err-filter.ensures.fault))

pub returns-clause-found : goal.returns-clause-found
returns-clause-found c =
    filter_found c.args.text.now (view c.in_ok-filter.filter) c.in_ok-filter.field-0-1 c.in_ok-filter.field-0-2.now
    (subst (λ (x : List ℕ). stop x ≡ None) c.as_bytes-octets.ensures.value c.in_ok-scan.ensures.passed)
    (subst (λ (x : List ℕ). IsFrontRead 128 512 x (view c.in_ok-filter.filter) c.in_ok-filter.field-0-1
    c.in_ok-filter.field-0-2.now) c.as_bytes-octets.ensures.value c.in_ok-filter.ensures.found)
