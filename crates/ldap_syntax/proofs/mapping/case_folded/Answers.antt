-- What search doesn't prove of `case_folded`: what it returns, by lemmas of `IterLemmas` (`unicode_normalization`) and
-- `CaselessLemmas` (`caseless`).
use Rattle.std.proofs.Common.{rules}
use Rattle.std.proofs.iter.Yields.{fronts, copies}
use Rattle.std.proofs.lemmas.Iterator.{items_from_collect}
use Rattle.unicode_normalization.proofs.IterLemmas.{Spells-slice}
use Rattle.caseless.specs.CaseFold.{CaseFoldSteps}
use Rattle.caseless.proofs.CaselessLemmas.{Spells-CaseFold}
use Rattle.ldap_syntax.proofs.mapping.case_folded.Goals as goal

pub returns : goal.returns
returns c =
    items_from_collect {steps = CaseFoldSteps (copies fronts)} {s = c.default_case_fold.result} _
    c.collect.ensures.ran (record {
      runs = Spells-CaseFold (c.default_case_fold.ensures.text _
          (Spells-slice _ _ (search rules)));
    })
