use Rattle.std.proofs.Common.{◌≡◌, ◌++◌, drop, flat_map, string_bytes}
use Rattle.status_page.specs.Samples.{labelled_sample}
use Rattle.status_page.proofs.samples.push_all_labelled.Given as goal

abbrev pub invariant-loop-sample : goal.invariant-loop-sample
invariant-loop-sample l =
    string_bytes l.text ++ flat_map (labelled_sample l.name l.key) (drop l.sample-index l.samples) ≡
    string_bytes l.fn.text ++ flat_map (labelled_sample l.name l.key) l.samples
