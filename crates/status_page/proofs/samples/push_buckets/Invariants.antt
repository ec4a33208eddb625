use Rattle.std.proofs.Common.{◌≡◌, ◌++◌, drop, flat_map, string_bytes}
use Rattle.status_page.specs.Samples.{bucket_sample}
use Rattle.status_page.proofs.samples.push_buckets.Given as goal

abbrev pub invariant-loop-bucket : goal.invariant-loop-bucket
invariant-loop-bucket l =
    string_bytes l.text ++ flat_map (bucket_sample l.name l.front) (drop l.bucket-index l.buckets) ≡
    string_bytes l.fn.text ++ flat_map (bucket_sample l.name l.front) l.buckets
