-- What search doesn't prove of `push_times`: the buckets, and two lines behind them.
use Rattle.std.proofs.Common.{codes, decimal, flat_map}
use Rattle.status_page.specs.Samples.{bucket_sample}
use Rattle.status_page.proofs.Written.{appended_behind, times_lines}
use Rattle.status_page.proofs.samples.push_times.Goals as goal

pub returns : goal.returns
returns c =
    let buckets = flat_map (bucket_sample c.args.name.now c.args.front.now) c.args.times.now.buckets.items in
    appended_behind c.writeln.result _ _ _ buckets _ _
    (rw c.as_slice.ensures.value at c.in_ok-push_buckets.ensures)
    (times_lines buckets c.args.name.now (codes "_sum") c.args.labels.now (codes " ") (decimal c.args.times.now.micros)
    (codes "e-6") (codes "\n") (codes "_count") (decimal c.args.times.now.count))
    c.writeln.ensures.bytes
