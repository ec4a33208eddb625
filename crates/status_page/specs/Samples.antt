-- The text form of Prometheus: figures, each with its samples.
use Rattle.std.specs.Prelude.{ℕ, List, [], ◌++◌, codes, decimal, flat_map, Option, None, Some, Bool, true, nat_le}
use Rattle.status_page.specs.declared.figures.Labelled.{Labelled}
use Rattle.status_page.specs.declared.figures.BucketBound.{BucketBound}
use Rattle.status_page.specs.declared.figures.BucketBound.TheVariants as bound
use Rattle.status_page.specs.declared.figures.Bucket.{Bucket}
use Rattle.status_page.specs.declared.figures.Histogram.{Histogram}

-- a figure: what it means and its kind, and then its samples, a line each
abbrev pub figure : List ℕ → List ℕ → List ℕ → List ℕ → List ℕ
figure name help kind samples =
    codes "# HELP " ++ name ++ codes " " ++ help ++ codes "\n# TYPE " ++ name ++ codes " " ++ kind ++ codes "\n"
    ++ samples

-- a sample of a figure
abbrev pub sample : List ℕ → ℕ → List ℕ
sample name n = name ++ codes " " ++ decimal n ++ codes "\n"

-- a sample of a number that may be unknown
abbrev pub optional_sample : List ℕ → Option ℕ → List ℕ
optional_sample name None = []
optional_sample name (Some n) = sample name n

-- a sample with a label of this key
abbrev pub labelled_sample : List ℕ → List ℕ → Labelled → List ℕ
labelled_sample name key s = sample (name ++ codes "{" ++ key ++ codes "=\"" ++ decimal s.label ++ codes "\"}") s.number

-- a figure with a sample for each label
abbrev pub labelled_figure : List ℕ → List ℕ → List ℕ → List ℕ → List Labelled → List ℕ
labelled_figure name help kind key samples = figure name help kind (flat_map (labelled_sample name key) samples)

-- a sample of so many hundredths, millionths or alike: `exponent` says of what, as "e-6"
abbrev pub scaled_sample : List ℕ → ℕ → List ℕ → List ℕ
scaled_sample name n exponent = name ++ codes " " ++ decimal n ++ exponent ++ codes "\n"

-- such a sample of a number that may be unknown
abbrev pub optional_scaled_sample : List ℕ → Option ℕ → List ℕ → List ℕ
optional_scaled_sample name None exponent = []
optional_scaled_sample name (Some n) exponent = scaled_sample name n exponent

-- a bound in seconds
abbrev pub bound_word : BucketBound → List ℕ
bound_word bound.Micros100 = codes "0.0001"
bound_word bound.Micros300 = codes "0.0003"
bound_word bound.Millis1 = codes "0.001"
bound_word bound.Millis3 = codes "0.003"
bound_word bound.Millis10 = codes "0.01"
bound_word bound.Millis30 = codes "0.03"
bound_word bound.Millis100 = codes "0.1"
bound_word bound.Millis300 = codes "0.3"
bound_word bound.Second1 = codes "1"
bound_word bound.Seconds3 = codes "3"
bound_word bound.Seconds10 = codes "10"
bound_word bound.Infinite = codes "+Inf"

-- whether so many microseconds are no more than a bound
abbrev pub bound_holds : BucketBound → ℕ → Bool
bound_holds bound.Micros100 n = nat_le n 100
bound_holds bound.Micros300 n = nat_le n 300
bound_holds bound.Millis1 n = nat_le n 1000
bound_holds bound.Millis3 n = nat_le n 3000
bound_holds bound.Millis10 n = nat_le n 10000
bound_holds bound.Millis30 n = nat_le n 30000
bound_holds bound.Millis100 n = nat_le n 100000
bound_holds bound.Millis300 n = nat_le n 300000
bound_holds bound.Second1 n = nat_le n 1000000
bound_holds bound.Seconds3 n = nat_le n 3000000
bound_holds bound.Seconds10 n = nat_le n 10000000
bound_holds bound.Infinite n = true

-- a bucket of a histogram: how many took no longer than its bound; `front` has the other labels
abbrev pub bucket_sample : List ℕ → List ℕ → Bucket → List ℕ
bucket_sample name front b =
    sample (name ++ codes "_bucket{" ++ front ++ codes "le=\"" ++ bound_word b.bound ++ codes "\"}") b.number

-- the samples of a histogram: its buckets, the sum of the seconds, and how often; `labels` has the other labels in
-- braces
abbrev pub histogram_samples : List ℕ → List ℕ → List ℕ → Histogram → List ℕ
histogram_samples name front labels t =
    flat_map (bucket_sample name front) t.buckets.items
    ++ scaled_sample (name ++ codes "_sum" ++ labels) t.micros (codes "e-6")
    ++ sample (name ++ codes "_count" ++ labels) t.count
