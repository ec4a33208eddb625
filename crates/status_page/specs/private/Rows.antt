-- Metrics as rows of a table, in the text form of Prometheus.
use Rattle.std.specs.Prelude.{ℕ, List, [], codes, flat_map}
use Rattle.status_page.specs.declared.samples.Kind.{Kind}
use Rattle.status_page.specs.declared.samples.Kind.TheVariants as kind
use Rattle.status_page.specs.declared.samples.Samples.{Samples}
use Rattle.status_page.specs.declared.samples.Samples.TheVariants as samples
use Rattle.status_page.specs.declared.samples.Metric.{Metric}
use Rattle.status_page.specs.Samples.{figure, histogram_samples, labelled_sample, optional_sample}
use Rattle.status_page.specs.Samples.{optional_scaled_sample, sample}
use Rattle.status_page.specs.Metrics.{request_samples}
use Rattle.status_page.specs.Pages.{build_sample, role_samples}

-- the name of a kind
abbrev pub kind_word : Kind → List ℕ
kind_word kind.Gauge = codes "gauge"
kind_word kind.Counter = codes "counter"
kind_word kind.Histogram = codes "histogram"

-- the samples of a metric of this name
abbrev pub samples_text : List ℕ → Samples → List ℕ
samples_text name (samples.Number n) = sample name n
samples_text name (samples.Known n) = optional_sample name n
samples_text name (samples.Hundredths n) = optional_scaled_sample name n (codes "e-2")
samples_text name (samples.ByCode numbers) = flat_map (labelled_sample name (codes "code")) numbers.now.items
samples_text name (samples.ByPeer numbers) = flat_map (labelled_sample name (codes "peer")) numbers.now.items
samples_text name (samples.Roles own) = role_samples own
samples_text name (samples.Build version b) = build_sample version.now b
samples_text name (samples.Requests times) = request_samples times.now
samples_text name (samples.Times times) = histogram_samples name [] [] times.now

-- a metric: what it means and its kind, and then its samples
abbrev pub metric_text : Metric → List ℕ
metric_text m = figure m.name.now m.help.now (kind_word m.kind) (samples_text m.name.now m.samples)
