use Rattle.std.proofs.Common.{◌≡◌, ℕ, ◌≤◌, ◌++◌, length}
use Rattle.json.specs.Json.{items, value, parse_map}
use Rattle.serde_json.specs.Data.{Items}
use Rattle.serde_json.specs.Read.{of_items, converted}
use Rattle.sarif.specs.Baselines.{results_known}
use Rattle.sarif.proofs.streamed_results.push_results.Given as goal

abbrev pub invariant-results : goal.invariant-results
invariant-results l =
    (n : ℕ) × (f : Items → Items) × (length l.reader ≤ n)
    × (converted of_items (items (value l.depth) (length l.initial.reader) l.initial.reader) ≡ parse_map f (converted of_items (items (value l.depth) n l.reader)))
    × ((rest : Items) → l.initial.known.items ++ results_known (f rest) ≡ l.known.items ++ results_known rest)
    × (length l.reader ≤ length l.initial.reader)

abbrev pub decreases-results : goal.decreases-results
decreases-results l = length l.reader
