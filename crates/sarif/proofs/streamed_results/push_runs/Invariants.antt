use Rattle.std.proofs.Common.{◌≡◌, ℕ, ◌≤◌, ◌++◌, length}
use Rattle.json.specs.Json.{items, value, parse_map}
use Rattle.serde_json.specs.Data.{Items}
use Rattle.serde_json.specs.Read.{of_items, converted}
use Rattle.sarif.specs.Baselines.{runs_known}
use Rattle.sarif.proofs.streamed_results.push_runs.Given as goal

abbrev pub invariant-runs : goal.invariant-runs
invariant-runs l =
    (n : ℕ) × (f : Items → Items) × (length l.reader ≤ n)
    × (converted of_items (items (value l.depth) (length l.initial.reader) l.initial.reader) ≡ parse_map f (converted of_items (items (value l.depth) n l.reader)))
    × ((rest : Items) → l.initial.known.items ++ runs_known (f rest) ≡ l.known.items ++ runs_known rest)
    × (length l.reader ≤ length l.initial.reader)

abbrev pub decreases-runs : goal.decreases-runs
decreases-runs l = length l.reader
