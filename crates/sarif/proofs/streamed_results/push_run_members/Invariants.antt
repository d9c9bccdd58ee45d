use Rattle.std.proofs.Common.{◌≡◌, ℕ, ◌≤◌, ◌++◌, length}
use Rattle.json.specs.Json.{members, value}
use Rattle.serde_json.specs.Data.{Members, no_members, object}
use Rattle.serde_json.specs.Read.{of_members, converted}
use Rattle.sarif.specs.Baselines.{results_known, run_results}
use Rattle.sarif.proofs.streamed_results.push_run_members.Given as goal

abbrev pub invariant-members : goal.invariant-members
invariant-members l =
    (n : ℕ) × (found : Members) × (length l.reader ≤ n)
    × (converted (λ ms. of_members ms no_members) (members (value l.depth) (length l.initial.reader) l.initial.reader) ≡ converted (λ ms. of_members ms found) (members (value l.depth) n l.reader))
    × (l.known.items ≡ l.initial.known.items ++ results_known (run_results (object found)))
    × (length l.reader ≤ length l.initial.reader)
    × (l.start ≡ length l.initial.known.items)

abbrev pub decreases-members : goal.decreases-members
decreases-members l = length l.reader
