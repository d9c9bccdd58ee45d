use Rattle.std.proofs.Common.{◌≡◌, ◌||◌, drop}
use Rattle.std.specs.BTreeSet.{contains}
use Rattle.sarif.specs.contracts.fresh_diagnostics.KeyOrd.TheImpl as order
use Rattle.sarif.specs.declared.fresh_diagnostics.Key.{Key}
use Rattle.sarif.specs.Comparing.{holds}
use Rattle.sarif.proofs.fresh_diagnostics.keys_of.Given as goal

abbrev pub invariant-loop-entry : goal.invariant-loop-entry
invariant-loop-entry l =
    (key : Key) → (contains (order.cmp-value).it l.keys key || holds (drop l.entry-index l.known) key.file.items key.line key.col key.rule) ≡ holds l.known key.file.items key.line key.col key.rule
