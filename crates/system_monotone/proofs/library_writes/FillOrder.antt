-- Writes of more bytes to more places.
use Rattle.std.specs.Prelude.{◌≡◌, ◌⊎◌, ◌≤◌, pos, ◌≤ℤ◌, int_le, true, false, Some, None}
use Rattle.pointer_domain.specs.BaseSets.{bases_within}
use Rattle.value_domain.specs.Values.LabelSets.{labels_leq}
use Rattle.domain_theorems.proofs.values.Flags.{Sets}
use Rattle.store_cells.specs.declared.access_windows.Window.{Window}
use Rattle.store_monotone.specs.Operations.Placements.{WindowWithin}
use Rattle.store_monotone.proofs.operations.Windows.{WindowsBelow}
use Rattle.transfer_library_writes.specs.declared.fill_writes.FillWrite.{FillWrite}
use Rattle.system_monotone.specs.LibraryWrites.TextOrder.{StartsBelow}

-- nothing surely is written
pub record IsWeak (v : FillWrite) : Type 0 where
  pub least : int_le (pos 1) v.least ≡ false
  pub sure : v.sure ≡ None

-- the smaller write begins at the first of its bytes, among which are those that surely are written
pub record FillStarts (w v : FillWrite) : Type 0 where
  pub starts : StartsBelow w.bases w.start w.window w.one_byte v.one_byte
  pub sure : (c : Window) → w.sure ≡ Some c → (w.window.lo ≤ c.lo) × (c.hi ≤ w.window.hi)

-- a write to more places, fewer of them surely, of which less is known
pub record FillBelow (w v : FillWrite) : Type 0 where
  pub bases : bases_within w.bases v.bases ≡ true
  pub start : WindowWithin w.start v.start
  pub window : WindowWithin w.window v.window
  pub sure : WindowsBelow v.sure w.sure
  pub zero : Sets v.zero w.zero
  pub labels : labels_leq w.labels v.labels ≡ true
  pub least : v.least ≤ℤ w.least
  pub begins : IsWeak v ⊎ FillStarts w v
