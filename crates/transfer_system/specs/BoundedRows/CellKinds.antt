-- The kinds of the cells of a row, position by position: of each base the values of its leaves and
-- class cells, its first zeros and its state; then the temporaries.
use Rattle.std.proofs.Common.{◌≡◌, ℕ, zero, suc, ◌+◌, ◌-◌, ◌^◌, ◌≤◌, min, Bool, true, false, not, ◌&&◌, nat_eq, cond, List, [], ◌∷◌, length, drop}
use Rattle.c_layout.specs.declared.shapes.BaseInfo.{BaseInfo}
use Rattle.transfer_system.specs.declared.bounded_rows.cell_kinds.CellKind.{CellKind}
use Rattle.transfer_system.specs.declared.bounded_rows.cell_kinds.CellKind.TheVariants as kind
use Rattle.transfer_system.specs.declared.bounded_rows.cell_kinds.KindsLeft.{KindsLeft}

-- a kind, so many times before others
abbrev pub before : CellKind → ℕ → List CellKind → List CellKind
before k zero others = others
before k (suc n) others = k ∷ before k n others

abbrev pub state_before : Bool → List CellKind → List CellKind
state_before false others = others
state_before true others = kind.State ∷ others

-- the leaves of a base and its class cells
abbrev pub values_of : BaseInfo → ℕ
values_of base = cond base.shape.heap (min (length base.shape.cells + 6) (2 ^ 64 - 1)) (length base.shape.cells)

-- values, first zeros and a state before others
abbrev pub run_before : ℕ → ℕ → Bool → List CellKind → List CellKind
run_before values zeros state others = before kind.Value values (before kind.First zeros (state_before state others))

-- of all bases, in order
abbrev pub all_kinds : List BaseInfo → List CellKind
all_kinds [] = []
all_kinds (base ∷ bases) = run_before (values_of base) (length base.shape.zeros) base.shape.heap (all_kinds bases)

-- the positions that are left
abbrev pub kinds_in : List BaseInfo → KindsLeft → List CellKind
kinds_in bases left = run_before left.values left.zeros left.state (all_kinds (drop left.next bases))

abbrev pub is_spent : KindsLeft → Bool
is_spent left = nat_eq left.values 0 && (nat_eq left.zeros 0 && not left.state)

-- a position of a base is left, or no base is
abbrev pub IsSettled : List BaseInfo → KindsLeft → Type 0
IsSettled bases left = is_spent left ≡ true → length bases ≤ left.next

-- behind the bases are values
abbrev pub first_kind : List CellKind → CellKind
first_kind [] = kind.Value
first_kind (k ∷ ks) = k

abbrev pub kinds_behind : List CellKind → List CellKind
kinds_behind [] = []
kinds_behind (k ∷ ks) = ks
