-- Rows from a floor on, and cells that are put into them.
use Rattle.std.specs.Prelude.{ℕ, zero, suc, ◌+◌, ℤ, Bool, true, false, cond, Option, Some, None, is_some, List, [], ◌∷◌, length, set, map}
use Rattle.cc_base.specs.Lattices.{LatticeOf}
use Rattle.cc_base.specs.IntegerDomains.{IntegersOf}
use Rattle.cc_base.specs.declared.integer_operators.Tri.{Tri}
use Rattle.c_layout.specs.declared.shapes.BaseInfo.{BaseInfo}
use Rattle.value_domain.specs.declared.strings.first_zeros.FirstZero.{FirstZero}
use Rattle.value_domain.specs.declared.values.values.Value as values
use Rattle.value_domain.specs.declared.values.row_cells.Cell.{Cell}
use Rattle.value_domain.specs.declared.values.row_cells.Cell.TheVariants.{Value, First}
use Rattle.value_domain.specs.Values.Values.{value_lattice}
use Rattle.store_cells.specs.declared.access_windows.Window.{Window}
use Rattle.store_cells.specs.declared.first_zero_writes.ZeroTarget.{ZeroTarget}
use Rattle.store_cells.specs.FirstZeroWrites.{zero_target, put_target, put_part, put_character, forget_target, forget_part, forget_zeros, set_part, set_zeros}
use Rattle.store_cells.specs.RowPositions.{value_at, join_value, write_value}
use Rattle.store_cells.specs.Walks.{walk, turns}
use Rattle.row_bounds.specs.Stores.Floors.{IsValueFrom, IsCellFrom, AreFrom, IsLeftFrom, KeepsFrom}
use Rattle.row_bounds.proofs.stores.Ranges.{FloorLaws}
use Rattle.row_bounds.proofs.stores.Values.{join_value_from, at_from}

-- ---- along lists and through numbers

pub walk_keeps : {K S : Type 0} (P : S → Type 0) (f : K → ℕ → S → S) → ((k : K) (at : ℕ) (s : S) → P s → P (f k at s)) → (at : ℕ) (ks : List K) (s : S) → P s → P (walk f at ks s)
walk_keeps P f h at [] s p = p
walk_keeps P f h at (k ∷ ks) s p = walk_keeps P f h (at + 1) ks (f k at s) (h k at s p)

pub turns_keep : {S : Type 0} (P : S → Type 0) (f : ℕ → S → S) → ((at : ℕ) (s : S) → P s → P (f at s)) → (count : ℕ) (s : S) → P s → P (turns f count s)
turns_keep P f h zero s p = p
turns_keep P f h (suc count) s p = h count (turns f count s) (turns_keep P f h count s p)

module _ {I : Type 0} (n : IntegersOf I) (floor : ℤ) where
  pub set_from : (row : List (Cell I)) (i : ℕ) (x : Cell I) → IsCellFrom n floor x → AreFrom n floor row → AreFrom n floor (set row i x)
  set_from [] i x h k = tt
  set_from (c ∷ cs) zero x h k = (h, k.1)
  set_from (c ∷ cs) (suc i) x h k = (k.0, set_from cs i x h k.1)

  pub if_from : (c : Bool) (x y : List (Cell I)) → AreFrom n floor x → AreFrom n floor y → AreFrom n floor (cond c x y)
  if_from true x y h k = h
  if_from false x y h k = k

  pub row_walk : {K : Type 0} (f : K → ℕ → List (Cell I) → List (Cell I)) → ((k : K) (at : ℕ) → KeepsFrom n floor (f k at)) → (at : ℕ) (ks : List K) → KeepsFrom n floor (walk f at ks)
  row_walk f h at ks row k = walk_keeps (AreFrom n floor) f h at ks row k

  pub row_turns : (f : ℕ → List (Cell I) → List (Cell I)) → ((at : ℕ) → KeepsFrom n floor (f at)) → (count : ℕ) → KeepsFrom n floor (turns f count)
  row_turns f h count row k = turns_keep (AreFrom n floor) f h count row k

  pub row_map : (f : Cell I → Cell I) → ((c : Cell I) → IsCellFrom n floor c → IsCellFrom n floor (f c)) → KeepsFrom n floor (map f)
  row_map f h [] k = tt
  row_map f h (c ∷ cs) k = (h c k.0, row_map f h cs k.1)

  pub left_if : (c : Bool) (x : Option (List (Cell I))) → IsLeftFrom n floor x → IsLeftFrom n floor (cond c x None)
  left_if true x h = h
  left_if false x h = tt

  pub left_unless : (c : Bool) (x : Option (List (Cell I))) → IsLeftFrom n floor x → IsLeftFrom n floor (cond c None x)
  left_unless true x h = tt
  left_unless false x h = h

  -- ---- first zeros

  zero_put : (l : LatticeOf I) (at : ℕ) (target : Option ZeroTarget) (z : Tri) (alone : Bool) → KeepsFrom n floor (λ row. put_target l n row at target z alone)
  unfolding put_target
  zero_put l at None z alone row h = h
  zero_put l at (Some target) z alone row h = set_from row at (First _) tt h

  pub character_put : (l : LatticeOf I) (base : BaseInfo) (w : Window) (z : Tri) (alone : Bool) → KeepsFrom n floor (put_character l n base w z alone)
  unfolding put_character
  character_put l base w z alone row h = row_walk (put_part l n base w z alone) (λ part at. zero_put l _ (zero_target part w) z alone) 0 base.shape.zeros row h

  target_forgotten : (l : LatticeOf I) (at : ℕ) (target : Option ZeroTarget) → KeepsFrom n floor (λ row. forget_target l n row at target)
  unfolding forget_target
  target_forgotten l at target row h = if_from (is_some target) _ row (set_from row at (First _) tt h) h

  pub zeros_forgotten : (l : LatticeOf I) (base : BaseInfo) (w : Window) → KeepsFrom n floor (forget_zeros l n base w)
  unfolding forget_zeros
  zeros_forgotten l base w row h = row_walk (forget_part l n base w) (λ part at. target_forgotten l _ (zero_target part w)) 0 base.shape.zeros row h

  pub zeros_set : (base : BaseInfo) (z : FirstZero I) → KeepsFrom n floor (set_zeros base z)
  unfolding set_zeros
  zeros_set base z row h = row_turns (set_part base z) (λ at x k. set_from x _ (First z) tt k) (length base.shape.zeros) row h

-- ---- values

module _ {I : Type 0} {l : LatticeOf I} {n : IntegersOf I} {stands : I → ℤ → Type 0} {floor : ℤ} (k : FloorLaws l n stands floor) where
  pub join_keeps : (at : ℕ) (v : values.Value I) → IsValueFrom n floor v → KeepsFrom n floor (λ row. join_value l n row at v)
  unfolding join_value
  join_keeps at v h row j = set_from n floor row at (Value ((value_lattice l).join (value_at l n row at) v)) (join_value_from k (value_at l n row at) v (at_from k row at j) h) j

  pub write_keeps : (at : ℕ) (v : values.Value I) (strong : Bool) → IsValueFrom n floor v → KeepsFrom n floor (λ row. write_value l n row at v strong)
  unfolding write_value
  write_keeps at v true h row j = set_from n floor row at (Value v) h j
  write_keeps at v false h row j = join_keeps at v h row j
