-- What writes a cell, or a turn of a walk that does, keeps the length of a row.
use Rattle.std.specs.Prelude.{◌≡◌, ℕ, zero, suc, ◌+◌, Bool, true, false, cond, Option, Some, None, is_some, List, [], ◌∷◌, length, set}
use Rattle.std.proofs.Common.{◌∙◌, refl, subst}
use Rattle.std.proofs.lemmas.List.{length-set}
use Rattle.cc_base.specs.Lattices.{LatticeOf}
use Rattle.cc_base.specs.IntegerDomains.{IntegersOf}
use Rattle.cc_base.specs.declared.integer_operators.Tri.{Tri}
use Rattle.c_layout.specs.declared.shapes.BaseInfo.{BaseInfo}
use Rattle.value_domain.specs.declared.strings.first_zeros.FirstZero.{FirstZero}
use Rattle.value_domain.specs.Strings.FirstZeros.{zero_lattice}
use Rattle.value_domain.specs.declared.values.values.Value as values
use Rattle.value_domain.specs.declared.values.row_cells.Cell.{Cell}
use Rattle.value_domain.specs.declared.values.row_cells.Cell.TheVariants.{Value, First}
use Rattle.value_domain.specs.Values.Values.{value_lattice}
use Rattle.store_cells.specs.declared.access_windows.Window.{Window}
use Rattle.store_cells.specs.declared.first_zero_writes.ZeroTarget.{ZeroTarget}
use Rattle.store_cells.specs.Walks.{walk, turns}
use Rattle.store_cells.specs.RowPositions.{zero_position, value_at, zero_at, join_value, join_zero, write_value, put_value}
use Rattle.store_cells.specs.FirstZeroWrites.{zero_target, put_at, put_target, put_part, put_character, any_zero, forget_target, forget_part, forget_zeros, set_part, set_zeros}

-- ---- what holds of each step holds of all

pub walk_keeps : {K C : Type 0} (f : K → ℕ → List C → List C) → ((k : K) (at : ℕ) (row : List C) → length (f k at row) ≡ length row) → (at : ℕ) (ks : List K) (row : List C) → length (walk f at ks row) ≡ length row
walk_keeps f h at [] row = refl
walk_keeps f h at (k ∷ ks) row = walk_keeps f h (at + 1) ks (f k at row) ∙ h k at row

pub turns_keep : {C : Type 0} (f : ℕ → List C → List C) → ((at : ℕ) (row : List C) → length (f at row) ≡ length row) → (count : ℕ) (row : List C) → length (turns f count row) ≡ length row
turns_keep f h zero row = refl
turns_keep f h (suc count) row = h count (turns f count row) ∙ turns_keep f h count row

pub cond_keeps : {C : Type 0} (b : Bool) (x y row : List C) → length x ≡ length row → length y ≡ length row → length (cond b x y) ≡ length row
cond_keeps true x y row h k = h
cond_keeps false x y row h k = k

-- so does an optional row, where there is one
pub some_keeps : {C : Type 0} (b : Bool) (x y row : List C) → cond b (Some x) None ≡ Some y → length x ≡ length row → length y ≡ length row
some_keeps true x y row e h = let k : x ≡ y = cc in subst (λ r. length r ≡ length row) k h
some_keeps false x y row e h = absurd (let k : ⊥ = cc in k)

module _ {I : Type 0} (l : LatticeOf I) (n : IntegersOf I) where
  -- ---- one cell

  pub join_value_keeps : (row : List (Cell I)) (at : ℕ) (v : values.Value I) → length (join_value l n row at v) ≡ length row
  unfolding join_value
  join_value_keeps row at v = length-set row at (Value ((value_lattice l).join (value_at l n row at) v))

  pub join_zero_keeps : (row : List (Cell I)) (at : ℕ) (f : FirstZero I) → length (join_zero l n row at f) ≡ length row
  unfolding join_zero
  join_zero_keeps row at f = length-set row at (First ((zero_lattice l).join (zero_at l n row at) f))

  pub write_value_keeps : (row : List (Cell I)) (at : ℕ) (v : values.Value I) (strong : Bool) → length (write_value l n row at v strong) ≡ length row
  unfolding write_value
  write_value_keeps row at v strong = cond_keeps strong (put_value row at v) (join_value l n row at v) row (length-set row at (Value v)) (join_value_keeps row at v)

  -- ---- first zeros

  put_target_keeps : (row : List (Cell I)) (at : ℕ) (target : Option ZeroTarget) (first : Tri) (alone : Bool) → length (put_target l n row at target first alone) ≡ length row
  unfolding put_target
  put_target_keeps row at None first alone = refl
  put_target_keeps row at (Some target) first alone = length-set row at (First (put_at l n (zero_at l n row at) target first alone))

  pub put_character_keeps : (base : BaseInfo) (w : Window) (first : Tri) (alone : Bool) (row : List (Cell I)) → length (put_character l n base w first alone row) ≡ length row
  unfolding put_character
  put_character_keeps base w first alone row = walk_keeps (put_part l n base w first alone) (λ part at r. put_target_keeps r (zero_position base at) (zero_target part w) first alone) 0 base.shape.zeros row

  forget_target_keeps : (row : List (Cell I)) (at : ℕ) (target : Option ZeroTarget) → length (forget_target l n row at target) ≡ length row
  unfolding forget_target
  forget_target_keeps row at target = cond_keeps (is_some target) (set row at (First (any_zero l n))) row row (length-set row at (First (any_zero l n))) refl

  pub forget_zeros_keeps : (base : BaseInfo) (w : Window) (row : List (Cell I)) → length (forget_zeros l n base w row) ≡ length row
  unfolding forget_zeros
  forget_zeros_keeps base w row = walk_keeps (forget_part l n base w) (λ part at r. forget_target_keeps r (zero_position base at) (zero_target part w)) 0 base.shape.zeros row

  pub set_zeros_keeps : (base : BaseInfo) (first : FirstZero I) (row : List (Cell I)) → length (set_zeros base first row) ≡ length row
  unfolding set_zeros
  set_zeros_keeps base first row = turns_keep (set_part base first) (λ at r. length-set r (zero_position base at) (First first)) (length base.shape.zeros) row
