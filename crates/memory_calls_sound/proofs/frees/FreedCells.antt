-- The cells of a row in which bases are freed: the states of these bases are others, and nothing else.
use Rattle.std.proofs.Common.{◌≡◌, ℕ, zero, suc, ◌+◌, ◌<◌, Bool, true, false, cond, Some, List, [], ◌∷◌, length, arith, sym, refl, ap, ◌∙◌}
use Rattle.std.specs.Prelude.{slice_get, set}
use Rattle.std.specs.Option.{unwrap_or}
use Rattle.std.proofs.lemmas.Bool.{and_parts, cond_both}
use Rattle.std.proofs.lemmas.List.{length-set}
use Rattle.cc_base.specs.Lattices.{LatticeOf}
use Rattle.cc_base.specs.IntegerDomains.{IntegersOf}
use Rattle.c_layout.specs.declared.shapes.BaseInfo.{BaseInfo}
use Rattle.pointer_domain.specs.declared.base_sets.Bases.{Bases}
use Rattle.value_domain.specs.declared.values.row_cells.Cell.{Cell}
use Rattle.value_domain.specs.declared.values.row_cells.Cell.TheVariants.{Nothing, State}
use Rattle.store_objects.specs.Freeing.{is_heap_in, freed_state, free_base_if, free_base, free_bases}
use Rattle.store_objects.specs.LiveBases.{has_base}
use Rattle.store_cells.specs.RowPositions.{state_position, cell_at, state_in, near_state, put_state, state_at}
use Rattle.store_cells.specs.Walks.{walk}
use Rattle.store_sound.proofs.operations.Slices.{get_set_same, get_set_other}

module _ {I : Type 0} (l : LatticeOf I) (n : IntegersOf I) (set_of : Bases) (surely : Bool) where
  put_other : (row : List (Cell I)) (p x : ℕ) (c : Cell I) → (x ≡ p → ⊥) → cell_at (set row p c) x ≡ cell_at row x
  put_other row p x c ne = ap (λ o. unwrap_or o Nothing) (get_set_other row p x c ne)

  put_own : (row : List (Cell I)) (p : ℕ) (c : Cell I) → p < length row → cell_at (set row p c) p ≡ c
  put_own row p c h = ap (λ o. unwrap_or o Nothing) (get_set_same row p c h)

  -- ---- one base

  one_long : (wanted : Bool) (base : BaseInfo) (row : List (Cell I)) → length (free_base_if l n wanted surely base row) ≡ length row
  unfolding free_base_if
  one_long wanted base row = cond_both wanted (put_state row (state_position base) (freed_state surely (state_at l n row (state_position base)))) row (λ r. length r ≡ length row) (λ e. length-set row (state_position base) (State (freed_state surely (state_at l n row (state_position base))))) (λ e. refl)

  one_keeps : (wanted : Bool) (base : BaseInfo) (row : List (Cell I)) (x : ℕ) → (wanted ≡ true → x ≡ state_position base → ⊥) → cell_at (free_base_if l n wanted surely base row) x ≡ cell_at row x
  unfolding free_base_if
  one_keeps wanted base row x h = cond_both wanted (put_state row (state_position base) (freed_state surely (state_at l n row (state_position base)))) row (λ r. cell_at r x ≡ cell_at row x)
      (λ e. put_other row (state_position base) x (State (freed_state surely (state_at l n row (state_position base)))) (h e)) (λ e. refl)

  -- ---- all of them

  abbrev Apart : List BaseInfo → ℕ → Type 0
  Apart bases x = (k : ℕ) (base : BaseInfo) → slice_get bases k ≡ Some base → base.shape.heap ≡ true → x ≡ state_position base → ⊥

  walk_keeps_cell : (at : ℕ) (bases : List BaseInfo) (row : List (Cell I)) (x : ℕ) → Apart bases x → cell_at (walk (free_base l n set_of surely) at bases row) x ≡ cell_at row x
  walk_keeps_cell at [] row x h = refl
  walk_keeps_cell at (base ∷ bases) row x h =
      walk_keeps_cell (at + 1) bases (free_base_if l n (is_heap_in set_of base at) surely base row) x (λ k other e. h (suc k) other e)
      ∙ one_keeps (is_heap_in set_of base at) base row x (λ e. h 0 base refl (and_parts (has_base set_of at) base.shape.heap e).1)

  pub free_keeps_cell : (bases : List BaseInfo) (row : List (Cell I)) (x : ℕ) → Apart bases x → cell_at (free_bases l n bases set_of surely row) x ≡ cell_at row x
  unfolding free_bases
  free_keeps_cell bases row x h = walk_keeps_cell 0 bases row x h

  -- the state of a base
  abbrev Freed : BaseInfo → ℕ → List (Cell I) → Cell I
  Freed base number row = cond (is_heap_in set_of base number) (State (freed_state surely (state_at l n row (state_position base)))) (cell_at row (state_position base))

  one_freed : (wanted : Bool) (base : BaseInfo) (row : List (Cell I)) → state_position base < length row → cell_at (free_base_if l n wanted surely base row) (state_position base) ≡ cond wanted (State (freed_state surely (state_at l n row (state_position base)))) (cell_at row (state_position base))
  unfolding free_base_if
  one_freed true base row h = put_own row (state_position base) (State (freed_state surely (state_at l n row (state_position base)))) h
  one_freed false base row h = refl

  same_freed : (base : BaseInfo) (number : ℕ) (a b : List (Cell I)) → cell_at a (state_position base) ≡ cell_at b (state_position base) → Freed base number a ≡ Freed base number b
  unfolding state_at
  same_freed base number a b e = ap (λ c. cond (is_heap_in set_of base number) (State (freed_state surely (near_state l n (state_in l c)))) c) e

  walk_frees : (at : ℕ) (bases : List BaseInfo) (row : List (Cell I)) (j number : ℕ) (base : BaseInfo) → slice_get bases j ≡ Some base → number ≡ at + j → ((k : ℕ) (other : BaseInfo) → slice_get bases k ≡ Some other → (k ≡ j → ⊥) → other.shape.heap ≡ true → state_position base ≡ state_position other → ⊥) → state_position base < length row
      → cell_at (walk (free_base l n set_of surely) at bases row) (state_position base) ≡ Freed base number row
  walk_frees at [] row j number base e f h long = absurd (cc)
  walk_frees at (x ∷ bases) row zero number base e f h long =
      let same : x ≡ base = cc in
      let there : number ≡ at = omega (arith, f) in
      walk_keeps_cell (at + 1) bases (free_base_if l n (is_heap_in set_of x at) surely x row) (state_position base) (λ k other g. h (suc k) other g (λ z. cc))
      ∙ (ap (λ y. cell_at (free_base_if l n (is_heap_in set_of y at) surely y row) (state_position base)) same
      ∙ (one_freed (is_heap_in set_of base at) base row long ∙ ap (λ y. Freed base y row) (sym there)))
  walk_frees at (x ∷ bases) row (suc j) number base e f h long =
      let rest : List (Cell I) = free_base_if l n (is_heap_in set_of x at) surely x row in
      let wide = one_long (is_heap_in set_of x at) x row in
      walk_frees (at + 1) bases rest j number base e (omega (arith, f)) (λ k other g ne. h (suc k) other g (λ z. ne (omega (arith, z)))) (omega (arith, long, wide))
      ∙ same_freed base number rest row (one_keeps (is_heap_in set_of x at) x row (state_position base) (λ g. h 0 x refl (λ z. omega (arith, z)) (and_parts (has_base set_of at) x.shape.heap g).1))

  pub free_frees : (bases : List BaseInfo) (row : List (Cell I)) (number : ℕ) (base : BaseInfo) → slice_get bases number ≡ Some base → ((k : ℕ) (other : BaseInfo) → slice_get bases k ≡ Some other → (k ≡ number → ⊥) → other.shape.heap ≡ true → state_position base ≡ state_position other → ⊥) → state_position base < length row
      → cell_at (free_bases l n bases set_of surely row) (state_position base) ≡ Freed base number row
  unfolding free_bases
  free_frees bases row number base e h long = walk_frees 0 bases row number number base e (omega arith) h long
