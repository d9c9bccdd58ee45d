-- Clearing an object makes its cells the same whatever they were, and writes no others.
use Rattle.std.proofs.Common.{◌≡◌, ℕ, zero, suc, ◌+◌, ◌<◌, ◌≤◌, false, List, [], ◌∷◌, length, arith, subst, sym, refl, ap, ◌∙◌, inl, inr}
use Rattle.std.specs.Prelude.{set, cond}
use Rattle.std.specs.Option.{unwrap_or}
use Rattle.std.proofs.lemmas.Bool.{cases_eq}
use Rattle.std.proofs.lemmas.List.{length-set}
use Rattle.std.proofs.lemmas.Option.{slice_get_within}
use Rattle.cc_base.specs.Lattices.{LatticeOf}
use Rattle.cc_base.specs.IntegerDomains.{IntegersOf}
use Rattle.c_layout.specs.declared.leaf_lists.Leaf.{Leaf}
use Rattle.c_layout.specs.declared.shapes.BaseInfo.{BaseInfo}
use Rattle.cfg.specs.WellFormed.{base_cells, base_values}
use Rattle.value_domain.specs.declared.strings.first_zeros.FirstZero.{FirstZero}
use Rattle.value_domain.specs.declared.values.row_cells.Cell.{Cell}
use Rattle.value_domain.specs.declared.values.row_cells.Cell.TheVariants.{Nothing, Value, First}
use Rattle.store_cells.specs.FirstZeroWrites.{zero_first, set_part, set_zeros}
use Rattle.store_objects.specs.ObjectLives.{zero_value, clear_leaf, clear_leaves, clear_object}
use Rattle.store_cells.specs.RowPositions.{leaf_position, zero_position, cell_at}
use Rattle.store_cells.specs.Walks.{walk, turns}
use Rattle.store_sound.proofs.operations.Only.{Only, only_put, only_walk, only_then, cell_put}
use Rattle.store_sound.proofs.operations.Slices.{get_set_other}
use Rattle.store_sound.proofs.operations.StoreRows.{Fits, leaf_is, zero_is}

module _ {I : Type 0} where
  -- rows of one length with the same cells from one position to below another
  pub record AreAlike (lo hi : ℕ) (row other : List (Cell I)) : Type 0 where
    pub long : length row ≡ length other
    pub same : (at : ℕ) → lo ≤ at → at < hi → cell_at row at ≡ cell_at other at

  -- one more cell that is put
  put_alike : (lo p : ℕ) (c : Cell I) (row other : List (Cell I)) → p < length row → AreAlike lo p row other → AreAlike lo (p + 1) (set row p c) (set other p c)
  put_alike lo p c row other h a = record {
    long = length-set row p c ∙ (a.long ∙ sym (length-set other p c));
    same = λ at from to. elim (cases_eq at p) [
      | inl e ↦ (let long = a.long in subst (λ z. cell_at (set row p c) z ≡ cell_at (set other p c) z) (sym e) (cell_put row p c h ∙ sym (cell_put other p c (omega (arith, h, long)))))
      | inr ne ↦ ap (λ x. unwrap_or x Nothing) (get_set_other row p at c ne) ∙ (a.same at from (omega (arith, to, ne)) ∙ sym (ap (λ x. unwrap_or x Nothing) (get_set_other other p at c ne)))
    ];
  }

  only_turns : (lo hi : ℕ) (f : ℕ → List (Cell I) → List (Cell I)) (count : ℕ) → ((k : ℕ) → k < count → Only lo hi (f k)) → Only lo hi (turns f count)
  only_turns lo hi f zero h = record { long = λ row. refl; keeps = λ row at ne. refl }
  only_turns lo hi f (suc count) h = only_then lo hi (turns f count) (f count) (only_turns lo hi f count (λ k small. h k (omega (arith, small)))) (h count (omega arith))

module _ {I : Type 0} (l : LatticeOf I) (n : IntegersOf I) (info : BaseInfo) (fits : Fits info) (plain : base_cells info ≡ length info.shape.cells) where
  leaf_at : (j : ℕ) → j < length info.shape.cells → leaf_position info j ≡ info.first + j
  leaf_at j small = leaf_is info j fits small

  zero_there : (z : ℕ) → z < length info.shape.zeros → zero_position info z ≡ (info.first + length info.shape.cells) + z
  zero_there z small = zero_is info z fits (omega (arith, small)) ∙ ap (λ c. (info.first + c) + z) plain

  leaves_alike : (at : ℕ) (ks : List Leaf) (row other : List (Cell I)) → at + length ks ≤ length info.shape.cells → info.first + length info.shape.cells ≤ length row → AreAlike info.first (info.first + at) row other → AreAlike info.first (info.first + (at + length ks)) (walk (clear_leaf l n info) at ks row) (walk (clear_leaf l n info) at ks other)
  leaves_alike at [] row other few room a = subst (λ z. AreAlike info.first z row other) (omega arith) a
  leaves_alike at (k ∷ ks) row other few room a =
      let c : Cell I = Value (zero_value l n k.class) in
      let e = leaf_at at (omega (arith, few)) in
      let long = length-set row (leaf_position info at) c in
      let b : AreAlike info.first (info.first + (at + 1)) (set row (leaf_position info at) c) (set other (leaf_position info at) c) = subst (λ z. AreAlike info.first (info.first + (at + 1)) (set row z c) (set other z c)) (sym e)
      (subst (λ z. AreAlike info.first z (set row (info.first + at) c) (set other (info.first + at) c)) (omega arith) (put_alike info.first (info.first + at) c row other (omega (arith, few, room)) a)) in
      subst (λ z. AreAlike info.first (info.first + z) (walk (clear_leaf l n info) at (k ∷ ks) row) (walk (clear_leaf l n info) at (k ∷ ks) other)) (omega arith)
      (leaves_alike (at + 1) ks (set row (leaf_position info at) c) (set other (leaf_position info at) c) (omega (arith, few)) (omega (arith, room, long)) b)

  zeros_alike : (f : FirstZero I) (count : ℕ) (row other : List (Cell I)) → count ≤ length info.shape.zeros → (info.first + length info.shape.cells) + length info.shape.zeros ≤ length row → AreAlike info.first (info.first + length info.shape.cells) row other → AreAlike info.first ((info.first + length info.shape.cells) + count) (turns (set_part info f) count row) (turns (set_part info f) count other)
  zeros_alike f zero row other few room a = subst (λ z. AreAlike info.first z row other) (omega arith) a
  zeros_alike f (suc count) row other few room a =
      let b = zeros_alike f count row other (omega (arith, few)) room a in
      let e = zero_there count (omega (arith, few)) in
      let long = turns_long count row in
      let mine : List (Cell I) = turns (set_part info f) count row in
      let its : List (Cell I) = turns (set_part info f) count other in
      subst (λ z. AreAlike info.first ((info.first + length info.shape.cells) + suc count) (set mine z (First f)) (set its z (First f))) (sym e)
      (subst (λ z. AreAlike info.first z (set mine ((info.first + length info.shape.cells) + count) (First f)) (set its ((info.first + length info.shape.cells) + count) (First f))) (omega arith)
      (put_alike info.first ((info.first + length info.shape.cells) + count) (First f) mine its (omega (arith, few, room, long)) b))
    where
      turns_long : (k : ℕ) (r : List (Cell I)) → length (turns (set_part info f) k r) ≡ length r
      turns_long zero r = refl
      turns_long (suc k) r = length-set (turns (set_part info f) k r) (zero_position info k) (First f) ∙ turns_long k r

  leaves_long : (at : ℕ) (ks : List Leaf) (row : List (Cell I)) → length (walk (clear_leaf l n info) at ks row) ≡ length row
  leaves_long at [] row = refl
  leaves_long at (k ∷ ks) row = leaves_long (at + 1) ks (clear_leaf l n info k at row) ∙ length-set row (leaf_position info at) (Value (zero_value l n k.class))

  -- whatever the cells were
  pub clear_alike : (declared : info.shape.heap ≡ false) (row other : List (Cell I)) → length row ≡ length other → info.first + base_values info ≤ length row → AreAlike info.first (info.first + base_values info) (clear_object l n info row) (clear_object l n info other)
  unfolding clear_object clear_leaves set_zeros
  clear_alike declared row other long room =
      let none : cond {A = ℕ} info.shape.heap 1 0 ≡ 0 = rw declared refl in
      let start : AreAlike info.first (info.first + 0) row other = record { long = long; same = λ at from to. absurd (omega (arith, from, to)) } in
      let same_long = leaves_long 0 info.shape.cells row in
      let a = subst (λ z. AreAlike info.first (info.first + z) (walk (clear_leaf l n info) 0 info.shape.cells row) (walk (clear_leaf l n info) 0 info.shape.cells other)) (let e : 0 + length info.shape.cells ≡ length info.shape.cells = omega arith in e) (leaves_alike 0 info.shape.cells row other (omega arith) (omega (arith, room, plain)) start) in
      let b = zeros_alike (zero_first n) (length info.shape.zeros) (walk (clear_leaf l n info) 0 info.shape.cells row) (walk (clear_leaf l n info) 0 info.shape.cells other) (omega arith) (omega (arith, room, plain, same_long)) a in
      subst (λ z. AreAlike info.first z (clear_object l n info row) (clear_object l n info other)) (omega (arith, plain, none)) b

  pub clear_only : Only info.first (info.first + base_values info) (clear_object l n info)
  unfolding clear_object clear_leaves set_zeros
  clear_only = only_then info.first (info.first + base_values info) (clear_leaves l n info) (set_zeros info (zero_first n))
      (only_walk (clear_leaf l n info) _ _ 0 info.shape.cells (λ j a leaf e d.
      let small = slice_get_within info.shape.cells j leaf e in
      let p = leaf_at a (omega (arith, small, d)) in
      only_put _ _ (leaf_position info a) (λ row. Value (zero_value l n leaf.class)) (omega (arith, p)) (omega (arith, p, small, d, plain))))
      (only_turns _ _ (set_part info (zero_first n)) (length info.shape.zeros) (λ k small.
      let p = zero_there k small in
      only_put _ _ (zero_position info k) (λ row. First (zero_first n)) (omega (arith, p)) (omega (arith, p, small, plain))))
