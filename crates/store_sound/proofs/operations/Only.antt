-- Where operations on rows write, and what one turn of a walk makes of a position.
use Rattle.std.proofs.Common.{◌≡◌, ℕ, zero, suc, ◌+◌, ◌<◌, ◌≤◌, Bool, true, false, cond, Some, List, [], ◌∷◌, length, arith, refl, ap, ◌∙◌}
use Rattle.std.specs.Prelude.{slice_get, set}
use Rattle.std.specs.Option.{unwrap_or}
use Rattle.std.proofs.lemmas.List.{length-set}
use Rattle.value_domain.specs.declared.values.row_cells.Cell.{Cell}
use Rattle.value_domain.specs.declared.values.row_cells.Cell.TheVariants.{Nothing}
use Rattle.store_cells.specs.RowPositions.{cell_at}
use Rattle.store_cells.specs.Walks.{walk}
use Rattle.store_sound.proofs.operations.Slices.{get_set_same, get_set_other}

module _ {I : Type 0} where
  -- the operation leaves a position as it is
  pub record Leaves (at : ℕ) (f : List (Cell I) → List (Cell I)) : Type 0 where
    pub long : (row : List (Cell I)) → length (f row) ≡ length row
    pub keeps : (row : List (Cell I)) → cell_at (f row) at ≡ cell_at row at

  -- it writes from one position to below another
  pub record Only (lo hi : ℕ) (f : List (Cell I) → List (Cell I)) : Type 0 where
    pub long : (row : List (Cell I)) → length (f row) ≡ length row
    pub keeps : (row : List (Cell I)) (at : ℕ) → (lo ≤ at → at < hi → ⊥) → cell_at (f row) at ≡ cell_at row at

  pub only_leaves : {lo hi : ℕ} (at : ℕ) (f : List (Cell I) → List (Cell I)) → Only lo hi f → (lo ≤ at → at < hi → ⊥) → Leaves at f
  only_leaves at f o n = record { long = o.long; keeps = λ row. o.keeps row at n }

  pub only_more : {lo hi : ℕ} (a b : ℕ) (f : List (Cell I) → List (Cell I)) → a ≤ lo → hi ≤ b → Only lo hi f → Only a b f
  only_more a b f h k o = record { long = o.long; keeps = λ row at n. o.keeps row at (λ c d. n (omega arith) (omega arith)) }

  pub only_same : (lo hi : ℕ) → Only lo hi (λ row. row)
  only_same lo hi = record { long = λ row. refl; keeps = λ row at n. refl }

  pub only_put : (lo hi p : ℕ) (c : List (Cell I) → Cell I) → lo ≤ p → p < hi → Only lo hi (λ row. set row p (c row))
  only_put lo hi p c h k = record {
    long = λ row. length-set row p (c row);
    keeps = λ row at n. ap (λ x. unwrap_or x Nothing) (get_set_other row p at (c row) (λ (e : at ≡ p). n (omega arith) (omega arith)));
  }

  pub only_cond : (lo hi : ℕ) (b : Bool) (f g : List (Cell I) → List (Cell I)) → Only lo hi f → Only lo hi g → Only lo hi (λ row. cond b (f row) (g row))
  only_cond lo hi true f g o p = o
  only_cond lo hi false f g o p = p

  pub only_if : (lo hi : ℕ) (b : Bool) (f g : List (Cell I) → List (Cell I)) → (b ≡ true → Only lo hi f) → (b ≡ false → Only lo hi g) → Only lo hi (λ row. cond b (f row) (g row))
  only_if lo hi true f g o p = o refl
  only_if lo hi false f g o p = p refl

  pub only_then : (lo hi : ℕ) (f g : List (Cell I) → List (Cell I)) → Only lo hi f → Only lo hi g → Only lo hi (λ row. g (f row))
  only_then lo hi f g o p = record { long = λ row. p.long (f row) ∙ o.long row; keeps = λ row at n. p.keeps (f row) at n ∙ o.keeps row at n }

  -- the walk does at a position what one turn does there to a row that is the same there
  pub record Turned (p : ℕ) (g : List (Cell I) → List (Cell I)) (row after : List (Cell I)) : Type 0 where
    pub before : List (Cell I)
    pub long : length before ≡ length row
    pub same : cell_at before p ≡ cell_at row p
    pub turn : cell_at after p ≡ cell_at (g before) p

  pub cell_put : (row : List (Cell I)) (p : ℕ) (c : Cell I) → p < length row → cell_at (set row p c) p ≡ c
  cell_put row p c h = ap (λ x. unwrap_or x Nothing) (get_set_same row p c h)

module _ {I K : Type 0} (f : K → ℕ → List (Cell I) → List (Cell I)) where
  pub only_walk : (lo hi at : ℕ) (ks : List K) → ((j a : ℕ) (k : K) → slice_get ks j ≡ Some k → a ≡ at + j → Only lo hi (f k a)) → Only lo hi (walk f at ks)
  only_walk lo hi at [] h = record { long = λ row. refl; keeps = λ row p n. refl }
  only_walk lo hi at (x ∷ xs) h =
      let a = h 0 at x refl (omega arith) in
      let b = only_walk lo hi (at + 1) xs (λ j i k e d. h (suc j) i k e (omega arith)) in
      record { long = λ row. b.long (f x at row) ∙ a.long row; keeps = λ row p n. b.keeps (f x at row) p n ∙ a.keeps row p n }

  leaves_walk : (p at : ℕ) (ks : List K) → ((j a : ℕ) (k : K) → slice_get ks j ≡ Some k → a ≡ at + j → Leaves p (f k a)) → Leaves p (walk f at ks)
  leaves_walk p at [] h = record { long = λ row. refl; keeps = λ row. refl }
  leaves_walk p at (x ∷ xs) h =
      let a = h 0 at x refl (omega arith) in
      let b = leaves_walk p (at + 1) xs (λ j i k e d. h (suc j) i k e (omega arith)) in
      record { long = λ row. b.long (f x at row) ∙ a.long row; keeps = λ row. b.keeps (f x at row) ∙ a.keeps row }

  pub walk_turn : (p at : ℕ) (ks : List K) (j a : ℕ) (k : K) → slice_get ks j ≡ Some k → a ≡ at + j → ((i b : ℕ) (other : K) → slice_get ks i ≡ Some other → b ≡ at + i → (i ≡ j → ⊥) → Leaves p (f other b)) → (row : List (Cell I)) → Turned p (f k a) row (walk f at ks row)
  walk_turn p at [] j a k e d h row = cc
  walk_turn p at (x ∷ xs) zero a k e d h row =
      let w : x ≡ k = cc in
      let v : at ≡ a = omega arith in
      let b = leaves_walk p (at + 1) xs (λ i b other u t. h (suc i) b other u (omega arith) (λ (z : suc i ≡ 0). cc)) in
      record { before = row; long = refl; same = refl; turn = b.keeps (f x at row) ∙ (ap (λ y. cell_at (f y at row) p) w ∙ ap (λ y. cell_at (f k y row) p) v) }
  walk_turn p at (x ∷ xs) (suc j) a k e d h row =
      let b = h 0 at x refl (omega arith) (λ (z : 0 ≡ suc j). cc) in
      let r = walk_turn p (at + 1) xs j a k e (omega arith) (λ i b other u t n. h (suc i) b other u (omega arith) (λ (z : suc i ≡ suc j). n (omega arith))) (f x at row) in
      record { before = r.before; long = r.long ∙ b.long row; same = r.same ∙ b.keeps row; turn = r.turn }
