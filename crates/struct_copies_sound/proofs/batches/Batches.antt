-- The leaves of a struct are copied in batches: each is read before one of its batch is written.
use Rattle.std.proofs.Common.{◌≡◌, ℕ, zero, suc, ◌+◌, ◌-◌, ◌*◌, ◌/◌, ◌%◌, ◌<◌, ◌≤◌, ◌^◌, Some, List, length, arith, subst, sym, refl, ◌∙◌}
use Rattle.std.specs.Prelude.{slice_get, min}
use Rattle.std.proofs.lemmas.Nat.{div-add-mod'}
use Rattle.std.proofs.Math.Nat.{mod-lt}
use Rattle.cc_base.specs.Lattices.{LatticeOf}
use Rattle.cc_base.specs.IntegerDomains.{IntegersOf}
use Rattle.c_layout.specs.declared.leaf_lists.Leaf.{Leaf}
use Rattle.value_domain.specs.declared.values.row_cells.Cell.{Cell}
use Rattle.store_cells.specs.RowPositions.{capped}
use Rattle.store_cells.specs.Walks.{turns}
use Rattle.store_sound.specs.Operations.Gives.{Gives}
use Rattle.store_sound.proofs.operations.Slices.{get_there}
use Rattle.store_structs.specs.LeafNumbers.{struct_leaf}
use Rattle.store_structs.specs.StructCopies.{Route, batch_first, batch_count, most_at_once, read_source, copy_read, copy_step, copy_leaves, copy_batch, copy_all}

module _ {I : Type 0} (l : LatticeOf I) (n : IntegersOf I) (r : Route) (leaves : List Leaf) (numbered : (number : ℕ) → slice_get leaves number ≡ struct_leaf r.structs r.pointer r.index number) (few : length leaves ≤ 2 ^ 62) where
  -- what each leaf's turn brings, from the last one to the first
  pub batch_gives : (start : List (Cell I)) (Q : ℕ → List (Cell I) → Type 0) (count first : ℕ) → first + count ≤ length leaves
      → ((number : ℕ) (leaf : Leaf) → first ≤ number → number < first + count → slice_get leaves number ≡ Some leaf → (s : List (Cell I)) → Q (suc number) s → Gives (Q number) (copy_read l n r leaf (read_source l n r leaf start) (Some s)))
      → Q (first + count) start → Gives (Q first) (copy_leaves l n r count first start)
  batch_gives start Q zero first room each h = record { value = start; is = refl; good = subst (λ z. Q z start) (let e : first + 0 ≡ first = omega arith in e) h }
  batch_gives start Q (suc count) first room each h =
      let x = get_there leaves first (omega (arith, room)) in
      let next : suc first ≡ capped (first + 1) = omega (arith, room, few) in
      let moved : first + suc count ≡ suc first + count = omega arith in
      let rest : Gives (Q (suc first)) (copy_leaves l n r count (suc first) start) = batch_gives start Q count (suc first) (omega (arith, room))
      (λ number leaf from to e s q. each number leaf (omega (arith, from)) (omega (arith, to)) e s q) (subst (λ z. Q z start) moved h) in
      let there : copy_leaves l n r count (capped (first + 1)) start ≡ Some rest.value = subst (λ z. copy_leaves l n r count z start ≡ Some rest.value) next rest.is in
      let leaf : struct_leaf r.structs r.pointer r.index first ≡ Some x.0 = sym (numbered first) ∙ x.1 in
      let g = each first x.0 (omega arith) (omega arith) x.1 rest.value rest.good in
      subst (λ z. Gives (Q first) (copy_step l n r start z (copy_leaves l n r count (capped (first + 1)) start))) (sym leaf)
      (subst (λ z. Gives (Q first) (copy_read l n r x.0 (read_source l n r x.0 start) z)) (sym there) g)

  -- how many leaves are copied before a batch
  abbrev pub done : ℕ → ℕ
  done t = min (t * most_at_once) (length leaves)

  -- what holds behind all batches
  turns_give : (Q : ℕ → List (Cell I) → Type 0) (times : ℕ) → ((t : ℕ) → t < times → (s : List (Cell I)) → Q t s → Gives (Q (suc t)) (copy_leaves l n r (batch_count t (length leaves)) (batch_first t) s)) → (row : List (Cell I)) → Q 0 row → Gives (Q times) (turns (copy_batch l n r (length leaves)) times (Some row))
  turns_give Q zero each row h = record { value = row; is = refl; good = h }
  turns_give Q (suc times) each row h =
      let g = turns_give Q times (λ t less s q. each t (omega (arith, less)) s q) row h in
      subst (λ z. Gives (Q (suc times)) (copy_batch l n r (length leaves) times z)) (sym g.is) (each times (omega arith) g.value g.good)

  -- a batch begins behind the leaves that are copied, and ends before those that are not
  pub batches_give : (Q : ℕ → List (Cell I) → Type 0) → ((t : ℕ) (s : List (Cell I)) → done t ≤ done (suc t) → Q (done t) s → Gives (Q (done (suc t))) (copy_leaves l n r (done (suc t) - done t) (done t) s)) → (row : List (Cell I)) → Q 0 row → Gives (Q (length leaves)) (copy_all l n r (length leaves) row)
  unfolding copy_all
  batches_give Q each row h =
      let times : ℕ = length leaves / most_at_once in
      let sum = div-add-mod' (length leaves) most_at_once in
      let some : 0 < most_at_once = omega arith in
      let rest : length leaves % most_at_once < most_at_once = mod-lt (length leaves) some in
      let all : done (times + 1) ≡ length leaves = omega (arith, sum, rest) in
      let g = turns_give (λ t s. Q (done t) s) (times + 1)
      (λ t less s q.
      let first : batch_first t ≡ done t = omega (arith, less, sum, few) in
      let count : batch_count t (length leaves) ≡ done (suc t) - done t = omega (arith, less, sum, few) in
      subst (λ z. Gives (Q (done (suc t))) (copy_leaves l n r (batch_count t (length leaves)) z s)) (sym first)
      (subst (λ z. Gives (Q (done (suc t))) (copy_leaves l n r z (done t) s)) (sym count) (each t s (omega arith) q)))
      row (subst (λ z. Q z row) (let e : 0 ≡ done 0 = omega arith in e) h) in
      record { value = g.value; is = g.is; good = subst (λ z. Q z g.value) all g.good }
