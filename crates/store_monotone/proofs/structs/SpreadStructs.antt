-- Structs whose leaves stand apart share no bytes among them.
use Rattle.std.specs.Prelude.{◌≡◌, ℕ, zero, suc, ◌+◌, ◌^◌, ◌≤◌, ◌<◌, true, Option, Some, None, List, [], ◌∷◌, ◌++◌, refl}
use Rattle.std.proofs.Common.{arith, sym, subst, ap, ◌∙◌, inl, inr}
use Rattle.std.proofs.lemmas.Bool.{and_parts, leb-true, cases_lt}
use Rattle.c_layout.specs.StructViews.{StructView}
use Rattle.c_layout.specs.declared.data_model.Model.{Model}
use Rattle.c_layout.specs.declared.leaf_lists.Leaf.{Leaf}
use Rattle.c_layout.specs.Models.{is_model}
use Rattle.cfg.specs.BaseShapes.{is_extent, nowhere, are_leaves}
use Rattle.store.specs.LeafSelection.{covered_more, covered_bytes}
use Rattle.store_cells.specs.RowPositions.{capped}
use Rattle.store_cells.specs.Walks.{walk, turns}
use Rattle.store_monotone.specs.Operations.Placements.{EachFrom}
use Rattle.store_monotone.proofs.shapes.FoldedLeaves.{bytes_apart}
use Rattle.store_structs.specs.LeafNumbers.{struct_leaf}
use Rattle.store_structs.specs.PaddingWrites.{Padded, covered_by, covered_leaf, leaf_bytes}
use Rattle.store_monotone.specs.Structs.SpreadStructs.{padded_in, IsSpread, with_leaf, leaves_below, is_apart}
use Rattle.store_monotone.proofs.structs.MetLeaves.{IsShort}
use Rattle.store_monotone.proofs.structs.ShortLeaves.{all_short}

-- ---- lists

each_last : (P : Leaf → ℕ → Type 0) (at : ℕ) (leaves : List Leaf) (leaf : Leaf) → EachFrom P at (leaves ++ (leaf ∷ [])) → EachFrom P at leaves × ((number : ℕ) × P leaf number)
each_last P at [] leaf h = (tt, (at, h.0))
each_last P at (first ∷ leaves) leaf h = let r = each_last P (at + 1) leaves leaf h.1 in ((h.0, r.0), r.1)

covered_last : (m : Model) (lo end at : ℕ) (leaves : List Leaf) (leaf : Leaf) (c : ℕ) → walk (covered_more m lo end) at (leaves ++ (leaf ∷ [])) c ≡ covered_more m lo end leaf 0 (walk (covered_more m lo end) at leaves c)
covered_last m lo end at [] leaf c = refl
covered_last m lo end at (first ∷ leaves) leaf c = covered_last m lo end (at + 1) leaves leaf (covered_more m lo end first at c)

module _ (m : Model) (structs : List StructView) (index : ℕ) where
  -- the bytes of the leaves by number are those of the list
  bytes_by : (lo end : ℕ) (leaves : List Leaf) (leaf : Option Leaf) (c : ℕ) → covered_bytes m leaves lo end ≡ c → covered_bytes m (with_leaf leaves leaf) lo end ≡ covered_by m lo end leaf c
  bytes_by lo end leaves None c e = e
  bytes_by lo end leaves (Some leaf) c e = covered_last m lo end 0 leaves leaf 0 ∙ ap (λ z. covered_more m lo end leaf 0 z) e

  bytes_of : (p : Padded) → p.structs ≡ structs → p.pointer ≡ m.pointer → p.index ≡ index → (lo end count : ℕ) → covered_bytes m (leaves_below structs m.pointer index count) lo end ≡ turns (covered_leaf m p lo end) count 0
  bytes_of p a b c lo end zero = refl
  bytes_of p a b c lo end (suc count) =
      let e : struct_leaf structs m.pointer index count ≡ struct_leaf p.structs p.pointer p.index count = λ j. struct_leaf (sym a j) (sym b j) (sym c j) count in
      bytes_by lo end (leaves_below structs m.pointer index count) (struct_leaf structs m.pointer index count) _ (bytes_of p a b c lo end count)
      ∙ ap (λ z. covered_by m lo end z (turns (covered_leaf m p lo end) count 0)) e

  -- ---- each leaf is short

  short_leaf : (at count : ℕ) → EachFrom (λ leaf at. IsShort leaf) at (leaves_below structs m.pointer index count) → (number : ℕ) (leaf : Leaf) → number < count → struct_leaf structs m.pointer index number ≡ Some leaf → IsShort leaf
  short_leaf at zero h number leaf less e = absurd (omega arith)
  short_leaf at (suc count) h number leaf less e = by_leaf (struct_leaf structs m.pointer index count) refl h (λ k l. short_leaf at count k number leaf l e)
    where
      by_leaf : (last : Option Leaf) → struct_leaf structs m.pointer index count ≡ last → EachFrom (λ leaf at. IsShort leaf) at (with_leaf (leaves_below structs m.pointer index count) last)
          → (EachFrom (λ leaf at. IsShort leaf) at (leaves_below structs m.pointer index count) → number < count → IsShort leaf) → IsShort leaf
      by_leaf None f k before = elim (cases_lt number count) [
        | inl l ↦ before k l
        | inr l ↦ (let q : number ≡ count = omega arith in
            let z : None ≡ Some leaf = sym f ∙ ap (λ t. struct_leaf structs m.pointer index t) (sym q) ∙ e in
            absurd (let y : ⊥ = cc in y))
      ]
      by_leaf (Some last) f k before =
          let r = each_last (λ leaf at. IsShort leaf) at (leaves_below structs m.pointer index count) last k in
          elim (cases_lt number count) [
            | inl l ↦ before r.0 l
            | inr l ↦ (let q : number ≡ count = omega arith in
                let z : Some last ≡ Some leaf = sym f ∙ ap (λ t. struct_leaf structs m.pointer index t) (sym q) ∙ e in
                let y : last ≡ leaf = cc in
                subst IsShort y (r.1).1)
          ]

pub apart_spread : (m : Model) → is_model m ≡ true → (structs : List StructView) (index : ℕ) (s : StructView) → is_apart m structs index s ≡ true → IsSpread m structs index s
unfolding leaf_bytes
apart_spread m model structs index s h =
    let a = and_parts (is_extent s.size) (are_leaves m s.size (leaves_below structs m.pointer index s.leaves)) h in
    let b = leb-true s.size (2 ^ 30) a.0 in
    let by_byte = bytes_apart m model s.size (leaves_below structs m.pointer index s.leaves) a.1 in
    let short = all_short m model s.size nowhere 0 0 (leaves_below structs m.pointer index s.leaves) (λ q. absurd (omega arith)) a.1 in
    record {
      size = omega arith;
      short = λ number leaf l e. let q = (short_leaf m structs index 0 s.leaves short number leaf l e).near in omega arith;
      bytes = λ start x l.
          let e : capped (x + 1) ≡ x + 1 = omega arith in
          subst (λ z. turns (covered_leaf m (padded_in structs m.pointer index s start) x z) s.leaves 0 ≤ 1) (sym e)
          (subst (λ z. z ≤ 1) (bytes_of m structs index (padded_in structs m.pointer index s start) refl refl refl x (x + 1) s.leaves) (by_byte x));
    }
