-- The greatest row of a well-formed program.
use Rattle.std.proofs.Common.{◌≡◌, ℕ, zero, suc, ◌+◌, ◌<◌, ◌≤◌, true, ◌&&◌, List, [], ◌∷◌, length, arith, subst, sym, refl, ◌∙◌, inl, inr}
use Rattle.std.specs.Prelude.{ℤ, replicate, ◌++◌, ◌==◌, cond, nat_lt}
use Rattle.std.specs.List.{list_all}
use Rattle.std.proofs.lemmas.Bool.{cases_eq, and_parts, eqb-true}
use Rattle.std.proofs.lemmas.List.{length-append, length-replicate}
use Rattle.cc_base.specs.Lattices.{LatticeOf}
use Rattle.cc_base.specs.IntegerDomains.{IntegersOf}
use Rattle.cc_base.specs.declared.limit_table.Limits.{Limits}
use Rattle.c_layout.specs.declared.shapes.BaseInfo.{BaseInfo}
use Rattle.cfg.specs.WellFormed.{names_of, are_blocks, fits_edge, is_initial_object, is_parameter, is_within, are_few, is_laid_out, is_well_formed, are_placed, base_cells, base_values, all_values}
use Rattle.cfg.specs.declared.programs.Flow.{Flow}
use Rattle.pointer_domain.specs.declared.base_sets.Bases.{Bases}
use Rattle.pointer_domain.specs.BaseSets.{no_base, bases_has, bases_with}
use Rattle.pointer_domain.specs.BaseFacts.{with_has_same, with_has_other}
use Rattle.value_domain.specs.declared.values.row_cells.Cell.{Cell}
use Rattle.value_domain.specs.declared.values.row_cells.Cell.TheVariants.{Value, First, State}
use Rattle.store_monotone.specs.Operations.Placements.{IsPlaced}
use Rattle.store_monotone.specs.Operations.TopCells.{top_value, top_zero, top_state}
use Rattle.store_monotone.specs.Operations.TopRows.{top_base, top_bases, top_row}
use Rattle.store_monotone.proofs.operations.OwnValues.{each_get}
use Rattle.store_monotone.proofs.operations.TopRows.{all_placed}
use Rattle.store_sound.specs.Programs.Premises.{HasPremises}
use Rattle.entry_sound.specs.Cells.Greatest.{IsGreatest}

-- all bases below a number
abbrev pub bases_up_to : ℕ → Bases
bases_up_to zero = no_base
bases_up_to (suc count) = bases_with (bases_up_to count) count

up_to_has : (count b : ℕ) → count ≤ 1016 → b < count → bases_has (bases_up_to count) b ≡ true
up_to_has zero b few h = absurd (omega (arith, h))
up_to_has (suc count) b few h = elim (cases_eq count b) [
  | inl e ↦ subst (λ z. bases_has (bases_with (bases_up_to count) count) z ≡ true) e (with_has_same (bases_up_to count) count)
  | inr ne ↦ with_has_other (bases_up_to count) count b (omega (arith, few)) (omega (arith, few, h)) ne ∙ up_to_has count b (omega (arith, few)) (omega (arith, h, ne))
]

module _ {I : Type 0} (n : IntegersOf I) (all : Bases) where
  top_length : (base : BaseInfo) → length (top_base n all base) ≡ base_values base
  top_length base =
      let x : List (Cell I) = replicate (base_cells base) (Value (top_value n all)) in
      let y : List (Cell I) = replicate (length base.shape.zeros) (First (top_zero n)) in
      let z : List (Cell I) = replicate (cond base.shape.heap 1 0) (State (top_state n)) in
      let a = length-append x (y ++ z) in
      let b = length-append y z in
      let c = length-replicate (base_cells base) (Value (top_value n all)) in
      let d = length-replicate (length base.shape.zeros) (First (top_zero n)) in
      let e = length-replicate (cond {A = ℕ} base.shape.heap 1 0) (State (top_state n)) in
      omega (arith, a, b, c, d, e)

  bases_long : (bases : List BaseInfo) → length (top_bases n all bases) ≡ all_values bases
  bases_long [] = refl
  bases_long (base ∷ bases) = let a = length-append (top_base n all base) (top_bases n all bases) in let b = top_length base in let c = bases_long bases in omega (arith, a, b, c)

  pub row_long : (bases : List BaseInfo) (temps : ℕ) → length (top_row n all bases temps) ≡ all_values bases + temps
  row_long bases temps = let a = length-append (top_bases n all bases) (replicate temps (Value (top_value n all))) in let b = bases_long bases in let c = length-replicate temps (Value (top_value n all)) in omega (arith, a, b, c)

module _ (limits : Limits) (flow : Flow) (good : is_well_formed limits flow ≡ true) where
  pub placed_good : (are_placed 0 flow.bases.items ≡ true) × (flow.width ≡ all_values flow.bases.items + flow.temps)
  placed_good =
      let a = and_parts (nat_lt 0 (length flow.blocks.items)) _ good in
      let b = and_parts (are_blocks (names_of flow) (length flow.blocks.items) flow.edges.items 0 0 flow.blocks.items flow.edges.items) _ a.1 in
      let c = and_parts (list_all (λ e. fits_edge (names_of flow) e.kind) flow.edges.items) _ b.1 in
      let d = and_parts (are_placed 0 flow.bases.items) _ c.1 in
      let e = and_parts (flow.width == all_values flow.bases.items + flow.temps) (list_all (is_initial_object flow.bases.items) flow.initial.items && (list_all (is_parameter flow.model flow.bases.items) flow.parameters.items && (is_within limits flow && (are_few flow && is_laid_out flow)))) d.1 in
      (d.0, eqb-true flow.width (all_values flow.bases.items + flow.temps) e.0)

  module _ {I : Type 0} (l : LatticeOf I) (n : IntegersOf I) (gamma : I → ℤ → Type 0) (p : HasPremises flow) where
    abbrev pub every_base : Bases
    every_base = bases_up_to (length flow.bases.items)

    abbrev pub top : List (Cell I)
    top = top_row n every_base flow.bases.items flow.temps

    pub top_long : length top ≡ flow.width
    top_long = row_long n every_base flow.bases.items flow.temps ∙ sym placed_good.1

    pub top_greatest : IsGreatest l n gamma flow every_base top
    top_greatest = record {
      every = λ b h. let few = p.shaped.few in up_to_has (length flow.bases.items) b few h;
      cells = λ b base e.
          let small = p.short in
          let long = top_long in
          each_get (λ (k : BaseInfo) number. IsPlaced n every_base top k) 0 b flow.bases.items base (all_placed n every_base top [] (replicate flow.temps (Value (top_value n every_base))) 0 flow.bases.items refl (omega (arith, small, long)) placed_good.0) e;
    }
