-- The row with which a well-formed program begins is an own row, so the fit changes nothing.
use Rattle.std.specs.Prelude.{◌≡◌, ◌+◌, ◌≤◌, ◌<◌, ◌^◌, ◌==◌, ℤ, pos, true, false, nat_lt, Option, Some, None, is_some, List, length, replicate, refl}
use Rattle.std.specs.List.{list_all}
use Rattle.std.proofs.Common.{arith, sym, subst, ap, ◌∙◌}
use Rattle.std.proofs.lemmas.Bool.{and_parts}
use Rattle.std.proofs.lemmas.List.{length-replicate}
use Rattle.cc_base.specs.Lattices.{LatticeOf, OrderLaws, RoundLaws, HeightLaws}
use Rattle.cc_base.specs.Rows.{row_leq}
use Rattle.cc_base.specs.RowLaws.{row_leq-refl, row_leq-length}
use Rattle.cc_base.specs.IntegerDomains.{IntegersOf, BoundLaws, RangeLaws}
use Rattle.cc_base.specs.IntegerLaws.{MonotoneLaws}
use Rattle.cc_base.specs.declared.limit_table.Limits.{Limits}
use Rattle.c_layout.specs.Models.{is_model}
use Rattle.cfg.specs.BaseShapes.{is_shaped, are_sites, are_shaped}
use Rattle.cfg.specs.StaticStarts.{is_started, object_count, are_numbered, are_started}
use Rattle.cfg.specs.WellFormed.{names_of, fits_edge, are_blocks, are_placed, all_values, is_initial_object, is_well_formed}
use Rattle.cfg.specs.declared.programs.Flow.{Flow}
use Rattle.pointer_domain.specs.declared.base_sets.Bases.{Bases}
use Rattle.value_domain.specs.Strings.FirstZeros.{the_end}
use Rattle.value_domain.specs.declared.values.row_cells.Cell.{Cell}
use Rattle.value_domain.specs.declared.values.row_cells.Cell.TheVariants.{Nothing}
use Rattle.value_domain.specs.Values.Cells.{cell_lattice, cell_order}
use Rattle.store_monotone.specs.Operations.TopRows.{top_row}
use Rattle.transfer_system.specs.StartRows.{empty_row, start_objects, start_row}
use Rattle.transfer_system.specs.BoundedRows.CellKinds.{all_kinds}
use Rattle.transfer_system.specs.BoundedRows.EndLaws.{EndLaws}
use Rattle.transfer_system.specs.BoundedRows.FittedRows.{row_fit}
use Rattle.transfer_system.specs.BoundedRows.OwnRows.{program_bases, reach_of, is_own_row}
use Rattle.transfer_system.specs.BoundedRows.OwnLaws.{fit_own}
use Rattle.transfer_system.specs.declared.bounded_rows.own_cells.Reach.{Reach}
use Rattle.transfer_system.specs.System.FlowMachines.{has_start, known_start, start_of}
use Rattle.system_monotone.specs.LaidOut.{IsLaidOut}
use Rattle.system_monotone.proofs.TempPlaces.{row_length}
use Rattle.transfer_system.specs.BoundedRows.NearLists.{IsNearList}
use Rattle.system_monotone.proofs.FittedOrder.{row_top}
use Rattle.system_monotone.specs.Systems.ProgramRows.{IsProgramRow, AreCut}
use Rattle.system_monotone.proofs.systems.ProgramRows.{fit_kept}
use Rattle.system_monotone.proofs.systems.WellFormed.{well_made, laid_out}
use Rattle.row_bounds.specs.Stores.Floors.{AreFrom, IsLeftFrom}
use Rattle.row_bounds.proofs.stores.Ranges.{FloorLaws}
use Rattle.row_bounds.proofs.steps.Starts.{start_from}
use Rattle.row_bounds.specs.Edges.OwnLists.{ReachesTypes}
use Rattle.row_bounds.proofs.edges.OwnFloors.{least_low, all_cut}
use Rattle.transfer_system.specs.System.RegularPrograms.{has_initial_bytes}
use Rattle.row_bounds.proofs.entries.EmptyProgram.{empty_under}
use Rattle.row_bounds.proofs.entries.StartSteps.{IsKept, IsLeftKept, objects_kept}
use Rattle.row_bounds.proofs.entries.Parameters.{parameters_kept}

-- ---- the parts of well-formedness

initial_objects : (limits : Limits) (flow : Flow) → is_well_formed limits flow ≡ true
    → list_all (is_initial_object flow.bases.items) flow.initial.items ≡ true
initial_objects limits flow h =
    let a = and_parts (nat_lt 0 (length flow.blocks.items)) _ h in
    let b = and_parts (are_blocks (names_of flow)
    (length flow.blocks.items) flow.edges.items 0 0 flow.blocks.items flow.edges.items) _ a.1 in
    let c = and_parts (list_all (λ e. fits_edge (names_of flow) e.kind) flow.edges.items) _ b.1 in
    let d = and_parts (are_placed 0 flow.bases.items) _ c.1 in
    let e = and_parts (flow.width == all_values flow.bases.items + flow.temps) _ d.1 in
    (and_parts (list_all (is_initial_object flow.bases.items) flow.initial.items) _ e.1).0

record Begun (flow : Flow) : Type 0 where
  shaped : list_all (is_shaped flow.model) flow.bases.items ≡ true
  started : are_started flow.model flow.bases.items flow.initial.items ≡ true
  each : list_all
      (is_started flow.model flow.bases.items flow.initial.items
      (object_count flow.initial.items)) flow.initial.items ≡ true

begun : (limits : Limits) (flow : Flow) → is_well_formed limits flow ≡ true → Begun flow
begun limits flow h =
    let a = and_parts (is_model flow.model) _ (well_made limits flow h).laid in
    let b = and_parts (are_shaped flow.model flow.bases.items) _ a.1 in
    let c = and_parts (are_started flow.model flow.bases.items flow.initial.items) _ b.1 in
    let d = and_parts (list_all (is_shaped flow.model) flow.bases.items) (are_sites false flow.bases.items) b.0 in
    let e = and_parts (are_numbered 0 0 flow.initial.items)
    (list_all (is_started flow.model flow.bases.items flow.initial.items
    (object_count flow.initial.items)) flow.initial.items) c.0 in
    record { shaped = d.0; started = c.0; each = e.1 }

module _ {I : Type 0} {l : LatticeOf I} {n : IntegersOf I} {stands : I → ℤ → Type 0} (o : OrderLaws l)
    (k : RoundLaws l) (h : HeightLaws l) (b : BoundLaws l n stands) (g : MonotoneLaws l n) (f : RangeLaws l n)
    (ends : EndLaws l n) (limits : Limits) (flow : Flow) (list : List ℤ) (w : is_well_formed limits flow ≡ true)
    (few : limits.pool < 2 ^ 64) (bases : length flow.bases.items ≤ 1016) (texts : has_initial_bytes flow ≡ true)
    (near : IsNearList l n list) (reaches : ReachesTypes list) where
  abbrev all : Bases
  all = program_bases (length flow.bases.items)

  abbrev reach : Reach I
  reach = reach_of l n list (length flow.bases.items)

  abbrev IsOwn : List (Cell I) → Type 0
  IsOwn row = is_own_row l n list flow.bases.items flow.width row ≡ true

  laid : IsLaidOut all flow
  laid = laid_out limits flow w few

  laws : FloorLaws l n stands near.least
  laws = record { order = o; bounds = b; ranges = f; low = least_low o h b ends list near reaches }

  -- ---- the row of the entry is one of the program

  empty_kept : (row : List (Cell I)) → length row ≡ flow.width → IsKept o b g f all flow laid (empty_row l flow row)
  empty_kept row e =
      let m = laid.near in
      let c = laid.width in
      let u = empty_under o b all flow row laid.layout.placed (e ∙ c) (omega arith) in
      record {
        rows = record {
          below =
              record {
                small = row_leq-refl (cell_lattice l) (cell_order o) (empty_row l flow row);
                large =
                    u.below;
              };
          even = u.even;
        };
        filled = u.filled;
      }

  start_kept : (row : List (Cell I)) → length row ≡ flow.width
      → IsLeftKept o b g f all flow laid (start_row l n flow row)
  unfolding start_row
  start_kept row e =
      let p = begun limits flow w in
      parameters_kept o b g f all flow laid p.shaped (start_objects l n flow flow.initial.items (empty_row l flow row))
      (objects_kept o b g f all flow laid bases (initial_objects limits flow w) p.each texts (empty_row l flow row)
      (empty_kept row e))

  kept_row : (x : Option (List (Cell I))) (s : List (Cell I)) → x ≡ Some s → IsLeftKept o b g f all flow laid x
      → IsProgramRow l n flow s
  kept_row None s e j = absurd (cc)
  kept_row (Some x) s e j = subst (IsProgramRow l n flow) (let d : x ≡ s = cc in d)
      (record { below = j.rows.below.large; even = j.rows.even; filled = j.filled })

  left_from : (x : Option (List (Cell I))) (s : List (Cell I)) → x ≡ Some s → IsLeftFrom n near.least x
      → AreFrom n near.least s
  left_from None s e j = absurd (cc)
  left_from (Some x) s e j = subst (AreFrom n near.least) (let d : x ≡ s = cc in d) j

  -- ---- so it is cut by no end of the list

  cut_from : (row : List (Cell I)) → IsProgramRow l n flow row → AreFrom n near.least row → AreCut l list reach row
  cut_from row p j =
      let c = row_length n all flow laid in
      let s = row_leq-length (cell_lattice l) row (top_row n all flow.bases.items flow.temps) p.below in
      let e = laid.width in
      let m = laid.near in
      let top = row_top o h b ends list near reach near.counts laid.words flow.bases.items (length row) flow.temps
      (omega arith) (omega arith) in
      all_cut o h b ends list near reach near.counts (k.rises list (n.between (pos 0) the_end)) laid.words
      (all_kinds flow.bases.items) row (subst (λ t. row_leq (cell_lattice l) row t ≡ true) (sym top) p.below) j

  fit_same : (row s : List (Cell I)) → length row ≡ flow.width → start_row l n flow row ≡ Some s
      → row_fit l n list flow.bases.items flow.width s ≡ s
  fit_same row s e q =
      let p = kept_row (start_row l n flow row) s q (start_kept row e) in
      fit_kept o k h b g f ends flow list near laid s p
      (cut_from s p (left_from (start_row l n flow row) s q
      (start_from laws flow (begun limits flow w).started row)))

  pub start_own : (row s : List (Cell I)) → length row ≡ flow.width → start_row l n flow row ≡ Some s → IsOwn s
  start_own row s e q = subst IsOwn (fit_same row s e q) (fit_own o k h b ends list flow.bases.items flow.width s)

  -- the row of the system's entry is the one of the entry's steps

  known_same : (x : Option (List (Cell I))) → start_row l n flow (replicate flow.width Nothing) ≡ x → is_some x ≡ true
      → x ≡ Some (row_fit l n list flow.bases.items flow.width (known_start flow.width x))
  known_same None q s = absurd (cc)
  known_same (Some x) q s = ap (λ row. Some row)
      (sym (fit_same (replicate flow.width Nothing) x (length-replicate flow.width Nothing) q))

  pub start_fits_nothing : has_start l n flow ≡ true
      → start_row l n flow (replicate flow.width Nothing) ≡ Some (start_of l n flow list)
  unfolding start_of
  start_fits_nothing s = known_same (start_row l n flow (replicate flow.width Nothing)) refl s
