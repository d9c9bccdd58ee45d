-- Structs in no circle: their leaves by number are those of their types.
use Rattle.std.specs.Prelude.{◌≡◌, ℕ, zero, suc, ◌+◌, ◌^◌, ◌≤◌, ◌<◌, Bool, true, ◌&&◌, ◌==◌, nat_lt, length, slice_get}
use Rattle.std.specs.List.{list_all}
use Rattle.std.proofs.Common.{arith, sym, subst, ap, ◌∙◌, add-one, inl, inr}
use Rattle.std.proofs.lemmas.Bool.{and_parts, cases_lt}
use Rattle.std.proofs.lemmas.List.{append-nil}
use Rattle.std.proofs.lemmas.Option.{slice_get_within, get_or_from_slice_get}
use Rattle.cc_base.specs.declared.limit_table.Limits.{Limits}
use Rattle.c_layout.specs.declared.leaf_lists.Class.{Class}
use Rattle.c_layout.specs.Leaves.{of_fields, folded_leaves, leaves_of}
use Rattle.c_layout.specs.Models.{is_model}
use Rattle.c_layout.specs.StructViews.{StructView, structs_view, no_struct, struct_at}
use Rattle.c_layout.specs.Types.{Struct}
use Rattle.cfg.specs.BaseShapes.{are_shaped}
use Rattle.cfg.specs.ModelKinds.{class_bytes}
use Rattle.cfg.specs.StaticStarts.{are_started}
use Rattle.cfg.specs.StructCounts.{are_counted}
use Rattle.cfg.specs.WellFormed.{are_blocks, fits_edge, are_placed, all_values, is_initial_object, is_parameter, is_within, names_of, are_few, is_laid_out, is_well_formed}
use Rattle.cfg.specs.declared.programs.Flow.{Flow}
use Rattle.store_monotone.proofs.operations.Loads.{some_bytes}
use Rattle.store_monotone.proofs.shapes.LeafBytes.{same_bytes}
use Rattle.store_sound.proofs.programs.WellFormedPremises.{well_formed_good}
use Rattle.store_structs.specs.LeafNumbers.{struct_leaf}
use Rattle.struct_copies_sound.proofs.structs.ListedStructs.{meets_structs}
use Rattle.analysis_preconditions.specs.StructNesting.OrderedStructs.{nests_within, are_below}
use Rattle.struct_copies_sound.specs.OrderedStructs.OrderedPrograms.{AreNumbered, HaveStructs}
use Rattle.struct_copies_sound.proofs.ordered_structs.PlainLeaves.{struct_sound}
use Rattle.struct_copies_sound.proofs.ordered_structs.FoldedLeaves.{IsStructOf, folded_struct}

below_at : (passes : ℕ → Bool) (count i : ℕ) → are_below passes count ≡ true → i < count → passes i ≡ true
below_at passes zero i h less = absurd (omega (arith, less))
below_at passes (suc count) i h less =
    let a = and_parts (passes count) (are_below passes count) h in
    elim (cases_lt i count) [
      | inl k ↦ below_at passes count i a.1 k
      | inr k ↦ (let e : count ≡ i = omega (arith, k, less) in subst (λ z. passes z ≡ true) e a.0)
    ]

pub numbered : AreNumbered
unfolding leaves_of struct_leaf
numbered m structs model counted apart ordered index s there = record {
  numbered = λ number. ap (λ xs. slice_get xs number) listed ∙ own.all number 0 small;
  counted = sym (ap length listed ∙ own.leaves.long 0 ∙ ap (λ (z : StructView). z.leaves) found);
}
  where
    class_some : (c : Class) → 0 < class_bytes m c
    class_some c = let e = same_bytes m model c in let a = some_bytes m c in omega (arith, e, a)

    found : struct_at structs index ≡ s
    found = get_or_from_slice_get structs index s no_struct there

    small : 0 + (struct_at structs index).size ≤ 2 ^ 30
    small = let a = (struct_sound m structs apart counted index).small in omega (arith, a)

    own : IsStructOf m class_some structs (struct_sound m structs apart counted) (length structs) index
    own = folded_struct m class_some structs (struct_sound m structs apart counted) (length structs) index (below_at (nests_within structs (length structs)) (length structs) index ordered (slice_get_within structs index s there))

    listed : folded_leaves (length structs + 1) structs m.pointer (Struct index) 0 ≡ of_fields (struct_at structs index).fields 0 (folded_leaves (length structs) structs m.pointer)
    listed = ap (λ d. folded_leaves d structs m.pointer (Struct index) 0) (add-one (length structs)) ∙ append-nil (of_fields (struct_at structs index).fields 0 (folded_leaves (length structs) structs m.pointer))

well_counted : (limits : Limits) (flow : Flow) → is_well_formed limits flow ≡ true → are_counted (structs_view flow.structs) ≡ true
well_counted limits f h =
    let a = and_parts (nat_lt 0 (length f.blocks.items)) _ h in
    let b = and_parts (are_blocks (names_of f) (length f.blocks.items) f.edges.items 0 0 f.blocks.items f.edges.items) _ a.1 in
    let c = and_parts (list_all (λ e. fits_edge (names_of f) e.kind) f.edges.items) _ b.1 in
    let d = and_parts (are_placed 0 f.bases.items) _ c.1 in
    let e = and_parts (f.width == all_values f.bases.items + f.temps) _ d.1 in
    let g = and_parts (list_all (is_initial_object f.bases.items) f.initial.items) _ e.1 in
    let i = and_parts (list_all (is_parameter f.model f.bases.items) f.parameters.items) _ g.1 in
    let j = and_parts (is_within limits f) (are_few f && is_laid_out f) i.1 in
    let k = and_parts (are_few f) (is_laid_out f) j.1 in
    let l = and_parts (is_model f.model) (are_shaped f.model f.bases.items && (are_started f.model f.bases.items f.initial.items && are_counted (structs_view f.structs))) k.1 in
    let m = and_parts (are_shaped f.model f.bases.items) (are_started f.model f.bases.items f.initial.items && are_counted (structs_view f.structs)) l.1 in
    (and_parts (are_started f.model f.bases.items f.initial.items) (are_counted (structs_view f.structs)) m.1).1

pub has_structs : HaveStructs
has_structs limits flow h apart ordered =
    let g = well_formed_good limits flow h in
    meets_structs limits flow h apart (λ index s there. numbered flow.model (structs_view flow.structs) g.model (well_counted limits flow h) apart ordered index s there)
