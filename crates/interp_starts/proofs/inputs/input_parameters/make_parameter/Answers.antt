use Rattle.std.proofs.Common.{sym, ap, ◌∙◌}
use Rattle.std.proofs.lemmas.Result.{err_from_is_err_and}
use Rattle.c_layout.specs.CheckedUnits.{unit_view}
use Rattle.c_layout.specs.Layout.{size_of_type}
use Rattle.c_layout.specs.StructViews.{structs_view}
use Rattle.memory_model.specs.Effects.ObjectEffects.{fresh}
use Rattle.memory_model.specs.Effects.ScalarBytes.{refilled, scalar_bytes}
use Rattle.memory_model.specs.Effects.UnitStarts.{typed_bytes}
use Rattle.memory_model.specs.Memory.Instances.{automatic}
use Rattle.memory_model.specs.Memory.Labels.{input_labels}
use Rattle.memory_model.specs.Memory.Scalars.{integer}
use Rattle.c_layout.specs.Types.{Int}
use Rattle.interp_accesses.specs.WorldViews.{world_view}
use Rattle.interp_starts.proofs.inputs.Lengths.{input_length}
use Rattle.interp_starts.proofs.inputs.StartSteps.{passes_start}
use Rattle.interp_starts.proofs.inputs.input_parameters.make_parameter.Goals as goal

pub returns-in_err-may_make : goal.returns-in_err-may_make
returns-in_err-may_make c =
    let p = err_from_is_err_and c.from_residual-in_err-may_make.result c.from_residual-in_err-may_make.ensures.1 in
    let u = unit_view c.args.unit.now in
    let kind = c.args.kind in
    rw (p.1, p.2) (passes_start c.in_err-may_make.field-0.0 (world_view c.args.w.now) (world_view c.args.w.now)
    (fresh automatic (refilled (typed_bytes u (Int kind)) 0 (scalar_bytes kind.bytes (integer c.args.number (input_labels kind))))) c.from.result
    (input_length u kind c.args.number
    ∙ sym (ap (size_of_type (structs_view c.args.unit.now.structs) c.args.unit.now.model.pointer) c.requires.integer)
    ∙ sym c.in_ok-layout.ensures.size
    ∙ sym c.from.ensures)
    c.in_err-may_make.ensures.passes)
