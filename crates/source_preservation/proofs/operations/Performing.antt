-- Operations on values of the marks that they take, and lines that are read.
use Rattle.std.proofs.Common.{ℕ, Option, List, [], ◌∷◌, ◌++◌}
use Rattle.cc_base.specs.declared.int_types.IntType.{IntType}
use Rattle.c_layout.specs.CheckedUnits.{UnitView}
use Rattle.memory_model.specs.Memory.Scalars.{Scalar, integer, pointer}
use Rattle.memory_model.specs.Effects.Worlds.{World, Reply, goes, stops}
use Rattle.memory_model.specs.Effects.LibraryCalls.{fgets}
use Rattle.semantics.specs.SourceMachine.Operations as op
use Rattle.semantics.specs.SourceMachine.Operations.{Operation, perform}
use Rattle.source_items.specs.Operations.GoingReplies.{IfGoes, NotStuck}
use Rattle.source_items.specs.Operations.Kinds.{Address, IsOf}
use Rattle.source_items.specs.Operations.OperationLaws.{OperationsHaveSteps, OperationsKeepKinds, LinesHaveSteps}
use Rattle.source_preservation.specs.ValueTyping.Marks.{Mark, Ranged, Pointing, Has, AreWellTyped}
use Rattle.source_preservation.specs.ValueTyping.ProperMemory.{IsProperMemory, Evolves}
use Rattle.source_preservation.specs.ValueTyping.MarkOperations.{MarkOperates}
use Rattle.source_preservation.specs.ValueTyping.MarkLaws.{Comes, Leaves, OperationsKeepMarks, LinesKeepMarks}
use Rattle.source_preservation.specs.Memory.GoingWorlds.{Gives}
use Rattle.source_preservation.proofs.memory.Calling.{fgets_gives, pointing_proper}
use Rattle.source_preservation.proofs.operations.Accessing.{load_performed, under_performed, over_performed, store_performed, store_over_performed, copy_performed}
use Rattle.source_preservation.proofs.operations.Computing.{constant_performed, narrow_performed, shift_performed, one_shift_performed, binary_performed, one_binary_performed, unary_performed, compare_performed, negation_performed, difference_performed, pointers_performed, convert_performed}
use Rattle.source_preservation.proofs.operations.Calling.{library_performed}

module _ (steps : OperationsHaveSteps) (keeps : OperationsKeepKinds) where
  module _ (u : UnitView) (names : ℕ → Option ℕ) (before after : List Mark) (own rest : List Scalar) (w : World) (proper : IsProperMemory u.model w.memory) (are : AreWellTyped u.model names w.memory before own) where
    performed : (operation : Operation) → MarkOperates u.model operation before after → Comes (Leaves u names w.memory after rest) (perform u operation (own ++ rest) w)
    performed (op.Constant n) o = constant_performed steps keeps u names w proper before after own rest are n o.0 o.1 o.2
    performed (op.Load kind) o = load_performed steps keeps u names w proper before after own rest are kind o.0 o.1
    performed (op.LoadUnder kind) o = under_performed steps keeps u names w proper before after own rest are kind o.0 o.1 o.2
    performed (op.LoadOver kind) o = over_performed steps keeps u names w proper before after own rest are kind o.0 o.1
    performed (op.Store kind) o = store_performed steps keeps u names w proper before after own rest are kind o.0 o.1
    performed (op.StoreOver kind) o = store_over_performed steps keeps u names w proper before after own rest are kind o.0 o.2 o.3
    performed (op.Copy t) o = copy_performed steps keeps u names w proper before after own rest are t o
    performed (op.Narrow offset size) o = narrow_performed steps keeps u names w proper before after own rest are offset size o
    performed (op.Shift order size back) o = shift_performed steps keeps u names w proper before after own rest are order size back o.0 o.1
    performed (op.ShiftByOne size back) o = one_shift_performed steps keeps u names w proper before after own rest are size back o
    performed (op.Binary order sign kind) o = binary_performed steps keeps u names w proper before after own rest are order sign kind o
    performed (op.BinaryByOne sign kind) o = one_binary_performed steps keeps u names w proper before after own rest are sign kind o.0 o.1
    performed (op.Unary sign kind) o = unary_performed steps keeps u names w proper before after own rest are sign kind o
    performed (op.Compare rel) o = compare_performed steps keeps u names w proper before after own rest are rel o
    performed op.Not o = negation_performed steps keeps u names w proper before after own rest are o
    performed (op.Difference size) o = difference_performed steps keeps u names w proper before after own rest are size o.0 o.1 o.2 o.3
    performed (op.ComparePointers rel) o = pointers_performed steps keeps u names w proper before after own rest are rel o
    performed (op.Convert kind) o = convert_performed steps keeps u names w proper before after own rest are kind o.0 o.1 o.2 o.3 o.4
    performed (op.Library function count target) o = library_performed steps keeps u names w function count target before after own rest are o

  pub keeps_marks : OperationsKeepMarks
  keeps_marks u names operation before after own rest w proper operates are = performed u names before after own rest w proper are operation operates

-- ---- lines

module _ (lines : LinesHaveSteps) (u : UnitView) (names : ℕ → Option ℕ) where
  -- a pointer that is proper is bounded
  line_comes : (w : World) (r : Reply Scalar) → NotStuck r → IfGoes (IsOf Address) r → Gives u.model w.memory r → Comes (λ v after. Has u.model names after.memory Pointing v × Evolves u.model w.memory after.memory) r
  line_comes w (goes v after) defined is given = (pointing_proper u.model names after.memory v is given.0, given.1)
  line_comes w (stops why after) defined is given = defined

  line_read : (kind : IntType) (text count stream : Scalar) (w : World) → Has u.model names w.memory Pointing text → Has u.model names w.memory (Ranged kind) count → Has u.model names w.memory Pointing stream → Comes (λ v after. Has u.model names after.memory Pointing v × Evolves u.model w.memory after.memory) (fgets u.model (text ∷ (count ∷ (stream ∷ []))) w)
  line_read kind (integer n labels) count stream w one two three = absurd one
  line_read kind (pointer p) (pointer q) stream w one two three = absurd two
  line_read kind (pointer p) (integer n labels) (integer k others) w one two three = absurd three
  line_read kind (pointer p) (integer n labels) (pointer q) w one two three =
      let vs : List Scalar = pointer p ∷ (integer n labels ∷ (pointer q ∷ [])) in
      let has = lines u.model (pointer p) (integer n labels) (pointer q) w tt tt tt in
      line_comes w (fgets u.model vs w) has.1 has.0 (fgets_gives u.model vs w (one, (tt, (three, tt))))

pub line_keeps_marks : LinesHaveSteps → LinesKeepMarks
line_keeps_marks lines u names kind text count stream w proper one two three = line_read lines u names kind text count stream w one two three
