-- Operations are typed as their acts are.
use Rattle.std.proofs.Common.{◌≡◌, ℕ, Option, Some, subst}
use Rattle.c_layout.specs.Types.{Ty}
use Rattle.cfg.specs.declared.machine_instructions.Operation.{Operation}
use Rattle.cfg.specs.declared.machine_instructions.Operation.TheVariants as op
use Rattle.cfg.specs.declared.programs.Flow.{Flow}
use Rattle.lower_templates.specs.Worklist.Acts.{act}
use Rattle.typed_programs.specs.Types.PointedTypes.{Element, Pointing}
use Rattle.typed_programs.specs.Types.StandingTypes.{Stands}
use Rattle.typed_programs.specs.Types.TypedPrograms as program
use Rattle.typed_programs.specs.Types.TypedPrograms.{structs_of, Gives, IsTypedOperation}
use Rattle.typed_programs.specs.Types.TypedStates.{Temporaries}
use Rattle.typed_lowering.specs.Conversions.TypedActs as typed
use Rattle.typed_lowering.specs.Conversions.TypedActs.{IsTypedAct}

module _ (flow : Flow) (bases : ℕ → Option Ty) (objects : ℕ → Ty) (same : (b : ℕ) (t : Ty) → bases b ≡ Some t → t ≡ objects b) (before after : Temporaries) where
  points : (temp : ℕ) (t : Ty) → typed.PointsTo (structs_of flow) flow.model.pointer bases before after temp t → program.PointsTo flow objects before after temp t
  points temp t p = record { known = p.known; target = p.target; has = p.has; less = p.less; is = p.is }

  address : (to base : ℕ) (t : Ty) → bases base ≡ Some t → Gives to (Some (Pointing (Element t))) before after → Gives to (Some (Pointing (Element (objects base)))) before after
  address to base t is = subst (λ s. Gives to (Some (Pointing (Element t))) before after → Gives to (Some (Pointing (Element s))) before after) (same base t is) (λ g. g)

  part : (base offset : ℕ) (outer t : Ty) → bases base ≡ Some outer → Stands (structs_of flow) flow.model.pointer outer t offset → Stands (structs_of flow) flow.model.pointer (objects base) t offset
  part base offset outer t is = subst (λ s. Stands (structs_of flow) flow.model.pointer outer t offset → Stands (structs_of flow) flow.model.pointer s t offset) (same base outer is) (λ g. g)

  pub typed_operation : (o : Operation) → IsTypedAct (structs_of flow) flow.model.pointer bases before after (act o) → IsTypedOperation flow objects before after o
  typed_operation (op.Constant to n kind) (typed.gives_zero _ _ g) = program.gives_zero to kind g
  typed_operation (op.Constant to n kind) (typed.gives_number _ _ _ g) = program.gives_number to n kind g
  typed_operation (op.Address to base offset) (typed.gives_address _ _ t is g) = program.gives_address to base (address to base t is g)
  typed_operation (op.Address to base offset) (typed.gives_part _ _ _ outer t is stands g) = program.gives_part to base offset t (part base offset outer t is stands) g
  typed_operation (op.Load to from kind) (typed.loads _ _ _ t known p k g) = program.loads to from kind t known (points from t p) k g
  typed_operation (op.Store to from kind kept) (typed.stores_in _ _ _ _ t known p k s g) = program.stores_in to from kind kept t known (points to t p) k s g
  typed_operation (op.Copy to from index) (typed.copies _ _ _ p q some k) = program.copies to from index (points to _ p) (points from _ q) some k
  typed_operation (op.Narrow to from offset size) (typed.narrows _ _ _ _ t inner p stands e some g) = program.narrows to from offset size t inner (points from t p) stands e some g
  typed_operation (op.Shift to from by size back) (typed.shifts _ _ _ _ _ t known is less e some g) = program.shifts to from by size back t known is less e some g
  typed_operation (op.Binary to sign left right kind) (typed.computes _ _ _ _ _ g) = program.computes to sign left right kind g
  typed_operation (op.Unary to sign from kind) (typed.computes_one _ _ _ _ g) = program.computes_one to sign from kind g
  typed_operation (op.Compare to sign left right) (typed.compares _ _ _ _ g) = program.compares to sign left right g
  typed_operation (op.Not to from kind) (typed.inverts _ _ _ g) = program.inverts to from kind g
  typed_operation (op.Difference to left right size) (typed.subtracts _ _ _ _ g) = program.subtracts to left right size g
  typed_operation (op.ComparePointers to sign left right) (typed.compares_pointers _ _ _ _ g) = program.compares_pointers to sign left right g
  typed_operation (op.Convert to from old new) (typed.to_number _ _ _ kind g) = program.to_number to from old kind g
  typed_operation (op.Convert to from old new) (typed.to_null _ _ kind is g) = program.to_null to from kind is g
  typed_operation (op.Convert to from old new) (typed.to_pointer _ _ g) = program.to_pointer to from g
  typed_operation (op.Library to name arguments newest size) (typed.calls _ _ _ _ _ plain g) = program.calls to name arguments newest size plain g
  typed_operation (op.Enter base) (typed.enters _ k) = program.enters base k
  typed_operation (op.Leave base) (typed.leaves_object _ k) = program.leaves_object base k
  typed_operation (op.Forget base) (typed.forgets _ k) = program.forgets base k
  typed_operation (op.Clear base) (typed.clears _ k) = program.clears base k
  typed_operation (op.Spell base offset room text) (typed.spells _ _ _ _ k) = program.spells base offset room text k
  typed_operation op.Jump (typed.jumps k) = program.jumps k
  typed_operation (op.Branch from kind) (typed.branches _ _ k) = program.branches from kind k
  typed_operation (op.Switch from kind) (typed.switches _ _ k) = program.switches from kind k
  typed_operation op.Stop typed.ends_run = program.ends_run
  typed_operation (op.ReadLine to text count stream) is = elim is [ ]
