-- Which instruction does what an operator does to the values that are pending: a value that is computed while d
-- values are pending is in temporary d.
use Rattle.std.specs.Prelude.{◌≡◌, ℕ, zero, suc, ◌+◌, ℤ, Bool, cond, List, [], ◌∷◌, ◌++◌, length, Option, Some, None}
use Rattle.cc_base.specs.declared.integer_operators.IntOp.{IntOp}
use Rattle.cc_base.specs.declared.integer_operators.UnOp.{UnOp}
use Rattle.cc_base.specs.declared.integer_operators.Rel.{Rel}
use Rattle.cc_base.specs.declared.int_types.IntType.{IntType}
use Rattle.c_layout.specs.Types.{Ty, Struct}
use Rattle.c_layout.specs.declared.library_functions.LibFn.{LibFn}
use Rattle.cfg.specs.declared.machine_instructions.Amount.TheVariants.{Temp, One}
use Rattle.cfg.specs.declared.machine_instructions.Scalar as declared
use Rattle.memory_model.specs.Memory.Scalars.{Scalar}
use Rattle.memory_model.specs.Effects.Worlds.{World, Why, Reply, goes, stops}
use Rattle.lower_templates.specs.Worklist.Acts as act
use Rattle.lower_templates.specs.Worklist.Acts.{Act}
use Rattle.semantics.specs.SourceMachine.Operations as op
use Rattle.lower_expressions.specs.Calls.{gives, result_temp}
use Rattle.semantics.specs.CfgMachine.FlowStates.{values_of}
use Rattle.semantics.specs.SourceMachine.Operations.{Operation, LeftFirst, RightFirst, newest, target_size}
use Rattle.semantics.specs.TemplateMachine.TemplateStates.{Templates, TemplateState}
use Rattle.semantics.specs.TemplateMachine.TemplateActs as template

-- the values stand in temporaries, the oldest one in the first; the newest one comes first in the list
abbrev pub Holds : List Scalar → (ℕ → Option Scalar) → Type 0
Holds [] temps = Unit {0}
Holds (v ∷ vs) temps = (temps (length vs) ≡ Some v) × Holds vs temps

-- an operation with so many values pending is an instruction, and then so many are
pub data IsAct : Operation → Act → ℕ → ℕ → Type 0 where
  constant : (d : ℕ) (n : ℤ) (kind : IntType) → IsAct (op.Constant n) (act.Constant d n kind) d (suc d)
  load : (d : ℕ) (kind : declared.Scalar) → IsAct (op.Load kind) (act.Load d d kind) (suc d) (suc d)
  load_over : (d : ℕ) (kind : declared.Scalar) → IsAct (op.LoadOver kind) (act.Load (suc d) d kind) (suc d) (suc (suc d))
  load_under : (d : ℕ) (kind : declared.Scalar) → IsAct (op.LoadUnder kind) (act.Load (suc (suc d)) d kind) (suc (suc d)) (suc (suc (suc d)))
  store : (d : ℕ) (kind : declared.Scalar) → IsAct (op.Store kind) (act.Store d (suc d) kind (Some (d, suc d))) (suc (suc d)) (suc d)
  store_over : (d : ℕ) (kind : declared.Scalar) → IsAct (op.StoreOver kind) (act.Store d (suc (suc d)) kind (Some (d, suc d))) (suc (suc (suc d))) (suc d)
  copy : (d n : ℕ) → IsAct (op.Copy (Struct n)) (act.Copy d (suc d) n) (suc (suc d)) (suc d)
  narrow : (d offset size : ℕ) → IsAct (op.Narrow offset size) (act.Narrow d d offset size) (suc d) (suc d)
  shift_left : (d size : ℕ) (back : Bool) → IsAct (op.Shift LeftFirst size back) (act.Shift d d (Temp (suc d)) size back) (suc (suc d)) (suc d)
  shift_right : (d size : ℕ) (back : Bool) → IsAct (op.Shift RightFirst size back) (act.Shift d (suc d) (Temp d) size back) (suc (suc d)) (suc d)
  shift_one : (d size : ℕ) (back : Bool) → IsAct (op.ShiftByOne size back) (act.Shift d d One size back) (suc d) (suc d)
  binary_left : (d : ℕ) (sign : IntOp) (kind : IntType) → IsAct (op.Binary LeftFirst sign kind) (act.Binary d sign d (Temp (suc d)) kind) (suc (suc d)) (suc d)
  binary_right : (d : ℕ) (sign : IntOp) (kind : IntType) → IsAct (op.Binary RightFirst sign kind) (act.Binary d sign (suc d) (Temp d) kind) (suc (suc d)) (suc d)
  binary_one : (d : ℕ) (sign : IntOp) (kind : IntType) → IsAct (op.BinaryByOne sign kind) (act.Binary d sign d One kind) (suc d) (suc d)
  unary : (d : ℕ) (sign : UnOp) (kind : IntType) → IsAct (op.Unary sign kind) (act.Unary d sign d kind) (suc d) (suc d)
  compare : (d : ℕ) (rel : Rel) → IsAct (op.Compare rel) (act.Compare d rel d (suc d)) (suc (suc d)) (suc d)
  negate : (d : ℕ) (kind : declared.Scalar) → IsAct op.Not (act.Not d d kind) (suc d) (suc d)
  difference : (d size : ℕ) → IsAct (op.Difference size) (act.Difference d d (suc d) size) (suc (suc d)) (suc d)
  compare_pointers : (d : ℕ) (rel : Rel) → IsAct (op.ComparePointers rel) (act.ComparePointers d rel d (suc d)) (suc (suc d)) (suc d)
  convert : (d : ℕ) (old new : declared.Scalar) → IsAct (op.Convert new) (act.Convert d d old new) (suc d) (suc d)

-- both go on in the same world, and the values stand in the temporaries; or both stop alike
pub data SameReply (s : TemplateState) (count : ℕ) : Reply (List Scalar) → Reply TemplateState → Type 0 where
  both_go : (vs : List Scalar) (temps : ℕ → Option Scalar) (w : World) → Holds vs temps → length vs ≡ count → SameReply s count (goes vs w) (goes (record s { temps = temps; world = w }) w)
  both_stop : (why : Why) (w : World) → SameReply s count (stops why w) (stops why w)

-- an operation and its instruction do the same
abbrev pub OperationsAreActs : Type 0
OperationsAreActs = (t : Templates) (operation : Operation) (a : Act) (d next : ℕ) (vs : List Scalar) (s : TemplateState) → IsAct operation a d next → Holds vs s.temps → length vs ≡ d → SameReply s next (op.perform t.unit operation vs s.world) (template.perform t a s)

-- where the value of an assignment is not used, it stands in no temporary
pub data SameStore (s : TemplateState) (vs : List Scalar) : Reply (List Scalar) → Reply TemplateState → Type 0 where
  both_go : (v : Scalar) (w : World) → SameStore s vs (goes (v ∷ vs) w) (goes (record s { world = w }) w)
  both_stop : (why : Why) (w : World) → SameStore s vs (stops why w) (stops why w)

abbrev pub StoresAreActs : Type 0
StoresAreActs = (t : Templates) (kind : declared.Scalar) (v p : Scalar) (vs : List Scalar) (s : TemplateState) → Holds (v ∷ (p ∷ vs)) s.temps → SameStore s vs (op.perform t.unit (op.Store kind) (v ∷ (p ∷ vs)) s.world) (template.perform t (act.Store (length vs) (suc (length vs)) kind None) s)

-- an operation on a copy of the newest value, where so many are pending below it: the instruction leaves that value and puts
-- the result behind it
pub data IsActBehind : Operation → Act → ℕ → Type 0 where
  binary_one : (d : ℕ) (sign : IntOp) (kind : IntType) → IsActBehind (op.BinaryByOne sign kind) (act.Binary (suc d) sign d One kind) d
  shift_one : (d size : ℕ) (back : Bool) → IsActBehind (op.ShiftByOne size back) (act.Shift (suc d) d One size back) d
  convert : (d : ℕ) (old new : declared.Scalar) → IsActBehind (op.Convert new) (act.Convert (suc d) d old new) d

-- where the newest value is pending twice and stands in one temporary, they do the same
abbrev pub CopiesAreActs : Type 0
CopiesAreActs = (t : Templates) (operation : Operation) (a : Act) (v : Scalar) (vs : List Scalar) (s : TemplateState) → IsActBehind operation a (length vs) → Holds (v ∷ vs) s.temps → SameReply s (suc (suc (length vs))) (op.perform t.unit operation (v ∷ (v ∷ vs)) s.world) (template.perform t a s)

-- ---- calls of the library

-- so many temporaries from one on
abbrev pub temps_from : ℕ → ℕ → List ℕ
temps_from d zero = []
temps_from d (suc n) = temps_from d n ++ (d + n) ∷ []

-- how many values are pending behind a call of the library
abbrev pub behind_call : LibFn → ℕ → ℕ
behind_call function d = cond (gives function) (suc d) d

-- the arguments stand in the temporaries from one on, and there the result is put
abbrev pub CallsAreActs : Type 0
CallsAreActs = (t : Templates) (function : LibFn) (d count : ℕ) (target : Option Ty) (site : Option ℕ) (vs : List Scalar) (s : TemplateState) → Holds vs s.temps → length vs ≡ d + count
    → SameReply s (behind_call function d) (op.perform t.unit (op.Library function count target) vs s.world) (template.perform t (act.Library (result_temp function d) function (temps_from d count) site (target_size t.unit target)) s)

-- so many of the newest values stand in as many temporaries
abbrev pub NewestAreThere : Type 0
NewestAreThere = (vs : List Scalar) (temps : ℕ → Option Scalar) (d n : ℕ) → Holds vs temps → length vs ≡ d + n → values_of temps (temps_from d n) ≡ Some (newest n vs)
