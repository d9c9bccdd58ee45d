-- Programs whose pointers have types: of each base the type of its object, and at each instruction what is known of temporaries.
use Rattle.std.specs.Prelude.{◌≡◌, ℕ, suc, ◌<◌, ℤ, pos, true, List, [], ◌++◌, map, Option, Some, None, length, slice_get}
use Rattle.std.specs.List.{Contains}
use Rattle.cc_base.specs.declared.int_types.IntType.{IntType}
use Rattle.c_layout.specs.CheckedUnits.{StaticStoreView, SetValue, StaticView, LiteralView, UnitView}
use Rattle.c_layout.specs.Layout.{size_of_type}
use Rattle.c_layout.specs.Leaves.{leaves_of}
use Rattle.c_layout.specs.StructViews.{StructView, structs_view}
use Rattle.c_layout.specs.Types.{Ty, Pointer, Struct}
use Rattle.c_layout.specs.declared.checked_tree.checked_units.StaticValue.TheVariants as static_value
use Rattle.c_layout.specs.declared.shapes.BaseInfo.{BaseInfo}
use Rattle.cfg.specs.WellFormed.{On, leads}
use Rattle.cfg.specs.declared.machine_instructions.Amount.{Amount}
use Rattle.cfg.specs.declared.machine_instructions.Instruction.{Instruction}
use Rattle.cfg.specs.declared.machine_instructions.Operation.{Operation}
use Rattle.cfg.specs.declared.machine_instructions.Operation.TheVariants as op
use Rattle.cfg.specs.declared.machine_instructions.Scalar.{Scalar}
use Rattle.cfg.specs.declared.machine_instructions.Scalar.TheVariants as of
use Rattle.cfg.specs.declared.programs.Flow.{Flow}
use Rattle.typed_programs.specs.PlainUnits.PlainTerms.{is_plain_library}
use Rattle.typed_programs.specs.PlainUnits.ShortArrays.{has_short_arrays}
use Rattle.lower_objects.specs.Counts.SharedObjects.{literal_type}
use Rattle.lower_templates.specs.Worklist.Pieces.{Way, When}
use Rattle.semantics.specs.CfgMachine.FlowStarts.{start_names}
use Rattle.semantics.specs.CfgMachine.FlowEdges.{edges_of}
use Rattle.semantics.specs.CfgMachine.FlowSteps.{block_of}
use Rattle.lower_templates.specs.Views.ProgramViews.{EdgeView, flow_view}
use Rattle.memory_model.specs.Memory.Bytes.{into}
use Rattle.memory_model.specs.Effects.NumberedTables.{set_at}
use Rattle.memory_model.specs.Effects.UnitStarts.{base_instance}
use Rattle.diagnose.specs.Diagnostics.AdmittedRules.{instructions_of}
use Rattle.store_structs.specs.LaidApart.{has_class_bytes}
use Rattle.typed_programs.specs.Types.TypeBytes.{scalar_byte}
use Rattle.typed_programs.specs.Types.StandingTypes.{AreLaidOut, Stands}
use Rattle.typed_programs.specs.Types.PointedTypes.{Target, Element, Place, target_type, Known, Zero, Null, Pointing, IsLess, Points, IsOfKind, IsStorable}
use Rattle.typed_programs.specs.Types.TypedStates.{Temporaries}

abbrev pub structs_of : Flow → List StructView
structs_of flow = structs_view flow.structs

abbrev pub size_in : Flow → Ty → ℕ
size_in flow t = size_of_type (structs_of flow) flow.model.pointer t

-- ---- what is known of temporaries

-- no more is known than before
abbrev pub IsKept : Temporaries → Temporaries → Type 0
IsKept before after = (t : ℕ) (k : Known) → after t ≡ Some k → (old : Known) × (before t ≡ Some old) × IsLess old k

-- one of them has another value
abbrev pub Gives : ℕ → Option Known → Temporaries → Temporaries → Type 0
Gives to known before after = IsKept (set_at before to known) after

abbrev pub GivesIf : Option ℕ → Option Known → Temporaries → Temporaries → Type 0
GivesIf None known before after = IsKept before after
GivesIf (Some to) known before after = Gives to known before after

-- a store may keep the value of a temporary in another one
abbrev pub Keeps : Option (ℕ × ℕ) → Temporaries → Temporaries → Type 0
Keeps None before after = IsKept before after
Keeps (Some kept) before after = Gives kept.0 (before kept.1) before after

-- ---- instructions

module _ (flow : Flow) (objects : ℕ → Ty) (before after : Temporaries) where
  -- a temporary points to a type
  pub record PointsTo (temp : ℕ) (t : Ty) : Type 0 where
    pub known : Known
    pub target : Target
    pub has : before temp ≡ Some known
    pub less : IsLess known (Pointing target)
    pub is : target_type target ≡ t

  pub data IsTypedOperation : Operation → Type 0 where
    gives_zero : (to : ℕ) (kind : IntType) → Gives to (Some Zero) before after → IsTypedOperation (op.Constant to (pos 0) kind)
    gives_number : (to : ℕ) (n : ℤ) (kind : IntType) → Gives to None before after → IsTypedOperation (op.Constant to n kind)
    gives_address : (to base : ℕ) → Gives to (Some (Pointing (Element (objects base)))) before after → IsTypedOperation (op.Address to base 0)
    -- a part of an object
    gives_part : (to base offset : ℕ) (t : Ty) → Stands (structs_of flow) flow.model.pointer (objects base) t offset → Gives to (Some (Pointing (Place t))) before after → IsTypedOperation (op.Address to base offset)
    loads : (to from : ℕ) (kind : Scalar) (t : Ty) (known : Option Known) → PointsTo from t → IsOfKind t kind known → Gives to known before after → IsTypedOperation (op.Load to from kind)
    stores_in : (to from : ℕ) (kind : Scalar) (kept : _) (t : Ty) (known : Option Known) → PointsTo to t → IsOfKind t kind known → IsStorable known (before from) → Keeps kept before after → IsTypedOperation (op.Store to from kind kept)
    copies : (to from index : ℕ) → PointsTo to (Struct index) → PointsTo from (Struct index) → 0 < size_in flow (Struct index) → IsKept before after → IsTypedOperation (op.Copy to from index)
    -- a member, or an array as its first element
    narrows : (to from offset size : ℕ) (t inner : Ty) → PointsTo from t → Stands (structs_of flow) flow.model.pointer t inner offset → size ≡ size_in flow inner → 0 < size → Gives to (Some (Pointing (Element inner))) before after → IsTypedOperation (op.Narrow to from offset size)
    shifts : (to from : ℕ) (by : Amount) (size : ℕ) (back : _) (t : Ty) → (known : Known) → before from ≡ Some known → IsLess known (Pointing (Element t)) → size ≡ size_in flow t → 0 < size → Gives to (Some (Pointing (Element t))) before after → IsTypedOperation (op.Shift to from by size back)
    computes : (to : ℕ) (sign : _) (left : ℕ) (right : Amount) (kind : IntType) → Gives to None before after → IsTypedOperation (op.Binary to sign left right kind)
    computes_one : (to : ℕ) (sign : _) (from : ℕ) (kind : IntType) → Gives to None before after → IsTypedOperation (op.Unary to sign from kind)
    compares : (to : ℕ) (sign : _) (left right : ℕ) → Gives to None before after → IsTypedOperation (op.Compare to sign left right)
    inverts : (to from : ℕ) (kind : Scalar) → Gives to None before after → IsTypedOperation (op.Not to from kind)
    subtracts : (to left right size : ℕ) → Gives to None before after → IsTypedOperation (op.Difference to left right size)
    compares_pointers : (to : ℕ) (sign : _) (left right : ℕ) → Gives to None before after → IsTypedOperation (op.ComparePointers to sign left right)
    to_number : (to from : ℕ) (old : Scalar) (kind : IntType) → Gives to None before after → IsTypedOperation (op.Convert to from old (of.Int kind))
    -- 0 is null, a pointer to each type; a pointer stays as it is
    to_null : (to from : ℕ) (kind : IntType) → before from ≡ Some Zero → Gives to (Some Null) before after → IsTypedOperation (op.Convert to from (of.Int kind) of.Pointer)
    to_pointer : (to from : ℕ) → Gives to (before from) before after → IsTypedOperation (op.Convert to from of.Pointer of.Pointer)
    calls : (to : Option ℕ) (name : _) (arguments : _) (newest : _) (size : _) → is_plain_library name ≡ true → GivesIf to None before after → IsTypedOperation (op.Library to name arguments newest size)
    enters : (base : ℕ) → IsKept before after → IsTypedOperation (op.Enter base)
    leaves_object : (base : ℕ) → IsKept before after → IsTypedOperation (op.Leave base)
    forgets : (base : ℕ) → IsKept before after → IsTypedOperation (op.Forget base)
    clears : (base : ℕ) → IsKept before after → IsTypedOperation (op.Clear base)
    spells : (base offset room : ℕ) (text : _) → IsKept before after → IsTypedOperation (op.Spell base offset room text)
    jumps : IsKept before after → IsTypedOperation op.Jump
    branches : (from : ℕ) (kind : Scalar) → IsKept before after → IsTypedOperation (op.Branch from kind)
    switches : (from : ℕ) (kind : IntType) → IsKept before after → IsTypedOperation (op.Switch from kind)
    ends_run : IsTypedOperation op.Stop

-- ---- edges

-- what an edge puts is a number
abbrev pub PutsKnown : Option (ℕ × ℤ) → Temporaries → Temporaries → Type 0
PutsKnown None before after = IsKept before after
PutsKnown (Some p) before after = Gives p.0 None before after

abbrev pub IsTypedWay : Way → Temporaries → Temporaries → Type 0
IsTypedWay (When truth test puts) before after = PutsKnown puts before after
IsTypedWay way before after = IsKept before after

-- ---- objects

-- a base has the leaves of its object's type, which has arrays of few elements alone
pub record IsObjectOf (flow : Flow) (t : Ty) (base : BaseInfo) : Type 0 where
  pub leaves : base.shape.cells ≡ leaves_of (structs_of flow) flow.model.pointer t
  pub size : base.size ≡ size_in flow t
  pub kinds : has_class_bytes flow.model t ≡ true
  pub small : has_short_arrays (structs_of flow) t ≡ true

-- ---- the first objects of a unit

abbrev pub object_type : StaticView → Ty
object_type o = o.ctype

abbrev pub text_type : UnitView → LiteralView → Ty
text_type u l = literal_type u.model.char_signed (length l.bytes)

-- objects of static storage, and behind them literals
abbrev pub first_types : UnitView → ℕ → Option Ty
first_types u i = slice_get (map object_type u.objects ++ map (text_type u) u.literals) i

-- a pointer among the first bytes of an object points to what the type says there
abbrev pub IsTypedStore : UnitView → Ty → StaticStoreView → Type 0
IsTypedStore u outer (SetValue offset (static_value.Address b at lo hi)) = (t : Ty) → scalar_byte u.structs u.model.pointer outer offset ≡ Some (record { ctype = Pointer t; at = 0 }) → Points u.structs u.model.pointer (first_types u) (Element t) (into (base_instance u b) at lo hi)
IsTypedStore u outer other = Unit {0}

abbrev pub HasTypedObjects : UnitView → Type 0
HasTypedObjects u = (n : ℕ) (o : StaticView) (store : StaticStoreView) → slice_get u.objects n ≡ Some o → Contains o.stores store → IsTypedStore u o.ctype store

-- ---- programs

-- a type for each base, and what is known of temporaries before each instruction of each block
pub record Typing : Type 0 where
  pub objects : ℕ → Ty
  pub known : ℕ → ℕ → Temporaries

-- the program of a unit has such types: each instruction and each edge keeps to them
pub record IsTypedProgram (flow : Flow) (u : UnitView) (typing : Typing) : Type 0 where
  pub laid : AreLaidOut flow.model (structs_of flow)
  pub structures : u.structs ≡ structs_of flow
  pub model : u.model ≡ flow.model
  pub bases : (b : ℕ) (base : BaseInfo) → slice_get flow.bases.items b ≡ Some base → IsObjectOf flow (typing.objects b) base
  pub first : HasTypedObjects u
  pub named : (b i : ℕ) → start_names u (flow_view flow) b ≡ Some i → first_types u i ≡ Some (typing.objects b)
  pub parameters : flow.parameters.items ≡ []
  pub begins : (t : ℕ) → typing.known 0 0 t ≡ None
  pub steps : (block at : ℕ) (i : Instruction) → slice_get (instructions_of flow block) at ≡ Some i → IsTypedOperation flow typing.objects (typing.known block at) (typing.known block (suc at)) i.operation
  -- an edge is taken behind an instruction that ends its block
  pub edges : (block at : ℕ) (i : Instruction) (e : EdgeView) → slice_get (instructions_of flow block) at ≡ Some i → (leads i.operation ≡ On → ⊥) → Contains (edges_of (flow_view flow) (block_of (flow_view flow) block)) e → IsTypedWay e.taken (typing.known block (suc at)) (typing.known e.to 0)
