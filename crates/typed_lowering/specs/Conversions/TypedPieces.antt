-- Pieces of a template that keep to what is known of temporaries.
use Rattle.std.specs.Prelude.{◌≡◌, ◌<◌, ◌-◌, ◌+◌, ◌^◌, ℕ, Bool, true, false, cond, nat_lt, List, [], ◌∷◌, Option, Some, None, slice_get}
use Rattle.c_layout.specs.CheckedUnits.{FunctionView, UnitView}
use Rattle.c_layout.specs.Types.{Ty}
use Rattle.c_layout.specs.declared.checked_tree.checked_terms.ObjectRef.TheVariants as ref
use Rattle.lower_functions.specs.Functions.Functions.{local_type}
use Rattle.lower_templates.specs.Worklist.Acts.{Act}
use Rattle.lower_templates.specs.Worklist.Pieces.{NameView, Local, Outcome, Static, Literal, Allocation, ExitView, PieceView, Do, DoIfUsed, End, Mark, Call, TemplateView}
use Rattle.lower_templates.specs.declared.worklist.template_pieces.OwnCall.{OwnCall}
use Rattle.lower_preconditions.specs.Units.RegularStatements.{object_type}
use Rattle.typed_programs.specs.Types.PointedTypes.{IsStorable}
use Rattle.typed_programs.specs.Types.TypedPrograms.{IsKept, IsTypedWay}
use Rattle.typed_programs.specs.Types.TypedStates.{Temporaries}
use Rattle.typed_lowering.specs.Conversions.TypedTerms.{literal_or}
use Rattle.typed_lowering.specs.Conversions.KnownValues.{type_known, nothing, with_value, if_used}
use Rattle.typed_lowering.specs.Conversions.TypedActs.{IsTypedAct}

-- ---- names

-- the type of what a name of a function's template stands for
abbrev pub name_type : UnitView → FunctionView → NameView → Option Ty
name_type u f (Local n) = object_type u f (ref.Local n)
name_type u f Outcome = Some f.returns
name_type u f (Static n) = object_type u f (ref.Static n)
name_type u f (Literal n) = literal_or u (slice_get u.literals n)
name_type u f (Allocation target) = None

abbrev pub name_type_or : UnitView → FunctionView → Option NameView → Option Ty
name_type_or u f None = None
name_type_or u f (Some x) = name_type u f x

abbrev pub base_type : UnitView → FunctionView → List NameView → ℕ → Option Ty
base_type u f names b = name_type_or u f (slice_get names b)

-- ---- what is known between pieces

-- nothing comes to what stands behind the end of a block
abbrev pub State : Type 0
State = Option Temporaries

-- no more is known there than comes
abbrev pub Leads : State → Temporaries → Type 0
Leads None known = Unit {0}
Leads (Some before) known = IsKept before known

abbrev pub IsWeaker : State → State → Type 0
IsWeaker s None = s ≡ None
IsWeaker s (Some known) = Leads s known

-- ---- calls

-- the parameters of a function, in its first temporaries
abbrev pub parameters_known : FunctionView → Temporaries
parameters_known f t = cond (nat_lt t f.parameters) (type_known (local_type f t)) None

-- a result that is used, in the first one
abbrev pub result_known : Bool → FunctionView → Temporaries
result_known used f = with_value 0 (if_used used (type_known f.returns)) nothing

-- arguments are such as the parameters' types say, as far as there are temporaries for them
abbrev pub ArePassed : FunctionView → ℕ → Temporaries → Type 0
ArePassed g depth before = (i : ℕ) → i < g.parameters → depth + i < 2 ^ 32 - 1 → IsStorable (type_known (local_type g i)) (before (depth + i))

-- ---- pieces

module _ (u : UnitView) (f : FunctionView) (used : Bool) (names : List NameView) (labels : ℕ → Temporaries) where
  abbrev pub IsTypedIn : Temporaries → Temporaries → Act → Type 0
  IsTypedIn before after a = IsTypedAct u.structs u.model.pointer (base_type u f names) before after a

  pub record IsDone (s : State) (a : Act) (after : Temporaries) : Type 0 where
    pub before : Temporaries
    pub leads : Leads s before
    pub acts : IsTypedIn before after a

  abbrev pub AreTypedExits : Temporaries → List ExitView → Type 0
  AreTypedExits known [] = Unit {0}
  AreTypedExits known (e ∷ es) = IsTypedWay e.taken known (labels e.to) × AreTypedExits known es

  pub record IsEnded (s : State) (a : Act) (exits : List ExitView) : Type 0 where
    pub behind : Temporaries
    pub done : IsDone s a behind
    pub leads : AreTypedExits behind exits

  pub record IsTypedCall (s : State) (c : OwnCall) (after : Temporaries) : Type 0 where
    pub callee : FunctionView
    pub stands : slice_get u.functions c.function ≡ Some callee
    pub before : Temporaries
    pub leads : Leads s before
    pub arguments : ArePassed callee c.depth before
    pub behind : IsKept (with_value c.depth (if_used c.used (type_known callee.returns)) before) after

  abbrev pub DoneIf : Bool → State → Act → State → Type 0
  DoneIf true s a None = ⊥
  DoneIf true s a (Some after) = IsDone s a after
  DoneIf false s a r = IsWeaker s r

  -- what is known before a piece and behind it
  abbrev pub IsTypedPiece : State → PieceView → State → Type 0
  IsTypedPiece s (Do x) None = ⊥
  IsTypedPiece s (Do x) (Some after) = IsDone s x.does after
  IsTypedPiece s (DoIfUsed x) r = DoneIf used s x.does r
  IsTypedPiece s (End x exits) None = IsEnded s x.does exits
  IsTypedPiece s (End x exits) (Some after) = ⊥
  IsTypedPiece s (Mark l) None = ⊥
  IsTypedPiece s (Mark l) (Some after) = Leads s (labels l) × IsKept (labels l) after
  IsTypedPiece s (Call c) None = ⊥
  IsTypedPiece s (Call c) (Some after) = IsTypedCall s c after

  abbrev pub AreTypedPieces : State → List PieceView → State → Type 0
  AreTypedPieces s [] r = IsWeaker s r
  AreTypedPieces s (p ∷ ps) r = (m : State) × IsTypedPiece s p m × AreTypedPieces m ps r

-- ---- templates

-- a template whose call may be used or not: from its arguments to its result
pub record IsTypedTemplate (u : UnitView) (f : FunctionView) (used : Bool) (t : TemplateView) : Type 0 where
  pub labels : ℕ → Temporaries
  pub pieces : AreTypedPieces u f used t.names labels (Some (parameters_known f)) t.pieces (Some (result_known used f))
