-- What is known of the values of terms, and of temporaries below another one.
use Rattle.std.specs.Prelude.{ℕ, Bool, cond, nat_lt, Option, Some, None}
use Rattle.c_layout.specs.CheckedTrees.{TermTree, LvalueTree}
use Rattle.c_layout.specs.Types.{Ty, Int, Pointer, Array, Struct, Void}
use Rattle.lower_templates.specs.Worklist.TermKinds.{term_type, lvalue_type}
use Rattle.typed_programs.specs.Types.PointedTypes.{Element, Known, Zero, Null, Pointing}
use Rattle.typed_programs.specs.Types.TypedStates.{Temporaries}
use Rattle.memory_model.specs.Effects.NumberedTables.{set_at}
use Rattle.typed_lowering.specs.Conversions.TypedTerms.{is_zero, is_null}

-- a value of the type: of a struct its address
abbrev pub type_known : Ty → Option Known
type_known (Int k) = None
type_known (Pointer t) = Some (Pointing (Element t))
type_known (Array t n) = None
type_known (Struct i) = Some (Pointing (Element (Struct i)))
type_known Void = None

abbrev pub term_known : TermTree → Option Known
term_known e = cond (is_zero e) (Some Zero) (cond (is_null e) (Some Null) (type_known (term_type e)))

-- the address of an lvalue
abbrev pub place_known : LvalueTree → Option Known
place_known l = Some (Pointing (Element (lvalue_type l)))

abbrev pub nothing : Temporaries
nothing t = None

-- no more than of the temporaries below
abbrev pub below : ℕ → Temporaries → Temporaries
below depth known t = cond (nat_lt t depth) (known t) None

-- and of the next one a value
abbrev pub with_value : ℕ → Option Known → Temporaries → Temporaries
with_value depth value known = set_at (below depth known) depth value

abbrev pub if_used : Bool → Option Known → Option Known
if_used used value = cond used value None
