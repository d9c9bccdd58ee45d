-- What the laws ask of terms, and typing gives: what is copied is a struct, values are taken of calls that give one, a line
-- is read with three arguments, and a function of the unit that is called is there, and has as many parameters as arguments.
use Rattle.std.specs.Prelude.{◌≡◌, ℕ, Bool, true, false}
use Rattle.c_layout.specs.Types.{Struct}
use Rattle.c_layout.specs.CheckedTrees as tree
use Rattle.c_layout.specs.CheckedTrees.{TermTree, TermTrees, Typed, LvalueTree, Designates}
use Rattle.c_layout.specs.CheckedUnits.{FunctionView, UnitView}
use Rattle.c_layout.specs.declared.library_functions.LibFn.{LibFn}
use Rattle.lower_templates.specs.Worklist.TermKinds.{struct_number, lvalue_type}
use Rattle.lower_expressions.specs.Calls.{gives, reads_line}
use Rattle.semantics.specs.SourceMachine.TermItems.{argument_count}
use Rattle.simulation_terms.specs.SimulationRelation.Simulates.{IsCalled}

-- a call whose value is used gives one
abbrev pub Gives : Bool → LibFn → Type 0
Gives true function = gives function ≡ true
Gives false function = Unit {0}

-- a line is read with three arguments
abbrev pub HasThree : Bool → TermTrees → Type 0
HasThree true args = argument_count args ≡ 3
HasThree false args = Unit {0}

-- a call of a function of the unit
pub record IsOwnCall (u : UnitView) (g count : ℕ) (used : Bool) : Type 0 where
  pub function : FunctionView
  pub called : IsCalled u g used function
  pub many : function.parameters ≡ count

-- a value that is used is given
abbrev pub IsGiven : Bool → Bool → Type 0
IsGiven true given = given ≡ true
IsGiven false given = Unit {0}

abbrev mutual
  -- a term whose value is used or not
  pub Suits : UnitView → Bool → TermTree → Type 0
  Suits u used (Typed at t parens constant (tree.Number n)) = Unit {0}
  Suits u used (Typed at t parens constant (tree.SizeofType n is_pointer)) = Unit {0}
  Suits u used (Typed at t parens constant (tree.Sizeof n operand is_pointer)) = Unit {0}
  Suits u used (Typed at t parens constant (tree.Load l)) = SuitsAsPlace u l
  Suits u used (Typed at t parens constant (tree.AddressOf l)) = SuitsAsPlace u l
  Suits u used (Typed at t parens constant (tree.Decay l)) = SuitsAsPlace u l
  Suits u used (Typed at t parens constant (tree.Convert kind a)) = Suits u true a
  Suits u true (Typed at t parens constant (tree.Discard a)) = ⊥
  Suits u false (Typed at t parens constant (tree.Discard a)) = Suits u false a
  Suits u used (Typed at t parens constant (tree.Plus a)) = Suits u true a
  Suits u used (Typed at t parens constant (tree.Minus a)) = Suits u true a
  Suits u used (Typed at t parens constant (tree.Complement a)) = Suits u true a
  Suits u used (Typed at t parens constant (tree.Not a)) = Suits u true a
  Suits u used (Typed at t parens constant (tree.Integer sign a b)) = Suits u true a × Suits u true b
  Suits u used (Typed at t parens constant (tree.Shift back size a b)) = Suits u true a × Suits u true b
  Suits u used (Typed at t parens constant (tree.Difference size a b)) = Suits u true a × Suits u true b
  Suits u used (Typed at t parens constant (tree.Compare sign a b)) = Suits u true a × Suits u true b
  Suits u used (Typed at t parens constant (tree.Logical sign a b)) = Suits u true a × Suits u true b
  Suits u used (Typed at t parens constant (tree.Conditional c a b)) = Suits u true c × Suits u used a × Suits u used b
  Suits u used (Typed at t parens constant (tree.Comma a b)) = Suits u false a × Suits u used b
  Suits u used (Typed at t parens constant (tree.Assign l a)) = SuitsAsPlace u l × Suits u true a
  Suits u used (Typed at t parens constant (tree.Compound sign kind l a)) = SuitsAsPlace u l × Suits u true a
  Suits u used (Typed at t parens constant (tree.CompoundShift back size l a)) = SuitsAsPlace u l × Suits u true a
  Suits u used (Typed at t parens constant (tree.Step sign time kind l)) = SuitsAsPlace u l
  Suits u used (Typed at t parens constant (tree.StepPointer sign time size l)) = SuitsAsPlace u l
  Suits u used (Typed at t parens constant (tree.Struct l)) = SuitsAsPlace u l
  Suits u used (Typed at t parens constant (tree.Call function args is_used)) = SuitAll u args × IsOwnCall u function (argument_count args) is_used × IsGiven used is_used
  Suits u used (Typed at t parens constant (tree.Library function args target)) = SuitAll u args × Gives used function × HasThree (reads_line function) args

  pub SuitsAsPlace : UnitView → LvalueTree → Type 0
  SuitsAsPlace u (Designates at t parens (tree.Object o)) = Unit {0}
  SuitsAsPlace u (Designates at t parens (tree.Literal n)) = Unit {0}
  SuitsAsPlace u (Designates at t parens (tree.Target e)) = Suits u true e
  SuitsAsPlace u (Designates at t parens (tree.Member outer offset)) = SuitsAsPlace u outer
  SuitsAsPlace u (Designates at t parens (tree.Copied target source)) = SuitsAsPlace u target × SuitsAsPlace u source × (lvalue_type target ≡ Struct (struct_number (lvalue_type target)))
  SuitsAsPlace u (Designates at t parens (tree.Then left right)) = Suits u false left × SuitsAsPlace u right

  pub SuitAll : UnitView → TermTrees → Type 0
  SuitAll u tree.End = Unit {0}
  SuitAll u (tree.More e rest) = Suits u true e × SuitAll u rest
