-- What typing the statements of a body leads to, by what its steps do, whatever becomes of the scopes and of the types of
-- local objects.
use Rattle.std.proofs.Common.{◌≡◌, ℕ, List, length, Ok}
use Rattle.std.specs.Prelude.{true}
use Rattle.cc_base.specs.declared.diagnostics.Place.{Place}
use Rattle.c_layout.specs.Types.{Ty}
use Rattle.c_layout.specs.CheckedUnits.{StaticStoreView}
use Rattle.c_layout.specs.DeclarationTrees as syntax
use Rattle.c_layout.specs.DeclarationTrees.{NameView, InitializerTree}
use Rattle.c_types_scopes.specs.Refusals.{Ruled}
use Rattle.c_types_scopes.specs.DeclaredTypes.{DeclaredView}
use Rattle.c_types_scopes.specs.Names as names
use Rattle.c_types_scopes.specs.States.{State, with_name, with_local}
use Rattle.c_types_initializers.specs.Initialized.{InitializedView}
use Rattle.c_types_initializers.specs.StaticStores.{with_expressions, constant_stores}
use Rattle.c_types_expressions.specs.BracedLists.Initializers.{initializer_of}
use Rattle.c_types_statement_rules.specs.Objects.LocalObjects.{PartsView, with_automatic, with_static_object, with_local_type, with_static_type}
use Rattle.c_types_statement_rules.specs.StatementRules.Points.{Point}
use Rattle.c_types_statements.specs.LabelNumbers as labels
use Rattle.c_types_statements.specs.LocalDeclarations as locals
use Rattle.c_types_statements.specs.StaticInitializers as statics
use Rattle.c_types_statements.specs.Statements as spec
use Rattle.c_types_theorems.proofs.entries.Leading.{Leads}
use Rattle.c_types_theorems.proofs.entries.Declaring.{HasDeclarations, specifies}
use Rattle.c_types_theorems.proofs.entries.Blocks as blocks
use Rattle.c_types_theorems.proofs.entries.Blocks.{HasBlocks}

-- an object that was declared, with its number among those of the run, or that of none
abbrev pub IsNumbered : State → ℕ → ℕ → Type 0
IsNumbered s index number = blocks.IsNumbered s index number

-- a relation in which the steps of bodies stand too
pub record HasBodies (R : State → State → Type 0) : Type 0 where
  pub declares : HasDeclarations R
  pub local : (s : State) (text : List ℕ) (at : Place) (d : DeclaredView) → R s (with_local s text at d)
  pub local_type : (s : State) (number : ℕ) (t : Ty) → R s (with_local_type number t s)
  pub static : (n : NameView) (d : DeclaredView) (s : State) → R s (with_static_object n d s)
  pub initial : (s u : State) (equals : Place) (index number : ℕ) (t made : Ty) (i : InitializerTree) (v : InitializedView) (stores : List StaticStoreView) → IsNumbered s index number → initializer_of s equals t i ≡ Ok ((v, made), u) → R s u
      → statics.has_size u.known made ≡ true → constant_stores u.known equals v ≡ Ok stores → R u (with_expressions u v) → R s (statics.with_stores equals number stores (with_static_type index number made (with_expressions u v)))

-- the point behind a statement that is not refused
abbrev pub Comes : {V : Type 0} → (State → State → Type 0) → State → Ruled (V × Point) → Type 0
Comes R s r = blocks.Comes R s r

module _ (R : State → State → Type 0) (has : HasBodies R) where
  twice : (s t u : State) → R s t → R t u → R s u
  twice s t u g h = has.declares.steps.trans s t u g h

  automatic : (n : NameView) (d : DeclaredView) (s : State) → R s (with_automatic n d s)
  automatic n d s =
      twice s (with_name s n.text) (with_automatic n d s) (has.declares.steps.named s n.text)
      (twice (with_name s n.text) (with_local (with_name s n.text) n.text n.at d) (with_automatic n d s) (has.local (with_name s n.text) n.text n.at d) (has.declares.scoped (with_local (with_name s n.text) n.text n.at d) _))

  has_blocks : HasBlocks R
  has_blocks = record {
    specifies = specifies R has.declares;
    in_block = λ s t g. twice s (record s { scopes = names.opened s.scopes }) _ (has.declares.scoped s _) (twice (record s { scopes = names.opened s.scopes }) t _ g (has.declares.scoped t _));
    automatic = automatic;
    started = λ n d s t made g. twice s (with_automatic n d s) _ (automatic n d s) (twice (with_automatic n d s) t _ g (has.local_type t (length s.body.locals) made));
    static = has.static;
    initial = has.initial;
  }

  pub static_leads : (s : State) (index number : ℕ) (equals : Place) (t : Ty) (i : InitializerTree) → IsNumbered s index number → Leads R s (statics.static_initializer s index number equals t i)
  static_leads s index number equals t i numbered = blocks.static_leads R has_blocks s index number equals t i numbered

  pub statement_comes : (p : Point) (t : syntax.StatementTree) → Comes R p.state (spec.statement locals.local_declaration p t)
  statement_comes p t = blocks.statement_comes R has_blocks p t

  pub items_come : (p : Point) (parts : PartsView) (ts : syntax.StatementTrees) → Comes R p.state (spec.items locals.local_declaration p parts ts)
  items_come p parts ts = blocks.items_come R has_blocks p parts ts

  pub all_labels_lead : (ts : syntax.StatementTrees) (p : Point) → R p.state (labels.with_all_labels ts p).state
  all_labels_lead ts p = blocks.all_labels_lead R has_blocks ts p
