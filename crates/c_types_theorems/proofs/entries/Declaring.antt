-- What typing a declaration's specifiers and declarators leads to, by what its steps do, whatever becomes of the scopes.
use Rattle.std.specs.Prelude.{◌≡◌, ℕ, ℤ, Bool, false, List, Option}
use Rattle.cc_base.specs.declared.diagnostics.Place.{Place}
use Rattle.c_layout.specs.DeclarationTrees.{DeclaratorLayerView, SpecTrees}
use Rattle.c_layout.specs.StructViews.{StructView}
use Rattle.c_types_scopes.specs.DeclaredTypes.{DeclaredView}
use Rattle.c_types_scopes.specs.Names.{ScopesView}
use Rattle.c_types_scopes.specs.States.{State}
use Rattle.c_types_scopes.specs.StructTables as types
use Rattle.c_types_declarations.specs.ContextSteps.{with_struct, with_body, with_member, with_complete}
use Rattle.c_types_declarations.specs.Declarators.{declared_type}
use Rattle.c_types_declarations.specs.SpecifierTrees.{specifiers}
use Rattle.c_types_theorems.proofs.entries.Leading.{Leads}
use Rattle.c_types_theorems.proofs.entries.Expressing.{HasSteps}
use Rattle.c_types_theorems.proofs.entries.Specifying as specifying
use Rattle.c_types_theorems.proofs.entries.Specifying.{HasSpecifiers}

-- a relation in which the steps of specifiers and declarators stand too
pub record HasDeclarations (R : State → State → Type 0) : Type 0 where
  pub steps : HasSteps R
  pub scoped : (s : State) (x : ScopesView) → R s (record s { scopes = x })
  pub struct_more : (s : State) → R s (with_struct s)
  pub body : (s : State) (owner : ℕ) → R s (with_body s owner)
  pub member : (s : State) (owner name field : ℕ) (e : Option ℕ) → R s (with_member s owner name field e)
  pub completed : (s t : State) (owner : ℕ) (made : StructView) → types.has_body s.types owner ≡ false → R (with_body s owner) t → R s (with_complete t owner made)
  pub enumerations : (s : State) (x : List (List ℤ)) → R s (record s { enumerations = x })

module _ (R : State → State → Type 0) (has : HasDeclarations R) where
  pub specifies : HasSpecifiers R
  specifies = record {
    steps = has.steps;
    tagged = λ s name t. has.scoped s _;
    enumerated = λ s name value. has.scoped s _;
    struct_more = has.struct_more;
    body = has.body;
    member = has.member;
    completed = λ s t owner p made first laid g. has.completed s t owner made first g;
    enumerations = has.enumerations;
  }

  pub declared_leads : (s : State) (at : Place) (d : DeclaredView) (layers : List DeclaratorLayerView) → Leads R s (declared_type s at d layers)
  declared_leads s at d layers = specifying.declared_leads R specifies s at d layers

  pub specifiers_lead : (s : State) (at : Place) (alone : Bool) (ws : SpecTrees) → Leads R s (specifiers s at alone ws)
  specifiers_lead s at alone ws = specifying.specifiers_lead R specifies s at alone ws
