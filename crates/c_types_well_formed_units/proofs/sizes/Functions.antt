-- The functions of a unit have results and objects of fit types.
use Rattle.std.proofs.Common.{ℕ, Bool, true, false, List, [], ◌∷◌, ◌++◌, Option, Some, None, Ok, Err, refl}
use Rattle.std.specs.Prelude.{cond}
use Rattle.cc_base.specs.declared.diagnostics.Place.{Place}
use Rattle.c_layout.specs.CheckedUnits.{FunctionView, LocalView}
use Rattle.c_layout.specs.DeclarationTrees as syntax
use Rattle.c_layout.specs.DeclarationTrees.{NameView, SpecTree, StatementTrees, FunctionDeclaratorView, InitDeclaratorView, Object, Initialized, Prototype, ExternalTree, Declared, Defined, spec_trees, statement_trees}
use Rattle.c_layout.specs.declared.data_model.Model.{Model}
use Rattle.c_types_scopes.specs.Answers.{after}
use Rattle.c_types_scopes.specs.Known.{Known}
use Rattle.c_types_scopes.specs.Refusals.{Ruled, type_fault}
use Rattle.c_types_scopes.specs.States.{State, first_state}
use Rattle.c_types_declarations.specs.FunctionHeads as heads
use Rattle.c_types_declarations.specs.FunctionHeads.{HeadView}
use Rattle.c_types_declarations.specs.SpecifierTrees.{specifiers}
use Rattle.c_types_declarations.specs.Specifiers.{SpecifiedView}
use Rattle.c_types_statement_rules.specs.Objects.LocalObjects.{PartsView}
use Rattle.c_types_statement_rules.specs.StatementRules.BodyFlow.{no_flow}
use Rattle.c_types_statement_rules.specs.StatementRules.Points.{Point, point}
use Rattle.c_types_statement_rules.specs.StatementRules.StatementNodes.{no_parts}
use Rattle.c_types_statements.specs.LocalDeclarations.{local_declaration}
use Rattle.c_types_statements.specs.Statements.{items}
use Rattle.c_types.specs.FileScope.ExternalDeclarations as external
use Rattle.c_types.specs.FileScope.FunctionDeclarations as functions
use Rattle.c_types.specs.Units.FunctionDefinitions as bodies
use Rattle.c_types.specs.Units.Streams.{with_stream}
use Rattle.c_types.specs.Units.UnitChecks as checks
use Rattle.c_types.specs.Units.UnitDefinitions as definitions
use Rattle.c_types_theorems.proofs.entries.Leading.{Leads, cond_leads, then}
use Rattle.c_types_theorems.proofs.entries.Statements.{Comes}
use Rattle.c_types_theorems.proofs.stores.Growing.{Extends}
use Rattle.c_types_theorems.proofs.units.Kept.{later_same}
use Rattle.c_types_well_formed.specs.WellFormed.ModelTypes.{Each}
use Rattle.c_types_well_formed.proofs.layouts.Laying.{none_is}
use Rattle.c_types_well_formed_units.specs.Sizes.FitTypes.{IsFit}
use Rattle.c_types_well_formed_units.proofs.sizes.FitTypes.{fit_grown}
use Rattle.c_types_well_formed_units.proofs.sizes.Keeping as keeping
use Rattle.c_types_well_formed_units.proofs.sizes.Keeping.{Sized, IsLater, Keeps, keeps_same, keeps_twice, structs_more, specifiers_keep, To, any, onward, cond_to, led}
use Rattle.c_types_theorems.proofs.entries.Specifying.{specifiers_lead}
use Rattle.c_types_well_formed_units.proofs.sizes.Locals.{items_come, labels_keep}
use Rattle.c_types_well_formed_units.proofs.sizes.Heads.{HasFit, bare}
use Rattle.c_types_well_formed_units.proofs.sizes.Files.{signed_leads, function_slot_keeps, scoped_head_to, external_to}

-- ---- functions

pub record IsFitFunction (k : Known) (f : FunctionView) : Type 0 where
  pub returns : IsFit k f.returns
  pub locals : Each (λ (l : LocalView). IsFit k l.ctype) f.locals

abbrev pub AreFit : Known → List FunctionView → Type 0
AreFit k [] = Unit {0}
AreFit k (f ∷ fs) = IsFitFunction k f × AreFit k fs

function_grown : (k later : Known) (f : FunctionView) → Extends k later → IsFitFunction k f → IsFitFunction later f
function_grown k later f g h = record { returns = fit_grown k later f.returns g h.returns; locals = λ i l at. fit_grown k later l.ctype g (h.locals i l at) }

functions_grown : (k later : Known) (fs : List FunctionView) → Extends k later → AreFit k fs → AreFit later fs
functions_grown k later [] g h = tt
functions_grown k later (f ∷ fs) g h = (function_grown k later f g h.0, functions_grown k later fs g h.1)

fit_more : (k : Known) (fs : List FunctionView) (f : FunctionView) → AreFit k fs → IsFitFunction k f → AreFit k (fs ++ f ∷ [])
fit_more k [] f h g = (g, tt)
fit_more k (x ∷ fs) f h g = (h.0, fit_more k fs f h.1 g)

abbrev Makes : FunctionView → State → Type 0
Makes f t = IsFitFunction t.known f

-- ---- heads of definitions

met_leads : (n : NameView) (number : ℕ) (h : HeadView) (s : State) → Leads Keeps s (functions.met_head n number h s)
met_leads n number h s = cond_leads Keeps s (functions.is_defined s number) _ _ tt (cond_leads Keeps s h.are_named _ _ (keeps_same s) tt)

judged_leads : (n : NameView) (number : ℕ) (b : _) (h : HeadView) (s : State) → Leads Keeps s (functions.judged_head n number b h s)
judged_leads n number b h s = then Keeps keeps_twice s (functions.signed n number b h s) (λ u t. functions.met_head n number h t) (signed_leads n number b h s) (λ u t. met_leads n number h t)

numbered_to : (name : ℕ) (h : HeadView) (s : State) (r : Ruled (Unit {0} × State)) → Sized s → IsFit s.known h.declared.ctype → Leads Keeps s r → To s HasFit (after r (bodies.numbered name h))
numbered_to name h s (Ok p) sized fit g = let k = g sized in (k, fit_grown s.known p.1.known h.declared.ctype k.1.extends fit)
numbered_to name h s (Err f) sized fit g = tt

defined_head_to : (s : State) (b : SpecifiedView) (f : FunctionDeclaratorView) → Sized s → To s HasFit (bodies.defined_head s b f)
defined_head_to s b f h =
    let p = functions.function_slot f.name s in
    let g = function_slot_keeps f.name s h in
    onward s p.1 HasFit (bodies.head_of b f p) g
    (keeping.then p.1 HasFit HasFit (heads.function_head (functions.in_scope p.1) b.declared f) (bodies.head_in f.name p.0) (scoped_head_to p.1 b f g.0)
    (λ x t k later fit. numbered_to p.0.known x t (functions.judged_head f.name p.0.number p.0.before x t) k fit (judged_leads f.name p.0.number p.0.before x t)))

-- ---- bodies

counted_to : (s : State) (q : Point) (r : Ruled (PartsView × Point)) → Sized s → Keeps s q.state → Comes Keeps q.state r → To s any (bodies.counted r)
counted_to s q (Ok p) h g c = (keeps_twice s q.state p.1.state g c h, tt)
counted_to s q (Err f) h g c = tt

body_to : (n : NameView) (ts : StatementTrees) (h : HeadView) (s : State) → Sized s → IsFit s.known h.declared.ctype → To s Makes (bodies.with_body n ts h s)
body_to n ts h s sized fit =
    let q : Point = bodies.before_body h ts s in
    keeping.then s any Makes (bodies.body_parts h ts s) (bodies.function_of_parts n h)
    (counted_to s q (items local_declaration q no_parts ts) sized (labels_keep ts (point s (no_flow h.declared.ctype))) (items_come q no_parts ts))
    (λ b t g later x. ((bare t g, later_same t.known t.types), record { returns = fit_grown s.known t.known h.declared.ctype later.extends fit; locals = g.local }))

defined_to : (s : State) (b : SpecifiedView) (f : FunctionDeclaratorView) (ts : StatementTrees) → Sized s → To s Makes (bodies.defined f ts b s)
defined_to s b f ts h =
    keeping.then s Makes Makes (after (bodies.defined_head s b f) (bodies.with_body f.name ts)) bodies.ended
    (keeping.then s HasFit Makes (bodies.defined_head s b f) (bodies.with_body f.name ts) (defined_head_to s b f h) (λ x t g later fit. body_to f.name ts x t g fit))
    (λ x t g later fit. ((g, later_same t.known t.types), fit))

function_to : (s : State) (at : Place) (words : List SpecTree) (f : FunctionDeclaratorView) (body : List syntax.StatementTree) → Sized s → To s Makes (bodies.function_definition s at words f body)
function_to s at words f body h =
    keeping.then s any Makes (specifiers s at false (spec_trees words)) (bodies.defined_by f (statement_trees body)) (led s (specifiers s at false (spec_trees words)) h (specifiers_lead Keeps specifiers_keep s at false (spec_trees words)))
    (λ b t g later x. cond_to t Makes (external.is_typedef b.storage) (type_fault f.name.at) (bodies.defined f (statement_trees body) b t) (λ is. tt) (defined_to t b f (statement_trees body) g))

-- ---- units

abbrev pub MakesAll : List FunctionView → State → Type 0
MakesAll fs t = AreFit t.known fs

part_to : (s : State) (made : List FunctionView) (e : ExternalTree) → Sized s → AreFit s.known made → To s MakesAll (checks.external s made e)
part_to s made (Declared at words ds) h fit =
    keeping.then s any MakesAll (external.external_declaration s at words ds) (checks.functions_kept made) (external_to s at words ds h)
    (λ u t g later x. ((g, later_same t.known t.types), functions_grown s.known t.known made later.extends fit))
part_to s made (Defined at words f body) h fit =
    keeping.then s Makes MakesAll (bodies.function_definition s at words f body) (checks.with_function made) (function_to s at words f body h)
    (λ x t g later made_fit. ((g, later_same t.known t.types), fit_more t.known made x (functions_grown s.known t.known made later.extends fit) made_fit))

pub parts_to : (es : List ExternalTree) (s : State) (made : List FunctionView) → Sized s → AreFit s.known made → To s MakesAll (checks.externals s made es)
parts_to [] s made h fit = ((h, later_same s.known s.types), fit)
parts_to (e ∷ es) s made h fit = keeping.then s MakesAll MakesAll (checks.external s made e) (λ more t. checks.externals t more es) (part_to s made e h fit) (λ more t g later had. parts_to es t more g had)

-- ---- before the first declaration

named_keeps : (n : Option NameView) (s : State) → Keeps s (definitions.with_named n s)
named_keeps None s = keeps_same s
named_keeps (Some n) s = keeps_same s

either_keeps : (s : State) (b : Bool) (t : State) → Keeps s t → Keeps s (cond b t s)
either_keeps s true t h = h
either_keeps s false t h = keeps_same s

declarator_keeps : (defines : Bool) (d : InitDeclaratorView) (s : State) → Keeps s (definitions.with_declarator defines d s)
declarator_keeps defines (Object d) s = either_keeps s defines (definitions.with_named d.name s) (named_keeps d.name s)
declarator_keeps defines (Initialized d equals i) s = named_keeps d.name s
declarator_keeps defines (Prototype f) s = keeps_same s

declarators_keep : (defines : Bool) (ds : List InitDeclaratorView) (s : State) → Keeps s (definitions.with_declarators defines ds s)
unfolding definitions.with_declarators
declarators_keep defines [] s = keeps_same s
declarators_keep defines (d ∷ ds) s = keeps_twice s (definitions.with_declarator defines d s) (definitions.with_declarators defines ds (definitions.with_declarator defines d s)) (declarator_keeps defines d s) (declarators_keep defines ds (definitions.with_declarator defines d s))

external_keeps : (e : ExternalTree) (s : State) → Keeps s (definitions.with_external e s)
external_keeps (Declared at words ds) s = declarators_keep (definitions.is_definition (definitions.storage_of words)) ds s
external_keeps (Defined at words f body) s = keeps_same s

externals_keep : (es : List ExternalTree) (s : State) → Keeps s (definitions.with_externals es s)
unfolding definitions.with_externals
externals_keep [] s = keeps_same s
externals_keep (e ∷ es) s = keeps_twice s (definitions.with_external e s) (definitions.with_externals es (definitions.with_external e s)) (external_keeps e s) (externals_keep es (definitions.with_external e s))

first_sized : (m : Model) → Sized (first_state m)
first_sized m = record {
  settled = refl;
  bodies = λ n v is. none_is v is;
  small = λ n v is. none_is v is;
  named = λ i d at. none_is d at;
  declared = λ i o at. none_is o at;
  local = λ i l at. none_is l at;
  static = λ i o at. none_is o at;
  listed = λ i o at. none_is o at;
}

pub begun_sized : (m : Model) (es : List ExternalTree) → Sized (definitions.with_externals es (with_stream (first_state m))) × IsLater (first_state m) (definitions.with_externals es (with_stream (first_state m)))
begun_sized m es = keeps_twice (first_state m) (with_stream (first_state m)) (definitions.with_externals es (with_stream (first_state m))) (structs_more (first_state m)) (externals_keep es (with_stream (first_state m))) (first_sized m)
