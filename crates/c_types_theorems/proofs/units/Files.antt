-- Declarations and definitions of a unit keep what is kept.
use Rattle.std.proofs.Common.{◌≡◌, ◌<◌, ◌≤◌, ◌^◌, ℕ, zero, suc, Bool, true, false, List, [], ◌∷◌, ◌++◌, length, Option, Some, None, Ok, Err, slice_get, arith, refl, ap, subst, sym, ◌∙◌, inl, inr}
use Rattle.std.specs.Prelude.{◌⊎◌, ◌&&◌, ◌==◌, cond, is_some, nat_lt, nat_le, option_and_then}
use Rattle.std.proofs.lemmas.Bool.{and_parts, cases_Bool, eqb-true}
use Rattle.std.proofs.lemmas.Option.{same_Some, slice_get_within}
use Rattle.cc_base.specs.declared.diagnostics.Place.{Place}
use Rattle.c_layout.specs.Layout.{most_bytes}
use Rattle.c_layout.specs.Types.{Ty, Int, Pointer, Array, Struct, Void, same_type}
use Rattle.c_layout.specs.CheckedUnits.{StaticView, FunctionView}
use Rattle.c_layout.specs.DeclarationTrees as syntax
use Rattle.c_layout.specs.DeclarationTrees.{NameView, SpecTree, DeclaratorView, DeclaratorLayerView, InitializerTree, InitDeclaratorView, Object, Initialized, Prototype, ParameterView, ParametersView, NoParameters, OnlyVoid, ParameterList, FunctionDeclaratorView, StatementTrees, ExternalTree, Declared, Defined, spec_trees, statement_trees}
use Rattle.c_layout.specs.declared.syntax_tree.declarations.Storage.{Storage}
use Rattle.c_types_rules.specs.Rules.TypeSizes.{array_size}
use Rattle.c_types_scopes.specs.Answers.{after, kept}
use Rattle.c_types_scopes.specs.DeclaredTypes.{DeclaredView, ObjectView}
use Rattle.c_types_scopes.specs.Definitions.{has_object}
use Rattle.c_types_scopes.specs.Known.{Known, size_of}
use Rattle.c_types_scopes.specs.Names.{number_in, found_here}
use Rattle.c_types_scopes.specs.Refusals.{Ruled, type_fault, redeclared}
use Rattle.c_types_scopes.specs.States.{State, with_name, with_static}
use Rattle.c_types_scopes.specs.declared.meanings.Meaning.{Meaning}
use Rattle.c_types_scopes.specs.declared.meanings.Meaning.TheVariants as meaning
use Rattle.c_types_initializers.specs.Initialized.{InitializedView}
use Rattle.c_types_declarations.specs.Declarators.{declared_type}
use Rattle.c_types_declarations.specs.FunctionHeads as heads
use Rattle.c_types_declarations.specs.FunctionHeads.{HeadView}
use Rattle.c_types_expressions.specs.BracedLists.Initializers.{initializer_of}
use Rattle.c_types_declarations.specs.Parameters as parameters
use Rattle.c_types_declarations.specs.SpecifierTrees.{specifiers}
use Rattle.c_types_declarations.specs.Specifiers.{SpecifiedView, is_library_name}
use Rattle.c_types_declarations.specs.StructBodies.{is_stored}
use Rattle.c_types_expressions.specs.Expressions.Expressions.{before}
use Rattle.c_types_statement_rules.specs.Objects.Changes.{changed}
use Rattle.c_types_statement_rules.specs.Objects.FileObjects as objects
use Rattle.c_types_statement_rules.specs.Objects.FileObjects.{number_or, composite}
use Rattle.c_types_statement_rules.specs.Objects.LocalObjects.{typed_object, typed_static, with_static_type}
use Rattle.c_types_statements.specs.LocalDeclarations.{are_none, is_empty}
use Rattle.c_types_statements.specs.StaticInitializers.{static_initializer}
use Rattle.c_types.specs.FileScope.ExternalDeclarations as external
use Rattle.c_types.specs.FileScope.FunctionDeclarations as functions
use Rattle.c_types.specs.declared.file_scope.function_declarations.FunctionSlot.{FunctionSlot}
use Rattle.c_types.specs.declared.file_scope.function_declarations.NameBefore.{NameBefore}
use Rattle.c_types.specs.declared.file_scope.function_declarations.NameBefore.TheVariants as standing
use Rattle.c_types_theorems.proofs.entries.Leading.{Leads, kept_leads, cond_leads, onward, then}
use Rattle.c_types_theorems.proofs.entries.Declaring.{declared_leads, specifiers_lead}
use Rattle.c_types_theorems.proofs.entries.Initializing.{initializer_leads}
use Rattle.c_types_theorems.proofs.entries.Stating.{IsNumbered, static_leads}
use Rattle.c_types_rules.proofs.SameTypes.{type_is}
use Rattle.c_types_theorems.specs.Units.PlacedUnits.{IsPlacedObject}
use Rattle.c_types_theorems.proofs.units.Kept.{get_front, appended_is, AreLinked, IsGoodBy, most, Keeps, later_same, keeps_same, keeps_twice, steps_keep, declarations_keep, at_most}
use Rattle.c_types_theorems.proofs.units.Bodies.{changed_is, changed_long, AreRetyped, retyped_good, bodies_keep}

pub step : {U V : Type 0} (s : State) (r : Ruled (U × State)) (next : U → State → Ruled (V × State)) → Leads Keeps s r → ((u : U) (t : State) → Leads Keeps t (next u t)) → Leads Keeps s (after r next)
step s r next = then Keeps keeps_twice s r next

pub stays : {V : Type 0} (s : State) (rule : Ruled V) → Leads Keeps s (kept s rule)
stays s rule = kept_leads Keeps s s rule (keeps_same s)

-- ---- composite types

pub suc_not : (n : ℕ) → (suc n == 0) ≡ false
suc_not n = elim (cases_Bool (suc n == 0)) [ inl e ↦ absurd (let z = eqb-true (suc n) 0 e in omega (arith, z)) | inr e ↦ e ]

sized_length : (count : ℕ) (o : Option ℕ) → is_some (option_and_then (array_size count) o) ≡ true → (count == 0) ≡ false
sized_length count None h = absurd (cc)
sized_length zero (Some size) h = absurd (cc)
sized_length (suc n) (Some size) h = suc_not n

-- where a length is known, a further declaration has it too
common_is : (count n c : ℕ) (a b z : Bool) → (count == n) ≡ a → (count == 0) ≡ z → z ≡ false → cond a (Some count) (cond b (Some count) (cond z (Some n) None)) ≡ Some c → c ≡ count
common_is count n c true b z is zeros none h = sym (same_Some count c h)
common_is count n c false true z is zeros none h = sym (same_Some count c h)
common_is count n c false false true is zeros none h = absurd (cc)
common_is count n c false false false is zeros none h = absurd (cc)

array_is : (e u : Ty) (count : ℕ) (o : Option ℕ) (t : Ty) → e ≡ u → ((c : ℕ) → o ≡ Some c → c ≡ count) → objects.array_composite e o ≡ Some t → t ≡ Array u count
array_is e u count None t same is h = absurd (cc)
array_is e u count (Some c) t same is h = sym (same_Some (Array e c) t h) ∙ (ap (λ x. Array x c) same ∙ ap (λ n. Array u n) (is c refl))

with_element : (u e : Ty) (count n : ℕ) (t : Ty) (b : Bool) → same_type e u ≡ b → (count == 0) ≡ false → cond b (objects.array_composite e (objects.common_length count n)) None ≡ Some t → t ≡ Array u count
with_element u e count n t true same known h = array_is e u count (objects.common_length count n) t (type_is e u same) (λ c is. common_is count n c (count == n) (n == 0) (count == 0) refl refl known is) h
with_element u e count n t false same known h = absurd (cc)

other_composite : (k : Known) (old new t : Ty) → is_some (size_of k old) ≡ true → objects.composite_of old new ≡ Some t → t ≡ old
other_composite k (Array u count) (Array e n) t sized h = with_element u e count n t (same_type e u) refl (sized_length count (size_of k u) sized) h
other_composite k (Array u count) (Int kind) t sized h = absurd (cc)
other_composite k (Array u count) (Pointer e) t sized h = absurd (cc)
other_composite k (Array u count) (Struct i) t sized h = absurd (cc)
other_composite k (Array u count) Void t sized h = absurd (cc)
other_composite k (Int kind) new t sized h = absurd (cc)
other_composite k (Pointer u) new t sized h = absurd (cc)
other_composite k (Struct i) new t sized h = absurd (cc)
other_composite k Void new t sized h = absurd (cc)

-- a complete type stays
complete_stays : (k : Known) (old new t : Ty) (b : Bool) → same_type old new ≡ b → is_some (size_of k old) ≡ true → cond b (Some new) (objects.composite_of old new) ≡ Some t → t ≡ old
complete_stays k old new t true same sized h = sym (same_Some new t h) ∙ sym (type_is old new same)
complete_stays k old new t false same sized h = other_composite k old new t sized h

retyped_object : (k : Known) (old t : Ty) (o x : StaticView) → x ≡ typed_static t o → o.ctype ≡ old → (is_some (size_of k old) ≡ true → t ≡ old) → IsPlacedObject k o → IsPlacedObject k x
retyped_object k old t o x is linked stays (inl none) = inl (ap (λ z. z.stores) is ∙ none)
retyped_object k old t o x is linked stays (inr h) =
    let same : t ≡ o.ctype = stays (subst (λ z. is_some (size_of k z) ≡ true) linked h.0) ∙ sym linked in
    subst (IsPlacedObject k) (sym (is ∙ ap (λ z. typed_static z o) same)) (inr h)

-- ---- objects

-- an object with other words of its declaration
pub record IsAlike (f : ObjectView → ObjectView) : Type 0 where
  pub number : (x : ObjectView) → (f x).number ≡ x.number
  pub ctype : (x : ObjectView) → (f x).declared.ctype ≡ x.declared.ctype

alike_is : (f : ObjectView → ObjectView) → IsAlike f → (index : ℕ) (xs : List ObjectView) (i : ℕ) (x : ObjectView) → slice_get (changed f index xs) i ≡ Some x → (o : ObjectView) × (slice_get xs i ≡ Some o) × (x.number ≡ o.number) × (x.declared.ctype ≡ o.declared.ctype)
alike_is f alike index xs i x is =
    let c = changed_is f index xs i x is in
    elim c.2 [
      | inl same ↦ (c.0, c.1, ap (λ z. z.number) same.1 ∙ alike.number c.0, ap (λ z. z.declared.ctype) same.1 ∙ alike.ctype c.0)
      | inr other ↦ (c.0, c.1, ap (λ z. z.number) other.1, ap (λ z. z.declared.ctype) other.1)
    ]

pub alike_keeps : (f : ObjectView → ObjectView) → IsAlike f → (index : ℕ) (s : State) → Keeps s (record s { objects = changed f index s.objects })
alike_keeps f alike index s = (
  at_most (length s.statics),
  λ few good. (
    record {
      settled = good.settled;
      bodies = good.bodies;
      placed = good.placed;
      linked = record {
        few = λ i m x is num. (let a = alike_is f alike index s.objects i x is in good.linked.few i m a.0 a.1 (sym a.2 ∙ num));
        typed = λ i m x o is num at. (let a = alike_is f alike index s.objects i x is in good.linked.typed i m a.0 o a.1 (sym a.2 ∙ num) at ∙ sym a.3);
        apart = λ i j m x y isx isy nx ny. (let a = alike_is f alike index s.objects i x isx in let b = alike_is f alike index s.objects j y isy in good.linked.apart i j m a.0 b.0 a.1 b.1 (sym a.2 ∙ nx) (sym b.2 ∙ ny));
      };
    },
    later_same s.known s.types,
  ),
)

-- the object with its number gets the composite type
composite_retyped : (k : Known) (old new t : Ty) (number : ℕ) (before : List StaticView) → composite old new ≡ Some t → ((n : ℕ) (o : StaticView) → slice_get before n ≡ Some o → IsPlacedObject k o) → ((o : StaticView) → slice_get before number ≡ Some o → o.ctype ≡ old) → AreRetyped k number t before (changed (typed_static t) number before)
composite_retyped k old new t number before is placed linked = record {
  long = changed_long (typed_static t) number before;
  each = λ n x there.
      let c = changed_is (typed_static t) number before n x there in
      elim c.2 [
        | inl same ↦ (c.0, c.1, inl (same.0, ap (λ z. z.ctype) same.1, retyped_object k old t c.0 x same.1 (linked c.0 (ap (slice_get before) (sym same.0) ∙ c.1)) (λ sized. complete_stays k old new t (same_type old new) refl sized is) (placed n c.0 c.1)))
        | inr other ↦ (c.0, c.1, inr other)
      ];
}

-- of an object that the unit does not define none has the number
numbered_type : (s : State) → length s.statics ≤ most → IsGoodBy s.known s.types s.objects s.statics → (index : ℕ) (x : ObjectView) → slice_get s.objects index ≡ Some x → (n : Option ℕ) → x.number ≡ n → (o : StaticView) → slice_get s.statics (number_or n) ≡ Some o → o.ctype ≡ x.declared.ctype
numbered_type s few good index x at (Some m) num o there = good.linked.typed index m x o at num there
numbered_type s few good index x at None num o there = absurd (let w = within s.statics most o there in omega (arith, w, few))
  where
    within : (xs : List StaticView) (k : ℕ) (v : StaticView) → slice_get xs k ≡ Some v → k < length xs
    within xs k v h = slice_get_within xs k v h

pub retyped_keeps : (s : State) (index : ℕ) (x : ObjectView) (new t : Ty) → slice_get s.objects index ≡ Some x → composite x.declared.ctype new ≡ Some t → Keeps s (with_static_type index (number_or x.number) t s)
retyped_keeps s index x new t at is = (
  let long = changed_long (typed_static t) (number_or x.number) s.statics in omega (arith, long),
  λ few good.
      let few_s : length s.statics ≤ most = let long = changed_long (typed_static t) (number_or x.number) s.statics in omega (arith, long, few) in (
        retyped_good s.known s.types s.objects s.statics (changed (typed_static t) (number_or x.number) s.statics) index (number_or x.number) t
            (composite_retyped s.known x.declared.ctype new t (number_or x.number) s.statics is good.placed (λ o there. numbered_type s few_s good index x at x.number refl o there))
            x at refl few_s good,
        later_same s.known s.types,
      ),
)
