-- Units that pass the look are marked.
use Rattle.std.proofs.Common.{◌≡◌, ◌≤◌, ◌<◌, ◌⊎◌, inl, inr, ℕ, zero, suc, ◌+◌, Bool, true, false, ◌&&◌, ◌||◌, nat_le, List, [], ◌∷◌, length, Option, Some, None, slice_get, is_some, refl, arith, sym, subst}
use Rattle.std.specs.List.{list_all}
use Rattle.std.proofs.lemmas.Bool.{leb-true}
use Rattle.cc_base.specs.declared.int_types.IntType.{IntType}
use Rattle.c_layout.specs.Types.{Ty, Int}
use Rattle.c_layout.specs.CheckedTrees.{statement_trees}
use Rattle.c_layout.specs.CheckedUnits.{FunctionView, LocalView, StaticView, StaticStoreView, SetValue, SetText, LiteralView, UnitView}
use Rattle.c_layout.specs.declared.checked_tree.checked_units.StaticValue.{StaticValue}
use Rattle.c_layout.specs.declared.checked_tree.checked_units.StaticValue.TheVariants as static_value
use Rattle.lower_template_theorems.specs.PendingLabels.Marks.{below, all_labels_in}
use Rattle.lower_template_theorems.proofs.pending_labels.MarkArithmetic.{compared, below_yes}
use Rattle.lower_functions.specs.Functions.Functions.{local_type, type_or}
use Rattle.lower_templates.specs.Worklist.TermKinds.{is_void}
use Rattle.lower_preconditions.specs.Units.LabelNumbers.{is_numbered}
use Rattle.lower_preconditions.specs.Units.ScopeObjects.{has_own_objects}
use Rattle.lower_preconditions.specs.Units.RegularStatements.{are_regular_statements}
use Rattle.lower_preconditions.specs.Units.RegularUnits.{is_regular_function, is_regular_unit}
use Rattle.simulation_layout.specs.JumpChecks.RegularJumps.{RegularJumpsStand}
use Rattle.simulation_layout.specs.FunctionChecks.LabelsOnce.{IsLabelledOnce}
use Rattle.simulation_layout.proofs.function_checks.CountedLabels.{labels_once}
use Rattle.memory_model.specs.Effects.LibraryChecks.{most_size}
use Rattle.memory_model.specs.Effects.UnitStarts.{entry_parameters}
use Rattle.semantics.specs.SourceMachine.Operations.{size_of}
use Rattle.semantics.specs.SourceMachine.SourceStates.{function_at}
use Rattle.source_preservation.specs.ValueTyping.MarkOperations.{IsKind}
use Rattle.source_preservation.specs.WellTyped.WellTypedTerms.{IsScalarType}
use Rattle.source_preservation.specs.WellTyped.WellTypedStatements.{WellTypedFunction, IsProperValue, IsProperStore, AreProperStores, WellTypedStatic, WellTypedLiteral, AreIntegers}
use Rattle.source_preservation.specs.Checks.LookedTypes.{is_scalar_type}
use Rattle.c_layout.specs.ByteTexts.{are_bytes}
use Rattle.source_preservation.specs.UnitChecks.LookedStatements.{are_well_typed_statements}
use Rattle.source_preservation.specs.UnitChecks.LookedUnits.{is_small, is_small_local, are_scalars, is_well_typed_function, is_proper_value, is_proper_store, is_well_typed_static, is_well_typed_literal, is_entered, are_well_typed_objects, has_entry}
use Rattle.source_preservation.specs.UnitChecks.LookLaws.{LooksMark, LooksStand}
use Rattle.source_preservation.proofs.checks.Truths.{never, there, both_true, both, three, five, all_at}
use Rattle.source_preservation.proofs.checks.SameTypes.{scalar_type, integer_there}
use Rattle.source_preservation.proofs.unit_checks.LookedStatements.{bytes_are, statements}
use Rattle.source_preservation.proofs.unit_checks.FoundLabels.{label_there}

-- ---- functions

some : (a b : ℕ) → a ≡ b → b ≡ 1 → 1 ≤ a
some a b e is = omega (arith, e, is)

below_next : (n k : ℕ) → n < suc k → (n ≡ k) ⊎ (n < k)
below_next n k less = by (compared n k)
  where
    by : (n < k) ⊎ ((n ≡ k) ⊎ (k < n)) → (n ≡ k) ⊎ (n < k)
    by (inl before) = inr before
    by (inr (inl same)) = inl same
    by (inr (inr behind)) = absurd (omega (arith, less, behind))

unless : (a b : Bool) → (a || b) ≡ true → a ≡ false → b ≡ true
unless true b e is = never (sym is)
unless false b e is = e

module _ (u : UnitView) where
  small : (t : Ty) → is_small u t ≡ true → size_of u t ≤ most_size u.model
  small t h = leb-true (size_of u t) (most_size u.model) h

  scalars : (f : FunctionView) (k : ℕ) → are_scalars u f k ≡ true → (n : ℕ) → n < k → IsScalarType u (local_type f n)
  scalars f zero h n less = absurd (omega (arith, less))
  scalars f (suc k) h n less = by (below_next n k less) (λ y. scalars f k x.1 n y)
    where
      x : (is_scalar_type u (local_type f k) ≡ true) × (are_scalars u f k ≡ true)
      x = both_true (is_scalar_type u (local_type f k)) (are_scalars u f k) h

      by : (n ≡ k) ⊎ (n < k) → (n < k → IsScalarType u (local_type f n)) → IsScalarType u (local_type f n)
      by (inl e) before = subst (λ m. IsScalarType u (local_type f m)) (sym e) (scalar_type u (local_type f k) x.0)
      by (inr e) before = before e

  small_locals : (f : FunctionView) → is_small u f.returns ≡ true → list_all (is_small_local u) f.locals ≡ true → (n : ℕ) → size_of u (local_type f n) ≤ most_size u.model
  small_locals f result all n = by (slice_get f.locals n) refl
    where
      by : (o : Option LocalView) → slice_get f.locals n ≡ o → size_of u (type_or o f.returns) ≤ most_size u.model
      by None is = small f.returns result
      by (Some l) is = small l.ctype (all_at (is_small_local u) f.locals n l all is)

  function : (f : FunctionView) → is_regular_function u f ≡ true → is_well_typed_function u f ≡ true → WellTypedFunction u f
  function f is h =
      let regular = three (is_numbered f) (has_own_objects f) (are_regular_statements u f false false (statement_trees f.body)) (labels_once f) (λ e. e) (λ e. e) is in
      let once : IsLabelledOnce f = regular.0 in
      let found = λ (l : ℕ) (less : l < f.labels). label_there u f l regular.2 (some (all_labels_in l (statement_trees f.body)) (below l f.labels) (once.labels l) (below_yes l f.labels less)) in
      let body = statements u f found false false (statement_trees f.body) regular.2 once.switches in
      let result = unless (is_void f.returns) (is_scalar_type u f.returns) in
      let x = five (are_well_typed_statements u f (statement_trees f.body)) (are_scalars u f f.parameters) (is_void f.returns || is_scalar_type u f.returns) (is_small u f.returns) (list_all (is_small_local u) f.locals) body (scalars f f.parameters) result (λ e. e) (λ e. e) h in
      record { body = x.0; parameters = x.1; returns = λ e. scalar_type u f.returns (x.2 e); small = small_locals f x.3 x.4 }

  -- ---- objects of static storage

  proper_value : (v : StaticValue) → is_proper_value u v ≡ true → IsProperValue u v
  proper_value (static_value.Address base offset lo hi) h =
      let x = both (nat_le offset (most_size u.model)) (nat_le hi (most_size u.model)) (leb-true offset (most_size u.model)) (leb-true hi (most_size u.model)) h in
      record { below = x.0; end = x.1 }
  proper_value v h = tt

  proper_store : (x : StaticStoreView) → is_proper_store u x ≡ true → IsProperStore u x
  proper_store (SetValue offset v) h = proper_value v h
  proper_store (SetText offset room text) h = bytes_are u text h

  proper_stores : (xs : List StaticStoreView) → list_all (is_proper_store u) xs ≡ true → AreProperStores u xs
  proper_stores [] h = tt
  proper_stores (x ∷ xs) h = both (is_proper_store u x) (list_all (is_proper_store u) xs) (proper_store x) (λ y. proper_stores xs y) h

  static_there : (o : StaticView) → is_well_typed_static u o ≡ true → WellTypedStatic u o
  static_there o h = let x = both (is_small u o.ctype) (list_all (is_proper_store u) o.stores) (small o.ctype) (proper_stores o.stores) h in record { small = x.0; stores = x.1 }

  literal_there : (l : LiteralView) → is_well_typed_literal u l ≡ true → WellTypedLiteral u l
  literal_there l h = let x = both (are_bytes l.bytes) (nat_le (length l.bytes + 1) (most_size u.model)) (bytes_are u l.bytes) (leb-true (length l.bytes + 1) (most_size u.model)) h in record { bytes = x.0; small = x.1 }

  -- ---- the entry

  entered : (l : LocalView) → is_entered u l ≡ true → (kind : IntType) × (l.ctype ≡ Int kind) × IsKind u.model kind
  entered l h = let x = integer_there u l.ctype h in (x.0, x.1.0, x.1.1)

  integers : (ls : List LocalView) → list_all (is_entered u) ls ≡ true → AreIntegers u ls
  integers [] h = tt
  integers (l ∷ ls) h = both (is_entered u l) (list_all (is_entered u) ls) (entered l) (λ y. integers ls y) h

-- ---- units

pub looks_stand : RegularJumpsStand → LooksStand
looks_stand stand u h g f is = stand u f (all_at (is_regular_function u) u.functions g f (both_true (is_regular_unit u) (list_all (is_well_typed_function u) u.functions && (are_well_typed_objects u && has_entry u)) h).0 is)

pub looks_mark : LooksMark
looks_mark u h =
    let x = three (is_regular_unit u) (list_all (is_well_typed_function u) u.functions) (are_well_typed_objects u && has_entry u) (λ e. e) (λ e. e) (λ e. e) h in
    let y = both (are_well_typed_objects u) (has_entry u) (both_true (list_all (is_well_typed_static u) u.objects) (list_all (is_well_typed_literal u) u.literals)) (both_true (is_some (function_at u u.entry)) (list_all (is_entered u) (entry_parameters u))) x.2 in
    record {
      functions = λ g f is. function u f (all_at (is_regular_function u) u.functions g f x.0 is) (all_at (is_well_typed_function u) u.functions g f x.1 is);
      statics = λ n o is. static_there u o (all_at (is_well_typed_static u) u.objects n o y.0.0 is);
      literals = λ n l is. literal_there u l (all_at (is_well_typed_literal u) u.literals n l y.0.1 is);
      entry = there (function_at u u.entry) y.1.0;
      entered = integers u (entry_parameters u) y.1.1;
    }
