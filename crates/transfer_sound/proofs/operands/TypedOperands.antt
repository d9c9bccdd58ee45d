-- Operands that lie within their types in a row are of their types in each state for which it stands.
use Rattle.std.proofs.Common.{◌≡◌, ℕ, Bool, true, false, not, ◌&&◌, ◌||◌, is_none, List, [], ◌∷◌, arith, subst, sym, refl, ◌∙◌}
use Rattle.std.specs.Prelude.{ℤ, pos, ◌≤ℤ◌, int_le}
use Rattle.std.specs.List.{list_all}
use Rattle.std.proofs.lemmas.Bool.{and_parts, true≢false}
use Rattle.std.proofs.lemmas.Int.{ints}
use Rattle.cc_base.specs.Lattices.{LatticeOf}
use Rattle.cc_base.specs.IntegerDomains.{IntegersOf, BoundLaws}
use Rattle.cc_base.specs.IntegerTypes.{is_size, least_of, greatest_of, in_type}
use Rattle.cc_base.specs.declared.int_types.IntType.{IntType}
use Rattle.c_layout.specs.declared.library_functions.LibFn.{LibFn}
use Rattle.c_layout.specs.declared.library_functions.LibFn.TheVariants as f
use Rattle.cfg.specs.declared.machine_instructions.Operation.{Operation}
use Rattle.cfg.specs.declared.machine_instructions.Operation.TheVariants as op
use Rattle.cfg.specs.declared.machine_instructions.Scalar as declared
use Rattle.cfg.specs.declared.machine_instructions.Scalar.TheVariants as of
use Rattle.cfg.specs.declared.programs.Flow.{Flow}
use Rattle.pointer_domain.specs.BaseSets.{bases_empty}
use Rattle.pointer_domain.specs.PointerTables.{is_any}
use Rattle.pointer_domain.specs.declared.pointer_sets.Pointers.{Pointers}
use Rattle.value_domain.specs.Values.ValueTables.{range_fits}
use Rattle.value_domain.specs.declared.values.row_cells.Cell.{Cell}
use Rattle.value_domain.specs.declared.values.values.Value.{Value}
use Rattle.domain_theorems.proofs.values.BaseChanges.{has_none}
use Rattle.transfer_checks.specs.Temporaries.{temp_value}
use Rattle.row_bounds.specs.TypedRows.{is_natural, is_within, is_of_kind, is_size_in, has_third_size, takes_size, has_right, has_operands}
use Rattle.memory_model.specs.Memory.Bytes.{MachinePointer, null, into}
use Rattle.memory_model.specs.Memory.Instances.{Memory, Life, live, ended, freed, life_at}
use Rattle.memory_model.specs.Memory.Scalars.{Scalar, integer, pointer}
use Rattle.store_sound.specs.Concretization.ValueMeaning.{Naming, InGammaByLife, InGammaPointer, InGammaScalar}
use Rattle.store_sound.specs.Concretization.RowMeaning.{MachineState, InGamma}
use Rattle.store_sound.specs.Operations.Scalars.{IsOfKind}
use Rattle.transfer_sound.specs.Values.OperandTypes.{HasSize, HasSizes, HasThirdSize, TakesSize, HasOperands}

-- ---- ranges

-- a number between two of a type is one of the type
between : (lo hi c d a : ℤ) → ((int_le lo c && int_le c hi) && (int_le lo d && int_le d hi)) ≡ true → c ≤ℤ a → a ≤ℤ d → (int_le lo a && int_le a hi) ≡ true
between lo hi c d a h p q = grind (arith, ints)

not_below : (c a : ℤ) → int_le (pos 0) c ≡ true → c ≤ℤ a → pos 0 ≤ℤ a
not_below c a h p = grind (arith, ints)

-- ---- pointers

record IsNowhere (p : Bool) (q : Bool) (r : Bool) : Type 0 where
  empty : p ≡ true
  no_null : q ≡ false
  no_ended : r ≡ false

nowhere : (p q r : Bool) → not ((not p || q) || r) ≡ true → IsNowhere p q r
nowhere true false false h = record { empty = refl; no_null = refl; no_ended = refl }
nowhere true true r h = absurd (true≢false (sym h))
nowhere true false true h = absurd (true≢false (sym h))
nowhere false q r h = absurd (true≢false (sym h))

module _ {I : Type 0} {l : LatticeOf I} {n : IntegersOf I} {gamma : I → ℤ → Type 0} (q : BoundLaws l n gamma) where
  range_has : (kind : IntType) (x : I) (a : ℤ) → range_fits kind (n.bounds x) ≡ true → gamma x a → in_type kind a ≡ true
  range_has kind x a h there =
      let b = q.inside x a there in
      between (least_of kind) (greatest_of kind) b.0 b.1 a (subst (λ z. range_fits kind z ≡ true) b.2 h) b.3 b.4

  pub within_has : (kind : IntType) (v : Value I) (a : ℤ) → is_within n kind v ≡ true → gamma v.num a → in_type kind a ≡ true
  within_has kind v a h there = range_has kind v.num a (and_parts (is_size kind.bytes) (range_fits kind (n.bounds v.num)) h).1 there

  natural_has : (x : I) (a : ℤ) → is_natural (n.bounds x) ≡ true → gamma x a → pos 0 ≤ℤ a
  natural_has x a h there = let b = q.inside x a there in not_below b.0 a (subst (λ z. is_natural z ≡ true) b.2 h) b.3

  no_number : (x : I) (a : ℤ) → is_none (n.bounds x) ≡ true → gamma x a → ⊥
  no_number x a h there = let b = q.inside x a there in true≢false (sym (subst (λ z. is_none z ≡ true) b.2 h))

  module _ (naming : Naming) (memory : Memory) where
    no_pointer : (v : Pointers I) (p : MachinePointer) → not (is_any v || v.ended) ≡ true → InGammaPointer gamma naming memory v p → ⊥
    no_pointer v p h = by_pointer p
      where
        none : IsNowhere (bases_empty v.bases) v.null v.ended
        none = nowhere (bases_empty v.bases) v.null v.ended h

        by_life : (life : Life) (i offset lo hi : ℕ) → InGammaByLife gamma naming memory v life i offset lo hi → ⊥
        by_life live i offset lo hi t = has_none v.bases t.base none.empty t.among
        by_life ended i offset lo hi t = true≢false (sym t ∙ none.no_ended)
        by_life freed i offset lo hi t = has_none v.bases t.base none.empty t.among

        by_pointer : (p : MachinePointer) → InGammaPointer gamma naming memory v p → ⊥
        by_pointer null t = true≢false (sym t ∙ none.no_null)
        by_pointer (into i offset lo hi) t = by_life (life_at memory i) i offset lo hi t

    kind_has : (kind : declared.Scalar) (v : Value I) (x : Scalar) → is_of_kind n kind v ≡ true → InGammaScalar gamma naming memory v x → IsOfKind kind x
    kind_has (of.Int kind) v (integer a labels) h there = refl
    kind_has (of.Int kind) v (pointer p) h there = absurd (no_pointer v.pointer p h there)
    kind_has of.Pointer v (integer a labels) h there = absurd (no_number v.num a h there.0)
    kind_has of.Pointer v (pointer p) h there = refl

  module _ (flow : Flow) (naming : Naming) (row : List (Cell I)) (state : MachineState) (there : InGamma l n gamma flow naming row state) where
    size_has : (temp : ℕ) → is_size_in l n flow row temp ≡ true → HasSize (state.temps temp)
    size_has temp h a labels e = natural_has (temp_value l n flow row temp).num a h (there.temps temp (integer a labels) e).0

    sizes_have : (temps : List ℕ) → list_all (is_size_in l n flow row) temps ≡ true → HasSizes temps state.temps
    sizes_have [] h = tt
    sizes_have (temp ∷ temps) h = let p = and_parts (is_size_in l n flow row temp) (list_all (is_size_in l n flow row) temps) h in (size_has temp p.0, sizes_have temps p.1)

    third_has : (temps : List ℕ) → has_third_size l n flow row temps ≡ true → HasThirdSize temps state.temps
    third_has [] h = tt
    third_has (a ∷ []) h = tt
    third_has (a ∷ (b ∷ [])) h = tt
    third_has (a ∷ (b ∷ (c ∷ []))) h = size_has c h
    third_has (a ∷ (b ∷ (c ∷ (d ∷ temps)))) h = tt

    call_has : (name : LibFn) (arguments : List ℕ) → takes_size l n flow row name arguments ≡ true → TakesSize name arguments state.temps
    call_has f.Malloc arguments h = sizes_have arguments h
    call_has f.Calloc arguments h = sizes_have arguments h
    call_has f.Realloc arguments h = sizes_have arguments h
    call_has f.Memset arguments h = third_has arguments h
    call_has f.Memcpy arguments h = third_has arguments h
    call_has f.Memmove arguments h = third_has arguments h
    call_has f.Strncpy arguments h = third_has arguments h
    call_has _ arguments h = tt

    pub operands_have : (o : Operation) → has_operands l n flow row o ≡ true → HasOperands o state.temps
    unfolding has_operands
    operands_have (op.Binary to o left right kind) h = λ a labels e. within_has kind (temp_value l n flow row left) a (and_parts (is_within n kind (temp_value l n flow row left)) (has_right l n flow row o kind right) h).0 (there.temps left (integer a labels) e).0
    operands_have (op.Unary to o operand kind) h = λ a labels e. within_has kind (temp_value l n flow row operand) a h (there.temps operand (integer a labels) e).0
    operands_have (op.Convert to operand from kind) h = λ x e. kind_has naming state.memory from (temp_value l n flow row operand) x h (there.temps operand x e)
    operands_have (op.Library to name arguments newest size) h = call_has name arguments.items h
    operands_have _ h = tt
