-- States under the types of their instances: what is known of temporaries that are put, and memory that keeps to types.
use Rattle.std.proofs.Common.{◌≡◌, ℕ, ◌<◌, Option, Some, None, List, length, arith, subst, sym, ap, ◌∙◌, inl, inr}
use Rattle.std.proofs.lemmas.Bool.{cases_eq}
use Rattle.std.proofs.lemmas.Option.{same_Some}
use Rattle.c_layout.specs.StructViews.{StructView}
use Rattle.c_layout.specs.Types.{Ty}
use Rattle.c_layout.specs.declared.data_model.Model.{Model}
use Rattle.memory_model.specs.Memory.Scalars.{Scalar}
use Rattle.memory_model.specs.Effects.NumberedTables.{set_at, put_at, clear_at}
use Rattle.memory_model.specs.Effects.Touches.{is_allocated}
use Rattle.memory_model.specs.Effects.Worlds.{World}
use Rattle.semantics.specs.CfgMachine.FlowStates.{ProgramState}
use Rattle.typed_programs.specs.Types.StandingTypes.{AreLaidOut}
use Rattle.typed_programs.specs.Types.PointedTypes.{Known, Has}
use Rattle.typed_programs.specs.Types.TypedStates.{Temporaries, AreDeclared, IsTypedMemory, AreKnown, IsTyped}
use Rattle.typed_programs.specs.Types.TypedPrograms.{IsKept, Gives}
use Rattle.typed_programs.specs.Types.EffectLaws.{HasIf, KeepsTypes}
use Rattle.typed_programs.proofs.runs.TypeLaws.{TypeLaws}
use Rattle.typed_programs.proofs.runs.KnownValues.{Types, HaveMore, less_has, more_has}

-- ---- tables

pub set_here : {A : Type 0} (f : ℕ → Option A) (n : ℕ) (x : Option A) (m : ℕ) → m ≡ n → set_at f n x m ≡ x
set_here f n x m same = grind arith

pub set_else : {A : Type 0} (f : ℕ → Option A) (n : ℕ) (x : Option A) (m : ℕ) → (m ≡ n → ⊥) → set_at f n x m ≡ f m
set_else f n x m other = grind arith

-- ---- states

module _ (structs : List StructView) (pointer_size : ℕ) (objects : ℕ → Ty) where
  -- a typed state, by the types of its instances
  pub record IsTypedBy (types : Types) (known : Temporaries) (s : ProgramState) : Type 0 where
    pub bases : (b i : ℕ) → s.bases b ≡ Some i → types i ≡ Some (objects b)
    pub there : (i : ℕ) (t : Ty) → types i ≡ Some t → i < length s.world.memory
    pub declared : AreDeclared types s.world.memory
    pub temps : AreKnown structs pointer_size types known s.temps
    pub memory : IsTypedMemory structs pointer_size types s.world.memory

  pub typed_of : (types : Types) (known : Temporaries) (s : ProgramState) → IsTypedBy types known s → IsTyped structs pointer_size objects known s
  typed_of types known s h = record { types = types; bases = h.bases; there = h.there; declared = h.declared; temps = h.temps; memory = h.memory }

  pub by_types : (known : Temporaries) (s : ProgramState) (h : IsTyped structs pointer_size objects known s) → IsTypedBy h.types known s
  by_types known s h = record { bases = h.bases; there = h.there; declared = h.declared; temps = h.temps; memory = h.memory }

  -- the world behind what keeps to types
  pub world_typed : (types : Types) (known : Temporaries) (s : ProgramState) (w : World) → IsTypedBy types known s → KeepsTypes structs pointer_size types s.world w → IsTypedBy types known (record s { world = w })
  world_typed types known s w h k = record {
    bases = h.bases;
    there = λ i t e. subst (λ z. i < z) (sym k.long) (h.there i t e);
    declared = λ i t e. ap is_allocated (k.storages i) ∙ h.declared i t e;
    temps = h.temps;
    memory = k.memory;
  }

  -- behind what leaves memory as it is
  pub same_typed : (types : Types) (known : Temporaries) (s : ProgramState) (w : World) → IsTypedBy types known s → w.memory ≡ s.world.memory → IsTypedBy types known (record s { world = w })
  same_typed types known s w h same = record {
    bases = h.bases;
    there = λ i t e. subst (λ z. i < length z) (sym same) (h.there i t e);
    declared = subst (AreDeclared types) (sym same) h.declared;
    temps = h.temps;
    memory = subst (IsTypedMemory structs pointer_size types) (sym same) h.memory;
  }

  pub temps_typed : (types : Types) (known after : Temporaries) (s : ProgramState) (temps : ℕ → Option Scalar) → IsTypedBy types known s → AreKnown structs pointer_size types after temps → IsTypedBy types after (record s { temps = temps })
  temps_typed types known after s temps h k = record { bases = h.bases; there = h.there; declared = h.declared; temps = k; memory = h.memory }

  pub place_typed : (types : Types) (known : Temporaries) (s : ProgramState) (block at : ℕ) → IsTypedBy types known s → IsTypedBy types known (record s { block = block; at = at })
  place_typed types known s block at h = record { bases = h.bases; there = h.there; declared = h.declared; temps = h.temps; memory = h.memory }

  pub cleared_typed : (types : Types) (known : Temporaries) (s : ProgramState) (base : ℕ) → IsTypedBy types known s → IsTypedBy types known (record s { bases = clear_at s.bases base })
  cleared_typed types known s base h = record { bases = λ b i e. still b i e; there = h.there; declared = h.declared; temps = h.temps; memory = h.memory }
    where
      still : (b i : ℕ) → clear_at s.bases base b ≡ Some i → types i ≡ Some (objects b)
      still b i e = elim (cases_eq b base) [
        | inl same ↦ (let none = set_here s.bases base None b same in cc)
        | inr other ↦ h.bases b i (sym (set_else s.bases base None b other) ∙ e)
      ]

  -- ---- temporaries under more types

  pub more_known : (types more : Types) (known : Temporaries) (temps : ℕ → Option Scalar) → HaveMore types more → AreKnown structs pointer_size types known temps → AreKnown structs pointer_size more known temps
  more_known types more known temps all h t k v is there = more_has structs pointer_size types more all k v (h t k v is there)

-- ---- what is known of temporaries

module _ (laws : TypeLaws) (m : Model) (structs : List StructView) (laid : AreLaidOut m structs) (types : Types) where
  abbrev Know : Temporaries → (ℕ → Option Scalar) → Type 0
  Know known temps = AreKnown structs m.pointer types known temps

  pub kept_known : (before after : Temporaries) (temps : ℕ → Option Scalar) → Know before temps → IsKept before after → Know after temps
  kept_known before after temps h kept t k v is there = let old = kept t k is in less_has laws m structs laid types old.0 k old.2 v (h t old.0 v old.1 there)

  set_known : (before : Temporaries) (temps : ℕ → Option Scalar) (to : ℕ) (known : Option Known) (v : Scalar) → Know before temps → HasIf structs m.pointer types known v → Know (set_at before to known) (put_at temps to v)
  set_known before temps to known v h has t k w is there = elim (cases_eq t to) [
    | inl same ↦
        (let value : v ≡ w = same_Some v w (sym (set_here temps to (Some v) t same) ∙ there) in
        let knows : known ≡ Some k = sym (set_here before to known t same) ∙ is in
        subst (Has structs m.pointer types k) value (subst (λ z. HasIf structs m.pointer types z v) knows has))
    | inr other ↦ h t k w (sym (set_else before to known t other) ∙ is) (sym (set_else temps to (Some v) t other) ∙ there)
  ]

  pub put_known : (before after : Temporaries) (temps : ℕ → Option Scalar) (to : ℕ) (known : Option Known) (v : Scalar) → Know before temps → HasIf structs m.pointer types known v → Gives to known before after → Know after (put_at temps to v)
  put_known before after temps to known v h has gives = kept_known (set_at before to known) after (put_at temps to v) (set_known before temps to known v h has) gives

  -- what is put is what was there
  pub same_known : (known : Temporaries) (temps : ℕ → Option Scalar) (to : ℕ) (v : Scalar) → Know known temps → temps to ≡ Some v → Know known (put_at temps to v)
  same_known known temps to v h was t k w is there = elim (cases_eq t to) [
    | inl same ↦ h t k w is (ap temps same ∙ (was ∙ (sym (set_here temps to (Some v) t same) ∙ there)))
    | inr other ↦ h t k w is (sym (set_else temps to (Some v) t other) ∙ there)
  ]
