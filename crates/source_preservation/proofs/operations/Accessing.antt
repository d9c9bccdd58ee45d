-- Loads, stores and copies of structs, on values of their marks.
use Rattle.std.proofs.Common.{◌≡◌, ℕ, true, Option, List, [], ◌∷◌, ◌++◌, refl, sym, subst}
use Rattle.c_layout.specs.Types.{Ty}
use Rattle.c_layout.specs.CheckedUnits.{UnitView}
use Rattle.lower_conditions.specs.declared.branch_tests.NamedObject.{NamedObject}
use Rattle.cfg.specs.declared.machine_instructions.Scalar as declared
use Rattle.cfg.specs.declared.machine_instructions.Scalar.TheVariants as of
use Rattle.memory_model.specs.Memory.Bytes.{MachinePointer}
use Rattle.memory_model.specs.Memory.Scalars.{Scalar, integer, pointer}
use Rattle.memory_model.specs.Effects.Worlds.{World, Reply, goes, stops, behind}
use Rattle.memory_model.specs.Effects.Accesses.{load, store}
use Rattle.memory_model.specs.Effects.StructCopies.{copy_struct}
use Rattle.store_sound.proofs.operations.MachineLoads.{load_goes}
use Rattle.semantics.specs.SourceMachine.Operations as op
use Rattle.semantics.specs.SourceMachine.Operations.{size_of, leaves, load_over, load_under, store_over, perform}
use Rattle.source_items.specs.Operations.GoingReplies.{NotStuck}
use Rattle.source_items.specs.Operations.Kinds.{Address, kind_of, IsOf}
use Rattle.source_items.specs.Operations.OperationLaws.{OperationsHaveSteps, OperationsKeepKinds}
use Rattle.source_preservation.specs.ValueTyping.Marks.{Mark, Pointing, Naming, Loaded, mark_of, is_stable, AreStable, Has, AreWellTyped}
use Rattle.source_preservation.specs.ValueTyping.ProperMemory.{IsProperMemory, Evolves}
use Rattle.source_preservation.specs.ValueTyping.MarkOperations.{IsScalar, Replaces, Rewrites, Loads, any, named, Stores}
use Rattle.source_preservation.specs.ValueTyping.MarkLaws.{Comes, Leaves}
use Rattle.source_preservation.specs.Memory.GoingWorlds.{IsProperScalar}
use Rattle.source_preservation.proofs.memory.Accessing.{load_keeps, load_gives, store_gives, copy_gives}
use Rattle.source_preservation.proofs.memory.Calling.{proper_of_type, pointing_proper}
use Rattle.source_preservation.proofs.ranges.ObjectValues.{integer_read, pointer_read, loads_number}
use Rattle.source_preservation.proofs.ranges.WholeObjects.{loaded_whole, stored_whole, store_given}
use Rattle.source_preservation.proofs.operations.StableMarks.{has_stable, are_stable}
use Rattle.source_preservation.proofs.operations.Keeping.{given_when, unpushed, kind_given, Makes, Changes, makes, changes, pushed_made, one_made, two_changed, replacing, rewriting}

stable_type : (kind : declared.Scalar) → is_stable (mark_of kind) ≡ true
stable_type (of.Int kind) = refl
stable_type of.Pointer = refl

module _ (steps : OperationsHaveSteps) (keeps : OperationsKeepKinds) (u : UnitView) (names : ℕ → Option ℕ) (w : World) (proper : IsProperMemory u.model w.memory) where
  -- a value of a type is of its kind
  kind_of_type : (kind : declared.Scalar) (v : Scalar) → Has u.model names w.memory (mark_of kind) v → IsOf (kind_of kind) v
  kind_of_type (of.Int kind) (integer n labels) has = tt
  kind_of_type (of.Int kind) (pointer p) has = has
  kind_of_type of.Pointer (integer n labels) has = has
  kind_of_type of.Pointer (pointer p) has = tt

  -- ---- loads

  load_steps : (kind : declared.Scalar) (p : MachinePointer) → NotStuck (load u.model kind (pointer p) w)
  load_steps kind p = unpushed [] (load u.model kind (pointer p) w) (steps u (op.Load kind) (Address ∷ []) (kind_of kind ∷ []) [] (pointer p ∷ []) w refl ([], refl, refl) (tt, tt))

  loaded_mark : (kind : declared.Scalar) (p : MachinePointer) (v : Scalar) (after : World) → IsScalar u.model kind → load u.model kind (pointer p) w ≡ goes v after → Has u.model names w.memory (mark_of kind) v
  loaded_mark (of.Int kind) p (integer n labels) after scalar e = loads_number u.model kind p w after n labels proper scalar e
  loaded_mark (of.Int kind) p (pointer q) after scalar e = let r = load_goes u.model (of.Int kind) p w after (pointer q) e in integer_read kind r.0 q r.3
  loaded_mark of.Pointer p (integer n labels) after scalar e = let r = load_goes u.model of.Pointer p w after (integer n labels) e in pointer_read r.0 n labels r.3
  loaded_mark of.Pointer p (pointer q) after scalar e = (given_when (λ v after. IsProperScalar u.model v × (after.memory ≡ w.memory)) (load u.model of.Pointer (pointer p) w) (pointer q) after (load_gives u.model of.Pointer (pointer p) w proper) e).0

  load_makes : (kind : declared.Scalar) (v : Scalar) → IsScalar u.model kind → Has u.model names w.memory Pointing v → Makes u names w (mark_of kind) (load u.model kind v w)
  load_makes kind (integer n labels) scalar has = absurd has
  load_makes kind (pointer p) scalar has = makes u names w (mark_of kind) (load u.model kind (pointer p) w) (load_steps kind p) (load_keeps u.model kind (pointer p) w) (λ v after e. loaded_mark kind p v after scalar e)

  load_named : (o : NamedObject) (v : Scalar) → IsScalar u.model o.kind → Has u.model names w.memory (Naming o.object) v → Makes u names w (Loaded o) (load u.model o.kind v w)
  load_named o (integer n labels) scalar has = absurd has
  load_named o (pointer p) scalar has = makes u names w (Loaded o) (load u.model o.kind (pointer p) w) (load_steps o.kind p) (load_keeps u.model o.kind (pointer p) w) (λ v after e. loaded_whole u.model names o p w after v scalar has e)

  over_made : (kind : declared.Scalar) (below : List Mark) (own rest : List Scalar) → IsScalar u.model kind → AreWellTyped u.model names w.memory (Pointing ∷ below) own → Comes (Leaves u names w.memory (mark_of kind ∷ (Pointing ∷ below)) rest) (load_over u kind (own ++ rest) w)
  over_made kind below [] rest scalar are = absurd are
  over_made kind below (p ∷ vs) rest scalar are = pushed_made u names w (mark_of kind) (Pointing ∷ below) (p ∷ vs) rest (load u.model kind p w) are (load_makes kind p scalar are.0)

  under_made : (kind : declared.Scalar) (k : Mark) (below : List Mark) (own rest : List Scalar) → IsScalar u.model kind → AreWellTyped u.model names w.memory (k ∷ (Pointing ∷ below)) own → Comes (Leaves u names w.memory (mark_of kind ∷ (k ∷ (Pointing ∷ below))) rest) (load_under u kind (own ++ rest) w)
  under_made kind k below [] rest scalar are = absurd are
  under_made kind k below (r ∷ []) rest scalar are = absurd are.1
  under_made kind k below (r ∷ (p ∷ vs)) rest scalar are = pushed_made u names w (mark_of kind) (k ∷ (Pointing ∷ below)) (r ∷ (p ∷ vs)) rest (load u.model kind p w) are (load_makes kind p scalar are.1.0)

  -- ---- stores

  store_steps : (kind : declared.Scalar) (p : MachinePointer) (v : Scalar) → Has u.model names w.memory (mark_of kind) v → NotStuck (store u.model kind (pointer p) v w)
  store_steps kind p v has = unpushed [] (store u.model kind (pointer p) v w) (steps u (op.Store kind) (kind_of kind ∷ (Address ∷ [])) (kind_of kind ∷ []) [] (v ∷ (pointer p ∷ [])) w refl ([], refl, refl) (kind_of_type kind v has, (tt, tt)))

  store_evolves : (kind : declared.Scalar) (p : MachinePointer) (v r : Scalar) (after : World) → Has u.model names w.memory (mark_of kind) v → store u.model kind (pointer p) v w ≡ goes r after → Evolves u.model w.memory after.memory
  store_evolves kind p v r after has e = (given_when (λ v after. IsProperScalar u.model v × Evolves u.model w.memory after.memory) (store u.model kind (pointer p) v w) r after (store_gives u.model kind (pointer p) v w (proper_of_type u.model names w.memory kind v has)) e).1

  store_changes : (kind : declared.Scalar) (at v : Scalar) → Has u.model names w.memory Pointing at → Has u.model names w.memory (mark_of kind) v → Changes u names w (mark_of kind) (store u.model kind at v w)
  store_changes kind (integer n labels) v to has = absurd to
  store_changes kind (pointer p) v to has = changes u names w (mark_of kind) (store u.model kind (pointer p) v w) (store_steps kind p v has) (λ r after e.
      let evolved : Evolves u.model w.memory after.memory = store_evolves kind p v r after has e in
      (has_stable u.model names w.memory after.memory evolved.grows (mark_of kind) r (stable_type kind) (subst (Has u.model names w.memory (mark_of kind)) (sym (store_given u.model kind p v r w after e)) has), evolved))

  store_named : (o : NamedObject) (at v : Scalar) → IsScalar u.model o.kind → Has u.model names w.memory (Naming o.object) at → Has u.model names w.memory (mark_of o.kind) v → Changes u names w (Loaded o) (store u.model o.kind at v w)
  store_named o (integer n labels) v scalar to has = absurd to
  store_named o (pointer p) v scalar to has = changes u names w (Loaded o) (store u.model o.kind (pointer p) v w) (store_steps o.kind p v has) (λ r after e.
      (subst (Has u.model names after.memory (Loaded o)) (sym (store_given u.model o.kind p v r w after e)) (stored_whole u.model names o p w after v r scalar to has e), store_evolves o.kind p v r after has e))

  -- the value below is given behind a store
  kept_below : (k : Mark) (below : List Mark) (old : Scalar) (vs rest : List Scalar) (r : Reply Scalar) → is_stable k ≡ true → AreStable below → Has u.model names w.memory k old → AreWellTyped u.model names w.memory below vs → Comes (λ v after. Evolves u.model w.memory after.memory) r → Comes (Leaves u names w.memory (k ∷ below) rest) (behind r (λ _ after. goes (old ∷ (vs ++ rest)) after))
  kept_below k below old vs rest (goes v after) stable all has are evolved = record {
    own = old ∷ vs;
    is = refl;
    well_typed = (has_stable u.model names w.memory after.memory evolved.grows k old stable has, are_stable u.model names w.memory after.memory evolved.grows below vs all are);
    evolves = evolved;
  }
  kept_below k below old vs rest (stops why after) stable all has are evolved = evolved

  store_comes : (kind : declared.Scalar) (r : Reply Scalar) → Changes u names w (mark_of kind) r → Comes (λ v after. Evolves u.model w.memory after.memory) r
  store_comes kind (goes v after) changed = changed.1
  store_comes kind (stops why after) changed = changed

  store_over_changed : (kind : declared.Scalar) (k : Mark) (below : List Mark) (own rest : List Scalar) → is_stable k ≡ true → AreStable below → AreWellTyped u.model names w.memory (mark_of kind ∷ (k ∷ (Pointing ∷ below))) own → Comes (Leaves u names w.memory (k ∷ below) rest) (store_over u kind (own ++ rest) w)
  store_over_changed kind k below [] rest stable all are = absurd are
  store_over_changed kind k below (v ∷ []) rest stable all are = absurd are.1
  store_over_changed kind k below (v ∷ (old ∷ [])) rest stable all are = absurd are.1.1
  store_over_changed kind k below (v ∷ (old ∷ (p ∷ vs))) rest stable all are = kept_below k below old vs rest (store u.model kind p v w) stable all are.1.0 are.1.1.1 (store_comes kind (store u.model kind p v w) (store_changes kind p v are.1.1.0 are.0))

  -- ---- copies

  copy_changes : (t : Ty) (to from : Scalar) → Has u.model names w.memory Pointing to → Has u.model names w.memory Pointing from → Changes u names w Pointing (copy_struct u.model (leaves u t) (size_of u t) to from w)
  copy_changes t (integer n labels) from one two = absurd one
  copy_changes t (pointer p) (integer n labels) one two = absurd two
  copy_changes t (pointer p) (pointer q) one two =
      let r : Reply Scalar = copy_struct u.model (leaves u t) (size_of u t) (pointer p) (pointer q) w in
      changes u names w Pointing r
      (unpushed [] r (steps u (op.Copy t) (Address ∷ (Address ∷ [])) (Address ∷ []) [] (pointer q ∷ (pointer p ∷ [])) w refl ([], refl, refl) (tt, (tt, tt))))
      (λ v after e.
      let given = given_when (λ v after. IsProperScalar u.model v × Evolves u.model w.memory after.memory) r v after (copy_gives u.model (leaves u t) (size_of u t) (pointer p) (pointer q) w one) e in
      let is : IsOf Address v = kind_given Address [] [] r v after (keeps u (op.Copy t) (Address ∷ (Address ∷ [])) (Address ∷ []) [] (pointer q ∷ (pointer p ∷ [])) w ([], refl, refl) (tt, (tt, tt))) e in
      (pointing_proper u.model names after.memory v is given.0, given.1))

  -- ---- operations

  module _ (before after : List Mark) (own rest : List Scalar) (are : AreWellTyped u.model names w.memory before own) where
    pub load_performed : (kind : declared.Scalar) → IsScalar u.model kind → Loads u.model kind before after → Comes (Leaves u names w.memory after rest) (perform u (op.Load kind) (own ++ rest) w)
    load_performed kind scalar (any o) = replacing u names w before after own rest _ are (Pointing ∷ []) (mark_of kind ∷ []) o (λ below are. one_made u names w Pointing (mark_of kind) below own rest (load u.model kind) (λ v has. load_makes kind v scalar has) are)
    load_performed kind scalar (named o e changes) = subst (λ kind. IsScalar u.model kind → Comes (Leaves u names w.memory after rest) (perform u (op.Load kind) (own ++ rest) w)) e (λ scalar. replacing u names w before after own rest _ are (Naming o.object ∷ []) (Loaded o ∷ []) changes (λ below are. one_made u names w (Naming o.object) (Loaded o) below own rest (load u.model o.kind) (λ v has. load_named o v scalar has) are)) scalar

    pub store_performed : (kind : declared.Scalar) → IsScalar u.model kind → Stores u.model kind before after → Comes (Leaves u names w.memory after rest) (perform u (op.Store kind) (own ++ rest) w)
    store_performed kind scalar (any o) = rewriting u names w before after own rest _ are (mark_of kind ∷ (Pointing ∷ [])) (mark_of kind ∷ []) o (λ below stable are. two_changed u names w Pointing (mark_of kind) (mark_of kind) below own rest (store u.model kind) stable (λ a b one two. store_changes kind a b one two) are)
    store_performed kind scalar (named o e changes) = subst (λ kind. IsScalar u.model kind → Rewrites (mark_of kind ∷ (Naming o.object ∷ [])) (Loaded o ∷ []) before after → Comes (Leaves u names w.memory after rest) (perform u (op.Store kind) (own ++ rest) w)) e (λ scalar changes. rewriting u names w before after own rest _ are (mark_of o.kind ∷ (Naming o.object ∷ [])) (Loaded o ∷ []) changes (λ below stable are. two_changed u names w (Naming o.object) (mark_of o.kind) (Loaded o) below own rest (store u.model o.kind) stable (λ a b one two. store_named o a b scalar one two) are)) scalar changes

    pub under_performed : (kind : declared.Scalar) (k : Mark) → IsScalar u.model kind → Replaces (k ∷ (Pointing ∷ [])) (mark_of kind ∷ (k ∷ (Pointing ∷ []))) before after → Comes (Leaves u names w.memory after rest) (perform u (op.LoadUnder kind) (own ++ rest) w)
    under_performed kind k scalar o = replacing u names w before after own rest _ are (k ∷ (Pointing ∷ [])) (mark_of kind ∷ (k ∷ (Pointing ∷ []))) o (λ below are. under_made kind k below own rest scalar are)

    pub over_performed : (kind : declared.Scalar) → IsScalar u.model kind → Replaces (Pointing ∷ []) (mark_of kind ∷ (Pointing ∷ [])) before after → Comes (Leaves u names w.memory after rest) (perform u (op.LoadOver kind) (own ++ rest) w)
    over_performed kind scalar o = replacing u names w before after own rest _ are (Pointing ∷ []) (mark_of kind ∷ (Pointing ∷ [])) o (λ below are. over_made kind below own rest scalar are)

    pub store_over_performed : (kind : declared.Scalar) (k : Mark) → is_stable k ≡ true → Rewrites (mark_of kind ∷ (k ∷ (Pointing ∷ []))) (k ∷ []) before after → Comes (Leaves u names w.memory after rest) (perform u (op.StoreOver kind) (own ++ rest) w)
    store_over_performed kind k stable o = rewriting u names w before after own rest _ are (mark_of kind ∷ (k ∷ (Pointing ∷ []))) (k ∷ []) o (λ below all are. store_over_changed kind k below own rest stable all are)

    pub copy_performed : (t : Ty) → Rewrites (Pointing ∷ (Pointing ∷ [])) (Pointing ∷ []) before after → Comes (Leaves u names w.memory after rest) (perform u (op.Copy t) (own ++ rest) w)
    copy_performed t o = rewriting u names w before after own rest _ are (Pointing ∷ (Pointing ∷ [])) (Pointing ∷ []) o (λ below stable are. two_changed u names w Pointing Pointing Pointing below own rest (copy_struct u.model (leaves u t) (size_of u t)) stable (λ a b one two. copy_changes t a b one two) are)
