-- Steps on objects that are named where they live, and have their sizes.
use Rattle.std.proofs.Common.{◌≡◌, ◌≤◌, ℕ, zero, suc, ◌==◌, Bool, true, false, not, ◌&&◌, ◌||◌, List, [], ◌∷◌, length, Option, Some, None, is_some, refl, ap, sym, subst, ◌∙◌, arith}
use Rattle.std.proofs.lemmas.Bool.{eq-eqb, eqb-true}
use Rattle.std.specs.List.{slice_get}
use Rattle.c_layout.specs.Types.{Ty}
use Rattle.c_layout.specs.CheckedUnits.{FunctionView, UnitView}
use Rattle.c_layout.specs.declared.data_model.Model.{Model}
use Rattle.c_layout.specs.declared.leaf_lists.Leaf.{Leaf}
use Rattle.c_layout.specs.declared.checked_tree.checked_terms.ObjectRef.{ObjectRef}
use Rattle.c_layout.specs.declared.checked_tree.checked_terms.ObjectRef.TheVariants.{Static, Local}
use Rattle.cc_base.specs.declared.diagnostics.Place.{Place}
use Rattle.lower_functions.specs.Functions.Functions.{local_type}
use Rattle.memory_model.specs.Memory.Bytes.{into}
use Rattle.memory_model.specs.Memory.Instances.{automatic, Memory, bytes_at}
use Rattle.memory_model.specs.Memory.Scalars.{pointer}
use Rattle.memory_model.specs.Effects.LibraryChecks.{most_size}
use Rattle.memory_model.specs.Effects.NumberedTables.{put_at, clear_at}
use Rattle.memory_model.specs.Effects.ObjectEffects.{blank_bytes, fresh, next_instance, entered, left}
use Rattle.memory_model.specs.Effects.Worlds.{World}
use Rattle.semantics.specs.SourceMachine.Items as item
use Rattle.semantics.specs.SourceMachine.Items.{Item, Change, Forget, Clear, Spell}
use Rattle.semantics.specs.SourceMachine.Operations.{size_of, leaves}
use Rattle.semantics.specs.SourceMachine.Scopes.{is_in}
use Rattle.semantics.specs.SourceMachine.SourceStates.{State, first_do, function_at, result_object, static_type, local_of, type_of, instance_of}
use Rattle.semantics.specs.SourceMachine.ObjectSteps.{literal_pointer, point_to, point_to_literal, point_to_outcome, enter_if, changed, change}
use Rattle.semantics.specs.SourceMachine.SourceSteps.{enter_all, leave_all}
use Rattle.semantics.specs.SourceMachine.CallSteps.{leave_outcome}
use Rattle.source_items.specs.StackKinds.KindedItems.{called_by}
use Rattle.source_items.specs.StackKinds.KindedTerms.{IsThere, HasObject}
use Rattle.source_items.specs.Liveness.Lives.{Lives, with_those, without_those}
use Rattle.source_items.specs.Liveness.ScopedTerms as scoped
use Rattle.source_preservation.specs.ValueTyping.Marks.{Pointing, Naming, AreFree}
use Rattle.source_preservation.specs.ValueTyping.MarkLaws.{Comes}
use Rattle.source_preservation.specs.ValueTyping.ProperMemory.{Grows, Evolves}
use Rattle.source_preservation.specs.WellTyped.WellTypedStatements.{WellTypedUnit}
use Rattle.source_preservation.specs.WellTyped.WellTypedItems.{PointsInto, any, whole, Writes, Does}
use Rattle.source_preservation.specs.WellTyped.WellTypedStates.{HaveRoom, Runs}
use Rattle.source_preservation.specs.SmallSteps.KeptMarks.{RunsOn}
use Rattle.source_preservation.proofs.memory.Evolving.{bytes_of_fresh}
use Rattle.source_preservation.proofs.memory.Objects.{entered_evolves, left_evolves, forgotten_evolves, cleared_evolves, spelled_evolves}
use Rattle.source_items.proofs.stack_kinds.ItemWalks.{does_from}
use Rattle.source_preservation.proofs.items.Leading.{marks}
use Rattle.source_preservation.proofs.small_steps.Replies.{comes_at}
use Rattle.source_preservation.proofs.small_steps.Keeping.{apart, none_some, same_some, room_kept}
use Rattle.source_preservation.proofs.small_steps.Changes.{RunsBy, RunsAt, pushing, evolved, renamed, passed}

-- ---- what items enter and leave

or_true : (a b : Bool) → a ≡ true → (a || b) ≡ true
or_true true b e = refl
or_true false b e = absurd (apart e)

not_and : (a b : Bool) → a ≡ true → (not a && b) ≡ false
not_and true b e = refl
not_and false b e = absurd (apart e)

is_first : (n : ℕ) (ns : List ℕ) → is_in n (n ∷ ns) ≡ true
is_first n ns = or_true (n == n) (is_in n ns) (eq-eqb n n refl)

first_left : (n : ℕ) (ns : List ℕ) (alive : Lives) → with_those (n ∷ ns) alive n ≡ true
first_left n ns alive = or_true (is_in n (n ∷ ns)) (alive n) (is_first n ns)

first_entered : (n : ℕ) (ns : List ℕ) (alive : Lives) → without_those (n ∷ ns) alive n ≡ false
first_entered n ns alive = not_and (is_in n (n ∷ ns)) (alive n) (is_first n ns)

there : {A : Type 0} (o : Option A) → is_some o ≡ true → IsThere o
there None is = absurd (apart is)
there (Some x) is = (x, refl)

nothing : {A : Type 0} (o : Option A) → is_some o ≡ false → o ≡ None
nothing None is = refl
nothing (Some x) is = absurd (apart (sym is))

-- ---- room for what is named

module _ (u : UnitView) (f : FunctionView) (names : ℕ → Option ℕ) (n : ℕ) (before after : Memory) (grows : Grows before after) (room : HaveRoom u before f names) where
  put_room : (x : ℕ) → size_of u (local_type f n) ≤ length (bytes_at after x) → HaveRoom u after f (put_at names n x)
  put_room x new m i named = by (m == n) refl named
    where
      by : (b : Bool) → (m == n) ≡ b → elim b [ true ↦ Some x | false ↦ names m ] ≡ Some i → size_of u (local_type f m) ≤ length (bytes_at after i)
      by true is e = subst (λ j. size_of u (local_type f m) ≤ length (bytes_at after j)) (same_some x i e) (subst (λ k. size_of u (local_type f k) ≤ length (bytes_at after x)) (sym (eqb-true m n is)) new)
      by false is e = room_kept u before after grows f names room m i e

  clear_room : HaveRoom u after f (clear_at names n)
  clear_room m i named = by (m == n) named
    where
      by : (b : Bool) → elim b [ true ↦ None | false ↦ names m ] ≡ Some i → size_of u (local_type f m) ≤ length (bytes_at after i)
      by true e = absurd (none_some i e)
      by false e = room_kept u before after grows f names room m i e

-- so many bytes are made
blank_size : (m : Model) (leaves : List Leaf) (at n : ℕ) → length (blank_bytes m leaves at n) ≡ n
blank_size m leaves at zero = refl
blank_size m leaves at (suc n) = ap suc (blank_size m leaves (suc at) n)

entered_size : (m : Model) (leaves : List Leaf) (size : ℕ) (w : World) → length (bytes_at (entered m leaves size w).memory (next_instance w)) ≡ size
entered_size m leaves size w = ap length (bytes_of_fresh w.memory (fresh automatic (blank_bytes m leaves 0 size))) ∙ blank_size m leaves 0 size

-- ---- an object that is there

record Lies (u : UnitView) (s : State) (o : ObjectRef) : Type 0 where
  pub ctype : Ty
  pub instance : ℕ
  pub typed : type_of u s o ≡ Some ctype
  pub named : instance_of s.names o ≡ Some instance
  pub small : size_of u ctype ≤ most_size u.model
  pub room : size_of u ctype ≤ length (bytes_at s.world.memory instance)

module _ (u : UnitView) (well_typed : WellTypedUnit u) (i : Item) (s : State) (r : RunsAt u i s) where
  -- names are of what lives
  module _ (alive : Lives) (named : (n : ℕ) → is_some (s.names n) ≡ alive n) where
    lies : (o : ObjectRef) → HasObject u o → scoped.IsThere alive o → Lies u s o
    lies (Static n) has lives = record {
      ctype = has.0.ctype;
      instance = n;
      typed = ap static_type has.1;
      named = refl;
      small = (well_typed.statics n has.0 has.1).small;
      room = r.statics n has.0 has.1;
    }
    lies (Local n) has lives =
        let named : IsThere (s.names n) = there (s.names n) (named n ∙ lives) in
        record {
          ctype = local_type r.goes.function n;
          instance = named.0;
          typed = ap (λ o. local_of o n) r.goes.is;
          named = named.1;
          small = (well_typed.functions s.function r.goes.function r.goes.is).small n;
          room = r.goes.room n named.0 named.1;
        }

    pointing_to : (o : ObjectRef) (offset : ℕ) (l : Lies u s o) → PointsInto u o offset r.marks r.goes.does.0 → Runs u (record s { values = pointer (into l.instance offset 0 (size_of u l.ctype)) ∷ s.values })
    pointing_to o offset l (any below same) = pushing u i s r Pointing _ (record { below = below; end = l.small }) same
    pointing_to o offset l (whole start same) = pushing u i s r (Naming o) _ (record {
      instance = l.instance;
      size = size_of u l.ctype;
      named = l.named;
      is = ap (λ k. into l.instance k 0 (size_of u l.ctype)) start;
      small = l.small;
      there = l.room;
    }) same

    pub pointing : (o : ObjectRef) (offset : ℕ) → HasObject u o → scoped.IsThere alive o → PointsInto u o offset r.marks r.goes.does.0 → Comes (RunsOn u) (point_to u s o offset)
    pointing o offset has lives points =
        let l : Lies u s o = lies o has lives in
        comes_at (RunsOn u) s (type_of u s o) l.ctype _ l.typed (comes_at (RunsOn u) s (instance_of s.names o) l.instance _ l.named (pointing_to o offset l points))

    pub pointing_to_outcome : alive (result_object r.goes.function) ≡ true → r.goes.does.0 ≡ Pointing ∷ r.marks → Comes (RunsOn u) (point_to_outcome u s)
    pointing_to_outcome lives same = comes_at (RunsOn u) s (function_at u s.function) r.goes.function _ r.goes.is (pointing (Local (result_object r.goes.function)) 0 tt lives (any (omega arith) same))

  pub pointing_to_literal : (n : ℕ) → IsThere (slice_get u.literals n) → r.goes.does.0 ≡ Pointing ∷ r.marks → Comes (RunsOn u) (point_to_literal u s n)
  pointing_to_literal n has same = comes_at (RunsOn u) s (slice_get u.literals n) has.0 _ has.1 (pushing u i s r Pointing (literal_pointer u n has.0) (record { below = omega arith; end = (well_typed.literals n has.0 has.1).small }) same)

module _ (u : UnitView) (s : State) where
  -- ---- declarations

  change_evolves : (how : Change) (i : ℕ) → Writes how → Evolves u.model s.world.memory (changed how i s.world).memory
  change_evolves Forget i writes = forgotten_evolves u.model i s.world
  change_evolves Clear i writes = cleared_evolves u.model i s.world
  change_evolves (Spell offset room text) i writes = spelled_evolves u.model i offset room text s.world writes

  pub changing : (at : Place) (n : ℕ) (how : Change) → RunsAt u (item.OnObject at n how) s → is_some (s.names n) ≡ true → Comes (RunsOn u) (change s n how)
  changing at n how r lives =
      let named : IsThere (s.names n) = there (s.names n) lives in
      comes_at (RunsOn u) s (s.names n) named.0 _ named.1 (evolved u (item.OnObject at n how) s r (changed how named.0 s.world) (change_evolves how named.0 r.goes.does.1.0) r.goes.does.1.1 r.goes.does.1.2)

  -- ---- lifetimes

  entering_new : (n : ℕ) (ns : List ℕ) (o : Option ℕ) → RunsAt u (item.Enters (n ∷ ns)) s → o ≡ None → Comes (RunsOn u) (enter_if u (first_do (item.Enters ns ∷ []) s) n o)
  entering_new n ns (Some i) r new = absurd (none_some i (sym new))
  entering_new n ns None r new =
      let f : FunctionView = r.goes.function in
      let w : World = entered u.model (leaves u (local_type f n)) (size_of u (local_type f n)) s.world in
      let evolves : Evolves u.model s.world.memory w.memory = entered_evolves u.model (leaves u (local_type f n)) (size_of u (local_type f n)) s.world in
      let made : length (bytes_at w.memory (next_instance s.world)) ≡ size_of u (local_type f n) = entered_size u.model (leaves u (local_type f n)) (size_of u (local_type f n)) s.world in
      let room : HaveRoom u w.memory f (put_at s.names n (next_instance s.world)) = put_room u f s.names n s.world.memory w.memory evolves.grows r.goes.room (next_instance s.world) (omega (arith, made)) in
      comes_at (RunsOn u) (first_do (item.Enters ns ∷ []) s) (function_at u s.function) f _ r.goes.is (renamed u (item.Enters (n ∷ ns) ∷ s.control) s r (put_at s.names n (next_instance s.world)) (item.Enters ns ∷ s.control) w evolves room r.goes.does.1.0 r.goes.does)

  pub entering : (alive : Lives) (ns : List ℕ) → RunsAt u (item.Enters ns) s → ((n : ℕ) → is_some (s.names n) ≡ without_those ns alive n) → Comes (RunsOn u) (enter_all u s ns).reply
  entering alive [] r named = passed u (item.Enters []) s r (sym r.goes.does.1.1)
  entering alive (n ∷ ns) r named = entering_new n ns (s.names n) r (nothing (s.names n) (named n ∙ first_entered n ns alive))

  without : (items others : List Item) (r : RunsBy u items s) (n i : ℕ) → AreFree r.marks → Does u r.goes.function (called_by s.frames) others r.marks r.left → Runs u (record s { names = clear_at s.names n; control = others; world = left i s.world })
  without items others r n i free does =
      let evolves : Evolves u.model s.world.memory (left i s.world).memory = left_evolves u.model i s.world in
      renamed u items s r (clear_at s.names n) others (left i s.world) evolves (clear_room u r.goes.function s.names n s.world.memory (left i s.world).memory evolves.grows r.goes.room) free does

  pub leaving : (alive : Lives) (ns : List ℕ) → RunsAt u (item.Leaves ns) s → ((n : ℕ) → is_some (s.names n) ≡ with_those ns alive n) → Comes (RunsOn u) (leave_all u s ns).reply
  leaving alive [] r named = passed u (item.Leaves []) s r (sym r.goes.does.1.1)
  leaving alive (n ∷ ns) r named =
      let there : IsThere (s.names n) = there (s.names n) (named n ∙ first_left n ns alive) in
      comes_at (RunsOn u) (first_do (item.Leaves ns ∷ []) s) (s.names n) there.0 _ there.1 (without (item.Leaves (n ∷ ns) ∷ s.control) (item.Leaves ns ∷ s.control) r n there.0 r.goes.does.1.0 r.goes.does)

  pub leaving_outcome : (at : Place) (r : RunsAt u (item.LeaveOutcome at) s) (alive : Lives) → ((n : ℕ) → is_some (s.names n) ≡ with_those (result_object r.goes.function ∷ []) alive n) → Comes (RunsOn u) (leave_outcome u s)
  leaving_outcome at r alive named =
      let n : ℕ = result_object r.goes.function in
      let there : IsThere (s.names n) = there (s.names n) (named n ∙ first_left n [] alive) in
      let does : Does u r.goes.function (called_by s.frames) s.control r.marks r.left = does_from (marks u r.goes.function (called_by s.frames)) s.control r.marks r.goes.does.0 r.left (sym r.goes.does.1.1) r.goes.does.2 in
      comes_at (RunsOn u) s (function_at u s.function) r.goes.function _ r.goes.is (comes_at (RunsOn u) s (s.names n) there.0 _ there.1 (without (item.LeaveOutcome at ∷ s.control) s.control r n there.0 r.goes.does.1.0 does))
