-- What is known of values, of names and of functions that wait stays so as memory grows.
use Rattle.std.proofs.Common.{◌≡◌, ◌≤◌, ℕ, zero, suc, Bool, true, false, List, [], ◌∷◌, ◌++◌, length, Option, Some, None, refl, ap, subst, arith}
use Rattle.std.specs.List.{slice_get}
use Rattle.c_layout.specs.CheckedUnits.{FunctionView, UnitView}
use Rattle.c_layout.specs.declared.checked_tree.checked_terms.ObjectRef.{ObjectRef}
use Rattle.c_layout.specs.declared.data_model.Model.{Model}
use Rattle.memory_model.specs.Memory.Bytes.{MachinePointer}
use Rattle.memory_model.specs.Memory.Instances.{Memory, bytes_at}
use Rattle.memory_model.specs.Memory.Scalars.{Scalar, integer, pointer}
use Rattle.semantics.specs.SourceMachine.Items.{Item}
use Rattle.semantics.specs.SourceMachine.SourceStates.{Frame}
use Rattle.source_preservation.specs.ValueTyping.Marks.{Mark, Ranged, Exactly, Pointing, Naming, Null, Loaded, Converted, Tested, is_stable, is_free, AreStable, AreFree, IsWhole, Has, AreWellTyped}
use Rattle.source_preservation.specs.ValueTyping.ProperMemory.{Grows}
use Rattle.source_preservation.specs.WellTyped.WellTypedStates.{HaveRoom, StaticsHaveRoom, Goes, Wait, none, caller}

pub apart : false ≡ true → ⊥
apart e = cc

-- ---- one value

module _ (m : Model) where
  whole_kept : (names : ℕ → Option ℕ) (before after : Memory) (o : ObjectRef) (p : MachinePointer) → Grows before after → IsWhole m names before o p → IsWhole m names after o p
  whole_kept names before after o p grows whole = record {
    instance = whole.instance;
    size = whole.size;
    named = whole.named;
    is = whole.is;
    small = whole.small;
    there = let more : length (bytes_at before whole.instance) ≤ length (bytes_at after whole.instance) = grows whole.instance in omega (arith, whole.there);
  }

  pub stable_kept : (names : ℕ → Option ℕ) (before after : Memory) (k : Mark) (v : Scalar) → Grows before after → is_stable k ≡ true → Has m names before k v → Has m names after k v
  stable_kept names before after (Ranged kind) (integer n labels) grows stable has = has
  stable_kept names before after (Ranged kind) (pointer p) grows stable has = has
  stable_kept names before after (Exactly n) (integer k labels) grows stable has = has
  stable_kept names before after (Exactly n) (pointer p) grows stable has = has
  stable_kept names before after Pointing (integer n labels) grows stable has = has
  stable_kept names before after Pointing (pointer p) grows stable has = has
  stable_kept names before after (Naming o) (integer n labels) grows stable has = has
  stable_kept names before after (Naming o) (pointer p) grows stable has = whole_kept names before after o p grows has
  stable_kept names before after Null (integer n labels) grows stable has = has
  stable_kept names before after Null (pointer p) grows stable has = has
  stable_kept names before after (Loaded o) v grows stable has = absurd (apart stable)
  stable_kept names before after (Converted o kind) v grows stable has = absurd (apart stable)
  stable_kept names before after (Tested test) v grows stable has = absurd (apart stable)

  -- whatever objects are named, and whatever memory is
  pub free_kept : (names others : ℕ → Option ℕ) (before after : Memory) (k : Mark) (v : Scalar) → is_free k ≡ true → Has m names before k v → Has m others after k v
  free_kept names others before after (Ranged kind) (integer n labels) free has = has
  free_kept names others before after (Ranged kind) (pointer p) free has = has
  free_kept names others before after (Exactly n) (integer k labels) free has = has
  free_kept names others before after (Exactly n) (pointer p) free has = has
  free_kept names others before after Pointing (integer n labels) free has = has
  free_kept names others before after Pointing (pointer p) free has = has
  free_kept names others before after (Naming o) v free has = absurd (apart free)
  free_kept names others before after Null (integer n labels) free has = has
  free_kept names others before after Null (pointer p) free has = has
  free_kept names others before after (Loaded o) v free has = absurd (apart free)
  free_kept names others before after (Converted o kind) v free has = absurd (apart free)
  free_kept names others before after (Tested test) v free has = absurd (apart free)

  -- ---- all values

  pub stables_kept : (names : ℕ → Option ℕ) (before after : Memory) (ks : List Mark) (vs : List Scalar) → Grows before after → AreStable ks → AreWellTyped m names before ks vs → AreWellTyped m names after ks vs
  stables_kept names before after [] [] grows stable are = tt
  stables_kept names before after [] (v ∷ vs) grows stable are = are
  stables_kept names before after (k ∷ ks) [] grows stable are = are
  stables_kept names before after (k ∷ ks) (v ∷ vs) grows stable are = (stable_kept names before after k v grows stable.0 are.0, stables_kept names before after ks vs grows stable.1 are.1)

  pub frees_kept : (names others : ℕ → Option ℕ) (before after : Memory) (ks : List Mark) (vs : List Scalar) → AreFree ks → AreWellTyped m names before ks vs → AreWellTyped m others after ks vs
  frees_kept names others before after [] [] free are = tt
  frees_kept names others before after [] (v ∷ vs) free are = are
  frees_kept names others before after (k ∷ ks) [] free are = are
  frees_kept names others before after (k ∷ ks) (v ∷ vs) free are = (free_kept names others before after k v free.0 are.0, frees_kept names others before after ks vs free.1 are.1)

free_stable : (k : Mark) → is_free k ≡ true → is_stable k ≡ true
free_stable (Loaded o) free = free
free_stable (Converted o kind) free = free
free_stable (Tested test) free = free
free_stable other free = refl

pub frees_stable : (ks : List Mark) → AreFree ks → AreStable ks
frees_stable [] free = tt
frees_stable (k ∷ ks) free = (free_stable k free.0, frees_stable ks free.1)

-- ---- names, and functions that wait

module _ (u : UnitView) (before after : Memory) (grows : Grows before after) where
  pub room_kept : (f : FunctionView) (names : ℕ → Option ℕ) → HaveRoom u before f names → HaveRoom u after f names
  room_kept f names room n i named =
      let more : length (bytes_at before i) ≤ length (bytes_at after i) = grows i in
      omega (arith, room n i named)

  pub statics_kept : StaticsHaveRoom u before → StaticsHaveRoom u after
  statics_kept room n o is =
      let more : length (bytes_at before n) ≤ length (bytes_at after n) = grows n in
      omega (arith, room n o is)

  goes_kept : (g : ℕ) (called : Option Bool) (names : ℕ → Option ℕ) (items : List Item) (marks left : List Mark) → Goes u before g called names items marks left → Goes u after g called names items marks left
  goes_kept g called names items marks left goes = record { function = goes.function; is = goes.is; room = room_kept goes.function names goes.room; leaves = goes.leaves; does = goes.does }

  pub wait_kept : (given : List Mark) (frames : List Frame) (values : List Scalar) → Wait u before given frames values → Wait u after given frames values
  wait_kept given frames values none = none
  wait_kept given frames values (caller c cs marks left own rest is stable are goes wait) = caller c cs marks left own rest is stable (stables_kept u.model c.names before after marks own grows stable are) (goes_kept _ _ _ _ _ _ goes) (wait_kept left cs rest wait)

-- ---- parts of lists of values

-- the values of some marks, and those of others below
pub record Parts (m : Model) (names : ℕ → Option ℕ) (memory : Memory) (ks below : List Mark) (vs : List Scalar) : Type 0 where
  pub newest : List Scalar
  pub others : List Scalar
  pub is : vs ≡ newest ++ others
  pub are_newest : AreWellTyped m names memory ks newest
  pub are_others : AreWellTyped m names memory below others

module _ (m : Model) (names : ℕ → Option ℕ) (memory : Memory) where
  pub parts : (ks below : List Mark) (vs : List Scalar) → AreWellTyped m names memory (ks ++ below) vs → Parts m names memory ks below vs
  parts [] below vs are = record { newest = []; others = vs; is = refl; are_newest = tt; are_others = are }
  parts (k ∷ ks) below [] are = absurd are
  parts (k ∷ ks) below (v ∷ vs) are =
      let more : Parts m names memory ks below vs = parts ks below vs are.1 in
      record { newest = v ∷ more.newest; others = more.others; is = ap (λ xs. v ∷ xs) more.is; are_newest = (are.0, more.are_newest); are_others = more.are_others }

  pub both_well_typed : (ks below : List Mark) (vs others : List Scalar) → AreWellTyped m names memory ks vs → AreWellTyped m names memory below others → AreWellTyped m names memory (ks ++ below) (vs ++ others)
  both_well_typed [] below [] others are more = more
  both_well_typed [] below (v ∷ vs) others are more = absurd are
  both_well_typed (k ∷ ks) below [] others are more = absurd are
  both_well_typed (k ∷ ks) below (v ∷ vs) others are more = (are.0, both_well_typed ks below vs others are.1 more)

-- the newest value
pub record Newest (m : Model) (names : ℕ → Option ℕ) (memory : Memory) (k : Mark) (ks : List Mark) (vs : List Scalar) : Type 0 where
  pub value : Scalar
  pub others : List Scalar
  pub is : vs ≡ value ∷ others
  pub has : Has m names memory k value
  pub are : AreWellTyped m names memory ks others

-- a value that lies so deep
pub record Found (m : Model) (names : ℕ → Option ℕ) (memory : Memory) (k : Mark) (vs : List Scalar) (depth : ℕ) : Type 0 where
  pub value : Scalar
  pub is : slice_get vs depth ≡ Some value
  pub has : Has m names memory k value

pub none_some : {A : Type 0} (x : A) → None ≡ Some x → ⊥
none_some x e = cc

pub same_some : {A : Type 0} (x y : A) → Some x ≡ Some y → x ≡ y
same_some x y e = cc

module _ (m : Model) (names : ℕ → Option ℕ) (memory : Memory) where
  pub newest : (k : Mark) (ks marks : List Mark) (vs : List Scalar) → marks ≡ k ∷ ks → AreWellTyped m names memory marks vs → Newest m names memory k ks vs
  newest k ks marks vs same are = by vs (subst (λ marks. AreWellTyped m names memory marks vs) same are)
    where
      by : (vs : List Scalar) → AreWellTyped m names memory (k ∷ ks) vs → Newest m names memory k ks vs
      by [] are = absurd are
      by (v ∷ vs) are = record { value = v; others = vs; is = refl; has = are.0; are = are.1 }

  pub found_at : (k : Mark) (ks : List Mark) (vs rest : List Scalar) (depth : ℕ) → slice_get ks depth ≡ Some k → AreWellTyped m names memory ks vs → Found m names memory k (vs ++ rest) depth
  found_at k [] vs rest depth is are = absurd (none_some k is)
  found_at k (j ∷ ks) [] rest depth is are = absurd are
  found_at k (j ∷ ks) (v ∷ vs) rest zero is are = record { value = v; is = refl; has = subst (λ k. Has m names memory k v) (same_some j k is) are.0 }
  found_at k (j ∷ ks) (v ∷ vs) rest (suc depth) is are =
      let deeper : Found m names memory k (vs ++ rest) depth = found_at k ks vs rest depth is are.1 in
      record { value = deeper.value; is = deeper.is; has = deeper.has }
