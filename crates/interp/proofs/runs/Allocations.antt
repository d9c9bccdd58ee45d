-- Allocations that make memory too large.
use Rattle.std.proofs.Common.{◌≡◌, ℕ, zero, suc, ◌+◌, ◌-◌, ℤ, pos, Bool, true, false, cond, ◌&&◌, not, nat_le, List, [], ◌∷◌, ◌++◌, length, take, Option, Some, None, slice_get, refl, sym, ap, subst, ◌∙◌, arith}
use Rattle.std.specs.Ordering.{int_eq}
use Rattle.std.specs.Prelude.{int_le}
use Rattle.std.proofs.lemmas.Bool.Decides.{Decides-int_eq}
use Rattle.std.proofs.lemmas.List.{length-replicate, length-append, length-take}
use Rattle.c_layout.specs.declared.data_model.Model.{Model}
use Rattle.memory_model.specs.Memory.Bytes.{MachinePointer, null, into, Content, indeterminate, Byte}
use Rattle.memory_model.specs.Memory.Instances.{Storage, allocated, Life, live, ended, freed, Instance, Memory, total_size, life_at}
use Rattle.memory_model.specs.Memory.Scalars.{Scalar}
use Rattle.memory_model.specs.Effects.AllocationCalls.{untyped, resized, old_bytes, moved_to, allocated_with, if_given, allocate, is_start, freeable, freeable_by, given_back}
use Rattle.memory_model.specs.Effects.LibraryChecks.{most_size}
use Rattle.memory_model.specs.Effects.ObjectEffects.{fresh, with_life, set_life}
use Rattle.memory_model.specs.Effects.Worlds.{World, Reply, behind, done, drawn_in, drawn_from, world_of}
use Rattle.interp_starts.specs.Inputs.Sums.{most_bytes, IsPassed, PassesAt, PassesWith}
use Rattle.interp_starts.proofs.inputs.Passing.{passes_at}
use Rattle.interp_steps.specs.MachineItems.Asked.{given_size, is_live, may_be_freed}

-- no bytes make no memory too large
pub nothing_passes : (most sum count : ℕ) → PassesWith most sum 0 count → ⊥
nothing_passes most sum count p =
    let within = p.within in
    let passes = p.passes in
    omega arith

-- an instance more
pub fresh_passes : (before now : Memory) (kind : Storage) (bytes : List Byte) (size count : ℕ) → now ≡ before ++ fresh kind bytes ∷ [] → length bytes ≡ size → PassesWith most_bytes (total_size before) size count → IsPassed count now
fresh_passes before now kind bytes size count e long p = subst (λ z. PassesAt most_bytes count z) (sym e) (passes_at most_bytes count size before (fresh kind bytes) p long)

-- ---- the answer of the outside

answered : (m : Model) (size count sum : ℕ) (made : World → Reply Scalar) (w : World) (n : ℤ) (yes small : Bool) → int_eq n (pos 1) ≡ yes → nat_le size (most_size m) ≡ small → PassesWith most_bytes sum (cond (yes && small) size 0) count → (PassesWith most_bytes sum size count → IsPassed count (world_of (made w)).memory) → IsPassed count (world_of (behind (drawn_in (int_le (pos 0) n && int_le n (pos 1)) n w) (λ answer w. if_given (int_eq answer (pos 1) && nat_le size (most_size m)) made w))).memory
answered m size count sum made w n false small e k p q = absurd (nothing_passes most_bytes sum count p)
answered m size count sum made w n true false e k p q = absurd (nothing_passes most_bytes sum count p)
answered m size count sum made w n true true e k p q =
    let one : n ≡ pos 1 = (Decides-int_eq n (pos 1)).0 e in
    let given : IsPassed count (world_of (if_given (nat_le size (most_size m)) made w)).memory = subst (λ b. IsPassed count (world_of (if_given b made w)).memory) (sym k) (q p) in
    subst (λ x. IsPassed count (world_of (behind (drawn_in (int_le (pos 0) x && int_le x (pos 1)) x w) (λ answer w. if_given (int_eq answer (pos 1) && nat_le size (most_size m)) made w))).memory) (sym one) given

asked : (m : Model) (size count sum : ℕ) (made : World → Reply Scalar) (w : World) (ds : List ℤ) → PassesWith most_bytes sum (given_size m size (record w { draws = ds })) count → (PassesWith most_bytes sum size count → (v : World) → v.memory ≡ w.memory → IsPassed count (world_of (made v)).memory) → IsPassed count (world_of (behind (drawn_from w (pos 0) (pos 1) ds) (λ answer w. if_given (int_eq answer (pos 1) && nat_le size (most_size m)) made w))).memory
asked m size count sum made w [] p q = absurd (nothing_passes most_bytes sum count p)
asked m size count sum made w (n ∷ ns) p q = answered m size count sum made (record w { draws = ns }) n (int_eq n (pos 1)) (nat_le size (most_size m)) refl refl p (λ h. q h (record w { draws = ns }) refl)

-- an allocation makes memory too large where it is given
pub allocation_passes : (m : Model) (size count sum : ℕ) (made : World → Reply Scalar) (w : World) → PassesWith most_bytes sum (given_size m size w) count → (PassesWith most_bytes sum size count → (v : World) → v.memory ≡ w.memory → IsPassed count (world_of (made v)).memory) → IsPassed count (world_of (allocate m size made w)).memory
allocation_passes m size count sum made w p q = asked m size count sum made w w.draws p q

-- ---- fresh bytes

pub untyped_passes : (m : Model) (c : Content) (size count : ℕ) (w : World) → PassesWith most_bytes (total_size w.memory) (given_size m size w) count → IsPassed count (world_of (allocate m size (λ w. allocated_with (untyped c size) w) w)).memory
untyped_passes m c size count w p =
    allocation_passes m size count (total_size w.memory) (λ w. allocated_with (untyped c size) w) w p
    (λ h v e. fresh_passes w.memory (v.memory ++ fresh allocated (untyped c size) ∷ []) allocated (untyped c size) size count (ap (λ z. z ++ fresh allocated (untyped c size) ∷ []) e) (length-replicate size (record { content = c; tag = None })) h)

-- ---- another size

life_put : (o : Option Instance) (x : Instance) (xs : Memory) (i : ℕ) (now : Life) → total_size (with_life o now (x ∷ xs) (suc i)) ≡ length x.bytes + total_size (with_life o now xs i)
life_put None x xs i now = refl
life_put (Some it) x xs i now = refl

life_kept : (memory : Memory) (i : ℕ) (now : Life) → total_size (set_life memory i now) ≡ total_size memory
life_kept [] i now = refl
life_kept (x ∷ xs) zero now = refl
life_kept (x ∷ xs) (suc i) now = life_put (slice_get xs i) x xs i now ∙ ap (λ n. length x.bytes + n) (life_kept xs i now)

given_back_kept : (p : MachinePointer) (w : World) → total_size (given_back p w).memory ≡ total_size w.memory
given_back_kept null w = refl
given_back_kept (into i offset lo hi) w = life_kept w.memory i freed

resized_long : (bytes : List Byte) (size : ℕ) → length (resized bytes size) ≡ size
resized_long bytes size =
    let all : length (resized bytes size) ≡ length (take size bytes) + length (untyped indeterminate (size - length bytes)) = length-append (take size bytes) (untyped indeterminate (size - length bytes)) in
    let more : length (untyped indeterminate (size - length bytes)) ≡ size - length bytes = length-replicate (size - length bytes) (record { content = indeterminate; tag = None }) in
    omega (arith, length-take size bytes)

moved_passes : (p : MachinePointer) (size count : ℕ) (v : World) → PassesWith most_bytes (total_size v.memory) size count → IsPassed count (world_of (moved_to size p v)).memory
moved_passes p size count v h =
    fresh_passes (given_back p v).memory (world_of (moved_to size p v)).memory allocated (resized (old_bytes v.memory p) size) size count refl (resized_long (old_bytes v.memory p) size)
    (subst (λ n. PassesWith most_bytes n size count) (sym (given_back_kept p v)) h)

resized_passes : (m : Model) (p : MachinePointer) (size count : ℕ) (w : World) → PassesWith most_bytes (total_size w.memory) (given_size m size w) count → IsPassed count (world_of (allocate m size (moved_to size p) w)).memory
resized_passes m p size count w h = allocation_passes m size count (total_size w.memory) (moved_to size p) w h (λ k v e. moved_passes p size count v (subst (λ z. PassesWith most_bytes (total_size z) size count) (sym e) k))

-- ---- what may be given back

started : (m : Model) (p : MachinePointer) (size count sum : ℕ) (w : World) (is_there : Bool) (next : World → Reply Scalar) (stop : Reply (Unit {0})) → PassesWith most_bytes sum (cond is_there (given_size m size w) 0) count → (PassesWith most_bytes sum (given_size m size w) count → IsPassed count (world_of (next w)).memory) → IsPassed count (world_of (behind (cond (not is_there) stop (done w)) (λ _ w. next w))).memory
started m p size count sum w true next stop h q = q h
started m p size count sum w false next stop h q = absurd (nothing_passes most_bytes sum count h)

lived : (m : Model) (p : MachinePointer) (size count sum i offset : ℕ) (w : World) (l : Life) (next : World → Reply Scalar) → PassesWith most_bytes sum (cond (is_live l && is_start w.memory i offset) (given_size m size w) 0) count → (PassesWith most_bytes sum (given_size m size w) count → IsPassed count (world_of (next w)).memory) → IsPassed count (world_of (behind (freeable_by w l i offset (done w)) (λ _ w. next w))).memory
lived m p size count sum i offset w live next h q = started m p size count sum w (is_start w.memory i offset) next _ h q
lived m p size count sum i offset w ended next h q = absurd (nothing_passes most_bytes sum count h)
lived m p size count sum i offset w freed next h q = absurd (nothing_passes most_bytes sum count h)

pub freed_passes : (m : Model) (p : MachinePointer) (size count : ℕ) (w : World) → PassesWith most_bytes (total_size w.memory) (cond (may_be_freed w.memory p) (given_size m size w) 0) count → IsPassed count (world_of (behind (freeable p w) (λ _ w. allocate m size (moved_to size p) w))).memory
freed_passes m null size count w h = resized_passes m null size count w h
freed_passes m (into i offset lo hi) size count w h = lived m (into i offset lo hi) size count (total_size w.memory) i offset w (life_at w.memory i) (allocate m size (moved_to size (into i offset lo hi))) h (resized_passes m (into i offset lo hi) size count w)
