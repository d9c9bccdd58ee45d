-- Where a copy of a struct goes on: what the machine has looked at, and the memory behind it.
use Rattle.std.proofs.Common.{◌≡◌, ℕ, Bool, true, false, cond, ◌||◌, Option, Some, None, List, arith, subst, sym, refl}
use Rattle.std.specs.Prelude.{not}
use Rattle.std.proofs.lemmas.Bool.{and_parts}
use Rattle.c_layout.specs.declared.data_model.Model.{Model}
use Rattle.c_layout.specs.declared.leaf_lists.Leaf.{Leaf}
use Rattle.c_layout.specs.declared.shapes.BaseInfo.{BaseInfo}
use Rattle.memory_model.specs.Memory.Bytes.{MachinePointer, into}
use Rattle.memory_model.specs.Memory.Instances.{Life, live, ended, freed, bytes_at, life_at}
use Rattle.memory_model.specs.Memory.Scalars.{Scalar, pointer}
use Rattle.memory_model.specs.Effects.ScalarBytes.{region}
use Rattle.memory_model.specs.Effects.StructCopies.{overlap, same_spot, fit_type, keeps_parts, may_copy, copy_made, copy_at, copy_between, copy_struct}
use Rattle.memory_model.specs.Effects.Touches.{Spot, touched, is_allocated, storage_at}
use Rattle.memory_model.specs.Effects.Worlds.{World, goes, stops, behind, Left}
use Rattle.store_sound.specs.Concretization.SoundMemory.{IsMemoryOf, IsPointerIn, IsNamed, IsWithin}
use Rattle.store_sound.specs.Operations.Shapes.{AreShaped}
use Rattle.store_sound.proofs.operations.LoadSound.{instance_there}
use Rattle.store_sound.proofs.operations.Reading.{behind_goes, IsTouched, touched_goes}
use Rattle.struct_copies_sound.specs.Memory.CopiedMemory.{CopyKeeps}
use Rattle.struct_copies_sound.proofs.memory.CopiedMemory.{copied_sane}

may_goes : {A : Type 0} (may : Bool) (p : A) (v w u : World) (t : A) → cond may (goes p v) (stops Left w) ≡ goes t u → (may ≡ true) × (u ≡ v) × (t ≡ p)
may_goes true p v w u t h = (refl, cc, cc)
may_goes false p v w u t h = cc

-- what the machine has looked at where a copy goes on
pub record CopyGoes (m : Model) (leaves : List Leaf) (size : ℕ) (to from : MachinePointer) (w u : World) : Type 0 where
  pub source : Spot
  pub target : Spot
  pub read : IsTouched w from size false source w
  pub written : IsTouched w to size true target w
  pub target_fits : (is_allocated (storage_at w.memory target.instance) || fit_type m leaves false 0 (region (bytes_at w.memory target.instance) target.offset size)) ≡ true
  pub source_fits : fit_type m leaves (is_allocated (storage_at w.memory source.instance)) 0 (region (bytes_at w.memory source.instance) source.offset size) ≡ true
  pub apart : (same_spot target source || not (overlap target size source size)) ≡ true
  pub parts : keeps_parts m leaves 0 (region (bytes_at w.memory source.instance) source.offset size) ≡ true
  pub made : u ≡ copy_made m leaves size w target source

module _ (m : Model) (leaves : List Leaf) (size : ℕ) (to from : MachinePointer) (w u : World) where
  spots_go : (t : MachinePointer) → copy_between m leaves size to from w ≡ goes t u → CopyGoes m leaves size to from w u
  spots_go t h =
      let a = behind_goes (touched w from size false) (λ s w. behind (touched w to size true) (copy_at m leaves size to s)) t u h in
      let r = touched_goes w from size false a.0 a.1 a.2 in
      let h2 : behind (touched w to size true) (copy_at m leaves size to a.0) ≡ goes t u = subst (λ z. behind (touched z to size true) (copy_at m leaves size to a.0) ≡ goes t u) r.same a.3 in
      let b = behind_goes (touched w to size true) (copy_at m leaves size to a.0) t u h2 in
      let d = touched_goes w to size true b.0 b.1 b.2 in
      let h3 : copy_at m leaves size to a.0 b.0 w ≡ goes t u = subst (λ z. copy_at m leaves size to a.0 b.0 z ≡ goes t u) d.same b.3 in
      let g = may_goes (may_copy m leaves size w b.0 a.0) to (copy_made m leaves size w b.0 a.0) w u t h3 in
      let p = and_parts (is_allocated (storage_at w.memory b.0.instance) || fit_type m leaves false 0 (region (bytes_at w.memory b.0.instance) b.0.offset size)) _ g.0 in
      let q = and_parts (fit_type m leaves (is_allocated (storage_at w.memory a.0.instance)) 0 (region (bytes_at w.memory a.0.instance) a.0.offset size)) _ p.1 in
      let k = and_parts (same_spot b.0 a.0 || not (overlap b.0 size a.0 size)) _ q.1 in
      record {
        source = a.0;
        target = b.0;
        read = subst (IsTouched w from size false a.0) r.same r;
        written = subst (IsTouched w to size true b.0) d.same d;
        target_fits = p.0;
        source_fits = q.0;
        apart = k.0;
        parts = k.1;
        made = g.1;
      }

  pub copy_goes : (t : Scalar) → copy_struct m leaves size (pointer to) (pointer from) w ≡ goes t u → CopyGoes m leaves size to from w u
  copy_goes t h =
      let a = behind_goes (copy_between m leaves size to from w) (λ p v. goes (pointer p) v) t u h in
      let same : a.1 ≡ u = cc in
      spots_go a.0 (subst (λ z. copy_between m leaves size to from w ≡ goes a.0 z) same a.2)

not_ended : (x : Life) → x ≡ live → x ≡ ended → ⊥
not_ended live e f = cc
not_ended ended e f = cc
not_ended freed e f = cc

there_is : (o : Option ℕ) → (o ≡ None → ⊥) → (b : ℕ) × (o ≡ Some b)
there_is None h = absurd (h refl)
there_is (Some b) h = (b, refl)

pub copies_keep : (m : Model) (bases : List BaseInfo) → AreShaped bases → CopyKeeps m bases
copies_keep m bases shaped naming w u leaves size to from t sane inside_to inside_from named h =
    let g = copy_goes m leaves size to from w u t h in
    let i : ℕ = g.target.instance in
    let j : ℕ = g.source.instance in
    let it = instance_there w.memory i g.written.alive in
    let in_to : IsWithin w.memory i g.target.offset g.written.lo g.written.hi = subst (IsPointerIn w.memory) g.written.pointer inside_to in
    let in_from : IsWithin w.memory j g.source.offset g.read.lo g.read.hi = subst (IsPointerIn w.memory) g.read.pointer inside_from in
    let a = g.written.below in
    let b = in_to.within in
    let c = g.read.below in
    let d = in_from.within in
    let known : IsNamed naming w.memory (into j g.source.offset g.read.lo g.read.hi) = subst (IsNamed naming w.memory) g.read.pointer named in
    let e = there_is (naming j) (known (not_ended (life_at w.memory j) g.read.alive)) in
    subst (λ z. IsMemoryOf m bases naming z.memory) (sym g.made)
    (copied_sane m bases shaped naming w.memory sane leaves i g.target.offset j g.source.offset size it.0 it.1 (omega (arith, a, b)) (omega (arith, c, d)) e.0 e.1 g.target_fits g.source_fits g.parts)
