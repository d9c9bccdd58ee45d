-- Objects whose bytes all get one content.
use Rattle.std.proofs.Common.{◌≡◌, ℕ, zero, suc, ◌+◌, ◌-◌, ◌<◌, ◌≤◌, ◌^◌, true, false, Some, List, [], ◌∷◌, length, subst, sym, refl, ap, ◌∙◌}
use Rattle.std.specs.Prelude.{slice_get, ℤ, pos, ◌≤ℤ◌}
use Rattle.std.proofs.lemmas.List.{length-map}
use Rattle.cc_base.specs.Lattices.{LatticeOf}
use Rattle.cc_base.specs.IntegerDomains.{IntegersOf, BoundLaws}
use Rattle.cc_base.specs.IntegerTypes.{greatest_of}
use Rattle.c_layout.specs.declared.leaf_lists.Class.TheVariants.{Pointer}
use Rattle.c_layout.specs.declared.shapes.BaseInfo.{BaseInfo}
use Rattle.c_layout.specs.declared.shapes.BaseKind.{BaseKind}
use Rattle.c_layout.specs.declared.shapes.BaseKind.TheVariants.{Static, Automatic, Literal, Newest, Older}
use Rattle.cfg.specs.WellFormed.{base_cells, base_values, kind_at, is_automatic, is_declared}
use Rattle.cfg.specs.declared.programs.Flow.{Flow}
use Rattle.value_domain.specs.declared.values.row_cells.Cell.{Cell}
use Rattle.store_cells.specs.RowPositions.{value_count}
use Rattle.store_cells.specs.ScalarTypes.{kind_of}
use Rattle.memory_model.specs.Memory.Bytes.{Content, Byte}
use Rattle.memory_model.specs.Memory.Instances.{Memory, Instance, bytes_of, bytes_at, byte_at, live, life_at}
use Rattle.memory_model.specs.Effects.ObjectEffects.{holding, all_of}
use Rattle.memory_model.specs.Effects.Touches.{set_bytes}
use Rattle.semantics.specs.CfgMachine.FlowStates.{ProgramState}
use Rattle.store_sound.specs.Concretization.ValueMeaning.{Naming}
use Rattle.store_sound.specs.Concretization.RowMeaning.{IsLiveOf}
use Rattle.store_sound.specs.Concretization.Coverage.{state_of}
use Rattle.store_sound.proofs.operations.LoadSound.{instance_there}
use Rattle.store_sound.proofs.operations.Slices.{get_map}
use Rattle.store_sound.specs.Programs.Premises.{HasPremises}
use Rattle.transfer_sound.specs.Values.SoundSteps.{AreShort, IsReached}
use Rattle.transfer_sound.proofs.objects.Rewrites.{HaveTags, IsSet, set_rewrites}
use Rattle.transfer_sound.proofs.objects.ObjectRows.{own_instance}
use Rattle.transfer_sound.proofs.objects.BlankRows as blank

-- ---- bytes of one content

pub uniform_tags : (c : Content) (bytes : List Byte) → HaveTags bytes (all_of c bytes)
uniform_tags c bytes = record {
  long = length-map bytes (holding c);
  each = λ o b e. let x = get_map (holding c) bytes o b e in record { old = x.0; there = x.1; tag = sym (ap (λ z. z.tag) x.2) };
}

pub uniform_content : (c : Content) (bytes : List Byte) (o : ℕ) (b : Byte) → slice_get (all_of c bytes) o ≡ Some b → b.content ≡ c
uniform_content c bytes o b e = let x = get_map (holding c) bytes o b e in sym (ap (λ z. z.content) x.2)

-- ---- objects that may be changed

pub automatic_declared : (kind : BaseKind) → is_automatic (Some kind) ≡ true → (kind ≡ Older → ⊥)
automatic_declared Automatic h e = cc
automatic_declared Static h e = cc
automatic_declared Literal h e = cc
automatic_declared Newest h e = cc
automatic_declared Older h e = cc

pub automatic_storage : (kind : BaseKind) → is_automatic (Some kind) ≡ true → is_declared (Some kind) ≡ true
automatic_storage Automatic h = refl
automatic_storage Static h = cc
automatic_storage Literal h = cc
automatic_storage Newest h = cc
automatic_storage Older h = cc

pub some_kind : (bases : List BaseInfo) (b : ℕ) → is_automatic (kind_at bases b) ≡ true → (info : BaseInfo) × (slice_get bases b ≡ Some info) × (is_automatic (Some info.kind) ≡ true)
some_kind [] b h = cc
some_kind (x ∷ xs) zero h = (x, refl, h)
some_kind (x ∷ xs) (suc b) h = some_kind xs b h

module _ {I : Type 0} {l : LatticeOf I} {n : IntegersOf I} {gamma : I → ℤ → Type 0} (q : BoundLaws l n gamma) (flow : Flow) (p : HasPremises flow) (naming : Naming) (row : List (Cell I)) (s : ProgramState) (r : IsReached l n gamma flow naming row s)
    (b i : ℕ) (info : BaseInfo) (at : slice_get flow.bases.items b ≡ Some info) (entered : s.bases b ≡ Some i) (declared : info.shape.heap ≡ false) (kind : info.kind ≡ Older → ⊥) (content : Content) where
  pub named : naming i ≡ Some b
  named = r.stands_for.lives.named b i entered

  pub alive : life_at s.world.memory i ≡ live
  alive = r.stands_for.lives.alive b i entered

  it : (x : Instance) × (slice_get s.world.memory i ≡ Some x)
  it = instance_there s.world.memory i alive

  abbrev bytes : List Byte
  bytes = all_of content (bytes_at s.world.memory i)

  abbrev pub new : Memory
  new = set_bytes s.world.memory i bytes

  pub is_set : IsSet s.world.memory i bytes
  is_set = set_rewrites s.world.memory i it.0 it.1 bytes (subst (λ z. HaveTags it.0.bytes (all_of content z)) (sym (ap bytes_of it.1)) (uniform_tags content it.0.bytes))

  pub one_content : (o : ℕ) (x : Byte) → slice_get (bytes_at new i) o ≡ Some x → x.content ≡ content
  one_content o x e = uniform_content content (bytes_at s.world.memory i) o x (sym (ap (λ z. slice_get z o) is_set.are) ∙ e)

  pub content_at : (o : ℕ) (x : Byte) → byte_at new i o ≡ Some x → x.content ≡ content
  unfolding byte_at
  content_at o x e = one_content o x e

  -- the only live instance of the base
  pub own_one : (k : ℕ) → IsLiveOf naming new b k → k ≡ i
  own_one k h = own_instance flow p naming row (state_of s) r.stands_for b i info at named alive declared kind is_set.rewrite k h

  -- ---- the row

  pub fits : info.first + base_values info ≤ 2 ^ 64 - 1
  fits = blank.fits flow p b info at declared

  pub cells_are : base_cells info ≡ length info.shape.cells
  cells_are = blank.cells_are flow p b info at declared

  pub count_is : value_count info ≡ length info.shape.cells
  count_is = blank.count_is flow p b info at declared

  pub in_row : (x : ℕ) → x < info.first + base_values info → x < length row
  in_row x h = blank.in_row flow p b info at declared l n row r.long x h

  pub still_short : AreShort flow.model new
  still_short j = subst (λ z. pos z ≤ℤ greatest_of (kind_of flow.model Pointer true)) (sym (is_set.rewrite.alike.lengths j)) (r.short j)
