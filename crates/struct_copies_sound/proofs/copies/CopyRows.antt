-- The row behind a copy of a struct stands for the state behind it.
use Rattle.std.proofs.Common.{◌≡◌, ℕ, ◌≤◌, ◌^◌, Option, Some, List, length, ap, ◌∙◌}
use Rattle.std.specs.Prelude.{slice_get, ℤ}
use Rattle.cc_base.specs.Lattices.{LatticeOf, OrderLaws}
use Rattle.cc_base.specs.IntegerDomains.{IntegersOf, BoundLaws, RangeLaws}
use Rattle.cc_base.specs.IntegerLaws.{SoundLaws}
use Rattle.c_layout.specs.StructViews.{StructView}
use Rattle.cfg.specs.declared.programs.Flow.{Flow}
use Rattle.value_domain.specs.declared.values.row_cells.Cell.{Cell}
use Rattle.memory_model.specs.Memory.Instances.{Memory}
use Rattle.memory_model.specs.Memory.Scalars.{Scalar}
use Rattle.store_sound.specs.Concretization.SoundMemory.{IsMemoryOf}
use Rattle.store_sound.specs.Concretization.ValueMeaning.{Naming}
use Rattle.store_sound.specs.Concretization.RowMeaning.{InGamma}
use Rattle.store_sound.specs.Operations.Gives.{Gives}
use Rattle.store_sound.specs.Regions.RegionWrites.{InGammaBase}
use Rattle.store_sound.proofs.regions.BaseRows.{stands_base, bases_stand}
use Rattle.store_structs.specs.StructCopies.{copy_all, finish, finish_reached, copy_route}
use Rattle.struct_copies_sound.proofs.leaves.Cells.{leaf_cell, class_cell}
use Rattle.struct_copies_sound.proofs.leaves.Copies.{Copied, route}
use Rattle.struct_copies_sound.proofs.copies.FinishedZeros.{finished_long, temps_same, states_after, zeros_after}
use Rattle.struct_copies_sound.proofs.batches.Known.{all_known}
use Rattle.struct_copies_sound.proofs.copies.NewCells.{name_after}
use Rattle.struct_copies_sound.proofs.batches.StructPadding.{pad}
use Rattle.c_layout.specs.declared.shapes.BaseInfo.{BaseInfo}

module _ {flow : Flow} {naming : Naming} {old new : Memory} (k : Copied flow naming old new) (few : length k.leaves ≤ 2 ^ 62) {I : Type 0} {l : LatticeOf I} {n : IntegersOf I} {gamma : I → ℤ → Type 0} (o : OrderLaws l) (q : BoundLaws l n gamma) (c : SoundLaws l n gamma) (r : RangeLaws l n)
    (row : List (Cell I)) (wide : k.laid.behind ≤ length row) (temps : ℕ → Option Scalar) (entered : ℕ → Option ℕ) (s : InGamma l n gamma flow naming row (record { memory = old; temps = temps; entered = entered })) (sane : IsMemoryOf flow.model flow.bases.items naming new) where
  -- behind the copy
  abbrev IsBehind : List (Cell I) → Type 0
  IsBehind after = (length after ≡ length row) × InGamma l n gamma flow naming after (record { memory = new; temps = temps; entered = entered })

  pub route_stands : (view : StructView) → view.size ≡ k.size → view.leaves ≡ length k.leaves → Gives (λ after. (length after ≡ length row) × InGamma l n gamma flow naming after (record { memory = new; temps = temps; entered = entered })) (copy_route l n (route k) view row)
  unfolding copy_route
  route_stands view size count =
      let stand : (b : ℕ) (base : BaseInfo) → slice_get flow.bases.items b ≡ Some base → InGammaBase l n gamma flow naming old b base row =
      λ b base e. stands_base o q flow naming row (record { memory = old; temps = temps; entered = entered }) (record { shaped = k.laid.shaped; texts = k.laid.texts; behind = k.laid.behind; laid = k.laid.laid; temporaries = k.laid.temporaries; long = wide }) s b base e in
      let g = all_known k few o q c r row wide stand in
      record {
        value = finish l n (route k) (pad k) g.value;
        is = (λ i. finish_reached l n (route k) (record { structs = k.structs; pointer = flow.model.pointer; index = k.index; size = size i; leaves = count i; start = k.to }) (copy_all l n (route k) (count i) row)) ∙ ap (finish_reached l n (route k) (pad k)) g.is;
        good = (
          finished_long k few o q c r row wide stand sane g.value g.good,
          bases_stand o q flow naming row (record { memory = old; temps = temps; entered = entered }) (record { shaped = k.laid.shaped; texts = k.laid.texts; behind = k.laid.behind; laid = k.laid.laid; temporaries = k.laid.temporaries; long = wide }) s new k.i k.offset k.size k.region sane
              (finish l n (route k) (pad k) g.value) (temps_same k few o q c r row wide stand sane g.value g.good)
              (λ b base e. record {
                leaves = λ j leaf f. name_after k few o q c r row wide stand sane g.value g.good b base e (leaf_cell j leaf) f;
                classes = λ d heap small. name_after k few o q c r row wide stand sane g.value g.good b base e (class_cell d) (heap, small);
                zeros = λ z h piece f alive. zeros_after k few o q c r row wide stand sane g.value g.good b base e z piece f h alive;
                states = λ h heap named. states_after k few o q c r row wide stand sane g.value g.good b base e h heap named;
              }),
        );
      }
