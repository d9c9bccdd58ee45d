-- Programs of one block, which stops the run.
use Rattle.std.specs.Prelude.{ℕ, ◌<◌, ◌^◌, false, List, [], ◌∷◌, length, refl}
use Rattle.std.specs.Global.{Vec}
use Rattle.std.proofs.Common.{arith}
use Rattle.c_layout.specs.Models.{lp64}
use Rattle.c_layout.specs.declared.shapes.BaseInfo.{BaseInfo}
use Rattle.cfg.specs.declared.basic_blocks.BasicBlock.{BasicBlock}
use Rattle.cfg.specs.declared.machine_instructions.Operation.TheVariants as op
use Rattle.cfg.specs.declared.programs.Flow.{Flow}
use Rattle.cfg.specs.declared.programs.InitialObject.{InitialObject}

module _ (some : Flow) where
  -- items in memory
  abbrev pub made : {X : Type 0} (xs : List X) → length xs < 2 ^ 63 → Vec X
  made xs h = record {
    ptr = some.blocks.ptr;
    len = length xs;
    cap = length xs;
    alloc = some.blocks.alloc;
    items =
        xs;
    ok = (refl, omega arith);
    small = h;
  }

  abbrev pub one : {X : Type 0} → X → Vec X
  one x = made (x ∷ []) (omega arith)

  abbrev pub none : {X : Type 0} → Vec X
  none = made [] (omega arith)

  abbrev stop : BasicBlock
  stop = record {
    instructions = one (record { place = some.entry; operation = op.Stop });
    first_edge = 0;
    edges =
        0;
    is_head = false;
  }

  -- with one base, an object that is there when it begins, and rows of a width
  abbrev pub stopping : BaseInfo → InitialObject → ℕ → Flow
  stopping base object width = record {
    blocks = one stop;
    edges = none;
    bases = one base;
    temps = 0;
    initial = one object;
    parameters = none;
    entry = some.entry;
    structs = record { items = none };
    width = width;
    model = lp64;
  }
