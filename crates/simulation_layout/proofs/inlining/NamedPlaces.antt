-- What naming bases changes of a program and of the copy that names them: tables of bases, and nothing else.
use Rattle.std.proofs.Common.{◌≡◌, ℕ, Option, Some, None, refl, ap, ◌∙◌}
use Rattle.c_layout.specs.CheckedUnits.{UnitView}
use Rattle.cfg.specs.declared.flow_edges.Side.{Side}
use Rattle.cfg.specs.declared.flow_edges.Side.TheVariants as side
use Rattle.cfg.specs.declared.flow_edges.Test.{Test}
use Rattle.lower_templates.specs.Worklist.Pieces.{NameView, Local, Way, When, Case}
use Rattle.lower_tables.specs.Bases.BaseTables.{base}
use Rattle.lower.specs.Inlining.Inlinings.{Placed, with_bases, with_locals, after_naming, name_at, base_number, with_base, with_own, with_side, with_test, with_way, with_local}
use Rattle.simulation_layout.specs.Inlining.NameRanges.{IsNameThere}
use Rattle.simulation_layout.proofs.inlining.NamedTables.{GoodTable, GoodLocals, More, more_same, more_twice, bases_longer, MoreLocals, locals_same, locals_twice, Stands, is_named}

module _ (u : UnitView) where
  pub record Good (p : Placed) : Type 0 where
    pub table : GoodTable u p.program.bases
    pub locals : GoodLocals u p.within.function p.program.bases.bases p.within.locals

  -- bases alone were named
  pub record Only (p q : Placed) : Type 0 where
    pub good : Good q
    pub more : More p.program.bases q.program.bases
    pub locals : MoreLocals p.program.bases p.within.locals q.within.locals
    pub program : q.program ≡ with_bases q.program.bases p.program
    pub within : q.within ≡ with_locals q.within.locals p.within

  pub only_none : (p : Placed) → Good p → Only p p
  only_none p g = record { good = g; more = more_same p.program.bases; locals = locals_same p.program.bases p.within.locals; program = refl; within = refl }

  pub only_twice : (p q r : Placed) → Only p q → Only q r → Only p r
  only_twice p q r a b = record {
    good = b.good;
    more = more_twice p.program.bases q.program.bases r.program.bases a.more b.more;
    locals = locals_twice p.program.bases q.program.bases p.within.locals q.within.locals r.within.locals (bases_longer p.program.bases q.program.bases a.more) a.locals b.locals;
    program = b.program ∙ ap (λ m. with_bases r.program.bases m) a.program;
    within = b.within ∙ ap (λ c. with_locals r.within.locals c) a.within;
  }

  only_name : (x : NameView) (p : Placed) → Good p → Only p (after_naming (base u p.within.function x p.within.locals p.program.bases) p)
  only_name x p g = let n = is_named u p.within.function x p.within.locals p.program.bases g.table g.locals in record { good = record { table = n.good; locals = n.locals_good }; more = n.more; locals = n.locals_more; program = refl; within = refl }

  pub only_base : (n : ℕ) (p : Placed) → Good p → Only p (with_base u n p)
  only_base n p g = only_name (name_at p.within.names n) p g

  pub only_local : (n : ℕ) (p : Placed) → Good p → Only p (with_local u n p)
  only_local n p g = only_name (Local n) p g

  pub only_own : (n : Option ℕ) (p : Placed) → Good p → Only p (with_own u n p)
  only_own None p g = only_none p g
  only_own (Some n) p g = only_base n p g

  pub only_side : (s : Side) (p : Placed) → Good p → Only p (with_side u s p)
  only_side (side.Object n kind) p g = only_base n p g
  only_side (side.Number n) p g = only_none p g
  only_side side.Null p g = only_none p g

  pub only_test : (t : Option Test) (p : Placed) → Good p → Only p (with_test u t p)
  only_test None p g = only_none p g
  only_test (Some t) p g =
      let left = only_side t.left p g in
      only_twice p (with_side u t.left p) (with_side u t.right (with_side u t.left p)) left (only_side t.right (with_side u t.left p) left.good)

  pub only_way : (w : Way) (p : Placed) → Good p → Only p (with_way u w p)
  only_way (When truth test puts) p g = only_test test p g
  only_way (Case c) p g = only_own c.object p g
  only_way other p g = only_none p g

  -- the base that is named stands for its name
  pub named_stands : (n : ℕ) (p : Placed) → Good p → IsNameThere u p.within.function (name_at p.within.names n) → Stands u p.within.function (name_at p.within.names n) (with_base u n p).within.locals (with_base u n p).program.bases (base_number u n p)
  named_stands n p g there = (is_named u p.within.function (name_at p.within.names n) p.within.locals p.program.bases g.table g.locals).stands there
