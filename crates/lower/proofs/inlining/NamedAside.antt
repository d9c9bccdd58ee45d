-- Bases that an edge or an instruction names are added aside: what holds of one base that is added holds of all of them.
use Rattle.std.proofs.Common.{ℕ, Option, Some, None}
use Rattle.c_layout.specs.CheckedUnits.{UnitView}
use Rattle.cfg.specs.declared.flow_edges.Side.{Side}
use Rattle.cfg.specs.declared.flow_edges.Side.TheVariants as side
use Rattle.cfg.specs.declared.flow_edges.Test.{Test}
use Rattle.lower_templates.specs.Worklist.Pieces.{Way, Always, When, Case, Other, NoLine, Line}
use Rattle.lower.specs.Inlining.Inlinings as o
use Rattle.lower.specs.Inlining.Inlinings.{Placed}

-- a relation that goes from each place to itself, along others, and to the place with one base more
module _ (u : UnitView) (R : Placed → Placed → Type 0) (stays : (p : Placed) → R p p) (both : (p q r : Placed) → R p q → R q r → R p r) (base : (n : ℕ) (p : Placed) → R p (o.with_base u n p)) where
  pub along_own : (n : Option ℕ) (p : Placed) → R p (o.with_own u n p)
  along_own None p = stays p
  along_own (Some n) p = base n p

  along_side : (s : Side) (p : Placed) → R p (o.with_side u s p)
  along_side (side.Object n kind) p = base n p
  along_side (side.Number n) p = stays p
  along_side side.Null p = stays p

  along_test : (t : Option Test) (p : Placed) → R p (o.with_test u t p)
  along_test None p = stays p
  along_test (Some t) p = both p (o.with_side u t.left p) (o.with_side u t.right (o.with_side u t.left p)) (along_side t.left p) (along_side t.right (o.with_side u t.left p))

  pub along_way : (w : Way) (p : Placed) → R p (o.with_way u w p)
  along_way Always p = stays p
  along_way (When truth test puts) p = along_test test p
  along_way (Case c) p = along_own c.object p
  along_way (Other values) p = stays p
  along_way NoLine p = stays p
  along_way Line p = stays p
