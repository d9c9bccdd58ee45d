-- The bases of a program follow each other in a row.
use Rattle.std.proofs.Common.{◌≡◌, ℕ, zero, suc, ◌+◌, ◌-◌, ◌^◌, Bool, true, false, cond, List, [], ◌∷◌, ◌++◌, length, Option, Some, None, slice_get, arith, ap, sym, ◌∙◌}
use Rattle.c_layout.specs.CheckedUnits.{FunctionView, StaticView, LiteralView, UnitView}
use Rattle.c_layout.specs.declared.checked_tree.checked_units.StaticBase.{StaticBase}
use Rattle.c_layout.specs.declared.checked_tree.checked_units.StaticBase.TheVariants as shared
use Rattle.c_layout.specs.declared.shapes.BaseInfo.{BaseInfo}
use Rattle.lower_objects.specs.Shapes.HeapBases.{heap_shape}
use Rattle.c_layout.specs.declared.shapes.BaseKind.{BaseKind}
use Rattle.c_layout.specs.declared.shapes.BaseKind.TheVariants as kind
use Rattle.c_layout.specs.declared.shapes.Shape.{Shape}
use Rattle.cfg.specs.WellFormed.{base_values, all_values}
use Rattle.lower_templates.specs.Worklist.Pieces.{NameView, Local, Outcome, Static, Literal, Allocation}
use Rattle.lower_tables.specs.Bases.BaseTables.{TableView, width_of, info, added, local_or, known, literal_made, literal_or, object_made, object_or, with_shared, brought, with_all, base}
use Rattle.lower.specs.Inlining.WellMade.{Follow}

-- bases that follow each other, and how many values they have
pub record Placed (bases : List BaseInfo) (width : ℕ) : Type 0 where
  pub follow : Follow 0 bases
  pub all : width ≡ all_values bases

abbrev pub Stand : TableView → Type 0
Stand b = Placed b.bases b.width

same_width : (b : Bool) (cells parts : ℕ) → cells + parts + cond b 7 0 ≡ cells + cond b 6 0 + parts + cond b 1 0
same_width true cells parts = omega arith
same_width false cells parts = omega arith

follow_more : (first : ℕ) (bs : List BaseInfo) (x : BaseInfo) → Follow first bs → x.first ≡ first + all_values bs → Follow first (bs ++ x ∷ [])
follow_more first [] x f is = (let e : first + 0 ≡ first = omega arith in is ∙ e, tt)
follow_more first (b ∷ bs) x (same, f) is =
    (same, follow_more (first + base_values b) bs x f (let e : first + (base_values b + all_values bs) ≡ first + base_values b + all_values bs = omega arith in is ∙ e))

values_more : (bs : List BaseInfo) (x : BaseInfo) → all_values (bs ++ x ∷ []) ≡ all_values bs + base_values x
values_more [] x = let e : base_values x + 0 ≡ 0 + base_values x = omega arith in e
values_more (b ∷ bs) x =
    let e : base_values b + (all_values bs + base_values x) ≡ base_values b + all_values bs + base_values x = omega arith in
    ap (λ n. base_values b + n) (values_more bs x) ∙ e

added_stands : (what : BaseKind) (size : ℕ) (s : Shape) (b : TableView) → Stand b → Stand (added what size s b)
added_stands what size s b p = record {
  follow = follow_more 0 b.bases (info what size b.width s) p.follow (let e : all_values b.bases ≡ 0 + all_values b.bases = omega arith in p.all ∙ e);
  all = ap (λ n. n + width_of s) p.all ∙ ap (λ n. all_values b.bases + n) (same_width s.heap (length s.cells) (length s.zeros)) ∙ sym (values_more b.bases (info what size b.width s));
}

local_stands : (u : UnitView) (f : FunctionView) (slot : ℕ) (locals : List (Option ℕ)) (b : TableView) (o : Option (Option ℕ)) → Stand b → Stand (local_or u f slot locals b o).after
local_stands u f slot locals b None p = p
local_stands u f slot locals b (Some (Some n)) p = p
local_stands u f slot locals b (Some None) p = added_stands _ _ _ b p

literal_made_stands : (u : UnitView) (n : ℕ) (b : TableView) (l : Option LiteralView) → Stand b → Stand (literal_made u n b l)
literal_made_stands u n b None p = p
literal_made_stands u n b (Some l) p = added_stands _ _ _ b p

literal_stands : (u : UnitView) (n : ℕ) (b : TableView) (o : Option ℕ) → Stand b → Stand (literal_or u n b o)
literal_stands u n b (Some k) p = p
literal_stands u n b None p = literal_made_stands u n b (slice_get u.literals n) p

object_made_stands : (u : UnitView) (n : ℕ) (b : TableView) (o : Option StaticView) → Stand b → Stand (object_made u n b o)
object_made_stands u n b None p = p
object_made_stands u n b (Some o) p = added_stands _ _ _ b p

object_stands : (u : UnitView) (n : ℕ) (b : TableView) (o : Option ℕ) → Stand b → Stand (object_or u n b o)
object_stands u n b (Some k) p = p
object_stands u n b None p = object_made_stands u n b (slice_get u.objects n) p

shared_stands : (u : UnitView) (x : StaticBase) (b : TableView) → Stand b → Stand (with_shared u x b)
shared_stands u (shared.Object n) b p = object_stands u n b (known b.objects n) p
shared_stands u (shared.Literal n) b p = literal_stands u n b (known b.literals n) p

all_stand : (u : UnitView) (n : ℕ) (stack : List StaticBase) (b : TableView) → Stand b → Stand (with_all u n stack b)
all_stand u zero stack b p = p
all_stand u (suc n) [] b p = p
all_stand u (suc n) (x ∷ xs) b p = all_stand u n (brought u x b ++ xs) (with_shared u x b) (shared_stands u x b p)

pub named_stands : (u : UnitView) (f : FunctionView) (n : NameView) (locals : List (Option ℕ)) (b : TableView) → Stand b → Stand (base u f n locals b).after
named_stands u f (Local n) locals b p = local_stands u f n locals b (slice_get locals n) p
named_stands u f Outcome locals b p = local_stands u f (length f.locals) locals b (slice_get locals (length f.locals)) p
named_stands u f (Static n) locals b p = all_stand u (2 ^ 64 - 1) (shared.Object n ∷ []) b p
named_stands u f (Literal n) locals b p = all_stand u (2 ^ 64 - 1) (shared.Literal n ∷ []) b p
named_stands u f (Allocation target) locals b p =
    let shape = heap_shape u.structs u.model.pointer target in
    added_stands kind.Older 0 shape (added kind.Newest 0 shape b) (added_stands kind.Newest 0 shape b p)
