-- A typed instruction of a template is typed in each copy, where its base has the type of its name.
use Rattle.std.proofs.Common.{◌≡◌, ℕ, List, Option, Some, None, refl, sym, subst, ◌∙◌}
use Rattle.c_layout.specs.CheckedUnits.{UnitView}
use Rattle.c_layout.specs.StructViews.{StructView}
use Rattle.c_layout.specs.Types.{Ty}
use Rattle.lower.specs.Inlining.MovedActs.{temp, kept_moved, own_base, moved}
use Rattle.lower.specs.Inlining.Inlinings.{Placed, way_moved}
use Rattle.lower_templates.specs.Worklist.Acts.{Act}
use Rattle.lower_templates.specs.Worklist.Pieces.{Way, Always, When, Case, Other, NoLine, Line}
use Rattle.typed_programs.specs.Types.PointedTypes.{Known, IsStorable}
use Rattle.typed_programs.specs.Types.TypedPrograms.{IsKept, Gives, GivesIf, Keeps, IsTypedWay}
use Rattle.typed_programs.specs.Types.TypedStates.{Temporaries}
use Rattle.simulation_layout.specs.Copies.LowTemporaries.{IsLow, IsKeptLow, IsActLow}
use Rattle.std.specs.Option.{option_map}
use Rattle.typed_lowering.specs.Conversions.TypedActs as typed
use Rattle.typed_lowering.specs.Conversions.TypedActs.{PointsTo, IsTypedAct}
use Rattle.typed_lowering.proofs.inlined_programs.LiftedKnowledge.{lifted, kept_lifted, lifted_at, gives_lifted, puts_lifted}

module _ (structs : List StructView) (pointer_size : ℕ) (own bases : ℕ → Option Ty) (before after outer : Temporaries) (d : ℕ) where
  abbrev first : Temporaries
  first = lifted d outer before

  abbrev last : Temporaries
  last = lifted d outer after

  points_lifted : (t : ℕ) (pointed : Ty) → IsLow (temp d t) → PointsTo structs pointer_size own before after t pointed → PointsTo structs pointer_size bases first last (temp d t) pointed
  points_lifted t pointed low p = record { known = p.known; target = p.target; has = lifted_at d outer before t low ∙ p.has; less = p.less; is = p.is }

  gives : (to : ℕ) (v : Option Known) → Gives to v before after → Gives (temp d to) v first last
  gives to v g = gives_lifted d outer before after to v g

  gives_if : (to : Option ℕ) (v : Option Known) → GivesIf to v before after → GivesIf (option_map (temp d) to) v first last
  gives_if None v kept = kept_lifted d outer before after kept
  gives_if (Some to) v g = gives to v g

  keeps : IsKept before after → IsKept first last
  keeps kept = kept_lifted d outer before after kept

  -- the value of a temporary of the copy
  gives_same : (to from : ℕ) → IsLow (temp d from) → Gives to (before from) before after → Gives (temp d to) (first (temp d from)) first last
  gives_same to from low g = subst (λ v. Gives (temp d to) v first last) (sym (lifted_at d outer before from low)) (gives to (before from) g)

  keeps_also : (kept : Option (ℕ × ℕ)) → IsKeptLow (kept_moved d kept) → Keeps kept before after → Keeps (kept_moved d kept) first last
  keeps_also None low k = keeps k
  keeps_also (Some p) low g = gives_same p.0 p.1 low.1 g

  module _ (b : ℕ) where
    abbrev IsGiven : Act → Type 0
    IsGiven a = (n : ℕ) (t : Ty) → own_base a ≡ Some n → own n ≡ Some t → bases b ≡ Some t

    pub act_lifted : (a : Act) → IsTypedAct structs pointer_size own before after a → IsGiven a → IsActLow (moved d b a) → IsTypedAct structs pointer_size bases first last (moved d b a)
    act_lifted a (typed.gives_zero to kind g) given low = typed.gives_zero (temp d to) kind (gives to _ g)
    act_lifted a (typed.gives_number to n kind g) given low = typed.gives_number (temp d to) n kind (gives to None g)
    act_lifted a (typed.gives_address to base t is g) given low = typed.gives_address (temp d to) b t (given base t refl is) (gives to _ g)
    act_lifted a (typed.gives_part to base offset whole t is stands g) given low = typed.gives_part (temp d to) b offset whole t (given base whole refl is) stands (gives to _ g)
    act_lifted a (typed.loads to from kind t known p k g) given low = typed.loads (temp d to) (temp d from) kind t known (points_lifted from t low.1 p) k (gives to known g)
    act_lifted a (typed.stores_in to from kind kept t known p k s g) given low = typed.stores_in (temp d to) (temp d from) kind (kept_moved d kept) t known (points_lifted to t low.0 p) k (subst (IsStorable known) (sym (lifted_at d outer before from low.1)) s) (keeps_also kept low.2 g)
    act_lifted a (typed.copies to from index p q some k) given low = typed.copies (temp d to) (temp d from) index (points_lifted to _ low.0 p) (points_lifted from _ low.1 q) some (keeps k)
    act_lifted a (typed.narrows to from offset size t inner p stands e some g) given low = typed.narrows (temp d to) (temp d from) offset size t inner (points_lifted from t low.1 p) stands e some (gives to _ g)
    act_lifted a (typed.shifts to from by size back t known is less e some g) given low = typed.shifts (temp d to) (temp d from) _ size back t known (lifted_at d outer before from low.1 ∙ is) less e some (gives to _ g)
    act_lifted a (typed.computes to sign left right kind g) given low = typed.computes (temp d to) sign (temp d left) _ kind (gives to None g)
    act_lifted a (typed.computes_one to sign from kind g) given low = typed.computes_one (temp d to) sign (temp d from) kind (gives to None g)
    act_lifted a (typed.compares to sign left right g) given low = typed.compares (temp d to) sign (temp d left) (temp d right) (gives to None g)
    act_lifted a (typed.inverts to from kind g) given low = typed.inverts (temp d to) (temp d from) kind (gives to None g)
    act_lifted a (typed.subtracts to left right size g) given low = typed.subtracts (temp d to) (temp d left) (temp d right) size (gives to None g)
    act_lifted a (typed.compares_pointers to sign left right g) given low = typed.compares_pointers (temp d to) sign (temp d left) (temp d right) (gives to None g)
    act_lifted a (typed.to_number to from old kind g) given low = typed.to_number (temp d to) (temp d from) old kind (gives to None g)
    act_lifted a (typed.to_null to from kind is g) given low = typed.to_null (temp d to) (temp d from) kind (lifted_at d outer before from low.1 ∙ is) (gives to _ g)
    act_lifted a (typed.to_pointer to from g) given low = typed.to_pointer (temp d to) (temp d from) (gives_same to from low.1 g)
    act_lifted a (typed.calls to name arguments newest size plain g) given low = typed.calls (option_map (temp d) to) name _ _ size plain (gives_if to None g)
    act_lifted a (typed.enters base k) given low = typed.enters b (keeps k)
    act_lifted a (typed.leaves_object base k) given low = typed.leaves_object b (keeps k)
    act_lifted a (typed.forgets base k) given low = typed.forgets b (keeps k)
    act_lifted a (typed.clears base k) given low = typed.clears b (keeps k)
    act_lifted a (typed.spells base offset room text k) given low = typed.spells b offset room text (keeps k)
    act_lifted a (typed.jumps k) given low = typed.jumps (keeps k)
    act_lifted a (typed.branches from kind k) given low = typed.branches (temp d from) kind (keeps k)
    act_lifted a (typed.switches from kind k) given low = typed.switches (temp d from) kind (keeps k)
    act_lifted a typed.ends_run given low = typed.ends_run

-- an edge puts a number into a temporary of the copy
pub way_lifted : (u : UnitView) (w : Way) (p : Placed) (outer before after : Temporaries) → IsTypedWay w before after → IsTypedWay (way_moved u w p) (lifted p.within.depth outer before) (lifted p.within.depth outer after)
way_lifted u Always p outer before after kept = kept_lifted p.within.depth outer before after kept
way_lifted u (When truth test puts) p outer before after known = puts_lifted p.within.depth outer before after puts known
way_lifted u (Case c) p outer before after kept = kept_lifted p.within.depth outer before after kept
way_lifted u (Other values) p outer before after kept = kept_lifted p.within.depth outer before after kept
way_lifted u NoLine p outer before after kept = kept_lifted p.within.depth outer before after kept
way_lifted u Line p outer before after kept = kept_lifted p.within.depth outer before after kept
