-- Knowledge of temporaries that is kept: less may be known behind than before.
use Rattle.std.proofs.Common.{◌≡◌, ℕ, ◌==◌, Bool, true, false, cond, nat_lt, List, Option, Some, None, refl, sym, subst}
use Rattle.c_layout.specs.StructViews.{StructView}
use Rattle.c_layout.specs.Types.{Ty}
use Rattle.memory_model.specs.Effects.NumberedTables.{set_at}
use Rattle.lower_templates.specs.Worklist.Acts.{Act}
use Rattle.typed_programs.specs.Types.PointedTypes.{Known, Zero, Null, Pointing, is_same, is_further, IsLess, IsStorable}
use Rattle.typed_programs.specs.Types.TypedPrograms.{IsKept, Gives, GivesIf, Keeps, IsTypedWay}
use Rattle.typed_programs.specs.Types.TypedStates.{Temporaries}
use Rattle.lower_templates.specs.Worklist.Pieces.{Way, Always, When, Case, Other, NoLine, Line}
use Rattle.typed_lowering.specs.Conversions.KnownValues.{nothing, below, with_value}
use Rattle.typed_lowering.specs.Conversions.TypedActs as typed
use Rattle.typed_lowering.specs.Conversions.TypedActs.{PointsTo, IsTypedAct}

-- ---- what is known of one value

pub less_same : (k : Known) → IsLess k k
less_same Zero = tt
less_same Null = tt
less_same (Pointing a) = is_same a

pub less_trans : (a b c : Known) → IsLess a b → IsLess b c → IsLess a c
less_trans Zero Zero Zero first second = tt
less_trans Null Null Null first second = tt
less_trans Null Null (Pointing c) first second = tt
less_trans Null (Pointing b) (Pointing c) first second = tt
less_trans (Pointing a) (Pointing b) (Pointing c) first second = is_further a b c first second
less_trans (Pointing a) (Pointing b) Zero first second = absurd second
less_trans (Pointing a) (Pointing b) Null first second = absurd second
less_trans Null (Pointing b) Zero first second = absurd second
less_trans Null (Pointing b) Null first second = absurd second
less_trans Null Null Zero first second = absurd second
less_trans Zero Zero Null first second = absurd second
less_trans Zero Zero (Pointing c) first second = absurd second
less_trans Zero Null c first second = absurd first
less_trans Zero (Pointing b) c first second = absurd first
less_trans Null Zero c first second = absurd first
less_trans (Pointing a) Zero c first second = absurd first
less_trans (Pointing a) Null c first second = absurd first

some_is : {A : Type 0} (x y : A) → Some x ≡ Some y → x ≡ y
some_is x y e = cc

-- ---- what is known of an optional one: of a value of which nothing is known anything may be said to be unknown

abbrev pub IsLessIf : Option Known → Option Known → Type 0
IsLessIf old None = Unit {0}
IsLessIf None (Some k) = ⊥
IsLessIf (Some old) (Some k) = IsLess old k

pub less_if_same : (k : Option Known) → IsLessIf k k
less_if_same None = tt
less_if_same (Some k) = less_same k

-- ---- what is known of all temporaries

pub kept_same : (known : Temporaries) → IsKept known known
kept_same known t k is = (k, is, less_same k)

pub kept_trans : (a b c : Temporaries) → IsKept a b → IsKept b c → IsKept a c
kept_trans a b c first second t k is =
    let (old, there, less) = second t k is in
    let (older, where_, less_) = first t old there in
    (older, where_, less_trans older old k less_ less)

pub kept_nothing : (known : Temporaries) → IsKept known nothing
kept_nothing known t k is = absurd (none is)
  where
    none : None ≡ Some k → ⊥
    none e = cc

-- at each temporary no more is known
pub kept_if : (a b : Temporaries) → ((t : ℕ) → IsLessIf (a t) (b t)) → IsKept a b
kept_if a b all t k is = by (a t) refl (subst (IsLessIf (a t)) is (all t))
  where
    by : (old : Option Known) → a t ≡ old → IsLessIf old (Some k) → (old : Known) × (a t ≡ Some old) × IsLess old k
    by None there less = absurd less
    by (Some old) there less = (old, there, less)

pub if_kept : (a b : Temporaries) → IsKept a b → (t : ℕ) → IsLessIf (a t) (b t)
if_kept a b kept t = by (b t) refl
  where
    by : (k : Option Known) → b t ≡ k → IsLessIf (a t) k
    by None is = tt
    by (Some k) is = let (old, there, less) = kept t k is in subst (λ o. IsLessIf o (Some k)) (sym there) less

pub less_if_trans : (a b c : Option Known) → IsLessIf a b → IsLessIf b c → IsLessIf a c
less_if_trans a b None first second = tt
less_if_trans (Some a) (Some b) (Some c) first second = less_trans a b c first second
less_if_trans None (Some b) (Some c) first second = absurd first
less_if_trans a None (Some c) first second = absurd second

pub kept_below : (depth : ℕ) (known : Temporaries) → IsKept known (below depth known)
kept_below depth known = kept_if known (below depth known) (λ t. by (nat_lt t depth) t)
  where
    by : (b : Bool) (t : ℕ) → IsLessIf (known t) (cond b (known t) None)
    by true t = less_if_same (known t)
    by false t = tt

pub below_kept : (depth : ℕ) (a b : Temporaries) → IsKept a b → IsKept (below depth a) (below depth b)
below_kept depth a b kept = kept_if (below depth a) (below depth b) (λ t. by (nat_lt t depth) t)
  where
    by : (c : Bool) (t : ℕ) → IsLessIf (cond c (a t) None) (cond c (b t) None)
    by true t = if_kept a b kept t
    by false t = tt

pub set_kept : (to : ℕ) (v w : Option Known) (a b : Temporaries) → IsLessIf v w → IsKept a b → IsKept (set_at a to v) (set_at b to w)
set_kept to v w a b less kept = kept_if (set_at a to v) (set_at b to w) (λ t. by (t == to) t)
  where
    by : (c : Bool) (t : ℕ) → IsLessIf (elim c [ true ↦ v | false ↦ a t ]) (elim c [ true ↦ w | false ↦ b t ])
    by true t = less
    by false t = if_kept a b kept t

pub value_kept : (depth : ℕ) (v w : Option Known) (a b : Temporaries) → IsLessIf v w → IsKept a b → IsKept (with_value depth v a) (with_value depth w b)
value_kept depth v w a b less kept = set_kept depth v w (below depth a) (below depth b) less (below_kept depth a b kept)

-- ---- acts from stronger knowledge

pub gives_stronger : (to : ℕ) (v w : Option Known) (stronger before after : Temporaries) → IsLessIf v w → IsKept stronger before → Gives to w before after → Gives to v stronger after
gives_stronger to v w stronger before after less kept gives = kept_trans (set_at stronger to v) (set_at before to w) after (set_kept to v w stronger before less kept) gives

pub gives_if_stronger : (to : Option ℕ) (v : Option Known) (stronger before after : Temporaries) → IsKept stronger before → GivesIf to v before after → GivesIf to v stronger after
gives_if_stronger None v stronger before after kept gives = kept_trans stronger before after kept gives
gives_if_stronger (Some to) v stronger before after kept gives = gives_stronger to v v stronger before after (less_if_same v) kept gives

pub keeps_stronger : (kept_ : Option (ℕ × ℕ)) (stronger before after : Temporaries) → IsKept stronger before → Keeps kept_ before after → Keeps kept_ stronger after
keeps_stronger None stronger before after kept keeps = kept_trans stronger before after kept keeps
keeps_stronger (Some p) stronger before after kept keeps = gives_stronger p.0 (stronger p.1) (before p.1) stronger before after (if_kept stronger before kept p.1) kept keeps

pub storable_stronger : (known old value : Option Known) → IsLessIf old value → IsStorable known value → IsStorable known old
storable_stronger None old value less is = tt
storable_stronger (Some k) old None less (v, e, l) = absurd (no e)
  where
    no : None ≡ Some v → ⊥
    no e = cc
storable_stronger (Some k) None (Some w) less is = absurd less
storable_stronger (Some k) (Some o) (Some w) less (v, e, l) = (o, refl, less_trans o w k less (subst (λ x. IsLess x k) (sym (some_is w v e)) l))

module _ (structs : List StructView) (pointer_size : ℕ) (bases : ℕ → Option Ty) (stronger before after : Temporaries) (kept : IsKept stronger before) where
  points_stronger : (temp : ℕ) (t : Ty) → PointsTo structs pointer_size bases before after temp t → PointsTo structs pointer_size bases stronger after temp t
  points_stronger temp t p =
      let (old, there, less) = kept temp p.known p.has in
      record { known = old; target = p.target; has = there; less = less_trans old p.known (Pointing p.target) less p.less; is = p.is }

  gives : (to : ℕ) (v : Option Known) → Gives to v before after → Gives to v stronger after
  gives to v = gives_stronger to v v stronger before after (less_if_same v) kept

  keeps : IsKept before after → IsKept stronger after
  keeps = kept_trans stronger before after kept

  zero_stronger : (from : ℕ) → before from ≡ Some Zero → stronger from ≡ Some Zero
  zero_stronger from is = let (old, there, less) = kept from Zero is in by old there less
    where
      by : (old : Known) → stronger from ≡ Some old → IsLess old Zero → stronger from ≡ Some Zero
      by Zero there less = there
      by Null there less = absurd less
      by (Pointing a) there less = absurd less

  pub act_stronger : (a : Act) → IsTypedAct structs pointer_size bases before after a → IsTypedAct structs pointer_size bases stronger after a
  act_stronger a (typed.gives_zero to kind g) = typed.gives_zero to kind (gives to (Some Zero) g)
  act_stronger a (typed.gives_number to n kind g) = typed.gives_number to n kind (gives to None g)
  act_stronger a (typed.gives_address to base t is g) = typed.gives_address to base t is (gives to _ g)
  act_stronger a (typed.gives_part to base offset outer t is stands g) = typed.gives_part to base offset outer t is stands (gives to _ g)
  act_stronger a (typed.loads to from kind t known p k g) = typed.loads to from kind t known (points_stronger from t p) k (gives to known g)
  act_stronger a (typed.stores_in to from kind kept_ t known p k s g) = typed.stores_in to from kind kept_ t known (points_stronger to t p) k (storable_stronger known (stronger from) (before from) (if_kept stronger before kept from) s) (keeps_stronger kept_ stronger before after kept g)
  act_stronger a (typed.copies to from index p q some k) = typed.copies to from index (points_stronger to _ p) (points_stronger from _ q) some (keeps k)
  act_stronger a (typed.narrows to from offset size t inner p stands e some g) = typed.narrows to from offset size t inner (points_stronger from t p) stands e some (gives to _ g)
  act_stronger a (typed.shifts to from by_ size back t known is less e some g) = let (old, there, less_) = kept from known is in typed.shifts to from by_ size back t old there (less_trans old known _ less_ less) e some (gives to _ g)
  act_stronger a (typed.computes to sign left right kind g) = typed.computes to sign left right kind (gives to None g)
  act_stronger a (typed.computes_one to sign from kind g) = typed.computes_one to sign from kind (gives to None g)
  act_stronger a (typed.compares to sign left right g) = typed.compares to sign left right (gives to None g)
  act_stronger a (typed.inverts to from kind g) = typed.inverts to from kind (gives to None g)
  act_stronger a (typed.subtracts to left right size g) = typed.subtracts to left right size (gives to None g)
  act_stronger a (typed.compares_pointers to sign left right g) = typed.compares_pointers to sign left right (gives to None g)
  act_stronger a (typed.to_number to from old kind g) = typed.to_number to from old kind (gives to None g)
  act_stronger a (typed.to_null to from kind is g) = typed.to_null to from kind (zero_stronger from is) (gives to _ g)
  act_stronger a (typed.to_pointer to from g) = typed.to_pointer to from (gives_stronger to (stronger from) (before from) stronger before after (if_kept stronger before kept from) kept g)
  act_stronger a (typed.calls to name arguments newest size plain g) = typed.calls to name arguments newest size plain (gives_if_stronger to None stronger before after kept g)
  act_stronger a (typed.enters base k) = typed.enters base (keeps k)
  act_stronger a (typed.leaves_object base k) = typed.leaves_object base (keeps k)
  act_stronger a (typed.forgets base k) = typed.forgets base (keeps k)
  act_stronger a (typed.clears base k) = typed.clears base (keeps k)
  act_stronger a (typed.spells base offset room text k) = typed.spells base offset room text (keeps k)
  act_stronger a (typed.jumps k) = typed.jumps (keeps k)
  act_stronger a (typed.branches from kind k) = typed.branches from kind (keeps k)
  act_stronger a (typed.switches from kind k) = typed.switches from kind (keeps k)
  act_stronger a typed.ends_run = typed.ends_run

-- ---- ways from stronger knowledge, and to weaker one

pub way_between : (w : Way) (stronger before after weaker : Temporaries) → IsKept stronger before → IsKept after weaker → IsTypedWay w before after → IsTypedWay w stronger weaker
way_between Always stronger before after weaker more less is = kept_trans stronger before weaker more (kept_trans before after weaker is less)
way_between (When truth test None) stronger before after weaker more less is = kept_trans stronger before weaker more (kept_trans before after weaker is less)
way_between (When truth test (Some p)) stronger before after weaker more less is = gives_stronger p.0 None None stronger before weaker tt more (kept_trans (set_at before p.0 None) after weaker is less)
way_between (Case test) stronger before after weaker more less is = kept_trans stronger before weaker more (kept_trans before after weaker is less)
way_between (Other values) stronger before after weaker more less is = kept_trans stronger before weaker more (kept_trans before after weaker is less)
way_between NoLine stronger before after weaker more less is = kept_trans stronger before weaker more (kept_trans before after weaker is less)
way_between Line stronger before after weaker more less is = kept_trans stronger before weaker more (kept_trans before after weaker is less)
