-- The copies of a program that are not finished: their pieces that are still to come keep to what is known.
use Rattle.std.proofs.Common.{◌≡◌, ◌≤◌, ◌<◌, ◌⊎◌, inl, inr, ℕ, zero, suc, ◌+◌, Bool, true, List, [], ◌∷◌, ◌++◌, length, get_or, Option, Some, None, slice_get, refl, arith, ap, sym, subst, ◌∙◌}
use Rattle.std.proofs.lemmas.Option.{get_or_from_slice_get}
use Rattle.c_layout.specs.CheckedUnits.{FunctionView, UnitView}
use Rattle.c_layout.specs.Types.{Ty}
use Rattle.cfg.specs.declared.flow_edges.Side.{Side}
use Rattle.cfg.specs.declared.flow_edges.Side.TheVariants as side
use Rattle.cfg.specs.declared.flow_edges.Test.{Test}
use Rattle.lower.specs.Inlining.Inlinings as o
use Rattle.lower.specs.Inlining.Inlinings.{Made, CopyView, Placed, Inlined, placed}
use Rattle.lower_tables.specs.Bases.BaseTables.{TableView}
use Rattle.typed_lowering.specs.LoopedUnits.CalmTemplates.{IsMarkedIn, IsCalm}
use Rattle.typed_programs.specs.PlainWorklists.LeadingPieces.{is_of_object, AreOfObjects, AllTo, Marked, IsLeading, LeadOn, NoLabel}
use Rattle.lower_templates.specs.Worklist.Pieces.{NameView, Outcome, Way, Always, When, Case, Other, NoLine, Line, ExitView, PieceView, Do, DoIfUsed, End, Mark, Call, TemplateView}
use Rattle.typed_programs.specs.Types.TypedStates.{Temporaries}
use Rattle.typed_lowering.specs.Conversions.TypedBases.{HasTypes, HasLocalTypes, HasOwnTypes, HasOwnLocals, NamesAreTyped}
use Rattle.typed_lowering.specs.Conversions.TypedPieces.{State, Leads, IsWeaker, name_type, name_type_or, base_type, result_known, AreTypedPieces}
use Rattle.typed_lowering.specs.Conversions.ProgramLaws.{AreThere}
use Rattle.typed_lowering.proofs.conversions.JoinedPieces.{leads_on}
use Rattle.typed_lowering.proofs.inlined_programs.LiftedKnowledge.{lifted, kept_lifted}
use Rattle.typed_lowering.proofs.inlined_programs.TypedBlocks.{Grows, grows_same, grows_twice, IsTypedMade, made_weaker}

-- ---- what is known in a copy

abbrev pub lifted_state : ℕ → Temporaries → State → State
lifted_state d outer None = None
lifted_state d outer (Some k) = Some (lifted d outer k)

pub lead_lifted : (r s : State) (d : ℕ) (outer k : Temporaries) → IsWeaker r (lifted_state d outer s) → Leads s k → Leads r (lifted d outer k)
lead_lifted r None d outer k weaker leads = subst (λ x. Leads x (lifted d outer k)) (sym weaker) tt
lead_lifted r (Some a) d outer k weaker leads = leads_on r (lifted d outer a) (lifted d outer k) weaker (kept_lifted d outer a k leads)

pub weaker_lifted : (r s m : State) (d : ℕ) (outer : Temporaries) → IsWeaker r (lifted_state d outer s) → IsWeaker s m → IsWeaker r (lifted_state d outer m)
weaker_lifted r s (Some k) d outer weaker leads = lead_lifted r s d outer k weaker leads
weaker_lifted r s None d outer weaker none = subst (λ x. IsWeaker r (lifted_state d outer x)) none weaker

-- behind the last piece of a copy
abbrev pub behind_copy : Temporaries → CopyView → State
behind_copy outer c = Some (lifted c.depth outer (result_known c.used c.function))

-- ---- labels

-- the labels that a piece marks and those to which its edges lead
abbrev pub HasLabels : (ℕ → Type 0) → PieceView → Type 0
HasLabels L (Do s) = Unit {0}
HasLabels L (DoIfUsed s) = Unit {0}
HasLabels L (End s exits) = AllTo L exits
HasLabels L (Mark l) = L l
HasLabels L (Call c) = Unit {0}

abbrev pub HaveLabels : (ℕ → Type 0) → List PieceView → Type 0
HaveLabels L [] = Unit {0}
HaveLabels L (p ∷ ps) = HasLabels L p × HaveLabels L ps

to_more : (L M : ℕ → Type 0) → ((l : ℕ) → L l → M l) → (es : List ExitView) → AllTo L es → AllTo M es
to_more L M more [] all = tt
to_more L M more (e ∷ es) (one, all) = (more e.to one, to_more L M more es all)

has_more : (L M : ℕ → Type 0) → ((l : ℕ) → L l → M l) → (p : PieceView) → HasLabels L p → HasLabels M p
has_more L M more (Do s) is = tt
has_more L M more (DoIfUsed s) is = tt
has_more L M more (End s exits) is = to_more L M more exits is
has_more L M more (Mark l) is = more l is
has_more L M more (Call c) is = tt

have_more : (L M : ℕ → Type 0) → ((l : ℕ) → L l → M l) → (ps : List PieceView) → HaveLabels L ps → HaveLabels M ps
have_more L M more [] all = tt
have_more L M more (p ∷ ps) (one, all) = (has_more L M more p one, have_more L M more ps all)

module _ (calls : ℕ → Bool) (L M : ℕ → Type 0) where
  has_calm : (p : PieceView) (ps : List PieceView) → ((l : ℕ) → Marked (p ∷ ps) L l → M l) → IsLeading calls (Marked ps L) p → HasLabels M p
  has_calm (Do s) ps all leading = tt
  has_calm (DoIfUsed s) ps all leading = tt
  has_calm (End s exits) ps all leading = to_more (Marked ps L) M (λ l is. all l (inr is)) exits leading.1
  has_calm (Mark l) ps all leading = all l (inl refl)
  has_calm (Call c) ps all leading = tt

  -- edges of calm pieces lead to labels that are marked
  have_calm : (ps : List PieceView) → ((l : ℕ) → Marked ps L l → M l) → LeadOn calls L ps → HaveLabels M ps
  have_calm [] all leads = tt
  have_calm (p ∷ ps) all (one, leads) = (has_calm p ps all one, have_calm ps (λ l is. all l (inr is)) leads)

marked_within : (ps : List PieceView) (L : ℕ → Type 0) (l : ℕ) → Marked ps L l → Marked ps NoLabel l ⊎ L l
marked_within [] L l is = inr is
marked_within (p ∷ ps) L l (inl here) = inl (inl here)
marked_within (p ∷ ps) L l (inr is) = elim (marked_within ps L l is) [ inl later ↦ inl (inr later) | inr other ↦ inr other ]

-- all labels of a calm template are such as those that it marks
pub calm_labels : (calls : ℕ → Bool) (t : TemplateView) (M : ℕ → Type 0) → IsCalm calls t → ((l : ℕ) → Marked t.pieces NoLabel l → M l) → HaveLabels M t.pieces
calm_labels calls t M calm all = have_calm calls (IsMarkedIn t) M t.pieces (λ l is. elim (marked_within t.pieces (IsMarkedIn t) l is) [ inl here ↦ all l here | inr there ↦ all l there ]) calm.pieces

module _ (u : UnitView) (ts : List (Option TemplateView)) where
  -- the bases of a copy's own objects have their types
  pub record HasNames (types : List Ty) (c : CopyView) : Type 0 where
    pub locals : HasLocalTypes c.function types c.locals
    pub there : length c.locals ≡ length c.function.locals + 1
    pub objects : AreOfObjects c.names
    pub own : HasOwnLocals u c.function

  pub record CanName (types : List Ty) (p : Placed) : Type 0 where
    pub bases : HasTypes u types p.program.bases
    pub names : HasNames types p.within

  -- a label of the program, which has so many, is known as that of the copy's template
  abbrev pub IsOwnLabel : (ℕ → Temporaries) → ℕ → Temporaries → (ℕ → Temporaries) → CopyView → ℕ → Type 0
  IsOwnLabel at count outer labels c l = (l + c.labels < count) × (at (l + c.labels) ≡ lifted c.depth outer (labels l))

  pub record IsTypedCopy (at : ℕ → Temporaries) (count : ℕ) (outer : Temporaries) (labels : ℕ → Temporaries) (s : State) (c : CopyView) : Type 0 where
    pub pieces : AreTypedPieces u c.function c.used c.names labels s c.rest (Some (result_known c.used c.function))
    pub own : HaveLabels (IsOwnLabel at count outer labels c) c.rest
    pub there : AreThere u ts c.rest

  -- a copy that goes on with what is known
  pub record IsStanding (types : List Ty) (at : ℕ → Temporaries) (count : ℕ) (now : State) (c : CopyView) : Type 0 where
    pub outer : Temporaries
    pub labels : ℕ → Temporaries
    pub state : State
    pub weaker : IsWeaker now (lifted_state c.depth outer state)
    pub copy : IsTypedCopy at count outer labels state c
    pub names : HasNames types c

  -- each copy goes on with what is known behind the one within it
  abbrev pub AreStanding : List Ty → (ℕ → Temporaries) → ℕ → State → List CopyView → Type 0
  AreStanding types at count now [] = Unit {0}
  AreStanding types at count now (c ∷ cs) = (x : IsStanding types at count now c) × AreStanding types at count (behind_copy x.outer c) cs

  names_more : (types more : List Ty) → Grows (slice_get types) (slice_get more) → (c : CopyView) → HasNames types c → HasNames more c
  names_more types more grows c n = record { locals = λ slot b is. grows b _ (n.locals slot b is); there = n.there; objects = n.objects; own = n.own }

  module _ (types more : List Ty) (grows : Grows (slice_get types) (slice_get more)) (at at_ : ℕ → Temporaries) (count longer : ℕ) (less : count ≤ longer) (same : (l : ℕ) → l < count → at_ l ≡ at l) where
    further : (n : ℕ) → n < count → n < longer
    further n is = omega (arith, is, less)

    copy_more : (outer : Temporaries) (labels : ℕ → Temporaries) (s : State) (c : CopyView) → IsTypedCopy at count outer labels s c → IsTypedCopy at_ longer outer labels s c
    copy_more outer labels s c k = record { pieces = k.pieces; own = have_more (IsOwnLabel at count outer labels c) (IsOwnLabel at_ longer outer labels c) (λ l is. (further (l + c.labels) is.0, same (l + c.labels) is.0 ∙ is.1)) c.rest k.own; there = k.there }

    pub standing_more : (now : State) (cs : List CopyView) → AreStanding types at count now cs → AreStanding more at_ longer now cs
    standing_more now [] all = tt
    standing_more now (c ∷ cs) (x, all) = (record { outer = x.outer; labels = x.labels; state = x.state; weaker = x.weaker; copy = copy_more x.outer x.labels x.state c x.copy; names = names_more types more grows c x.names }, standing_more (behind_copy x.outer c) cs all)

  -- ---- programs

  pub record Holds (types : List Ty) (at : ℕ → Temporaries) (now : Temporaries) (m : Made) : Type 0 where
    pub count : ℕ
    pub first : ℕ → Temporaries
    pub last : ℕ → Temporaries
    pub made : IsTypedMade u types at count count first last now m.blocks m.edges m.labels m.ready

  -- where nothing comes, anything may be known
  abbrev pub HoldsIn : List Ty → (ℕ → Temporaries) → State → Made → Type 0
  HoldsIn types at None m = (k : Temporaries) → Holds types at k m
  HoldsIn types at (Some now) m = Holds types at now m

  pub enter : (types : List Ty) (at : ℕ → Temporaries) (s : State) (m : Made) (k : Temporaries) → HoldsIn types at s m → Leads s k → Holds types at k m
  enter types at None m k h leads = h k
  enter types at (Some now) m k h leads = record { count = h.count; first = h.first; last = h.last; made = made_weaker u at h.count h.count h.first h.last m.blocks m.edges m.labels types now k m.ready leads h.made }

  -- what every turn leaves
  pub record Opens (x : Inlined) : Type 0 where
    pub types : List Ty
    pub at : ℕ → Temporaries
    pub now : State
    pub bases : HasTypes u types x.program.bases
    pub standing : AreStanding types at (length x.program.labels) now x.stack
    pub holds : HoldsIn types at now x.program

  -- ---- names

  name_at_object : (names : List NameView) (n : ℕ) → AreOfObjects names → is_of_object (get_or names n Outcome) ≡ true
  name_at_object [] n all = refl
  name_at_object (x ∷ names) zero (one, all) = one
  name_at_object (x ∷ names) (suc n) (one, all) = name_at_object names n all

  type_at : (f : FunctionView) (names : List NameView) (n : ℕ) (t : Ty) → base_type u f names n ≡ Some t → name_type u f (o.name_at names n) ≡ Some t
  type_at f names n t is = by (slice_get names n) refl is
    where
      by : (x : Option NameView) → slice_get names n ≡ x → name_type_or u f x ≡ Some t → name_type u f (get_or names n Outcome) ≡ Some t
      by None there is = absurd (cc)
      by (Some x) there is = ap (name_type u f) (get_or_from_slice_get names n x Outcome there) ∙ is

  grown : (xs ys : List Ty) → Grows (slice_get xs) (slice_get (xs ++ ys))
  grown [] ys n t is = absurd (cc)
  grown (x ∷ xs) ys zero t is = is
  grown (x ∷ xs) ys (suc n) t is = grown xs ys n t is

  -- bases were named, and what does not speak of them still holds
  pub record IsNamed (P : List Ty → Placed → Type 0) (types : List Ty) (q : Placed) : Type 0 where
    pub more : List Ty
    pub grows : Grows (slice_get types) (slice_get more)
    pub can : CanName more q
    pub holds : P more q

  abbrev pub Stays : (List Ty → Placed → Type 0) → Type 0
  Stays P = (types more : List Ty) (p : Placed) (b : TableView) (locals : List (Option ℕ)) → Grows (slice_get types) (slice_get more) → P types p → P more (placed (o.with_bases b p.program) (o.with_locals locals p.within))

  module _ (laws : NamesAreTyped) (own : HasOwnTypes u) (P : List Ty → Placed → Type 0) (stays : Stays P) where
    none_named : (types : List Ty) (p : Placed) → CanName types p → P types p → IsNamed P types p
    none_named types p can holds = record { more = types; grows = grows_same (slice_get types); can = can; holds = holds }

    -- a base of the name's type
    abbrev pub IsGiven : Option ℕ → Placed → List Ty → Type 0
    IsGiven name p types = (n : ℕ) (t : Ty) → name ≡ Some n → base_type u p.within.function p.within.names n ≡ Some t → slice_get types (o.own_number u name p) ≡ Some t

    same_number : (a b : ℕ) → Some a ≡ Some b → b ≡ a
    same_number a b is = cc

    base_named : (n : ℕ) (types : List Ty) (p : Placed) → CanName types p → P types p → (x : IsNamed P types (o.with_base u n p)) × IsGiven (Some n) p x.more
    base_named n types p can holds =
        let c = p.within in
        let x = laws u own c.function can.names.own (o.name_at c.names n) (name_at_object c.names n can.names.objects) types c.locals p.program.bases can.bases can.names.locals can.names.there in
        let grows = grown types x.more in (
          record {
            more = types ++ x.more;
            grows = grows;
            can = record { bases = x.bases; names = record { locals = x.locals; there = x.there; objects = can.names.objects; own = can.names.own } };
            holds = stays types (types ++ x.more) p (o.naming u n p).after (o.naming u n p).locals grows holds;
          },
          λ k t is known. x.is t (type_at c.function c.names n t (subst (λ z. base_type u c.function c.names z ≡ Some t) (same_number n k is) known)),
        )

    pub own_named : (name : Option ℕ) (types : List Ty) (p : Placed) → CanName types p → P types p → (x : IsNamed P types (o.with_own u name p)) × IsGiven name p x.more
    own_named None types p can holds = (none_named types p can holds, λ n t is known. absurd (cc))
    own_named (Some n) types p can holds = base_named n types p can holds

    side_named : (s : Side) (types : List Ty) (p : Placed) → CanName types p → P types p → IsNamed P types (o.with_side u s p)
    side_named (side.Object n kind) types p can holds = (base_named n types p can holds).0
    side_named (side.Number n) types p can holds = none_named types p can holds
    side_named side.Null types p can holds = none_named types p can holds

    test_named : (t : Option Test) (types : List Ty) (p : Placed) → CanName types p → P types p → IsNamed P types (o.with_test u t p)
    test_named None types p can holds = none_named types p can holds
    test_named (Some t) types p can holds =
        let x = side_named t.left types p can holds in
        let y = side_named t.right x.more (o.with_side u t.left p) x.can x.holds in
        record { more = y.more; grows = grows_twice (slice_get types) (slice_get x.more) (slice_get y.more) x.grows y.grows; can = y.can; holds = y.holds }

    pub way_named : (w : Way) (types : List Ty) (p : Placed) → CanName types p → P types p → IsNamed P types (o.with_way u w p)
    way_named Always types p can holds = none_named types p can holds
    way_named (When truth test puts) types p can holds = test_named test types p can holds
    way_named (Case c) types p can holds = (own_named c.object types p can holds).0
    way_named (Other values) types p can holds = none_named types p can holds
    way_named NoLine types p can holds = none_named types p can holds
    way_named Line types p can holds = none_named types p can holds
