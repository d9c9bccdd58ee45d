-- What a copy names in the finished program: bases, and edges.
use Rattle.std.proofs.Common.{◌≡◌, ◌<◌, ◌≤◌, ◌⊎◌, inl, inr, ℕ, zero, suc, ◌+◌, ◌-◌, ◌^◌, min, Bool, true, false, List, [], ◌∷◌, ◌++◌, length, get_or, Option, Some, None, refl, arith, ap, sym, subst, subst₂, ◌∙◌, append_assoc}
use Rattle.std.specs.List.{slice_get}
use Rattle.std.proofs.lemmas.List.{append-nil}
use Rattle.std.proofs.lemmas.Option.{get_or_from_slice_get}
use Rattle.cc_base.specs.declared.diagnostics.Place.{Place}
use Rattle.cc_base.specs.declared.int_types.IntType.{IntType}
use Rattle.c_layout.specs.Types.{Ty, Int}
use Rattle.c_layout.specs.Layout.{size_of_type}
use Rattle.c_layout.specs.Leaves.{leaves_of, folded_leaves}
use Rattle.c_layout.specs.StructViews.{StructView}
use Rattle.c_layout.specs.CheckedUnits.{FunctionView, UnitView}
use Rattle.c_layout.specs.declared.shapes.BaseInfo.{BaseInfo}
use Rattle.cfg.specs.declared.flow_edges.CaseTest.{CaseTest}
use Rattle.cfg.specs.declared.flow_edges.Side.{Side}
use Rattle.cfg.specs.declared.flow_edges.Side.TheVariants as side
use Rattle.cfg.specs.declared.flow_edges.Test.{Test}
use Rattle.lower_functions.specs.Functions.Functions.{local_type}
use Rattle.lower_templates.specs.Worklist.Acts as acts
use Rattle.lower_templates.specs.Worklist.Acts.{Act, Step}
use Rattle.lower_templates.specs.Worklist.Pieces.{NameView, Local, Outcome, Static, Literal, Allocation, Way, Always, When, Case, Other, NoLine, Line, ExitView, TemplateView}
use Rattle.lower_templates.specs.Views.ProgramViews.{BlockView, EdgeView, FlowView}
use Rattle.semantics.specs.CfgMachine.FlowEdges.{first_signed}
use Rattle.semantics.specs.SourceMachine.SourceStates.{function_at, static_type, local_of}
use Rattle.lower.specs.Inlining.MovedActs.{own_base, moved}
use Rattle.lower_tables.specs.Bases.BaseTables.{known}
use Rattle.lower.specs.Inlining.Lowerings.{lowered}
use Rattle.lower.specs.Inlining.Inlinings.{Made, CopyView, Placed, placed, with_locals, with_rest, name_at, base_number, with_base, own_number, with_own, instruction, with_ready, with_step, with_act, side_moved, with_side, both_moved, test_moved, with_test, object_moved, case_moved, way_moved, with_way, edge_to, with_edge, add_edge, with_exit, with_exits, resolved_edge, resolved, finished}
use Rattle.simulation_layout.specs.InlinedLayout.Shifts.{named_base, shifted}
use Rattle.simulation_layout.specs.InlinedLayout.Copies.{Inlined, Copy, StandsFor, StandsForIt, name_of, IsBase, IsOwnBase, IsResult, result_type, type_if, IsSwitched, IsSwitchedObject}
use Rattle.simulation_layout.specs.InlinedLayout.Layouts as layouts
use Rattle.simulation_layout.specs.InlinedLayout.Layouts.{IsAtStart, PointsWell, IsPut, IsSide, IsTest, IsCaseObject, IsWay, AreLed}
use Rattle.simulation_layout.specs.Copies.LowTemporaries.{IsActLow, IsWayLow, HasLowTemps}
use Rattle.simulation_layout.specs.Inlining.NameRanges.{IsNameThere}
use Rattle.simulation_layout.specs.Copies.FitTemplates.{PointsToStart, type_named, IsInteger, SwitchesOn, AllSwitchOn}
use Rattle.simulation_layout.proofs.inlining.ListPlaces.{some_same, none_is_not, left_of, at_end}
use Rattle.simulation_layout.proofs.inlining.NamedTables.{LocalAt, ObjectAt, More, more_twice, Stands, info_kept}
use Rattle.simulation_layout.proofs.inlining.MadeParts.{At, Extends, extends_twice, at_ready}
use Rattle.simulation_layout.proofs.inlining.NamedPlaces.{Good, Only, only_own, only_base, only_side, only_test, only_way, named_stands}
use Rattle.simulation_layout.proofs.inlining.InlinedPieces.{Steps, steps_only, steps_exit, steps_exits}
use Rattle.simulation_layout.proofs.copies.ShiftedActs.{same_base, low_put, moved_is_shifted}
use Rattle.simulation_layout.proofs.copies.FinishedPrograms.{in_block, stands_in, edge_in}

-- the leaf of an integer is signed where the integer is
integer_signed : (structs : List StructView) (pointer : ℕ) (k : IntType) → first_signed (leaves_of structs pointer (Int k)) ≡ k.signed
unfolding leaves_of
integer_signed structs pointer k = ap (λ n. first_signed (folded_leaves n structs pointer (Int k) 0)) (is (length structs))
  where
    is : (n : ℕ) → n + 1 ≡ suc n
    is n = omega arith

module _ (u : UnitView) (of : ℕ → TemplateView) (entry : FunctionView) (temps : ℕ) (last : Made) (none_ready : last.ready ≡ []) (low : HasLowTemps (lowered u entry (finished last) temps)) where
  -- the unit, its templates and its program
  abbrev pub whole : Inlined
  whole = record { unit = u; of = of; program = lowered u entry (finished last) temps; objects = known last.bases.objects; literals = known last.bases.literals }

  -- a copy that is finished, as it stands in the program
  abbrev pub copy_at : ℕ → ℕ → CopyView → Copy
  copy_at number depth d = record { function = number; depth = depth; at = d.at; used = d.used; labels = λ l. get_or last.labels (l + d.labels) 0; locals = known d.locals }

  -- as far as it is made the copy is on the way to what it is in the end
  pub record Toward (p : Placed) (d : CopyView) : Type 0 where
    pub kept : (slot k : ℕ) → known p.within.locals slot ≡ Some k → known d.locals slot ≡ Some k
    pub more : More p.program.bases last.bases
    pub within : d ≡ with_locals d.locals (with_rest d.rest p.within)

  pub toward_back : (p q : Placed) (d : CopyView) → Steps u p q → Toward q d → Toward p d
  toward_back p q d s t = record {
    kept = λ slot k is. t.kept slot k (s.locals.kept slot k is);
    more = more_twice p.program.bases q.program.bases last.bases s.extends.bases t.more;
    within = t.within ∙ ap (λ c. with_locals d.locals (with_rest d.rest c)) s.within;
  }

  toward_only : (p q : Placed) (d : CopyView) → Only u p q → Toward q d → Toward p d
  toward_only p q d o t = toward_back p q d (steps_only u p q o) t

  switched_by : (ty t : Ty) (b : ℕ) (info : BaseInfo) → slice_get last.bases.bases b ≡ Some info → info.size ≡ size_of_type u.structs u.model.pointer ty → info.shape.cells ≡ leaves_of u.structs u.model.pointer ty → IsInteger (Some ty) → ty ≡ t → IsSwitched whole t b
  switched_by ty t b info there size cells (k, is) same =
      subst (λ x. IsSwitched whole x b) (sym is ∙ same)
      (record { info = info; there = there; size = size ∙ ap (size_of_type u.structs u.model.pointer) is; is_signed = ap first_signed (cells ∙ ap (leaves_of u.structs u.model.pointer) is) ∙ integer_signed u.structs u.model.pointer k })

  module _ (number depth : ℕ) (d : CopyView) (function : slice_get u.functions number ≡ Some d.function) (names : (of number).names ≡ d.names) (deep : d.depth ≡ min depth (2 ^ 32 - 1)) (named : (n : ℕ) (x : NameView) → slice_get d.names n ≡ Some x → IsNameThere u d.function x) where
    abbrev pub own : Copy
    own = copy_at number depth d

    same_name : (n : ℕ) → slice_get d.names n ≡ name_of whole own n
    same_name n = ap (λ xs. slice_get xs n) (sym names)

    -- ---- bases

    stands_finally : (x : NameView) (p : Placed) (b : ℕ) → Toward p d → Stands u d.function x p.within.locals p.program.bases b → StandsFor whole own x b
    stands_finally (Local n) p b t is = t.kept n b is
    stands_finally Outcome p b t is = subst (λ f. IsResult own f b) (sym function) (t.kept (length d.function.locals) b is)
    stands_finally (Static n) p b t is = t.more.objects n b is
    stands_finally (Literal n) p b t is = t.more.literals n b is
    stands_finally (Allocation target) p b t is = tt

    -- the name of a base, before it is looked at
    named_at : (n : ℕ) (p : Placed) (x : NameView) → Toward p d → slice_get d.names n ≡ Some x → name_at p.within.names n ≡ x
    named_at n p x t is = ap (λ xs. name_at xs n) (sym (ap (λ (c : CopyView). c.names) t.within)) ∙ get_or_from_slice_get d.names n x Outcome is

    stands_named : (n : ℕ) (p : Placed) (x : NameView) → Good u p → Toward (with_base u n p) d → slice_get d.names n ≡ Some x → Stands u d.function x (with_base u n p).within.locals (with_base u n p).program.bases (base_number u n p)
    stands_named n p x g t is =
        let before = toward_only p (with_base u n p) d (only_base u n p g) t in
        let f : p.within.function ≡ d.function = sym (ap (λ (c : CopyView). c.function) before.within) in
        let e = named_at n p x before is in
        subst₂ (λ f y. Stands u f y (with_base u n p).within.locals (with_base u n p).program.bases (base_number u n p)) f e
        (named_stands u n p g (subst₂ (λ f y. IsNameThere u f y) (sym f) (sym e) (named n x is)))

    pub base_stands : (n : ℕ) (p : Placed) → Good u p → Toward (with_base u n p) d → IsBase whole own n (base_number u n p)
    base_stands n p g t = subst (λ o. StandsForIt whole own o (base_number u n p)) (same_name n) (by (slice_get d.names n) refl)
      where
        by : (o : Option NameView) → slice_get d.names n ≡ o → StandsForIt whole own o (base_number u n p)
        by None is = tt
        by (Some x) is = stands_finally x (with_base u n p) (base_number u n p) t (stands_named n p x g t is)

    own_stands : (o : Option ℕ) (p : Placed) → Good u p → Toward (with_own u o p) d → IsOwnBase whole own o (own_number u o p)
    own_stands None p g t = tt
    own_stands (Some n) p g t = base_stands n p g t

    -- ---- instructions

    points_well : (a : Act) → PointsToStart d.names a → PointsWell whole own a
    points_well (acts.Address to base offset) start = subst (λ o. IsAtStart o offset) (same_name base) start
    points_well a start = tt

    low_act : (block at : ℕ) (s : Step) → At last block at s → IsActLow s.does
    low_act block at s is = let x = in_block u entry last temps none_ready block at s is in low.steps block at x.it s x.there x.stands

    -- an instruction of the copy stands in the program
    pub put : (at : Place) (a : Act) (p : Placed) → Good u p → PointsToStart d.names a → Extends (with_act u at a p).program last → Toward (with_act u at a p) d → IsPut whole own at a (length p.program.blocks) (length p.program.ready)
    put at a p g start extends t =
        let q = with_own u (own_base a) p in
        let o = only_own u (own_base a) p g in
        let b = own_number u (own_base a) p in
        let s = instruction at (moved p.within.depth b a) in
        let toward_q : Toward q d = record { kept = t.kept; more = t.more; within = t.within } in
        let before = toward_only p q d o toward_q in
        let depth_is : p.within.depth ≡ min depth (2 ^ 32 - 1) = sym (ap (λ (c : CopyView). c.depth) before.within) ∙ deep in
        let blocks : length q.program.blocks ≡ length p.program.blocks = ap (λ (m : Made). length m.blocks) o.program in
        let ready : length q.program.ready ≡ length p.program.ready = ap (λ (m : Made). length m.ready) o.program in
        let there : At last (length p.program.blocks) (length p.program.ready) s = subst₂ (λ i j. At last i j s) blocks ready (extends.steps (length q.program.blocks) (length q.program.ready) s (at_ready s q.program)) in
        let is_shifted = moved_is_shifted p.within.depth depth depth_is b a (low_act _ _ s there) in
        record {
          base = b;
          is_base = subst (λ x. IsOwnBase whole own x b) (sym (same_base a)) (own_stands (own_base a) p g toward_q);
          points = points_well a start;
          stands = subst (λ x. layouts.Stands whole (length p.program.blocks) (length p.program.ready) (record { at = at; does = x })) is_shifted (stands_in u entry last temps none_ready _ _ s there);
        }

    -- ---- edges

    is_side : (x : Side) (p : Placed) → Good u p → Toward (with_side u x p) d → IsSide whole own x (side_moved u x p)
    is_side (side.Object n kind) p g t = layouts.object n (base_number u n p) kind (base_stands n p g t)
    is_side (side.Number n) p g t = layouts.number n
    is_side side.Null p g t = layouts.nothing

    is_test : (x : Option Test) (p : Placed) → Good u p → Toward (with_test u x p) d → IsTest whole own x (test_moved u x p)
    is_test None p g t = layouts.none
    is_test (Some x) p g t =
        let left = only_side u x.left p g in
        let before = toward_only (with_side u x.left p) (with_test u (Some x) p) d (only_side u x.right (with_side u x.left p) left.good) t in
        layouts.some x (side_moved u x.left p) (side_moved u x.right (with_side u x.left p)) (is_side x.left p g before) (is_side x.right (with_side u x.left p) left.good t)

    -- ---- cases

    switched : (n : ℕ) (p : Placed) → Good u p → Toward (with_base u n p) d → IsInteger (type_named u d.function (slice_get d.names n)) → IsSwitchedObject whole own n (base_number u n p)
    switched n p g t integer ty = subst (λ o. type_if whole own o ≡ Some ty → IsSwitched whole ty (base_number u n p)) (same_name n) (by (slice_get d.names n) refl integer)
      where
        b : ℕ
        b = base_number u n p

        function_is : p.within.function ≡ d.function
        function_is = sym (ap (λ (c : CopyView). c.function) (toward_only p (with_base u n p) d (only_base u n p g) t).within)

        local_at : (slot : ℕ) → known (with_base u n p).within.locals slot ≡ Some (base_number u n p) → LocalAt u d.function (with_base u n p).program.bases.bases slot (base_number u n p)
        local_at slot is = subst (λ f. LocalAt u f (with_base u n p).program.bases.bases slot (base_number u n p)) function_is ((only_base u n p g).good.locals.are slot (base_number u n p) is)

        of_local : (slot : ℕ) → known (with_base u n p).within.locals slot ≡ Some (base_number u n p) → IsInteger (Some (local_type d.function slot)) → Some (local_type d.function slot) ≡ Some ty → IsSwitched whole ty (base_number u n p)
        of_local slot is integer same =
            let x = local_at slot is in
            switched_by (local_type d.function slot) ty (base_number u n p) x.info (info_kept (with_base u n p).program.bases last.bases (base_number u n p) x.info t.more x.there) x.size x.cells integer (some_same (local_type d.function slot) ty same)

        by : (o : Option NameView) → slice_get d.names n ≡ o → IsInteger (type_named u d.function o) → type_if whole own o ≡ Some ty → IsSwitched whole ty (base_number u n p)
        by None is integer same = absurd (none_is_not ty same)
        by (Some (Local slot)) is integer same = of_local slot (stands_named n p (Local slot) g t is) integer (ap (λ f. local_of f slot) (sym function) ∙ same)
        by (Some Outcome) is integer same = of_local (length d.function.locals) (stands_named n p Outcome g t is) integer (ap result_type (sym function) ∙ same)
        by (Some (Static k)) is integer same =
            let x = (only_base u n p g).good.table.objects k (base_number u n p) (stands_named n p (Static k) g t is) in
            let kind : static_type (slice_get u.objects k) ≡ Some x.object.ctype = ap static_type x.stands in
            switched_by x.object.ctype ty (base_number u n p) x.info (info_kept (with_base u n p).program.bases last.bases (base_number u n p) x.info t.more x.there) x.size x.cells (subst IsInteger kind integer) (some_same x.object.ctype ty (sym kind ∙ same))
        by (Some (Literal k)) is integer same = absurd (none_is_not ty same)
        by (Some (Allocation target)) is integer same = absurd (none_is_not ty same)

    is_case : (x : Option ℕ) (p : Placed) → Good u p → ((n : ℕ) → x ≡ Some n → IsInteger (type_named u d.function (slice_get d.names n))) → Toward (with_own u x p) d → IsCaseObject whole own x (object_moved u x p)
    is_case None p g integer t = layouts.none
    is_case (Some n) p g integer t = layouts.some n (base_number u n p) (base_stands n p g t) (switched n p g t (integer n refl))

    -- ---- ways

    is_way : (w : Way) (p : Placed) → Good u p → SwitchesOn u d.function d.names w → p.within.depth ≡ min depth (2 ^ 32 - 1) → IsWayLow (way_moved u w p) → Toward (with_way u w p) d → IsWay whole own w (way_moved u w p)
    is_way Always p g on deep_p less t = layouts.always
    is_way (When truth test puts) p g on deep_p less t =
        subst (λ x. IsWay whole own (When truth test puts) (When truth (test_moved u test p) x)) (sym (low_put p.within.depth depth deep_p puts less)) (layouts.when truth test (test_moved u test p) puts (is_test test p g t))
    is_way (Case c) p g on deep_p less t = layouts.in_case c.value c.object (object_moved u c.object p) (is_case c.object p g on t)
    is_way (Other values) p g on deep_p less t = layouts.otherwise values
    is_way NoLine p g on deep_p less t = layouts.no_line
    is_way Line p g on deep_p less t = layouts.line

    -- the edges that a block gets
    pub record Led (es : List ExitView) (p q : Placed) : Type 0 where
      pub edges : List EdgeView
      pub all : q.program.edges ≡ p.program.edges ++ edges
      pub are_led : AreLed whole own es (resolved last.labels edges)

    pub exits_led : (from : ℕ) (es : List ExitView) (p : Placed) → Good u p → AllSwitchOn u d.function d.names es → Extends (with_exits u from es p).program last → Toward (with_exits u from es p) d → Led es p (with_exits u from es p)
    exits_led from [] p g on extends t = record { edges = []; all = sym (append-nil p.program.edges); are_led = layouts.none }
    exits_led from (e ∷ es) p g (one, on) extends t =
        let r = with_way u e.taken p in
        let q = with_exit u from e p in
        let only = only_way u e.taken p g in
        let s = steps_exit u from e p g in
        let rest = steps_exits u from es q s.good in
        let toward_q = toward_back q (with_exits u from es q) d rest t in
        let toward_r : Toward r d = record { kept = toward_q.kept; more = toward_q.more; within = toward_q.within } in
        let before = toward_only p r d only toward_r in
        let x = edge_to from (e.to + p.within.labels) (way_moved u e.taken p) in
        let to_last = extends_twice q.program (with_exits u from es q).program last rest.extends extends in
        let stands : slice_get last.edges (length r.program.edges) ≡ Some x = ap (λ xs. slice_get xs (length r.program.edges)) to_last.edges ∙ left_of q.program.edges to_last.more_edges (length r.program.edges) x (at_end r.program.edges x []) in
        let less : IsWayLow (way_moved u e.taken p) = low.edges (length r.program.edges) (resolved_edge last.labels x) (edge_in u entry last temps none_ready (length r.program.edges) x stands) in
        let deep_p : p.within.depth ≡ min depth (2 ^ 32 - 1) = sym (ap (λ (c : CopyView). c.depth) before.within) ∙ deep in
        let labels : p.within.labels ≡ d.labels = sym (ap (λ (c : CopyView). c.labels) before.within) in
        let l = exits_led from es q s.good on extends t in
        let edges_r : r.program.edges ≡ p.program.edges = ap (λ (m : Made). m.edges) only.program in
        record {
          edges = x ∷ l.edges;
          all = l.all ∙ append_assoc r.program.edges (x ∷ []) l.edges ∙ ap (λ xs. xs ++ x ∷ l.edges) edges_r;
          are_led =
              subst (λ k. AreLed whole own (e ∷ es) (record { from = from; to = get_or last.labels (e.to + k) 0; taken = way_moved u e.taken p } ∷ resolved last.labels l.edges)) (sym labels)
              (layouts.one e from (way_moved u e.taken p) es (resolved last.labels l.edges) (is_way e.taken p g one deep_p less toward_r) l.are_led);
        }
