-- Every turn of an opening makes the bases that its piece names.
use Rattle.std.proofs.Common.{◌≡◌, ℕ, ◌+◌, Bool, true, false, cond, List, [], ◌∷◌, ◌++◌, length, Option, Some, None, refl, arith, ap, sym, subst, ◌∙◌}
use Rattle.cc_base.specs.declared.diagnostics.Place.{Place}
use Rattle.c_layout.specs.CheckedUnits.{FunctionView, UnitView}
use Rattle.cfg.specs.declared.flow_edges.Side.{Side}
use Rattle.cfg.specs.declared.flow_edges.Side.TheVariants as side
use Rattle.cfg.specs.declared.flow_edges.Test.{Test}
use Rattle.lower_templates.specs.Worklist.Acts as acts
use Rattle.lower_templates.specs.Worklist.Acts.{Act, Step}
use Rattle.lower_templates.specs.Worklist.Pieces.{NameView, Way, Always, When, Case, Other, NoLine, Line, ExitView, PieceView, Do, DoIfUsed, End, Mark, Call, TemplateView}
use Rattle.lower_objects.specs.declared.counts.function_counts.FunctionCounts.{FunctionCounts}
use Rattle.lower_objects.specs.Counts.PieceCounts.{counted}
use Rattle.lower_objects.specs.Counts.BaseCounts.{bases_of}
use Rattle.lower.specs.TemplateLaws.NamedBases.{maybe, named_by, named_in_side, named_in_test, named_on_way, named_on_exits}
use Rattle.lower.specs.Inlining.MovedActs.{own_base}
use Rattle.lower_tables.specs.Bases.BaseTables.{base}
use Rattle.lower.specs.Inlining.Inlinings as o
use Rattle.lower.specs.Inlining.Inlinings.{Made, CopyView, Placed, Inlined, placed, inlined, name_at, is_none}
use Rattle.lower.proofs.inlining.CountedCalls.{CalledIs}
use Rattle.lower.proofs.inlining.NotedSlots.{adds_all, after_all, adds_append, after_append}
use Rattle.lower.proofs.inlining.WeighedBases.{Weights, own_weight, noted, object_of, names_base}

abbrev pub names_at : List NameView → List ℕ → List NameView
names_at names [] = []
names_at names (n ∷ ns) = name_at names n ∷ names_at names ns

names_append : (names : List NameView) (xs ys : List ℕ) → names_at names (xs ++ ys) ≡ names_at names xs ++ names_at names ys
names_append names [] ys = refl
names_append names (x ∷ xs) ys = ap (λ ns. name_at names x ∷ ns) (names_append names xs ys)

-- what a piece of a copy names, whose value is used or not
abbrev pub done_named : Bool → PieceView → List ℕ
done_named used (Do s) = named_by s.does
done_named used (DoIfUsed s) = cond used (named_by s.does) []
done_named used (End s exits) = named_by s.does ++ named_on_exits exits
done_named used (Mark label) = []
done_named used (Call c) = []

abbrev pub all_done_named : Bool → List PieceView → List ℕ
all_done_named used [] = []
all_done_named used (p ∷ ps) = done_named used p ++ all_done_named used ps

own_named : (a : Act) → maybe (own_base a) ≡ named_by a
own_named (acts.Constant to value kind) = refl
own_named (acts.Address to base offset) = refl
own_named (acts.Load to from kind) = refl
own_named (acts.Store to from kind kept) = refl
own_named (acts.Copy to from index) = refl
own_named (acts.Narrow to from offset size) = refl
own_named (acts.Shift to from by size backward) = refl
own_named (acts.Binary to sign left right kind) = refl
own_named (acts.Unary to sign from kind) = refl
own_named (acts.Compare to sign left right) = refl
own_named (acts.Not to from kind) = refl
own_named (acts.Difference to left right size) = refl
own_named (acts.ComparePointers to sign left right) = refl
own_named (acts.Convert to from old new) = refl
own_named (acts.Library to function arguments newest size) = refl
own_named (acts.Enter base) = refl
own_named (acts.Leave base) = refl
own_named (acts.Forget base) = refl
own_named (acts.Clear base) = refl
own_named (acts.Spell base offset room text) = refl
own_named acts.Jump = refl
own_named (acts.Branch from kind) = refl
own_named (acts.Switch from kind) = refl
own_named (acts.ReadLine to text count stream) = refl
own_named acts.Stop = refl

module _ (u : UnitView) (w : Weights u) where
  abbrev pub bases_weight : Made → ℕ
  bases_weight m = own_weight w.info m.bases.bases

  abbrev pub more_for : FunctionView → List NameView → List (Option ℕ) → ℕ
  more_for f xs locals = adds_all (object_of u w f) w.site (length f.locals) xs (noted locals)

  -- a copy of this function with these names
  pub record IsOf (f : FunctionView) (names : List NameView) (p : Placed) : Type 0 where
    pub of_function : p.within.function ≡ f
    pub has_names : p.within.names ≡ names

  -- what naming makes of the program and its copy
  pub record Naming (f : FunctionView) (names xs : List NameView) (p q : Placed) : Type 0 where
    pub own : bases_weight q.program ≡ bases_weight p.program + more_for f xs p.within.locals
    pub notes : noted q.within.locals ≡ after_all (length f.locals) xs (noted p.within.locals)
    pub is_of : IsOf f names q
    pub rest : q.within.rest ≡ p.within.rest
    pub used : q.within.used ≡ p.within.used

  pub none_named : (f : FunctionView) (names : List NameView) (p : Placed) → IsOf f names p → Naming f names [] p p
  none_named f names p is = record { own = same (bases_weight p.program); notes = refl; is_of = is; rest = refl; used = refl }
    where
      same : (a : ℕ) → a ≡ a + 0
      same a = omega arith

  pub both_named : (f : FunctionView) (names xs ys : List NameView) (p q r : Placed) → Naming f names xs p q → Naming f names ys q r → Naming f names (xs ++ ys) p r
  both_named f names xs ys p q r a b =
      let there = ap (λ k. adds_all (object_of u w f) w.site (length f.locals) ys k) a.notes in
      let all = adds_append (object_of u w f) w.site (length f.locals) xs ys (noted p.within.locals) in
      record {
        own = sum _ _ _ _ _ _ _ a.own b.own there all;
        notes = b.notes ∙ ap (after_all (length f.locals) ys) a.notes ∙ sym (after_append (length f.locals) xs ys (noted p.within.locals));
        is_of = b.is_of;
        rest = b.rest ∙ a.rest;
        used = b.used ∙ a.used;
      }
    where
      sum : (p q r x y z t : ℕ) → q ≡ p + x → r ≡ q + y → y ≡ z → t ≡ x + z → r ≡ p + t
      sum p q r x y z t a b c d = omega arith

  -- one name
  here_named : (x : NameView) (p : Placed) → Naming p.within.function p.within.names (x ∷ []) p (o.after_naming (base u p.within.function x p.within.locals p.program.bases) p)
  here_named x p =
      let n = names_base u w p.within.function x p.within.locals p.program.bases in
      record { own = n.own ∙ one _ _; notes = n.notes; is_of = record { of_function = refl; has_names = refl }; rest = refl; used = refl }
    where
      one : (a b : ℕ) → a + b ≡ a + (b + 0)
      one a b = omega arith

  pub one_named : (f : FunctionView) (names : List NameView) (x : NameView) (p : Placed) → IsOf f names p → Naming f names (x ∷ []) p (o.after_naming (base u p.within.function x p.within.locals p.program.bases) p)
  one_named f names x p is =
      let q = o.after_naming (base u p.within.function x p.within.locals p.program.bases) p in
      subst (λ ns. Naming f ns (x ∷ []) p q) is.has_names (subst (λ g. Naming g p.within.names (x ∷ []) p q) is.of_function (here_named x p))

  base_named : (f : FunctionView) (names : List NameView) (n : ℕ) (p : Placed) → IsOf f names p → Naming f names (name_at names n ∷ []) p (o.with_base u n p)
  base_named f names n p is = subst (λ ns. Naming f names (name_at ns n ∷ []) p (o.with_base u n p)) is.has_names (one_named f names (name_at p.within.names n) p is)

  abbrev NamingAt : FunctionView → List NameView → List ℕ → Placed → Placed → Type 0
  NamingAt f names ns p q = Naming f names (names_at names ns) p q

  then_named : (f : FunctionView) (names : List NameView) (ms ns : List ℕ) (p q r : Placed) → NamingAt f names ms p q → NamingAt f names ns q r → NamingAt f names (ms ++ ns) p r
  then_named f names ms ns p q r a b = subst (λ xs. Naming f names xs p r) (sym (names_append names ms ns)) (both_named f names (names_at names ms) (names_at names ns) p q r a b)

  own_naming : (f : FunctionView) (names : List NameView) (n : Option ℕ) (p : Placed) → IsOf f names p → NamingAt f names (maybe n) p (o.with_own u n p)
  own_naming f names None p is = none_named f names p is
  own_naming f names (Some n) p is = base_named f names n p is

  side_naming : (f : FunctionView) (names : List NameView) (s : Side) (p : Placed) → IsOf f names p → NamingAt f names (named_in_side s) p (o.with_side u s p)
  side_naming f names (side.Object n kind) p is = base_named f names n p is
  side_naming f names (side.Number n) p is = none_named f names p is
  side_naming f names side.Null p is = none_named f names p is

  test_naming : (f : FunctionView) (names : List NameView) (t : Option Test) (p : Placed) → IsOf f names p → NamingAt f names (named_in_test t) p (o.with_test u t p)
  test_naming f names None p is = none_named f names p is
  test_naming f names (Some t) p is =
      let left = side_naming f names t.left p is in
      then_named f names (named_in_side t.left) (named_in_side t.right) p (o.with_side u t.left p) (o.with_test u (Some t) p) left (side_naming f names t.right (o.with_side u t.left p) left.is_of)

  way_naming : (f : FunctionView) (names : List NameView) (x : Way) (p : Placed) → IsOf f names p → NamingAt f names (named_on_way x) p (o.with_way u x p)
  way_naming f names Always p is = none_named f names p is
  way_naming f names (When truth test puts) p is = test_naming f names test p is
  way_naming f names (Case c) p is = own_naming f names c.object p is
  way_naming f names (Other values) p is = none_named f names p is
  way_naming f names NoLine p is = none_named f names p is
  way_naming f names Line p is = none_named f names p is

  exit_naming : (f : FunctionView) (names : List NameView) (from : ℕ) (e : ExitView) (p : Placed) → IsOf f names p → NamingAt f names (named_on_way e.taken) p (o.with_exit u from e p)
  exit_naming f names from e p is =
      let n = way_naming f names e.taken p is in
      record { own = n.own; notes = n.notes; is_of = record { of_function = n.is_of.of_function; has_names = n.is_of.has_names }; rest = n.rest; used = n.used }

  exits_naming : (f : FunctionView) (names : List NameView) (from : ℕ) (es : List ExitView) (p : Placed) → IsOf f names p → NamingAt f names (named_on_exits es) p (o.with_exits u from es p)
  exits_naming f names from [] p is = none_named f names p is
  exits_naming f names from (e ∷ es) p is =
      let one = exit_naming f names from e p is in
      then_named f names (named_on_way e.taken) (named_on_exits es) p (o.with_exit u from e p) (o.with_exits u from (e ∷ es) p) one (exits_naming f names from es (o.with_exit u from e p) one.is_of)

  act_naming : (f : FunctionView) (names : List NameView) (at : Place) (a : Act) (p : Placed) → IsOf f names p → NamingAt f names (named_by a) p (o.with_act u at a p)
  act_naming f names at a p is =
      let n = own_naming f names (own_base a) p is in
      subst (λ ns. NamingAt f names ns p (o.with_act u at a p)) (own_named a) (record { own = n.own; notes = n.notes; is_of = record { of_function = n.is_of.of_function; has_names = n.is_of.has_names }; rest = n.rest; used = n.used })

  if_used_naming : (f : FunctionView) (names : List NameView) (a : Act) (p : Placed) → IsOf f names p → NamingAt f names (cond p.within.used (named_by a) []) p (o.with_act_if_used u a p)
  if_used_naming f names a p is = by_used p.within.used
    where
      by_used : (b : Bool) → NamingAt f names (cond b (named_by a) []) p (cond b (o.with_act u p.within.at a p) p)
      by_used true = act_naming f names p.within.at a p is
      by_used false = none_named f names p is

  closed_naming : (f : FunctionView) (names : List NameView) (s : Step) (exits : List ExitView) (p : Placed) → IsOf f names p → NamingAt f names (named_by s.does ++ named_on_exits exits) p (o.closed u s exits p)
  closed_naming f names s exits p is =
      let acted = o.with_act u s.at s.does p in
      let one = act_naming f names s.at s.does p is in
      let n = then_named f names (named_by s.does) (named_on_exits exits) p acted (o.with_exits u (length p.program.blocks) exits acted) one (exits_naming f names (length p.program.blocks) exits acted one.is_of) in
      record { own = n.own; notes = n.notes; is_of = record { of_function = n.is_of.of_function; has_names = n.is_of.has_names }; rest = n.rest; used = n.used }

  -- labels name nothing
  marked_bases : (at : Place) (label : ℕ) (m : Made) → bases_weight (o.marked at label m) ≡ bases_weight m
  marked_bases at label m = by_none (is_none m.ready)
    where
      by_none : (b : Bool) → bases_weight (cond b m (o.jumped at label m)) ≡ bases_weight m
      by_none true = refl
      by_none false = refl

  mark_naming : (f : FunctionView) (names : List NameView) (label : ℕ) (p : Placed) → IsOf f names p → NamingAt f names [] p (o.with_mark label p)
  mark_naming f names label p is =
      let n = none_named f names p is in
      record { own = marked_bases p.within.at (label + p.within.labels) p.program ∙ n.own; notes = refl; is_of = record { of_function = is.of_function; has_names = is.has_names }; rest = refl; used = refl }

  -- what copies still make
  abbrev pub calls_weight : List (Option FunctionCounts) → List PieceView → ℕ
  calls_weight table [] = 0
  calls_weight table (Do s ∷ ps) = calls_weight table ps
  calls_weight table (DoIfUsed s ∷ ps) = calls_weight table ps
  calls_weight table (End s exits ∷ ps) = calls_weight table ps
  calls_weight table (Mark label ∷ ps) = calls_weight table ps
  calls_weight table (Call c ∷ ps) = w.pick (bases_of (counted table c.function)) + calls_weight table ps

  abbrev pub rest_weight : List (Option FunctionCounts) → FunctionView → List NameView → Bool → List PieceView → List Bool → ℕ
  rest_weight table f names used rest before = adds_all (object_of u w f) w.site (length f.locals) (names_at names (all_done_named used rest)) before + calls_weight table rest

  abbrev pub copy_weight : List (Option FunctionCounts) → CopyView → ℕ
  copy_weight table c = rest_weight table c.function c.names c.used c.rest (noted c.locals)

  abbrev pub copies_weight : List (Option FunctionCounts) → List CopyView → ℕ
  copies_weight table [] = 0
  copies_weight table (c ∷ cs) = copy_weight table c + copies_weight table cs

  -- what is made and what copies still make
  abbrev pub whole_weight : List (Option FunctionCounts) → Inlined → ℕ
  whole_weight table x = own_weight w.info x.program.bases.bases + copies_weight table x.stack

  pub copy_after : (table : List (Option FunctionCounts)) (f : FunctionView) (names xs : List NameView) (p q : Placed) → Naming f names xs p q → copy_weight table q.within ≡ rest_weight table f names p.within.used p.within.rest (after_all (length f.locals) xs (noted p.within.locals))
  copy_after table f names xs p q n = λ i. rest_weight table (n.is_of.of_function i) (n.is_of.has_names i) (n.used i) (n.rest i) (n.notes i)

  -- a piece that is no call
  piece_weight : (table : List (Option FunctionCounts)) (f : FunctionView) (names : List NameView) (ns : List ℕ) (stack : List CopyView) (p q : Placed) → NamingAt f names ns p q
      → whole_weight table (o.back_in stack q) ≡ bases_weight p.program + ((adds_all (object_of u w f) w.site (length f.locals) (names_at names (ns ++ all_done_named p.within.used p.within.rest)) (noted p.within.locals) + calls_weight table p.within.rest) + copies_weight table stack)
  piece_weight table f names ns stack p q n =
      let later = all_done_named p.within.used p.within.rest in
      let add = adds_all (object_of u w f) w.site (length f.locals) in
      let all : add (names_at names (ns ++ later)) (noted p.within.locals) ≡ add (names_at names ns) (noted p.within.locals) + add (names_at names later) (after_all (length f.locals) (names_at names ns) (noted p.within.locals)) =
      ap (λ xs. add xs (noted p.within.locals)) (names_append names ns later) ∙ adds_append (object_of u w f) w.site (length f.locals) (names_at names ns) (names_at names later) (noted p.within.locals) in
      sum _ _ _ _ _ _ _ _ n.own (copy_after table f names (names_at names ns) p q n) all
    where
      sum : (q p x c y k s t : ℕ) → q ≡ p + x → c ≡ y + k → t ≡ x + y → q + (c + s) ≡ p + ((t + k) + s)
      sum q p x c y k s t a b d = omega arith

  pub turn_weight : (table : List (Option FunctionCounts)) (ts : List (Option TemplateView)) (q : PieceView) (c : CopyView) (stack : List CopyView) (m : Made) → calls_weight table (q ∷ []) ≡ 0 → CalledIs (λ n. ⊥) q
      → whole_weight table (o.turn u ts q c stack m) ≡ own_weight w.info m.bases.bases + ((adds_all (object_of u w c.function) w.site (length c.function.locals) (names_at c.names (done_named c.used q ++ all_done_named c.used c.rest)) (noted c.locals) + calls_weight table c.rest) + copies_weight table stack)
  turn_weight table ts (Do s) c stack m none no_call = piece_weight table c.function c.names (named_by s.does) stack (placed m c) (o.with_act u s.at s.does (placed m c)) (act_naming c.function c.names s.at s.does (placed m c) (record { of_function = refl; has_names = refl }))
  turn_weight table ts (DoIfUsed s) c stack m none no_call = piece_weight table c.function c.names (cond c.used (named_by s.does) []) stack (placed m c) (o.with_act_if_used u s.does (placed m c)) (if_used_naming c.function c.names s.does (placed m c) (record { of_function = refl; has_names = refl }))
  turn_weight table ts (End s exits) c stack m none no_call = piece_weight table c.function c.names (named_by s.does ++ named_on_exits exits) stack (placed m c) (o.closed u s exits (placed m c)) (closed_naming c.function c.names s exits (placed m c) (record { of_function = refl; has_names = refl }))
  turn_weight table ts (Mark label) c stack m none no_call = piece_weight table c.function c.names [] stack (placed m c) (o.with_mark label (placed m c)) (mark_naming c.function c.names label (placed m c) (record { of_function = refl; has_names = refl }))
  turn_weight table ts (Call call) c stack m none no_call = absurd no_call
