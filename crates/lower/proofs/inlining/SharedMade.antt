-- The bases of objects of static storage and of literals that a program has were all counted.
use Rattle.std.proofs.Common.{◌≡◌, ◌≤◌, ℕ, zero, suc, ◌+◌, ◌-◌, ◌^◌, Bool, true, false, cond, List, [], ◌∷◌, ◌++◌, length, replicate, Option, Some, None, refl, arith, ap, sym, subst, ◌∙◌}
use Rattle.std.specs.List.{slice_get}
use Rattle.cc_base.specs.declared.diagnostics.Place.{Place}
use Rattle.c_layout.specs.Layout.{size_of_type}
use Rattle.c_layout.specs.CheckedUnits.{FunctionView, StaticView, LiteralView, UnitView}
use Rattle.c_layout.specs.declared.checked_tree.checked_units.StaticBase.{StaticBase}
use Rattle.c_layout.specs.declared.checked_tree.checked_units.StaticBase.TheVariants as shared
use Rattle.c_layout.specs.declared.shapes.BaseInfo.{BaseInfo}
use Rattle.c_layout.specs.declared.shapes.BaseKind.TheVariants as kind
use Rattle.lower_objects.specs.Shapes.HeapBases.{heap_shape}
use Rattle.cfg.specs.declared.flow_edges.Side.{Side}
use Rattle.cfg.specs.declared.flow_edges.Side.TheVariants as side
use Rattle.cfg.specs.declared.flow_edges.Test.{Test}
use Rattle.lower_templates.specs.Worklist.Pieces.{NameView, Local, Outcome, Static, Literal, Allocation, Way, Always, When, Case, Other, NoLine, Line, ExitView, PieceView, Do, DoIfUsed, End, Mark, Call, TemplateView}
use Rattle.lower_templates.specs.declared.worklist.template_pieces.OwnCall.{OwnCall}
use Rattle.lower_objects.specs.Counts.SharedObjects.{literal_type, Sharing, bases_named, template_bases, all_bases}
use Rattle.lower.specs.Inlining.MovedActs.{own_base}
use Rattle.lower_tables.specs.Bases.BaseTables as bases
use Rattle.lower_tables.specs.Bases.BaseTables.{TableView, info, added, found_in, known, local_or, literal_made, literal_or, object_made, object_or, with_shared, brought, with_all, base}
use Rattle.lower.specs.Inlining.Inlinings as o
use Rattle.lower.specs.Inlining.Inlinings.{Made, CopyView, Placed, Inlined, placed, is_none, name_at, joined, template_at}
use Rattle.lower.proofs.inlining.WellMadeEdges.{cond_keeps}
use Rattle.lower.proofs.inlining.NotedSlots.{Within, set_within, slots_weight, new_weight, within_weight}
use Rattle.lower.proofs.inlining.WeighedBases.{Weights, is_own, shared_weight, shared_more, noted, first_of, new_at, noted_set}
use Rattle.lower.proofs.inlining.SharedVisits.{AllOf, Seen, all_append, object_weight, literal_weight, noted_weight, object_type_weight, literal_type_weight, past_none, IsVisited}

within_length : (a b : List Bool) → Within a b → length a ≡ length b
within_length [] [] w = refl
within_length [] (b ∷ bs) w = absurd w
within_length (a ∷ as_) [] w = absurd w
within_length (false ∷ as_) (b ∷ bs) w = ap suc (within_length as_ bs w)
within_length (true ∷ as_) (true ∷ bs) w = ap suc (within_length as_ bs w)
within_length (true ∷ as_) (false ∷ bs) w = absurd w

none_at : (list : List (Option ℕ)) (n : ℕ) → slice_get list n ≡ None → slice_get (noted list) n ≡ None
none_at [] n is = refl
none_at (x ∷ xs) zero is = cc
none_at (x ∷ xs) (suc n) is = none_at xs n is

-- a name whose base was counted
abbrev pub Allowed : Sharing → NameView → Type 0
Allowed s (Local n) = Unit {0}
Allowed s Outcome = Unit {0}
Allowed s (Static n) = Seen s (shared.Object n)
Allowed s (Literal n) = Seen s (shared.Literal n)
Allowed s (Allocation target) = Unit {0}

abbrev pub AllAllowed : Sharing → List NameView → Type 0
AllAllowed s [] = Unit {0}
AllAllowed s (x ∷ xs) = Allowed s x × AllAllowed s xs

allowed_at : (s : Sharing) (names : List NameView) (n : ℕ) → AllAllowed s names → Allowed s (name_at names n)
allowed_at s [] n all = tt
allowed_at s (x ∷ xs) zero (one, all) = one
allowed_at s (x ∷ xs) (suc n) (one, all) = allowed_at s xs n all

names_allowed : (s : Sharing) (xs : List NameView) → AllOf (Seen s) (bases_named xs) → AllAllowed s xs
names_allowed s [] all = tt
names_allowed s (Local n ∷ xs) all = (tt, names_allowed s xs all)
names_allowed s (Outcome ∷ xs) all = (tt, names_allowed s xs all)
names_allowed s (Static n ∷ xs) (one, all) = (one, names_allowed s xs all)
names_allowed s (Literal n ∷ xs) (one, all) = (one, names_allowed s xs all)
names_allowed s (Allocation target ∷ xs) all = (tt, names_allowed s xs all)

all_left : (P : StaticBase → Type 0) (xs ys : List StaticBase) → AllOf P (xs ++ ys) → AllOf P xs
all_left P [] ys all = tt
all_left P (x ∷ xs) ys (one, all) = (one, all_left P xs ys all)

all_right : (P : StaticBase → Type 0) (xs ys : List StaticBase) → AllOf P (xs ++ ys) → AllOf P ys
all_right P [] ys all = all
all_right P (x ∷ xs) ys (one, all) = all_right P xs ys all

-- the names of a template that is put in
template_allowed : (s : Sharing) (ts : List (Option TemplateView)) (n : ℕ) (t : TemplateView) → AllOf (Seen s) (all_bases ts) → template_at ts n ≡ Some t → AllAllowed s t.names
template_allowed s [] n t all is = cc
template_allowed s (x ∷ ts) zero t all is = names_allowed s t.names (subst (λ y. AllOf (Seen s) (template_bases y)) is (all_left (Seen s) (template_bases x) (all_bases ts) all))
template_allowed s (x ∷ ts) (suc n) t all is = template_allowed s ts n t (all_right (Seen s) (template_bases x) (all_bases ts) all) is

module _ (u : UnitView) (w : Weights u) (ts : List (Option TemplateView)) (s : Sharing) (v : IsVisited u ts s) where
  -- the shared bases weigh what is noted, and all of it was counted
  record Counted (b : TableView) : Type 0 where
    weight : shared_weight w.info b.bases ≡ noted_weight u w (noted b.objects) (noted b.literals)
    objects : Within (noted b.objects) s.objects
    literals : Within (noted b.literals) s.literals

  unshared : (bs : List BaseInfo) (x : BaseInfo) (k : ℕ) → is_own x.kind ≡ true → shared_weight w.info bs ≡ k → shared_weight w.info (bs ++ x ∷ []) ≡ k
  unshared bs x k own is = shared_more w.info bs x ∙ none _ _ _ is (ap (λ b. cond b 0 (w.info x)) own)
    where
      none : (a b c : ℕ) → a ≡ c → b ≡ 0 → a + b ≡ c
      none a b c p q = omega arith

  sum_objects : (m a l x y t z : ℕ) → m ≡ a + l → x ≡ y → t ≡ a + z → z ≡ y → m + x ≡ t + l
  sum_objects m a l x y t z p q r e = omega arith

  sum_literals : (m a l x y t z : ℕ) → m ≡ a + l → x ≡ y → t ≡ l + z → z ≡ y → m + x ≡ a + t
  sum_literals m a l x y t z p q r e = omega arith

  object_new : (n : ℕ) (b : TableView) (x : StaticView) → slice_get b.objects n ≡ Some None → slice_get u.objects n ≡ Some x → Seen s (shared.Object n) → Counted b → Counted (object_made u n b (Some x))
  object_new n b x free there seen c =
      let new = new_at b.objects n ∙ ap first_of free in
      let here : 0 + n ≡ n = omega arith in
      let same = ap (object_weight u w) here ∙ ap (object_type_weight w.object) there in
      let more = new_weight (object_weight u w) 0 (noted b.objects) n new in
      let set = noted_set b.objects n (length b.bases) in
      let weighs = w.weighs_object kind.Static (size_of_type u.structs u.model.pointer x.ctype) b.width x.ctype in
      record {
        weight = shared_more w.info b.bases _ ∙ sum_objects _ _ _ _ _ _ _ c.weight weighs more same ∙ ap (λ k. noted_weight u w k (noted b.literals)) (sym set);
        objects = subst (λ k. Within k s.objects) (sym set) (set_within (noted b.objects) s.objects n c.objects seen);
        literals = c.literals;
      }

  literal_new : (n : ℕ) (b : TableView) (x : LiteralView) → slice_get b.literals n ≡ Some None → slice_get u.literals n ≡ Some x → Seen s (shared.Literal n) → Counted b → Counted (literal_made u n b (Some x))
  literal_new n b x free there seen c =
      let new = new_at b.literals n ∙ ap first_of free in
      let here : 0 + n ≡ n = omega arith in
      let same = ap (literal_weight u w) here ∙ ap (literal_type_weight u w.object) there in
      let more = new_weight (literal_weight u w) 0 (noted b.literals) n new in
      let set = noted_set b.literals n (length b.bases) in
      let t = literal_type u.model.char_signed (length x.bytes) in
      let weighs = w.weighs_object kind.Literal (size_of_type u.structs u.model.pointer t) b.width t in
      record {
        weight = shared_more w.info b.bases _ ∙ sum_literals _ _ _ _ _ _ _ c.weight weighs more same ∙ ap (λ k. noted_weight u w (noted b.objects) k) (sym set);
        objects = c.objects;
        literals = subst (λ k. Within k s.literals) (sym set) (set_within (noted b.literals) s.literals n c.literals seen);
      }

  no_object : (n : ℕ) (b : TableView) → slice_get b.objects n ≡ None → Counted b → slice_get u.objects n ≡ None
  no_object n b none c = past_none u.objects (noted b.objects) n (within_length (noted b.objects) s.objects c.objects ∙ v.objects) (none_at b.objects n none)

  no_literal : (n : ℕ) (b : TableView) → slice_get b.literals n ≡ None → Counted b → slice_get u.literals n ≡ None
  no_literal n b none c = past_none u.literals (noted b.literals) n (within_length (noted b.literals) s.literals c.literals ∙ v.literals) (none_at b.literals n none)

  counted_object : (n : ℕ) (b : TableView) (free : Option (Option ℕ)) (found : Option StaticView) → slice_get b.objects n ≡ free → slice_get u.objects n ≡ found → Seen s (shared.Object n) → Counted b → Counted (object_or u n b (found_in free))
  counted_object n b (Some (Some k)) found is there seen c = c
  counted_object n b None found is there seen c = subst (λ x. Counted (object_made u n b x)) (sym (no_object n b is c)) c
  counted_object n b (Some None) None is there seen c = subst (λ x. Counted (object_made u n b x)) (sym there) c
  counted_object n b (Some None) (Some x) is there seen c = subst (λ y. Counted (object_made u n b y)) (sym there) (object_new n b x is there seen c)

  counted_literal : (n : ℕ) (b : TableView) (free : Option (Option ℕ)) (found : Option LiteralView) → slice_get b.literals n ≡ free → slice_get u.literals n ≡ found → Seen s (shared.Literal n) → Counted b → Counted (literal_or u n b (found_in free))
  counted_literal n b (Some (Some k)) found is there seen c = c
  counted_literal n b None found is there seen c = subst (λ x. Counted (literal_made u n b x)) (sym (no_literal n b is c)) c
  counted_literal n b (Some None) None is there seen c = subst (λ x. Counted (literal_made u n b x)) (sym there) c
  counted_literal n b (Some None) (Some x) is there seen c = subst (λ y. Counted (literal_made u n b y)) (sym there) (literal_new n b x is there seen c)

  counted_shared : (x : StaticBase) (b : TableView) → Seen s x → Counted b → Counted (with_shared u x b)
  counted_shared (shared.Object n) b seen c = counted_object n b (slice_get b.objects n) (slice_get u.objects n) refl refl seen c
  counted_shared (shared.Literal n) b seen c = counted_literal n b (slice_get b.literals n) (slice_get u.literals n) refl refl seen c

  brought_seen : (x : StaticBase) (b : TableView) → Seen s x → AllOf (Seen s) (brought u x b)
  brought_seen (shared.Object n) b seen = by_known (known b.objects n)
    where
      by_known : (k : Option ℕ) → AllOf (Seen s) (bases.pointed_or u n k)
      by_known None = v.named n seen
      by_known (Some k) = tt
  brought_seen (shared.Literal n) b seen = tt

  counted_all : (n : ℕ) (stack : List StaticBase) (b : TableView) → AllOf (Seen s) stack → Counted b → Counted (with_all u n stack b)
  counted_all zero stack b seen c = c
  counted_all (suc n) [] b seen c = c
  counted_all (suc n) (x ∷ xs) b (one, seen) c = counted_all n (brought u x b ++ xs) (with_shared u x b) (all_append (Seen s) (brought u x b) xs (brought_seen x b one) seen) (counted_shared x b one c)

  more_base : (b : TableView) (x : BaseInfo) (width : ℕ) → is_own x.kind ≡ true → Counted b → Counted (record { bases = b.bases ++ x ∷ []; width = width; objects = b.objects; literals = b.literals })
  more_base b x width own c = record { weight = unshared b.bases x _ own c.weight; objects = c.objects; literals = c.literals }

  counted_local : (f : FunctionView) (slot : ℕ) (locals : List (Option ℕ)) (b : TableView) (k : Option (Option ℕ)) → Counted b → Counted (local_or u f slot locals b k).after
  counted_local f slot locals b None c = c
  counted_local f slot locals b (Some (Some n)) c = c
  counted_local f slot locals b (Some None) c = more_base b _ _ refl c

  counted_base : (f : FunctionView) (x : NameView) (locals : List (Option ℕ)) (b : TableView) → Allowed s x → Counted b → Counted (base u f x locals b).after
  counted_base f (Local n) locals b allowed c = counted_local f n locals b (slice_get locals n) c
  counted_base f Outcome locals b allowed c = counted_local f (length f.locals) locals b (slice_get locals (length f.locals)) c
  counted_base f (Static n) locals b allowed c = counted_all (2 ^ 64 - 1) (shared.Object n ∷ []) b (allowed, tt) c
  counted_base f (Literal n) locals b allowed c = counted_all (2 ^ 64 - 1) (shared.Literal n ∷ []) b (allowed, tt) c
  counted_base f (Allocation target) locals b allowed c =
      let shape = heap_shape u.structs u.model.pointer target in
      let newest = added kind.Newest 0 shape b in
      more_base newest _ _ refl (more_base b _ _ refl c)

  -- a program and a copy of which this holds
  abbrev Fine : Placed → Type 0
  Fine p = Counted p.program.bases × AllAllowed s p.within.names

  fine_base : (n : ℕ) (p : Placed) → Fine p → Fine (o.with_base u n p)
  fine_base n p (c, all) = (counted_base p.within.function (name_at p.within.names n) p.within.locals p.program.bases (allowed_at s p.within.names n all) c, all)

  fine_own : (n : Option ℕ) (p : Placed) → Fine p → Fine (o.with_own u n p)
  fine_own None p f = f
  fine_own (Some n) p f = fine_base n p f

  fine_side : (x : Side) (p : Placed) → Fine p → Fine (o.with_side u x p)
  fine_side (side.Object n kind) p f = fine_base n p f
  fine_side (side.Number n) p f = f
  fine_side side.Null p f = f

  fine_test : (t : Option Test) (p : Placed) → Fine p → Fine (o.with_test u t p)
  fine_test None p f = f
  fine_test (Some t) p f = fine_side t.right (o.with_side u t.left p) (fine_side t.left p f)

  fine_way : (x : Way) (p : Placed) → Fine p → Fine (o.with_way u x p)
  fine_way Always p f = f
  fine_way (When truth test puts) p f = fine_test test p f
  fine_way (Case c) p f = fine_own c.object p f
  fine_way (Other values) p f = f
  fine_way NoLine p f = f
  fine_way Line p f = f

  fine_exits : (from : ℕ) (es : List ExitView) (p : Placed) → Fine p → Fine (o.with_exits u from es p)
  fine_exits from [] p f = f
  fine_exits from (e ∷ es) p f = fine_exits from es (o.with_exit u from e p) (fine_way e.taken p f)

  fine_piece : (q : PieceView) (p : Placed) → Fine p → Fine (o.with_piece u q p)
  fine_piece (Do t) p f = fine_own (own_base t.does) p f
  fine_piece (DoIfUsed t) p f = cond_keeps Fine p.within.used (o.with_act u p.within.at t.does p) p (fine_own (own_base t.does) p f) f
  fine_piece (End t exits) p f = fine_exits (length p.program.blocks) exits (o.with_act u t.at t.does p) (fine_own (own_base t.does) p f)
  fine_piece (Mark label) p f = (cond_keeps (λ (m : Made). Counted m.bases) (is_none p.program.ready) p.program (o.jumped p.within.at (label + p.within.labels) p.program) f.0 f.0, f.1)
  fine_piece (Call c) p f = f

  abbrev AllFine : List CopyView → Type 0
  AllFine [] = Unit {0}
  AllFine (c ∷ cs) = AllAllowed s c.names × AllFine cs

  abbrev FineInlined : Inlined → Type 0
  FineInlined x = Counted x.program.bases × AllFine x.stack

  fine_entered : (c : OwnCall) (stack : List CopyView) (m : Made) (f : Option FunctionView) (t : Option TemplateView) → template_at ts c.function ≡ t → Counted m.bases → AllFine stack → FineInlined (o.entered c stack m f t)
  fine_entered c stack m None t is k all = (k, all)
  fine_entered c stack m (Some f) None is k all = (k, all)
  fine_entered c stack m (Some f) (Some t) is k all = (k, (template_allowed s ts c.function t v.roots is, all))

  fine_call : (c : OwnCall) (stack : List CopyView) (m : Made) → Counted m.bases → AllFine stack → FineInlined (o.with_call u ts c stack m)
  fine_call c stack m k all = fine_entered c stack m (slice_get u.functions c.function) (template_at ts c.function) refl k all

  fine_turn : (q : PieceView) (c : CopyView) (stack : List CopyView) (m : Made) → Counted m.bases → AllAllowed s c.names → AllFine stack → FineInlined (o.turn u ts q c stack m)
  fine_turn (Do t) c stack m k own all = let f = fine_piece (Do t) (placed m c) (k, own) in (f.0, (f.1, all))
  fine_turn (DoIfUsed t) c stack m k own all = let f = fine_piece (DoIfUsed t) (placed m c) (k, own) in (f.0, (f.1, all))
  fine_turn (End t exits) c stack m k own all = let f = fine_piece (End t exits) (placed m c) (k, own) in (f.0, (f.1, all))
  fine_turn (Mark label) c stack m k own all = let f = fine_piece (Mark label) (placed m c) (k, own) in (f.0, (f.1, all))
  fine_turn (Call call) c stack m k own all = fine_call (o.inner call c) (c ∷ stack) m k (own, all)

  fine_next : (qs : List PieceView) (c : CopyView) (stack : List CopyView) (m : Made) → Counted m.bases → AllAllowed s c.names → AllFine stack → FineInlined (o.next_piece u ts qs c stack m)
  fine_next [] c stack m k own all = (k, all)
  fine_next (q ∷ qs) c stack m k own all = fine_turn q (o.with_rest qs c) stack m k own all

  fine_run : (n : ℕ) (stack : List CopyView) (m : Made) → Counted m.bases → AllFine stack → FineInlined (o.run u ts n stack m)
  fine_run zero stack m k all = (k, all)
  fine_run (suc n) [] m k all = (k, all)
  fine_run (suc n) (c ∷ stack) m k (own, all) =
      let f = fine_next c.rest c stack m k own all in fine_run n (o.next u ts c stack m).stack (o.next u ts c stack m).program f.0 f.1

  fine_parameters : (n : ℕ) (p : Placed) → Fine p → Fine (o.with_parameters u n p)
  fine_parameters zero p f = f
  fine_parameters (suc n) p f =
      let q = o.with_parameters u n p in
      let before = fine_parameters n p f in
      (counted_base q.within.function (Local n) q.within.locals q.program.bases tt before.0, before.1)

  fine_entry : (stack : List CopyView) (m : Made) → Counted m.bases → AllFine stack → FineInlined (o.entry_run u ts stack m)
  fine_entry [] m k all = (k, all)
  fine_entry (c ∷ stack) m k (own, all) =
      let p = o.with_parameters u c.function.parameters (placed m c) in
      let f = fine_parameters c.function.parameters (placed m c) (k, own) in
      fine_run (2 ^ 64 - 1) (p.within ∷ stack) p.program f.0 (f.1, all)

  nothing_noted : (n : ℕ) → noted (replicate n None) ≡ replicate n false
  nothing_noted zero = refl
  nothing_noted (suc n) = ap (λ bs. false ∷ bs) (nothing_noted n)

  nothing_weighs : (weight : ℕ → ℕ) (k n : ℕ) → slots_weight weight k (replicate n false) ≡ 0
  nothing_weighs weight k zero = refl
  nothing_weighs weight k (suc n) = let e = nothing_weighs weight (suc k) n in omega (arith, e)

  none_within : (n : ℕ) (a : List Bool) → length a ≡ n → Within (replicate n false) a
  none_within zero [] is = tt
  none_within zero (b ∷ bs) is = absurd (omega arith)
  none_within (suc n) [] is = absurd (omega arith)
  none_within (suc n) (b ∷ bs) is = none_within n bs (omega arith)

  counted_nothing : Counted (o.nothing_made u).bases
  counted_nothing =
      let a = nothing_noted (length u.objects) in
      let b = nothing_noted (length u.literals) in
      let x = ap (slots_weight (object_weight u w) 0) a ∙ nothing_weighs (object_weight u w) 0 (length u.objects) in
      let y = ap (slots_weight (literal_weight u w) 0) b ∙ nothing_weighs (literal_weight u w) 0 (length u.literals) in
      record {
        weight = none _ _ x y;
        objects = subst (λ k. Within k s.objects) (sym a) (none_within (length u.objects) s.objects v.objects);
        literals = subst (λ k. Within k s.literals) (sym b) (none_within (length u.literals) s.literals v.literals);
      }
    where
      none : (m n : ℕ) → m ≡ 0 → n ≡ 0 → 0 ≡ m + n
      none m n p q = omega arith

  -- the whole opening
  pub shared_within : (at : Place) → shared_weight w.info (o.whole u ts at).program.bases.bases ≤ noted_weight u w s.objects s.literals
  shared_within at =
      let c = o.with_call u ts (o.entry_call at u.entry) [] (o.nothing_made u) in
      let begun = fine_call (o.entry_call at u.entry) [] (o.nothing_made u) counted_nothing tt in
      let f = fine_entry c.stack c.program begun.0 begun.1 in
      let k = f.0 in
      less _ _ _ _ _ k.weight (within_weight (object_weight u w) 0 _ s.objects k.objects) (within_weight (literal_weight u w) 0 _ s.literals k.literals)
    where
      less : (m a b x y : ℕ) → m ≡ a + b → a ≤ x → b ≤ y → m ≤ x + y
      less m a b x y p q r = omega arith
