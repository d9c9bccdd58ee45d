-- No copy makes more bases than were counted.
use Rattle.std.proofs.Common.{◌≡◌, ◌==◌, ◌≤◌, ◌<◌, ℕ, zero, suc, ◌+◌, ◌-◌, ◌^◌, Bool, true, false, cond, min, List, [], ◌∷◌, ◌++◌, length, replicate, Option, None, refl, arith, ap, sym, subst, ◌∙◌}
use Rattle.std.specs.List.{slice_set}
use Rattle.std.proofs.lemmas.Bool.{eq-eqb}
use Rattle.cc_base.specs.declared.diagnostics.Place.{Place}
use Rattle.c_layout.specs.Types.{Ty}
use Rattle.c_layout.specs.CheckedUnits.{FunctionView, UnitView}
use Rattle.lower_templates.specs.Worklist.Pieces.{NameView, Local, Outcome, Static, Literal, Allocation, PieceView, Do, DoIfUsed, End, Mark, Call, TemplateView}
use Rattle.lower_templates.specs.declared.worklist.template_pieces.OwnCall.{OwnCall}
use Rattle.lower_functions.specs.Functions.Functions.{local_type}
use Rattle.lower_objects.specs.declared.counts.function_counts.FunctionCounts.{FunctionCounts}
use Rattle.lower_objects.specs.declared.counts.object_counts.BaseCount.{BaseCount}
use Rattle.lower_objects.specs.Counts.Extents.{capped}
use Rattle.lower_objects.specs.Counts.PieceCounts.{counts_of, counted}
use Rattle.lower_objects.specs.Counts.BaseCounts.{Tally, is_new, both, no_bases, object_base, allocation_bases, with_more, with_noted, with_slot, with_name, with_slots, with_names, no_tally, own_bases, bases_of, inner_bases}
use Rattle.lower_tables.specs.Counts.Preparations.{named_parameters, Reaches, begun, IsPrepared}
use Rattle.lower.specs.TemplateLaws.NamedBases.{named_in, named_in_all, AllBelow, site_weight, all_sites, sites_named, AreNamed}
use Rattle.lower.proofs.template_laws.NamedLists.{below_append, below_left, below_right, sites_append, named_append}
use Rattle.lower.proofs.template_laws.TemplateNames.{template_named}
use Rattle.lower.proofs.template_laws.NormalizedNames.{normalized_named}
use Rattle.lower.specs.Inlining.Inlinings as o
use Rattle.lower.specs.Inlining.Inlinings.{Made, CopyView, Placed, Inlined, placed, inlined, name_at}
use Rattle.lower.proofs.inlining.PieceExtents.{capped_left, capped_right}
use Rattle.lower.proofs.inlining.CountedCalls.{AllCalled, IsKnown, known}
use Rattle.lower.proofs.inlining.CountedTurns.{AllReached, turned_next}
use Rattle.lower.proofs.inlining.NotedSlots.{after_slot, adds_slot, adds, after, adds_all, after_all, adds_append, after_append, Has, AllHad, adds_within}
use Rattle.lower.proofs.inlining.WeighedBases.{Weights, own_weight, noted, object_of}
use Rattle.lower.proofs.inlining.WeighedTurns.{names_at, done_named, all_done_named, IsOf, Naming, none_named, both_named, one_named, calls_weight, rest_weight, copy_weight, copies_weight, whole_weight, copy_after, turn_weight}

-- the parameters, by their numbers
abbrev pub first_locals : ℕ → List NameView
first_locals zero = []
first_locals (suc n) = first_locals n ++ Local n ∷ []

fresh_slots : (n : ℕ) → noted (replicate n None) ≡ replicate n false
fresh_slots zero = refl
fresh_slots (suc n) = ap (λ bs. false ∷ bs) (fresh_slots n)

-- names of a template
has_more : (x y : NameView) (ys : List NameView) → Has ys x → Has (y ∷ ys) x
has_more x y ys (at, is) = (suc at, is)

all_had_more : (y : NameView) (xs ys : List NameView) → AllHad ys xs → AllHad (y ∷ ys) xs
all_had_more y [] ys had = tt
all_had_more y (x ∷ xs) ys (one, had) = (has_more x y ys one, all_had_more y xs ys had)

all_had_behind : (front xs ys : List NameView) → AllHad ys xs → AllHad (front ++ ys) xs
all_had_behind [] xs ys had = had
all_had_behind (y ∷ front) xs ys had = all_had_more y xs (front ++ ys) (all_had_behind front xs ys had)

all_had_front : (xs ys : List NameView) → AllHad (xs ++ ys) xs
all_had_front [] ys = tt
all_had_front (x ∷ xs) ys = ((0, refl), all_had_more x xs (xs ++ ys) (all_had_front xs ys))

all_had_both : (xs zs ys : List NameView) → AllHad ys xs → AllHad ys zs → AllHad ys (xs ++ zs)
all_had_both [] zs ys a b = b
all_had_both (x ∷ xs) zs ys (one, a) b = (one, all_had_both xs zs ys a b)

has_at : (names : List NameView) (n : ℕ) → n < length names → Has names (name_at names n)
has_at [] n less = absurd (omega arith)
has_at (x ∷ xs) zero less = (0, refl)
has_at (x ∷ xs) (suc n) less = has_more (name_at xs n) x xs (has_at xs n (omega arith))

all_had_at : (names : List NameView) (ns : List ℕ) → AllBelow (length names) ns → AllHad names (names_at names ns)
all_had_at names [] below = tt
all_had_at names (n ∷ ns) (one, below) = (has_at names n one, all_had_at names ns below)

sites_at : (site : Option Ty → ℕ) (names : List NameView) (ns : List ℕ) → all_sites site (names_at names ns) ≡ sites_named site names ns
sites_at site names [] = refl
sites_at site names (n ∷ ns) = ap (λ k. site_weight site (name_at names n) + k) (sites_at site names ns)

-- what is done is named in any case
done_below : (count : ℕ) (used : Bool) (p : PieceView) → AllBelow count (named_in p) → AllBelow count (done_named used p)
done_below count used (Do s) below = below
done_below count true (DoIfUsed s) below = below
done_below count false (DoIfUsed s) below = tt
done_below count used (End s exits) below = below
done_below count used (Mark label) below = tt
done_below count used (Call c) below = tt

all_done_below : (count : ℕ) (used : Bool) (ps : List PieceView) → AllBelow count (named_in_all ps) → AllBelow count (all_done_named used ps)
all_done_below count used [] below = tt
all_done_below count used (p ∷ ps) below =
    below_append count (done_named used p) (all_done_named used ps) (done_below count used p (below_left count (named_in p) (named_in_all ps) below)) (all_done_below count used ps (below_right count (named_in p) (named_in_all ps) below))

done_sites : (site : Option Ty → ℕ) (names : List NameView) (used : Bool) (p : PieceView) → sites_named site names (done_named used p) ≤ sites_named site names (named_in p)
done_sites site names used (Do s) = omega arith
done_sites site names true (DoIfUsed s) = omega arith
done_sites site names false (DoIfUsed s) = omega arith
done_sites site names used (End s exits) = omega arith
done_sites site names used (Mark label) = omega arith
done_sites site names used (Call c) = omega arith

all_done_sites : (site : Option Ty → ℕ) (names : List NameView) (used : Bool) (ps : List PieceView) → sites_named site names (all_done_named used ps) ≤ sites_named site names (named_in_all ps)
all_done_sites site names used [] = omega arith
all_done_sites site names used (p ∷ ps) =
    let a = named_append site names (done_named used p) (all_done_named used ps) in
    let b = named_append site names (named_in p) (named_in_all ps) in
    let c = done_sites site names used p in
    let d = all_done_sites site names used ps in
    sum _ _ _ _ _ _ a b c d
  where
    sum : (x a b y c d : ℕ) → x ≡ a + b → y ≡ c + d → a ≤ c → b ≤ d → x ≤ y
    sum x a b y c d p q le less = omega arith

no_sites : (site : Option Ty → ℕ) (n : ℕ) → all_sites site (first_locals n) ≡ 0
no_sites site zero = refl
no_sites site (suc n) = let a = sites_append site (first_locals n) (Local n ∷ []) in let b = no_sites site n in omega (arith, a, b)

capped_le : (m a b : ℕ) → a ≤ b → min a m ≤ min b m
capped_le m a b le = omega arith

at_most : (a b : ℕ) → a ≤ b → capped a ≤ capped b
at_most a b le = capped_le (10 ^ 18) a b le

module _ (u : UnitView) (w : Weights u) where
  abbrev own_all : FunctionView → List NameView → List Bool → ℕ
  own_all f xs before = adds_all (object_of u w f) w.site (length f.locals) xs before

  abbrev fresh : FunctionView → List Bool
  fresh f = replicate (length f.locals + 1) false

  -- what was counted
  record Tallied (c : ℕ) (before : List Bool) (t : Tally) : Type 0 where
    notes : t.noted ≡ before
    count : w.pick t.count ≡ capped c

  zero_more : (a b : ℕ) → b ≡ 0 → a ≡ a + b
  zero_more a b is = omega arith

  tally_slot : (f : FunctionView) (n c : ℕ) (t : Tally) → w.pick t.count ≡ capped c → Tallied (c + adds_slot (object_of u w f) n t.noted) (after_slot n t.noted) (with_slot u.structs f n t)
  tally_slot f n c t is = by_new (is_new t.noted n)
    where
      by_new : (b : Bool) → Tallied (c + cond b (object_of u w f n) 0) (cond b (slice_set t.noted n true) t.noted) (cond b (with_more (object_base u.structs (local_type f n)) (with_noted n t)) t)
      by_new true = record {
        notes = refl;
        count = w.picks t.count (object_base u.structs (local_type f n)) ∙ ap (λ k. capped (k + w.pick (object_base u.structs (local_type f n)))) is ∙ ap (λ k. capped (capped c + k)) (w.picks_object (local_type f n)) ∙ capped_left c (w.object (local_type f n));
      }
      by_new false = record { notes = refl; count = is ∙ ap capped (zero_more c 0 refl) }

  tally_name : (f : FunctionView) (x : NameView) (c : ℕ) (t : Tally) → w.pick t.count ≡ capped c → Tallied (c + adds (object_of u w f) w.site (length f.locals) x t.noted) (after (length f.locals) x t.noted) (with_name u.structs u.model.pointer f x t)
  tally_name f (Local n) c t is = tally_slot f n c t is
  tally_name f Outcome c t is = tally_slot f (length f.locals) c t is
  tally_name f (Static n) c t is = record { notes = refl; count = is ∙ ap capped (zero_more c 0 refl) }
  tally_name f (Literal n) c t is = record { notes = refl; count = is ∙ ap capped (zero_more c 0 refl) }
  tally_name f (Allocation target) c t is = let two = allocation_bases u.structs u.model.pointer target in record {
    notes = refl;
    count = w.picks t.count two ∙ ap (λ k. capped (k + w.pick two)) is ∙ ap (λ k. capped (capped c + k)) (w.picks_site target) ∙ capped_left c (capped (w.site target)) ∙ capped_right c (w.site target);
  }

  tally_names : (f : FunctionView) (xs : List NameView) (c : ℕ) (t : Tally) → w.pick t.count ≡ capped c → w.pick (with_names u.structs u.model.pointer f xs t).count ≡ capped (c + own_all f xs t.noted)
  tally_names f [] c t is = is ∙ ap capped (zero_more c 0 refl)
  tally_names f (x ∷ xs) c t is =
      let one = tally_name f x c t is in
      tally_names f xs _ (with_name u.structs u.model.pointer f x t) one.count
      ∙ ap (λ k. capped (c + adds (object_of u w f) w.site (length f.locals) x t.noted + own_all f xs k)) one.notes
      ∙ ap capped (sum c _ _)
    where
      sum : (a b d : ℕ) → a + b + d ≡ a + (b + d)
      sum a b d = omega arith

  tally_slots : (f : FunctionView) (n : ℕ) (t : Tally) → w.pick t.count ≡ 0 → Tallied (own_all f (first_locals n) t.noted) (after_all (length f.locals) (first_locals n) t.noted) (with_slots u.structs f n t)
  tally_slots f zero t is = record { notes = refl; count = is }
  tally_slots f (suc n) t is =
      let before = tally_slots f n t is in
      let one = tally_slot f n (own_all f (first_locals n) t.noted) (with_slots u.structs f n t) before.count in
      let all = adds_append (object_of u w f) w.site (length f.locals) (first_locals n) (Local n ∷ []) t.noted in
      record {
        notes = one.notes ∙ ap (after_slot n) before.notes ∙ sym (after_append (length f.locals) (first_locals n) (Local n ∷ []) t.noted);
        count = one.count ∙ ap (λ k. capped (own_all f (first_locals n) t.noted + adds_slot (object_of u w f) n k)) before.notes ∙ ap capped (sum _ _ _ all);
      }
    where
      sum : (a b d : ℕ) → d ≡ a + (b + 0) → a + b ≡ d
      sum a b d is = omega arith

  own_count : (f : FunctionView) (names : List NameView) (n : ℕ) → w.pick (own_bases u.structs u.model.pointer f names n) ≡ capped (own_all f (first_locals n ++ names) (fresh f))
  own_count f names n =
      let start = no_tally (length f.locals + 1) in
      let slots = tally_slots f n start w.picks_none in
      tally_names f names (own_all f (first_locals n) (fresh f)) (with_slots u.structs f n start) slots.count
      ∙ ap (λ k. capped (own_all f (first_locals n) (fresh f) + own_all f names k)) slots.notes
      ∙ ap capped (sym (adds_append (object_of u w f) w.site (length f.locals) (first_locals n) names (fresh f)))

  -- the calls that are put in
  inner_none : (table : List (Option FunctionCounts)) (sum : BaseCount) (s : ℕ) → w.pick sum ≡ capped s → w.pick (both sum no_bases) ≡ capped s
  inner_none table sum s is = w.picks sum no_bases ∙ ap (λ k. capped (k + w.pick no_bases)) is ∙ ap (λ k. capped (capped s + k)) w.picks_none ∙ capped_left s 0 ∙ ap capped (sym (zero_more s 0 refl))

  inner_count : (table : List (Option FunctionCounts)) (ps : List PieceView) (sum : BaseCount) (s : ℕ) → w.pick sum ≡ capped s → w.pick (inner_bases table ps sum) ≡ capped (s + calls_weight u w table ps)
  inner_count table [] sum s is = is ∙ ap capped (zero_more s 0 refl)
  inner_count table (Do a ∷ ps) sum s is = inner_count table ps (both sum no_bases) s (inner_none table sum s is)
  inner_count table (DoIfUsed a ∷ ps) sum s is = inner_count table ps (both sum no_bases) s (inner_none table sum s is)
  inner_count table (End a exits ∷ ps) sum s is = inner_count table ps (both sum no_bases) s (inner_none table sum s is)
  inner_count table (Mark label ∷ ps) sum s is = inner_count table ps (both sum no_bases) s (inner_none table sum s is)
  inner_count table (Call c ∷ ps) sum s is =
      let called = bases_of (counted table c.function) in
      inner_count table ps (both sum called) (s + w.pick called) (w.picks sum called ∙ ap (λ k. capped (k + w.pick called)) is ∙ capped_left s (w.pick called)) ∙ ap capped (three s (w.pick called) (calls_weight u w table ps))
    where
      three : (a b d : ℕ) → a + b + d ≡ a + (b + d)
      three a b d = omega arith

  -- what was counted of a function that is known
  abbrev pub counted_weight : List (Option FunctionCounts) → FunctionView → ℕ → TemplateView → ℕ
  counted_weight table f n t = own_all f (first_locals n ++ t.names) (fresh f) + calls_weight u w table t.pieces

  both_count : (table : List (Option FunctionCounts)) (f : FunctionView) (n : ℕ) (t : TemplateView) → w.pick (both (own_bases u.structs u.model.pointer f t.names n) (inner_bases table t.pieces no_bases)) ≡ capped (counted_weight table f n t)
  both_count table f n t =
      let own = own_all f (first_locals n ++ t.names) (fresh f) in
      let calls = calls_weight u w table t.pieces in
      w.picks (own_bases u.structs u.model.pointer f t.names n) (inner_bases table t.pieces no_bases)
      ∙ ap (λ k. capped (k + w.pick (inner_bases table t.pieces no_bases))) (own_count f t.names n)
      ∙ ap (λ k. capped (capped own + k)) (inner_count table t.pieces no_bases 0 w.picks_none)
      ∙ capped_left own (capped (0 + calls))
      ∙ capped_right own (0 + calls)
      ∙ ap (λ k. capped (own + k)) (none calls)
    where
      none : (a : ℕ) → 0 + a ≡ a
      none a = omega arith

  pub known_count : (ts : List (Option TemplateView)) (table : List (Option FunctionCounts)) (n : ℕ) (k : IsKnown u ts table n) → w.pick (bases_of (counted table n)) ≡ capped (counted_weight table k.function (named_parameters u n k.function) k.template)
  known_count ts table n k =
      ap (λ c. w.pick (bases_of (counts_of c))) k.is_counted
      ∙ ap (λ c. w.pick (bases_of c)) k.made
      ∙ ap (λ t. w.pick (both (own_bases u.structs u.model.pointer k.function t.names (named_parameters u n k.function)) (inner_bases table t.pieces no_bases))) (sym k.settles)
      ∙ both_count table k.function (named_parameters u n k.function) k.template

  known_named : (ts : List (Option TemplateView)) (table : List (Option FunctionCounts)) (n : ℕ) (k : IsKnown u ts table n) → AreNamed k.template
  known_named ts table n k =
      subst AreNamed (sym k.settles) (normalized_named table k.plain (template_named u.structs u.model.pointer u.model.int k.function (n == u.entry) k.plain k.is_template.is_template))

  -- names that are done, behind some of the parameters, weigh no more than was counted
  done_within : (f : FunctionView) (t : TemplateView) (used : Bool) (front : List NameView) (n : ℕ) → AreNamed t → AllHad (first_locals n ++ t.names) front → all_sites w.site front ≡ 0
      → own_all f (front ++ names_at t.names (all_done_named used t.pieces)) (fresh f) ≤ own_all f (first_locals n ++ t.names) (fresh f)
  done_within f t used front n named had none =
      let ns = all_done_named used t.pieces in
      let done = names_at t.names ns in
      let below = all_done_below (length t.names) used t.pieces named.below in
      let all_had = all_had_both front done (first_locals n ++ t.names) had (all_had_behind (first_locals n) done t.names (all_had_at t.names ns below)) in
      let a = sites_append w.site front done in
      let b = sites_append w.site (first_locals n) t.names in
      let c = all_done_sites w.site t.names used t.pieces in
      let d = sites_at w.site t.names ns in
      let e = named.sites w.site in
      adds_within (object_of u w f) w.site (length f.locals) (front ++ done) (first_locals n ++ t.names) (fresh f) all_had (sum _ _ _ _ _ _ _ _ a b c d e none)
    where
      sum : (x fr dn y fl nm sd sn : ℕ) → x ≡ fr + dn → y ≡ fl + nm → sd ≤ sn → dn ≡ sd → sn ≡ nm → fr ≡ 0 → x ≤ y
      sum x fr dn y fl nm sd sn p q r s t z = omega arith

  -- the copy for a call
  copied_weight : (table : List (Option FunctionCounts)) (c : OwnCall) (first n : ℕ) (f : FunctionView) (t : TemplateView) → AreNamed t → copy_weight u w table (o.copied c first f t) ≤ counted_weight table f n t
  copied_weight table c first n f t named =
      let start = fresh_slots (length f.locals + 1) in
      let le = done_within f t c.used [] n named tt refl in
      sum _ _ _ _ (ap (own_all f (names_at t.names (all_done_named c.used t.pieces))) start) le
    where
      sum : (a b d k : ℕ) → a ≡ b → b ≤ d → a + k ≤ d + k
      sum a b d k p q = omega arith

  entered : (ts : List (Option TemplateView)) (table : List (Option FunctionCounts)) (c : OwnCall) (stack : List CopyView) (m : Made) (k : IsKnown u ts table c.function) → o.with_call u ts c stack m ≡ inlined (o.copied c (length m.labels) k.function k.template ∷ stack) (o.with_labels k.template.labels m)
  entered ts table c stack m k = λ i. o.entered c stack m (k.is_template.stands i) (k.is_there i)

  -- a call makes no more than was counted
  call_weight : (ts : List (Option TemplateView)) (table : List (Option FunctionCounts)) (c : OwnCall) (stack : List CopyView) (m : Made) (rest : ℕ) → IsKnown u ts table c.function
      → capped (own_weight w.info m.bases.bases + (w.pick (bases_of (counted table c.function)) + copies_weight u w table stack)) ≡ rest → capped (whole_weight u w table (o.with_call u ts c stack m)) ≤ rest
  call_weight ts table c stack m rest k is =
      let made = known_count ts table c.function k in
      let le = copied_weight table c (length m.labels) (named_parameters u c.function k.function) k.function k.template (known_named ts table c.function k) in
      subst (λ r. capped (whole_weight u w table (o.with_call u ts c stack m)) ≤ r) is
      (subst (λ x. capped (whole_weight u w table x) ≤ capped (own_weight w.info m.bases.bases + (w.pick (bases_of (counted table c.function)) + copies_weight u w table stack))) (sym (entered ts table c stack m k))
      (less (10 ^ 18) _ _ _ _ _ le made))
    where
      less : (m b r y p s : ℕ) → r ≤ y → p ≡ min y m → min (b + (r + s)) m ≤ min (b + (p + s)) m
      less m b r y p s le is = omega arith

  next_weight : (ts : List (Option TemplateView)) (table : List (Option FunctionCounts)) (qs : List PieceView) (c : CopyView) (stack : List CopyView) (m : Made) → IsPrepared u ts table → AllCalled (Reaches u) qs
      → capped (whole_weight u w table (o.next_piece u ts qs c stack m)) ≤ capped (own_weight w.info m.bases.bases + (rest_weight u w table c.function c.names c.used qs (noted c.locals) + copies_weight u w table stack))
  next_weight ts table [] c stack m prepared calls = at_most _ _ (finished _ _)
    where
      finished : (a s : ℕ) → a + s ≤ a + ((0 + 0) + s)
      finished a s = omega arith
  next_weight ts table (Do s ∷ qs) c stack m prepared calls = at_most _ _ (same _ _ (turn_weight u w table ts (Do s) (o.with_rest qs c) stack m refl tt))
    where
      same : (a b : ℕ) → a ≡ b → a ≤ b
      same a b is = omega arith
  next_weight ts table (DoIfUsed s ∷ qs) c stack m prepared calls = at_most _ _ (same _ _ (turn_weight u w table ts (DoIfUsed s) (o.with_rest qs c) stack m refl tt))
    where
      same : (a b : ℕ) → a ≡ b → a ≤ b
      same a b is = omega arith
  next_weight ts table (End s exits ∷ qs) c stack m prepared calls = at_most _ _ (same _ _ (turn_weight u w table ts (End s exits) (o.with_rest qs c) stack m refl tt))
    where
      same : (a b : ℕ) → a ≡ b → a ≤ b
      same a b is = omega arith
  next_weight ts table (Mark label ∷ qs) c stack m prepared calls = at_most _ _ (same _ _ (turn_weight u w table ts (Mark label) (o.with_rest qs c) stack m refl tt))
    where
      same : (a b : ℕ) → a ≡ b → a ≤ b
      same a b is = omega arith
  next_weight ts table (Call call ∷ qs) c stack m prepared (one, calls) =
      call_weight ts table (o.inner call c) (o.with_rest qs c ∷ stack) m _ (known u ts table call.function prepared one) (ap capped (order _ _ _ _ _))
    where
      order : (b p a k s : ℕ) → b + (p + ((a + k) + s)) ≡ b + ((a + (p + k)) + s)
      order b p a k s = omega arith

  -- so many turns
  run_weight : (ts : List (Option TemplateView)) (table : List (Option FunctionCounts)) (n : ℕ) (stack : List CopyView) (m : Made) → IsPrepared u ts table → AllReached u stack
      → capped (whole_weight u w table (o.run u ts n stack m)) ≤ capped (whole_weight u w table (inlined stack m))
  run_weight ts table zero stack m prepared reached = at_most _ _ (self _)
    where
      self : (a : ℕ) → a ≤ a
      self a = omega arith
  run_weight ts table (suc n) [] m prepared reached = at_most _ _ (self _)
    where
      self : (a : ℕ) → a ≤ a
      self a = omega arith
  run_weight ts table (suc n) (c ∷ stack) m prepared reached =
      let t = turned_next u ts table c.rest c stack m prepared reached.0 reached.1 in
      let more = run_weight ts table n (o.next u ts c stack m).stack (o.next u ts c stack m).program prepared t.reached in
      let one = next_weight ts table c.rest c stack m prepared reached.0 in
      twice _ _ _ more one
    where
      twice : (a b d : ℕ) → a ≤ b → b ≤ d → a ≤ d
      twice a b d p q = omega arith

  -- the parameters of the entry
  parameters_named : (n : ℕ) (f : FunctionView) (names : List NameView) (p : Placed) → IsOf u w f names p → Naming u w f names (first_locals n) p (o.with_parameters u n p)
  parameters_named zero f names p is = none_named u w f names p is
  parameters_named (suc n) f names p is =
      let before = parameters_named n f names p is in
      both_named u w f names (first_locals n) (Local n ∷ []) p (o.with_parameters u n p) (o.with_parameters u (suc n) p) before (one_named u w f names (Local n) (o.with_parameters u n p) before.is_of)

  entry_weight : (ts : List (Option TemplateView)) (table : List (Option FunctionCounts)) (call : OwnCall) (m : Made) (k : IsKnown u ts table u.entry) → IsPrepared u ts table → own_weight w.info m.bases.bases ≡ 0
      → capped (whole_weight u w table (o.entry_run u ts (o.copied call (length m.labels) k.function k.template ∷ []) (o.with_labels k.template.labels m))) ≤ w.pick (bases_of (counted table u.entry))
  entry_weight ts table call m k prepared none =
      let f = k.function in
      let t = k.template in
      let c = o.copied call (length m.labels) f t in
      let start = placed (o.with_labels t.labels m) c in
      let p = o.with_parameters u f.parameters start in
      let named = parameters_named f.parameters f t.names start (record { of_function = refl; has_names = refl }) in
      let ns = names_at t.names (all_done_named call.used t.pieces) in
      let is_entry : (u.entry == u.entry) ≡ true = eq-eqb u.entry u.entry refl in
      let made = known_count ts table u.entry k ∙ ap (λ b. capped (counted_weight table f (cond b f.parameters 0) t)) is_entry in
      let slots = fresh_slots (length f.locals + 1) in
      let own = named.own ∙ ap (λ b. own_weight w.info m.bases.bases + own_all f (first_locals f.parameters) b) slots in
      let copy = copy_after u w table f t.names (first_locals f.parameters) start p named ∙ ap (λ b. rest_weight u w table f t.names call.used t.pieces (after_all (length f.locals) (first_locals f.parameters) b)) slots in
      let all = adds_append (object_of u w f) w.site (length f.locals) (first_locals f.parameters) ns (fresh f) in
      let le = done_within f t call.used (first_locals f.parameters) f.parameters (known_named ts table u.entry k) (all_had_front (first_locals f.parameters) t.names) (no_sites w.site f.parameters) in
      let reached : AllReached u (p.within ∷ []) = (subst (AllCalled (Reaches u)) (sym named.rest) k.calls, tt) in
      let run = run_weight ts table (2 ^ 64 - 1) (p.within ∷ []) p.program prepared reached in
      less (10 ^ 18) _ _ _ _ _ _ _ _ _ _ run own copy all le made none
    where
      less : (m r b o x c y k t z v : ℕ) → r ≤ min (b + (c + 0)) m → b ≡ o + x → c ≡ y + k → t ≡ x + y → t ≤ z → v ≡ min (z + k) m → o ≡ 0 → r ≤ v
      less m r b o x c y k t z v p q s a d e g = omega arith

  -- the whole opening
  pub own_within : (ts : List (Option TemplateView)) (table : List (Option FunctionCounts)) (at : Place) → IsPrepared u ts table → o.unfinished u ts at ≡ []
      → capped (own_weight w.info (o.whole u ts at).program.bases.bases) ≤ w.pick (bases_of (counted table u.entry))
  own_within ts table at prepared ends =
      let call = o.entry_call at u.entry in
      let k = known u ts table u.entry prepared begun in
      let is : o.whole u ts at ≡ o.entry_run u ts (o.copied call 0 k.function k.template ∷ []) (o.with_labels k.template.labels (o.nothing_made u)) = ap (o.unresolved u ts) (entered ts table call [] (o.nothing_made u) k) in
      let le = entry_weight ts table call (o.nothing_made u) k prepared refl in
      let all = subst (λ x. capped (whole_weight u w table x) ≤ w.pick (bases_of (counted table u.entry))) (sym is) le in
      let none = subst (λ stack. capped (own_weight w.info (o.whole u ts at).program.bases.bases + copies_weight u w table stack) ≤ w.pick (bases_of (counted table u.entry))) ends all in
      subst (λ b. capped b ≤ w.pick (bases_of (counted table u.entry))) (sym (zero_more _ 0 refl)) none
