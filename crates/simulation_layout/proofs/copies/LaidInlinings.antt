-- An opened copy is laid out in the finished program with all its calls.
use Rattle.std.proofs.Common.{◌≡◌, ◌<◌, ◌≤◌, ◌⊎◌, inl, inr, ℕ, zero, suc, ◌+◌, ◌-◌, ◌^◌, min, Bool, true, false, cond, List, [], ◌∷◌, ◌++◌, length, replicate, get_or, Option, Some, None, refl, arith, ap, sym, subst, subst₂, ◌∙◌, length-append}
use Rattle.std.specs.List.{slice_get}
use Rattle.std.proofs.lemmas.List.{length-replicate}
use Rattle.c_layout.specs.CheckedUnits.{FunctionView, UnitView}
use Rattle.lower_templates.specs.Worklist.Acts.{Step}
use Rattle.lower_templates.specs.Worklist.Pieces.{NameView, PieceView, Do, DoIfUsed, End, Mark, Call, TemplateView}
use Rattle.lower_templates.specs.declared.worklist.template_pieces.OwnCall.{OwnCall}
use Rattle.lower_tables.specs.Bases.BaseTables.{known}
use Rattle.lower.specs.Inlining.Lowerings.{lowered}
use Rattle.lower.specs.Inlining.Inlinings.{Made, CopyView, Placed, placed, with_locals, with_rest, with_act, with_piece, with_labels, template_at, finished}
use Rattle.simulation_layout.specs.InlinedLayout.Copies.{Inlined, Copy, IsLocal, IsCopy, AllApart}
use Rattle.simulation_layout.specs.InlinedLayout.Layouts as layouts
use Rattle.simulation_layout.specs.InlinedLayout.Layouts.{Laid, IsPut}
use Rattle.simulation_layout.specs.Copies.LowTemporaries.{HasLowTemps}
use Rattle.simulation_layout.specs.Inlining.NameRanges.{IsNameThere}
use Rattle.simulation_layout.specs.Copies.FitTemplates.{PointsToStart, ArePiecesFit, IsFit}
use Rattle.simulation_layout.proofs.inlining.ListPlaces.{within}
use Rattle.simulation_layout.proofs.inlining.NamedTables.{LocalAt, info_kept, bases_longer}
use Rattle.simulation_layout.proofs.inlining.MadeParts.{Extends, extends_twice, extends_labels}
use Rattle.simulation_layout.proofs.inlining.NamedPlaces.{Good}
use Rattle.simulation_layout.proofs.inlining.InlinedPieces.{Steps, steps_piece, Unmarked}
use Rattle.simulation_layout.proofs.inlining.InlinedCopies.{Opens, done, piece, call, Leaves, leaves, label_kept, after_piece, copy_of, good_copy, good_caller, none_known, is_call}
use Rattle.simulation_layout.proofs.copies.LaidCopies.{MarkedOnce, past_all, AvoidAll, avoid_less, all_apart, Fits, its, at_copy, Stays, Comes, far, comes_on, Lies, does, ends, marks_there}

module _ (u : UnitView) (ts : List (Option TemplateView)) (of : ℕ → TemplateView) (entry : FunctionView) (temps : ℕ) (last : Made) (none_ready : last.ready ≡ []) (low : HasLowTemps (lowered u entry (finished last) temps)) (P : ℕ → Type 0)
    (fits : (m : ℕ) → P m → (f : FunctionView) (t : TemplateView) → slice_get u.functions m ≡ Some f → template_at ts m ≡ Some t → Fits u ts of entry temps last none_ready low P m f t) where
  abbrev program : Inlined
  program = its u ts of entry temps last none_ready low P fits

  abbrev a_copy : ℕ → ℕ → CopyView → Copy
  a_copy number depth d = at_copy u ts of entry temps last none_ready low P fits number depth d

  abbrev It_stays : ℕ → ℕ → CopyView → Made → Type 0
  It_stays number depth d n = Stays u ts of entry temps last none_ready low P fits number depth d n

  abbrev It_comes : ℕ → Made → CopyView → Made → List Copy → List PieceView → Type 0
  It_comes size m d n around ps = Comes u ts of entry temps last none_ready low P fits size m d n around ps

  abbrev It_lies : ℕ → ℕ → CopyView → Made → List Copy → List PieceView → ℕ → ℕ → Type 0
  It_lies number depth d n around ps block at = Laid program (a_copy number depth d) around ps block at (length n.blocks) (length n.ready)

  -- ---- what is done where the call's value is used

  if_used : (number depth size : ℕ) (s : Step) (ps : List PieceView) (c : CopyView) (m : Made) (d : CopyView) (n : Made) (around : List Copy) → Good u (placed m (with_rest ps c)) → It_stays number depth d n → PointsToStart d.names s.does → d.at ≡ c.at → d.used ≡ c.used
      → Leaves u ts (after_piece u ts (DoIfUsed s) ps c m).within (after_piece u ts (DoIfUsed s) ps c m).program d n → It_lies number depth d n around ps (length (after_piece u ts (DoIfUsed s) ps c m).program.blocks) (length (after_piece u ts (DoIfUsed s) ps c m).program.ready)
      → It_lies number depth d n around (DoIfUsed s ∷ ps) (length m.blocks) (length m.ready)
  if_used number depth size s ps c m d n around g stays start same_at same_used l next = by c.used refl l next
    where
      p : Placed
      p = placed m (with_rest ps c)

      by : (b : Bool) → c.used ≡ b → Leaves u ts (cond c.used (with_act u c.at s.does (placed m (with_rest ps c))) (placed m (with_rest ps c))).within (cond c.used (with_act u c.at s.does (placed m (with_rest ps c))) (placed m (with_rest ps c))).program d n
          → It_lies number depth d n around ps (length (cond c.used (with_act u c.at s.does (placed m (with_rest ps c))) (placed m (with_rest ps c))).program.blocks) (length (cond c.used (with_act u c.at s.does (placed m (with_rest ps c))) (placed m (with_rest ps c))).program.ready) → It_lies number depth d n around (DoIfUsed s ∷ ps) (length m.blocks) (length m.ready)
      by true e l next =
          let q = with_act u c.at s.does (placed m (with_rest ps c)) in
          let is : cond c.used q (placed m (with_rest ps c)) ≡ q = ap (λ b. cond b q (placed m (with_rest ps c))) e in
          let l_q = subst (λ (x : Placed). Leaves u ts x.within x.program d n) is l in
          let next_q = subst (λ (x : Placed). It_lies number depth d n around ps (length x.program.blocks) (length x.program.ready)) is next in
          let both = does u ts of entry temps last none_ready low P fits number depth size d n around stays s c.at (placed m (with_rest ps c)) ps g start l_q next_q in
          layouts.used (a_copy number depth d) around s ps (length m.blocks) (length m.ready) (length n.blocks) (length n.ready) (same_used ∙ e) (subst (λ a. IsPut program (a_copy number depth d) a s.does (length m.blocks) (length m.ready)) (sym same_at) both.0) both.1
      by false e l next =
          let is : cond c.used (with_act u c.at s.does (placed m (with_rest ps c))) (placed m (with_rest ps c)) ≡ placed m (with_rest ps c) = ap (λ b. cond b (with_act u c.at s.does (placed m (with_rest ps c))) (placed m (with_rest ps c))) e in
          layouts.unused (a_copy number depth d) around s ps (length m.blocks) (length m.ready) (length n.blocks) (length n.ready) (same_used ∙ e) (subst (λ (x : Placed). It_lies number depth d n around ps (length x.program.blocks) (length x.program.ready)) is next)

  -- ---- calls

  module _ (number depth size : ℕ) (k : OwnCall) (ps : List PieceView) (c : CopyView) (m : Made) (f : FunctionView) (t : TemplateView) (e : CopyView) (between : Made) (d : CopyView) (n : Made) (around : List Copy)
      (is_function : slice_get u.functions k.function ≡ Some f) (is_template : template_at ts k.function ≡ Some t) (inside : Opens u ts t.pieces (copy_of u ts k c m f t) (with_labels t.labels m) e between) (behind_it : Opens u ts ps (with_rest ps c) between d n) (g : Good u (placed m c)) (stays : It_stays number depth d n) (comes : It_comes size m d n around (Call k ∷ ps)) where
    called : Fits u ts of entry temps last none_ready low P k.function f t
    called = fits k.function comes.calls.0 f t is_function is_template

    left_inside : Leaves u ts (copy_of u ts k c m f t) (with_labels t.labels m) e between
    left_inside = leaves u ts t.pieces (copy_of u ts k c m f t) (with_labels t.labels m) e between (good_copy u ts k c m f t g) inside

    further : Extends m between
    further = extends_twice m (with_labels t.labels m) between (extends_labels t.labels m) left_inside.extends

    good_behind : Good u (placed between (with_rest ps c))
    good_behind = good_caller u ts c m between e g further left_inside.good ps

    left_behind : Leaves u ts (with_rest ps c) between d n
    left_behind = leaves u ts ps (with_rest ps c) between d n good_behind behind_it

    to_last : Extends between last
    to_last = extends_twice between n last left_behind.extends stays.to_last

    -- the copy that is called is what it was made as
    is_copy_of : e ≡ with_locals e.locals (with_rest e.rest (copy_of u ts k c m f t))
    is_copy_of = left_inside.within

    same_function : e.function ≡ f
    same_function = ap (λ (x : CopyView). x.function) is_copy_of

    same_names : e.names ≡ t.names
    same_names = ap (λ (x : CopyView). x.names) is_copy_of

    first_label : e.labels ≡ length m.labels
    first_label = ap (λ (x : CopyView). x.labels) is_copy_of

    own_label : d.labels ≡ c.labels
    own_label = ap (λ (x : CopyView). x.labels) left_behind.within

    pub deeper : ℕ
    deeper = k.depth + depth

    stays_inside : It_stays k.function (k.depth + depth) e between
    stays_inside = record {
      function = is_function ∙ ap Some (sym same_function);
      names = ap (λ (x : TemplateView). x.names) called.is ∙ sym same_names;
      deep = ap (λ (x : CopyView). x.depth) is_copy_of ∙ deep k.depth c.depth depth (sym (ap (λ (x : CopyView). x.depth) left_behind.within) ∙ stays.deep);
      named = λ j x is. subst (λ g. IsNameThere u g x) (sym same_function) (called.fit.named j x (ap (λ xs. slice_get xs j) (sym same_names) ∙ is));
      to_last = to_last;
      labels = λ l le less. stays.labels l (first l le) (less_than l (length between.labels) (length n.labels) less left_behind.extends.labels) ∙ label_kept u ts l ps (with_rest ps c) between d n good_behind behind_it less (λ j is. past_all size j ps (past l j le is) comes.once.1);
    }
      where
        deep : (a c depth : ℕ) → c ≡ min depth (2 ^ 32 - 1) → min (a + c) (2 ^ 32 - 1) ≡ min (a + depth) (2 ^ 32 - 1)
        deep a c depth e = omega (arith, e)

        less_than : (a b c : ℕ) → a < b → b ≤ c → a < c
        less_than a b c p q = omega (arith, p, q)

        first : (l : ℕ) → e.labels ≤ l → d.labels ≤ l
        first l le = let room = comes.room in by (length m.labels) e.labels d.labels first_label room le
          where
            by : (count e d : ℕ) → e ≡ count → d + size ≤ count → e ≤ l → d ≤ l
            by count e d is room le = omega (arith, is, room, le)

        past : (l j : ℕ) → e.labels ≤ l → l ≡ j + c.labels → size ≤ j
        past l j le is = let room = comes.room in by (length m.labels) e.labels d.labels c.labels first_label own_label room le is
          where
            by : (count e d c : ℕ) → e ≡ count → d ≡ c → d + size ≤ count → e ≤ l → l ≡ j + c → size ≤ j
            by count e d c is same room le at = omega (arith, is, same, room, le, at)

    avoids : AvoidAll (length m.bases.bases) (length between.bases.bases) (a_copy number depth d ∷ around)
    avoids = ((λ slot b is. by slot b (left_behind.locals.fresh slot b is)), avoid_less _ _ _ _ (same (length m.bases.bases)) (bases_longer between.bases n.bases left_behind.extends.bases) around comes.avoid)
      where
        same : (k : ℕ) → k ≤ k
        same k = omega arith

        by : (slot b : ℕ) → (known c.locals slot ≡ Some b) ⊎ (length between.bases.bases ≤ b) → (b < length m.bases.bases) ⊎ (length between.bases.bases ≤ b)
        by slot b (inl old) = let x = g.locals.are slot b old in inl (within m.bases.bases b x.info x.there)
        by slot b (inr past) = inr past

    comes_inside : It_comes t.labels (with_labels t.labels m) e between (a_copy number depth d ∷ around) t.pieces
    comes_inside = record {
      fit = subst₂ (λ g names. ArePiecesFit u g names t.pieces) (sym same_function) (sym same_names) called.fit.pieces;
      calls = called.calls;
      once = called.once;
      room = room (length m.labels) e.labels (length (replicate t.labels 0)) (length (m.labels ++ replicate t.labels 0)) first_label (length-append m.labels (replicate t.labels 0)) (length-replicate t.labels 0);
      avoid = avoids;
    }
      where
        room : (count first more all : ℕ) → first ≡ count → all ≡ count + more → more ≡ t.labels → first + t.labels ≤ all
        room count first more all is sum same = omega (arith, is, sum, same)

    -- its bases lie among those that came while it was opened
    ranged : (slot b : ℕ) → known e.locals slot ≡ Some b → (length m.bases.bases ≤ b) × (b < length between.bases.bases)
    ranged slot b is = let x = left_inside.good.locals.are slot b is in (by (left_inside.locals.fresh slot b is), within between.bases.bases b x.info x.there)
      where
        by : (known (replicate (length f.locals + 1) None) slot ≡ Some b) ⊎ (length m.bases.bases ≤ b) → length m.bases.bases ≤ b
        by (inl none) = absurd (none_known u ts (length f.locals + 1) slot b none)
        by (inr past) = past

    is_copy : IsCopy program (a_copy k.function (k.depth + depth) e)
    is_copy = record { are_locals = λ slot b is. a_local slot b (left_inside.good.locals.are slot b is); own = left_inside.good.locals.once }
      where
        a_local : (slot b : ℕ) → LocalAt u e.function between.bases.bases slot b → IsLocal program (a_copy k.function (k.depth + depth) e) slot b
        a_local slot b x = record { function = e.function; stands = stays_inside.function; info = x.info; there = info_kept between.bases last.bases b x.info to_last.bases x.there; is_automatic = x.is_automatic; size = x.size; cells = x.cells }

    pub calls_there : It_lies k.function (k.depth + depth) e between (a_copy number depth d ∷ around) t.pieces (length m.blocks) (length m.ready) → It_lies number depth d n around ps (length between.blocks) (length between.ready) → It_lies number depth d n around (Call k ∷ ps) (length m.blocks) (length m.ready)
    calls_there inner rest =
        layouts.calls (a_copy number depth d) around k (a_copy k.function (k.depth + depth) e) ps (length m.blocks) (length m.ready) (length between.blocks) (length between.ready) (length n.blocks) (length n.ready)
        refl refl (ap (λ (x : CopyView). x.at) is_copy_of) (ap (λ (x : CopyView). x.used) is_copy_of) is_copy (all_apart (length m.bases.bases) (length between.bases.bases) (a_copy k.function (k.depth + depth) e) (a_copy number depth d ∷ around) ranged avoids)
        (subst (λ (x : TemplateView). It_lies k.function (k.depth + depth) e between (a_copy number depth d ∷ around) x.pieces (length m.blocks) (length m.ready)) (sym called.is) inner) rest

    pub stays_in : It_stays k.function (k.depth + depth) e between
    stays_in = stays_inside

    pub comes_in : It_comes t.labels (with_labels t.labels m) e between (a_copy number depth d ∷ around) t.pieces
    comes_in = comes_inside

    pub good_in : Good u (placed (with_labels t.labels m) (copy_of u ts k c m f t))
    good_in = good_copy u ts k c m f t g

    pub good_on : Good u (placed between (with_rest ps c))
    good_on = good_behind

    pub comes_behind : It_comes size between d n around ps
    comes_behind = comes_on u ts of entry temps last none_ready low P fits size m between d n around (Call k) ps further comes

  -- ---- all pieces

  pub lay : (number depth size : ℕ) (ps : List PieceView) (c : CopyView) (m : Made) (d : CopyView) (n : Made) (around : List Copy) → Opens u ts ps c m d n → Good u (placed m c) → It_stays number depth d n → It_comes size m d n around ps → It_lies number depth d n around ps (length m.blocks) (length m.ready)
  lay number depth size _ c m _ _ around (done _ _) g stays comes = layouts.nothing (a_copy number depth c) around (length m.blocks) (length m.ready)
  lay number depth size _ c m d n around (call k ps _ _ f t e between _ _ is_function is_template inside behind_it) g stays comes =
      calls_there number depth size k ps c m f t e between d n around is_function is_template inside behind_it g stays comes
      (lay k.function (k.depth + depth) t.labels t.pieces (copy_of u ts k c m f t) (with_labels t.labels m) e between (a_copy number depth d ∷ around) inside
      (good_in number depth size k ps c m f t e between d n around is_function is_template inside behind_it g stays comes)
      (stays_in number depth size k ps c m f t e between d n around is_function is_template inside behind_it g stays comes)
      (comes_in number depth size k ps c m f t e between d n around is_function is_template inside behind_it g stays comes))
      (lay number depth size ps (with_rest ps c) between d n around behind_it
      (good_on number depth size k ps c m f t e between d n around is_function is_template inside behind_it g stays comes) stays
      (comes_behind number depth size k ps c m f t e between d n around is_function is_template inside behind_it g stays comes))
  lay number depth size _ c m d n around (piece q ps _ _ _ _ other opens) g stays comes =
      let here : Good u (placed m (with_rest ps c)) = record { table = g.table; locals = g.locals } in
      let s = steps_piece u q (placed m (with_rest ps c)) here in
      let p = after_piece u ts q ps c m in
      let next = lay number depth size ps p.within p.program d n around opens s.good stays (comes_on u ts of entry temps last none_ready low P fits size m p.program d n around q ps s.extends comes) in
      let l = leaves u ts ps p.within p.program d n s.good opens in
      let within = l.within ∙ ap (λ x. with_locals d.locals (with_rest d.rest x)) s.within in
      by q other opens comes here l within next
    where
      by : (q : PieceView) → is_call q ≡ false → Opens u ts ps (after_piece u ts q ps c m).within (after_piece u ts q ps c m).program d n → It_comes size m d n around (q ∷ ps) → Good u (placed m (with_rest ps c)) → Leaves u ts (after_piece u ts q ps c m).within (after_piece u ts q ps c m).program d n → d ≡ with_locals d.locals (with_rest d.rest c)
          → It_lies number depth d n around ps (length (after_piece u ts q ps c m).program.blocks) (length (after_piece u ts q ps c m).program.ready) → It_lies number depth d n around (q ∷ ps) (length m.blocks) (length m.ready)
      by (Do s) other opens comes here l within next =
          let both = does u ts of entry temps last none_ready low P fits number depth size d n around stays s s.at (placed m (with_rest ps c)) ps here comes.fit.0 l next in
          layouts.does (a_copy number depth d) around s ps (length m.blocks) (length m.ready) (length n.blocks) (length n.ready) both.0 both.1
      by (DoIfUsed s) other opens comes here l within next = if_used number depth size s ps c m d n around here stays comes.fit.0 (ap (λ (x : CopyView). x.at) within) (ap (λ (x : CopyView). x.used) within) l next
      by (End s exits) other opens comes here l within next = ends u ts of entry temps last none_ready low P fits number depth size d n around stays s exits (placed m (with_rest ps c)) ps here comes.fit.0.0 comes.fit.0.1 l next
      by (Mark label) other opens comes here l within next =
          marks_there u ts of entry temps last none_ready low P fits number depth size d n around stays label ps c m here opens comes.once.0.0 comes.once.0.1 comes.room (ap (λ (x : CopyView). x.labels) within) next
      by (Call k) other opens comes here l within next = cc
