-- A copy that was opened is laid out in the finished program.
use Rattle.std.proofs.Common.{◌≡◌, ◌<◌, ◌≤◌, ◌⊎◌, inl, inr, ℕ, zero, suc, ◌+◌, ◌-◌, ◌^◌, ◌==◌, min, Bool, true, false, cond, List, [], ◌∷◌, ◌++◌, length, replicate, get_or, Option, Some, None, refl, arith, ap, sym, subst, subst₂, ◌∙◌}
use Rattle.std.specs.List.{slice_get, slice_set}
use Rattle.std.proofs.lemmas.Bool.{eqb-true}
use Rattle.std.proofs.lemmas.List.{append-nil, get_or-set_same, length-set, length-replicate}
use Rattle.std.proofs.Common.{length-append}
use Rattle.cc_base.specs.declared.diagnostics.Place.{Place}
use Rattle.c_layout.specs.CheckedUnits.{FunctionView, UnitView}
use Rattle.c_layout.specs.declared.shapes.BaseInfo.{BaseInfo}
use Rattle.lower_templates.specs.Worklist.Acts as acts
use Rattle.lower_templates.specs.Worklist.Acts.{Act, Step}
use Rattle.lower_templates.specs.Worklist.Pieces.{NameView, Always, ExitView, PieceView, Do, DoIfUsed, End, Mark, Call, TemplateView}
use Rattle.lower_templates.specs.declared.worklist.template_pieces.OwnCall.{OwnCall}
use Rattle.lower_templates.specs.Views.ProgramViews.{BlockView, EdgeView, FlowView}
use Rattle.semantics.specs.CfgMachine.FlowEdges.{edges_of}
use Rattle.semantics.specs.CfgMachine.FlowSteps.{block_of}
use Rattle.lower.specs.Inlining.MovedActs.{own_base}
use Rattle.lower_tables.specs.Bases.BaseTables.{known}
use Rattle.lower.specs.Inlining.Lowerings.{lowered}
use Rattle.lower.specs.Inlining.Inlinings.{Made, CopyView, Placed, placed, with_locals, with_rest, with_ready, instruction, with_edge, edge_to, ended, is_none, jumped, jumped_if, labelled, marked, with_mark, with_act, with_own, with_exits, block_ended, closed, with_act_if_used, with_piece, with_labels, copied, template_at, inner, resolved, finished}
use Rattle.lower.proofs.inlining.CountedCalls.{CalledIs, AllCalled}
use Rattle.simulation_layout.specs.InlinedLayout.Copies.{Inlined, Copy, IsLocal, IsCopy, Apart, AllApart}
use Rattle.simulation_layout.specs.InlinedLayout.Layouts as layouts
use Rattle.simulation_layout.specs.InlinedLayout.Layouts.{Laid, IsPut, AreLed, edges_at}
use Rattle.simulation_layout.specs.Copies.LowTemporaries.{HasLowTemps}
use Rattle.simulation_layout.specs.Inlining.NameRanges.{IsNameThere}
use Rattle.simulation_layout.specs.Copies.FitTemplates.{PointsToStart, AllSwitchOn, ArePiecesFit, IsFit}
use Rattle.simulation_layout.proofs.inlining.ListPlaces.{some_same, within, one_longer, no_shorter}
use Rattle.simulation_layout.proofs.inlining.NamedTables.{LocalAt, GoodLocals, More, more_twice, info_kept, bases_longer}
use Rattle.simulation_layout.proofs.inlining.MadeParts.{At, EdgesAt, Extends, extends_same, extends_twice, extends_labels, extends_label, extends_edge, extends_ended, edges_kept, at_ready, edges_ended}
use Rattle.simulation_layout.proofs.inlining.NamedPlaces.{Good, only_own}
use Rattle.simulation_layout.proofs.inlining.InlinedPieces.{Steps, steps_act, steps_exits, steps_program, steps_piece, blocks_exits, jumped_labels, marks, Unmarked}
use Rattle.simulation_layout.proofs.inlining.InlinedCopies.{Opens, done, piece, call, Leaves, leaves, label_kept, after_piece, copy_of, good_copy, good_caller, is_call}
use Rattle.simulation_layout.proofs.copies.FinishedPrograms.{stands_in, edges_in}
use Rattle.simulation_layout.proofs.copies.LaidNames.{whole, copy_at, Toward, toward_back, put, Led, exits_led}

-- ---- labels

-- a label stands once, and has a number below so many
abbrev pub OnceHere : ℕ → PieceView → List PieceView → Type 0
OnceHere size (Do s) ps = Unit {0}
OnceHere size (DoIfUsed s) ps = Unit {0}
OnceHere size (End s exits) ps = Unit {0}
OnceHere size (Mark l) ps = (l < size) × Unmarked l ps
OnceHere size (Call c) ps = Unit {0}

abbrev pub MarkedOnce : ℕ → List PieceView → Type 0
MarkedOnce size [] = Unit {0}
MarkedOnce size (p ∷ ps) = OnceHere size p ps × MarkedOnce size ps

-- a greater number is none of a label
pub past_all : (size j : ℕ) (ps : List PieceView) → size ≤ j → MarkedOnce size ps → Unmarked j ps
past_all size j [] le once = tt
past_all size j (Do s ∷ ps) le (here, once) = (refl, past_all size j ps le once)
past_all size j (DoIfUsed s ∷ ps) le (here, once) = (refl, past_all size j ps le once)
past_all size j (End s exits ∷ ps) le (here, once) = (refl, past_all size j ps le once)
past_all size j (Call c ∷ ps) le (here, once) = (refl, past_all size j ps le once)
past_all size j (Mark l ∷ ps) le (here, once) = (by (j == l) refl, past_all size j ps le once)
  where
    differ : j ≡ l → ⊥
    differ e = let less = here.0 in no j l e less le
      where
        no : (j l : ℕ) → j ≡ l → l < size → size ≤ j → ⊥
        no j l e less le = omega (arith, e, less, le)

    by : (b : Bool) → (j == l) ≡ b → (j == l) ≡ false
    by false e = e
    by true e = absurd (differ (eqb-true j l e))

-- ---- ranges of bases

-- no base of the copies lies among those from one on up to another one
abbrev pub AvoidAll : ℕ → ℕ → List Copy → Type 0
AvoidAll low high [] = Unit {0}
AvoidAll low high (a ∷ as_) = ((slot b : ℕ) → a.locals slot ≡ Some b → (b < low) ⊎ (high ≤ b)) × AvoidAll low high as_

pub avoid_less : (low high more fewer : ℕ) → low ≤ more → fewer ≤ high → (as_ : List Copy) → AvoidAll low high as_ → AvoidAll more fewer as_
avoid_less low high more fewer p q [] all = tt
avoid_less low high more fewer p q (a ∷ as_) (here, all) = ((λ slot b is. by b (here slot b is)), avoid_less low high more fewer p q as_ all)
  where
    up : (b : ℕ) → b < low → b < more
    up b less = omega (arith, less, p)

    down : (b : ℕ) → high ≤ b → fewer ≤ b
    down b le = omega (arith, le, q)

    by : (b : ℕ) → (b < low) ⊎ (high ≤ b) → (b < more) ⊎ (fewer ≤ b)
    by b (inl less) = inl (up b less)
    by b (inr le) = inr (down b le)

-- a copy all of whose bases lie there is apart from them
pub all_apart : (low high : ℕ) (c : Copy) (as_ : List Copy) → ((slot b : ℕ) → c.locals slot ≡ Some b → (low ≤ b) × (b < high)) → AvoidAll low high as_ → AllApart c as_
all_apart low high c [] inside all = tt
all_apart low high c (a ∷ as_) inside (here, all) = ((λ slot other b is there. by b (inside slot b is) (here other b there)), all_apart low high c as_ inside all)
  where
    below : (b : ℕ) → low ≤ b → b < low → ⊥
    below b le less = omega (arith, le, less)

    past : (b : ℕ) → b < high → high ≤ b → ⊥
    past b less le = omega (arith, le, less)

    by : (b : ℕ) → (low ≤ b) × (b < high) → (b < low) ⊎ (high ≤ b) → ⊥
    by b (at_least, less) (inl under) = below b at_least under
    by b (at_least, less) (inr over) = past b less over

module _ (u : UnitView) (ts : List (Option TemplateView)) (of : ℕ → TemplateView) (entry : FunctionView) (temps : ℕ) (last : Made) (none_ready : last.ready ≡ []) (low : HasLowTemps (lowered u entry (finished last) temps)) where
  -- what is known of a function that is called
  pub record Fits (P : ℕ → Type 0) (m : ℕ) (f : FunctionView) (t : TemplateView) : Type 0 where
    pub is : of m ≡ t
    pub calls : AllCalled P t.pieces
    pub once : MarkedOnce t.labels t.pieces
    pub fit : IsFit u f t

  module _ (P : ℕ → Type 0) (fits : (m : ℕ) → P m → (f : FunctionView) (t : TemplateView) → slice_get u.functions m ≡ Some f → template_at ts m ≡ Some t → Fits P m f t) where
    abbrev pub its : Inlined
    its = whole u of entry temps last none_ready low

    abbrev pub at_copy : ℕ → ℕ → CopyView → Copy
    at_copy number depth d = copy_at u of entry temps last none_ready low number depth d

    -- what stays while a copy is opened
    pub record Stays (number depth : ℕ) (d : CopyView) (n : Made) : Type 0 where
      pub function : slice_get u.functions number ≡ Some d.function
      pub names : (of number).names ≡ d.names
      pub deep : d.depth ≡ min depth (2 ^ 32 - 1)
      pub named : (k : ℕ) (x : NameView) → slice_get d.names k ≡ Some x → IsNameThere u d.function x
      pub to_last : Extends n last
      pub labels : (l : ℕ) → d.labels ≤ l → l < length n.labels → get_or last.labels l 0 ≡ get_or n.labels l 0

    -- what is known of the pieces that are still to come
    pub record Comes (size : ℕ) (m : Made) (d : CopyView) (n : Made) (around : List Copy) (ps : List PieceView) : Type 0 where
      pub fit : ArePiecesFit u d.function d.names ps
      pub calls : AllCalled P ps
      pub once : MarkedOnce size ps
      pub room : d.labels + size ≤ length m.labels
      pub avoid : AvoidAll (length m.bases.bases) (length n.bases.bases) around

    pub far : (a b c : ℕ) → a ≤ b → b ≤ c → a ≤ c
    far a b c p q = omega (arith, p, q)

    -- behind a piece that is no call
    pub comes_on : (size : ℕ) (m k : Made) (d : CopyView) (n : Made) (around : List Copy) (q : PieceView) (ps : List PieceView) → Extends m k → Comes size m d n around (q ∷ ps) → Comes size k d n around ps
    comes_on size m k d n around q ps x c =
        let room = c.room in
        let longer = x.labels in
        record { fit = c.fit.1; calls = c.calls.1; once = c.once.1; room = far _ _ _ room longer; avoid = avoid_less _ _ _ _ (bases_longer m.bases k.bases x.bases) (same (length n.bases.bases)) around c.avoid }
      where
        same : (k : ℕ) → k ≤ k
        same k = omega arith

    pub toward : (p : Placed) (d : CopyView) (n : Made) → Leaves u ts p.within p.program d n → Extends n last → Toward u of entry temps last none_ready low p d
    toward p d n l x = record { kept = l.locals.kept; more = more_twice p.program.bases n.bases last.bases l.extends.bases x.bases; within = l.within }

    module _ (number depth size : ℕ) (d : CopyView) (n : Made) (around : List Copy) (stays : Stays number depth d n) where
      abbrev pub own : Copy
      own = at_copy number depth d

      abbrev pub Lies : List PieceView → ℕ → ℕ → Type 0
      Lies ps block at = Laid its own around ps block at (length n.blocks) (length n.ready)

      -- an instruction that does not end its block
      pub does : (s : Step) (at : Place) (p : Placed) (ps : List PieceView) → Good u p → PointsToStart d.names s.does → Leaves u ts (with_act u at s.does p).within (with_act u at s.does p).program d n → Lies ps (length (with_act u at s.does p).program.blocks) (length (with_act u at s.does p).program.ready)
          → IsPut its own at s.does (length p.program.blocks) (length p.program.ready) × Lies ps (length p.program.blocks) (suc (length p.program.ready))
      does s at p ps g start l next =
          let q = with_act u at s.does p in
          let o = only_own u (own_base s.does) p g in
          let r = with_own u (own_base s.does) p in
          let blocks : length q.program.blocks ≡ length p.program.blocks = ap (λ (m : Made). length m.blocks) o.program in
          let ready : length q.program.ready ≡ suc (length p.program.ready) = one_longer r.program.ready _ ∙ ap (λ (m : Made). suc (length m.ready)) o.program in (
            put u of entry temps last none_ready low number depth d stays.function stays.names stays.deep stays.named at s.does p g start (extends_twice q.program n last l.extends stays.to_last) (toward q d n l stays.to_last),
            subst₂ (λ i j. Lies ps i j) blocks ready next,
          )

      -- one that ends it, with the edges of the block
      pub ends : (s : Step) (exits : List ExitView) (p : Placed) (ps : List PieceView) → Good u p → PointsToStart d.names s.does → AllSwitchOn u d.function d.names exits → Leaves u ts (closed u s exits p).within (closed u s exits p).program d n
          → Lies ps (length (closed u s exits p).program.blocks) (length (closed u s exits p).program.ready) → Lies (End s exits ∷ ps) (length p.program.blocks) (length p.program.ready)
      ends s exits p ps g start on l next =
          let acted = with_act u s.at s.does p in
          let from = length p.program.blocks in
          let left = with_exits u from exits acted in
          let a = steps_act u s.at s.does p g in
          let b = steps_exits u from exits acted a.good in
          let c = closed u s exits p in
          let closing = extends_ended (length p.program.edges) left.program in
          let to_last = extends_twice c.program n last l.extends stays.to_last in
          let left_last = extends_twice left.program c.program last closing to_last in
          let toward_c = toward c d n l stays.to_last in
          let toward_left : Toward u of entry temps last none_ready low left d = record { kept = toward_c.kept; more = toward_c.more; within = toward_c.within } in
          let toward_acted = toward_back u of entry temps last none_ready low acted left d b toward_left in
          let put_there = put u of entry temps last none_ready low number depth d stays.function stays.names stays.deep stays.named s.at s.does p g start (extends_twice acted.program left.program last b.extends left_last) toward_acted in
          let led = exits_led u of entry temps last none_ready low number depth d stays.function stays.names stays.deep stays.named from exits acted a.good on left_last toward_left in
          let o = only_own u (own_base s.does) p g in
          let edges_acted : acted.program.edges ≡ p.program.edges = ap (λ (m : Made). m.edges) o.program in
          let blocks_acted : length acted.program.blocks ≡ from = ap (λ (m : Made). length m.blocks) o.program in
          let blocks_left : length left.program.blocks ≡ from = blocks_exits u from exits acted a.good ∙ blocks_acted in
          let own_edges = edges_ended (length p.program.edges) left.program p.program.edges led.edges (led.all ∙ ap (λ xs. xs ++ led.edges) edges_acted) refl in
          let there : EdgesAt last from led.edges = edges_kept c.program last from led.edges to_last (subst (λ k. EdgesAt c.program k led.edges) blocks_left own_edges) in
          let is : edges_at its from ≡ resolved last.labels led.edges = edges_in u entry last temps none_ready from led.edges there in
          let blocks : length c.program.blocks ≡ from + 1 = one_longer left.program.blocks _ ∙ ap suc blocks_left ∙ add_one from in
          layouts.ends own around s exits ps from (length p.program.ready) (length n.blocks) (length n.ready) put_there (subst (λ es. AreLed its own exits es) (sym is) led.are_led) (subst (λ k. Lies ps k 0) blocks next)
        where
          add_one : (k : ℕ) → suc k ≡ k + 1
          add_one k = omega arith

      -- a label
      pub labelled_at : (l : ℕ) (ps : List PieceView) (c : CopyView) (m : Made) → Good u (placed m (with_rest ps c)) → Opens u ts ps (with_mark l (placed m (with_rest ps c))).within (with_mark l (placed m (with_rest ps c))).program d n → l < size → Unmarked l ps → d.labels + size ≤ length m.labels → d.labels ≡ c.labels
          → get_or last.labels (l + d.labels) 0 ≡ length (jumped_if c.at (l + c.labels) m).blocks
      labelled_at l ps c m g opens less other room same =
          let p = with_mark l (placed m (with_rest ps c)) in
          let s = steps_piece u (Mark l) (placed m (with_rest ps c)) g in
          let j = jumped_if c.at (l + c.labels) m in
          let x = leaves u ts ps p.within p.program d n s.good opens in
          let there : length p.program.labels ≡ length m.labels = length-set j.labels (l + c.labels) (length j.blocks) ∙ ap length (jumped_labels u c.at (l + c.labels) m) in
          let in_m : l + d.labels < length m.labels = short l size d.labels (length m.labels) less room in
          let in_p : l + d.labels < length p.program.labels = subst (λ k. l + d.labels < k) (sym there) in_m in
          let longer = x.extends.labels in
          stays.labels (l + d.labels) (at_least l d.labels) (further (l + d.labels) _ _ in_p longer)
          ∙ label_kept u ts (l + d.labels) ps p.within p.program d n s.good opens in_p (λ k e. subst (λ i. Unmarked i ps) (alike l k d.labels c.labels e same) other)
          ∙ ap (λ k. get_or p.program.labels (l + k) 0) same
          ∙ get_or-set_same j.labels (l + c.labels) (length j.blocks) 0 (subst (λ k. l + c.labels < k) (sym (ap length (jumped_labels u c.at (l + c.labels) m))) (subst (λ k. l + k < length m.labels) same in_m))
        where
          short : (l size d k : ℕ) → l < size → d + size ≤ k → l + d < k
          short l size d k less room = omega (arith, less, room)

          at_least : (l d : ℕ) → d ≤ l + d
          at_least l d = omega arith

          further : (a b c : ℕ) → a < b → b ≤ c → a < c
          further a b c p q = omega (arith, p, q)

          alike : (l k d c : ℕ) → l + d ≡ k + c → d ≡ c → l ≡ k
          alike l k d c e same = omega (arith, e, same)

      -- a label begins a block, or a jump ends the one before
      pub marks_there : (l : ℕ) (ps : List PieceView) (c : CopyView) (m : Made) → Good u (placed m (with_rest ps c)) → Opens u ts ps (with_mark l (placed m (with_rest ps c))).within (with_mark l (placed m (with_rest ps c))).program d n → l < size → Unmarked l ps → d.labels + size ≤ length m.labels → d.labels ≡ c.labels
          → Lies ps (length (with_mark l (placed m (with_rest ps c))).program.blocks) (length (with_mark l (placed m (with_rest ps c))).program.ready) → Lies (Mark l ∷ ps) (length m.blocks) (length m.ready)
      marks_there l ps c m g opens less other room same next = by m.ready refl (labelled_at l ps c m g opens less other room same) next
        where
          s : Steps u (placed m (with_rest ps c)) (with_mark l (placed m (with_rest ps c)))
          s = steps_piece u (Mark l) (placed m (with_rest ps c)) g

          to_last : Extends (with_mark l (placed m (with_rest ps c))).program last
          to_last = extends_twice (with_mark l (placed m (with_rest ps c))).program n last (leaves u ts ps (with_mark l (placed m (with_rest ps c))).within (with_mark l (placed m (with_rest ps c))).program d n (steps_piece u (Mark l) (placed m (with_rest ps c)) g).good opens).extends stays.to_last

          by : (ready : List Step) → m.ready ≡ ready → get_or last.labels (l + d.labels) 0 ≡ length (jumped_if c.at (l + c.labels) m).blocks → Lies ps (length (jumped_if c.at (l + c.labels) m).blocks) (length (jumped_if c.at (l + c.labels) m).ready) → Lies (Mark l ∷ ps) (length m.blocks) (length m.ready)
          by [] e label rest =
              let here : jumped_if c.at (l + c.labels) m ≡ m = ap (λ xs. cond (is_none xs) m (jumped c.at (l + c.labels) m)) e in
              let rest_m = subst (λ (k : Made). Lies ps (length k.blocks) (length k.ready)) here rest in
              let label_m = label ∙ ap (λ (k : Made). length k.blocks) here in
              let none : length m.ready ≡ 0 = ap length e in
              subst (λ k. Lies (Mark l ∷ ps) (length m.blocks) k) (sym none) (layouts.begins own around l ps (length m.blocks) (length n.blocks) (length n.ready) label_m (subst (λ k. Lies ps (length m.blocks) k) none rest_m))
          by (x ∷ xs) e label rest =
              let k = jumped c.at (l + c.labels) m in
              let here : jumped_if c.at (l + c.labels) m ≡ k = ap (λ xs. cond (is_none xs) m (jumped c.at (l + c.labels) m)) e in
              let jump = instruction c.at acts.Jump in
              let edge = edge_to (length m.blocks) (l + c.labels) Always in
              let readied = with_ready jump m in
              let extends_k : Extends k last = extends_twice k (labelled (l + c.labels) k) last (extends_label (l + c.labels) k) (subst (λ (j : Made). Extends (labelled (l + c.labels) j) last) here to_last) in
              let readied_k = extends_twice readied (with_edge edge readied) k (extends_edge edge readied) (extends_ended (length m.edges) (with_edge edge readied)) in
              let there = (extends_twice readied k last readied_k extends_k).steps (length m.blocks) (length m.ready) jump (at_ready jump m) in
              let edges_there = edges_kept k last (length m.blocks) (edge ∷ []) extends_k (edges_ended (length m.edges) (with_edge edge readied) m.edges (edge ∷ []) refl refl) in
              let count : length k.blocks ≡ length m.blocks + 1 = one_longer m.blocks _ ∙ add_one (length m.blocks) in
              let label_k : get_or last.labels (l + d.labels) 0 ≡ length m.blocks + 1 = label ∙ ap (λ (j : Made). length j.blocks) here ∙ count in
              let leads : edges_at its (length m.blocks) ≡ record { from = length m.blocks; to = length m.blocks + 1; taken = Always } ∷ [] =
              edges_in u entry last temps none_ready (length m.blocks) (edge ∷ []) edges_there ∙ ap (λ i. edge_to (length m.blocks) (get_or last.labels (l + i) 0) Always ∷ []) (sym same) ∙ ap (λ i. edge_to (length m.blocks) i Always ∷ []) label_k
              in
              let rest_k = subst (λ (j : Made). Lies ps (length j.blocks) (length j.ready)) here rest in
              layouts.jumps own around l (length m.blocks) c.at ps (length m.blocks) (length m.ready) (length n.blocks) (length n.ready) label_k (stands_in u entry last temps none_ready (length m.blocks) (length m.ready) jump there) leads (subst (λ i. Lies ps i 0) count rest_k)
            where
              add_one : (k : ℕ) → suc k ≡ k + 1
              add_one k = omega arith
