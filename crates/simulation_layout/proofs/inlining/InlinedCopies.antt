-- How a copy is opened, as a tree: its pieces one after the other, and for each call a copy of its own. The turns of an
-- opening do the same with a stack.
use Rattle.std.proofs.Common.{◌≡◌, ◌<◌, ◌≤◌, ℕ, zero, suc, ◌+◌, Bool, true, false, List, [], ◌∷◌, length, replicate, get_or, Option, Some, None, refl, arith, ap, sym, subst, ◌∙◌}
use Rattle.std.specs.List.{slice_get}
use Rattle.std.proofs.lemmas.List.{length-replicate, get_or_append_left}
use Rattle.c_layout.specs.CheckedUnits.{FunctionView, UnitView}
use Rattle.lower_templates.specs.Worklist.Pieces.{PieceView, Do, DoIfUsed, End, Mark, Call, TemplateView}
use Rattle.lower_templates.specs.declared.worklist.template_pieces.OwnCall.{OwnCall}
use Rattle.lower_tables.specs.Bases.BaseTables.{known}
use Rattle.lower.specs.Inlining.Inlinings.{Made, CopyView, Placed, Inlined, placed, inlined, with_locals, with_rest, with_piece, with_labels, copied, template_at, inner, entered, next_piece, run}
use Rattle.lower.proofs.inlining.CountedCalls.{AllCalled}
use Rattle.simulation_layout.proofs.inlining.ListPlaces.{none_is_not}
use Rattle.simulation_layout.proofs.inlining.NamedTables.{locals_on, MoreLocals, locals_same, locals_twice, bases_longer}
use Rattle.simulation_layout.proofs.inlining.MadeParts.{Extends, extends_same, extends_twice, extends_labels}
use Rattle.simulation_layout.proofs.inlining.NamedPlaces.{Good}
use Rattle.simulation_layout.proofs.inlining.InlinedPieces.{steps_piece, Unmarked, labels_kept}

abbrev pub is_call : PieceView → Bool
is_call (Call c) = true
is_call other = false

module _ (u : UnitView) (ts : List (Option TemplateView)) where
  abbrev pub after_piece : PieceView → List PieceView → CopyView → Made → Placed
  after_piece q ps c m = with_piece u q (placed m (with_rest ps c))

  -- the copy of a called function, and the program then
  abbrev pub copy_of : OwnCall → CopyView → Made → FunctionView → TemplateView → CopyView
  copy_of k c m f t = copied (inner k c) (length m.labels) f t

  -- pieces of a copy, and what the copy and the program are before and behind
  pub data Opens : List PieceView → CopyView → Made → CopyView → Made → Type 0 where
    done : (c : CopyView) (m : Made) → Opens [] c m c m
    piece : (q : PieceView) (ps : List PieceView) (c : CopyView) (m : Made) (d : CopyView) (n : Made) → is_call q ≡ false → Opens ps (after_piece q ps c m).within (after_piece q ps c m).program d n → Opens (q ∷ ps) c m d n
    call : (k : OwnCall) (ps : List PieceView) (c : CopyView) (m : Made) (f : FunctionView) (t : TemplateView) (e : CopyView) (between : Made) (d : CopyView) (n : Made) → slice_get u.functions k.function ≡ Some f → template_at ts k.function ≡ Some t
        → Opens t.pieces (copy_of k c m f t) (with_labels t.labels m) e between → Opens ps (with_rest ps c) between d n → Opens (Call k ∷ ps) c m d n

  -- ---- what is left behind

  pub record Leaves (c : CopyView) (m : Made) (d : CopyView) (n : Made) : Type 0 where
    pub good : Good u (placed n d)
    pub extends : Extends m n
    pub locals : MoreLocals m.bases c.locals d.locals
    pub within : d ≡ with_locals d.locals (with_rest d.rest c)

  pub none_known : (count slot k : ℕ) → known (replicate count None) slot ≡ Some k → ⊥
  none_known zero slot k is = none_is_not k is
  none_known (suc n) zero k is = none_is_not k is
  none_known (suc n) (suc slot) k is = none_known n slot k is

  pub good_copy : (k : OwnCall) (c : CopyView) (m : Made) (f : FunctionView) (t : TemplateView) → Good u (placed m c) → Good u (placed (with_labels t.labels m) (copy_of k c m f t))
  good_copy k c m f t g = record {
    table = g.table;
    locals = record {
      all = length-replicate (length f.locals + 1) None;
      are = λ slot j is. absurd (none_known (length f.locals + 1) slot j is);
      once = λ slot other j is and. absurd (none_known (length f.locals + 1) slot j is);
    };
  }

  pub good_caller : (c : CopyView) (m n : Made) (d : CopyView) → Good u (placed m c) → Extends m n → Good u (placed n d) → (rest : List PieceView) → Good u (placed n (with_rest rest c))
  good_caller c m n d g e after rest = record { table = after.table; locals = locals_on u c.function m.bases n.bases c.locals e.bases g.locals }

  pub leaves : (ps : List PieceView) (c : CopyView) (m : Made) (d : CopyView) (n : Made) → Good u (placed m c) → Opens ps c m d n → Leaves c m d n
  leaves _ c m _ _ g (done _ _) = record { good = g; extends = extends_same m; locals = locals_same m.bases c.locals; within = refl }
  leaves _ c m d n g (piece q ps _ _ _ _ other opens) =
      let s = steps_piece u q (placed m (with_rest ps c)) (record { table = g.table; locals = g.locals }) in
      let p = after_piece q ps c m in
      let l = leaves ps p.within p.program d n s.good opens in
      record {
        good = l.good;
        extends = extends_twice m p.program n s.extends l.extends;
        locals = locals_twice m.bases p.program.bases c.locals p.within.locals d.locals (bases_longer m.bases p.program.bases s.extends.bases) s.locals l.locals;
        within = l.within ∙ ap (λ x. with_locals d.locals (with_rest d.rest x)) s.within;
      }
  leaves _ c m d n g (call k ps _ _ f t e between _ _ is_function is_template inside behind) =
      let x = leaves t.pieces (copy_of k c m f t) (with_labels t.labels m) e between (good_copy k c m f t g) inside in
      let further = extends_twice m (with_labels t.labels m) between (extends_labels t.labels m) x.extends in
      let l = leaves ps (with_rest ps c) between d n (good_caller c m between e g further x.good ps) behind in
      record {
        good = l.good;
        extends = extends_twice m between n further l.extends;
        locals = locals_twice m.bases between.bases c.locals c.locals d.locals (bases_longer m.bases between.bases further.bases) (locals_same m.bases c.locals) l.locals;
        within = l.within;
      }

  -- a label that no piece of the copy marks keeps its block
  pub label_kept : (l : ℕ) (ps : List PieceView) (c : CopyView) (m : Made) (d : CopyView) (n : Made) → Good u (placed m c) → Opens ps c m d n → l < length m.labels → ((j : ℕ) → l ≡ j + c.labels → Unmarked j ps) → get_or n.labels l 0 ≡ get_or m.labels l 0
  label_kept l _ c m _ _ g (done _ _) less other = refl
  label_kept l _ c m d n g (piece q ps _ _ _ _ is opens) less other =
      let p = after_piece q ps c m in
      let here : Good u (placed m (with_rest ps c)) = record { table = g.table; locals = g.locals } in
      let s = steps_piece u q (placed m (with_rest ps c)) here in
      let le = s.extends.labels in
      let same : p.within.labels ≡ c.labels = ap (λ (x : CopyView). x.labels) s.within in
      label_kept l ps p.within p.program d n s.good opens (far _ _ _ less le) (λ j e. (other j (e ∙ ap (λ k. j + k) same)).1) ∙ labels_kept u l q (placed m (with_rest ps c)) here (λ j e. (other j e).0)
    where
      far : (a b c : ℕ) → a < b → b ≤ c → a < c
      far a b c p q = omega (arith, p, q)
  label_kept l _ c m d n g (call k ps _ _ f t e between _ _ is_function is_template inside behind) less other =
      let x = leaves t.pieces (copy_of k c m f t) (with_labels t.labels m) e between (good_copy k c m f t g) inside in
      let further = extends_twice m (with_labels t.labels m) between (extends_labels t.labels m) x.extends in
      let le = (extends_labels t.labels m).labels in
      let le_too = further.labels in
      label_kept l ps (with_rest ps c) between d n (good_caller c m between e g further x.good ps) behind (far _ _ _ less le_too) (λ j e. (other j e).1)
      ∙ label_kept l t.pieces (copy_of k c m f t) (with_labels t.labels m) e between (good_copy k c m f t g) inside (far _ _ _ less le) (λ j e. absurd (no j e))
      ∙ get_or_append_left m.labels (replicate t.labels 0) 0 l less
    where
      far : (a b c : ℕ) → a < b → b ≤ c → a < c
      far a b c p q = omega (arith, p, q)

      no : (j : ℕ) → l ≡ j + length m.labels → ⊥
      no j e = omega (arith, less, e)

  -- ---- from turns with a stack

  module _ (P : ℕ → Type 0) (there : (m : ℕ) → P m → (f : FunctionView) × (t : TemplateView) × (slice_get u.functions m ≡ Some f) × (template_at ts m ≡ Some t) × AllCalled P t.pieces) where
    -- a copy is finished, and then the other ones are
    pub record Finishes (n : ℕ) (stack : List CopyView) (ps : List PieceView) (c : CopyView) (m last : Made) : Type 0 where
      pub copy : CopyView
      pub between : Made
      pub left : ℕ
      pub opens : Opens ps c m copy between
      pub fewer : left ≤ n
      pub rest : run u ts left stack between ≡ inlined [] last

    abbrev Finishing : ℕ → Type 0
    Finishing most = (n : ℕ) → n ≤ most → (stack : List CopyView) (c : CopyView) (m last : Made) → AllCalled P c.rest → Good u (placed m c) → run u ts n (c ∷ stack) m ≡ inlined [] last → Finishes n stack c.rest c m last

    not_done : (c : CopyView) (stack : List CopyView) (m last : Made) → inlined (c ∷ stack) m ≡ inlined [] last → ⊥
    not_done c stack m last e = no (ap (λ (o : Inlined). o.stack) e)
      where
        no : c ∷ stack ≡ [] → ⊥
        no e = cc

    module _ (most : ℕ) (again : Finishing most) (n : ℕ) (fits : n ≤ most) (stack : List CopyView) (c : CopyView) (m last : Made) (g : Good u (placed m c)) where
      abbrev after_next : List PieceView → Type 0
      after_next ps = run u ts n (next_piece u ts ps c stack m).stack (next_piece u ts ps c stack m).program ≡ inlined [] last

      more : (a : ℕ) → a ≤ n → a ≤ suc n
      more a le = omega (arith, le)

      -- a piece that is no call
      one : (q : PieceView) (ps : List PieceView) → is_call q ≡ false → AllCalled P ps → run u ts n ((after_piece q ps c m).within ∷ stack) (after_piece q ps c m).program ≡ inlined [] last → Finishes (suc n) stack (q ∷ ps) c m last
      one q ps other all e =
          let p = after_piece q ps c m in
          let s = steps_piece u q (placed m (with_rest ps c)) (record { table = g.table; locals = g.locals }) in
          let rest : p.within.rest ≡ ps = ap (λ (x : CopyView). x.rest) s.within in
          let f = again n fits stack p.within p.program last (subst (λ xs. AllCalled P xs) (sym rest) all) s.good e in
          record { copy = f.copy; between = f.between; left = f.left; opens = piece q ps c m f.copy f.between other (subst (λ xs. Opens xs p.within p.program f.copy f.between) rest f.opens); fewer = more f.left f.fewer; rest = f.rest }

      called : (k : OwnCall) (ps : List PieceView) → P k.function → AllCalled P ps
          → run u ts n (entered (inner k c) (with_rest ps c ∷ stack) m (slice_get u.functions k.function) (template_at ts k.function)).stack (entered (inner k c) (with_rest ps c ∷ stack) m (slice_get u.functions k.function) (template_at ts k.function)).program ≡ inlined [] last → Finishes (suc n) stack (Call k ∷ ps) c m last
      called k ps reached all e =
          let (f, t, is_function, is_template, calls) = there k.function reached in
          let entering = λ (a : Option FunctionView) (b : Option TemplateView). run u ts n (entered (inner k c) (with_rest ps c ∷ stack) m a b).stack (entered (inner k c) (with_rest ps c ∷ stack) m a b).program in
          let begun : run u ts n (copy_of k c m f t ∷ (with_rest ps c ∷ stack)) (with_labels t.labels m) ≡ inlined [] last = ap (λ b. entering (Some f) b) (sym is_template) ∙ ap (λ a. entering a (template_at ts k.function)) (sym is_function) ∙ e in
          let x = again n fits (with_rest ps c ∷ stack) (copy_of k c m f t) (with_labels t.labels m) last calls (good_copy k c m f t g) begun in
          let l = leaves t.pieces (copy_of k c m f t) (with_labels t.labels m) x.copy x.between (good_copy k c m f t g) x.opens in
          let further = extends_twice m (with_labels t.labels m) x.between (extends_labels t.labels m) l.extends in
          let y = again x.left (far x.left n most x.fewer fits) stack (with_rest ps c) x.between last all (good_caller c m x.between x.copy g further l.good ps) x.rest in
          record { copy = y.copy; between = y.between; left = y.left; opens = call k ps c m f t x.copy x.between y.copy y.between is_function is_template x.opens y.opens; fewer = more y.left (far y.left x.left n y.fewer x.fewer); rest = y.rest }
        where
          far : (a b d : ℕ) → a ≤ b → b ≤ d → a ≤ d
          far a b d p q = omega (arith, p, q)

      by_rest : (ps : List PieceView) → AllCalled P ps → after_next ps → Finishes (suc n) stack ps c m last
      by_rest [] all e = record { copy = c; between = m; left = n; opens = done c m; fewer = more n (same n); rest = e }
        where
          same : (n : ℕ) → n ≤ n
          same n = omega arith
      by_rest (Do s ∷ ps) (here, all) e = one (Do s) ps refl all e
      by_rest (DoIfUsed s ∷ ps) (here, all) e = one (DoIfUsed s) ps refl all e
      by_rest (End s exits ∷ ps) (here, all) e = one (End s exits) ps refl all e
      by_rest (Mark l ∷ ps) (here, all) e = one (Mark l) ps refl all e
      by_rest (Call k ∷ ps) (here, all) e = called k ps here all e

    finish_within : (most : ℕ) → Finishing most
    finish_within most zero fits stack c m last all g e = absurd (not_done c stack m last e)
    finish_within zero (suc n) fits stack c m last all g e = absurd (omega (arith, fits))
    finish_within (suc most) (suc n) fits stack c m last all g e = by_rest most (finish_within most) n (omega (arith, fits)) stack c m last g c.rest all e

    pub finish : (n : ℕ) (stack : List CopyView) (c : CopyView) (m last : Made) → AllCalled P c.rest → Good u (placed m c) → run u ts n (c ∷ stack) m ≡ inlined [] last → Finishes n stack c.rest c m last
    finish n stack c m last all g e = finish_within n n (omega arith) stack c m last all g e
