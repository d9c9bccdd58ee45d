-- Templates that are laid out in a program whose edges go on are bounded.
use Rattle.std.proofs.Common.{◌≡◌, ◌≤◌, ◌<◌, ℕ, suc, ◌+◌, ◌==◌, Bool, true, false, cond, List, ◌∷◌, Some, refl, arith, ap, sym, subst, ◌∙◌}
use Rattle.std.proofs.lemmas.Bool.{eqb-true}
use Rattle.lower_templates.specs.Worklist.Pieces.{ExitView, PieceView, Mark}
use Rattle.lower_templates.specs.Views.ProgramViews.{EdgeView}
use Rattle.semantics.specs.TemplateMachine.TemplateExits.{behind_mark}
use Rattle.simulation_layout.specs.InlinedLayout.Copies.{Inlined, Copy}
use Rattle.simulation_layout.specs.InlinedLayout.Layouts as laid
use Rattle.simulation_layout.specs.InlinedLayout.Layouts.{AreLed, edges_at, Laid}
use Rattle.simulation_units.specs.Termination.BoundedTemplates.{ExitsGoOn, GoOn, HasBound, EnterLater, EdgesGoOn}
use Rattle.simulation_units.proofs.termination.Lists.{last_behind, has_bound}

module _ (o : Inlined) where
  le_itself : (k : ℕ) → k ≤ k
  le_itself k = omega arith

  le_before : (a b : ℕ) → a + 1 ≤ b → a ≤ b
  le_before a b le = omega (arith, le)

  le_through : (a b c : ℕ) → a ≤ b → b ≤ c → a ≤ c
  le_through a b c x y = omega (arith, x, y)

  -- blocks are laid out in order
  in_order : (c : Copy) (around : List Copy) (ps : List PieceView) (block at end last : ℕ) → Laid o c around ps block at end last → block ≤ end
  in_order c around _ _ _ _ _ (laid.nothing _ _ block at) = le_itself block
  in_order c around _ _ _ _ _ (laid.does _ _ i ps block at end last put next) = in_order c around ps block (suc at) end last next
  in_order c around _ _ _ _ _ (laid.used _ _ i ps block at end last is put next) = in_order c around ps block (suc at) end last next
  in_order c around _ _ _ _ _ (laid.unused _ _ i ps block at end last is next) = in_order c around ps block at end last next
  in_order c around _ _ _ _ _ (laid.ends _ _ i exits ps block at end last put led next) = le_before block end (in_order c around ps (block + 1) 0 end last next)
  in_order c around _ _ _ _ _ (laid.begins _ _ l ps block end last is next) = in_order c around ps block 0 end last next
  in_order c around _ _ _ _ _ (laid.jumps _ _ l begun place ps block at end last is jump edges next) = le_before block end (in_order c around ps (block + 1) 0 end last next)
  in_order c around _ _ _ _ _ (laid.calls _ _ k d ps block at between inner end last is_function depth place used is_copy apart called next) =
      le_through block between end (in_order d (c ∷ around) (o.of d.function).pieces block at between inner called) (in_order c around ps between inner end last next)

  module _ (on : EdgesGoOn o.program) where
    -- labels of blocks behind one stand among such pieces
    abbrev StandBehind : Copy → ℕ → List PieceView → Type 0
    StandBehind c block ps = (l : ℕ) → block < c.labels l → behind_mark l (o.of c.function).pieces ≡ behind_mark l ps

    lead_on : (c : Copy) (block : ℕ) (ps : List PieceView) → StandBehind c block ps → (exits : List ExitView) (edges : List EdgeView) → AreLed o c exits edges → EnterLater block edges → ExitsGoOn (o.of c.function).pieces ps exits
    lead_on c block ps stand _ _ laid.none later = tt
    lead_on c block ps stand _ _ (laid.one e begun taken es edges is led) later = ((λ rest found. last_behind e.to ps rest (sym (stand e.to later.0) ∙ found)), lead_on c block ps stand es edges led later.1)

    -- another label is not that of the block
    passed : (c : Copy) (block m : ℕ) (ps : List PieceView) → c.labels m ≤ block → (l : ℕ) → block < c.labels l → behind_mark l (Mark m ∷ ps) ≡ behind_mark l ps
    passed c block m ps le l less = by (l == m) refl
      where
        no : (a b k : ℕ) → a ≡ b → b ≤ k → k < a → ⊥
        no a b k e x y = omega (arith, e, x, y)

        by : (b : Bool) → (l == m) ≡ b → cond b (Some ps) (behind_mark l ps) ≡ behind_mark l ps
        by false e = refl
        by true e = absurd (no (c.labels l) (c.labels m) block (ap c.labels (eqb-true l m e)) le less)

    later_still : (block k : ℕ) → block + 1 < k → block < k
    later_still block k less = omega (arith, less)

    behind_both : (a b k : ℕ) → a ≤ b → b < k → a < k
    behind_both a b k le less = omega (arith, le, less)

    same_le : (a b : ℕ) → a ≡ b → a ≤ b
    same_le a b e = omega (arith, e)

    go_on : (c : Copy) (around : List Copy) (ps : List PieceView) (block at end last : ℕ) → Laid o c around ps block at end last → StandBehind c block ps → GoOn (HasBound o.of) (o.of c.function).pieces ps
    go_on c around _ _ _ _ _ (laid.nothing _ _ block at) stand = tt
    go_on c around _ _ _ _ _ (laid.does _ _ i ps block at end last put next) stand = go_on c around ps block (suc at) end last next stand
    go_on c around _ _ _ _ _ (laid.used _ _ i ps block at end last is put next) stand = go_on c around ps block (suc at) end last next stand
    go_on c around _ _ _ _ _ (laid.unused _ _ i ps block at end last is next) stand = go_on c around ps block at end last next stand
    go_on c around _ _ _ _ _ (laid.ends _ _ i exits ps block at end last put led next) stand =
        (lead_on c block ps stand exits (edges_at o block) led (on block), go_on c around ps (block + 1) 0 end last next (λ l less. stand l (later_still block (c.labels l) less)))
    go_on c around _ _ _ _ _ (laid.begins _ _ m ps block end last is next) stand =
        go_on c around ps block 0 end last next (λ l less. stand l less ∙ passed c block m ps (same_le (c.labels m) block is) l less)
    go_on c around _ _ _ _ _ (laid.jumps _ _ m begun place ps block at end last is jump edges next) stand =
        go_on c around ps (block + 1) 0 end last next (λ l less. stand l (later_still block (c.labels l) less) ∙ passed c (block + 1) m ps (same_le (c.labels m) (block + 1) is) l less)
    go_on c around _ _ _ _ _ (laid.calls _ _ k d ps block at between inner end last is_function depth place used is_copy apart called next) stand = (
      subst (HasBound o.of) is_function (has_bound o.of d.function (go_on d (c ∷ around) (o.of d.function).pieces block at between inner called (λ l less. refl))),
      go_on c around ps between inner end last next (λ l less. stand l (behind_both block between (c.labels l) (in_order d (c ∷ around) (o.of d.function).pieces block at between inner called) less)),
    )

    pub laid_bound : (c : Copy) (around : List Copy) (block at end last : ℕ) → Laid o c around (o.of c.function).pieces block at end last → HasBound o.of c.function
    laid_bound c around block at end last is = has_bound o.of c.function (go_on c around (o.of c.function).pieces block at end last is (λ l less. refl))
