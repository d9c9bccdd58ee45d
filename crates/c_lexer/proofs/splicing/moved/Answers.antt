use Rattle.std.proofs.Common.{◌<◌, ◌+◌, length, List, [], ◌∷◌, ◌≡◌, ℕ, refl, arith}
use Rattle.c_lexer.proofs.Splices.{ends_here, moves_to}
use Rattle.c_lexer.proofs.splicing.moved.Goals as goal
use Rattle.c_lexer.proofs.splicing.moved.Goals.{else-over-eq0-via-then-over-eq0+else-left-eq0, else-over-eq0-via-else-over-eq0}

none_of : (s : List ℕ) → length s ≡ 0 → s ≡ []
none_of [] e = refl
none_of (x ∷ s) e = absurd (omega arith)

pub returns-then-rest-eq0 : goal.returns-then-rest-eq0
returns-then-rest-eq0 c = ends_here _ _ _ _ c.steps.line c.steps.column c.steps.left _ c.steps.invariant (none_of _ c.if-rest-eq0.true)

pub steps-preserved : goal.steps-preserved
steps-preserved c =
    let some : 0 < c.skipped-over.result + c.steps.left =
    elim c.else-over-eq0.branch [ else-over-eq0-via-then-over-eq0+else-left-eq0 w ↦ omega arith | else-over-eq0-via-else-over-eq0 w ↦ omega arith ] in
    moves_to _ _ _ _ c.steps.line c.steps.column c.steps.left _ c.skipped-over.result _ c.ends_line-ends.result _ _ _ c.step_size.result _
    c.steps.invariant (omega arith) c.skipped-over.ensures.value c.skipped-over.ensures.fits refl some
    c.ends_line-ends.ensures c.line_after-line.ensures c.column_after-column.ensures c.left_after-left.ensures c.step_size.ensures c.split_at.ensures.back
