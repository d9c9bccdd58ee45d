-- Behind all leaves no part may be left.
use Rattle.std.proofs.Common.{◌≡◌, ◌≢◌, ◌≤◌, ◌<◌, ◌⊎◌, inl, inr, ℕ, zero, suc, List, [], ◌∷◌, length, drop, nat_eq, refl, arith, true, false, sym, ◌∙◌}
use Rattle.std.proofs.lemmas.Bool.Decides.{eqb_tells}
use Rattle.c_layout.specs.declared.shapes.ZeroPart.{ZeroPart}
use Rattle.cfg.specs.BaseShapes.{lie_over}

none_left : (done : ℕ) (parts : List ZeroPart) (at : ℕ) → at ≡ length parts → lie_over done [] (drop at parts) ≡ true
none_left done [] zero all = refl
none_left done [] (suc at) all = absurd (omega (arith, all))
none_left done (p ∷ ps) zero all = absurd (omega (arith, all))
none_left done (p ∷ ps) (suc at) all = none_left done ps at (omega (arith, all))

some_left : (done : ℕ) (parts : List ZeroPart) (at : ℕ) → at < length parts → lie_over done [] (drop at parts) ≡ false
some_left done [] at less = absurd (omega (arith, less))
some_left done (p ∷ ps) zero less = refl
some_left done (p ∷ ps) (suc at) less = some_left done ps at (omega (arith, less))

pub nothing_left : (done : ℕ) (parts : List ZeroPart) (at : ℕ) → at ≤ length parts → lie_over done [] (drop at parts) ≡ nat_eq at (length parts)
nothing_left done parts at within = by_same (eqb_tells at (length parts))
  where
    by_same : ((nat_eq at (length parts) ≡ true) × (at ≡ length parts)) ⊎ ((nat_eq at (length parts) ≡ false) × (at ≢ length parts)) → lie_over done [] (drop at parts) ≡ nat_eq at (length parts)
    by_same (inl (is, same)) = none_left done parts at same ∙ sym is
    by_same (inr (is, other)) = some_left done parts at (omega (arith, within, other)) ∙ sym is
