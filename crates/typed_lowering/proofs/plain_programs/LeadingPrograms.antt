-- In the program of a plain unit each edge leads to a later block, no block is a head, and instructions and bases are plain.
use Rattle.std.proofs.Common.{◌≡◌, ◌<◌, ◌⊎◌, inl, inr, ℕ, Bool, true, false, cond, nat_le, List, [], ◌∷◌, get_or, refl, ap, sym, subst, ◌∙◌, arith}
use Rattle.std.proofs.lemmas.Bool.{leb-true}
use Rattle.c_layout.specs.CheckedUnits.{UnitView}
use Rattle.lower_templates.specs.Views.ProgramViews.{BlockView, EdgeView}
use Rattle.lower.specs.Inlining.Inlinings as o
use Rattle.lower.specs.Inlining.Inlinings.{Inlined}
use Rattle.typed_lowering.specs.PlainPrograms.PlainBases.{ArePlainBases}
use Rattle.typed_lowering.proofs.plain_programs.LeadingInlinings.{AllEdges, Awaited, IsAhead, ArePlainBlocks, Leads}

-- an edge leads to a later block
abbrev pub IsForward : EdgeView → Type 0
IsForward e = e.from < e.to

no_head : (e : EdgeView) (bs : List BlockView) → IsForward e → o.head_if e bs ≡ bs
no_head e bs less = by (nat_le e.to e.from) refl
  where
    no : e.to ≡ e.to → nat_le e.to e.from ≡ true → ⊥
    no same t = let le = leb-true e.to e.from t in omega (arith, le, less)

    by : (b : Bool) → nat_le e.to e.from ≡ b → cond b (o.head_set bs e.to) bs ≡ bs
    by true t = absurd (no refl t)
    by false t = refl

no_heads : (es : List EdgeView) (bs : List BlockView) → AllEdges IsForward es → o.with_heads es bs ≡ bs
no_heads [] bs all = refl
no_heads (e ∷ es) bs (one, all) = ap (o.with_heads es) (no_head e bs one) ∙ no_heads es bs all

all_forward : (count : ℕ) (labels : List ℕ) (stack : _) (es : List EdgeView) → stack ≡ [] → AllEdges (IsAhead count labels (Awaited stack)) es → AllEdges IsForward (o.resolved labels es)
all_forward count labels stack [] none all = tt
all_forward count labels stack (e ∷ es) none (one, all) = (by one.leads, all_forward count labels stack es none all)
  where
    by : (e.from < get_or labels e.to 0) ⊎ Awaited stack e.to → e.from < get_or labels e.to 0
    by (inl less) = less
    by (inr is) = absurd (subst (λ s. Awaited s e.to) none is)

-- a program that leads on and in which no copy is left
pub record LeadsAhead (p : o.ProgramView) : Type 0 where
  pub edges : AllEdges IsForward p.edges
  pub blocks : ArePlainBlocks p.blocks
  pub bases : ArePlainBases p.bases.bases

pub leads_ahead : (u : UnitView) (x : Inlined) → Leads u x → x.stack ≡ [] → LeadsAhead (o.finished x.program)
leads_ahead u x k ends =
    let m = x.program in
    let forward = all_forward _ m.labels x.stack m.edges ends k.edges in
    record { edges = forward; blocks = subst ArePlainBlocks (sym (no_heads (o.resolved m.labels m.edges) m.blocks forward)) k.blocks; bases = k.bases }
