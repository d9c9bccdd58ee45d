-- An instruction that ends its block ends it only as the last one.
use Rattle.std.proofs.Common.{◌≡◌, ℕ, ◌+◌, ◌<◌, true, false, List, [], ◌∷◌, length, get_or, drop, length-drop, refl, arith, ap, sym, ◌∙◌}
use Rattle.std.proofs.lemmas.List.{at_drop_more}
use Rattle.cfg.specs.declared.machine_instructions.Instruction.{Instruction}
use Rattle.cfg.specs.declared.flow_edges.Edge.{Edge}
use Rattle.cfg.specs.WellFormed.{Leads, On, Away, Once, TwoWays, ByCases, ByLine, is_body, are_led, leads}
use Rattle.cfg_checks.specs.Bodies.{is_on}

pub goes_on : (l : Leads) (is : List Instruction) (es : List Edge) → is_on l ≡ true → is_body l is es ≡ is_body On is es
goes_on On is es on = refl
goes_on Away is es on = cc
goes_on Once is es on = cc
goes_on TwoWays is es on = cc
goes_on ByCases is es on = cc
goes_on ByLine is es on = cc

pub ends_here : (l : Leads) (is : List Instruction) (es : List Edge) → is_on l ≡ false → length is ≡ 0 → is_body l is es ≡ are_led l es
ends_here On is es on none = cc
ends_here Away [] es on none = refl
ends_here Once [] es on none = refl
ends_here TwoWays [] es on none = refl
ends_here ByCases [] es on none = refl
ends_here ByLine [] es on none = refl
ends_here l (i ∷ is) es on none = absurd (omega arith)

pub ends_early : (l : Leads) (is : List Instruction) (es : List Edge) → is_on l ≡ false → 0 < length is → is_body l is es ≡ false
ends_early On is es on some = cc
ends_early Away (i ∷ is) es on some = refl
ends_early Once (i ∷ is) es on some = refl
ends_early TwoWays (i ∷ is) es on some = refl
ends_early ByCases (i ∷ is) es on some = refl
ends_early ByLine (i ∷ is) es on some = refl
ends_early l [] es on some = absurd (omega arith)

pub ends_between : (is : List Instruction) (at : ℕ) (i : Instruction) (es : List Edge) → at + 1 < length is → i ≡ get_or is at i → is_on (leads i.operation) ≡ false → is_body On (drop at is) es ≡ false
ends_between is at i es more here off =
    at_drop_more (λ l. is_body On l es) is at i (omega arith)
    ∙ ends_early (leads (get_or is at i).operation) (drop (at + 1) is) es (ap (λ j. is_on (leads j.operation)) (sym here) ∙ off) (let rest = length-drop (at + 1) is in omega (arith, rest, more))
