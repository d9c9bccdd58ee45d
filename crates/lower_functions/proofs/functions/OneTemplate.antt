-- Works come to one template at most: behind the last turn nothing changes.
use Rattle.std.proofs.Common.{◌≡◌, ℕ, zero, suc, ◌+◌, ◌<◌, ◌≤◌, ◌⊎◌, inl, inr, Bool, true, false, List, [], ◌∷◌, refl, ap, sym, ◌∙◌, arith}
use Rattle.std.proofs.lemmas.Bool.{cases_lt}
use Rattle.lower_templates.specs.Worklist.Pieces.{TemplateView}
use Rattle.lower_templates.specs.Worklist.Works.{Job}
use Rattle.lower_templates.specs.Worklist.Plans.{Plan}
use Rattle.lower_templates.specs.Worklist.Settings.{SettingView}
use Rattle.lower_functions.specs.Functions.Turns.{Going, next_of, next, is_work, has_work, after, begun, template_of, Finishes}

stays_on : (s : SettingView) (js : List Job) (g : Going) → is_work js ≡ false → next_of s js g ≡ g
stays_on s [] g h = refl
stays_on s (j ∷ js) g h = cc

pub stays : (s : SettingView) (g : Going) → has_work g ≡ false → next s g ≡ g
stays s g h = stays_on s g.stack g h

past_more : (s : SettingView) (g : Going) (m n : ℕ) → (m < n) ⊎ (n ≤ m) → n ≤ suc m → has_work (after s n g) ≡ false → (n ≤ m → after s m g ≡ after s n g) → after s (suc m) g ≡ after s n g
past_more s g m n (inl less) le h before = let e : suc m ≡ n = omega arith in ap (λ k. after s k g) e
past_more s g m n (inr more) le h before = ap (next s) (before more) ∙ stays s (after s n g) h

pub past : (s : SettingView) (g : Going) (m n : ℕ) → n ≤ m → has_work (after s n g) ≡ false → after s m g ≡ after s n g
past s g zero n le h = let e : zero ≡ n = omega arith in ap (λ k. after s k g) e
past s g (suc m) n le h = past_more s g m n (cases_lt m n) le h (λ k. past s g m n k h)

one_end : (s : SettingView) (g : Going) (m n : ℕ) → (m < n) ⊎ (n ≤ m) → has_work (after s m g) ≡ false → has_work (after s n g) ≡ false → after s m g ≡ after s n g
one_end s g m n (inl less) h k = sym (past s g n m (omega arith) h)
one_end s g m n (inr more) h k = past s g m n more k

pub one_finish : (s : SettingView) (p : Plan) (t u : TemplateView) → Finishes s p t → Finishes s p u → t ≡ u
one_finish s p t u a b = sym a.comes_to ∙ ap template_of (one_end s (begun p) a.turns b.turns (cases_lt a.turns b.turns) a.ended b.ended) ∙ b.comes_to

pub after_next : (s : SettingView) (n : ℕ) (g : Going) → after s (n + 1) g ≡ next s (after s n g)
after_next s n g = let e : n + 1 ≡ suc n = omega arith in ap (λ k. after s k g) e
