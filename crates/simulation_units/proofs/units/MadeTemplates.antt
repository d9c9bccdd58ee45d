-- The templates of a unit as they are made, from those that are settled.
use Rattle.std.proofs.Common.{◌≡◌, ◌≤◌, ℕ, ◌-◌, ◌^◌, List, [], Option, Some, None, slice_get, refl}
use Rattle.c_layout.specs.CheckedUnits.{FunctionView, UnitView}
use Rattle.lower_templates.specs.Worklist.Pieces.{TemplateView}
use Rattle.lower_objects.specs.declared.counts.function_counts.FunctionCounts.{FunctionCounts}
use Rattle.lower_tables.specs.Counts.Preparations.{IsTemplateOf, Reaches, IsPrepared}

-- the template of a function that is reached, which has no more labels than numbers of 32 bits
pub record IsFresh (u : UnitView) (n : ℕ) (t : TemplateView) : Type 0 where
  pub function : FunctionView
  pub is_template : IsTemplateOf u n function t
  pub few : t.labels ≤ 2 ^ 32 - 1

abbrev no_template : TemplateView
no_template = record { pieces = []; names = []; labels = 0 }

module _ {u : UnitView} {ts : List (Option TemplateView)} {table : List (Option FunctionCounts)} (p : IsPrepared u ts table) where
  pub made_by : (n : ℕ) (o : Option (Option TemplateView)) → slice_get ts n ≡ o → TemplateView
  made_by n None e = no_template
  made_by n (Some None) e = no_template
  made_by n (Some (Some s)) e = (p.are_normalized n s e).template

  pub made : ℕ → TemplateView
  made n = made_by n (slice_get ts n) refl

  fresh_by : (n : ℕ) (o : Option (Option TemplateView)) (e : slice_get ts n ≡ o) (s : TemplateView) → o ≡ Some (Some s) → IsFresh u n (made_by n o e)
  unfolding made_by
  fresh_by n None e s is = absurd (let d : ⊥ = cc in d)
  fresh_by n (Some None) e s is = absurd (let d : ⊥ = cc in d)
  fresh_by n (Some (Some r)) e s is = let x = p.are_normalized n r e in record { function = x.function; is_template = x.is_template; few = x.few }

  pub fresh : (n : ℕ) → Reaches u n → IsFresh u n (made n)
  unfolding made
  fresh n reached = let x = p.all n reached in fresh_by n (slice_get ts n) refl x.0 x.2
