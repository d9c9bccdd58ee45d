-- The machines turn relations as the lowering does.
use Rattle.std.specs.Prelude.{◌≡◌, refl}
use Rattle.cc_base.specs.declared.integer_operators.Rel.{Rel}
use Rattle.cc_base.specs.declared.integer_operators.Rel.TheVariants.{Lt, Le, Gt, Ge, Eq, Ne}
use Rattle.lower_templates.specs.Worklist.TermKinds as lowered
use Rattle.memory_model.specs.Effects.Tests.{opposite, turned}

same_opposite : (rel : Rel) → opposite rel ≡ lowered.opposite rel
same_opposite Lt = refl
same_opposite Le = refl
same_opposite Gt = refl
same_opposite Ge = refl
same_opposite Eq = refl
same_opposite Ne = refl

same_turned : (rel : Rel) → turned rel ≡ lowered.turned rel
same_turned Lt = refl
same_turned Le = refl
same_turned Gt = refl
same_turned Ge = refl
same_turned Eq = refl
same_turned Ne = refl
