-- Functions on characters (7.4).
use Rattle.std.specs.Prelude.{ℤ, pos, negsuc, ◌+ℤ◌, ◌-ℤ◌, cond, not}
use Rattle.cc_base.specs.declared.diagnostics.Rule.TheVariants as rule
use Rattle.c_layout.specs.declared.library_functions.LibFn.{LibFn}
use Rattle.c_layout.specs.declared.library_functions.LibFn.TheVariants as f
use Rattle.memory_model.specs.Memory.Labels.{Labels}
use Rattle.memory_model.specs.Memory.Scalars.{Scalar, integer}
use Rattle.memory_model.specs.Effects.Worlds.{World, Reply, goes, unless}
use Rattle.memory_model.specs.Effects.IntegerEffects.{truth}
use Rattle.c_layout.specs.CharacterClasses.{lies_in, is_lower, is_upper, has_class}

abbrev pub answer : LibFn → ℤ → Labels → Scalar
answer f.Toupper c labels = integer (cond (is_lower c) (c -ℤ pos 32) c) labels
answer f.Tolower c labels = integer (cond (is_upper c) (c +ℤ pos 32) c) labels
answer function c labels = truth (has_class function c)

-- an unsigned character or EOF
abbrev pub on_character : LibFn → ℤ → Labels → World → Reply Scalar
on_character function c labels w = unless w (not (lies_in (negsuc 0) (pos 255) c)) rule.Chrsgnext (goes (answer function c labels) w)
