-- Without a size that is not negative the law is false: the machine takes -5 for 5 bytes, and the analysis for none at all, so
-- that it tells no rule and lets no base go on.
use Rattle.std.proofs.Common.{◌≡◌, false, Some, None, refl}
use Rattle.std.specs.Prelude.{pos, negsuc}
use Rattle.transfer_checks.specs.LibraryArguments.{is_above_room, cut_by, after_write}
use Rattle.c_layout.specs.declared.shapes.BaseInfo.{BaseInfo}
use Rattle.std.specs.Prelude.{List}
use Rattle.pointer_domain.specs.BaseSets.{no_base}
use Rattle.pointer_domain.specs.declared.base_sets.Bases.{Bases}
use Rattle.memory_model.specs.Effects.LibraryChecks.{size_of}

machine_takes_five : size_of (negsuc 4) ≡ 5
machine_takes_five = refl

no_rule_is_told : is_above_room (Some (negsuc 4, negsuc 4)) (Some (pos 8, pos 8)) ≡ false
no_rule_is_told = refl

nothing_is_left : cut_by (Some (negsuc 4, negsuc 4)) (Some (pos 8, pos 8)) ≡ None
nothing_is_left = refl

no_base_goes_on : (bases : List BaseInfo) (set : Bases) → after_write bases set (cut_by (Some (negsuc 4, negsuc 4)) (Some (pos 8, pos 8))) ≡ no_base
no_base_goes_on bases set = refl
