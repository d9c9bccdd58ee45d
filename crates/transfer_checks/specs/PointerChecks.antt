-- Rules on the arithmetic and the comparison of pointers.
use Rattle.std.specs.Prelude.{ℕ, Bool, not, ◌&&◌, ◌||◌}
use Rattle.cc_base.specs.IntegerDomains.{IntegersOf}
use Rattle.cc_base.specs.NumberRanges.{range_sum, range_times}
use Rattle.pointer_domain.specs.declared.base_sets.Bases.{Bases}
use Rattle.pointer_domain.specs.declared.pointer_sets.Pointers.{Pointers}
use Rattle.pointer_domain.specs.BaseSets.{bases_empty, bases_meet}
use Rattle.pointer_domain.specs.PointerTables.{is_any, same_one_base}
use Rattle.value_domain.specs.declared.values.label_sets.Labels.{Labels}
use Rattle.value_domain.specs.Values.LabelSets.{is_unlabelled}
use Rattle.transfer_checks.specs.declared.pointer_checks.Compared.{Compared}
use Rattle.transfer_checks.specs.declared.violation_sets.Violations.{Violations}
use Rattle.transfer_checks.specs.ViolationSets.{no_violations}
use Rattle.transfer_checks.specs.Touches.{leaves_bounds_at}

module _ {I : Type 0} where
  -- a moved pointer may lie outside its bounds; the end counts as within
  abbrev pub moves_outside : IntegersOf I → Pointers I → I → ℕ → Bool
  moves_outside n p by scale = leaves_bounds_at (range_sum (n.bounds p.rel) (range_times (n.bounds by) scale)) (n.bounds p.len)

  -- the move of a pointer by elements of a size
  abbrev pub shift_violations : IntegersOf I → Pointers I → I → Labels → ℕ → Violations
  shift_violations n p by labels scale = record no_violations {
    taintsink = not (is_unlabelled labels);
    nullref = p.null || p.ended;
    invptr = not (bases_empty p.bases) && moves_outside n p by scale;
  }

  -- both are into one instance
  abbrev pub are_alike : Pointers I → Pointers I → Bases → Bool
  are_alike p q single = same_one_base p q single && (not p.null && not q.null)

  -- the difference or the order of two pointers; it goes on where both can be into one instance
  abbrev pub check_same_instance : Pointers I → Pointers I → Bases → Compared
  check_same_instance p q single = record {
    violations = record no_violations { nullref = p.ended || q.ended; ptrobj = is_any p && (is_any q && not (are_alike p q single)) };
    goes_on = bases_meet p.bases q.bases;
  }
