-- The law on opened programs, from that on names.
use Rattle.typed_lowering.specs.Conversions.TypedBases.{NamesAreTyped}
use Rattle.typed_lowering.specs.Conversions.ProgramLaws.{InlinedProgramsAreTyped}

abbrev pub TypedNamesMakeTypedInlinings : Type 0
TypedNamesMakeTypedInlinings = NamesAreTyped → InlinedProgramsAreTyped
