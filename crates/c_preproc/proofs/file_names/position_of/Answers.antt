use Rattle.std.proofs.Common.{string_bytes, sym, ◌∙◌, arith}
use Rattle.c_preproc.proofs.NameLists.{position_here, position_behind}
use Rattle.c_preproc.proofs.file_names.position_of.Goals as goal

pub returns-then-eq : goal.returns-then-eq
returns-then-eq c = sym (position_here string_bytes _ c.loop-at.at c.index-names-at.result _ _ (omega arith) c.index-names-at.is c.as_str.ensures.value (sym c.if-eq.true ∙ c.eq.ensures)) ∙ c.loop-at.invariant

pub loop-at-preserved : goal.loop-at-preserved
loop-at-preserved c = sym (position_behind string_bytes _ c.loop-at.at c.index-names-at.result _ _ (omega arith) c.index-names-at.is c.as_str.ensures.value (sym c.if-eq.false ∙ c.eq.ensures)) ∙ c.loop-at.invariant
