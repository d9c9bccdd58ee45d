-- Sets of the rules that a run may violate.
use Rattle.std.specs.Prelude.{Bool, false, ◌||◌}
use Rattle.cc_base.specs.declared.diagnostics.Rule.{Rule}
use Rattle.cc_base.specs.declared.diagnostics.Rule.TheVariants.{Accfree, Boolasgn, Chrsgnext, Dblfree, Diverr, Insufmem, Intoflow, Invptr, Libptr, Nonnullcs, Nullref, Ptrobj, Sizeofptr, Strmod, Swtchdflt, Taintsink, Uninitref, Xfree}
use Rattle.transfer_checks.specs.declared.violation_sets.Violations.{Violations}

abbrev pub no_violations : Violations
no_violations = record {
  accfree = false;
  chrsgnext = false;
  dblfree = false;
  diverr = false;
  insufmem = false;
  intoflow = false;
  invptr = false;
  libptr = false;
  nonnullcs = false;
  nullref = false;
  ptrobj = false;
  strmod = false;
  taintsink = false;
  uninitref = false;
  xfree = false;
}

abbrev pub violations_union : Violations → Violations → Violations
violations_union s t = record {
  accfree = s.accfree || t.accfree;
  chrsgnext = s.chrsgnext || t.chrsgnext;
  dblfree = s.dblfree || t.dblfree;
  diverr = s.diverr || t.diverr;
  insufmem = s.insufmem || t.insufmem;
  intoflow = s.intoflow || t.intoflow;
  invptr = s.invptr || t.invptr;
  libptr = s.libptr || t.libptr;
  nonnullcs = s.nonnullcs || t.nonnullcs;
  nullref = s.nullref || t.nullref;
  ptrobj = s.ptrobj || t.ptrobj;
  strmod = s.strmod || t.strmod;
  taintsink = s.taintsink || t.taintsink;
  uninitref = s.uninitref || t.uninitref;
  xfree = s.xfree || t.xfree;
}

-- the rule is in the set; the syntactic rules never are
abbrev pub violates : Violations → Rule → Bool
violates s Accfree = s.accfree
violates s Boolasgn = false
violates s Chrsgnext = s.chrsgnext
violates s Dblfree = s.dblfree
violates s Diverr = s.diverr
violates s Insufmem = s.insufmem
violates s Intoflow = s.intoflow
violates s Invptr = s.invptr
violates s Libptr = s.libptr
violates s Nonnullcs = s.nonnullcs
violates s Nullref = s.nullref
violates s Ptrobj = s.ptrobj
violates s Sizeofptr = false
violates s Strmod = s.strmod
violates s Swtchdflt = false
violates s Taintsink = s.taintsink
violates s Uninitref = s.uninitref
violates s Xfree = s.xfree
