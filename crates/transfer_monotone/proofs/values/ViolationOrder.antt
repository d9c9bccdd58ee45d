-- Sets of rules in order.
use Rattle.std.specs.Prelude.{◌≡◌, Bool, true, false, cond, refl}
use Rattle.cc_base.specs.declared.diagnostics.Rule.TheVariants.{Accfree, Boolasgn, Chrsgnext, Dblfree, Diverr, Insufmem, Intoflow, Invptr, Libptr, Nonnullcs, Nullref, Ptrobj, Sizeofptr, Strmod, Swtchdflt, Taintsink, Uninitref, Xfree}
use Rattle.domain_theorems.proofs.values.Flags.{Sets, or_sets, or_left}
use Rattle.transfer_checks.specs.declared.violation_sets.Violations.{Violations}
use Rattle.transfer_checks.specs.ViolationSets.{no_violations, violations_union}
use Rattle.transfer_monotone.specs.Values.ViolationsBelow.{ViolationsBelow}

pub unset : (b : Bool) → Sets false b
unset b e = absurd (cc)

pub same_below : (s : Violations) → ViolationsBelow s s
same_below s rule e = e

pub none_below : (t : Violations) → ViolationsBelow no_violations t
none_below t Accfree = unset t.accfree
none_below t Boolasgn = λ e. e
none_below t Chrsgnext = unset t.chrsgnext
none_below t Dblfree = unset t.dblfree
none_below t Diverr = unset t.diverr
none_below t Insufmem = unset t.insufmem
none_below t Intoflow = unset t.intoflow
none_below t Invptr = unset t.invptr
none_below t Libptr = unset t.libptr
none_below t Nonnullcs = unset t.nonnullcs
none_below t Nullref = unset t.nullref
none_below t Ptrobj = unset t.ptrobj
none_below t Sizeofptr = λ e. e
none_below t Strmod = unset t.strmod
none_below t Swtchdflt = λ e. e
none_below t Taintsink = unset t.taintsink
none_below t Uninitref = unset t.uninitref
none_below t Xfree = unset t.xfree

pub union_below : (s t u v : Violations) → ViolationsBelow s u → ViolationsBelow t v → ViolationsBelow (violations_union s t) (violations_union u v)
union_below s t u v h k Accfree = or_sets s.accfree t.accfree u.accfree v.accfree (h Accfree) (k Accfree)
union_below s t u v h k Boolasgn = λ e. e
union_below s t u v h k Chrsgnext = or_sets s.chrsgnext t.chrsgnext u.chrsgnext v.chrsgnext (h Chrsgnext) (k Chrsgnext)
union_below s t u v h k Dblfree = or_sets s.dblfree t.dblfree u.dblfree v.dblfree (h Dblfree) (k Dblfree)
union_below s t u v h k Diverr = or_sets s.diverr t.diverr u.diverr v.diverr (h Diverr) (k Diverr)
union_below s t u v h k Insufmem = or_sets s.insufmem t.insufmem u.insufmem v.insufmem (h Insufmem) (k Insufmem)
union_below s t u v h k Intoflow = or_sets s.intoflow t.intoflow u.intoflow v.intoflow (h Intoflow) (k Intoflow)
union_below s t u v h k Invptr = or_sets s.invptr t.invptr u.invptr v.invptr (h Invptr) (k Invptr)
union_below s t u v h k Libptr = or_sets s.libptr t.libptr u.libptr v.libptr (h Libptr) (k Libptr)
union_below s t u v h k Nonnullcs = or_sets s.nonnullcs t.nonnullcs u.nonnullcs v.nonnullcs (h Nonnullcs) (k Nonnullcs)
union_below s t u v h k Nullref = or_sets s.nullref t.nullref u.nullref v.nullref (h Nullref) (k Nullref)
union_below s t u v h k Ptrobj = or_sets s.ptrobj t.ptrobj u.ptrobj v.ptrobj (h Ptrobj) (k Ptrobj)
union_below s t u v h k Sizeofptr = λ e. e
union_below s t u v h k Strmod = or_sets s.strmod t.strmod u.strmod v.strmod (h Strmod) (k Strmod)
union_below s t u v h k Swtchdflt = λ e. e
union_below s t u v h k Taintsink = or_sets s.taintsink t.taintsink u.taintsink v.taintsink (h Taintsink) (k Taintsink)
union_below s t u v h k Uninitref = or_sets s.uninitref t.uninitref u.uninitref v.uninitref (h Uninitref) (k Uninitref)
union_below s t u v h k Xfree = or_sets s.xfree t.xfree u.xfree v.xfree (h Xfree) (k Xfree)

-- more than before
pub union_left : (s u v : Violations) → ViolationsBelow s u → ViolationsBelow s (violations_union u v)
union_left s u v h Accfree = λ e. or_left u.accfree v.accfree (h Accfree e)
union_left s u v h Boolasgn = λ e. e
union_left s u v h Chrsgnext = λ e. or_left u.chrsgnext v.chrsgnext (h Chrsgnext e)
union_left s u v h Dblfree = λ e. or_left u.dblfree v.dblfree (h Dblfree e)
union_left s u v h Diverr = λ e. or_left u.diverr v.diverr (h Diverr e)
union_left s u v h Insufmem = λ e. or_left u.insufmem v.insufmem (h Insufmem e)
union_left s u v h Intoflow = λ e. or_left u.intoflow v.intoflow (h Intoflow e)
union_left s u v h Invptr = λ e. or_left u.invptr v.invptr (h Invptr e)
union_left s u v h Libptr = λ e. or_left u.libptr v.libptr (h Libptr e)
union_left s u v h Nonnullcs = λ e. or_left u.nonnullcs v.nonnullcs (h Nonnullcs e)
union_left s u v h Nullref = λ e. or_left u.nullref v.nullref (h Nullref e)
union_left s u v h Ptrobj = λ e. or_left u.ptrobj v.ptrobj (h Ptrobj e)
union_left s u v h Sizeofptr = λ e. e
union_left s u v h Strmod = λ e. or_left u.strmod v.strmod (h Strmod e)
union_left s u v h Swtchdflt = λ e. e
union_left s u v h Taintsink = λ e. or_left u.taintsink v.taintsink (h Taintsink e)
union_left s u v h Uninitref = λ e. or_left u.uninitref v.uninitref (h Uninitref e)
union_left s u v h Xfree = λ e. or_left u.xfree v.xfree (h Xfree e)

-- the same way for both
pub same_way_below : (c : Bool) (s t u v : Violations) → (c ≡ true → ViolationsBelow s t) → ViolationsBelow u v → ViolationsBelow (cond c s u) (cond c t v)
same_way_below true s t u v h k = h refl
same_way_below false s t u v h k = k

-- ---- sets of few rules

-- an overflow
pub overflows_below : (a x : Bool) → Sets a x → ViolationsBelow (record no_violations { intoflow = a }) (record no_violations { intoflow = x })
overflows_below a x h Intoflow = h
overflows_below a x h _ = λ e. e

-- a division by 0 or an overflow
pub divides_below : (a b x y : Bool) → Sets a x → Sets b y → ViolationsBelow (record no_violations { diverr = a; intoflow = b }) (record no_violations { diverr = x; intoflow = y })
divides_below a b x y h i Diverr = h
divides_below a b x y h i Intoflow = i
divides_below a b x y h i _ = λ e. e

-- what a touch may violate
pub touches_below : (a b c d x y z w : Bool) → Sets a x → Sets b y → Sets c z → Sets d w → ViolationsBelow (record no_violations { nullref = a; accfree = b; invptr = c; strmod = d }) (record no_violations { nullref = x; accfree = y; invptr = z; strmod = w })
touches_below a b c d x y z w h i j k Nullref = h
touches_below a b c d x y z w h i j k Accfree = i
touches_below a b c d x y z w h i j k Invptr = j
touches_below a b c d x y z w h i j k Strmod = k
touches_below a b c d x y z w h i j k _ = λ e. e

-- what a comparison of pointers may violate
pub compares_below : (a b x y : Bool) → Sets a x → Sets b y → ViolationsBelow (record no_violations { nullref = a; ptrobj = b }) (record no_violations { nullref = x; ptrobj = y })
compares_below a b x y h i Nullref = h
compares_below a b x y h i Ptrobj = i
compares_below a b x y h i _ = λ e. e

-- a null or ended pointer
pub points_below : (a x : Bool) → Sets a x → ViolationsBelow (record no_violations { nullref = a }) (record no_violations { nullref = x })
points_below a x h Nullref = h
points_below a x h _ = λ e. e

-- what a move of a pointer may violate
pub moves_below : (a b c x y z : Bool) → Sets a x → Sets b y → Sets c z → ViolationsBelow (record no_violations { taintsink = a; nullref = b; invptr = c }) (record no_violations { taintsink = x; nullref = y; invptr = z })
moves_below a b c x y z h i j Taintsink = h
moves_below a b c x y z h i j Nullref = i
moves_below a b c x y z h i j Invptr = j
moves_below a b c x y z h i j _ = λ e. e

-- labels at a sink
pub sinks_below : (a x : Bool) → Sets a x → ViolationsBelow (record no_violations { taintsink = a }) (record no_violations { taintsink = x })
sinks_below a x h Taintsink = h
sinks_below a x h _ = λ e. e

-- a number that is no character
pub signs_below : (a x : Bool) → Sets a x → ViolationsBelow (record no_violations { chrsgnext = a }) (record no_violations { chrsgnext = x })
signs_below a x h Chrsgnext = h
signs_below a x h _ = λ e. e

-- what a read may violate
pub reads_below : (a b x y : Bool) → Sets a x → Sets b y → ViolationsBelow (record no_violations { uninitref = a; accfree = b }) (record no_violations { uninitref = x; accfree = y })
reads_below a b x y h i Uninitref = h
reads_below a b x y h i Accfree = i
reads_below a b x y h i _ = λ e. e

-- no string
pub strings_below : (a x : Bool) → Sets a x → ViolationsBelow (record no_violations { nonnullcs = a }) (record no_violations { nonnullcs = x })
strings_below a x h Nonnullcs = h
strings_below a x h _ = λ e. e

-- no room
pub rooms_below : (a x : Bool) → Sets a x → ViolationsBelow (record no_violations { libptr = a }) (record no_violations { libptr = x })
rooms_below a x h Libptr = h
rooms_below a x h _ = λ e. e

-- a write into a literal
pub literals_below : (a x : Bool) → Sets a x → ViolationsBelow (record no_violations { strmod = a }) (record no_violations { strmod = x })
literals_below a x h Strmod = h
literals_below a x h _ = λ e. e

-- what an allocation may violate
pub allocates_below : (a b x y : Bool) → Sets a x → Sets b y → ViolationsBelow (record no_violations { taintsink = a; insufmem = b }) (record no_violations { taintsink = x; insufmem = y })
allocates_below a b x y h i Taintsink = h
allocates_below a b x y h i Insufmem = i
allocates_below a b x y h i _ = λ e. e

-- what a release may violate
pub releases_below : (a b x y : Bool) → Sets a x → Sets b y → ViolationsBelow (record no_violations { dblfree = a; xfree = b }) (record no_violations { dblfree = x; xfree = y })
releases_below a b x y h i Dblfree = h
releases_below a b x y h i Xfree = i
releases_below a b x y h i _ = λ e. e

-- what a pointer argument may violate
pub arguments_below : (a b x y : Bool) → Sets a x → Sets b y → ViolationsBelow (record no_violations { nullref = a; accfree = b }) (record no_violations { nullref = x; accfree = y })
arguments_below a b x y h i Nullref = h
arguments_below a b x y h i Accfree = i
arguments_below a b x y h i _ = λ e. e
