-- A copy of a typed template comes on the stack: its parameters are known, and its labels as the template says.
use Rattle.std.proofs.Common.{◌≡◌, ◌≤◌, ◌<◌, ℕ, zero, suc, ◌+◌, ◌-◌, cond, nat_lt, List, ◌∷◌, ◌++◌, length, replicate, Option, Some, None, slice_get, refl, arith, ap, sym, ◌∙◌, length-append}
use Rattle.std.proofs.lemmas.Bool.{lt-ltb, le-ltb}
use Rattle.c_layout.specs.CheckedUnits.{FunctionView, UnitView}
use Rattle.c_layout.specs.Types.{Ty}
use Rattle.lower.specs.Inlining.Inlinings as o
use Rattle.lower.specs.Inlining.Inlinings.{Made, CopyView}
use Rattle.lower_tables.specs.Bases.BaseTables.{known}
use Rattle.lower_templates.specs.Worklist.Pieces.{TemplateView}
use Rattle.lower_templates.specs.declared.worklist.template_pieces.OwnCall.{OwnCall}
use Rattle.typed_programs.specs.Types.TypedPrograms.{IsKept}
use Rattle.typed_programs.specs.Types.TypedStates.{Temporaries}
use Rattle.typed_lowering.specs.Conversions.ProgramLaws.{IsTypedFunction}
use Rattle.typed_lowering.specs.Conversions.TypedBases.{HasTypes, HasLocalTypes}
use Rattle.typed_lowering.specs.Conversions.TypedPieces.{parameters_known, result_known}
use Rattle.typed_lowering.proofs.inlined_programs.LiftedKnowledge.{lifted}
use Rattle.typed_lowering.proofs.inlined_programs.TypedBlocks.{grows_same, made_labels}
use Rattle.typed_lowering.proofs.inlined_programs.TypedCopies.{calm_labels, IsOwnLabel, AreStanding, standing_more, Holds, Opens}

-- ---- lists

pub none_known : (n slot : ℕ) → known (replicate n None) slot ≡ None
none_known zero slot = refl
none_known (suc n) zero = refl
none_known (suc n) (suc slot) = none_known n slot

pub replicate_long : {A : Type 0} (n : ℕ) (x : A) → length (replicate n x) ≡ n
replicate_long zero x = refl
replicate_long (suc n) x = ap suc (replicate_long n x)

-- ---- labels

-- those of a copy stand behind those before
joined : (ℕ → Temporaries) → ℕ → (ℕ → Temporaries) → ℕ → Temporaries
joined old first new l = cond (nat_lt l first) (old l) (new (l - first))

joined_old : (old : ℕ → Temporaries) (first : ℕ) (new : ℕ → Temporaries) (l : ℕ) → l < first → joined old first new l ≡ old l
unfolding joined
joined_old old first new l less = ap (λ b. cond b (old l) (new (l - first))) (lt-ltb l first less)

joined_new : (old : ℕ → Temporaries) (first : ℕ) (new : ℕ → Temporaries) (l : ℕ) → joined old first new (l + first) ≡ new l
unfolding joined
joined_new old first new l = ap (λ b. cond b (old (l + first)) (new ((l + first) - first))) (le-ltb (l + first) first (no_less l first)) ∙ ap new (back l first)
  where
    no_less : (l first : ℕ) → first ≤ l + first
    no_less l first = omega arith

    back : (l first : ℕ) → (l + first) - first ≡ l
    back l first = omega arith

module _ (u : UnitView) (ts : List (Option TemplateView)) where
  pub opens_entered : (call : OwnCall) (stack : List CopyView) (m : Made) (f : FunctionView) (t : TemplateView) (types : List Ty) (at : ℕ → Temporaries) (outer now : Temporaries) → IsTypedFunction u ts f t → HasTypes u types m.bases → Holds u ts types at now m
      → IsKept now (lifted call.depth outer (parameters_known f)) → AreStanding u ts types at (length m.labels) (Some (lifted call.depth outer (result_known call.used f))) stack → Opens u ts (o.inlined (o.copied call (length m.labels) f t ∷ stack) (o.with_labels t.labels m))
  opens_entered call stack m f t types at outer now is bases h kept standing = record {
    types = types;
    at = all;
    now = Some now;
    bases = bases;
    standing = (
      record {
        outer = outer;
        labels = labels;
        state = Some (parameters_known f);
        weaker = kept;
        copy = record {
          pieces = (is.pieces call.used).pieces;
          own = calm_labels is.calls t (IsOwnLabel u ts all (length (m.labels ++ zeros)) outer labels (o.copied call (length m.labels) f t)) is.calm (λ l marked. (in_room l (length m.labels) t.labels (length (m.labels ++ zeros)) (length zeros) count (replicate_long t.labels 0) (is.room l marked), joined_new at (length m.labels) own l));
          there = is.there;
        };
        names = record { locals = no_local; there = replicate_long (length f.locals + 1) None; objects = is.calm.names; own = is.locals };
      },
      standing_more u ts types types (grows_same (slice_get types)) at all (length m.labels) (length (m.labels ++ zeros)) (no_less (length m.labels) (length zeros) (length (m.labels ++ zeros)) count) old (Some (lifted call.depth outer (result_known call.used f))) stack standing,
    );
    holds = record { count = h.count; first = h.first; last = h.last; made = made_labels u at h.count h.count h.first h.last m.blocks m.edges m.labels all old t.labels types now m.ready h.made };
  }
    where
      labels : ℕ → Temporaries
      labels = (is.pieces call.used).labels

      own : ℕ → Temporaries
      own l = lifted call.depth outer (labels l)

      all : ℕ → Temporaries
      all = joined at (length m.labels) own

      zeros : List ℕ
      zeros = replicate t.labels 0

      count : length (m.labels ++ zeros) ≡ length m.labels + length zeros
      count = length-append m.labels zeros

      old : (l : ℕ) → l < length m.labels → all l ≡ at l
      old l less = joined_old at (length m.labels) own l less

      in_room : (l a b c d : ℕ) → c ≡ a + d → d ≡ b → l < b → l + a < c
      in_room l a b c d e f less = omega (arith, e, f, less)

      no_less : (a d c : ℕ) → c ≡ a + d → a ≤ c
      no_less a d c e = omega (arith, e)

      no_local : HasLocalTypes f types (replicate (length f.locals + 1) None)
      no_local slot n some = absurd (no (sym (none_known (length f.locals + 1) slot) ∙ some))
        where
          no : None ≡ Some n → ⊥
          no e = cc
