-- Tables of bases, as far as names have been met: each base is that of what it was named for, and of nothing else.
use Rattle.std.proofs.Common.{◌≡◌, ◌<◌, ◌≤◌, ◌⊎◌, inl, inr, ℕ, zero, suc, ◌+◌, ◌*◌, ◌-◌, ◌^◌, List, [], ◌∷◌, ◌++◌, length, Option, Some, None, refl, arith, ap, sym, subst, ◌∙◌, append_assoc}
use Rattle.std.specs.List.{slice_get, slice_set}
use Rattle.std.proofs.lemmas.List.{append-nil}
use Rattle.c_layout.specs.Layout.{size_of_type}
use Rattle.c_layout.specs.Leaves.{leaves_of}
use Rattle.c_layout.specs.CheckedUnits.{FunctionView, StaticView, LiteralView, UnitView}
use Rattle.c_layout.specs.declared.checked_tree.checked_units.StaticBase.{StaticBase}
use Rattle.c_layout.specs.declared.checked_tree.checked_units.StaticBase.TheVariants as shared
use Rattle.c_layout.specs.declared.shapes.BaseInfo.{BaseInfo}
use Rattle.c_layout.specs.declared.shapes.BaseKind.TheVariants as kind
use Rattle.lower_functions.specs.Functions.Functions.{local_type}
use Rattle.lower_objects.specs.Counts.SharedObjects.{literal_type}
use Rattle.lower_objects.specs.Shapes.HeapBases.{heap_shape}
use Rattle.lower_templates.specs.Worklist.Pieces.{NameView, Local, Outcome, Static, Literal, Allocation}
use Rattle.lower_tables.specs.Bases.BaseTables.{TableView, added, object_added, Named, named, local_or, local, found_in, known, literal_made, literal_or, with_literal, object_made, object_or, with_object, with_shared, brought, with_all, with_pointed, number_of, object_named, literal_named, base}
use Rattle.simulation_layout.specs.Inlining.NameRanges.{IsNameThere}
use Rattle.simulation_layout.proofs.inlining.ListPlaces.{within, left_of, at_end, no_shorter, set_here, set_cases, set_kept, set_length}

-- ---- what a base is

pub record ObjectAt (u : UnitView) (bases : List BaseInfo) (n k : ℕ) : Type 0 where
  pub object : StaticView
  pub stands : slice_get u.objects n ≡ Some object
  pub info : BaseInfo
  pub there : slice_get bases k ≡ Some info
  pub is_static : info.kind ≡ kind.Static
  pub size : info.size ≡ size_of_type u.structs u.model.pointer object.ctype
  pub cells : info.shape.cells ≡ leaves_of u.structs u.model.pointer object.ctype

pub record LiteralAt (u : UnitView) (bases : List BaseInfo) (n k : ℕ) : Type 0 where
  pub literal : LiteralView
  pub stands : slice_get u.literals n ≡ Some literal
  pub info : BaseInfo
  pub there : slice_get bases k ≡ Some info
  pub is_literal : info.kind ≡ kind.Literal
  pub size : info.size ≡ length literal.bytes + 1

pub record LocalAt (u : UnitView) (f : FunctionView) (bases : List BaseInfo) (slot k : ℕ) : Type 0 where
  pub info : BaseInfo
  pub there : slice_get bases k ≡ Some info
  pub is_automatic : info.kind ≡ kind.Automatic
  pub size : info.size ≡ size_of_type u.structs u.model.pointer (local_type f slot)
  pub cells : info.shape.cells ≡ leaves_of u.structs u.model.pointer (local_type f slot)

-- the bases of shared objects, each of one of them
pub record GoodTable (u : UnitView) (b : TableView) : Type 0 where
  pub all_objects : length b.objects ≡ length u.objects
  pub all_literals : length b.literals ≡ length u.literals
  pub objects : (n k : ℕ) → known b.objects n ≡ Some k → ObjectAt u b.bases n k
  pub literals : (n k : ℕ) → known b.literals n ≡ Some k → LiteralAt u b.bases n k
  pub objects_once : (n m k : ℕ) → known b.objects n ≡ Some k → known b.objects m ≡ Some k → n ≡ m
  pub literals_once : (n m k : ℕ) → known b.literals n ≡ Some k → known b.literals m ≡ Some k → n ≡ m

-- the bases of the local objects of a copy
pub record GoodLocals (u : UnitView) (f : FunctionView) (bases : List BaseInfo) (locals : List (Option ℕ)) : Type 0 where
  pub all : length locals ≡ length f.locals + 1
  pub are : (slot k : ℕ) → known locals slot ≡ Some k → LocalAt u f bases slot k
  pub once : (slot other k : ℕ) → known locals slot ≡ Some k → known locals other ≡ Some k → slot ≡ other

-- ---- what becomes of tables

pub record More (b c : TableView) : Type 0 where
  pub more : List BaseInfo
  pub bases : c.bases ≡ b.bases ++ more
  pub objects : (n k : ℕ) → known b.objects n ≡ Some k → known c.objects n ≡ Some k
  pub literals : (n k : ℕ) → known b.literals n ≡ Some k → known c.literals n ≡ Some k

pub more_same : (b : TableView) → More b b
more_same b = record { more = []; bases = sym (append-nil b.bases); objects = λ n k is. is; literals = λ n k is. is }

pub more_twice : (b c d : TableView) → More b c → More c d → More b d
more_twice b c d x y = record {
  more = x.more ++ y.more;
  bases = y.bases ∙ ap (λ xs. xs ++ y.more) x.bases ∙ append_assoc b.bases x.more y.more;
  objects = λ n k is. y.objects n k (x.objects n k is);
  literals = λ n k is. y.literals n k (x.literals n k is);
}

pub info_kept : (b c : TableView) (k : ℕ) (i : BaseInfo) → More b c → slice_get b.bases k ≡ Some i → slice_get c.bases k ≡ Some i
info_kept b c k i m is = ap (λ xs. slice_get xs k) m.bases ∙ left_of b.bases m.more k i is

pub bases_longer : (b c : TableView) → More b c → length b.bases ≤ length c.bases
bases_longer b c m = subst (λ xs. length b.bases ≤ length xs) (sym m.bases) (no_shorter b.bases m.more)

-- the bases of a copy's objects are those before, or new ones
pub record MoreLocals (b : TableView) (old new : List (Option ℕ)) : Type 0 where
  pub kept : (slot k : ℕ) → known old slot ≡ Some k → known new slot ≡ Some k
  pub fresh : (slot k : ℕ) → known new slot ≡ Some k → (known old slot ≡ Some k) ⊎ (length b.bases ≤ k)

pub locals_same : (b : TableView) (locals : List (Option ℕ)) → MoreLocals b locals locals
locals_same b locals = record { kept = λ slot k is. is; fresh = λ slot k is. inl is }

pub locals_twice : (b c : TableView) (x y z : List (Option ℕ)) → length b.bases ≤ length c.bases → MoreLocals b x y → MoreLocals c y z → MoreLocals b x z
locals_twice b c x y z le p q = record { kept = λ slot k is. q.kept slot k (p.kept slot k is); fresh = λ slot k is. by slot k (q.fresh slot k is) }
  where
    far : (a b k : ℕ) → a ≤ b → b ≤ k → a ≤ k
    far a b k p q = omega (arith, p, q)

    by : (slot k : ℕ) → (known y slot ≡ Some k) ⊎ (length c.bases ≤ k) → (known x slot ≡ Some k) ⊎ (length b.bases ≤ k)
    by slot k (inl there) = p.fresh slot k there
    by slot k (inr past) = inr (far (length b.bases) (length c.bases) k le past)

module _ (u : UnitView) where
  object_on : (bases more : List BaseInfo) (n k : ℕ) → ObjectAt u bases n k → ObjectAt u (bases ++ more) n k
  object_on bases more n k x = record { object = x.object; stands = x.stands; info = x.info; there = left_of bases more k x.info x.there; is_static = x.is_static; size = x.size; cells = x.cells }

  literal_on : (bases more : List BaseInfo) (n k : ℕ) → LiteralAt u bases n k → LiteralAt u (bases ++ more) n k
  literal_on bases more n k x = record { literal = x.literal; stands = x.stands; info = x.info; there = left_of bases more k x.info x.there; is_literal = x.is_literal; size = x.size }

  pub local_on : (f : FunctionView) (bases more : List BaseInfo) (slot k : ℕ) → LocalAt u f bases slot k → LocalAt u f (bases ++ more) slot k
  local_on f bases more slot k x = record { info = x.info; there = left_of bases more k x.info x.there; is_automatic = x.is_automatic; size = x.size; cells = x.cells }

  pub locals_on : (f : FunctionView) (b c : TableView) (locals : List (Option ℕ)) → More b c → GoodLocals u f b.bases locals → GoodLocals u f c.bases locals
  locals_on f b c locals m g = record { all = g.all; are = λ slot k is. subst (λ xs. LocalAt u f xs slot k) (sym m.bases) (local_on f b.bases m.more slot k (g.are slot k is)); once = g.once }

  -- the tables look at bases alone
  good_added : (i : BaseInfo) (b : TableView) (width : ℕ) → GoodTable u b → GoodTable u (record { bases = b.bases ++ i ∷ []; width = width; objects = b.objects; literals = b.literals })
  good_added i b width g = record {
    all_objects = g.all_objects;
    all_literals = g.all_literals;
    objects = λ n k is. object_on b.bases (i ∷ []) n k (g.objects n k is);
    literals = λ n k is. literal_on b.bases (i ∷ []) n k (g.literals n k is);
    objects_once = g.objects_once;
    literals_once = g.literals_once;
  }

  more_added : (i : BaseInfo) (b : TableView) (width : ℕ) → More b (record { bases = b.bases ++ i ∷ []; width = width; objects = b.objects; literals = b.literals })
  more_added i b width = record { more = i ∷ []; bases = refl; objects = λ n k is. is; literals = λ n k is. is }

  past_end : (bases : List BaseInfo) (k : ℕ) (i : BaseInfo) → k ≡ length bases → slice_get bases k ≡ Some i → ⊥
  past_end bases k i e is = let less = within bases k i is in no k (length bases) e less
    where
      no : (k n : ℕ) → k ≡ n → k < n → ⊥
      no k n e less = omega (arith, e, less)

  -- ---- objects of static storage and literals

  record Grown (b c : TableView) : Type 0 where
    good : GoodTable u c
    more : More b c

  grown_same : (b : TableView) → GoodTable u b → Grown b b
  grown_same b g = record { good = g; more = more_same b }

  grown_twice : (b c d : TableView) → Grown b c → Grown c d → Grown b d
  grown_twice b c d x y = record { good = y.good; more = more_twice b c d x.more y.more }

  object_new : (n : ℕ) (b : TableView) (o : StaticView) → GoodTable u b → known b.objects n ≡ None → slice_get u.objects n ≡ Some o → Grown b (object_made u n b (Some o))
  object_new n b o g free is =
      record {
        good = record {
          all_objects = set_length b.objects n (Some (length b.bases)) ∙ g.all_objects;
          all_literals = g.all_literals;
          objects = λ m k there. are m k (set_cases b.objects n (length b.bases) m k there);
          literals = λ m k there. literal_on b.bases _ m k (g.literals m k there);
          objects_once = λ m j k x y. once m j k (set_cases b.objects n (length b.bases) m k x) (set_cases b.objects n (length b.bases) j k y);
          literals_once = g.literals_once;
        };
        more = record { more = _; bases = refl; objects = λ m k there. set_kept b.objects n (length b.bases) m k free there; literals = λ m k there. there };
      }
    where
      are : (m k : ℕ) → ((m ≡ n) × (k ≡ length b.bases)) ⊎ (known b.objects m ≡ Some k) → ObjectAt u (object_added u kind.Static o.ctype b).bases m k
      are m k (inl p) = record { object = o; stands = ap (λ j. slice_get u.objects j) p.0 ∙ is; info = _; there = ap (λ j. slice_get (object_added u kind.Static o.ctype b).bases j) p.1 ∙ at_end b.bases _ []; is_static = refl; size = refl; cells = refl }
      are m k (inr old) = object_on b.bases _ m k (g.objects m k old)

      once : (m j k : ℕ) → ((m ≡ n) × (k ≡ length b.bases)) ⊎ (known b.objects m ≡ Some k) → ((j ≡ n) × (k ≡ length b.bases)) ⊎ (known b.objects j ≡ Some k) → m ≡ j
      once m j k (inl p) (inl q) = p.0 ∙ sym q.0
      once m j k (inl p) (inr y) = let x = g.objects j k y in absurd (past_end b.bases k x.info p.1 x.there)
      once m j k (inr x) (inl q) = let y = g.objects m k x in absurd (past_end b.bases k y.info q.1 y.there)
      once m j k (inr x) (inr y) = g.objects_once m j k x y

  literal_new : (n : ℕ) (b : TableView) (l : LiteralView) → GoodTable u b → known b.literals n ≡ None → slice_get u.literals n ≡ Some l → Grown b (literal_made u n b (Some l))
  literal_new n b l g free is =
      record {
        good = record {
          all_objects = g.all_objects;
          all_literals = set_length b.literals n (Some (length b.bases)) ∙ g.all_literals;
          objects = λ m k there. object_on b.bases _ m k (g.objects m k there);
          literals = λ m k there. are m k (set_cases b.literals n (length b.bases) m k there);
          objects_once = g.objects_once;
          literals_once = λ m j k x y. once m j k (set_cases b.literals n (length b.bases) m k x) (set_cases b.literals n (length b.bases) j k y);
        };
        more = record { more = _; bases = refl; objects = λ m k there. there; literals = λ m k there. set_kept b.literals n (length b.bases) m k free there };
      }
    where
      times_one : (k : ℕ) → k * 1 ≡ k
      times_one k = omega arith

      are : (m k : ℕ) → ((m ≡ n) × (k ≡ length b.bases)) ⊎ (known b.literals m ≡ Some k) → LiteralAt u (object_added u kind.Literal (literal_type u.model.char_signed (length l.bytes)) b).bases m k
      are m k (inl p) =
          record {
            literal = l;
            stands = ap (λ j. slice_get u.literals j) p.0 ∙ is;
            info = _;
            there = ap (λ j. slice_get (object_added u kind.Literal (literal_type u.model.char_signed (length l.bytes)) b).bases j) p.1 ∙ at_end b.bases _ [];
            is_literal = refl;
            size = times_one (length l.bytes + 1);
          }
      are m k (inr old) = literal_on b.bases _ m k (g.literals m k old)

      once : (m j k : ℕ) → ((m ≡ n) × (k ≡ length b.bases)) ⊎ (known b.literals m ≡ Some k) → ((j ≡ n) × (k ≡ length b.bases)) ⊎ (known b.literals j ≡ Some k) → m ≡ j
      once m j k (inl p) (inl q) = p.0 ∙ sym q.0
      once m j k (inl p) (inr y) = let x = g.literals j k y in absurd (past_end b.bases k x.info p.1 x.there)
      once m j k (inr x) (inl q) = let y = g.literals m k x in absurd (past_end b.bases k y.info q.1 y.there)
      once m j k (inr x) (inr y) = g.literals_once m j k x y

  with_one_object : (n : ℕ) (b : TableView) → GoodTable u b → Grown b (with_object u n b)
  with_one_object n b g = by (known b.objects n) refl
    where
      make : known b.objects n ≡ None → (o : Option StaticView) → slice_get u.objects n ≡ o → Grown b (object_made u n b o)
      make free None is = grown_same b g
      make free (Some o) is = object_new n b o g free is

      by : (o : Option ℕ) → known b.objects n ≡ o → Grown b (object_or u n b o)
      by (Some k) is = grown_same b g
      by None is = make is (slice_get u.objects n) refl

  with_one_literal : (n : ℕ) (b : TableView) → GoodTable u b → Grown b (with_literal u n b)
  with_one_literal n b g = by (known b.literals n) refl
    where
      make : known b.literals n ≡ None → (o : Option LiteralView) → slice_get u.literals n ≡ o → Grown b (literal_made u n b o)
      make free None is = grown_same b g
      make free (Some l) is = literal_new n b l g free is

      by : (o : Option ℕ) → known b.literals n ≡ o → Grown b (literal_or u n b o)
      by (Some k) is = grown_same b g
      by None is = make is (slice_get u.literals n) refl

  with_one_shared : (x : StaticBase) (b : TableView) → GoodTable u b → Grown b (with_shared u x b)
  with_one_shared (shared.Object n) b g = with_one_object n b g
  with_one_shared (shared.Literal n) b g = with_one_literal n b g

  with_all_shared : (n : ℕ) (stack : List StaticBase) (b : TableView) → GoodTable u b → Grown b (with_all u n stack b)
  with_all_shared zero stack b g = grown_same b g
  with_all_shared (suc n) [] b g = grown_same b g
  with_all_shared (suc n) (x ∷ xs) b g =
      let one = with_one_shared x b g in
      grown_twice b (with_shared u x b) (with_all u n (brought u x b ++ xs) (with_shared u x b)) one (with_all_shared n (brought u x b ++ xs) (with_shared u x b) one.good)

  -- what is there has a base then
  object_known : (n : ℕ) (b : TableView) → GoodTable u b → n < length u.objects → (k : ℕ) × (known (with_object u n b).objects n ≡ Some k)
  object_known n b g less = by (known b.objects n) refl
    where
      make : (o : Option StaticView) → slice_get u.objects n ≡ o → (k : ℕ) × (known (object_made u n b o).objects n ≡ Some k)
      make None is = absurd (missing u.objects n less is)
        where
          missing : (xs : List StaticView) (n : ℕ) → n < length xs → slice_get xs n ≡ None → ⊥
          missing [] n less is = omega (arith, less)
          missing (x ∷ xs) zero less is = cc
          missing (x ∷ xs) (suc n) less is = missing xs n (omega (arith, less)) is
      make (Some o) is = (length b.bases, set_here b.objects n (length b.bases) (subst (λ k. n < k) (sym g.all_objects) less))

      by : (o : Option ℕ) → known b.objects n ≡ o → (k : ℕ) × (known (object_or u n b o).objects n ≡ Some k)
      by (Some k) is = (k, is)
      by None is = make (slice_get u.objects n) refl

  literal_known : (n : ℕ) (b : TableView) → GoodTable u b → n < length u.literals → (k : ℕ) × (known (with_literal u n b).literals n ≡ Some k)
  literal_known n b g less = by (known b.literals n) refl
    where
      make : (o : Option LiteralView) → slice_get u.literals n ≡ o → (k : ℕ) × (known (literal_made u n b o).literals n ≡ Some k)
      make None is = absurd (missing u.literals n less is)
        where
          missing : (xs : List LiteralView) (n : ℕ) → n < length xs → slice_get xs n ≡ None → ⊥
          missing [] n less is = omega (arith, less)
          missing (x ∷ xs) zero less is = cc
          missing (x ∷ xs) (suc n) less is = missing xs n (omega (arith, less)) is
      make (Some l) is = (length b.bases, set_here b.literals n (length b.bases) (subst (λ k. n < k) (sym g.all_literals) less))

      by : (o : Option ℕ) → known b.literals n ≡ o → (k : ℕ) × (known (literal_or u n b o).literals n ≡ Some k)
      by (Some k) is = (k, is)
      by None is = make (slice_get u.literals n) refl

  -- ---- names

  -- a base stands for a name
  abbrev pub Stands : FunctionView → NameView → List (Option ℕ) → TableView → ℕ → Type 0
  Stands f (Local n) locals b k = known locals n ≡ Some k
  Stands f Outcome locals b k = known locals (length f.locals) ≡ Some k
  Stands f (Static n) locals b k = known b.objects n ≡ Some k
  Stands f (Literal n) locals b k = known b.literals n ≡ Some k
  Stands f (Allocation target) locals b k = Unit {0}

  pub record IsNamed (f : FunctionView) (x : NameView) (locals : List (Option ℕ)) (b : TableView) (n : Named) : Type 0 where
    pub good : GoodTable u n.after
    pub more : More b n.after
    pub locals_good : GoodLocals u f n.after.bases n.locals
    pub locals_more : MoreLocals b locals n.locals
    pub stands : IsNameThere u f x → Stands f x n.locals n.after n.number

  local_new : (f : FunctionView) (slot : ℕ) (locals : List (Option ℕ)) (b : TableView) → GoodLocals u f b.bases locals → known locals slot ≡ None → GoodLocals u f (object_added u kind.Automatic (local_type f slot) b).bases (slice_set locals slot (Some (length b.bases)))
  local_new f slot locals b g free = record {
    all = set_length locals slot (Some (length b.bases)) ∙ g.all;
    are = λ m k there. are m k (set_cases locals slot (length b.bases) m k there);
    once = λ m j k x y. once m j k (set_cases locals slot (length b.bases) m k x) (set_cases locals slot (length b.bases) j k y);
  }
    where
      are : (m k : ℕ) → ((m ≡ slot) × (k ≡ length b.bases)) ⊎ (known locals m ≡ Some k) → LocalAt u f (object_added u kind.Automatic (local_type f slot) b).bases m k
      are m k (inl p) =
          record {
            info = _;
            there = ap (λ j. slice_get (object_added u kind.Automatic (local_type f slot) b).bases j) p.1 ∙ at_end b.bases _ [];
            is_automatic = refl;
            size = ap (λ j. size_of_type u.structs u.model.pointer (local_type f j)) (sym p.0);
            cells = ap (λ j. leaves_of u.structs u.model.pointer (local_type f j)) (sym p.0);
          }
      are m k (inr old) = local_on f b.bases _ m k (g.are m k old)

      once : (m j k : ℕ) → ((m ≡ slot) × (k ≡ length b.bases)) ⊎ (known locals m ≡ Some k) → ((j ≡ slot) × (k ≡ length b.bases)) ⊎ (known locals j ≡ Some k) → m ≡ j
      once m j k (inl p) (inl q) = p.0 ∙ sym q.0
      once m j k (inl p) (inr y) = let x = g.are j k y in absurd (past_end b.bases k x.info p.1 x.there)
      once m j k (inr x) (inl q) = let y = g.are m k x in absurd (past_end b.bases k y.info q.1 y.there)
      once m j k (inr x) (inr y) = g.once m j k x y

  local_named : (f : FunctionView) (x : NameView) (slot : ℕ) (locals : List (Option ℕ)) (b : TableView) → GoodTable u b → GoodLocals u f b.bases locals → (IsNameThere u f x → slot < length locals) → ((n : Named) → known n.locals slot ≡ Some n.number → Stands f x n.locals n.after n.number) → IsNamed f x locals b (local u f slot locals b)
  local_named f x slot locals b g own is_there stands = by (slice_get locals slot) refl
    where
      missing : (xs : List (Option ℕ)) (n : ℕ) → n < length xs → slice_get xs n ≡ None → ⊥
      missing [] n less is = omega (arith, less)
      missing (x ∷ xs) zero less is = cc
      missing (x ∷ xs) (suc n) less is = missing xs n (omega (arith, less)) is

      far : (k n : ℕ) → k ≡ n → n ≤ k
      far k n e = omega (arith, e)

      by : (o : Option (Option ℕ)) → slice_get locals slot ≡ o → IsNamed f x locals b (local_or u f slot locals b o)
      by None is = record { good = g; more = more_same b; locals_good = own; locals_more = locals_same b locals; stands = λ t. absurd (missing locals slot (is_there t) is) }
      by (Some (Some k)) is = record { good = g; more = more_same b; locals_good = own; locals_more = locals_same b locals; stands = λ t. stands (named k b locals) (ap found_in is) }
      by (Some None) is =
          let free : known locals slot ≡ None = ap found_in is in
          let c = object_added u kind.Automatic (local_type f slot) b in
          let after = slice_set locals slot (Some (length b.bases)) in
          record {
            good = good_added _ b c.width g;
            more = more_added _ b c.width;
            locals_good = local_new f slot locals b own free;
            locals_more = record { kept = λ m k there. set_kept locals slot (length b.bases) m k free there; fresh = λ m k there. fresh m k (set_cases locals slot (length b.bases) m k there) };
            stands = λ t. stands (named (length b.bases) c after) (set_here locals slot (length b.bases) (is_there t));
          }
        where
          fresh : (m k : ℕ) → ((m ≡ slot) × (k ≡ length b.bases)) ⊎ (known locals m ≡ Some k) → (known locals m ≡ Some k) ⊎ (length b.bases ≤ k)
          fresh m k (inl p) = inr (far k (length b.bases) p.1)
          fresh m k (inr old) = inl old

  -- the first turn gives a base to what is named
  pointed_first : (n : ℕ) → 0 < n → (x : StaticBase) (b : TableView) → GoodTable u b → Grown (with_shared u x b) (with_all u n (x ∷ []) b)
  pointed_first zero less x b g = absurd (omega (arith, less))
  pointed_first (suc n) less x b g = with_all_shared n (brought u x b ++ []) (with_shared u x b) (with_one_shared x b g).good

  pub is_named : (f : FunctionView) (x : NameView) (locals : List (Option ℕ)) (b : TableView) → GoodTable u b → GoodLocals u f b.bases locals → IsNamed f x locals b (base u f x locals b)
  is_named f (Local n) locals b g own = local_named f (Local n) n locals b g own (λ t. subst (λ k. n < k) (sym own.all) t) (λ n is. is)
  is_named f Outcome locals b g own = local_named f Outcome (length f.locals) locals b g own (λ t. subst (λ k. length f.locals < k) (sym own.all) (omega arith)) (λ n is. is)
  is_named f (Static n) locals b g own =
      let grown = with_all_shared (2 ^ 64 - 1) (shared.Object n ∷ []) b g in
      record {
        good = grown.good;
        more = grown.more;
        locals_good = locals_on f b (with_pointed u (shared.Object n) b) locals grown.more own;
        locals_more = locals_same b locals;
        stands = λ t. known_number (object_known n b g t);
      }
    where
      known_number : (k : ℕ) × (known (with_object u n b).objects n ≡ Some k) → known (with_pointed u (shared.Object n) b).objects n ≡ Some (object_named n locals (with_pointed u (shared.Object n) b)).number
      known_number (k, is) =
          let there = (pointed_first (2 ^ 64 - 1) (omega arith) (shared.Object n) b g).more.objects n k is in
          there ∙ ap (λ o. Some (number_of o)) (sym there)
  is_named f (Literal n) locals b g own =
      let grown = with_all_shared (2 ^ 64 - 1) (shared.Literal n ∷ []) b g in
      record {
        good = grown.good;
        more = grown.more;
        locals_good = locals_on f b (with_pointed u (shared.Literal n) b) locals grown.more own;
        locals_more = locals_same b locals;
        stands = λ t. known_number (literal_known n b g t);
      }
    where
      known_number : (k : ℕ) × (known (with_literal u n b).literals n ≡ Some k) → known (with_pointed u (shared.Literal n) b).literals n ≡ Some (literal_named n locals (with_pointed u (shared.Literal n) b)).number
      known_number (k, is) =
          let there = (pointed_first (2 ^ 64 - 1) (omega arith) (shared.Literal n) b g).more.literals n k is in
          there ∙ ap (λ o. Some (number_of o)) (sym there)
  is_named f (Allocation target) locals b g own =
      let newest = added kind.Newest 0 (heap_shape u.structs u.model.pointer target) b in
      let older = added kind.Older 0 (heap_shape u.structs u.model.pointer target) newest in
      let more = more_twice b newest older (more_added _ b newest.width) (more_added _ newest older.width) in
      record {
        good = good_added _ newest older.width (good_added _ b newest.width g);
        more = more;
        locals_good = locals_on f b older locals more own;
        locals_more = locals_same b locals;
        stands = λ t. t;
      }
