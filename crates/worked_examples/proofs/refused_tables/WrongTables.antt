-- Tables that soundness refuses: each breaks what rows stand for, at a state that shows it.
use Rattle.std.specs.Prelude.{◌≡◌, ◌+◌, ◌*◌, ◌<◌, ◌≤◌, ℕ, zero, suc, pos, ◌≤ℤ◌, true, false, Option, Some, None, List, [], ◌∷◌, length, slice_get, refl}
use Rattle.std.proofs.Common.{arith, ap, ◌∙◌, sym, subst}
use Rattle.std.proofs.lemmas.Int.{ints}
use Rattle.std.proofs.lemmas.Option.{same_Some}
use lib.Signed.{le_z_yes}
use Rattle.cc_base.specs.IntegerTypes.{greatest_of}
use Rattle.cc_base.specs.declared.int_types.IntType.{IntType}
use Rattle.cc_base.specs.declared.integer_operators.Rel.{Rel}
use Rattle.cc_base.specs.declared.integer_operators.Rel.TheVariants.{Ne}
use Rattle.c_layout.specs.Models.{lp64}
use Rattle.c_layout.specs.declared.data_model.Model.{Model}
use Rattle.c_layout.specs.declared.leaf_lists.Class.TheVariants.{Char, Int, Pointer}
use Rattle.c_layout.specs.declared.leaf_lists.Leaf.{Leaf}
use Rattle.c_layout.specs.declared.shapes.BaseInfo.{BaseInfo}
use Rattle.cfg.specs.declared.programs.Flow.{Flow}
use Rattle.interval_domain.specs.declared.intervals.intervals.Interval.{Interval}
use Rattle.interval_domain.specs.declared.intervals.intervals.Interval.TheVariants.{Of}
use Rattle.interval_domain.specs.Intervals.IntervalLattice.{interval_lattice}
use Rattle.interval_domain.specs.Intervals.IntervalNumbers.{interval_numbers}
use Rattle.interval_domain.specs.Intervals.Spans.{Stands}
use Rattle.pointer_domain.specs.declared.pointer_sets.Pointers.{Pointers}
use Rattle.value_domain.specs.declared.strings.first_zeros.FirstZero.{FirstZero}
use Rattle.store_cells.specs.ScalarTypes.{kind_of}
use Rattle.value_domain.specs.declared.values.label_sets.Labels as set
use Rattle.value_domain.specs.declared.values.row_cells.Cell.{Cell}
use Rattle.value_domain.specs.declared.values.values.Value.{Value}
use Rattle.value_domain.specs.Values.LabelSets as sets
use Rattle.value_domain.specs.Values.ValueTables.{number_value}
use Rattle.memory_model.specs.Memory.Labels.{Labels, no_labels, dropped_labels}
use Rattle.memory_model.specs.Memory.Bytes.{MachinePointer, into, Content, number, Tag, Byte}
use Rattle.memory_model.specs.Memory.Instances.{allocated, automatic, static, live, ended, Instance, Memory, byte_at, bytes_at}
use Rattle.memory_model.specs.Memory.Numbers.{Labelled, unsigned_of, signed_of, number_of}
use Rattle.memory_model.specs.Memory.ScalarSizes.{class_bytes, is_pointer}
use Rattle.memory_model.specs.Effects.Touches.{set_bytes}
use Rattle.store_sound.specs.Concretization.Places.{IsLeafPlace, IsPlaceOf, OwnedByLeaf, OwnedByClass, IsClassPlace}
use Rattle.memory_model.specs.Memory.Scalars.{pointer}
use Rattle.memory_model.specs.Memory.Tags.{tag_of}
use Rattle.memory_model.specs.Effects.ScalarBytes.{refilled}
use Rattle.semantics.specs.CfgMachine.FlowStates.{ProgramState}
use Rattle.store_sound.specs.Concretization.Matching.{Matched, Holds, number_in}
use Rattle.store_sound.specs.Concretization.RowMeaning.{IsLiveOf, InGammaLeaf, InGammaClass}
use Rattle.store_sound.specs.Concretization.SeenLabels.{as_set}
use Rattle.store_sound.specs.Concretization.ValueMeaning.{Naming, InGammaPointer, InGammaContent, InGammaZero}
use Rattle.transfer_sound.specs.Values.SoundSteps.{InGammaAfter}

abbrev none : Interval
none = Of (record { lo = pos 0; hi = pos 0; ordered = le_z_yes tt })

abbrev one : Interval
one = Of (record { lo = pos 1; hi = pos 1; ordered = le_z_yes tt })

abbrev value_of : Interval → Value Interval
value_of x = number_value interval_lattice x sets.no_labels

abbrev nowhere : Naming
nowhere i = None

-- ---- an object that lives again for a pointer that was kept from an earlier entry

abbrev left_memory : Memory
left_memory = record { storage = automatic; life = ended; bytes = [] } ∷ []

abbrev revived : Pointers Interval → Pointers Interval
revived v = record v { ended = false }

lives_again : ((naming : Naming) (memory : Memory) (v : Pointers Interval) (p : MachinePointer) → InGammaPointer Stands naming memory v p → InGammaPointer Stands naming memory (revived v) p) → ⊥
lives_again h = let e : false ≡ true = h nowhere left_memory (record ((value_of one).pointer) { ended = true }) (into 0 0 0 0) refl in cc

-- ---- labels that any comparison drops: a number that is not 3 may still be too low

abbrev dropped_by_any : set.Labels → Rel → IntType → set.Labels
dropped_by_any s rel common = sets.no_labels

abbrev int : IntType
int = record { bytes = 4; signed = true; rank = 3 }

any_comparison_drops : ((s : Labels) (v : set.Labels) (rel : Rel) (common : IntType) → sets.labels_leq (as_set s) v ≡ true → sets.labels_leq (as_set (dropped_labels rel s common)) (dropped_by_any v rel common) ≡ true) → ⊥
any_comparison_drops h = let e : false ≡ true = h (record { low = true; high = false; changed = false }) sets.all_labels Ne int refl in cc

-- ---- strcpy that keeps the old first zero: "" over "a" ends at once

abbrev character : ℕ → Byte
character n = record { content = number n no_labels; tag = tag_of Char 0 }

abbrev kept : FirstZero Interval → FirstZero Interval
kept f = f

old_zero_is_kept : ((f : FirstZero Interval) (bytes : List Byte) (text : List Content) → InGammaZero Stands nowhere [] f bytes → InGammaZero Stands nowhere [] (kept f) (refilled bytes 0 text)) → ⊥
old_zero_is_kept h = let e : pos 1 ≤ℤ pos 0 = (h (record { at = one }) (character 97 ∷ (character 0 ∷ [])) (number 0 no_labels ∷ []) (le_z_yes tt, le_z_yes tt)).0 in omega (arith, ints)

-- ---- a branch that says nothing behind one that exits: the run goes on in the other

abbrev silent_join : Option (List (Cell Interval)) → Option (List (Cell Interval)) → Option (List (Cell Interval))
silent_join None y = None
silent_join (Some x) y = y

abbrev at_start : ProgramState
at_start = record { block = 0; at = 0; temps = λ t. None; bases = λ b. None; world = record { memory = []; draws = []; violated = [] } }

nothing : {X : Type 0} (x : X) → None ≡ Some x → ⊥
nothing x e = cc

no_base : (flow : Flow) → flow.bases.items ≡ [] → (b : ℕ) (base : BaseInfo) → slice_get flow.bases.items b ≡ Some base → ⊥
no_base flow e b base f = nothing base (subst (λ bases. slice_get bases b ≡ Some base) e f)

-- without objects, instances and temporaries there is nothing that a row has to stand for
stands_at_start : (flow : Flow) → flow.model ≡ lp64 → flow.bases.items ≡ [] → flow.width ≡ 0 → InGammaAfter interval_lattice interval_numbers Stands flow (Some []) at_start
unfolding byte_at
stands_at_start flow m e w = record {
  row = [];
  is = refl;
  long = sym w;
  naming = nowhere;
  stands_for = record {
    sane = record {
      one = λ i j b base f g h. absurd (nothing b h);
      few = λ i b h. absurd (nothing b h);
      made = λ i b h. absurd (nothing b h);
      instances = λ i b base instance h. absurd (nothing b h);
      freed_rightly = λ i instance h. absurd (nothing instance h);
      small = λ i. omega (arith);
      bytes = λ i offset byte h. absurd (nothing byte h);
      named = λ i b offset byte h. absurd (nothing b h);
      tags = λ i offset byte tag h. absurd (nothing byte h);
    };
    held = record { within = λ t scalar h. absurd (nothing scalar h); named = λ t p h. absurd (nothing (pointer p) h) };
    lives = record {
      sole = λ b i base f g h. absurd (nothing b h);
      alive = λ b i h. absurd (nothing i h);
      named = λ b i h. absurd (nothing i h);
      objects = λ b i base f h. absurd (nothing i h);
    };
    leaves = λ b j base leaf f. absurd (no_base flow e b base f);
    classes = λ b c base f. absurd (no_base flow e b base f);
    zeros = λ b p i base part f. absurd (no_base flow e b base f);
    states = λ b i base f. absurd (no_base flow e b base f);
    temps = λ t scalar h. absurd (nothing scalar h);
  };
  short = λ i. subst (λ m. pos 0 ≤ℤ greatest_of (kind_of m Pointer true)) (sym m) (le_z_yes tt);
}

silent_branch : (flow : Flow) → flow.model ≡ lp64 → flow.bases.items ≡ [] → flow.width ≡ 0
    → ((x y : Option (List (Cell Interval))) (s : ProgramState) → InGammaAfter interval_lattice interval_numbers Stands flow y s → InGammaAfter interval_lattice interval_numbers Stands flow (silent_join x y) s) → ⊥
silent_branch flow m e w h = let r = h None (Some []) at_start (stands_at_start flow m e w) in let a : None ≡ Some r.row = r.is in cc

-- ---- one base a call site with a strong store: what is written into one instance is not in the other

abbrev allocated_byte : ℕ → Instance
allocated_byte n = record { storage = allocated; life = live; bytes = record { content = number n no_labels; tag = None } ∷ [] }

abbrev two_instances : ℕ → ℕ → Memory
two_instances m n = allocated_byte m ∷ (allocated_byte n ∷ [])

abbrev one_site : Naming
one_site i = Some 0

one_byte : (m : Memory) (n : Labelled) → byte_at m 1 0 ≡ Some (record { content = number_in n; tag = None }) → (k : ℕ) (x : Labelled) → k < 1 → slice_get (n ∷ []) k ≡ Some x → Matched m 1 (0 + k) Char k (number_in x)
one_byte m n e zero x p f = let g : n ≡ x = same n x f in record { tag = None; here = e ∙ ap (λ y. Some (record { content = number_in y; tag = None })) g; fits = tt }
  where
    same : (a b : Labelled) → Some a ≡ Some b → a ≡ b
    same a b e = cc
one_byte m n e (suc k) x p f = absurd (omega (arith))

seen_in : (b c : Byte) → Some b ≡ Some c → b.content ≡ c.content
seen_in b c e = ap (λ z. z.content) (same_Some b c e)

-- both instances hold 1
is_one : (a : Labelled) → number 1 no_labels ≡ number a.number a.labels → a.number ≡ 1
is_one a e = cc

holds_one : (i offset : ℕ) (a : Labelled) (tag : Option Tag) → offset + 1 ≤ length (bytes_at (two_instances 1 1) i) → byte_at (two_instances 1 1) i (offset + 0) ≡ Some (record { content = number a.number a.labels; tag = tag }) → a.number ≡ 1
unfolding byte_at
holds_one zero zero a tag p e = is_one a (seen_in _ _ e)
holds_one (suc zero) zero a tag p e = is_one a (seen_in _ _ e)
holds_one zero (suc offset) a tag p e = omega (arith)
holds_one (suc zero) (suc offset) a tag p e = omega (arith)
holds_one (suc (suc i)) offset a tag p e = omega (arith)

-- an allocated byte that is 1 stands as it is in the cell of characters
before_store : (flow : Flow) (site : BaseInfo) → InGammaClass Stands flow one_site (two_instances 1 1) 0 site Char (value_of one)
unfolding byte_at
before_store flow site = record { whole = whole; byte = byte }
  where
    number_is : (a : Labelled) → a.number ≡ 1 → Stands one (number_of true (a ∷ []))
    number_is a e = let f : number_of true (a ∷ []) ≡ pos 1 = ap (λ n. signed_of 8 (n + 256 * 0)) e in subst (Stands one) (sym f) (le_z_yes tt, le_z_yes tt)

    whole : (i offset : ℕ) (numbers : List Labelled) → IsLiveOf one_site (two_instances 1 1) 0 i → IsClassPlace flow.model site.shape.cells Char (length (bytes_at (two_instances 1 1) i)) offset → is_pointer Char ≡ false → Holds flow.model (two_instances 1 1) i offset Char numbers → Stands one (number_of true numbers)
    whole i offset [] lives place np holds = let e : 0 ≡ 1 = holds.size in absurd (omega (arith))
    whole i offset (a ∷ (b ∷ bs)) lives place np holds = let e : suc (suc (length bs)) ≡ 1 = holds.size in absurd (omega (arith))
    whole i offset (a ∷ []) lives place np holds = let m = holds.each 0 a (omega (arith)) refl in number_is a (holds_one i offset a m.tag place.fits m.here)

    seen : (i offset : ℕ) (content : Content) (tag : Option Tag) → byte_at (two_instances 1 1) i offset ≡ Some (record { content = content; tag = tag }) → content ≡ number 1 no_labels
    seen zero zero content tag e = sym (seen_in _ _ e)
    seen (suc zero) zero content tag e = sym (seen_in _ _ e)
    seen zero (suc offset) content tag e = cc
    seen (suc zero) (suc offset) content tag e = cc
    seen (suc (suc i)) offset content tag e = cc

    byte : (i offset k : ℕ) (content : Content) → IsLiveOf one_site (two_instances 1 1) 0 i → OwnedByClass flow.model site.shape.cells Char offset k → Matched (two_instances 1 1) i offset Char k content → InGammaContent Stands one_site (two_instances 1 1) (value_of one) Char content
    byte i offset k content lives owned m = subst (InGammaContent Stands one_site (two_instances 1 1) (value_of one) Char) (sym (seen i offset content m.tag m.here)) (refl, λ e. cc)

no_cell : (flow : Flow) (site : BaseInfo) (offset : ℕ) → site.shape.cells ≡ [] → IsLeafPlace site.shape.cells Char offset → ⊥
no_cell flow site offset e p = let f : slice_get [] p.at ≡ Some p.leaf = subst (λ cells. slice_get cells p.at ≡ Some p.leaf) e p.among in cc

strong_store : (flow : Flow) (site : BaseInfo) → site.shape.cells ≡ []
    → ((naming : Naming) (memory : Memory) (i : ℕ) (old : Value Interval) → InGammaClass Stands flow naming memory 0 site Char old → InGammaClass Stands flow naming (set_bytes memory i (record { content = number 0 no_labels; tag = None } ∷ [])) 0 site Char (value_of none)) → ⊥
unfolding byte_at
strong_store flow site e h =
    let c = h one_site (two_instances 1 1) 0 (value_of one) (before_store flow site) in
    let p : pos 1 ≤ℤ pos 0 = (c.whole 1 0 (record { number = 1; labels = no_labels } ∷ []) (record { named = refl; alive = refl }) (record { fits = omega (arith); no_leaf = no_cell flow site 0 e }) refl (record { size = refl; each = one_byte (two_instances 0 1) (record { number = 1; labels = no_labels }) refl })).1 in
    omega (arith, ints)

-- ---- a store of a character that leaves an int cell as it was

abbrev int_leaf : Leaf
int_leaf = record { offset = 0; class = Int; signed = true; stride = 0; count = 1 }

abbrev int_byte : ℕ → ℕ → Byte
int_byte n k = record { content = number n no_labels; tag = tag_of Int k }

-- an int whose first byte is n
abbrev int_object : ℕ → Memory
int_object n = record { storage = static; life = live; bytes = int_byte n 0 ∷ (int_byte 0 1 ∷ (int_byte 0 2 ∷ (int_byte 0 3 ∷ []))) } ∷ []

-- what is seen of an int that is 0
zero_seen : (i offset : ℕ) (content : Content) (tag : Option Tag) → byte_at (int_object 0) i offset ≡ Some (record { content = content; tag = tag }) → content ≡ number 0 no_labels
unfolding byte_at
zero_seen zero zero content tag e = sym (seen_in _ _ e)
zero_seen zero (suc zero) content tag e = sym (seen_in _ _ e)
zero_seen zero (suc (suc zero)) content tag e = sym (seen_in _ _ e)
zero_seen zero (suc (suc (suc zero))) content tag e = sym (seen_in _ _ e)
zero_seen zero (suc (suc (suc (suc offset)))) content tag e = cc
zero_seen (suc i) offset content tag e = cc

number_seen : (a : Labelled) → number a.number a.labels ≡ number 0 no_labels → a.number ≡ 0
number_seen a e = cc

before_character : (flow : Flow) → flow.model ≡ lp64 → InGammaLeaf Stands flow one_site (int_object 0) 0 int_leaf (value_of none)
before_character flow m = record { whole = whole; byte = byte }
  where
    digit : (i offset : ℕ) (numbers : List Labelled) (holds : Holds flow.model (int_object 0) i offset Int numbers) (k : ℕ) (a : Labelled) → k < length numbers → slice_get numbers k ≡ Some a → a.number ≡ 0
    digit i offset numbers holds k a p e = let x = holds.each k a p e in number_seen a (zero_seen i (offset + k) (number_in a) x.tag x.here)

    is_zero : (a b c d : Labelled) → a.number ≡ 0 → b.number ≡ 0 → c.number ≡ 0 → d.number ≡ 0 → Stands none (number_of true (a ∷ (b ∷ (c ∷ (d ∷ [])))))
    is_zero a b c d e f g h =
        let z : unsigned_of (a ∷ (b ∷ (c ∷ (d ∷ [])))) ≡ 0 = omega (arith) in
        let s : number_of true (a ∷ (b ∷ (c ∷ (d ∷ [])))) ≡ pos 0 = ap (signed_of 32) z in
        subst (Stands none) (sym s) (le_z_yes tt, le_z_yes tt)

    four : (numbers : List Labelled) → length numbers ≡ class_bytes flow.model Int → length numbers ≡ 4
    four numbers e = e ∙ ap (λ m. class_bytes m Int) m

    by_digits : (numbers : List Labelled) → length numbers ≡ 4 → ((k : ℕ) (a : Labelled) → k < length numbers → slice_get numbers k ≡ Some a → a.number ≡ 0) → Stands none (number_of true numbers)
    by_digits (a ∷ (b ∷ (c ∷ (d ∷ [])))) e f = is_zero a b c d (f 0 a (omega (arith)) refl) (f 1 b (omega (arith)) refl) (f 2 c (omega (arith)) refl) (f 3 d (omega (arith)) refl)
    by_digits [] e f = absurd (omega (arith))
    by_digits (a ∷ []) e f = absurd (omega (arith))
    by_digits (a ∷ (b ∷ [])) e f = absurd (omega (arith))
    by_digits (a ∷ (b ∷ (c ∷ []))) e f = absurd (omega (arith))
    by_digits (a ∷ (b ∷ (c ∷ (d ∷ (x ∷ xs))))) e f = absurd (omega (arith))

    whole : (i offset : ℕ) (numbers : List Labelled) → IsLiveOf one_site (int_object 0) 0 i → IsPlaceOf int_leaf offset → is_pointer Int ≡ false → Holds flow.model (int_object 0) i offset Int numbers → Stands none (number_of true numbers)
    whole i offset numbers lives place np holds = by_digits numbers (four numbers holds.size) (digit i offset numbers holds)

    byte : (i offset k : ℕ) (content : Content) → IsLiveOf one_site (int_object 0) 0 i → OwnedByLeaf flow.model int_leaf offset k → Matched (int_object 0) i offset Int k content → InGammaContent Stands one_site (int_object 0) (value_of none) Int content
    byte i offset k content lives owned x = subst (InGammaContent Stands one_site (int_object 0) (value_of none) Int) (sym (zero_seen i offset content x.tag x.here)) (refl, λ e. cc)

abbrev digits : List Labelled
digits = record { number = 1; labels = no_labels } ∷ (record { number = 0; labels = no_labels } ∷ (record { number = 0; labels = no_labels } ∷ (record { number = 0; labels = no_labels } ∷ [])))

holds_digits : (model : Model) → model ≡ lp64 → Holds model (int_object 1) 0 0 Int digits
unfolding byte_at
holds_digits model e = record { size = subst (λ m. 4 ≡ class_bytes m Int) (sym e) refl; each = each }
  where
    digit : (a b : Labelled) → Some a ≡ Some b → a ≡ b
    digit a b e = cc

    seen : (k : ℕ) (a b : Labelled) → a ≡ b → byte_at (int_object 1) 0 k ≡ Some (record { content = number_in a; tag = tag_of Int k }) → Matched (int_object 1) 0 k Int k (number_in b)
    seen k a b e f = record { tag = tag_of Int k; here = f ∙ ap (λ x. Some (record { content = number_in x; tag = tag_of Int k })) e; fits = (refl, refl) }

    each : (k : ℕ) (n : Labelled) → k < length digits → slice_get digits k ≡ Some n → Matched (int_object 1) 0 (0 + k) Int k (number_in n)
    each zero n p f = seen 0 _ n (digit _ n f) refl
    each (suc zero) n p f = seen 1 _ n (digit _ n f) refl
    each (suc (suc zero)) n p f = seen 2 _ n (digit _ n f) refl
    each (suc (suc (suc zero))) n p f = seen 3 _ n (digit _ n f) refl
    each (suc (suc (suc (suc k)))) n p f = absurd (omega (arith))

abbrev left_alone : Value Interval → Value Interval
left_alone v = v

character_is_unseen : (flow : Flow) → flow.model ≡ lp64
    → ((naming : Naming) (memory : Memory) (i n : ℕ) (v : Value Interval) → InGammaLeaf Stands flow naming memory 0 int_leaf v → InGammaLeaf Stands flow naming (set_bytes memory i (refilled (bytes_at memory i) 0 (number n no_labels ∷ []))) 0 int_leaf (left_alone v)) → ⊥
character_is_unseen flow m h =
    let c : InGammaLeaf Stands flow one_site (int_object 1) 0 int_leaf (value_of none) = h one_site (int_object 0) 0 1 (value_of none) (before_character flow m) in
    let p : pos 1 ≤ℤ pos 0 = (c.whole 0 0 digits (record { named = refl; alive = refl }) (record { turn = 0; few = omega (arith); there = refl }) refl (holds_digits flow.model m)).1 in
    omega (arith, ints)
