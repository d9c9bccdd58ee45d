-- Characters that are read from larger rows through larger pointers.
use Rattle.std.specs.Prelude.{◌≡◌, ℤ, Bool, true, false, Option, Some, None, List}
use Rattle.cc_base.specs.Lattices.{LatticeOf, OrderLaws}
use Rattle.cc_base.specs.IntegerDomains.{IntegersOf, BoundLaws, RangeLaws}
use Rattle.cc_base.specs.IntegerLaws.{MonotoneLaws}
use Rattle.c_layout.specs.declared.leaf_lists.Class.TheVariants.{Char}
use Rattle.c_layout.specs.declared.data_model.Model.{Model}
use Rattle.c_layout.specs.declared.shapes.BaseInfo.{BaseInfo}
use Rattle.pointer_domain.specs.declared.base_sets.Bases.{Bases}
use Rattle.pointer_domain.specs.BaseSets.{bases_within}
use Rattle.value_domain.specs.Values.LabelSets.{no_labels, labels_leq, labels_order}
use Rattle.value_domain.specs.declared.values.values.Value.{Value}
use Rattle.value_domain.specs.declared.values.row_cells.Cell.{Cell}
use Rattle.domain_theorems.proofs.values.Flags.{Sets, flag_sets, or_sets, and_sets}
use Rattle.domain_theorems.proofs.values.Parts.{value_parts}
use Rattle.store_cells.specs.declared.access_windows.Window.{Window}
use Rattle.store_cells.specs.CellReads.{joined}
use Rattle.store_objects.specs.LiveBases.{has_base}
use Rattle.store.specs.Loads.{load_base, load_character}
use Rattle.store_monotone.specs.Operations.Placements.{EachFrom, WindowWithin, IsPlaced, IsRegular}
use Rattle.store_monotone.specs.Operations.RowsBelow.{RowsBelow, ReadBelow}
use Rattle.store_monotone.specs.Operations.TopCells.{top_number, top_value}
use Rattle.store_monotone.proofs.operations.CellReads.{joined_monotone, joined_above}
use Rattle.store_monotone.proofs.operations.LiveSets.{has_monotone}
use Rattle.store_monotone.proofs.operations.Loads.{base_monotone, character_monotone}
use Rattle.store_monotone.proofs.operations.PairedSteps.{walk_pair, cond_pair}
use Rattle.store_monotone.proofs.operations.Windows.{WindowsBelow}
use Rattle.transfer_monotone.proofs.edges.OwnLoads.{IsOwnRead, joined_own, one_read, base_own}
use Rattle.transfer_library_writes.specs.Sources.{character_access, read_characters, characters_read, is_blank, is_blank_or, reads_blank, reads_blank_in, number_of, labels_of, characters_of}
use Rattle.system_monotone.specs.LibraryWrites.TextOrder.{CharactersBelow}

module _ {I : Type 0} {l : LatticeOf I} {n : IntegersOf I} {stands : I → ℤ → Type 0} (o : OrderLaws l) (b : BoundLaws l n stands) (f : RangeLaws l n) (g : MonotoneLaws l n) (m : Model) (all : Bases) (top r s : List (Cell I)) (h : RowsBelow l top r s) where
  module _ (bases : List BaseInfo) (each : EachFrom (λ base number. IsPlaced n all top base × IsRegular m base) 0 bases) where
    -- what is read of any byte
    read_more : (set more : Bases) → bases_within set more ≡ true → (w u : Window) → WindowWithin w u → (signed : Bool) → ReadBelow l (characters_read l n m bases r set w signed) (characters_read l n m bases s more u signed)
    unfolding characters_read
    read_more set more k w u i signed = walk_pair (λ base number. IsPlaced n all top base × IsRegular m base) (ReadBelow l) (read_characters l n m r set (character_access signed w)) (read_characters l n m s more (character_access signed u))
        (λ base number a x p j. cond_pair (ReadBelow l) (has_base set number) (has_base more number) a _ x _ (has_monotone set more number k) j
        (joined_above o b a x _ j) (joined_monotone o b a _ x _ j (base_monotone o b g m all top r s h base p.0 p.1 Char signed w u i)))
        0 bases None None each tt

    -- it is an own value
    read_own : (set : Bases) (w : Window) (signed : Bool) → IsOwnRead l n all false (characters_read l n m bases s set w signed)
    unfolding characters_read
    read_own set w signed = walk_pair (λ base number. IsPlaced n all top base × IsRegular m base) (λ x y. IsOwnRead l n all false x) (read_characters l n m s set (character_access signed w)) (read_characters l n m s set (character_access signed w))
        (λ base number x y p j. one_read o b all false (has_base set number) (joined l x (load_base l n m base s (character_access signed w))) x
        (joined_own o b all false x (load_base l n m base s (character_access signed w)) j (base_own o b all false f m top s h.large (λ e. absurd (cc)) base p.0 Char signed w)) j)
        0 bases None None each tt

    number_more : (a x : Option (Value I)) → ReadBelow l a x → l.leq (number_of l a) (number_of l x) ≡ true
    number_more None x j = o.least_below (number_of l x)
    number_more (Some v) None j = absurd j
    number_more (Some v) (Some w) j = (value_parts l v w j).num

    labels_more : (a x : Option (Value I)) → ReadBelow l a x → labels_leq (labels_of a) (labels_of x) ≡ true
    labels_more None x j = labels_order.least_below (labels_of x)
    labels_more (Some v) None j = absurd j
    labels_more (Some v) (Some w) j = (value_parts l v w j).labels

    number_near : (x : Option (Value I)) → IsOwnRead l n all false x → l.leq (number_of l x) (top_number n) ≡ true
    number_near None j = o.least_below (top_number n)
    number_near (Some v) j = (value_parts l v (top_value n all) j.0).num

    -- the characters of a source
    pub characters_more : (set more : Bases) → bases_within set more ≡ true → (w u : Option Window) → WindowsBelow w u → CharactersBelow l n (characters_of l n m bases r set w) (characters_of l n m bases s more u)
    characters_more set more k None None i = record {
      signed = o.reflexive l.least;
      unsigned = o.reflexive l.least;
      labels = labels_order.reflexive no_labels;
      signed_top = o.least_below (top_number n);
      unsigned_top = o.least_below (top_number n);
    }
    characters_more set more k None (Some u) i = record {
      signed = o.least_below (number_of l (characters_read l n m bases s more u true));
      unsigned = o.least_below (number_of l (characters_read l n m bases s more u false));
      labels = labels_order.least_below (labels_of (characters_read l n m bases s more u true));
      signed_top = number_near (characters_read l n m bases s more u true) (read_own more u true);
      unsigned_top = number_near (characters_read l n m bases s more u false) (read_own more u false);
    }
    characters_more set more k (Some w) None i = absurd i
    characters_more set more k (Some w) (Some u) i = record {
      signed = number_more (characters_read l n m bases r set w true) (characters_read l n m bases s more u true) (read_more set more k w u i true);
      unsigned = number_more (characters_read l n m bases r set w false) (characters_read l n m bases s more u false) (read_more set more k w u i false);
      labels = labels_more (characters_read l n m bases r set w true) (characters_read l n m bases s more u true) (read_more set more k w u i true);
      signed_top = number_near (characters_read l n m bases s more u true) (read_own more u true);
      unsigned_top = number_near (characters_read l n m bases s more u false) (read_own more u false);
    }

    -- ---- indeterminate bytes

    blank_more : (a x : Option (Value I)) → ReadBelow l a x → Sets (is_blank a) (is_blank x)
    blank_more None x j e = absurd (cc)
    blank_more (Some v) None j e = absurd j
    blank_more (Some v) (Some w) j e = flag_sets v.indeterminate w.indeterminate (value_parts l v w j).indeterminate e

    blanks_more : (set more : Bases) → bases_within set more ≡ true → (w u : Window) → WindowWithin w u → Sets (reads_blank l n m bases r set w) (reads_blank l n m bases s more u)
    unfolding reads_blank
    blanks_more set more k w u i = walk_pair (λ base number. IsPlaced n all top base × IsRegular m base) (λ x y. Sets x y) (is_blank_or l n m r set w) (is_blank_or l n m s more u)
        (λ base number x y p j. or_sets x _ y _ j (and_sets (has_base set number) _ (has_base more number) _ (has_monotone set more number k)
        (blank_more (load_character l n m base r (character_access true w)) (load_character l n m base s (character_access true u)) (character_monotone o b g m all top r s h base p.0 p.1 Char true w u i))))
        0 bases false false each (λ e. e)

    pub blank_in_more : (set more : Bases) → bases_within set more ≡ true → (w u : Option Window) → WindowsBelow w u → Sets (reads_blank_in l n m bases r set w) (reads_blank_in l n m bases s more u)
    blank_in_more set more k None u i e = absurd (cc)
    blank_in_more set more k (Some w) None i e = absurd i
    blank_in_more set more k (Some w) (Some u) i e = blanks_more set more k w u i e
