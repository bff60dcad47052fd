-- What a frame shows that has the first k strings of one frame; and a slot for which only one entry was shown.
-- Assumes nothing.
use mathlib.Core.Path.{◌≡◌, refl}
use mathlib.Core.Bool.{Bool, true, false, ◌&&◌}
use mathlib.Core.List.{List}
use mathlib.Core.Logic.{⊎_elim}
use Prim.Native.Nat.{ℕ, ◌+◌, ◌≤◌}
use native.Mathlib.Omega.{arith}
use borrow.Author.Tests.{le-leb, leb-true, leb-false}
use lib.Dec.{leb}
use Rattle.strings.specs.Pick.{pick}
use Rattle.book.specs.declared.Entry.{Entry}
use Rattle.std.specs.Prelude.{Option, Some, None}
use Rattle.records.specs.declared.kinds.Kind.TheVariants.{Five, Even, Odd}
use Rattle.book.specs.Entry.{Three, entry_of, meaning, blank}
use Rattle.words.specs.Good.{is_good}
use Rattle.book.specs.Shows.{four_years, slot_in, is_shown, three_of, shown_by}
use Rattle.book.specs.Book.{in_slot}
use Rattle.channel.specs.Frame.{Frame}
use Rattle.shows.specs.Shows.{shown_at, is_pair}
use Rattle.station.specs.declared.Station.{Station}
use Rattle.station.specs.History.{Call, ShownIn, Runs}
use Rattle.station.proofs.BookRule.{empty_exactly, greatest_there, slot_holds}
use Rattle.station.proofs.Holding.{Dated}
use Rattle.heard.specs.Heard.{HasFirst, is_pair_of, shown_first}

-- ---- WHAT A FRAME SHOWS
pub first_shows : (string : ℕ → ℕ) (e k : ℕ) (f : Frame) → HasFirst string e k f → (p : ℕ) → 6 ≤ p → shown_at f p ≡ shown_first string k p
first_shows string e k f i p l = by (leb (p + 1) k) refl
  where
    none : (a b c : Bool) (x : Option (ℕ × Entry)) → pick ((a && (b && false)) && c) x None ≡ None
    none true true c x = refl
    none true false c x = refl
    none false b c x = refl

    by : (b : Bool) → leb (p + 1) k ≡ b → shown_at f p ≡ pick (b && is_pair_of string p) (shown_by (string 5) (string p) (string (p + 1))) None
    by true q =
        let u = leb-true (p + 1) k q in
        rw (
          i.has 5 (omega arith) (omega arith),
          i.has p (omega arith) (omega arith),
          i.has (p + 1) (omega arith) (omega arith),
          i.has 6 (omega arith) (omega arith),
          i.text 5 (omega arith) (omega arith),
          i.text p (omega arith) (omega arith),
          i.text (p + 1) (omega arith) (omega arith),
          i.text 6 (omega arith) (omega arith),
        )
    by false q =
        let u = leb-false (p + 1) k q in
        rw (i.rest (p + 1) (omega arith)) (none (f.has 5) (f.has p) (is_pair f p) (shown_by (f.text 5) (f.text p) (f.text (p + 1))))

-- with words in range
pub good_shows : (five even odd : ℕ) → is_good Five five ≡ true → 1 ≤ four_years five → is_good Even even ≡ true → is_good Odd odd ≡ true
    → shown_by five even odd ≡ Some (slot_in even, entry_of (three_of five even odd))
unfolding shown_by is_shown
good_shows five even odd a b c d = rw (a, le-leb 1 (four_years five) b, c, d)

-- ---- A SLOT FOR WHICH ONE ENTRY ALONE WAS SHOWN HOLDS IT: the greatest of equal entries is that entry
module _ (cs : List Call) (st : Station) (run : Runs cs st) (k : ℕ) (least : 1 ≤ k) (most : k ≤ 24) (t : Three) (shown : ShownIn cs k t) where
  pub some_shown : (in_slot st.book k).day ≡ 0 → ⊥
  some_shown z = (empty_exactly cs st run k least most).0 z t shown

  pub only_shown : ((u : Three) → ShownIn cs k u → u ≡ t) → meaning (in_slot st.book k) ≡ t
  only_shown all = all (meaning (in_slot st.book k)) (greatest_there cs st run k least most some_shown).shown

  -- an entry that was shown is what its three numbers say
  pub slot_dated : entry_of (meaning (in_slot st.book k)) ≡ in_slot st.book k
  slot_dated =
      ⊎_elim (λ (w : ShownIn cs k (meaning (in_slot st.book k)) × Dated (in_slot st.book k)). w.1.1)
      (λ (w : (in_slot st.book k ≡ blank) × ((u : Three) → ShownIn cs k u → ⊥)). absurd (w.1 t shown)) (slot_holds cs st run k least most).one
