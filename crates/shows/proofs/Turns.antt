-- What is shown, brought to a book in turns: the book after some of them (up_to), and whether an entry has changed (changedTo). After five turns all is
-- brought (five-brought) and all changes are known (five-changed). What an offer newly shows, brought: as its frame shows, or nothing (newly-brought,
-- newly-changed).
-- Assumes nothing.
use Prim.Native.Nat.{ℕ, zero, suc}
use mathlib.Core.Bool.{Bool, true, false, ◌&&◌, ◌||◌}
use mathlib.Core.List.{List, [], ◌∷◌}
use mathlib.Core.Path.{◌≡◌, refl, sym}
use Rattle.strings.specs.Pick.{pick}
use Rattle.book.specs.declared.Entry.{Entry}
use Rattle.std.specs.Prelude.{Option}
use Rattle.book.specs.declared.Book.{Book}
use Rattle.book.specs.Book.{joined_shown}
use Rattle.channel.specs.Frame.{Frame}
use Rattle.shows.specs.Shows.{shows_of, newly_shown, brought, rises_in, changes}

-- the first j brought, `at j` being what is shown in turn j
abbrev pub up_to : Book → (ℕ → Option (ℕ × Entry)) → ℕ → Book
up_to b at zero = b
up_to b at (suc j) = joined_shown (up_to b at j) (at j)

abbrev pub changed_to : Book → (ℕ → Option (ℕ × Entry)) → ℕ → Bool
changed_to b at zero = false
changed_to b at (suc j) = changed_to b at j || rises_in (up_to b at j) (at j)

-- a turn in which something is stored, and one in which nothing is
pub turn_changed : (before rises : Bool) → rises ≡ true → true ≡ (before || rises)
turn_changed true rises h = refl
turn_changed false rises h = sym h

pub turn_kept : (before rises : Bool) → rises ≡ false → before ≡ (before || rises)
turn_kept true rises h = refl
turn_kept false rises h = sym h

-- the five in turn
abbrev five : (ℕ → Option (ℕ × Entry)) → List (Option (ℕ × Entry))
five at = at 0 ∷ at 1 ∷ at 2 ∷ at 3 ∷ at 4 ∷ []

pub five_brought : (b : Book) (at : ℕ → Option (ℕ × Entry)) → up_to b at 5 ≡ brought b (five at)
unfolding brought
five_brought b at = refl

one_of : (p q r s t : Bool) → (((((false || p) || q) || r) || s) || t) ≡ (p || (q || (r || (s || (t || false)))))
one_of true q r s t = refl
one_of false true r s t = refl
one_of false false true s t = refl
one_of false false false true t = refl
one_of false false false false true = refl
one_of false false false false false = refl

pub five_changed : (b : Book) (at : ℕ → Option (ℕ × Entry)) → changed_to b at 5 ≡ changes b (five at)
unfolding changes
five_changed b at =
    one_of (rises_in (up_to b at 0) (at 0)) (rises_in (up_to b at 1) (at 1)) (rises_in (up_to b at 2) (at 2)) (rises_in (up_to b at 3) (at 3)) (rises_in (up_to b at 4) (at 4))

-- ---- what an offer newly shows
pub newly_brought : (b : Book) (t : Bool) (f : Frame) → brought b (newly_shown t f) ≡ pick t (brought b (shows_of f)) b
unfolding brought joined_shown
newly_brought b true f = refl
newly_brought b false f = refl

pub newly_changed : (b : Book) (t : Bool) (f : Frame) → changes b (newly_shown t f) ≡ (t && changes b (shows_of f))
unfolding changes joined_shown
newly_changed b true f = refl
newly_changed b false f = refl
