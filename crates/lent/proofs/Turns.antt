-- The loop of what is brought to a lent station's book: how many turns it takes, what is brought in each (in_turn), the station after some (left_after), that it is for one of the book's slots
-- (one_in, newly-in), and that all turns together bring all that is shown (all-brought, all_changed).
-- Assumes nothing.
use Prim.Native.Nat.{ℕ, zero, suc}
use native.Mathlib.Omega.{arith}
use mathlib.Core.Bool.{Bool, true, false, ◌||◌}
use mathlib.Core.List.{List, [], ◌∷◌}
use mathlib.Core.Path.{◌≡◌, refl, ◌∙◌, ap}
use lib.ListN.{length, get_or}
use Rattle.book.specs.declared.Book.{Book}
use Rattle.book.specs.declared.Entry.{Entry}
use Rattle.std.specs.Prelude.{Option, None}
use Rattle.book.specs.Book.{InBook}
use Rattle.channel.specs.Frame.{Frame}
use Rattle.shows.specs.Shows.{newly_shown, brought, changes}
use Rattle.shows.specs.Changes.{AllInBook}
use Rattle.station.specs.declared.Station.{Station}
use Rattle.station.specs.Station.{corrected}
use Rattle.shows.proofs.Shows.{in_book}
use Rattle.shows.proofs.Turns.{up_to, changed_to, five_brought, five_changed}

abbrev pub turns : ℕ
turns = 5

-- what is brought in a turn
abbrev pub in_turn : List (Option (ℕ × Entry)) → ℕ → Option (ℕ × Entry)
in_turn xs j = get_or xs j None

-- the station after some turns, and with the summary that it then has
abbrev pub left_after : Station → List (Option (ℕ × Entry)) → ℕ → Station
left_after st xs j = record { rows = st.rows; book = up_to st.book (in_turn xs) j; summary = st.summary }

abbrev pub summed : Station → Bool → Station
summed st changed = record { rows = st.rows; book = st.book; summary = corrected changed st.book st.summary }

-- a turn's own change, with those before it
pub or_before : (a b : Bool) → (a || b) ≡ (b || a)
or_before true true = refl
or_before true false = refl
or_before false true = refl
or_before false false = refl

pub one_in : (xs : List (Option (ℕ × Entry))) (j : ℕ) → AllInBook xs → InBook (in_turn xs j)
one_in [] j a = tt
one_in (x ∷ xs) zero a = a.0
one_in (x ∷ xs) (suc j) a = one_in xs j a.1

pub newly_in : (t : Bool) (f : Frame) → AllInBook (newly_shown t f)
newly_in true f = (in_book f 6, (in_book f 8, (in_book f 10, (in_book f 12, (in_book f 14, tt)))))
newly_in false f = (tt, (tt, (tt, (tt, (tt, tt)))))

-- ---- all turns
five_in : (xs : List (Option (ℕ × Entry))) → length xs ≡ 5 → (in_turn xs 0 ∷ in_turn xs 1 ∷ in_turn xs 2 ∷ in_turn xs 3 ∷ in_turn xs 4 ∷ []) ≡ xs
five_in [] l = absurd (omega (arith, l))
five_in (a ∷ []) l = absurd (omega (arith, l))
five_in (a ∷ b ∷ []) l = absurd (omega (arith, l))
five_in (a ∷ b ∷ c ∷ []) l = absurd (omega (arith, l))
five_in (a ∷ b ∷ c ∷ d ∷ []) l = absurd (omega (arith, l))
five_in (a ∷ b ∷ c ∷ d ∷ e ∷ []) l = refl
five_in (a ∷ b ∷ c ∷ d ∷ e ∷ f ∷ xs) l = absurd (omega (arith, l))

pub all_brought_lem : (b : Book) (xs : List (Option (ℕ × Entry))) → length xs ≡ 5 → up_to b (in_turn xs) turns ≡ brought b xs
all_brought_lem b xs l = five_brought b (in_turn xs) ∙ ap (brought b) (five_in xs l)

pub all_changed : (b : Book) (xs : List (Option (ℕ × Entry))) → length xs ≡ 5 → changed_to b (in_turn xs) turns ≡ changes b xs
all_changed b xs l = five_changed b (in_turn xs) ∙ ap (changes b) (five_in xs l)
