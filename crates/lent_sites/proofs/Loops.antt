-- A lent station whose rows are all empty (emptied_all). The book's entries from the first on become the greater of the two, in their place (Partly:
-- partly_none, partly_more, partly_all), and the entry that a turn reads is the other book's (read_at).
-- Assumes nothing.
use mathlib.Core.Path.{◌≡◌, refl, sym, ap, ap₂, ◌∙◌}
use mathlib.Core.List.{List}
use Prim.Native.Nat.{ℕ, zero, suc, ◌+◌, ◌*◌, ◌≤◌, ◌<◌}
use native.Mathlib.Nat.{not-suc-le-zero, le_of_suc-le-suc}
use native.Mathlib.Omega.{arith}
use lib.ListN.{length, get_or, set, take, drop, replicate}
use lib.Seq.{drop-drop, get_or-set_other}
use Rattle.book.specs.declared.Entry.{Entry}
use Rattle.book.specs.declared.Book.{Book}
use Rattle.book.specs.Entry.{blank}
use Rattle.book.specs.Book.{slots, empty_book}
use Rattle.summary.specs.declared.Summary.{Summary}
use Rattle.summary.specs.Walk.{none_filled}
use Rattle.channel.specs.declared.Row.{Row}
use Rattle.channel.specs.Row.{empty_row}
use Rattle.station.specs.Station.{channels, fresh_station}
use Rattle.wire.specs.Bytes.{entry_from, entries_from}
use Rattle.sites.specs.Joining.{kept_of, join_books}
use Rattle.sites.proofs.Slots.{Passed, begins, goes_on, ends}

-- ---- a station of empty rows, an empty book and a summary of nothing
abbrev pub no_summary : Summary
no_summary = record { count = 0; oldest = 0; newest = 0 }

pub emptied_all : (rs : List Row) (b : Book) → rs ≡ replicate channels empty_row → b ≡ empty_book → record { rows = rs; book = b; summary = no_summary } ≡ fresh_station
unfolding fresh_station none_filled
emptied_all rs b g e = ap₂ (λ (rs : List Row) (b : Book). record { rows = rs; book = b; summary = no_summary }) g e

-- ---- the entries
-- the first i are joined, the others as they were
pub record Partly (xs ys : List Entry) (i : ℕ) (es : List Entry) : Type 0 where
  pub passed : Passed xs ys i es
  pub rest : (j : ℕ) → i ≤ j → get_or es j blank ≡ get_or xs j blank

pub partly_none : (xs ys : List Entry) → length xs ≡ slots → Partly xs ys 0 xs
partly_none xs ys l = record { passed = begins xs ys l; rest = λ j h. refl }

pub partly_more : (xs ys : List Entry) (i : ℕ) (es : List Entry) (e : Entry) → i < slots → e ≡ kept_of (get_or es i blank) (get_or ys i blank)
    → Partly xs ys i es → Partly xs ys (i + 1) (set es i e)
partly_more xs ys i es e l q p =
    let same : get_or es i blank ≡ get_or xs i blank = p.rest i (omega arith) in
    record {
      passed = goes_on xs ys i es e l (q ∙ ap (λ (x : Entry). kept_of x (get_or ys i blank)) same) p.passed;
      rest = λ j h. get_or-set_other es i j e blank (λ w. absurd (omega (arith, w, h))) ∙ p.rest j (omega (arith, h));
    }

pub partly_all : (xs ys : List Entry) (es : List Entry) → Partly xs ys slots es → es ≡ (join_books (record { entries = xs }) (record { entries = ys })).entries
partly_all xs ys es p = ends xs ys slots es (omega arith) p.passed

-- the entry read in a turn
pub read_at : (n i : ℕ) (s : List ℕ) → i < n → entry_from (take 20 (drop (i * 20) s)) ≡ get_or (entries_from n s) i blank
unfolding entries_from
read_at zero i s l = absurd (not-suc-le-zero l)
read_at (suc n) zero s l = refl
read_at (suc n) (suc i) s l =
    let e : 20 + i * 20 ≡ suc i * 20 = omega arith in
    ap (λ (r : List ℕ). entry_from (take 20 r)) (sym (drop-drop (i * 20) 20 s ∙ ap (λ (k : ℕ). drop k s) e)) ∙ read_at n i (drop 20 s) (le_of_suc-le-suc l)
