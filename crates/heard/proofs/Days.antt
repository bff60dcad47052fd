-- A full book whose entries all have one day: its summary is 24 and that day twice.
-- Assumes nothing.
use mathlib.Core.Path.{◌≡◌, refl, sym, ap, ◌∙◌}
use mathlib.Core.List.{List, [], ◌∷◌}
use Prim.Native.Nat.{ℕ, zero, suc, ◌+◌, ◌-◌, ◌≤◌, ◌<◌}
use native.Mathlib.Omega.{arith}
use borrow.Author.Tests.{ne_eqb, lt-ltb, le-ltb}
use lib.ListN.{length, get_or}
use Rattle.book.specs.declared.Entry.{Entry}
use Rattle.book.specs.Entry.{blank}
use Rattle.summary.specs.declared.Summary.{Summary}
use Rattle.summary.specs.Walk.{none_filled, with_line, walk_from, walk_of}
use Rattle.station.specs.declared.Station.{Station}
use Rattle.station.specs.History.{Call, Runs}
use Rattle.station.proofs.BookRule.{book_full}
use Rattle.station.proofs.Summary.{summary_rule}
use Rattle.heard.specs.Heard.{one_day, OneDay}

abbrev AllOn : ℕ → List Entry → Type 0
AllOn d es = (i : ℕ) → i < length es → (get_or es i blank).day ≡ d

module _ (d : ℕ) (n : d ≡ 0 → ⊥) where
  some : 0 < d
  some = by d n
    where
      by : (k : ℕ) → (k ≡ 0 → ⊥) → 0 < k
      by zero m = absurd (m refl)
      by (suc k) m = omega arith

  -- the first line, and each after it
  first_line_lem : (e : Entry) → e.day ≡ d → with_line none_filled e ≡ one_day 1 d
  unfolding with_line none_filled
  first_line_lem e q = rw (q, ne_eqb d 0 n, lt-ltb 0 d some)

  next_line : (k : ℕ) (e : Entry) → e.day ≡ d → with_line (one_day k d) e ≡ one_day (k + 1) d
  unfolding with_line
  next_line k e q = rw (q, ne_eqb d 0 n, le-ltb d d (omega arith))

  walk_on : (es : List Entry) (k : ℕ) → AllOn d es → walk_from (one_day k d) es ≡ one_day (k + length es) d
  unfolding walk_from
  walk_on [] k a = let z : k ≡ k + 0 = omega arith in ap (λ (m : ℕ). one_day m d) z
  walk_on (e ∷ es) k a =
      let z : k + 1 + length es ≡ k + suc (length es) = omega arith in
      ap (λ (s : Summary). walk_from s es) (next_line k e (a 0 (omega arith)))
      ∙ walk_on es (k + 1) (λ i l. a (suc i) (omega arith))
      ∙ ap (λ (m : ℕ). one_day m d) z

  walk_days : (es : List Entry) → 1 ≤ length es → AllOn d es → walk_of es ≡ one_day (length es) d
  unfolding walk_of walk_from
  walk_days [] l a = absurd (omega arith)
  walk_days (e ∷ es) l a =
      let z : 1 + length es ≡ suc (length es) = omega arith in
      ap (λ (s : Summary). walk_from s es) (first_line_lem e (a 0 (omega arith)))
      ∙ walk_on es 1 (λ i l. a (suc i) (omega arith))
      ∙ ap (λ (m : ℕ). one_day m d) z

-- THE SUMMARY OF A BOOK OF ONE DAY
pub one_day_lem : (cs : List Call) (st : Station) → Runs cs st → (d : ℕ) → OneDay d st → st.summary ≡ one_day 24 d
one_day_lem cs st run d o =
    let f : length st.book.entries ≡ 24 = book_full cs st run in
    (summary_rule cs st run).walked
    ∙ walk_days d o.0 st.book.entries (omega arith)
    (λ i l. let z : suc i - 1 ≡ i = omega arith in
    ap (λ (j : ℕ). (get_or st.book.entries j blank).day) (sym z) ∙ o.1 (suc i) (omega arith) (omega arith))
    ∙ ap (λ (m : ℕ). one_day m d) f
