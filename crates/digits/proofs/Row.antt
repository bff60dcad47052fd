-- Numbers printed in a row, one after the other (one_more, all-printed), and how long a row can be (row-length).
-- Assumes nothing.
use mathlib.Core.Path.{◌≡◌, refl, sym, ap, ◌∙◌}
use mathlib.Core.List.{List, [], ◌∷◌, ◌++◌, append_assoc}
use Prim.Native.Nat.{ℕ, zero, suc, ◌+◌, ◌-◌, ◌≤◌, ◌<◌}
use native.Mathlib.Nat.{le_of_suc-le-suc}
use native.Mathlib.Numerals.{add-one}
use native.Mathlib.Omega.{arith}
use lib.ListN.{length, drop, get_or, length-append}
use Rattle.digits.specs.Text.{decimal, space, line_feed, cell, row, Within, row_bytes, Puts}
use Rattle.digits.proofs.Decimal.{cell_length}
use Rattle.digits.proofs.Pieces.{puts_room, puts_as, puts_more, puts_none}

-- ---- what is left of a row begins with the next number's cell
next : (ns : List ℕ) (i : ℕ) → suc i < length ns → row (drop i ns) ≡ cell (get_or ns i 0) space ++ row (drop (suc i) ns)
next [] i h = absurd (omega arith)
next (n ∷ []) zero h = absurd (omega arith)
next (n ∷ k ∷ ns) zero h = refl
next (n ∷ ns) (suc i) h = next ns i (le_of_suc-le-suc h)

abbrev last_of : List ℕ → ℕ
last_of ns = get_or ns (length ns - 1) 0

last_at : (ns : List ℕ) (i : ℕ) → suc i ≡ length ns → row (drop i ns) ≡ cell (get_or ns i 0) line_feed
last_at [] i h = absurd (omega arith)
last_at (n ∷ []) zero h = refl
last_at (n ∷ k ∷ ns) zero h = absurd (omega arith)
last_at (n ∷ ns) (suc i) h = last_at ns i (omega arith)

last : (ns : List ℕ) (i : ℕ) → suc i ≡ length ns → row (drop i ns) ≡ cell (last_of ns) line_feed
last ns i h =
    let e : i ≡ length ns - 1 = omega arith in
    last_at ns i h ∙ ap (λ (k : ℕ). cell (get_or ns k 0) line_feed) e

-- the first i numbers are printed: with what is left, they are the row
pub record RowSoFar (ns text₀ : List ℕ) (at : ℕ) (text : List ℕ) (end i : ℕ) : Type 0 where
  pub piece : List ℕ
  pub puts : Puts text₀ at piece text end
  pub whole : piece ++ row (drop i ns) ≡ row ns

module _ {ns text₀ : List ℕ} {at : ℕ} where
  pub none_yet : RowSoFar ns text₀ at text₀ at 0
  none_yet = record { piece = []; puts = puts_none; whole = refl }

  -- the room that is left
  room : {text : List ℕ} {end i : ℕ} → RowSoFar ns text₀ at text end i → at + length (row ns) ≤ length text₀ → end + length (row (drop i ns)) ≤ length text
  room {i = i} s r = omega (arith, s.puts.past, puts_room s.puts, ap length s.whole, length-append s.piece (row (drop i ns)))

  pub room_next : {text : List ℕ} {end i : ℕ} → RowSoFar ns text₀ at text end i → at + length (row ns) ≤ length text₀ → suc i < length ns
      → end + length (cell (get_or ns i 0) space) ≤ length text
  room_next {i = i} s r h =
      omega (arith, room s r, ap length (next ns i h), length-append (cell (get_or ns i 0) space) (row (drop (suc i) ns)))

  -- whatever byte comes after it
  pub room_last : {text : List ℕ} {end i : ℕ} (after : ℕ) → RowSoFar ns text₀ at text end i → at + length (row ns) ≤ length text₀ → suc i ≡ length ns
      → end + length (cell (last_of ns) after) ≤ length text
  room_last {i = i} after s r h =
      omega (
        arith,
        room s r,
        ap length (last ns i h),
        length-append (decimal (last_of ns)) (line_feed ∷ []),
        length-append (decimal (last_of ns)) (after ∷ []),
      )

  -- one number more
  pub one_more_lem : {text text' : List ℕ} {end end' i : ℕ} → RowSoFar ns text₀ at text end i → suc i < length ns
      → Puts text end (cell (get_or ns i 0) space) text' end' → RowSoFar ns text₀ at text' end' (i + 1)
  one_more_lem {i = i} s h p =
      rw add-one
      (record {
        piece = s.piece ++ cell (get_or ns i 0) space;
        puts = puts_more s.puts p;
        whole = append_assoc s.piece (cell (get_or ns i 0) space) _ ∙ ap (λ (l : List ℕ). s.piece ++ l) (sym (next ns i h)) ∙ s.whole;
      })

  -- and the last
  pub all_printed : {text text' : List ℕ} {end end' i : ℕ} → RowSoFar ns text₀ at text end i → suc i ≡ length ns
      → Puts text end (cell (last_of ns) line_feed) text' end' → Puts text₀ at (row ns) text' end'
  all_printed {i = i} s h p = puts_as (ap (λ (l : List ℕ). s.piece ++ l) (sym (last ns i h)) ∙ s.whole) (puts_more s.puts p)

-- HOW LONG A ROW CAN BE, by how many digits each number can have
pub row_length : (ks ns : List ℕ) → Within ks ns → length (row ns) ≤ row_bytes ks
row_length [] [] w = omega arith
row_length [] (n ∷ ns) w = absurd w
row_length (k ∷ ks) [] w = absurd w
row_length (k ∷ ks) (n ∷ []) w = omega (arith, cell_length k n line_feed w.0 w.1)
row_length (k ∷ ks) (n ∷ j ∷ ns) w =
    omega (arith, length-append (cell n space) (row (j ∷ ns)), cell_length k n space w.0 w.1, row_length ks (j ∷ ns) w.2)
