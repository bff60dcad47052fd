-- Loops over the eight places of a kind: one value more read, tested, written.
-- Assumes nothing.
use mathlib.Core.Path.{◌≡◌, refl, sym, ap, ◌∙◌}
use mathlib.Core.Bool.{Bool, true, false}
use mathlib.Core.List.{List, [], ◌∷◌}
use Prim.Native.Nat.{ℕ, zero, suc, ◌+◌, ◌-◌, ◌*◌, ◌^◌, ◌≤◌, ◌<◌}
use native.Mathlib.Nat.{le_of_suc-le-suc, not-suc-le-zero, mul_assoc}
use native.Mathlib.Numerals.{add-one}
use native.Mathlib.Omega.{arith}
use lib.IntN.{ℤ, pos}
use lib.ListN.{length, get_or, take, drop, set}
use lib.Pow.{pow-add}
use lib.Seq.{take-suc, take-suc-set, drop-cons}
use Rattle.strings.specs.Pick.{pick}
use Rattle.strings.specs.Number.{word_of}
use Rattle.layout.specs.declared.table.Word.{Word}
use Rattle.layout.specs.Layout.{none}
use Rattle.words.specs.Values.{value_in, code_in, in_range, values_of, first_bad, data_of}

-- ---- a loop over the eight places
pub values_long : (n : ℕ) (ws : List Word) → length (values_of n ws) ≡ length ws
unfolding values_of
values_long n [] = refl
values_long n (w ∷ ws) = ap suc (values_long n ws)

pub values_at : (n : ℕ) (ws : List Word) (j : ℕ) → j < length ws
    → get_or (values_of n ws) j (pos 0) ≡ value_in (get_or ws j none) (word_of n (get_or ws j none).top (get_or ws j none).low)
unfolding values_of
values_at n [] j h = absurd (not-suc-le-zero h)
values_at n (w ∷ ws) zero h = refl
values_at n (w ∷ ws) (suc j) h = values_at n ws j (le_of_suc-le-suc h)

-- w is the word at place j, and v has a value there
module _ (ws : List Word) (v : List ℤ) (j : ℕ) (w : Word) (h : j < length ws) (l : j < length v) (e : w ≡ get_or ws j none) where
  -- one value more is read
  pub values_step : (n : ℕ) → take j v ≡ take j (values_of n ws)
      → take (j + 1) (set v j (value_in w (word_of n w.top w.low))) ≡ take (j + 1) (values_of n ws)
  values_step n p =
      let k : j < length (values_of n ws) = rw (values_long n ws) h in
      rw (add-one j, take-suc-set v j (value_in w (word_of n w.top w.low)) l, take-suc (values_of n ws) j (pos 0) k, values_at n ws j h, ← e, p)

  -- one value more is in range
  pub bad_step : in_range w (get_or v j (pos 0)) ≡ true → first_bad (drop j ws) (drop j v) ≡ first_bad (drop (j + 1) ws) (drop (j + 1) v)
  unfolding first_bad
  bad_step t =
      rw (add-one j, drop-cons ws j none h, drop-cons v j (pos 0) l, ← e)
      (ap (λ (b : Bool). pick b (first_bad (drop (suc j) ws) (drop (suc j) v)) w.top) t)

  -- and one that is not is the first
  pub bad_found : in_range w (get_or v j (pos 0)) ≡ false → first_bad (drop j ws) (drop j v) ≡ w.top
  unfolding first_bad
  bad_found t =
      rw (drop-cons ws j none h, drop-cons v j (pos 0) l, ← e) (ap (λ (b : Bool). pick b (first_bad (drop (suc j) ws) (drop (suc j) v)) w.top) t)

  -- one word more is written: its bits go above the padding's three
  pub data_step : 1 ≤ w.low
      → code_in w (get_or v j (pos 0)) * 2 ^ (w.low + 2) + data_of (drop (j + 1) ws) (drop (j + 1) v) * 8 ≡ data_of (drop j ws) (drop j v) * 8
  unfolding data_of
  data_step k =
      let c = code_in w (get_or v j (pos 0)) in
      let p : 2 ^ (w.low + 2) ≡ 2 ^ (w.low - 1) * 8 = ap (λ (x : ℕ). 2 ^ x) (omega arith) ∙ pow-add 2 (w.low - 1) 3 in
      let q : c * 2 ^ (w.low + 2) ≡ c * 2 ^ (w.low - 1) * 8 = ap (λ (x : ℕ). c * x) p ∙ sym (mul_assoc c (2 ^ (w.low - 1)) 8) in
      rw (add-one j, drop-cons ws j none h, drop-cons v j (pos 0) l, ← e) (omega arith)
