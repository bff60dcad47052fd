-- The line symbols: how many they are, where each stands, and that each is 0 or 1.
-- Assumes nothing.
use Prim.Native.Nat.{ℕ, zero, suc, ◌+◌, ◌-◌, ◌*◌, ◌/◌, ◌%◌, ◌^◌, ◌<◌, ◌≤◌}
use native.Mathlib.Omega.{arith}
use native.Mathlib.Nat.{mod-lt, zero-lt-suc}
use native.Mathlib.Numerals.{add-one}
use borrow.Author.Tests.{ltb-true, ltb-false}
use mathlib.Core.Path.{◌≡◌, refl, sym, ap, ◌∙◌}
use mathlib.Core.Bool.{Bool, true, false, ◌&&◌}
use mathlib.Core.List.{List, [], ◌∷◌, ◌++◌, append-nil}
use lib.ListN.{length, take, drop, get_or, length-append, get_or-append, drop_of_length-le}
use lib.Seq.{get_or-append-add}
use lib.Dec.{T, lit<, ltb, ltb→lt}
use Rattle.strings.proofs.Below.{and_left, and_right}
use Rattle.sky.specs.Mark.{mark}
use Rattle.sky.specs.Line.{symbol_of, halves, line_of, lines_of}
use Rattle.sky.specs.Front.{Front}
use Rattle.sky.proofs.Front.{front_start, front_more, front_is}

-- ---- how many
halves_long : (s : List ℕ) (n : ℕ) → length (halves s n) ≡ 2 * n
unfolding halves
halves_long s zero = refl
halves_long s (suc n) = omega (arith, length-append (halves s n) (symbol_of s n ∷ (1 - symbol_of s n) ∷ []), halves_long s n)

pub line_long : (s : List ℕ) → length (line_of s) ≡ 200
unfolding line_of
line_long s = length-append (halves s 85) mark ∙ ap (λ (x : ℕ). x + 30) (halves_long s 85)

pub lines_long : (f : ℕ → List ℕ) (n : ℕ) → length (lines_of f n) ≡ 200 * n
unfolding lines_of
lines_long f zero = refl
lines_long f (suc n) = omega (arith, length-append (lines_of f n) (line_of (f n)), lines_long f n, line_long (f n))

-- ---- one line more is written
pub lines_none : (f : ℕ → List ℕ) (o : List ℕ) → Front o (lines_of f 0) o 0
unfolding lines_of
lines_none f o = front_start o 0

pub lines_more : (f : ℕ → List ℕ) (o out out' : List ℕ) (i : ℕ) → Front o (lines_of f i) out (200 * i) → 200 * i + 200 ≤ length o
    → out' ≡ take (200 * i) out ++ (line_of (f i) ++ drop (200 * i + 200) out) → Front o (lines_of f (i + 1)) out' (200 * (i + 1))
unfolding lines_of
lines_more f o out out' i g h q =
    let d : 200 * (i + 1) ≡ 200 * i + 200 = omega arith in
    rw (d, add-one i) (front_more g (line_of (f i)) out' 200 (line_long (f i)) h q)

pub lines_done : (f : ℕ → List ℕ) (o out : List ℕ) → length o ≡ 15000 → Front o (lines_of f 75) out 15000 → out ≡ lines_of f 75
lines_done f o out h g = front_is g ∙ ap (λ (x : List ℕ). lines_of f 75 ++ x) (drop_of_length-le o {i = 15000} (omega (arith, h))) ∙ append-nil (lines_of f 75)

-- ---- where they stand
-- the last of a list that grows at its end
at_end : (l m : List ℕ) (k i : ℕ) → length l ≡ k → get_or (l ++ m) (k + i) 0 ≡ get_or m i 0
at_end l m k i e = ap (λ (n : ℕ). get_or (l ++ m) (n + i) 0) (sym e) ∙ get_or-append-add l m i 0

abbrev pair : List ℕ → ℕ → List ℕ
pair s n = symbol_of s n ∷ (1 - symbol_of s n) ∷ []

-- half h, 0 or 1, of symbol j
half_at : (s : List ℕ) (h : ℕ) → h < 2 → (n j : ℕ) → j < n → get_or (halves s n) (2 * j + h) 0 ≡ get_or (pair s j) h 0
unfolding halves
half_at s h w zero j l = absurd (omega arith)
half_at s h w (suc n) j l = by (ltb j n) refl (λ q. half_at s h w n j q)
  where
    by : (t : Bool) → ltb j n ≡ t → (j < n → get_or (halves s n) (2 * j + h) 0 ≡ get_or (pair s j) h 0) → get_or (halves s n ++ pair s n) (2 * j + h) 0 ≡ get_or (pair s j) h 0
    by true q r =
        let k = ltb-true j n q in
        get_or-append (halves s n) (pair s n) 0 (2 * j + h) (omega (arith, halves_long s n)) ∙ r k
    by false q r =
        let k : j ≡ n = omega (arith, ltb-false j n q) in
        ap (λ (i : ℕ). get_or (halves s n ++ pair s n) (2 * i + h) 0) k ∙ at_end (halves s n) (pair s n) (2 * n) h (halves_long s n)
        ∙ ap (λ (i : ℕ). get_or (pair s i) h 0) (sym k)

line_half : (s : List ℕ) (h j : ℕ) → h < 2 → j < 85 → get_or (line_of s) (2 * j + h) 0 ≡ get_or (pair s j) h 0
unfolding line_of
line_half s h j w l = get_or-append (halves s 85) mark 0 (2 * j + h) (omega (arith, halves_long s 85)) ∙ half_at s h w 85 j l

line_mark : (s : List ℕ) (j : ℕ) → get_or (line_of s) (170 + j) 0 ≡ get_or mark j 0
unfolding line_of
line_mark s j = at_end (halves s 85) mark 170 j (halves_long s 85)

line_in : (f : ℕ → List ℕ) (n i k : ℕ) → i < n → k < 200 → get_or (lines_of f n) (200 * i + k) 0 ≡ get_or (line_of (f i)) k 0
unfolding lines_of
line_in f zero i k l u = absurd (omega arith)
line_in f (suc n) i k l u = by (ltb i n) refl (λ h. line_in f n i k h u)
  where
    by : (t : Bool) → ltb i n ≡ t → (i < n → get_or (lines_of f n) (200 * i + k) 0 ≡ get_or (line_of (f i)) k 0)
        → get_or (lines_of f n ++ line_of (f n)) (200 * i + k) 0 ≡ get_or (line_of (f i)) k 0
    by true q h =
        let j = ltb-true i n q in
        get_or-append (lines_of f n) (line_of (f n)) 0 (200 * i + k) (omega (arith, lines_long f n)) ∙ h j
    by false q h =
        let j : i ≡ n = omega (arith, ltb-false i n q) in
        ap (λ (x : ℕ). get_or (lines_of f n ++ line_of (f n)) (200 * x + k) 0) j ∙ at_end (lines_of f n) (line_of (f n)) (200 * n) k (lines_long f n)
        ∙ ap (λ (x : ℕ). get_or (line_of (f x)) k 0) (sym j)

module _ (f : ℕ → List ℕ) (n i j : ℕ) (l : i < n) where
  pub first_half : j < 85 → get_or (lines_of f n) (200 * i + 2 * j) 0 ≡ symbol_of (f i) j
  first_half u =
      let e : 2 * j ≡ 2 * j + 0 = omega arith in
      line_in f n i (2 * j) l (omega arith) ∙ ap (λ (k : ℕ). get_or (line_of (f i)) k 0) e ∙ line_half (f i) 0 j (omega arith) u

  pub second_half : j < 85 → get_or (lines_of f n) (200 * i + 2 * j + 1) 0 ≡ 1 - symbol_of (f i) j
  second_half u =
      let e : 200 * i + 2 * j + 1 ≡ 200 * i + (2 * j + 1) = omega arith in
      ap (λ (k : ℕ). get_or (lines_of f n) k 0) e ∙ line_in f n i (2 * j + 1) l (omega arith) ∙ line_half (f i) 1 j (omega arith) u

  pub mark_in : j < 30 → get_or (lines_of f n) (200 * i + 170 + j) 0 ≡ get_or mark j 0
  mark_in u =
      let e : 200 * i + 170 + j ≡ 200 * i + (170 + j) = omega arith in
      ap (λ (k : ℕ). get_or (lines_of f n) k 0) e ∙ line_in f n i (170 + j) l (omega arith) ∙ line_mark (f i) j

-- ---- each symbol is 0 or 1
abbrev Symbols : List ℕ → Type 0
Symbols l = (k : ℕ) → get_or l k 0 < 2

none_small : Symbols []
none_small k = lit< tt

more_small : (x : ℕ) (l : List ℕ) → x < 2 → Symbols l → Symbols (x ∷ l)
more_small x l h g zero = h
more_small x l h g (suc k) = g k

join_small : (a b : List ℕ) → Symbols a → Symbols b → Symbols (a ++ b)
join_small [] b f g = g
join_small (x ∷ a) b f g = more_small x (a ++ b) (f zero) (join_small a b (λ k. f (suc k)) g)

halves_small : (s : List ℕ) (n : ℕ) → Symbols (halves s n)
unfolding halves
halves_small s zero = none_small
halves_small s (suc n) =
    join_small (halves s n) (pair s n) (halves_small s n)
    (more_small (symbol_of s n) ((1 - symbol_of s n) ∷ []) (mod-lt (get_or s (n / 8) 0 / 2 ^ (7 - n % 8)) (zero-lt-suc 1))
    (more_small (1 - symbol_of s n) [] (omega arith) none_small))

abbrev small_test : List ℕ → Bool
small_test [] = true
small_test (x ∷ l) = ltb x 2 && small_test l

small_all : (l : List ℕ) → T (small_test l) → Symbols l
small_all [] t = none_small
small_all (x ∷ l) t = more_small x l (ltb→lt x 2 (and_left (ltb x 2) (small_test l) t)) (small_all l (and_right (ltb x 2) (small_test l) t))

line_small : (s : List ℕ) → Symbols (line_of s)
unfolding line_of
line_small s = join_small (halves s 85) mark (halves_small s 85) (small_all mark tt)

pub lines_small : (f : ℕ → List ℕ) (n k : ℕ) → get_or (lines_of f n) k 0 < 2
unfolding lines_of
lines_small f zero = none_small
lines_small f (suc n) = join_small (lines_of f n) (line_of (f n)) (lines_small f n) (line_small (f n))
