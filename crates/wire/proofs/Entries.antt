-- Entries as bytes, one by one: how many bytes they are, that each is a byte, and that reading and writing undo each other.
-- Assumes nothing.
use mathlib.Core.Path.{◌≡◌, refl, sym, ap, ap₂, ◌∙◌, subst}
use mathlib.Core.List.{List, [], ◌∷◌, ◌++◌, append_assoc, append-nil}
use Prim.Native.Nat.{ℕ, zero, suc, ◌+◌, ◌*◌, ◌/◌, ◌%◌, ◌^◌, ◌≤◌, ◌<◌}
use native.Mathlib.Nat.{mod-eq_of_lt, mod-lt, zero-lt-suc}
use native.Mathlib.Omega.{arith}
use lib.Dec.{lit<}
use lib.ListN.{length, get_or, take, drop, length-append, length-drop, take-append-drop}
use lib.Pow.{high, low, pow_pos}
use lib.Seq.{take_at, drop_at, take-add, drop-drop, drop-cons, get_or-drop, length-take-le, take-suc, take-length}
use Rattle.strings.specs.Number.{Bytes, value_of, bytes_of}
use Rattle.strings.proofs.Value.{value_lt, length_bytes, bytes_value, value_bytes}
use Rattle.book.specs.declared.Entry.{Entry}
use Rattle.book.specs.Entry.{Three, meaning, entry_of, blank, Fits}
use Rattle.book.proofs.Order.{blank_fits, meaning_entry, entry_meaning}
use Rattle.wire.specs.Bytes.{entry_bytes, entries_bytes, three_from, entry_from, entries_from}

-- ---- lists of bytes
pub bytes_take : (n : ℕ) (s : List ℕ) → Bytes s → Bytes (take n s)
bytes_take zero s h k = lit< tt
bytes_take (suc n) [] h k = lit< tt
bytes_take (suc n) (b ∷ s) h zero = h 0
bytes_take (suc n) (b ∷ s) h (suc k) = bytes_take n s (λ j. h (suc j)) k

pub bytes_drop : (n : ℕ) (s : List ℕ) → Bytes s → Bytes (drop n s)
bytes_drop n s h k = rw (get_or-drop n s k 0) (h (n + k))

bytes_append : (s t : List ℕ) → Bytes s → Bytes t → Bytes (s ++ t)
bytes_append [] t h g k = g k
bytes_append (b ∷ s) t h g zero = h 0
bytes_append (b ∷ s) t h g (suc k) = bytes_append s t (λ j. h (suc j)) g k

bytes_small : (n x : ℕ) → Bytes (bytes_of n x)
bytes_small zero x k = lit< tt
bytes_small (suc n) x zero = mod-lt (x / 2 ^ (8 * n)) (zero-lt-suc 255)
bytes_small (suc n) x (suc k) = bytes_small n x k

-- the low bytes of a number are those of what is left of it below them
bytes_low : (n x : ℕ) → bytes_of n (x % 2 ^ (8 * n)) ≡ bytes_of n x
bytes_low n x =
    ap (bytes_of n) (sym (value_bytes n x)) ∙ ap (λ (k : ℕ). bytes_of k (value_of (bytes_of n x))) (sym (length_bytes n x)) ∙ bytes_value (bytes_of n x) (bytes_small n x)

-- ---- nine bytes: a high one and eight
pub nine_put : (hi lo : ℕ) → hi < 2 ^ 8 → lo < 2 ^ 64 → hi ∷ bytes_of 8 lo ≡ bytes_of 9 (hi * 2 ^ 64 + lo)
nine_put hi lo h l =
    let x = hi * 2 ^ 64 + lo in
    ap₂ (λ (b : ℕ) (s : List ℕ). b ∷ s) (sym (ap (λ (y : ℕ). y % 256) (high hi 64 l) ∙ mod-eq_of_lt h)) (ap (bytes_of 8) (sym (low hi 64 l)) ∙ bytes_low 8 x)

module _ (s : List ℕ) (i : ℕ) (h : Bytes s) (l : i + 9 ≤ length s) where
  eight : length (take 8 (drop (suc i) s)) ≡ 8
  eight = length-take-le 8 (drop (suc i) s) (omega (arith, length-drop (suc i) s))

  nine : value_of (take 9 (drop i s)) ≡ get_or s i 0 * 2 ^ 64 + value_of (take 8 (drop (suc i) s))
  nine = ap (λ (r : List ℕ). value_of (take 9 r)) (drop-cons s i 0 (omega arith)) ∙ ap (λ (k : ℕ). get_or s i 0 * 2 ^ (8 * k) + value_of (take 8 (drop (suc i) s))) eight

  low_lt : value_of (take 8 (drop (suc i) s)) < 2 ^ 64
  low_lt = subst (λ (k : ℕ). value_of (take 8 (drop (suc i) s)) < 2 ^ (8 * k)) eight (value_lt (take 8 (drop (suc i) s)) (bytes_take 8 (drop (suc i) s) (bytes_drop (suc i) s h)))

  pub nine_high : value_of (take 9 (drop i s)) / 2 ^ 64 ≡ get_or s i 0
  nine_high = ap (λ (x : ℕ). x / 2 ^ 64) nine ∙ high (get_or s i 0) 64 low_lt

  pub nine_low : value_of (take 9 (drop i s)) % 2 ^ 64 ≡ value_of (take 8 (drop (suc i) s))
  nine_low = ap (λ (x : ℕ). x % 2 ^ 64) nine ∙ low (get_or s i 0) 64 low_lt

-- ---- an entry
pub entry_long : (t : Three) → length (entry_bytes t) ≡ 20
unfolding entry_bytes
entry_long t = refl

-- its numbers have room, and are read back one by one
module _ (t : Three) where
  day_back : t.day < 2 ^ 16 → (three_from (entry_bytes t)).day ≡ t.day
  unfolding entry_bytes
  day_back h = value_bytes 2 t.day ∙ mod-eq_of_lt h

  even_back : t.even < 2 ^ 72 → (three_from (entry_bytes t)).even ≡ t.even
  unfolding entry_bytes
  even_back h = value_bytes 9 t.even ∙ mod-eq_of_lt h

  odd_back : t.odd < 2 ^ 72 → (three_from (entry_bytes t)).odd ≡ t.odd
  unfolding entry_bytes
  odd_back h = value_bytes 9 t.odd ∙ mod-eq_of_lt h

entry_back_lem : (e : Entry) → Fits e → entry_from (entry_bytes (meaning e)) ≡ e
unfolding entry_from
entry_back_lem e f =
    let t = meaning e in
    let a = day_back t f.day in
    let b = even_back t (omega (arith, f.even, f.etop)) in
    let c = odd_back t (omega (arith, f.odd, f.otop)) in
    ap (λ (x : ℕ). entry_of (record { day = x; even = (three_from (entry_bytes t)).even; odd = (three_from (entry_bytes t)).odd })) a
    ∙ ap₂ (λ (x y : ℕ). entry_of (record { day = t.day; even = x; odd = y })) b c
    ∙ entry_meaning e f

-- twenty bytes have a meaning
module _ (s : List ℕ) (h : Bytes s) (l : length s ≡ 20) where
  -- a part of them, as a number and back
  part_long : (i n : ℕ) → i + n ≤ 20 → length (take n (drop i s)) ≡ n
  part_long i n k = length-take-le n (drop i s) (omega (arith, length-drop i s, l))

  part_forth : (i n : ℕ) → i + n ≤ 20 → bytes_of n (value_of (take n (drop i s))) ≡ take n (drop i s)
  part_forth i n k =
      ap (λ (m : ℕ). bytes_of m (value_of (take n (drop i s)))) (sym (part_long i n k)) ∙ bytes_value (take n (drop i s)) (bytes_take n (drop i s) (bytes_drop i s h))

  part_lt : (i n : ℕ) → i + n ≤ 20 → value_of (take n (drop i s)) < 2 ^ (8 * n)
  part_lt i n k = subst (λ (m : ℕ). value_of (take n (drop i s)) < 2 ^ (8 * m)) (part_long i n k) (value_lt (take n (drop i s)) (bytes_take n (drop i s) (bytes_drop i s h)))

  pub day_lt : value_of (take 2 s) < 2 ^ 16
  day_lt = part_lt 0 2 (omega arith)

  parts : take 2 s ++ (take 9 (drop 2 s) ++ take 9 (drop 11 s)) ≡ s
  parts =
      ap (λ (r : List ℕ). take 2 s ++ (take 9 (drop 2 s) ++ take 9 r)) (sym (drop-drop 9 2 s))
      ∙ ap (λ (r : List ℕ). take 2 s ++ r) (sym (take-add 9 9 (drop 2 s)))
      ∙ sym (take-add 2 18 s) ∙ ap (λ (k : ℕ). take k s) (sym l) ∙ take-length s

  entry_forth : entry_bytes (meaning (entry_from s)) ≡ s
  unfolding entry_from entry_bytes
  entry_forth =
      ap entry_bytes (meaning_entry _)
      ∙ ap₂ (λ (x y : List ℕ). x ++ (y ++ bytes_of 9 (value_of (take 9 (drop 11 s))))) (part_forth 0 2 (omega arith)) (part_forth 2 9 (omega arith))
      ∙ ap (λ (x : List ℕ). take 2 s ++ (take 9 (drop 2 s) ++ x)) (part_forth 11 9 (omega arith))
      ∙ parts

  entry_fits : Fits (entry_from s)
  unfolding entry_from entry_of
  entry_fits =
      let a = part_lt 2 9 (omega arith) in
      let b = part_lt 11 9 (omega arith) in
      record { even = mod-lt _ (pow_pos 64); odd = mod-lt _ (pow_pos 64); day = day_lt; etop = omega arith; otop = omega arith }

-- three numbers of these widths, whatever they are
three_small : (x y z : ℕ) → Bytes (bytes_of 2 x ++ (bytes_of 9 y ++ bytes_of 9 z))
three_small x y z =
    bytes_append (bytes_of 2 x) (bytes_of 9 y ++ bytes_of 9 z) (bytes_small 2 x) (bytes_append (bytes_of 9 y) (bytes_of 9 z) (bytes_small 9 y) (bytes_small 9 z))

entry_small : (t : Three) → Bytes (entry_bytes t)
unfolding entry_bytes
entry_small t = three_small _ _ _

-- ---- entries, one after the other
pub entries_long : (es : List Entry) → length (entries_bytes es) ≡ length es * 20
unfolding entries_bytes
entries_long [] = refl
entries_long (e ∷ es) = omega (arith, length-append (entry_bytes (meaning e)) (entries_bytes es), entry_long (meaning e), entries_long es)

pub entries_small : (es : List Entry) → Bytes (entries_bytes es)
unfolding entries_bytes
entries_small [] = λ k. lit< tt
entries_small (e ∷ es) = bytes_append (entry_bytes (meaning e)) (entries_bytes es) (entry_small (meaning e)) (entries_small es)

-- every one is within its fields' widths
abbrev pub AllFit : List Entry → Type 0
AllFit es = (i : ℕ) → Fits (get_or es i blank)

pub entries_back : (es : List Entry) → AllFit es → entries_from (length es) (entries_bytes es) ≡ es
unfolding entries_bytes entries_from
entries_back [] f = refl
entries_back (e ∷ es) f =
    let s = entry_bytes (meaning e) in
    ap₂ (λ (x y : List ℕ). entry_from x ∷ entries_from (length es) y) (take_at s (entries_bytes es) 20 (entry_long (meaning e))) (drop_at s (entries_bytes es) 20 (entry_long (meaning e)))
    ∙ ap₂ (λ (x : Entry) (y : List Entry). x ∷ y) (entry_back_lem e (f 0)) (entries_back es (λ i. f (suc i)))

pub entries_forth : (n : ℕ) (s : List ℕ) → Bytes s → length s ≡ n * 20 → entries_bytes (entries_from n s) ≡ s
unfolding entries_bytes entries_from
entries_forth zero [] h l = refl
entries_forth zero (b ∷ s) h l = absurd (omega arith)
entries_forth (suc n) s h l =
    ap₂ (λ (x y : List ℕ). x ++ y) (entry_forth (take 20 s) (bytes_take 20 s h) (length-take-le 20 s (omega arith)))
    (entries_forth n (drop 20 s) (bytes_drop 20 s h) (omega (arith, length-drop 20 s)))
    ∙ take-append-drop 20 s

pub entries_many : (n : ℕ) (s : List ℕ) → length (entries_from n s) ≡ n
unfolding entries_from
entries_many zero s = refl
entries_many (suc n) s = ap suc (entries_many n (drop 20 s))

pub entries_fit : (n : ℕ) (s : List ℕ) → Bytes s → length s ≡ n * 20 → AllFit (entries_from n s)
unfolding entries_from
entries_fit zero s h l i = blank_fits
entries_fit (suc n) s h l zero = entry_fits (take 20 s) (bytes_take 20 s h) (length-take-le 20 s (omega arith))
entries_fit (suc n) s h l (suc i) = entries_fit n (drop 20 s) (bytes_drop 20 s h) (omega (arith, length-drop 20 s)) i

-- ---- one entry more
pub entries_append : (es fs : List Entry) → entries_bytes (es ++ fs) ≡ entries_bytes es ++ entries_bytes fs
unfolding entries_bytes
entries_append [] fs = refl
entries_append (e ∷ es) fs =
    ap (λ (l : List ℕ). entry_bytes (meaning e) ++ l) (entries_append es fs) ∙ sym (append_assoc (entry_bytes (meaning e)) (entries_bytes es) (entries_bytes fs))

pub bytes_more : (es : List Entry) (i : ℕ) → i < length es → entries_bytes (take (suc i) es) ≡ entries_bytes (take i es) ++ entry_bytes (meaning (get_or es i blank))
unfolding entries_bytes
bytes_more es i h =
    ap entries_bytes (take-suc es i blank h) ∙ entries_append (take i es) (get_or es i blank ∷ [])
    ∙ ap (λ (l : List ℕ). entries_bytes (take i es) ++ l) (append-nil (entry_bytes (meaning (get_or es i blank))))

pub entries_more : (n : ℕ) (s : List ℕ) → entries_from (suc n) s ≡ entries_from n s ++ (entry_from (take 20 (drop (n * 20) s)) ∷ [])
unfolding entries_from
entries_more zero s = refl
entries_more (suc n) s =
    let e : 20 + n * 20 ≡ suc n * 20 = omega arith in
    ap (λ (l : List Entry). entry_from (take 20 s) ∷ l)
    (entries_more n (drop 20 s)
    ∙ ap (λ (r : List ℕ). entries_from n (drop 20 s) ++ (entry_from (take 20 r) ∷ [])) (drop-drop (n * 20) 20 s ∙ ap (λ (k : ℕ). drop k s) e))
