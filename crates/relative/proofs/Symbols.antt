-- The relative code in the code's own steps: reading eight symbols at a time, and sending bit after bit from 84 down.
-- Assumes nothing.
use mathlib.Core.Path.{◌≡◌, refl, ◌∙◌, subst, sym, ap, ap₂}
use mathlib.Core.Bool.{Bool, true, false}
use mathlib.Core.List.{List, [], ◌∷◌}
use mathlib.Core.Logic.{⊎_elim}
use Prim.Native.Nat.{ℕ, zero, suc, ◌+◌, ◌-◌, ◌*◌, ◌/◌, ◌%◌, ◌^◌, ◌≤◌, ◌<◌}
use native.Mathlib.Nat.{mod-lt, zero-lt-suc, eq-or-lt_of_le, ne_of_lt, ne_of_gt}
use native.Mathlib.Omega.{arith}
use lib.Bits.{bit_xor, xor_shr, xor_mod}
use lib.Dec.{eqb, ltb, lit<, lit≤}
use lib.ListN.{length, get_or, set}
use lib.Pow.{low, high, field, mod-mod-pow, mod-pow-add, shr-shr, pow_pos}
use lib.Seq.{ext_get_or, get_or-set_same, get_or-set_other}
use borrow.Author.Count.{below_more}
use borrow.Author.Tests.{eq-eqb, ne_eqb, lt-ltb, le-ltb}
use Rattle.strings.specs.Pick.{pick}
use Rattle.strings.specs.Number.{value_of, bytes_of, bit_of, number_from_bits, number_of, flip, bytes_of_string}
use Rattle.relative.specs.Relative.{sent, write_relative, read_bit, read_relative}
use Rattle.strings.proofs.Digits.{bit_lt, bit_xor_lem, bits_same, low_digit, from_lt, bit_from, bit_flip, flip_lt, three}
use Rattle.strings.proofs.Value.{Bytes, byte_at, length_bytes, get_d_bytes, bytes_value, value_bytes, number_lt, bit_at}
use Rattle.relative.proofs.RelativeCode.{pick_lt, read_fits, bit_read, read_below, written_lt, bit_written, sent_lt, sent_step}

-- ---- reading
-- each bit added, modulo 2, to the bit above it
abbrev pub with_above : ℕ → ℕ
with_above x = bit_xor x (x / 2)

bit_above : (x i : ℕ) → 1 ≤ i → bit_of (with_above x) i ≡ (bit_of x i + bit_of x (i + 1)) % 2
bit_above x i l =
    let e : 1 + (i - 1) ≡ i + 1 - 1 = omega arith in
    bit_xor_lem x (x / 2) i ∙ ap (λ (y : ℕ). (bit_of x i + y % 2) % 2) (shr-shr x 1 (i - 1) ∙ ap (λ (j : ℕ). x / 2 ^ j) e)

-- which is done byte by byte, with the byte above in view
above_low : (w : ℕ) → with_above (w % 2 ^ 16) % 256 ≡ with_above w % 256
above_low w =
    xor_mod (w % 2 ^ 16) (w % 2 ^ 16 / 2) 8
    ∙ ap₂ bit_xor (mod-mod-pow w 8 8) (ap (λ (x : ℕ). x % 256) (field w 15 1) ∙ mod-mod-pow (w / 2) 7 8)
    ∙ sym (xor_mod w (w / 2) 8)

above_shr : (x k : ℕ) → with_above x / 2 ^ k ≡ with_above (x / 2 ^ k)
above_shr x k =
    xor_shr x (x / 2) k
    ∙ ap (bit_xor (x / 2 ^ k)) (shr-shr x 1 k ∙ ap (λ (j : ℕ). x / 2 ^ j) (omega arith) ∙ sym (shr-shr x k 1))

-- the bytes with the first symbol once more before them
abbrev pub led : List ℕ → List ℕ
led s = get_or s 0 0 / 128 ∷ s

pub led_bytes : (s : List ℕ) → Bytes s → Bytes (led s)
led_bytes s h zero = let b = h 0 in omega arith
led_bytes s h (suc k) = h k

-- the bytes that the loop makes
abbrev pub made : List ℕ → List ℕ
made s = bytes_of (length s) (with_above (value_of (led s)))

-- two bytes beside each other are sixteen bits of the number
pair_at : (s : List ℕ) (k m : ℕ) → Bytes s → k + suc (suc m) ≡ length s → get_or s k 0 * 256 + get_or s (suc k) 0 ≡ value_of s / 2 ^ (8 * m) % 2 ^ 16
pair_at s k m h e =
    let v = value_of s in
    let up : v / 2 ^ (8 * suc m) ≡ v / 2 ^ (8 * m) / 2 ^ 8 = ap (λ (j : ℕ). v / 2 ^ j) (omega arith) ∙ sym (shr-shr v (8 * m) 8) in
    ap₂ (λ (x y : ℕ). x * 256 + y) (sym (byte_at s k (suc m) h e) ∙ ap (λ (x : ℕ). x % 256) up) (sym (byte_at s (suc k) m h (omega arith)))
    ∙ sym (mod-pow-add (v / 2 ^ (8 * m)) 8 8)

pub made_at : (s : List ℕ) (k : ℕ) → Bytes s → k < length s → with_above (get_or (led s) k 0 * 256 + get_or s k 0) % 256 ≡ get_or (made s) k 0
made_at s k h l =
    let v = value_of (led s) in
    let m = length s - 1 - k in
    ap (λ (x : ℕ). with_above x % 256) (pair_at (led s) k m (led_bytes s h) (omega arith))
    ∙ above_low (v / 2 ^ (8 * m))
    ∙ ap (λ (x : ℕ). x % 256) (sym (above_shr v (8 * m)))
    ∙ sym (get_d_bytes (length s) (with_above v) k m (omega arith))

-- the padding is cleared in the last byte
padding_below : (x n : ℕ) → x / 8 * 8 / 2 ^ (8 * suc n) ≡ x / 2 ^ (8 * suc n)
padding_below x n =
    let e : 3 + (8 * n + 5) ≡ 8 * suc n = omega arith in
    let eight : x / 8 * 8 / 8 ≡ x / 8 = omega arith in
    let down : (y : ℕ) → y / 2 ^ (8 * suc n) ≡ y / 8 / 2 ^ (8 * n + 5) = (λ y. ap (λ (j : ℕ). y / 2 ^ j) (sym e) ∙ sym (shr-shr y 3 (8 * n + 5))) in
    down (x / 8 * 8) ∙ ap (λ (y : ℕ). y / 2 ^ (8 * n + 5)) eight ∙ sym (down x)

cleared : (n x : ℕ) → set (bytes_of (suc n) x) n (get_or (bytes_of (suc n) x) n 0 / 8 * 8) ≡ bytes_of (suc n) (x / 8 * 8)
cleared zero x = ap (λ (y : ℕ). y ∷ []) (omega arith)
cleared (suc n) x = ap₂ (λ (y : ℕ) (l : List ℕ). y ∷ l) (ap (λ (y : ℕ). y % 256) (sym (padding_below x n))) (cleared n x)

cleared_string : (x : ℕ) → set (bytes_of 11 x) 10 (get_or (bytes_of 11 x) 10 0 / 8 * 8) ≡ bytes_of_string (x / 8)
unfolding bytes_of_string
cleared_string x = cleared 10 x

-- the bytes of a number have only its low bits
bytes_are : (n x : ℕ) → Bytes (bytes_of n x)
bytes_are zero x k = zero-lt-suc 255
bytes_are (suc n) x zero = mod-lt (x / 2 ^ (8 * n)) (zero-lt-suc 255)
bytes_are (suc n) x (suc k) = bytes_are n x k

bytes_low : (n x : ℕ) → bytes_of n (x % 2 ^ (8 * n)) ≡ bytes_of n x
bytes_low n x =
    ap₂ bytes_of (sym (length_bytes n x)) (sym (value_bytes n x)) ∙ bytes_value (bytes_of n x) (bytes_are n x)

string_low : (n : ℕ) → bytes_of_string (n % 2 ^ 85) ≡ bytes_of_string n
unfolding bytes_of_string
string_low n = let e : n % 2 ^ 85 * 8 ≡ n * 8 % 2 ^ 88 = omega arith in ap (bytes_of 11) e ∙ bytes_low 11 (n * 8)

twice : (b : ℕ) → (b + b % 2) % 2 ≡ 0
twice b = omega arith

-- with the first symbol once more before it, each bit of a string added to the bit above is the bit as it is read
module _ (t n : ℕ) (h : n < 2 ^ 85) where
  led_low : (i : ℕ) → 1 ≤ i → i ≤ 85 → bit_of (t * 2 ^ 85 + n) i ≡ bit_of n i
  led_low i l u =
      sym (low_digit (t * 2 ^ 85 + n) 85 (i - 1) (omega arith)) ∙ ap (λ (x : ℕ). x / 2 ^ (i - 1) % 2) (low t 85 h)

  led_bit : t ≡ bit_of n 85 → (i : ℕ) → 1 ≤ i → i ≤ 85 → bit_of (with_above (t * 2 ^ 85 + n)) i ≡ read_bit n i
  led_bit e i l u =
      bit_above (t * 2 ^ 85 + n) i l ∙ ap (λ (x : ℕ). (x + bit_of (t * 2 ^ 85 + n) (i + 1)) % 2) (led_low i l u)
      ∙ ⊎_elim
      (λ (q : i ≡ 85). subst (λ (j : ℕ). (bit_of n j + bit_of (t * 2 ^ 85 + n) (j + 1)) % 2 ≡ read_bit n j) (sym q)
      (ap (λ (x : ℕ). (bit_of n 85 + x % 2) % 2) (high t 85 h ∙ e) ∙ twice (bit_of n 85)))
      (λ (g : i < 85). ap (λ (x : ℕ). (bit_of n i + x) % 2) (led_low (i + 1) (omega arith) (omega arith)) ∙ sym (read_below n i g))
      (eq-or-lt_of_le u)

read_number : (s : List ℕ) → Bytes s → length s ≡ 11 → with_above (value_of (led s)) / 8 % 2 ^ 85 ≡ read_relative (number_of s)
unfolding number_of
read_number s h n =
    let t = get_or s 0 0 / 128 in
    let v = value_of s in
    let x = number_of s in
    let e : value_of (led s) / 8 ≡ t * 2 ^ 85 + x = ap (λ (k : ℕ). (t * 2 ^ (8 * k) + v) / 8) n ∙ omega arith in
    let first : t ≡ bit_of x 85 = (let b = h 0 in let f = bit_at s 85 h n (lit≤ tt) (lit≤ tt) in omega arith) in
    ap (λ (y : ℕ). y % 2 ^ 85) (above_shr (value_of (led s)) 3 ∙ ap with_above e)
    ∙ bits_same 85 (with_above (t * 2 ^ 85 + x) % 2 ^ 85) (read_relative x) (mod-lt (with_above (t * 2 ^ 85 + x)) (pow_pos 85)) (read_fits x)
    (λ i l u. low_digit (with_above (t * 2 ^ 85 + x)) 85 (i - 1) (omega arith) ∙ led_bit t x (number_lt s h n) first i l u ∙ sym (bit_read x i l u))

-- one byte more
pub set_more : (l m : List ℕ) (k v : ℕ) → k < length l → v ≡ get_or m k 0 → ((j : ℕ) → j < k → get_or l j 0 ≡ get_or m j 0)
    → (j : ℕ) → j < k + 1 → get_or (set l k v) j 0 ≡ get_or m j 0
set_more l m k v h e all =
    below_more (λ (j : ℕ). get_or (set l k v) j 0 ≡ get_or m j 0) k
    (λ j g. get_or-set_other l k j v 0 (ne_of_lt g) ∙ all j g)
    (get_or-set_same l k v 0 h ∙ e)

-- all bytes made, and the padding cleared: the string is read
pub all_read : (s out : List ℕ) → Bytes s → length s ≡ 11 → length out ≡ 11 → ((j : ℕ) → j < 11 → get_or out j 0 ≡ get_or (made s) j 0)
    → set out 10 (get_or out 10 0 / 8 * 8) ≡ bytes_of_string (read_relative (number_of s))
all_read s out h n m all =
    let x = with_above (value_of (led s)) in
    let e = ext_get_or 0 out (made s) (m ∙ sym n ∙ sym (length_bytes (length s) x)) (λ j l. all j (omega arith)) in
    ap (λ (l : List ℕ). set l 10 (get_or l 10 0 / 8 * 8)) (e ∙ ap (λ (k : ℕ). bytes_of k x) n) ∙ cleared_string x ∙ sym (string_low (x / 8)) ∙ ap bytes_of_string (read_number s h n)

-- ---- sending
-- the string while it is sent: what stands above bit i is sent already
unfoldable pub part_sent : ℕ → ℕ → ℕ
part_sent n i = number_from_bits (λ j. pick (ltb i j) (sent n (86 - j)) (bit_of n j)) 85

module _ (n i : ℕ) where
  part_bit_lt : (j : ℕ) → pick (ltb i j) (sent n (86 - j)) (bit_of n j) < 2
  part_bit_lt j = pick_lt (ltb i j) (sent n (86 - j)) (bit_of n j) (sent_lt n (86 - j)) (bit_lt n j)

  part_lt : part_sent n i < 2 ^ 85
  unfolding part_sent
  part_lt = from_lt (λ j. pick (ltb i j) (sent n (86 - j)) (bit_of n j)) part_bit_lt 85

  bit_part : (j : ℕ) → 1 ≤ j → j ≤ 85 → bit_of (part_sent n i) j ≡ pick (ltb i j) (sent n (86 - j)) (bit_of n j)
  unfolding part_sent
  bit_part = bit_from (λ j. pick (ltb i j) (sent n (86 - j)) (bit_of n j)) part_bit_lt 85

  bit_part_sent : (j : ℕ) → 1 ≤ j → j ≤ 85 → i < j → bit_of (part_sent n i) j ≡ sent n (86 - j)
  bit_part_sent j l u h = bit_part j l u ∙ rw (lt-ltb i j h)

  bit_part_plain : (j : ℕ) → 1 ≤ j → j ≤ 85 → j ≤ i → bit_of (part_sent n i) j ≡ bit_of n j
  bit_part_plain j l u h = bit_part j l u ∙ rw (le-ltb i j h)

-- before bit 85 stands 0, so bit 85 is its own symbol
pub sent_none : (n : ℕ) → n < 2 ^ 85 → part_sent n 84 ≡ n
sent_none n h =
    bits_same 85 (part_sent n 84) n (part_lt n 84) h
    (λ j l u. ⊎_elim
    (λ (q : j ≡ 85). subst (λ (k : ℕ). bit_of (part_sent n 84) k ≡ bit_of n k) (sym q)
    (omega (arith, bit_part_sent n 84 85 (lit≤ tt) (lit≤ tt) (lit< tt), bit_lt n 85)))
    (λ (g : j < 85). bit_part_plain n 84 j l u (omega arith))
    (eq-or-lt_of_le u))

pub sent_all : (n : ℕ) → part_sent n 0 ≡ write_relative n
sent_all n =
    bits_same 85 (part_sent n 0) (write_relative n) (part_lt n 0) (written_lt n)
    (λ j l u. bit_part_sent n 0 j l u l ∙ sym (bit_written n j l u))

pick_same : (b : Bool) (m : ℕ) → pick b m m ≡ m
pick_same true m = refl
pick_same false m = refl

-- bit i is sent: the symbol before it is added
module _ (n i : ℕ) (l : 1 ≤ i) (u : i ≤ 84) where
  sends : (y : ℕ) → y < 2 ^ 85 → ((j : ℕ) → 1 ≤ j → bit_of y j ≡ (bit_of (part_sent n i) j + pick (eqb j i) (bit_of (part_sent n i) (i + 1)) 0) % 2)
      → y ≡ part_sent n (i - 1)
  sends y h bits =
      let e : 86 - (i + 1) ≡ 85 - i = omega arith in
      let d : i ≡ 85 - (85 - i) = omega arith in
      bits_same 85 y (part_sent n (i - 1)) h (part_lt n (i - 1))
      (λ j lj uj. bits j lj ∙ ⊎_elim
      (λ (g : j < i). rw (ne_eqb j i (ne_of_lt g)) (omega (arith, bit_part_plain n i j lj uj (omega arith), bit_part_plain n (i - 1) j lj uj (omega arith), bit_lt n j)))
      (⊎_elim
      (λ (q : j ≡ i). subst (λ (k : ℕ). (bit_of (part_sent n i) k + pick (eqb k i) (bit_of (part_sent n i) (i + 1)) 0) % 2 ≡ bit_of (part_sent n (i - 1)) k) (sym q)
      (rw (eq-eqb i i refl)
      (ap₂ (λ (x y : ℕ). (x + y) % 2) (bit_part_plain n i i l (omega arith) (omega arith))
      (bit_part_sent n i (i + 1) (omega arith) (omega arith) (omega arith) ∙ ap (sent n) e)
      ∙ ap (λ (j : ℕ). (bit_of n j + sent n (85 - i)) % 2) d ∙ sym (sent_step n i l (omega arith)) ∙ sym (bit_part_sent n (i - 1) i l (omega arith) (omega arith)))))
      (λ (g : i < j). rw (ne_eqb j i (ne_of_gt g)) (omega (arith, bit_part_sent n i j lj uj g, bit_part_sent n (i - 1) j lj uj (omega arith), sent_lt n (86 - j)))))
      (three j i))

  pub sends_one : bit_of (part_sent n i) (i + 1) ≡ 1 → flip (part_sent n i) i ≡ part_sent n (i - 1)
  sends_one e =
      sends (flip (part_sent n i) i) (flip_lt 85 (part_sent n i) i (part_lt n i) l (omega arith))
      (λ j lj. rw e (bit_flip (part_sent n i) j i lj l))

  pub sends_zero : (bit_of (part_sent n i) (i + 1) ≡ 1 → ⊥) → part_sent n i ≡ part_sent n (i - 1)
  sends_zero e =
      let z : bit_of (part_sent n i) (i + 1) ≡ 0 = omega (arith, bit_lt (part_sent n i) (i + 1)) in
      sends (part_sent n i) (part_lt n i) (λ j lj. rw (z, pick_same (eqb j i) 0) (omega (arith, bit_lt (part_sent n i) j)))
