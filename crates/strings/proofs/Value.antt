-- A list of bytes and the number that it writes; the bits of a string where they lie in its bytes.
-- Assumes nothing.
use mathlib.Core.Path.{◌≡◌, refl, ◌∙◌, subst, sym, ap, ap₂}
use mathlib.Core.List.{List, [], ◌∷◌, ◌++◌, append-nil}
use Prim.Native.Nat.{ℕ, zero, suc, ◌+◌, ◌-◌, ◌*◌, ◌/◌, ◌%◌, ◌^◌, ◌≤◌, ◌<◌}
use native.Mathlib.Nat.{add_comm, add-mul-div_right, mod-eq_of_lt, mod-lt, mod-one, mul_assoc, mul-mod_left, mul-add-mod_self_right, add-zero, zero-lt-suc, one-mul, lt_of_lt_of_le}
use native.Mathlib.Omega.{arith}
use lib.Arith.{digits_lt}
use lib.Bits.{bit_xor, xor_block, xor_zero_r, xor_shr, xor_mod}
use lib.Dec.{lit<}
use lib.ListN.{length, get_or, set, take, drop, length-set, drop_of_length-le}
use lib.Pow.{pow_pos, pow-lt, pow_mono, pow-add, shl_lt, shl-shr, shl_exact, shr-shr, high, mod-pow-add}
use lib.Seq.{ext_get_or, take-length}
use Rattle.strings.specs.Number.{value_of, bytes_of, bit_of, number_of, padding_of, flip, bytes_of_string}
pub use Rattle.strings.specs.Number.{Bytes}
use Rattle.strings.proofs.Digits.{low_digit}

-- ---- the number of a list
one_more_lem : (n : ℕ) → 2 ^ (8 * suc n) ≡ 256 * 2 ^ (8 * n)
one_more_lem n = ap (λ (k : ℕ). 2 ^ k) (omega arith) ∙ pow-add 2 8 (8 * n)

pub value_lt : (s : List ℕ) → Bytes s → value_of s < 2 ^ (8 * length s)
value_lt [] h = zero-lt-suc 0
value_lt (b ∷ bs) h = subst (λ (x : ℕ). value_of (b ∷ bs) < x) (sym (one_more_lem (length bs))) (digits_lt (h 0) (value_lt bs (λ k. h (suc k))))

shift_in : (a v k : ℕ) → (a * 2 ^ k + v) / 2 ^ k ≡ a + v / 2 ^ k
shift_in a v k = ap (λ (x : ℕ). x / 2 ^ k) (add_comm (a * 2 ^ k) v) ∙ add-mul-div_right v a (pow_pos k) ∙ add_comm (v / 2 ^ k) a

-- the byte at k has m bytes below it
pub byte_at : (s : List ℕ) (k m : ℕ) → Bytes s → k + suc m ≡ length s → value_of s / 2 ^ (8 * m) % 256 ≡ get_or s k 0
byte_at [] k m h e = absurd (omega arith)
byte_at (b ∷ bs) zero m h e =
    let q : m ≡ length bs = omega arith in
    ap (λ (x : ℕ). value_of (b ∷ bs) / 2 ^ (8 * x) % 256) q
    ∙ ap (λ (x : ℕ). x % 256) (high b (8 * length bs) (value_lt bs (λ k. h (suc k))))
    ∙ mod-eq_of_lt (h 0)
byte_at (b ∷ bs) (suc k) m h e =
    let v = value_of bs in
    let d : 8 * length bs ≡ (8 * k + 8) + 8 * m = omega arith in
    ap (λ (x : ℕ). (b * 2 ^ x + v) / 2 ^ (8 * m) % 256) d
    ∙ ap (λ (x : ℕ). (b * x + v) / 2 ^ (8 * m) % 256) (pow-add 2 (8 * k + 8) (8 * m))
    ∙ ap (λ (x : ℕ). (x + v) / 2 ^ (8 * m) % 256) (sym (mul_assoc b (2 ^ (8 * k + 8)) (2 ^ (8 * m))))
    ∙ ap (λ (x : ℕ). x % 256) (shift_in (b * 2 ^ (8 * k + 8)) v (8 * m))
    ∙ ap (λ (x : ℕ). (b * x + v / 2 ^ (8 * m)) % 256) (pow-add 2 (8 * k) 8)
    ∙ ap (λ (x : ℕ). (x + v / 2 ^ (8 * m)) % 256) (sym (mul_assoc b (2 ^ (8 * k)) 256))
    ∙ mul-add-mod_self_right (b * 2 ^ (8 * k)) 256 (v / 2 ^ (8 * m))
    ∙ byte_at bs k m (λ k. h (suc k)) (omega arith)

-- ---- the bytes of a number
pub length_bytes : (n x : ℕ) → length (bytes_of n x) ≡ n
length_bytes zero x = refl
length_bytes (suc n) x = ap suc (length_bytes n x)

pub get_d_bytes : (n x k m : ℕ) → k + suc m ≡ n → get_or (bytes_of n x) k 0 ≡ x / 2 ^ (8 * m) % 256
get_d_bytes zero x k m e = absurd (omega arith)
get_d_bytes (suc n) x zero m e = ap (λ (j : ℕ). x / 2 ^ (8 * j) % 256) (omega arith)
get_d_bytes (suc n) x (suc k) m e = get_d_bytes n x k m (omega arith)

-- the bytes of the number that a list of bytes writes are the list
pub bytes_value : (s : List ℕ) → Bytes s → bytes_of (length s) (value_of s) ≡ s
bytes_value s h =
    let n = length s in
    ext_get_or 0 (bytes_of n (value_of s)) s (length_bytes n (value_of s))
    (λ k l. let e : k + suc (n - 1 - k) ≡ n = omega (arith, length_bytes n (value_of s)) in
    get_d_bytes n (value_of s) k (n - 1 - k) e ∙ byte_at s k (n - 1 - k) h e)

-- the bytes of a number write it
pub value_bytes : (n x : ℕ) → value_of (bytes_of n x) ≡ x % 2 ^ (8 * n)
value_bytes zero x = sym (mod-one x)
value_bytes (suc n) x =
    ap₂ (λ (k y : ℕ). x / 2 ^ (8 * n) % 256 * 2 ^ (8 * k) + y) (length_bytes n x) (value_bytes n x)
    ∙ sym (ap (λ (k : ℕ). x % 2 ^ k) (omega arith) ∙ mod-pow-add x 8 (8 * n))

-- ---- a string and its bytes
pub number_lt : (s : List ℕ) → Bytes s → length s ≡ 11 → number_of s < 2 ^ 85
unfolding number_of
number_lt s h n = let v = subst (λ (k : ℕ). value_of s < 2 ^ (8 * k)) n (value_lt s h) in omega arith

pub bytes_of_string_lem : (s : List ℕ) → Bytes s → length s ≡ 11 → padding_of s ≡ 0 → bytes_of_string (number_of s) ≡ s
unfolding bytes_of_string number_of padding_of
bytes_of_string_lem s h n p =
    let e : value_of s / 8 * 8 ≡ value_of s = omega arith in
    ap (bytes_of 11) e ∙ ap (λ (k : ℕ). bytes_of k (value_of s)) (sym n) ∙ bytes_value s h

pub string_is : (s : List ℕ) (m : ℕ) → Bytes s → length s ≡ 11 → padding_of s ≡ 0 → number_of s ≡ m → s ≡ bytes_of_string m
string_is s m h n p e = sym (bytes_of_string_lem s h n p) ∙ ap bytes_of_string e

pub string_length : (n : ℕ) → length (bytes_of_string n) ≡ 11
unfolding bytes_of_string
string_length n = length_bytes 11 (n * 8)

string_value : (n : ℕ) → n < 2 ^ 85 → value_of (bytes_of_string n) ≡ n * 8
unfolding bytes_of_string
string_value n h = value_bytes 11 (n * 8) ∙ mod-eq_of_lt (omega arith)

pub string_number_lem : (n : ℕ) → n < 2 ^ 85 → number_of (bytes_of_string n) ≡ n
unfolding number_of
string_number_lem n h = ap (λ (x : ℕ). x / 8) (string_value n h) ∙ omega arith

pub string_padding : (n : ℕ) → n < 2 ^ 85 → padding_of (bytes_of_string n) ≡ 0
unfolding padding_of
string_padding n h = ap (λ (x : ℕ). x % 8) (string_value n h) ∙ omega arith

-- the padding is the three low bits of the last byte
pub padding_at : (s : List ℕ) → Bytes s → length s ≡ 11 → padding_of s ≡ get_or s 10 0 % 8
unfolding padding_of
padding_at s h n = sym (ap (λ (x : ℕ). x % 8) (sym (byte_at s 10 0 h (sym n))) ∙ omega arith)

-- ---- where bit i stands: in the byte at (85 - i) / 8, at the weight 2 ^ ((i + 2) % 8)
pub bit_at : (s : List ℕ) (i : ℕ) → Bytes s → length s ≡ 11 → 1 ≤ i → i ≤ 85
    → bit_of (number_of s) i ≡ get_or s ((85 - i) / 8) 0 / 2 ^ ((i + 2) % 8) % 2
unfolding number_of
bit_at s i h n l u =
    let v = value_of s in
    let m = (i + 2) / 8 in
    let r = (i + 2) % 8 in
    let e : 3 + (i - 1) ≡ 8 * m + r = omega arith in
    ap (λ (x : ℕ). x % 2) (shr-shr v 3 (i - 1))
    ∙ ap (λ (x : ℕ). v / 2 ^ x % 2) e
    ∙ ap (λ (x : ℕ). x % 2) (sym (shr-shr v (8 * m) r))
    ∙ sym (low_digit (v / 2 ^ (8 * m)) 8 r (mod-lt (i + 2) (zero-lt-suc 7)))
    ∙ ap (λ (x : ℕ). x / 2 ^ r % 2) (byte_at s ((85 - i) / 8) m h (omega arith))

-- ---- a byte with the digits of x turned turns those digits in the number
byte_lt : (k m x : ℕ) → x < 256 → x * 2 ^ (8 * m) < 2 ^ (8 * (k + suc m))
byte_lt k m x l = lt_of_lt_of_le (shl_lt {a = x} 8 (8 * m) l) (pow_mono {i = 8 + 8 * m} {j = 8 * (k + suc m)} (omega arith))

pub value_set : (s : List ℕ) (k m x : ℕ) → Bytes s → k + suc m ≡ length s → x < 256
    → value_of (set s k (bit_xor (get_or s k 0) x)) ≡ bit_xor (value_of s) (x * 2 ^ (8 * m))
value_set [] k m x h e l = absurd (omega arith)
value_set (b ∷ bs) zero m x h e l =
    let q : m ≡ length bs = omega arith in
    let n = 8 * length bs in
    let v = value_of bs in
    ap (λ (y : ℕ). bit_xor b x * 2 ^ n + y) (sym (xor_zero_r v))
    ∙ sym (xor_block n b x v 0 (value_lt bs (λ k. h (suc k))) (pow_pos n))
    ∙ ap (bit_xor (value_of (b ∷ bs))) (add-zero (x * 2 ^ n) ∙ ap (λ (y : ℕ). x * 2 ^ (8 * y)) (sym q))
value_set (b ∷ bs) (suc k) m x h e l =
    let q : k + suc m ≡ length bs = omega arith in
    let n = 8 * length bs in
    let v = value_of bs in
    let y = x * 2 ^ (8 * m) in
    ap₂ (λ (j w : ℕ). b * 2 ^ (8 * j) + w) (length-set bs k (bit_xor (get_or bs k 0) x)) (value_set bs k m x (λ k. h (suc k)) q l)
    ∙ ap (λ (z : ℕ). z * 2 ^ n + bit_xor v y) (sym (xor_zero_r b))
    ∙ sym (xor_block n b 0 v y (value_lt bs (λ k. h (suc k))) (subst (λ (j : ℕ). y < 2 ^ (8 * j)) q (byte_lt k m x l)))
    ∙ ap (bit_xor (value_of (b ∷ bs))) (omega arith)

-- the string with bit i turned where it stands
abbrev pub turned : List ℕ → ℕ → List ℕ
turned s i = set s ((85 - i) / 8) (bit_xor (get_or s ((85 - i) / 8) 0) (2 ^ ((i + 2) % 8)))

turned_value : (s : List ℕ) (i : ℕ) → Bytes s → length s ≡ 11 → 1 ≤ i → i ≤ 85 → value_of (turned s i) ≡ bit_xor (value_of s) (2 ^ (i - 1) * 8)
turned_value s i h n l u =
    let m = (i + 2) / 8 in
    let r = (i + 2) % 8 in
    let e : r + 8 * m ≡ (i - 1) + 3 = omega arith in
    value_set s ((85 - i) / 8) m (2 ^ r) h (omega arith) (pow-lt (mod-lt (i + 2) (zero-lt-suc 7)))
    ∙ ap (bit_xor (value_of s)) (sym (pow-add 2 r (8 * m)) ∙ ap (λ (x : ℕ). 2 ^ x) e ∙ pow-add 2 (i - 1) 3)

pub turned_number : (s : List ℕ) (i : ℕ) → Bytes s → length s ≡ 11 → 1 ≤ i → i ≤ 85 → number_of (turned s i) ≡ flip (number_of s) i
unfolding number_of flip
turned_number s i h n l u =
    ap (λ (x : ℕ). x / 8) (turned_value s i h n l u) ∙ xor_shr (value_of s) (2 ^ (i - 1) * 8) 3
    ∙ ap (bit_xor (value_of s / 8)) (shl-shr (2 ^ (i - 1)) 3)

pub turned_padding : (s : List ℕ) (i : ℕ) → Bytes s → length s ≡ 11 → 1 ≤ i → i ≤ 85 → padding_of (turned s i) ≡ padding_of s
unfolding padding_of
turned_padding s i h n l u =
    ap (λ (x : ℕ). x % 8) (turned_value s i h n l u) ∙ xor_mod (value_of s) (2 ^ (i - 1) * 8) 3
    ∙ ap (bit_xor (value_of s % 8)) (mul-mod_left (2 ^ (i - 1)) 8) ∙ xor_zero_r (value_of s % 8)

-- the bytes of a string after `flip_bit`, by what that ensures: s went in and l came out
pub flipped : {s l : List ℕ} (m i : ℕ) → m < 2 ^ 85 → s ≡ bytes_of_string m → Bytes l → length l ≡ length s
    → (number_of l ≡ flip (number_of s) i) × (padding_of l ≡ padding_of s) → l ≡ bytes_of_string (flip m i)
flipped {s} {l} m i h e b n f =
    string_is l (flip m i) b (n ∙ ap length e ∙ string_length m) (f.1 ∙ ap padding_of e ∙ string_padding m h)
    (f.0 ∙ ap (λ (s : List ℕ). flip (number_of s) i) e ∙ ap (λ (x : ℕ). flip x i) (string_number_lem m h))

-- the machine's shift of 1 in a byte loses nothing
pub shl8 : (r : ℕ) → r < 8 → 1 * 2 ^ r % 256 ≡ 2 ^ r
shl8 r h = shl_exact {a = 1} 1 r 8 (lit< tt) (omega arith) ∙ one-mul (2 ^ r)

-- a whole copy is the source
pub copied : (s out l : List ℕ) → length out ≡ length s → l ≡ take (length s) s ++ drop (length s) out → l ≡ s
copied s out l h e =
    let le : length out ≤ length s = omega arith in
    e ∙ ap₂ (λ (x y : List ℕ). x ++ y) (take-length s) (drop_of_length-le out le) ∙ append-nil s
