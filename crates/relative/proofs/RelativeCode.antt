-- The relative code: what the paper says of it, over numbers and over what the public calls answer and leave.
-- Assumes nothing.
use mathlib.Core.Path.{◌≡◌, refl, ◌∙◌, subst, sym, ap, ap₂}
use mathlib.Core.Bool.{Bool, true, false}
use mathlib.Core.List.{List, [], ◌∷◌}
use mathlib.Core.Logic.{⊎_elim, inl, inr}
use Prim.Native.Nat.{ℕ, zero, suc, ◌+◌, ◌-◌, ◌%◌, ◌^◌, ◌≤◌, ◌<◌}
use native.Mathlib.Nat.{mod-lt, zero-lt-suc, ne_of_lt, eq-or-lt_of_le, le_of_suc-le-suc}
use native.Mathlib.Omega.{arith}
use lib.Bits.{xor_lt}
use lib.Dec.{eqb, lit<, lit≤}
use lib.ListN.{length, get_or}
use lib.Pow.{ones_lt}
use borrow.Author.Tests.{ne_eqb}
use Rattle.strings.specs.declared.Refusal.{Refusal}
use Rattle.std.specs.Prelude.{Result, Ok, Err, ⊤}
use Rattle.strings.specs.declared.Refusal.TheVariants.{Shape, Idle, Room}
use Rattle.strings.specs.Pick.{pick}
use Rattle.strings.specs.Number.{bit_of, number_from_bits, number_of, misshapen, bytes_of_string}
use Rattle.relative.specs.declared.Polarity.{Polarity}
use Rattle.relative.specs.declared.Polarity.TheVariants.{Upright, Inverted}
use Rattle.relative.specs.Relative.{sent, write_relative, read_bit, read_relative, inverse}
use Rattle.relative.specs.Polarity.{first_symbol, polarity_of, polarity_number, turned}
use Rattle.strings.specs.Numbers.{test, first_of, place_of, said_by, Exactly}
use Rattle.strings.specs.Calls.{written_paper, is_idle}
use Rattle.relative.specs.Calls.{decoded_paper, reading_tests, writing_tests, ReadsRelative, WritesRelative, Meant, other_way}
use Rattle.strings.proofs.Digits.{bit_lt, bit_xor_lem, bits_same, from_lt, bit_from, high_bit}
use Rattle.strings.proofs.Value.{string_number_lem}
use Rattle.strings.proofs.Answer.{refuses, goes_on, takes, same_answer, refusal_same, not_taken, written_same, exactly, refused_left}
use Rattle.strings.proofs.Shape.{string_shaped, has_room_lem, no_room_lem}

-- ---- the bits of what is read and of what is written, and their bounds: bit 85 is read as 0
pub pick_lt : (b : Bool) (m n : ℕ) → m < 2 → n < 2 → pick b m n < 2
pick_lt true m n h k = h
pick_lt false m n h k = k

read_bit_lt : (x i : ℕ) → read_bit x i < 2
read_bit_lt x i = pick_lt (eqb i 85) _ _ (zero-lt-suc 1) (mod-lt _ (zero-lt-suc 1))

pub sent_lt : (n k : ℕ) → sent n k < 2
sent_lt n zero = zero-lt-suc 1
sent_lt n (suc k) = mod-lt _ (zero-lt-suc 1)

pub bit_read : (x i : ℕ) → 1 ≤ i → i ≤ 85 → bit_of (read_relative x) i ≡ read_bit x i
unfolding read_relative
bit_read x i = bit_from (read_bit x) (read_bit_lt x) 85 i

pub bit_written : (n i : ℕ) → 1 ≤ i → i ≤ 85 → bit_of (write_relative n) i ≡ sent n (86 - i)
unfolding write_relative
bit_written n i = bit_from (λ j. sent n (86 - j)) (λ j. sent_lt n (86 - j)) 85 i

-- the symbol in the place of bit i is one step of the definition past the symbol in the place before
pub sent_step : (n i : ℕ) → 1 ≤ i → i ≤ 85 → sent n (86 - i) ≡ sent n (suc (85 - i))
sent_step n i l u = let e : 86 - i ≡ suc (85 - i) = omega arith in ap (sent n) e

-- which adds the bit
pub sent_at : (n i : ℕ) → 1 ≤ i → i ≤ 85 → sent n (86 - i) ≡ (bit_of n i + sent n (85 - i)) % 2
sent_at n i l u =
    let d : 85 - (85 - i) ≡ i = omega arith in
    let f : sent n (suc (85 - i)) ≡ (bit_of n (85 - (85 - i)) + sent n (85 - i)) % 2 = refl in
    sent_step n i l u ∙ f ∙ ap (λ (j : ℕ). (bit_of n j + sent n (85 - i)) % 2) d

pub read_below : (x i : ℕ) → i < 85 → read_bit x i ≡ (bit_of x i + bit_of x (i + 1)) % 2
read_below x i h = rw (ne_eqb i 85 (ne_of_lt h))

pub written_lt : (n : ℕ) → write_relative n < 2 ^ 85
unfolding write_relative
written_lt n = from_lt (λ j. sent n (86 - j)) (λ j. sent_lt n (86 - j)) 85

-- what is read is bits, 85 of them at most
pub read_fits : (x : ℕ) → read_relative x < 2 ^ 85
unfolding read_relative
read_fits x = from_lt (read_bit x) (read_bit_lt x) 85

-- the highest bit is 0
from_lt_less : (f : ℕ → ℕ) → ((i : ℕ) → f i < 2) → (m : ℕ) → f (suc m) ≡ 0 → number_from_bits f (suc m) < 2 ^ m
from_lt_less f h m e = rw e (omega (arith, from_lt f h m))

pub read_lt : (x : ℕ) → read_relative x < 2 ^ 84
unfolding read_relative
read_lt x = from_lt_less (read_bit x) (read_bit_lt x) 84 refl

-- what the symbols x are read as
read_as : (x n : ℕ) → n < 2 ^ 84 → ((i : ℕ) → 1 ≤ i → i + 1 ≤ 85 → (bit_of x i + bit_of x (i + 1)) % 2 ≡ bit_of n i) → read_relative x ≡ n
read_as x n h bits =
    bits_same 85 (read_relative x) n (omega (arith, read_lt x)) (omega arith)
    (λ i l u. ⊎_elim
    (λ (q : i ≡ 85). subst (λ (j : ℕ). bit_of (read_relative x) j ≡ bit_of n j) (sym q)
    (bit_read x 85 (lit≤ tt) (lit≤ tt) ∙ sym (high_bit n 85 84 h (lit< tt))))
    (λ (g : i < 85). bit_read x i l u ∙ read_below x i g ∙ bits i l (omega arith))
    (eq-or-lt_of_le u))

-- ---- over numbers
-- "Each sent symbol is the data bit added modulo 2 to the symbol before .. Reading: each bit from 84 down is its symbol plus the symbol before
-- it, modulo 2; bit 85 is read as 0": what is written of a string whose bit 85 is 0 is read back as that string
pub read_written : (n : ℕ) → n < 2 ^ 84 → read_relative (write_relative n) ≡ n
read_written n h =
    read_as (write_relative n) n h
    (λ i l u. let e : 86 - (i + 1) ≡ 85 - i = omega arith in
    omega (arith, bit_written n i l (omega arith), bit_written n (i + 1) (omega arith) u, ap (sent n) e, sent_at n i l (omega arith), bit_lt n i))

-- every symbol is inverted
bit_ones : (i : ℕ) → 1 ≤ i → i ≤ 85 → bit_of (2 ^ 85 - 1) i ≡ 1
bit_ones i l u =
    let e : 2 ^ 85 - 1 ≡ number_from_bits (λ j. 1) 85 = refl in
    ap (λ (x : ℕ). bit_of x i) e ∙ bit_from (λ j. 1) (λ j. lit< tt) 85 i l u

pub bit_inverse : (x i : ℕ) → 1 ≤ i → i ≤ 85 → bit_of (inverse x) i ≡ (bit_of x i + 1) % 2
unfolding inverse
bit_inverse x i l u = bit_xor_lem x (2 ^ 85 - 1) i ∙ ap (λ (y : ℕ). (bit_of x i + y) % 2) (bit_ones i l u)

pub inverse_lt : (x : ℕ) → x < 2 ^ 85 → inverse x < 2 ^ 85
unfolding inverse
inverse_lt x h = xor_lt 85 x (2 ^ 85 - 1) h (ones_lt 85)

both_turned : (a b : ℕ) → ((a + 1) % 2 + (b + 1) % 2) % 2 ≡ (a + b) % 2
both_turned a b = omega arith

-- "So a string and the same with all 85 symbols inverted read alike"
pub inverse_alike : (x : ℕ) → x < 2 ^ 85 → read_relative (inverse x) ≡ read_relative x
inverse_alike x h =
    read_as (inverse x) (read_relative x) (read_lt x)
    (λ i l u. ap₂ (λ (a b : ℕ). (a + b) % 2) (bit_inverse x i l (omega arith)) (bit_inverse x (i + 1) (omega arith) u)
    ∙ both_turned (bit_of x i) (bit_of x (i + 1)) ∙ sym (read_below x i (omega arith)) ∙ sym (bit_read x i l (omega arith)))

-- what is read of symbols, sent again: each symbol with the first of them added
next : (a b d r t : ℕ) → r ≡ (a + b) % 2 → t ≡ (b + d) % 2 → (r + t) % 2 ≡ (a + d) % 2
next a b d r t e f = omega arith

sent_read : (x k : ℕ) → k < 85 → sent (read_relative x) (suc k) ≡ (bit_of x (85 - k) + bit_of x 85) % 2
sent_read x zero h = omega (arith, bit_read x 85 (lit≤ tt) (lit≤ tt))
sent_read x (suc k) h =
    let i = 85 - suc k in
    let e : i + 1 ≡ 85 - k = omega arith in
    next (bit_of x i) (bit_of x (85 - k)) (bit_of x 85) (bit_of (read_relative x) i) (sent (read_relative x) (suc k))
    (bit_read x i (omega arith) (omega arith) ∙ read_below x i (omega arith) ∙ ap (λ (j : ℕ). (bit_of x i + bit_of x j) % 2) e)
    (sent_read x k (omega arith))

bit_written_read : (x i : ℕ) → 1 ≤ i → i ≤ 85 → bit_of (write_relative (read_relative x)) i ≡ (bit_of x i + bit_of x 85) % 2
bit_written_read x i l u =
    let e : 86 - i ≡ suc (85 - i) = omega arith in
    let d : 85 - (85 - i) ≡ i = omega arith in
    bit_written (read_relative x) i l u ∙ ap (sent (read_relative x)) e ∙ sent_read x (85 - i) (omega arith)
    ∙ ap (λ (j : ℕ). (bit_of x j + bit_of x 85) % 2) d

-- "before bit 85 stands 0": symbols that are read and written again are the same where they began with 0, and the same inverted where with 1
pub written_upright : (x : ℕ) → x < 2 ^ 85 → bit_of x 85 ≡ 0 → write_relative (read_relative x) ≡ x
written_upright x h e =
    bits_same 85 (write_relative (read_relative x)) x (written_lt (read_relative x)) h
    (λ i l u. bit_written_read x i l u ∙ ap (λ (b : ℕ). (bit_of x i + b) % 2) e ∙ omega (arith, bit_lt x i))

pub written_inverted : (x : ℕ) → x < 2 ^ 85 → bit_of x 85 ≡ 1 → write_relative (read_relative x) ≡ inverse x
written_inverted x h e =
    bits_same 85 (write_relative (read_relative x)) (inverse x) (written_lt (read_relative x)) (inverse_lt x h)
    (λ i l u. bit_written_read x i l u ∙ ap (λ (b : ℕ). (bit_of x i + b) % 2) e ∙ sym (bit_inverse x i l u))

-- ---- the polarity: its number is the first symbol, and no second polarity has that number
polarity_by_lem : (b : ℕ) → b < 2 → polarity_number (pick (eqb b 0) Upright Inverted) ≡ b
polarity_by_lem zero h = refl
polarity_by_lem (suc zero) h = refl
polarity_by_lem (suc (suc b)) h = absurd (omega arith)

first_lt : (x : ℕ) → first_symbol x < 2
unfolding first_symbol
first_lt x = bit_lt x 85

pub polarity_told : (x : ℕ) → polarity_number (polarity_of x) ≡ first_symbol x
polarity_told x = polarity_by_lem (first_symbol x) (first_lt x)

abbrev polarity_by : ℕ → Polarity
polarity_by b = pick (eqb b 0) Upright Inverted

polarity_back : (p : Polarity) → polarity_by (polarity_number p) ≡ p
polarity_back Upright = refl
polarity_back Inverted = refl

pub polarity_same : (p q : Polarity) → polarity_number p ≡ polarity_number q → p ≡ q
polarity_same p q e = sym (polarity_back p) ∙ ap polarity_by e ∙ polarity_back q

pub decoded_same : (d e : Result Polarity Refusal) → decoded_paper d ≡ decoded_paper e → d ≡ e
decoded_same (Ok p) (Ok q) e = ap Ok (polarity_same p q (ap (λ (l : List ℕ). get_or l 1 0) e))
decoded_same (Ok p) (Err r) e = absurd (not_taken r _ (sym e))
decoded_same (Err r) (Ok p) e = absurd (not_taken r _ e)
decoded_same (Err r) (Err q) e = ap Err (refusal_same r q e)

-- ---- the answers of the calls, test by test: "Relative code, reading: 12, 2; writing: 12, 2, 4"
module _ (s out : List ℕ) where
  pub read_no_room : (length out ≡ 11 → ⊥) → ReadsRelative s out (Err Room) out
  unfolding ReadsRelative
  read_no_room h = refuses 11 (no_room_lem out h)

  pub read_no_shape : length out ≡ 11 → misshapen s ≡ true → ReadsRelative s out (Err Shape) out
  unfolding ReadsRelative
  read_no_shape h e = goes_on 12 (has_room_lem out h) (refuses 1 e)

  pub reads : length out ≡ 11 → misshapen s ≡ false → ReadsRelative s out (Ok (polarity_of (number_of s))) (bytes_of_string (read_relative (number_of s)))
  unfolding ReadsRelative
  reads h e = goes_on 12 (has_room_lem out h) (goes_on 2 e (takes (ap (λ (b : ℕ). 0 ∷ b ∷ []) (polarity_told (number_of s))) refl))

  pub write_no_room : (length out ≡ 11 → ⊥) → WritesRelative s out (Err Room) out
  unfolding WritesRelative
  write_no_room h = refuses 11 (no_room_lem out h)

  pub write_no_shape : length out ≡ 11 → misshapen s ≡ true → WritesRelative s out (Err Shape) out
  unfolding WritesRelative
  write_no_shape h e = goes_on 12 (has_room_lem out h) (refuses 1 e)

  -- past room and shape a writing goes by its last test, whatever that is: the code's two ends need no more
  abbrev last_fits : Bool
  last_fits = (get_or (writing_tests s out) 2 (test 0 false)).fits

  pub last_refuses : length out ≡ 11 → misshapen s ≡ false → last_fits ≡ true → WritesRelative s out (Err Idle) out
  unfolding WritesRelative
  last_refuses h e i = goes_on 12 (has_room_lem out h) (goes_on 2 e (refuses 3 i))

  pub last_takes : length out ≡ 11 → misshapen s ≡ false → last_fits ≡ false → WritesRelative s out (Ok tt) (bytes_of_string (write_relative (number_of s)))
  unfolding WritesRelative
  last_takes h e i = goes_on 12 (has_room_lem out h) (goes_on 2 e (goes_on 4 i (takes refl refl)))

  -- it is the test of bit 85
  pub write_idle : length out ≡ 11 → misshapen s ≡ false → is_idle (number_of s) ≡ true → WritesRelative s out (Err Idle) out
  write_idle h e i = last_refuses h e i

  pub writes : length out ≡ 11 → misshapen s ≡ false → is_idle (number_of s) ≡ false
      → WritesRelative s out (Ok tt) (bytes_of_string (write_relative (number_of s)))
  writes h e i = last_takes h e i

-- ---- no second answer fits, and each number is given exactly where its test is the first to fit
module _ (s out : List ℕ) where
  pub reads_once : (r : Result Polarity Refusal) (out' : List ℕ) (q : Result Polarity Refusal) (out'' : List ℕ) → ReadsRelative s out r out' → ReadsRelative s out q out''
      → (r ≡ q) × (out' ≡ out'')
  unfolding ReadsRelative
  reads_once r out' q out'' a b = let e = same_answer a b in (decoded_same r q e.0, e.1)

  pub writes_once : (r : Result ⊤ Refusal) (out' : List ℕ) (q : Result ⊤ Refusal) (out'' : List ℕ) → WritesRelative s out r out' → WritesRelative s out q out''
      → (r ≡ q) × (out' ≡ out'')
  unfolding WritesRelative
  writes_once r out' q out'' a b = let e = same_answer a b in (written_same r q e.0, e.1)

  pub reads_exactly : (r : Result Polarity Refusal) (out' : List ℕ) → ReadsRelative s out r out' → Exactly (reading_tests s out) (decoded_paper r)
  unfolding ReadsRelative
  reads_exactly r out' a = exactly tt a

  pub writes_exactly : (r : Result ⊤ Refusal) (out' : List ℕ) → WritesRelative s out r out' → Exactly (writing_tests s out) (written_paper r)
  unfolding WritesRelative
  writes_exactly r out' a = exactly tt a

-- "Refusals leave outputs untouched"
module _ (s out : List ℕ) (q : Refusal) (out' : List ℕ) where
  pub reads_untouched : ReadsRelative s out (Err q) out' → out' ≡ out
  unfolding ReadsRelative
  reads_untouched a = refused_left q a

  pub writes_untouched : WritesRelative s out (Err q) out' → out' ≡ out
  unfolding WritesRelative
  writes_untouched a = refused_left q a

-- ---- over the calls: what they make of the bytes of a string
reads_string : (x : ℕ) (out : List ℕ) → x < 2 ^ 85 → length out ≡ 11 → ReadsRelative (bytes_of_string x) out (Ok (polarity_of x)) (bytes_of_string (read_relative x))
reads_string x out h n =
    subst (λ (y : ℕ). ReadsRelative (bytes_of_string x) out (Ok (polarity_of y)) (bytes_of_string (read_relative y))) (string_number_lem x h)
    (reads (bytes_of_string x) out n (string_shaped x h))

writes_string : (n : ℕ) (out : List ℕ) → n < 2 ^ 84 → length out ≡ 11 → WritesRelative (bytes_of_string n) out (Ok tt) (bytes_of_string (write_relative n))
writes_string n out h l =
    let g : n < 2 ^ 85 = omega arith in
    let e = string_number_lem n g in
    let plain : bit_of (number_of (bytes_of_string n)) 85 ≡ 0 = ap (λ (y : ℕ). bit_of y 85) e ∙ high_bit n 85 84 h (lit< tt) in
    subst (λ (y : ℕ). WritesRelative (bytes_of_string n) out (Ok tt) (bytes_of_string (write_relative y))) e
    (writes (bytes_of_string n) out l (string_shaped n g) (ap (λ (b : ℕ). eqb b 1) plain))

-- WHAT THE POLARITY MEANS
not_both : ◌≡◌ {A = Result Polarity Refusal} (Ok Upright) (Ok Inverted) → ⊥
not_both e = let z : ◌≡◌ {A = ℕ} 0 1 = ap (λ (d : Result Polarity Refusal). get_or (decoded_paper d) 1 0) e in omega arith

-- no string is its own inverse
not_own_inverse : (x : ℕ) → x < 2 ^ 85 → bytes_of_string x ≡ bytes_of_string (inverse x) → ⊥
not_own_inverse x h e =
    let same : x ≡ inverse x = sym (string_number_lem x h) ∙ ap number_of e ∙ string_number_lem (inverse x) (inverse_lt x h) in
    let bits : bit_of x 85 ≡ (bit_of x 85 + 1) % 2 = ap (λ (y : ℕ). bit_of y 85) same ∙ bit_inverse x 85 (lit≤ tt) (lit≤ tt) in
    omega (arith, bit_lt x 85)

pub polarity_means : (x : ℕ) → x < 2 ^ 85 → (out back : List ℕ) → length out ≡ 11 → length back ≡ 11
    → (r : Result Polarity Refusal) (q : Result ⊤ Refusal) (out' back' : List ℕ) → ReadsRelative (bytes_of_string x) out r out' → WritesRelative out' back q back'
    → Meant x r q back'
unfolding first_symbol
polarity_means x h out back l m r q out' back' a b =
    let y = read_relative x in
    let d = reads_once (bytes_of_string x) out r out' (Ok (polarity_of x)) (bytes_of_string y) a (reads_string x out h l) in
    let e = writes_once (bytes_of_string y) back q back' (Ok tt) (bytes_of_string (write_relative y))
    (subst (λ (s : List ℕ). WritesRelative s back q back') d.1 b) (writes_string y back (read_lt x) m) in
    let told : (k : ℕ) → bit_of x 85 ≡ k → r ≡ Ok (polarity_by k) = (λ k z. d.0 ∙ ap (λ (c : ℕ). Ok (polarity_by c)) z) in
    ⊎_elim
    (λ (z : bit_of x 85 ≡ 1).
    let is = told 1 z in
    let made : back' ≡ bytes_of_string (inverse x) = e.1 ∙ ap bytes_of_string (written_inverted x h z) in
    record {
      read = inr is;
      written = e.0;
      upright = ((λ p. absurd (not_both (sym p ∙ is))), (λ p. absurd (not_own_inverse x h (sym p ∙ made))));
      inverted = ((λ p. made), (λ p. is));
    })
    (λ (g : bit_of x 85 < 1).
    let z : bit_of x 85 ≡ 0 = omega arith in
    let is = told 0 z in
    let made : back' ≡ bytes_of_string x = e.1 ∙ ap bytes_of_string (written_upright x h z) in
    record {
      read = inl is;
      written = e.0;
      upright = ((λ p. made), (λ p. is));
      inverted = ((λ p. absurd (not_both (sym is ∙ p))), (λ p. absurd (not_own_inverse x h (sym made ∙ p))));
    })
    (eq-or-lt_of_le (le_of_suc-le-suc (bit_lt x 85)))

-- a string whose bit 85 is 0, written and then read, is the same string, and it came upright
pub first_written : (n : ℕ) → n < 2 ^ 84 → first_symbol (write_relative n) ≡ 0
unfolding first_symbol
first_written n h = bit_written n 85 (lit≤ tt) (lit≤ tt) ∙ ap (λ (b : ℕ). (b + 0) % 2) (high_bit n 85 84 h (lit< tt))

pub written_then_read : (n : ℕ) → n < 2 ^ 84 → (out back : List ℕ) → length out ≡ 11 → length back ≡ 11
    → (r : Result ⊤ Refusal) (q : Result Polarity Refusal) (out' back' : List ℕ) → WritesRelative (bytes_of_string n) out r out' → ReadsRelative out' back q back'
    → (r ≡ Ok tt) × ((q ≡ Ok Upright) × (back' ≡ bytes_of_string n))
written_then_read n h out back l m r q out' back' a b =
    let w = write_relative n in
    let d = writes_once (bytes_of_string n) out r out' (Ok tt) (bytes_of_string w) a (writes_string n out h l) in
    let e = reads_once (bytes_of_string w) back q back' (Ok (polarity_of w)) (bytes_of_string (read_relative w))
    (subst (λ (s : List ℕ). ReadsRelative s back q back') d.1 b) (reads_string w back (written_lt n) m) in
    (d.0, (e.0 ∙ ap (λ (b : ℕ). Ok (polarity_by b)) (first_written n h), e.1 ∙ ap bytes_of_string (read_written n h)))

-- the inverse has the other polarity
pub first_turned : (x : ℕ) → first_symbol (inverse x) ≡ (first_symbol x + 1) % 2
unfolding first_symbol
first_turned x = bit_inverse x 85 (lit≤ tt) (lit≤ tt)

turned_number : (p : Polarity) → polarity_number (turned p) ≡ (polarity_number p + 1) % 2
turned_number Upright = refl
turned_number Inverted = refl

pub polarity_turned : (x : ℕ) → polarity_of (inverse x) ≡ turned (polarity_of x)
polarity_turned x =
    polarity_same (polarity_of (inverse x)) (turned (polarity_of x))
    (polarity_told (inverse x) ∙ first_turned x ∙ ap (λ (b : ℕ). (b + 1) % 2) (sym (polarity_told x)) ∙ sym (turned_number (polarity_of x)))

-- A STRING AND ITS INVERSE ARE ANSWERED ALIKE BUT FOR THE POLARITY, and leave the same bytes
turned_said : (r : Result Polarity Refusal) (b k : ℕ) (place : List ℕ) → decoded_paper r ≡ said_by k place (b ∷ [])
    → decoded_paper (other_way r) ≡ said_by k place ((b + 1) % 2 ∷ [])
turned_said (Ok p) b zero place e =
    let n : polarity_number p ≡ b = ap (λ (l : List ℕ). get_or l 1 0) e in
    ap (λ (c : ℕ). 0 ∷ c ∷ []) (turned_number p ∙ ap (λ (c : ℕ). (c + 1) % 2) n)
turned_said (Err q) b zero place e = absurd (not_taken q _ e)
turned_said (Ok p) b (suc k) place e = let z : ◌≡◌ {A = ℕ} 0 (suc k) = ap (λ (l : List ℕ). get_or l 0 0) e in absurd (omega arith)
turned_said (Err q) b (suc k) place e = e

-- a reading goes by the shape, by what is read and by the first symbol
reads_turned : (s t out : List ℕ) (r : Result Polarity Refusal) (out' : List ℕ) → misshapen s ≡ misshapen t → read_relative (number_of s) ≡ read_relative (number_of t)
    → first_symbol (number_of t) ≡ (first_symbol (number_of s) + 1) % 2 → ReadsRelative s out r out' → ReadsRelative t out (other_way r) out'
unfolding ReadsRelative
reads_turned s t out r out' e f g a =
    record {
      answer = rw (← e, g) (turned_said r (first_symbol (number_of s)) (first_of (reading_tests s out)) (place_of (reading_tests s out)) a.answer);
      output = rw (← e, ← f) a.output;
    }

pub inverse_reads_alike : (x : ℕ) → x < 2 ^ 85 → (out : List ℕ) (r q : Result Polarity Refusal) (out' out'' : List ℕ)
    → ReadsRelative (bytes_of_string x) out r out' → ReadsRelative (bytes_of_string (inverse x)) out q out'' → (q ≡ other_way r) × (out'' ≡ out')
inverse_reads_alike x h out r q out' out'' a b =
    let y = inverse x in
    let g = inverse_lt x h in
    reads_once (bytes_of_string y) out q out'' (other_way r) out' b
    (reads_turned (bytes_of_string x) (bytes_of_string y) out r out' (string_shaped x h ∙ sym (string_shaped y g))
    (ap read_relative (string_number_lem x h) ∙ sym (inverse_alike x h) ∙ ap read_relative (sym (string_number_lem y g)))
    (ap first_symbol (string_number_lem y g) ∙ first_turned x ∙ ap (λ (z : ℕ). (first_symbol z + 1) % 2) (sym (string_number_lem x h))) a)
