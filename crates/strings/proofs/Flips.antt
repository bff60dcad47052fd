-- What the check says of an encoded string as it is and with one or two bits flipped, and what a repair leaves: over the numbers of strings.
-- Assumes nothing.
use mathlib.Core.Path.{◌≡◌, refl, ◌∙◌, subst, sym, ap, ap₂}
use mathlib.Core.Bool.{Bool, true, false, ◌&&◌, true≢false}
use Prim.Native.Nat.{ℕ, zero, suc, ◌+◌, ◌-◌, ◌%◌, ◌^◌, ◌≤◌}
use native.Mathlib.Nat.{not-suc-le-zero}
use native.Mathlib.Omega.{arith}
use borrow.Author.Tests.{ne_eqb}
use lib.Bits.{bit_xor, xor_self, xor_zero_l}
use lib.Dec.{T, eqb, eqb→eq}
use Rattle.strings.specs.declared.Verdict.{Verdict}
use Rattle.strings.specs.declared.hamming.Damage.{Damage}
use Rattle.std.specs.Prelude.{Result, Ok, Err}
use Rattle.strings.specs.declared.Verdict.TheVariants.{Clean, Repaired}
use Rattle.strings.specs.declared.hamming.Damage.TheVariants.{Unplaced, Even}
use Rattle.strings.specs.Pick.{pick}
use Rattle.strings.specs.Number.{flip}
use Rattle.strings.specs.Hamming.{position, syndrome, sum_all, sums_set, highest, placed, judge, ruling, is_damaged, mended, Encoded}
use Rattle.strings.proofs.Below.{and_left, and_right, below, below_at}
use Rattle.strings.proofs.Digits.{xor_same}
use Rattle.strings.proofs.Sums.{syndrome_linear, syndrome_lt, sum_all_lt, position_lt, one_syndrome, flip_all}
use Rattle.strings.proofs.Judge.{names_bit, mended_by_lem}

-- ---- rulings compared by a test
abbrev is_clean : Result Verdict Damage → Bool
is_clean (Ok Clean) = true
is_clean (Ok (Repaired i)) = false
is_clean (Err d) = false

abbrev repairs : ℕ → Result Verdict Damage → Bool
repairs i (Ok Clean) = false
repairs i (Ok (Repaired j)) = eqb j i
repairs i (Err d) = false

clean_is : (r : Result Verdict Damage) → T (is_clean r) → r ≡ Ok Clean
clean_is (Ok Clean) t = refl
clean_is (Ok (Repaired i)) t = absurd t
clean_is (Err d) t = absurd t

repairs_is : (i : ℕ) (r : Result Verdict Damage) → T (repairs i r) → r ≡ Ok (Repaired i)
repairs_is i (Ok Clean) t = absurd t
repairs_is i (Ok (Repaired j)) t = ap (λ (k : ℕ). Ok (Repaired k)) (eqb→eq j i t)
repairs_is i (Err d) t = absurd t

-- ---- one bit: its position with C at 1 names the bit, but for bit 8
abbrev named : ℕ → Result Verdict Damage → Bool
named i r = pick (eqb i 8) (is_damaged r) (repairs i r)

one_test : ℕ → Bool
one_test j = named (suc j) (judge (position (suc j)) 1)

ones : T (below 85 one_test)
unfolding one_test position judge placed highest sums_set
ones = tt

one_bit : (i : ℕ) → 1 ≤ i → i ≤ 85 → T (named i (judge (position i) 1))
unfolding one_test
one_bit zero l u = absurd (not-suc-le-zero l)
one_bit (suc j) l u = below_at 85 one_test ones j u

-- a flip combines the bit's position into S
flip_syndrome : (n i : ℕ) → 1 ≤ i → i ≤ 85 → syndrome (flip n i) ≡ bit_xor (syndrome n) (position i)
unfolding flip
flip_syndrome n i l u = syndrome_linear n (2 ^ (i - 1)) ∙ ap (bit_xor (syndrome n)) (one_syndrome i l u)

-- ---- an encoded string
pub encoded_ruling : (n : ℕ) → Encoded n → ruling n ≡ Ok Clean
unfolding ruling judge
encoded_ruling n v = rw (v.sums, v.all)

-- ---- with one bit flipped
flip_ruling : (n i : ℕ) → Encoded n → 1 ≤ i → i ≤ 85 → ruling (flip n i) ≡ judge (position i) 1
unfolding ruling
flip_ruling n i v l u =
    ap₂ judge (flip_syndrome n i l u ∙ ap (λ (x : ℕ). bit_xor x (position i)) v.sums ∙ xor_zero_l (position i))
    (flip_all n i l u ∙ ap (λ (x : ℕ). (x + 1) % 2) v.all)

pub one_flip_ruling : (n i : ℕ) → Encoded n → 1 ≤ i → i ≤ 85 → (i ≡ 8 → ⊥) → ruling (flip n i) ≡ Ok (Repaired i)
one_flip_ruling n i v l u ne =
    flip_ruling n i v l u
    ∙ repairs_is i (judge (position i) 1)
    (subst (λ (b : Bool). T (pick b (is_damaged (judge (position i) 1)) (repairs i (judge (position i) 1)))) (ne_eqb i 8 ne) (one_bit i l u))

-- bit 8 has position 0: S stays 0, and C is 1
pub bit_8_ruling : (n : ℕ) → Encoded n → ruling (flip n 8) ≡ Err Unplaced
unfolding position judge sums_set
bit_8_ruling n v = flip_ruling n 8 v (omega arith) (omega arith)

-- ---- with two bits flipped: two positions combined are not 0, and name no bit while C is 0
-- the bit that a ruling on one bit names
abbrev bit_named : Result Verdict Damage → ℕ
bit_named (Ok Clean) = 0
bit_named (Ok (Repaired i)) = i
bit_named (Err d) = 8

named_is : (i : ℕ) (r : Result Verdict Damage) (b : Bool) → eqb i 8 ≡ b → T (pick b (is_damaged r) (repairs i r)) → i ≡ bit_named r
named_is i (Ok Clean) true e t = absurd t
named_is i (Ok Clean) false e t = absurd t
named_is i (Ok (Repaired j)) true e t = absurd t
named_is i (Ok (Repaired j)) false e t = sym (eqb→eq j i t)
named_is i (Err d) true e t = eqb→eq i 8 (subst T (sym e) tt)
named_is i (Err d) false e t = absurd t

-- so no two bits have one position
bit_of_position : (i : ℕ) → 1 ≤ i → i ≤ 85 → i ≡ bit_named (judge (position i) 1)
bit_of_position i l u = named_is i (judge (position i) 1) (eqb i 8) refl (one_bit i l u)

position_once : (i j : ℕ) → 1 ≤ i → i ≤ 85 → 1 ≤ j → j ≤ 85 → position i ≡ position j → i ≡ j
position_once i j l u l' u' e = bit_of_position i l u ∙ ap (λ (p : ℕ). bit_named (judge p 1)) e ∙ sym (bit_of_position j l' u')

even_damaged : (s : ℕ) → (s ≡ 0 → ⊥) → judge s 0 ≡ Err Even
unfolding judge
even_damaged s h = rw (ne_eqb s 0 h)

two_positions : (i j : ℕ) → 1 ≤ i → i ≤ 85 → 1 ≤ j → j ≤ 85 → (i ≡ j → ⊥) → judge (bit_xor (position i) (position j)) 0 ≡ Err Even
two_positions i j l u l' u' ne =
    even_damaged (bit_xor (position i) (position j))
    (λ z. ne (position_once i j l u l' u' (xor_same 7 (position i) (position j) (position_lt i l u) (position_lt j l' u') z)))

pub two_flips_ruling : (n i j : ℕ) → Encoded n → 1 ≤ i → i ≤ 85 → 1 ≤ j → j ≤ 85 → (i ≡ j → ⊥) → ruling (flip (flip n i) j) ≡ Err Even
unfolding ruling
two_flips_ruling n i j v l u l' u' ne =
    ap₂ judge
    (flip_syndrome (flip n i) j l' u' ∙ ap (λ (x : ℕ). bit_xor x (position j)) (flip_syndrome n i l u ∙ ap (λ (x : ℕ). bit_xor x (position i)) v.sums ∙ xor_zero_l (position i)))
    (flip_all (flip n i) j l' u' ∙ ap (λ (x : ℕ). (x + 1) % 2) (flip_all n i l u ∙ ap (λ (x : ℕ). (x + 1) % 2) v.all))
    ∙ two_positions i j l u l' u' ne

-- ---- what the check leaves is encoded: clean says that every sum is 0, and a repair names the bit whose position is S while C is 1
abbrev fair : ℕ → ℕ → Result Verdict Damage → Bool
fair s c (Ok Clean) = eqb s 0 && eqb c 0
fair s c (Ok (Repaired i)) = eqb s (position i) && eqb c 1
fair s c (Err d) = true

fairs : T (below 2 (λ c. below 128 (λ s. fair s c (judge s c))))
unfolding position judge placed highest sums_set
fairs = tt

is_fair : (n : ℕ) → T (fair (syndrome n) (sum_all n) (ruling n))
unfolding ruling
is_fair n =
    below_at 128 (λ s. fair s (sum_all n) (judge s (sum_all n)))
    (below_at 2 (λ c. below 128 (λ s. fair s c (judge s c))) fairs (sum_all n) (sum_all_lt n)) (syndrome n) (syndrome_lt n)

clean_encoded : (n : ℕ) → ruling n ≡ Ok Clean → Encoded n
clean_encoded n e =
    let t = subst (λ (r : Result Verdict Damage). T (fair (syndrome n) (sum_all n) r)) e (is_fair n) in
    record {
      sums = eqb→eq _ _ (and_left (eqb (syndrome n) 0) (eqb (sum_all n) 0) t);
      all = eqb→eq _ _ (and_right (eqb (syndrome n) 0) (eqb (sum_all n) 0) t);
    }

repaired_encoded : (n i : ℕ) → ruling n ≡ Ok (Repaired i) → Encoded (flip n i)
repaired_encoded n i e =
    let t = subst (λ (r : Result Verdict Damage). T (fair (syndrome n) (sum_all n) r)) e (is_fair n) in
    let a = eqb (syndrome n) (position i) in
    let b = eqb (sum_all n) 1 in
    let l = names_bit n (Repaired i) e in
    record {
      sums = flip_syndrome n i l.0 l.1 ∙ ap (λ (x : ℕ). bit_xor x (position i)) (eqb→eq (syndrome n) (position i) (and_left a b t)) ∙ xor_self (position i);
      all = flip_all n i l.0 l.1 ∙ ap (λ (x : ℕ). (x + 1) % 2) (eqb→eq (sum_all n) 1 (and_right a b t));
    }

left_encoded_by : (n : ℕ) (v : Verdict) → ruling n ≡ Ok v → Encoded (mended n)
left_encoded_by n Clean e = subst Encoded (sym (mended_by_lem n Clean e)) (clean_encoded n e)
left_encoded_by n (Repaired i) e = subst Encoded (sym (mended_by_lem n (Repaired i) e)) (repaired_encoded n i e)

sound : (n : ℕ) (r : Result Verdict Damage) → ruling n ≡ r → is_damaged r ≡ false → Encoded (mended n)
sound n (Ok v) e f = left_encoded_by n v e
sound n (Err d) e f = absurd (true≢false f)

pub left_encoded : (n : ℕ) → is_damaged (ruling n) ≡ false → Encoded (mended n)
left_encoded n f = sound n (ruling n) refl f
