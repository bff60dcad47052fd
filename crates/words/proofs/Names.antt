-- The record that is read of a string, and the string that is written of a record, by name in the paper's bit numbers (specs/Names.antt).
-- Assumes nothing.
use mathlib.Core.Path.{◌≡◌, refl, sym, ap, ◌∙◌, subst}
use mathlib.Core.Bool.{Bool, true, false}
use mathlib.Core.List.{List, ◌++◌}
use Prim.Native.Nat.{ℕ, zero, suc, ◌+◌, ◌-◌, ◌*◌, ◌^◌, ◌≤◌, ◌<◌}
use native.Mathlib.Omega.{arith}
use borrow.Author.Tests.{eqb-true, eqb-false, lt-ltb, le-ltb, le-leb, lt-leb}
use lib.Dec.{eqb, lit≤}
use lib.IntN.{pos, neg_ℤ, sub_ℕ, ◌+ℤ◌}
use lib.ListN.{length, take, drop}
use lib.Seq.{take_all, take_at, drop_at, drop-drop}
use Rattle.strings.specs.Pick.{pick}
use Rattle.std.specs.Prelude.{Ok}
use Rattle.strings.specs.Number.{number_of, bit_of, word_of}
use Rattle.strings.specs.Hamming.{mended}
use Rattle.strings.proofs.Digits.{bit_lt}
use Rattle.strings.proofs.WordOf.{word_lt, word_split}
use Rattle.records.specs.declared.kinds.Kind.{Kind}
use Rattle.records.specs.declared.kinds.Kind.TheVariants.{One, Two, Three, Four, Five, Even, Odd, Fourteen}
use Rattle.records.specs.declared.named.Record.{Record}
use Rattle.records.specs.Records.{string1_of, string2_of, string3_of, string4_of, kind_of, list_of, record_of}
use Rattle.records.proofs.RecordLists.{record_list}
use Rattle.layout.specs.Layout.{layout}
use Rattle.words.specs.Signed.{signed_at}
use Rattle.words.specs.Values.{carrier_of, values_of}
use Rattle.words.specs.Immediate.{string_at, immediate_of}
use Rattle.words.specs.Calls.{Reads, Writes}
use Rattle.words.specs.Names.{signed_in, OneIn, TwoIn, ThreeIn, FourIn, Named, ImmediateIn}
use Rattle.words.proofs.RoundTrips.{is_read, written_values}

-- ---- sign and magnitude, by the bits: b is the sign, m the magnitude
sign_by : (half b m raw : ℕ) → b < 2 → m < half → raw ≡ b * half + m → signed_at half raw ≡ pick (eqb b 1) (neg_ℤ (pos m)) (pos m)
sign_by half b m raw h l e = by (eqb b 1) refl
  where
    by : (t : Bool) → eqb b 1 ≡ t → signed_at half raw ≡ pick t (neg_ℤ (pos m)) (pos m)
    by true q =
        let f : raw ≡ half + m = e ∙ ap (λ (x : ℕ). x * half + m) (eqb-true b 1 q) ∙ omega arith in
        let d : raw - half ≡ m = omega arith in
        rw (le-ltb raw half (omega arith), d)
    by false q =
        let z : b ≡ 0 = omega (arith, eqb-false b 1 q) in
        let f : raw ≡ m = e ∙ ap (λ (x : ℕ). x * half + m) z ∙ omega arith in
        rw (lt-ltb raw half (omega arith), f)

pub signed_in_lem : (n t l : ℕ) → 1 ≤ l → l ≤ t → signed_at (2 ^ (t - l)) (word_of n t l) ≡ signed_in n t l
signed_in_lem n t l h u =
    let d : t - 1 + 1 - l ≡ t - l = omega arith in
    let m : word_of n (t - 1) l < 2 ^ (t - l) = subst (λ (i : ℕ). word_of n (t - 1) l < 2 ^ i) d (word_lt n (t - 1) l) in
    sign_by (2 ^ (t - l)) (bit_of n t) (word_of n (t - 1) l) (word_of n t l) (bit_lt n t) m (word_split n t l h u)

-- ---- H
taken_from : (a b : ℕ) → b ≤ a → sub_ℕ a b ≡ pos (a - b)
taken_from a b h = rw (le-ltb a b h)

minus_up : (d raw : ℕ) → raw + d ≡ 32 → 1 ≤ d → neg_ℤ (pos d) +ℤ pos 32 ≡ pos raw
minus_up zero raw e l = absurd (omega arith)
minus_up (suc d) raw e l = taken_from 32 (suc d) (omega arith) ∙ ap pos (omega arith)

carrier_in : (raw : ℕ) → raw < 32 → ((raw ≤ 13 → carrier_of raw ≡ pos raw) × (25 ≤ raw → carrier_of raw +ℤ pos 32 ≡ pos raw))
carrier_in raw h = (
  (λ l. rw (lt-leb 25 raw (omega arith))),
  (λ l. rw (le-leb 25 raw l) (minus_up (32 - raw) raw (omega arith) (omega arith))),
)

-- ---- THE RECORD OF THE VALUES of any number, read as any kind
pub values_named : (k : Kind) (n : ℕ) → Named n (record_of k (values_of n (layout k)))
unfolding record_of values_of layout
values_named One n =
    record {
      p1 = refl;
      tk = refl;
      xvel = signed_in_lem n 64 41 (lit≤ tt) (lit≤ tt);
      xacc = signed_in_lem n 40 36 (lit≤ tt) (lit≤ tt);
      x = signed_in_lem n 35 9 (lit≤ tt) (lit≤ tt);
    }
values_named Two n =
    record {
      b = refl;
      p2 = refl;
      tb = refl;
      yvel = signed_in_lem n 64 41 (lit≤ tt) (lit≤ tt);
      yacc = signed_in_lem n 40 36 (lit≤ tt) (lit≤ tt);
      y = signed_in_lem n 35 9 (lit≤ tt) (lit≤ tt);
    }
values_named Three n =
    record {
      p3 = refl;
      gamma = signed_in_lem n 79 69 (lit≤ tt) (lit≤ tt);
      p = refl;
      l = refl;
      zvel = signed_in_lem n 64 41 (lit≤ tt) (lit≤ tt);
      zacc = signed_in_lem n 40 36 (lit≤ tt) (lit≤ tt);
      z = signed_in_lem n 35 9 (lit≤ tt) (lit≤ tt);
    }
values_named Four n =
    record {
      tau = signed_in_lem n 80 59 (lit≤ tt) (lit≤ tt);
      dtau = signed_in_lem n 58 54 (lit≤ tt) (lit≤ tt);
      e = refl;
      p4 = refl;
      ft = refl;
      nt = refl;
      n = refl;
      m = refl;
    }
values_named Five n =
    record {
      na = refl;
      tauc = signed_in_lem n 69 38 (lit≤ tt) (lit≤ tt);
      n4 = refl;
      taugps = signed_in_lem n 31 10 (lit≤ tt) (lit≤ tt);
      l = refl;
    }
values_named Even n =
    record {
      c = refl;
      ma = refl;
      na = refl;
      taua = signed_in_lem n 72 63 (lit≤ tt) (lit≤ tt);
      lambda = signed_in_lem n 62 42 (lit≤ tt) (lit≤ tt);
      di = signed_in_lem n 41 24 (lit≤ tt) (lit≤ tt);
      epsilon = refl;
    }
values_named Odd n =
    record {
      omega = signed_in_lem n 80 65 (lit≤ tt) (lit≤ tt);
      tlambda = refl;
      dt = signed_in_lem n 43 22 (lit≤ tt) (lit≤ tt);
      dtrate = signed_in_lem n 21 15 (lit≤ tt) (lit≤ tt);
      h = let c = carrier_in (word_of n 14 10) (word_lt n 14 10) in record { plus = c.0; minus = c.1 };
      l = refl;
    }
values_named Fourteen n =
    record {
      b1 = signed_in_lem n 80 70 (lit≤ tt) (lit≤ tt);
      b2 = signed_in_lem n 69 60 (lit≤ tt) (lit≤ tt);
      kp = refl;
    }

named_by : (n : ℕ) (r : Record) → list_of r ≡ values_of n (layout (kind_of r)) → Named n r
named_by n r e = subst (Named n) (ap (record_of (kind_of r)) (sym e) ∙ record_list r) (values_named (kind_of r) n)

-- WHAT IS READ: m is bits 84 to 81 of the string as the check leaves it, and each word by its name is what stands in its bits
pub read_named : (s : List ℕ) (k : Kind) (m : ℕ) (r : Record) → Reads s k (Ok (m, r))
    → (kind_of r ≡ k) × ((m ≡ word_of (mended (number_of s)) 84 81) × Named (mended (number_of s)) r)
read_named s k m r a =
    let i = is_read s k m r a in
    let n = mended (number_of s) in
    (i.kind, (i.number, named_by n r (i.words ∙ ap (λ (k : Kind). values_of n (layout k)) (sym i.kind))))

-- WHAT IS WRITTEN: m stands in bits 84 to 81, and each word by its name in its bits
pub written_named : (m : ℕ) (r : Record) (out out' : List ℕ) → Writes m r out (Ok tt) out' → (word_of (number_of out') 84 81 ≡ m) × Named (number_of out') r
written_named m r out out' a = let v = written_values m r out out' a in (v.0, named_by (number_of out') r (sym v.1))

-- ---- AN IMMEDIATE RECORD: four strings of eleven bytes, one after the other, each by name in its own bits
pub immediate_named : (a b c d : List ℕ) → length a ≡ 11 → length b ≡ 11 → length c ≡ 11 → length d ≡ 11
    → ImmediateIn (number_of a) (number_of b) (number_of c) (number_of d) (immediate_of (a ++ (b ++ (c ++ d))))
unfolding immediate_of record_of
immediate_named a b c d h₁ h₂ h₃ h₄ =
    let s = a ++ (b ++ (c ++ d)) in
    let e₁ : drop 11 s ≡ b ++ (c ++ d) = drop_at a (b ++ (c ++ d)) 11 h₁ in
    let e₂ : drop 22 s ≡ c ++ d = sym (drop-drop 11 11 s) ∙ ap (drop 11) e₁ ∙ drop_at b (c ++ d) 11 h₂ in
    let e₃ : drop 33 s ≡ d = sym (drop-drop 11 22 s) ∙ ap (drop 11) e₂ ∙ drop_at c d 11 h₃ in
    let n₁ : string_at s 0 ≡ number_of a = ap number_of (take_at a (b ++ (c ++ d)) 11 h₁) in
    let n₂ : string_at s 1 ≡ number_of b = ap (λ (l : List ℕ). number_of (take 11 l)) e₁ ∙ ap number_of (take_at b (c ++ d) 11 h₂) in
    let n₃ : string_at s 2 ≡ number_of c = ap (λ (l : List ℕ). number_of (take 11 l)) e₂ ∙ ap number_of (take_at c d 11 h₃) in
    let n₄ : string_at s 3 ≡ number_of d = ap (λ (l : List ℕ). number_of (take 11 l)) e₃ ∙ ap number_of (take_all 11 d (omega arith)) in
    record {
      one = subst (λ (n : ℕ). OneIn (number_of a) (string1_of (values_of n (layout One)))) (sym n₁) (values_named One (number_of a));
      two = subst (λ (n : ℕ). TwoIn (number_of b) (string2_of (values_of n (layout Two)))) (sym n₂) (values_named Two (number_of b));
      three = subst (λ (n : ℕ). ThreeIn (number_of c) (string3_of (values_of n (layout Three)))) (sym n₃) (values_named Three (number_of c));
      four = subst (λ (n : ℕ). FourIn (number_of d) (string4_of (values_of n (layout Four)))) (sym n₄) (values_named Four (number_of d));
    }
