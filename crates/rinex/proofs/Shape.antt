-- The four lines of a record: 79 columns that print, and a line feed. Assumes nothing.
use mathlib.Core.Path.{refl}
use mathlib.Core.Bool.{Bool, true, false, cond}
use mathlib.Core.List.{List, [], ◌∷◌, ◌++◌, append_assoc}
use Prim.Native.Nat.{ℕ, zero, suc, ◌+◌, ◌-◌, ◌/◌, ◌%◌, ◌^◌, ◌<◌}
use native.Mathlib.Omega.{arith}
use lib.Dec.{T, leb, ltb, lit≤, ltb→lt}
use lib.IntN.{ℤ, neg_ℤ, nat_abs}
use lib.ListN.{length-append}
use Rattle.decimals.specs.Codes.{codes}
use Rattle.decimals.specs.Decimal.{digits_of, text_of, below0, figures_of, scale_of, signed_of, decimal_of}
use Rattle.decimals.proofs.Exactly.{nineteen}
use Rattle.rinex.specs.declared.epoch.Epoch.{Epoch}
use Rattle.rinex.specs.Lines.{two_of, field_of, epoch_text, first_line, other_line}
use Rattle.rinex.specs.Record.{head_of, x_line, y_line, z_line, record_text}
use Rattle.rinex.specs.Theorems.{Prints, none, more, IsLine, EveryRecord}
use Rattle.rinex.proofs.Columns.{epoch_long}

-- both parts print
joins : {a b : List ℕ} → Prints a → Prints b → Prints (a ++ b)
joins none q = q
joins (more l h p) q = more l h (joins p q)

digits : (d n : ℕ) → Prints (digits_of d n)
digits zero n = none
digits (suc d) n = more {c = 48 + n / 10 ^ d % 10} (omega arith) (omega arith) (digits d n)

two : (n : ℕ) → Prints (two_of n)
two n = go (ltb n 10) (ltb→lt n 10)
  where
    go : (b : Bool) → (T b → n < 10) → Prints (cond b (32 ∷ (48 + n) ∷ []) (digits_of 2 n))
    go true p = more (lit≤ tt) (lit≤ tt) (more {c = 48 + n} (omega arith) (omega (arith, p tt)) none)
    go false p = digits 2 n

field : (n : ℕ) → Prints (field_of n)
field n = more (lit≤ tt) (lit≤ tt) (two n)

-- ---- a number
minus_or_blank : (b : Bool) {l : List ℕ} → Prints l → Prints (cond b 45 32 ∷ l)
minus_or_blank true t = more (lit≤ tt) (lit≤ tt) t
minus_or_blank false t = more (lit≤ tt) (lit≤ tt) t

plus_or_minus : (b : Bool) {l : List ℕ} → Prints l → Prints (cond b 43 45 ∷ l)
plus_or_minus true t = more (lit≤ tt) (lit≤ tt) t
plus_or_minus false t = more (lit≤ tt) (lit≤ tt) t

text : (neg : Bool) (n k : ℕ) → Prints (text_of neg n k)
unfolding text_of
text neg n k =
    let exponent = plus_or_minus (leb k 12) (digits 2 (12 - k + (k - 12))) in
    minus_or_blank neg (joins (digits 1 (n / 1000000000000)) (more (lit≤ tt) (lit≤ tt) (joins (digits 12 n) (more (lit≤ tt) (lit≤ tt) exponent))))

signed : (neg : Bool) (a p : ℕ) → Prints (signed_of neg a p)
unfolding signed_of
signed neg zero p = text false 0 12
signed neg (suc m) p = text neg (figures_of (suc m) (2 ^ p)) (scale_of (suc m) (2 ^ p))

number : (z : ℤ) (p : ℕ) → Prints (decimal_of z p)
number z p = signed (below0 z) (nat_abs z) p

-- ---- the lines
blank : {l : List ℕ} → Prints l → Prints (32 ∷ l)
blank p = more (lit≤ tt) (lit≤ tt) p

epoch : (n : ℕ) (e : Epoch) → Prints (epoch_text n e)
unfolding epoch_text
epoch n e =
    let second : Prints (codes "  0.0") = blank (blank (more (lit≤ tt) (lit≤ tt) (more (lit≤ tt) (lit≤ tt) (more (lit≤ tt) (lit≤ tt) none)))) in
    joins (two n) (joins (blank (digits 2 e.year)) (joins (field e.month) (joins (field e.day) (joins (field e.hour) (joins (field e.minute) second)))))

first : (n : ℕ) (e : Epoch) (tau gamma time : ℤ) → IsLine (first_line n e tau gamma time)
unfolding first_line
first n e tau gamma time =
    record {
      columns = epoch_text n e ++ (decimal_of (neg_ℤ tau) 30 ++ (decimal_of gamma 40 ++ decimal_of time 0));
      long = simp length-append (omega (arith, epoch_long n e, nineteen (neg_ℤ tau) 30, nineteen gamma 40, nineteen time 0));
      prints = joins (epoch n e) (joins (number (neg_ℤ tau) 30) (joins (number gamma 40) (number time 0)));
      feed = simp append_assoc;
    }

other : (x v a last : ℤ) → IsLine (other_line x v a last)
unfolding other_line
other x v a last =
    record {
      columns = codes "   " ++ (decimal_of x 11 ++ (decimal_of v 20 ++ (decimal_of a 30 ++ decimal_of last 0)));
      long = simp length-append (omega (arith, nineteen x 11, nineteen v 20, nineteen a 30, nineteen last 0));
      prints = blank (blank (blank (joins (number x 11) (joins (number v 20) (joins (number a 30) (number last 0))))));
      feed = simp append_assoc;
    }

pub four_lines : EveryRecord
unfolding record_text head_of
four_lines w n4 carrier =
    record {
      one = head_of w n4;
      two = x_line w;
      three = y_line w carrier;
      four = z_line w;
      is = refl;
      line_one = first _ _ _ _ _;
      line_two = other _ _ _ _;
      line_three = other _ _ _ _;
      line_four = other _ _ _ _;
    }
