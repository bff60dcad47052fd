-- The text of a navigation record tells its quarter of an hour (quarter-told): the columns of two texts that are the same hold the same numbers (first-same), and no
-- two days have one date (day-once).
-- Assumes nothing.
use Prim.Native.Nat.{ℕ, zero, suc, ◌+◌, ◌-◌, ◌*◌, ◌/◌, ◌%◌, ◌≤◌, ◌<◌}
use native.Mathlib.Omega.{arith}
use mathlib.Core.Bool.{Bool, true, false, not, cond}
use mathlib.Core.List.{List, [], ◌∷◌, ◌++◌}
use mathlib.Core.Path.{◌≡◌, refl, sym, ap, ap₂, subst, ◌∙◌}
use lib.Dec.{T, ltb, ltb→lt, leb, leb→le, nleb→lt}
use lib.IntN.{ℤ, nat_abs}
use lib.ListN.{length, get_or, drop}
use Rattle.records.specs.declared.named.ImmediateWords.{ImmediateWords}
use Rattle.calendar.specs.declared.Date.{Date}
use Rattle.calendar.specs.Calendar.{length_of, date, next_day, date_of}
use Rattle.calendar.proofs.Months.{real}
use Rattle.decimals.specs.Decimal.{digits_of}
use Rattle.rinex.specs.declared.epoch.Epoch.{Epoch}
use Rattle.rinex.specs.Times.{InFourYears, minutes_of, epoch_of}
use Rattle.rinex.specs.Lines.{two_of, year_of, field_of, epoch_text, first_line}
use Rattle.rinex.specs.Record.{head_of, record_text}
use Rattle.rinex.specs.Theorems.{year_read, Readable}
use Rattle.rinex.proofs.Clock.{readable}
use Rattle.rinex.proofs.Columns.{two_long, field_long, epoch_long, head_long}
use Rattle.navigation.specs.Writes.{quarter_of}

-- ---- the days: each has a later date than the one before
abbrev place_of : Date → ℕ
place_of t = (t.year * 16 + t.month) * 32 + t.day

next_later : (t : Date) → t.month ≤ 12 → t.day ≤ 31 → place_of t < place_of (next_day t)
next_later t m d = by (ltb t.day (length_of t.year t.month)) (ltb t.month 12)
  where
    by : (a b : Bool) → place_of t < place_of (cond a (date t.year t.month (t.day + 1)) (cond b (date t.year (t.month + 1) 1) (date (t.year + 1) 1 1)))
    by true b = omega arith
    by false true = omega (arith, d)
    by false false = omega (arith, m, d)

later : (n m : ℕ) → n < m → m ≤ 30681 → place_of (date_of n) < place_of (date_of m)
unfolding date_of
later n zero l h = absurd (omega (arith, l))
later n (suc m) l h =
    let r = real m (omega (arith, h)) in
    by (leb m n) (leb→le m n) (nleb→lt m n) (next_later (date_of m) r.month_most r.at_most_31)
    (λ p. later n m p (omega (arith, h)))
  where
    by : (t : Bool) → (T t → m ≤ n) → (T (not t) → n < m) → place_of (date_of m) < place_of (date_of (suc m)) → (n < m → place_of (date_of n) < place_of (date_of m))
        → place_of (date_of n) < place_of (date_of (suc m))
    by true p q s f = let e : m ≡ n = omega (arith, p tt, l) in subst (λ (k : ℕ). place_of (date_of k) < place_of (date_of (suc m))) e s
    by false p q s f = let i = f (q tt) in omega (arith, i, s)

not_later : (a b : ℕ) → b ≤ 30681 → place_of (date_of a) ≡ place_of (date_of b) → a < b → ⊥
not_later a b h e l = let w = later a b l h in omega (arith, w, e)

day_once : (a b : ℕ) → a ≤ 30681 → b ≤ 30681 → place_of (date_of a) ≡ place_of (date_of b) → a ≡ b
day_once a b h k e = by (leb a b) (leb b a) (leb→le a b) (nleb→lt a b) (leb→le b a) (nleb→lt b a)
  where
    by : (u v : Bool) → (T u → a ≤ b) → (T (not u) → b < a) → (T v → b ≤ a) → (T (not v) → a < b) → a ≡ b
    by true true p q r s = omega (arith, p tt, r tt)
    by true false p q r s = absurd (not_later a b k e (s tt))
    by false v p q r s = absurd (not_later b a h (sym e) (q tt))

-- ---- two columns, a blank or a digit in the first
abbrev read_two : List ℕ → ℕ
read_two l = 10 * (get_or l 0 0 - 48) + (get_or l 1 0 - 48)

hundreds : (p s x y : ℕ) → x < 100 → y < 100 → p * 100 + x ≡ s * 100 + y → x ≡ y
hundreds p s x y h k e = omega arith

digits_read : (y : ℕ) → read_two (digits_of 2 y) ≡ y % 100
digits_read y =
    let a : read_two (digits_of 2 y) ≡ 10 * (y / 10 % 10) + y % 10 = omega arith in
    a ∙ hundreds (y / 10 / 10) (y / 100) (10 * (y / 10 % 10) + y % 10) (y % 100) (omega arith) (omega arith) (omega arith)

two_read : (n : ℕ) → n < 100 → read_two (two_of n) ≡ n
two_read n h = by (ltb n 10) (ltb→lt n 10)
  where
    by : (b : Bool) → (T b → n < 10) → read_two (cond b (32 ∷ (48 + n) ∷ []) (digits_of 2 n)) ≡ n
    by true p = omega arith
    by false p = digits_read n ∙ omega (arith, h)

two_same : (a b : ℕ) → a < 100 → b < 100 → field_of a ≡ field_of b → a ≡ b
two_same a b h k e = sym (two_read a h) ∙ ap (λ (l : List ℕ). read_two (drop 1 l)) e ∙ two_read b k

year_same : (a b : ℕ) → year_read (a % 100) ≡ a → year_read (b % 100) ≡ b → year_of a ≡ year_of b → a ≡ b
year_same a b p q e = sym p ∙ ap year_read (sym (digits_read a) ∙ ap (λ (l : List ℕ). read_two (drop 1 l)) e ∙ digits_read b) ∙ q

-- ---- two texts that are the same have the same parts
parts : (a b : List ℕ) {l m : List ℕ} → length a ≡ length b → a ++ l ≡ b ++ m → (a ≡ b) × (l ≡ m)
parts [] [] n e = (refl, e)
parts [] (y ∷ b) n e = absurd (omega (arith, n))
parts (x ∷ a) [] n e = absurd (omega (arith, n))
parts (x ∷ a) (y ∷ b) n e =
    let w = parts a b (omega (arith, n)) (ap (drop 1) e) in
    (ap₂ (λ (k : ℕ) (l : List ℕ). k ∷ l) (ap (λ (l : List ℕ). get_or l 0 0) e) w.0, w.1)

pub record SameMoment (e f : Epoch) : Type 0 where
  pub year : e.year ≡ f.year
  pub month : e.month ≡ f.month
  pub day : e.day ≡ f.day
  pub hour : e.hour ≡ f.hour
  pub minute : e.minute ≡ f.minute

epoch_same : (n m : ℕ) (e f : Epoch) → Readable e → Readable f → epoch_text n e ≡ epoch_text m f → SameMoment e f
unfolding epoch_text
epoch_same n m e f r s q =
    let field : (a b : ℕ) → length (field_of a) ≡ length (field_of b) = λ a b. field_long a ∙ sym (field_long b) in
    let a = parts (two_of n) (two_of m) (two_long n ∙ sym (two_long m)) q in
    let y = parts (year_of e.year) (year_of f.year) refl a.1 in
    let o = parts (field_of e.month) (field_of f.month) (field e.month f.month) y.1 in
    let d = parts (field_of e.day) (field_of f.day) (field e.day f.day) o.1 in
    let h = parts (field_of e.hour) (field_of f.hour) (field e.hour f.hour) d.1 in
    let i = parts (field_of e.minute) (field_of f.minute) (field e.minute f.minute) h.1 in
    record {
      year = year_same e.year f.year r.year s.year y.0;
      month = two_same e.month f.month (omega (arith, r.month_most)) (omega (arith, s.month_most)) o.0;
      day = two_same e.day f.day (omega (arith, r.day_most)) (omega (arith, s.day_most)) d.0;
      hour = two_same e.hour f.hour (omega (arith, r.hour)) (omega (arith, s.hour)) h.0;
      minute = two_same e.minute f.minute (omega (arith, r.minute)) (omega (arith, s.minute)) i.0;
    }

-- ---- and so the same quarter of an hour
moment_once : (n4 nt tb n4' nt' tb' : ℕ) → InFourYears n4 nt tb → InFourYears n4' nt' tb' → SameMoment (epoch_of n4 nt tb) (epoch_of n4' nt' tb')
    → quarter_of n4 nt tb ≡ quarter_of n4' nt' tb'
moment_once n4 nt tb n4' nt' tb' h k s =
    let a = minutes_of n4 nt tb in
    let b = minutes_of n4' nt' tb' in
    let days = day_once (a / 1440) (b / 1440) (omega (arith, h.n4_most, h.nt_most, h.tb_most)) (omega (arith, k.n4_most, k.nt_most, k.tb_most))
    (ap₂ (λ (x z : ℕ). x * 32 + z) (ap₂ (λ (x z : ℕ). x * 16 + z) s.year s.month) s.day) in
    omega (arith, days, s.hour, s.minute, h.nt_least, k.nt_least)

pub quarter_told : (w v : ImmediateWords) (n4 n4' carrier carrier' : ℤ)
    → InFourYears (nat_abs n4) (nat_abs w.four.nt) (nat_abs w.two.tb) → InFourYears (nat_abs n4') (nat_abs v.four.nt) (nat_abs v.two.tb)
    → record_text w n4 carrier ≡ record_text v n4' carrier'
    → quarter_of (nat_abs n4) (nat_abs w.four.nt) (nat_abs w.two.tb) ≡ quarter_of (nat_abs n4') (nat_abs v.four.nt) (nat_abs v.two.tb)
unfolding record_text head_of first_line
quarter_told w v n4 n4' carrier carrier' h k e =
    let n = nat_abs w.four.n in
    let m = nat_abs v.four.n in
    let a = epoch_of (nat_abs n4) (nat_abs w.four.nt) (nat_abs w.two.tb) in
    let b = epoch_of (nat_abs n4') (nat_abs v.four.nt) (nat_abs v.two.tb) in
    let head = (parts (head_of w n4) (head_of v n4') (head_long w n4 ∙ sym (head_long v n4')) e).0 in
    let text = (parts (epoch_text n a) (epoch_text m b) (epoch_long n a ∙ sym (epoch_long m b)) head).0 in
    moment_once _ _ _ _ _ _ h k (epoch_same n m a b (readable _ _ _ h) (readable _ _ _ k) text)
