-- The records by name, in bit numbers (the paper, "Words"): each word of a kind, by its name, is what stands in the bits that the table gives it.
-- Assumes nothing.
use Rattle.std.specs.Prelude.{ℕ, ◌-◌, ◌≤◌, ◌≡◌, eqb, ℤ, pos, neg_ℤ, ◌+ℤ◌}
use Rattle.strings.specs.Pick.{pick}
use Rattle.strings.specs.Number.{bit_of, word_of}
use Rattle.records.specs.declared.named.String1.{String1}
use Rattle.records.specs.declared.named.String2.{String2}
use Rattle.records.specs.declared.named.String3.{String3}
use Rattle.records.specs.declared.named.String4.{String4}
use Rattle.records.specs.declared.named.String5.{String5}
use Rattle.records.specs.declared.named.EvenString.{EvenString}
use Rattle.records.specs.declared.named.OddString.{OddString}
use Rattle.records.specs.declared.named.String14.{String14}
use Rattle.records.specs.declared.named.ImmediateWords.{ImmediateWords}
use Rattle.records.specs.declared.named.Record.{Record}
use Rattle.records.specs.declared.named.Record.TheVariants.{One, Two, Three, Four, Five, Even, Odd, Fourteen}

-- the bits top down to low of the string s: a plain number
abbrev pub plain_in : ℕ → ℕ → ℕ → ℤ
plain_in s top low = pos (word_of s top low)

-- "s" marks sign and magnitude: "top bit 1 is minus", and the bits below it are the magnitude
abbrev pub signed_in : ℕ → ℕ → ℕ → ℤ
signed_in s top low = pick (eqb (bit_of s top) 1) (neg_ℤ (pos (word_of s (top - 1) low))) (pos (word_of s (top - 1) low))

-- H: "0..13, or 25..31 meaning -7..-1"
pub record CarrierIn (s top low : ℕ) (h : ℤ) : Type 0 where
  pub plus : word_of s top low ≤ 13 → h ≡ pos (word_of s top low)
  pub minus : 25 ≤ word_of s top low → h +ℤ pos 32 ≡ pos (word_of s top low)

-- string 1: P1 77-78, tk 65-76, x velocity s 41-64, x acceleration s 36-40, x s 9-35
pub record OneIn (s : ℕ) (r : String1) : Type 0 where
  pub p1 : r.p1 ≡ plain_in s 78 77
  pub tk : r.tk ≡ plain_in s 76 65
  pub xvel : r.xvel ≡ signed_in s 64 41
  pub xacc : r.xacc ≡ signed_in s 40 36
  pub x : r.x ≡ signed_in s 35 9

-- string 2: B 78-80, P2 77, tb 70-76, y velocity, acceleration, y as in 1
pub record TwoIn (s : ℕ) (r : String2) : Type 0 where
  pub b : r.b ≡ plain_in s 80 78
  pub p2 : r.p2 ≡ plain_in s 77 77
  pub tb : r.tb ≡ plain_in s 76 70
  pub yvel : r.yvel ≡ signed_in s 64 41
  pub yacc : r.yacc ≡ signed_in s 40 36
  pub y : r.y ≡ signed_in s 35 9

-- string 3: P3 80, gamma s 69-79, P 66-67, l 65, z velocity, acceleration, z as in 1
pub record ThreeIn (s : ℕ) (r : String3) : Type 0 where
  pub p3 : r.p3 ≡ plain_in s 80 80
  pub gamma : r.gamma ≡ signed_in s 79 69
  pub p : r.p ≡ plain_in s 67 66
  pub l : r.l ≡ plain_in s 65 65
  pub zvel : r.zvel ≡ signed_in s 64 41
  pub zacc : r.zacc ≡ signed_in s 40 36
  pub z : r.z ≡ signed_in s 35 9

-- string 4: tau s 59-80, delta tau s 54-58, E 49-53, P4 34, FT 30-33, NT 16-26, n 11-15, M 9-10
pub record FourIn (s : ℕ) (r : String4) : Type 0 where
  pub tau : r.tau ≡ signed_in s 80 59
  pub dtau : r.dtau ≡ signed_in s 58 54
  pub e : r.e ≡ plain_in s 53 49
  pub p4 : r.p4 ≡ plain_in s 34 34
  pub ft : r.ft ≡ plain_in s 33 30
  pub nt : r.nt ≡ plain_in s 26 16
  pub n : r.n ≡ plain_in s 15 11
  pub m : r.m ≡ plain_in s 10 9

-- string 5: NA 70-80, tau c s 38-69, N4 32-36, tau GPS s 10-31, l 9
pub record FiveIn (s : ℕ) (r : String5) : Type 0 where
  pub na : r.na ≡ plain_in s 80 70
  pub tauc : r.tauc ≡ signed_in s 69 38
  pub n4 : r.n4 ≡ plain_in s 36 32
  pub taugps : r.taugps ≡ signed_in s 31 10
  pub l : r.l ≡ plain_in s 9 9

-- even 6..14: C 80, MA 78-79, nA 73-77, tau A s 63-72, lambda s 42-62, delta i s 24-41, epsilon 9-23
pub record EvenIn (s : ℕ) (r : EvenString) : Type 0 where
  pub c : r.c ≡ plain_in s 80 80
  pub ma : r.ma ≡ plain_in s 79 78
  pub na : r.na ≡ plain_in s 77 73
  pub taua : r.taua ≡ signed_in s 72 63
  pub lambda : r.lambda ≡ signed_in s 62 42
  pub di : r.di ≡ signed_in s 41 24
  pub epsilon : r.epsilon ≡ plain_in s 23 9

-- odd 7..15: omega s 65-80, t lambda 44-64, delta T s 22-43, its rate s 15-21, H 10-14, l 9
pub record OddIn (s : ℕ) (r : OddString) : Type 0 where
  pub omega : r.omega ≡ signed_in s 80 65
  pub tlambda : r.tlambda ≡ plain_in s 64 44
  pub dt : r.dt ≡ signed_in s 43 22
  pub dtrate : r.dtrate ≡ signed_in s 21 15
  pub h : CarrierIn s 14 10 r.h
  pub l : r.l ≡ plain_in s 9 9

-- frame 5, string 14: B1 s 70-80, B2 s 60-69, KP 58-59
pub record FourteenIn (s : ℕ) (r : String14) : Type 0 where
  pub b1 : r.b1 ≡ signed_in s 80 70
  pub b2 : r.b2 ≡ signed_in s 69 60
  pub kp : r.kp ≡ plain_in s 59 58

-- a record of any kind, word for word in the bits of s
abbrev pub Named : ℕ → Record → Type 0
Named s (One r) = OneIn s r
Named s (Two r) = TwoIn s r
Named s (Three r) = ThreeIn s r
Named s (Four r) = FourIn s r
Named s (Five r) = FiveIn s r
Named s (Even r) = EvenIn s r
Named s (Odd r) = OddIn s r
Named s (Fourteen r) = FourteenIn s r

-- the words of strings 1 to 4, each in the bits of its string
pub record ImmediateIn (s₁ s₂ s₃ s₄ : ℕ) (r : ImmediateWords) : Type 0 where
  pub one : OneIn s₁ r.one
  pub two : TwoIn s₂ r.two
  pub three : ThreeIn s₃ r.three
  pub four : FourIn s₄ r.four
