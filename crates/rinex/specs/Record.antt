-- A record of a satellite (request 11): "It writes one record from an immediate record, the four-year number of string 5 of the same frame, and the book's carrier
-- number for n".
-- Assumes nothing.
use Rattle.std.specs.Prelude.{ℕ, ◌≤◌, List, ◌++◌, ◌≡◌, ℤ, pos, nat_abs}
use Rattle.records.specs.declared.named.ImmediateWords.{ImmediateWords}
use Rattle.rinex.specs.Times.{epoch_of, frame_time}
use Rattle.rinex.specs.Lines.{first_line, other_line}

-- n and the epoch, clock bias, gamma and the message frame time
unfoldable pub head_of : ImmediateWords → ℤ → List ℕ
head_of w n4 =
    first_line (nat_abs w.four.n) (epoch_of (nat_abs n4) (nat_abs w.four.nt) (nat_abs w.two.tb)) w.four.tau w.three.gamma (pos (frame_time (nat_abs w.one.tk)))

-- "the health field is the whole word B"
abbrev pub x_line : ImmediateWords → List ℕ
x_line w = other_line w.one.x w.one.xvel w.one.xacc w.two.b

abbrev pub y_line : ImmediateWords → ℤ → List ℕ
y_line w carrier = other_line w.two.y w.two.yvel w.two.yacc carrier

-- the age of the words is E, in days
abbrev pub z_line : ImmediateWords → List ℕ
z_line w = other_line w.three.z w.three.zvel w.three.zacc w.four.e

unfoldable pub record_text : ImmediateWords → ℤ → ℤ → List ℕ
record_text w n4 carrier = head_of w n4 ++ (x_line w ++ (y_line w carrier ++ z_line w))

-- ---- what is asked of the words: those that are written as times and in two columns are in range. Every other may be any number
pub record From (least most : ℕ) (z : ℤ) : Type 0 where
  pub number : ℕ
  pub is : z ≡ pos number
  pub not_less : least ≤ number
  pub not_more : number ≤ most

pub record IsWritable (w : ImmediateWords) (n4 : ℤ) : Type 0 where
  pub four_years : From 1 21 n4
  pub day : From 1 1461 w.four.nt
  pub interval : From 0 95 w.two.tb
  pub time : From 0 4095 w.one.tk
  pub satellite : From 0 99 w.four.n
