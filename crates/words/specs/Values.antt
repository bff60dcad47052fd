-- What the bits of a word say, which values it may have, and all words of a kind together (the paper, "Words").
-- Assumes nothing.
use Rattle.std.specs.Prelude.{ℕ, ◌+◌, ◌-◌, ◌*◌, ◌/◌, ◌%◌, ◌^◌, Bool, true, false, ◌&&◌, List, [], ◌∷◌, leb, ltb, ℤ, pos, negsuc, neg_ℤ, nat_abs}
use Rattle.std.specs.Int.Signed.{le_z}
use Rattle.strings.specs.Pick.{pick}
use Rattle.strings.specs.Number.{word_of}
use Rattle.layout.specs.declared.table.Form.{Form}
use Rattle.layout.specs.declared.table.Form.TheVariants.{Plain, Signed, Time, Interval, Day, Slot, Carrier}
use Rattle.layout.specs.declared.table.Word.{Word}
use Rattle.layout.specs.Layout.{width}
use Rattle.words.specs.Signed.{signed_at, code_at}

-- ---- one word
-- H: "25..31 meaning -7..-1 (Table 4.10)"; any other stands for itself
abbrev pub carrier_of : ℕ → ℤ
carrier_of raw = pick (leb 25 raw) (neg_ℤ (pos (32 - raw))) (pos raw)

abbrev pub carrier_code : ℤ → ℕ
carrier_code (pos n) = n
carrier_code (negsuc n) = 31 - n

-- the value that the bits of a word say, where `half` is the weight of its top bit
abbrev pub value_as : Form → ℕ → ℕ → ℤ
value_as Plain half raw = pos raw
value_as Signed half raw = signed_at half raw
value_as Time half raw = pos raw
value_as Interval half raw = pos raw
value_as Day half raw = pos raw
value_as Slot half raw = pos raw
value_as Carrier half raw = carrier_of raw

abbrev pub value_in : Word → ℕ → ℤ
value_in w raw = value_as w.form (2 ^ (w.top - w.low)) raw

-- the bits of a value
abbrev pub code_as : Form → ℕ → ℤ → ℕ
code_as Plain half z = nat_abs z
code_as Signed half z = code_at half z
code_as Time half z = nat_abs z
code_as Interval half z = nat_abs z
code_as Day half z = nat_abs z
code_as Slot half z = nat_abs z
code_as Carrier half z = carrier_code z

abbrev pub code_in : Word → ℤ → ℕ
code_in w z = code_as w.form (2 ^ (w.top - w.low)) z

-- ---- "Only these ranges refuse: hour 0..23; minute 0..59; tb raw 1..95 (15 to 1425 minutes); NA 1..1461; nA 1..24; H 0..13, or 25..31 meaning
-- -7..-1"; and "The encoder also refuses a value that its word's bits can't hold"
-- the least value of a word
abbrev pub least_as : Form → Word → ℤ
least_as Plain w = pos 0
least_as Signed w = neg_ℤ (pos (2 ^ (w.top - w.low) - 1))
least_as Time w = pos 0
least_as Interval w = pos 1
least_as Day w = pos 1
least_as Slot w = pos 1
least_as Carrier w = negsuc 6

abbrev pub least_of : Word → ℤ
least_of w = least_as w.form w

-- the greatest; tk has 12 bits
abbrev pub most_as : Form → Word → ℤ
most_as Plain w = pos (2 ^ width w - 1)
most_as Signed w = pos (2 ^ (w.top - w.low) - 1)
most_as Time w = pos (2 ^ 12 - 1)
most_as Interval w = pos 95
most_as Day w = pos 1461
most_as Slot w = pos 24
most_as Carrier w = pos 13

abbrev pub most_of : Word → ℤ
most_of w = most_as w.form w

-- "tk is hour (5 bits), minute (6), half minute (1)"
abbrev pub is_time : ℕ → Bool
is_time t = ltb (t / 128) 24 && ltb (t / 2 % 64) 60

abbrev pub is_tk : Form → Bool
is_tk Plain = false
is_tk Signed = false
is_tk Time = true
is_tk Interval = false
is_tk Day = false
is_tk Slot = false
is_tk Carrier = false

abbrev pub in_range : Word → ℤ → Bool
in_range w z = (le_z (least_of w) z && le_z z (most_of w)) && pick (is_tk w.form) (is_time (nat_abs z)) true

-- ---- all words of a kind
-- the values in a string's number
unfoldable pub values_of : ℕ → List Word → List ℤ
values_of n [] = []
values_of n (w ∷ ws) = value_in w (word_of n w.top w.low) ∷ values_of n ws

-- "RANGE names the first word that fails, from the highest bit number down, by that word's top bit number"; 0 where none fails
unfoldable pub first_bad : List Word → List ℤ → ℕ
first_bad [] zs = 0
first_bad (w ∷ ws) [] = 0
first_bad (w ∷ ws) (z ∷ zs) = pick (in_range w z) (first_bad ws zs) w.top

-- the number with these values in its words and 0 in every other bit: "Reserved bits are .. written 0"
unfoldable pub data_of : List Word → List ℤ → ℕ
data_of [] zs = 0
data_of (w ∷ ws) [] = 0
data_of (w ∷ ws) (z ∷ zs) = code_in w z * 2 ^ (w.low - 1) + data_of ws zs
