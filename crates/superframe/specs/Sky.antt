-- The 75 strings of one satellite's superframe, from words alone (request 12). A frame is g, 0 to 4, and a string in it m, 1 to 15.
-- Assumes nothing.
use Rattle.std.specs.Prelude.{ℕ, ◌+◌, ◌-◌, ◌/◌, ◌%◌, ◌≤◌, ◌&&◌, ◌≡◌, eqb, ℤ, pos, get_or}
use Rattle.strings.specs.Pick.{pick}
use Rattle.records.specs.declared.named.EvenString.{EvenString}
use Rattle.records.specs.declared.named.OddString.{OddString}
use Rattle.records.specs.declared.named.Record.{Record}
use Rattle.records.specs.declared.named.Record.TheVariants.{One, Two, Three, Four, Five, Even, Odd, Fourteen}
use Rattle.words.specs.Calls.{string_of}
use Rattle.superframe.specs.declared.AlmanacWords.{AlmanacWords}
use Rattle.superframe.specs.declared.Sky.{Sky}
use Rattle.superframe.specs.Table41.{slot_of_pair, frame_of_slot, pair_of_slot}

-- "every l as in string 5 but in string 3"
abbrev pub with_l : ℤ → OddString → OddString
with_l l r = record { omega = r.omega; tlambda = r.tlambda; dt = r.dt; dtrate = r.dtrate; h = r.h; l = l }

-- "frame 5's string 15 else zero"
abbrev pub zero_odd : OddString
zero_odd = record { omega = pos 0; tlambda = pos 0; dt = pos 0; dtrate = pos 0; h = pos 0; l = pos 0 }

abbrev pub zero_even : EvenString
zero_even = record { c = pos 0; ma = pos 0; na = pos 0; taua = pos 0; lambda = pos 0; di = pos 0; epsilon = pos 0 }

-- "the words of 24 almanac entries": entry k, 1..24
abbrev pub entry_at : Sky → ℕ → AlmanacWords
entry_at sky k = get_or sky.entries (k - 1) (record { even = zero_even; odd = zero_odd })

-- the words of string m of frame g, 6..15, where Table 4.1 has an entry there: an even string and the odd one after it
abbrev pub almanac_in : Sky → ℕ → ℕ → Record
almanac_in sky g m =
    pick (eqb (m % 2) 0) (Even (entry_at sky (slot_of_pair g m)).even) (Odd (with_l sky.five.l (entry_at sky (slot_of_pair g (m - 1))).odd))

-- "strings 1 to 5 alike in all five frames"; B1, B2 and KP in string 14 of frame 5
unfoldable pub record_in : Sky → ℕ → ℕ → Record
record_in sky g m =
    pick (eqb m 1) (One sky.words.one)
    (pick (eqb m 2) (Two sky.words.two)
    (pick (eqb m 3) (Three sky.words.three)
    (pick (eqb m 4) (Four sky.words.four)
    (pick (eqb m 5) (Five sky.five)
    (pick (eqb m 14 && eqb g 4) (Fourteen sky.fourteen)
    (pick (eqb m 15 && eqb g 4) (Odd (with_l sky.five.l zero_odd))
    (almanac_in sky g m)))))))

-- string i of the superframe, 1..75, is string (i - 1) % 15 + 1 of frame (i - 1) / 15 + 1
abbrev pub frame_at : ℕ → ℕ
frame_at i = (i - 1) / 15

abbrev pub string_number : ℕ → ℕ
string_number i = (i - 1) % 15 + 1

unfoldable pub sky_string : Sky → ℕ → ℕ
sky_string sky i = string_of (string_number i) (record_in sky (frame_at i) (string_number i))

-- what stands where: proved as `places` in `proofs/Places.antt`
pub record Places (sky : Sky) : Type 0 where
  -- "strings 1 to 5 alike in all five frames"
  pub alike : (g m : ℕ) → 1 ≤ m → m ≤ 5 → record_in sky g m ≡ record_in sky 0 m
  -- the two strings of slot k have the words of entry k, with l of string 5
  pub even : (k : ℕ) → 1 ≤ k → k ≤ 24 → record_in sky (frame_of_slot k) (pair_of_slot k) ≡ Even (entry_at sky k).even
  pub odd : (k : ℕ) → 1 ≤ k → k ≤ 24 → record_in sky (frame_of_slot k) (pair_of_slot k + 1) ≡ Odd (with_l sky.five.l (entry_at sky k).odd)
  -- strings 14 and 15 of frame 5 are no pair
  pub fourteen : record_in sky 4 14 ≡ Fourteen sky.fourteen
  pub fifteen : record_in sky 4 15 ≡ Odd (with_l sky.five.l zero_odd)
