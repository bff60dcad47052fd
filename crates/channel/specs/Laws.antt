-- What an offer does to a row, in numbers: the bits of strings, the bytes and the mask of rows, starts and epochs. The definitions say how an offer is
-- decided; these laws say what comes of it, in none of their words. The sentences in quotes are the paper's. The proofs stand in `proofs/`.
-- Assumes nothing.
use Rattle.std.specs.Prelude.{ℕ, ◌+◌, ◌-◌, ◌*◌, ◌/◌, ◌%◌, ◌^◌, ◌≤◌, ◌<◌, false, List, [], ◌∷◌, ◌⊎◌, ◌↔◌, ◌≡◌, refl, length, get_or, take, drop, replicate, Result, Err, Ok}
use Rattle.strings.specs.declared.Refusal.{Refusal}
use Rattle.channel.specs.declared.TakenString.{TakenString}
use Rattle.strings.specs.Number.{number_of, bit_of, word_of, bytes_of_string}
use Rattle.strings.specs.Calls.{sound_tests}
use Rattle.strings.specs.Hamming.{ruling, is_damaged}
use Rattle.strings.specs.Numbers.{first_of, numbers_of}
use Rattle.relative.specs.Relative.{inverse}
use Rattle.relative.specs.Polarity.{turned}
use Rattle.immediate.specs.Ranges.{InRange}
use Rattle.tallies.specs.Counts.{OneCause}
use Rattle.hearing.specs.Hears.{plain_of, whole_of}
use Rattle.channel.specs.declared.Row.{Row}
use Rattle.channel.specs.declared.Offered.{Offered}
use Rattle.channel.specs.Frame.{Frame}
use Rattle.channel.specs.Row.{frame_of, still_holds}
use Rattle.channel.specs.Offers.{answer_paper, offer_tests, Offers, took}
use Rattle.channel.specs.History.{Call, makes_record, Runs}

-- ---- the numbers
-- an answer's numbers, counted from 0. The first is 0 where the offer is taken, and else the number that says no; number 4 of one that is taken is its
-- news: 0 already held, 1 kept, 2 record built, 3 record out of range; and number 5 the polarity, 0 upright, 1 inverted
abbrev pub said : Offered → ℕ → ℕ
said r i = get_or (answer_paper r.answer) i 0

abbrev pub IsTaken : Offered → Type 0
IsTaken r = said r 0 ≡ 0

-- "Bits 84 to 81 are the string number m", of the string as the check leaves it
abbrev pub m_in : List ℕ → ℕ
m_in s = word_of (whole_of s) 84 81

-- "Its frame start is epoch - (m-1)"
abbrev pub start_at : ℕ → List ℕ → ℕ
start_at epoch s = epoch - (m_in s - 1)

-- "which of them are present": bit m-1 of the row's mask; and any of fifteen: "A row with no string present holds no frame"
abbrev pub mask_bit : Row → ℕ → ℕ
mask_bit row m = row.present / 2 ^ (m - 1) % 2

abbrev pub HoldsFrame : Row → Type 0
HoldsFrame row = row.present % 32768 ≡ 0 → ⊥

-- the eleven bytes of string m in a row
abbrev pub bytes_at : Row → ℕ → List ℕ
bytes_at row m = take 11 (drop (11 * (m - 1)) row.strings)

-- ---- what 2 to 6 let pass: eleven bytes, padding 0; not DAMAGED; bit 85 at 0; m not 0; the epoch not below m-1
pub record Passes (epoch : ℕ) (s : List ℕ) : Type 0 where
  pub bytes : length s ≡ 11
  -- "the last three bits of the eleventh byte are padding and must be 0"
  pub padding : get_or s 10 0 % 8 ≡ 0
  pub sound : is_damaged (ruling (plain_of s)) ≡ false
  pub idle : bit_of (whole_of s) 85 ≡ 0
  pub numbered : 1 ≤ m_in s
  pub in_time : m_in s - 1 ≤ epoch

-- ---- 7 and 8: "STALE: start before the held start", "OFF BEAT: start 1..14 after the held start"
pub record Starts (row : Row) (epoch : ℕ) (s : List ℕ) (r : Offered) : Type 0 where
  -- while a frame is held, a string that is taken starts with it, or 15 or more later: nothing else is ever taken
  pub only : HoldsFrame row → IsTaken r → (start_at epoch s ≡ row.start) ⊎ (row.start + 15 ≤ start_at epoch s)
  -- the number that says no
  pub stale : HoldsFrame row → Passes epoch s → start_at epoch s < row.start → answer_paper r.answer ≡ 7 ∷ []
  pub off_beat : HoldsFrame row → Passes epoch s → row.start < start_at epoch s → start_at epoch s < row.start + 15 → answer_paper r.answer ≡ 8 ∷ []
  -- "A string with a later start by 15 or more replaces the held frame. A first string starts one. Late strings of the held frame are welcome in any order"
  pub later : Passes epoch s → row.start + 15 ≤ start_at epoch s → IsTaken r
  pub first : Passes epoch s → row.present % 32768 ≡ 0 → IsTaken r
  pub late : Passes epoch s → start_at epoch s ≡ row.start → mask_bit row (m_in s) ≡ 0 → IsTaken r

-- ---- "A new frame leaves its other fourteen strings zero"
-- a string that is taken and is of no held frame
pub record NewFrame (epoch : ℕ) (s : List ℕ) (r : Offered) : Type 0 where
  pub start : r.row.start ≡ start_at epoch s
  pub present : r.row.present ≡ 2 ^ (m_in s - 1)
  pub own : bytes_at r.row (m_in s) ≡ bytes_of_string (whole_of s)
  pub others : (m : ℕ) → 1 ≤ m → m ≤ 15 → (m ≡ m_in s → ⊥) → bytes_at r.row m ≡ replicate 11 0

-- so, after any calls, of every string that is not present
abbrev pub AbsentZero : Row → Type 0
AbsentZero row = (m : ℕ) → 1 ≤ m → m ≤ 15 → mask_bit row m ≡ 0 → bytes_at row m ≡ replicate 11 0

-- ---- 9: "CONFLICT: same start and m held, bits 80..9 differ"
-- the string's start is the held one, and its m is present
abbrev pub IsHeld : Row → ℕ → List ℕ → Type 0
IsHeld row epoch s = (start_at epoch s ≡ row.start) × (mask_bit row (m_in s) ≡ 1)

-- bits high to low of the held string are those of the offered one
abbrev pub SameBits : Row → List ℕ → ℕ → ℕ → Type 0
SameBits row s high low = (i : ℕ) → low ≤ i → i ≤ high → bit_of (number_of (bytes_at row (m_in s))) i ≡ bit_of (whole_of s) i

-- such a string that 2 to 6 let pass
pub record Again (row : Row) (s : List ℕ) (r : Offered) : Type 0 where
  pub taken : IsTaken r ↔ SameBits row s 80 9
  pub conflict : (SameBits row s 80 9 → ⊥) → answer_paper r.answer ≡ 9 ∷ []

-- ---- "news: already held, kept, record built, or record out of range", of an offer that is taken
-- "strings 1..4 of the held frame are all present"
abbrev pub FourPresent : Row → Type 0
FourPresent row = (m : ℕ) → 1 ≤ m → m ≤ 4 → mask_bit row m ≡ 1

-- "at the string that completes them": one of the four, newly stored, after which all four are present
abbrev pub Completes : List ℕ → Offered → Type 0
Completes s r = (m_in s ≤ 4) × FourPresent r.row

pub record NewsTold (row : Row) (epoch : ℕ) (s : List ℕ) (r : Offered) : Type 0 where
  pub held : IsHeld row epoch s → said r 4 ≡ 0
  pub built : (IsHeld row epoch s → ⊥) → Completes s r → InRange r.row.strings → said r 4 ≡ 2
  pub out_of_range : (IsHeld row epoch s → ⊥) → Completes s r → (InRange r.row.strings → ⊥) → said r 4 ≡ 3
  pub kept : (IsHeld row epoch s → ⊥) → (Completes s r → ⊥) → said r 4 ≡ 1

-- ---- "A string and its inverse now answer alike except in this field": the same refusal; or taken with the same m, verdict and news, and with the other
-- polarity
abbrev pub other_way : Result TakenString Refusal → Result TakenString Refusal
other_way (Ok said) = took said.m said.verdict said.news (turned said.polarity)
other_way (Err why) = Err why

-- what the string was answered and left, and what the same with all 85 symbols inverted: "Station contents .. do not depend on it"
pub record EitherWay (r inverted : Offered) : Type 0 where
  pub answer : inverted.answer ≡ other_way r.answer
  pub left : inverted.row ≡ r.row

-- ---- of any row of fifteen strings, and any bytes at any epoch
pub record OfferLaws (row : Row) (epoch : ℕ) (s : List ℕ) (r : Offered) : Type 0 where
  -- whatever is taken has eleven bytes and padding 0, and passed the rest of 2 to 6
  pub passes : IsTaken r → Passes epoch s
  pub starts : Starts row epoch s r
  pub new_frame_lem : IsTaken r → (HoldsFrame row → start_at epoch s ≡ row.start → ⊥) → NewFrame epoch s r
  pub again : Passes epoch s → IsHeld row epoch s → Again row s r
  pub news : IsTaken r → NewsTold row epoch s r

-- ---- of the row that any calls left
pub record RowLaws (row : Row) : Type 0 where
  pub absent : AbsentZero row
  -- a start tells a frame: the row still holds the frame of its record exactly where its frame has strings 1..4, in range
  pub still_held : still_holds row ≡ makes_record (frame_of row)
  -- one that is taken again is the held string: its check bits follow from the others
  pub same : (epoch : ℕ) (s : List ℕ) (r : Offered) → Offers row epoch s r → IsTaken r → IsHeld row epoch s → SameBits row s 85 1

-- ---- "each refusal that an offer on a valid channel can get": the ten causes are all. Whatever frame is held, no test fits or the first that does has one
-- of their numbers; so a refused offer counts under exactly one of them
abbrev pub TenAreAll : Frame → ℕ → List ℕ → Type 0
TenAreAll f epoch s = (first_of (offer_tests f epoch s) ≡ 0) ⊎ OneCause (first_of (offer_tests f epoch s))

-- ---- all of them: proved as `laws`
pub record AllLaws : Type 0 where
  pub offers : (row : Row) (epoch : ℕ) (s : List ℕ) (r : Offered) → length row.strings ≡ 165 → Offers row epoch s r → OfferLaws row epoch s r
  pub rows : (cs : List Call) (row : Row) → Runs cs row → RowLaws row
  pub ten : (f : Frame) (epoch : ℕ) (s : List ℕ) → TenAreAll f epoch s
  -- of any row, and any string of eleven bytes with padding 0
  pub either_way : (row : Row) (epoch x : ℕ) (r q : Offered) → x < 2 ^ 85 → Offers row epoch (bytes_of_string x) r → Offers row epoch (bytes_of_string (inverse x)) q
      → EitherWay r q

-- ---- "An offer is tested in the order 1 to 9": here from 2 on, with 31, 32, 33 "all in 3's position"
pub test_order : (f : Frame) (epoch : ℕ) (s : List ℕ)
    → numbers_of (offer_tests f epoch s) ≡ 2 ∷ 31 ∷ 32 ∷ 33 ∷ 4 ∷ 5 ∷ 6 ∷ 7 ∷ 8 ∷ 9 ∷ []
unfolding sound_tests
test_order f epoch s = refl
