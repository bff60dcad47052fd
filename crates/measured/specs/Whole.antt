-- What a fresh station that is offered the records of an input answers in one byte.
-- Assumes nothing.
use Rattle.std.specs.Prelude.{ℕ, zero, suc, ◌*◌, ◌/◌, List, [], ◌∷◌, ◌≡◌, eqb, length, get_or, take, drop}
use Rattle.std.specs.Int.Bits.{bit_xor}
use Rattle.strings.specs.Pick.{pick}
use Rattle.book.specs.Book.{in_slot}
use Rattle.fields.specs.Sixteen.{channel_in, epoch_in, symbols_in}
use Rattle.station.specs.History.{Call, Offer, said_after, station_of}

-- ---- record k of an input, counted from 0, as a call by card one; and the first k of them, the latest first
abbrev pub call_at : List ℕ → ℕ → Call
call_at input k = let rec = take 16 (drop (k * 16) input) in Offer 1 (channel_in rec) (epoch_in rec) (symbols_in rec)

unfoldable pub calls_in : List ℕ → ℕ → List Call
calls_in input zero = []
calls_in input (suc k) = call_at input k ∷ calls_in input k

-- ---- an answer in one byte: m where the string is taken, else the number that says no
abbrev pub byte_of : List ℕ → ℕ
byte_of said = pick (eqb (get_or said 0 0) 0) (get_or said 1 0) (get_or said 0 0)

-- the first k answers, added up bit by bit, modulo 2
unfoldable pub sum_of : List ℕ → ℕ → ℕ
sum_of input zero = 0
sum_of input (suc k) = bit_xor (sum_of input k) (byte_of (said_after (calls_in input k) (call_at input k)))

-- all of them, and the highest byte of the even half of slot 1
abbrev pub SumsUp : List ℕ → ℕ → Type 0
SumsUp input r =
    let count = length input / 16 in
    r ≡ bit_xor (sum_of input count) (in_slot (station_of (calls_in input count)).book 1).etop
