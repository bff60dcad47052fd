-- A channel's row (the paper, "A channel row holds fifteen strings of one frame, its start, which of them are present, the latest immediate record,
-- and four tallies", to which request 9 added ten): the frame that it holds, and what becomes of its bytes. Every value has a meaning.
-- Assumes nothing.
use Rattle.std.specs.Prelude.{ℕ, ◌-◌, ◌*◌, ◌/◌, ◌%◌, ◌^◌, Bool, true, false, not, ◌&&◌, List, eqb, leb, replicate}
use Rattle.std.specs.Int.Bits.{bit_or}
use Rattle.std.proofs.lemmas.List.Edits.{sets}
use Rattle.strings.specs.Pick.{pick}
use Rattle.strings.specs.Number.{bytes_of_string}
use Rattle.words.specs.Calls.{number_in}
use Rattle.words.specs.Immediate.{string_at}
use Rattle.channel.specs.declared.Row.{Row}
use Rattle.channel.specs.declared.Head.{Head}
use Rattle.immediate.specs.declared.Immediate.{Immediate}
use Rattle.immediate.specs.Kept.{has_record}
use Rattle.channel.specs.declared.News.{News}
use Rattle.channel.specs.declared.News.TheVariants.{AlreadyHeld, Kept, RecordBuilt, RecordOutOfRange}
use Rattle.tallies.specs.Tallies.{Outcome, after_offer, none_counted}
use Rattle.channel.specs.Frame.{Frame, start_of, is_of_frame, is_here}

-- ---- what a row holds
-- string m is present: bit m-1 of the mask; the sixteenth bit means nothing
unfoldable pub is_present : ℕ → ℕ → Bool
is_present mask m = (leb 1 m && leb m 15) && eqb (mask / 2 ^ (m - 1) % 2) 1

-- "A row with no string present holds no frame"
unfoldable pub holds_frame : ℕ → Bool
holds_frame mask = not (eqb (mask % 2 ^ 15) 0)

-- string m, whatever its bytes are
abbrev pub string_in : List ℕ → ℕ → ℕ
string_in strings m = string_at strings (m - 1)

-- the frame of a start, a mask and the bytes of fifteen strings
abbrev pub framed : ℕ → ℕ → List ℕ → Frame
framed start mask strings =
    record { held = holds_frame mask; start = start; has = λ m. is_present mask m; text = λ m. pick (is_present mask m) (string_in strings m) 0 }

-- what a row holds of a frame: its start, its mask, its bytes
pub record Held : Type 0 where
  pub start : ℕ
  pub mask : ℕ
  pub bytes : List ℕ

abbrev pub held : ℕ → ℕ → List ℕ → Held
held start mask bytes = record { start = start; mask = mask; bytes = bytes }

abbrev pub held_in : Head → List ℕ → Held
held_in head bytes = held head.start head.present bytes

abbrev pub frame_in : Held → Frame
frame_in h = framed h.start h.mask h.bytes

abbrev pub held_of : Row → Held
held_of row = held row.start row.present row.strings

abbrev pub frame_of : Row → Frame
frame_of row = framed row.start row.present row.strings

-- ---- what becomes of it
-- "a reset row is all zero"
unfoldable pub empty_row : Row
empty_row = record { strings = replicate 165 0; start = 0; present = 0; immediate = record { strings = replicate 44 0; start = 0 }; tallies = none_counted }

-- ---- a string stored
-- "A new frame leaves its other fourteen strings zero"
unfoldable pub new_frame : ℕ → Held
new_frame start = record { start = start; mask = 0; bytes = replicate 165 0 }

-- the bytes of a mask's strings: zeros where it has none
abbrev pub bytes_by : ℕ → List ℕ → List ℕ
bytes_by mask bytes = pick (holds_frame mask) bytes (replicate 165 0)

-- what a taken string with this start joins
abbrev pub held_for : Held → ℕ → Held
held_for h start = pick (is_of_frame (frame_in h) start) h (new_frame start)

-- "Strings are stored plain, as the check leaves them"
unfoldable pub stored : Held → ℕ → Held
stored h n =
    record {
      start = h.start;
      mask = bit_or h.mask (2 ^ (number_in n - 1));
      bytes = sets h.bytes (11 * (number_in n - 1)) (bytes_of_string n);
    }

-- what is held after a string that is taken: "one already held changes only tallies"
unfoldable pub held_with : Held → ℕ → ℕ → Held
held_with h epoch n = pick (is_here (frame_in h) epoch n) h (stored (held_for h (start_of epoch n)) n)

-- ---- the record and the tallies
-- a row has a record, and still holds the frame that it was read from: request 11, "once the row holds another frame its string 5 counts as missing"
abbrev pub still_holds : Row → Bool
still_holds row = has_record row.immediate && is_of_frame (frame_of row) row.immediate.start

-- the row with what is held, and with a record
abbrev pub holding : Row → Held → Immediate → Row
holding row h i = record { strings = h.bytes; start = h.start; present = h.mask; immediate = i; tallies = row.tallies }

-- "they become the channel's immediate record": where the news is that one is built
abbrev pub is_built : News → Bool
is_built AlreadyHeld = false
is_built Kept = false
is_built RecordBuilt = true
is_built RecordOutOfRange = false

-- the row with the tallies moved by what became of the offer
unfoldable pub counted : Outcome → Row → Row
counted o row =
    record { strings = row.strings; start = row.start; present = row.present; immediate = row.immediate; tallies = after_offer o row.tallies }
