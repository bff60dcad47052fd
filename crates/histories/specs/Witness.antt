-- Histories of a station and what the rules make of them, computed from the definitions: one table. The sentences in quotes are the client's.
-- Assumes nothing.
use Rattle.std.specs.Prelude.{ℕ, ◌+◌, ◌*◌, ◌^◌, List, [], ◌∷◌, ◌++◌, ◌≡◌, refl, set, replicate}
use Rattle.std.proofs.Common.{sym, ◌∙◌}
use Rattle.strings.specs.Number.{number_of, padding_of, misshapen, word_of, flip, bytes_of_string}
use Rattle.relative.specs.Relative.{read_relative, write_relative}
use Rattle.relative.specs.Polarity.{first_symbol}
use Rattle.strings.specs.Hamming.{position, sum_c, sum_all, syndrome, sums_set, highest, placed, judge, ruling, mended, sums_made, encode}
use Rattle.strings.specs.Numbers.{answer_of}
use Rattle.strings.specs.Calls.{sound_tests}
use Rattle.layout.specs.Layout.{layout}
use Rattle.words.specs.Values.{values_of, first_bad}
use Rattle.book.specs.declared.Book.{Book}
use Rattle.book.specs.Entry.{Three, meaning, entry_of, blank, greater}
use Rattle.words.specs.Good.{is_good}
use Rattle.book.specs.Shows.{day_of, is_shown, three_of, shown_by}
use Rattle.book.specs.Book.{in_slot, empty_book, joined, joined_shown}
use Rattle.channel.specs.declared.Row.{Row}
use Rattle.summary.specs.Walk.{none_filled, with_line, walk_from, walk_of}
use Rattle.tallies.specs.declared.Causes.{Causes}
use Rattle.tallies.specs.declared.Tallies.{Tallies}
use Rattle.tallies.specs.Tallies.{one_more, causes_after, none_counted}
use Rattle.immediate.specs.Kept.{has_record}
use Rattle.channel.specs.Row.{is_present, holds_frame, empty_row, new_frame, stored, held_with, counted}
use Rattle.channel.specs.Offers.{taken_row}
use Rattle.shows.specs.Shows.{frame_by, brought, changes}
use Rattle.channel.specs.History.{Reset as ResetIt, held_after}
use Rattle.channel.specs.Witness.{whole, in_bytes, sent, sent_damaged, one, two, three, four, four', five, six1, seven, fourteen, fifteen, ten}
use Rattle.station.specs.declared.Station.{Station}
use Rattle.station.specs.declared.Health.{Health}
use Rattle.station.specs.declared.Health.TheVariants.{Unknown, Usable, NotUsable}
use Rattle.station.specs.Station.{fresh_station, no_row, row_at, is_served, station_tests, told_in, station_after, station_reset}
use Rattle.station.specs.Queries.{kept_at, record_tests, entry_tests, three_numbers, judged, health_by}
use Rattle.station.specs.History.{Call, Offer, Reset, calls_on, calls_by, said_after, whole as all, earlier, ShownIn, station_of}
use Rattle.station.proofs.AfterOffer.{same_station}

-- ---- strings in bytes, as they are sent, besides those of a channel's table: there `five` is of day 8766, `six1` has nA 1 and C 0, `three` has l 0, and
-- `four` has n 2 and M 01, `four'` n 2 and M 10. The table's first fields say which each is
-- string 6 with nA 2 and C 0; with nA 1 and greater bits than `six1`; with nA 2 and C 1
unfoldable pub six2 : List ℕ
six2 = 0x20 ∷ 0x1F ∷ 0xFF ∷ 0xFF ∷ 0xFF ∷ 0xFF ∷ 0xFF ∷ 0xFF ∷ 0xFF ∷ 0xFC ∷ 0x60 ∷ []

unfoldable pub six_above : List ℕ
six_above = 0x20 ∷ 0x0F ∷ 0xFF ∷ 0xFF ∷ 0xFF ∷ 0xFF ∷ 0xFF ∷ 0xFF ∷ 0xFF ∷ 0x8C ∷ 0x50 ∷ []

unfoldable pub six_good : List ℕ
six_good = 0x27 ∷ 0xE0 ∷ 0 ∷ 0 ∷ 0 ∷ 0 ∷ 0 ∷ 0 ∷ 0 ∷ 0 ∷ 0x30 ∷ []

-- string 5 of the next day, 8767: N4 7 and NA 1
unfoldable pub five_next : List ℕ
five_next = 0x30 ∷ 0x01 ∷ 0xFF ∷ 0xFF ∷ 0xFF ∷ 0xFF ∷ 0xE8 ∷ 0 ∷ 0 ∷ 0x04 ∷ 0x90 ∷ []

-- string 2 with the top bit of B at 1, and tb 1
unfoldable pub two_ill : List ℕ
two_ill = 0x18 ∷ 0x01 ∷ 0xFF ∷ 0xFF ∷ 0xFF ∷ 0xFF ∷ 0xFF ∷ 0xFF ∷ 0xFF ∷ 0xFC ∷ 0x90 ∷ []

-- string 3 with l 1; string 4 with n 2 and M 00; with n 2 and M 11
unfoldable pub three_raised : List ℕ
three_raised = 0x10 ∷ 0 ∷ 0x0F ∷ 0xFF ∷ 0xFF ∷ 0xFF ∷ 0xFF ∷ 0xFF ∷ 0xFF ∷ 0xFE ∷ 0xA0 ∷ []

unfoldable pub four00 : List ℕ
four00 = 0x3F ∷ 0xFF ∷ 0xFF ∷ 0xFF ∷ 0xFF ∷ 0xFF ∷ 0xFF ∷ 0xFF ∷ 0xFF ∷ 0x83 ∷ 0x30 ∷ []

unfoldable pub four11 : List ℕ
four11 = 0x3F ∷ 0xFF ∷ 0xFF ∷ 0xFF ∷ 0xFF ∷ 0xFF ∷ 0xFF ∷ 0xFF ∷ 0xFF ∷ 0x93 ∷ 0x10 ∷ []

-- string 8 with two bits wrong
unfoldable pub damaged : List ℕ
damaged = 0x7F ∷ 0xFF ∷ 0xFF ∷ 0xFF ∷ 0xFF ∷ 0xFF ∷ 0xFF ∷ 0xFF ∷ 0xFF ∷ 0xEB ∷ 0x10 ∷ []

-- ---- histories, the latest call first, and the stations that they leave. Frames start at 100; one starts at 115
-- on channel 3 strings 5 and 6; then string 7
abbrev pub half_calls : List Call
half_calls = Offer 1 3 105 six1 ∷ Offer 1 3 104 five ∷ []

abbrev pub entry_calls : List Call
entry_calls = Offer 1 3 106 seven ∷ half_calls

unfoldable pub half : Station
half = station_of half_calls

unfoldable pub entry : Station
entry = station_of entry_calls

-- strings 5 and 6, and then 5 and 7 of the next frame; of another channel
unfoldable pub two_frames : Station
two_frames = station_of (Offer 1 3 121 seven ∷ Offer 1 3 119 five ∷ half_calls)

unfoldable pub two_channels : Station
two_channels = station_of (Offer 1 7 106 seven ∷ Offer 1 7 104 five ∷ half_calls)

-- strings 5 and 6 on a channel of each card, with the same nA and day and other bits; then string 7 on the one and on the other
abbrev pub tie_calls : List Call
tie_calls = Offer 2 31 105 six_above ∷ Offer 2 31 104 five ∷ half_calls

unfoldable pub greater_last : Station
greater_last = station_of (Offer 2 31 106 seven ∷ Offer 1 3 106 seven ∷ tie_calls)

unfoldable pub greater_first : Station
greater_first = station_of (Offer 1 3 106 seven ∷ Offer 2 31 106 seven ∷ tie_calls)

-- what these two leave, written out: the strings, plain; a row with strings 5, 6 and 7, all clean, and no record; rows 3 and 31 among empty ones; the book
abbrev pub plain_five : List ℕ
plain_five = 0x2D ∷ 0xB5 ∷ 0 ∷ 0 ∷ 0 ∷ 0 ∷ 0x18 ∷ 0 ∷ 0 ∷ 0x02 ∷ 0x60 ∷ []

abbrev pub plain_six : List ℕ
plain_six = 0x30 ∷ 0x08 ∷ 0 ∷ 0 ∷ 0 ∷ 0 ∷ 0 ∷ 0 ∷ 0 ∷ 0x06 ∷ 0x58 ∷ []

abbrev pub plain_six_above : List ℕ
plain_six_above = 0x30 ∷ 0x08 ∷ 0 ∷ 0 ∷ 0 ∷ 0 ∷ 0 ∷ 0 ∷ 0 ∷ 0x4A ∷ 0x78 ∷ []

abbrev pub plain_seven : List ℕ
plain_seven = 0x38 ∷ 0 ∷ 0 ∷ 0 ∷ 0 ∷ 0 ∷ 0 ∷ 0 ∷ 0 ∷ 0x22 ∷ 0xA8 ∷ []

abbrev pub none_refused : Causes
none_refused = none_counted.causes

-- one of two wrong bits, 32
abbrev pub one_even_refused : Causes
one_even_refused = record { shape = 0; unplaced = 0; even = 1; outside = 0; idle = 0; number = 0; early = 0; stale = 0; offbeat = 0; conflict = 0 }

abbrev pub held_row : List ℕ → Row
held_row sixth =
    record {
      strings = replicate 44 0 ++ (plain_five ++ (sixth ++ (plain_seven ++ replicate 88 0)));
      start = 100;
      present = 0b1110000;
      immediate = record { strings = replicate 44 0; start = 0 };
      tallies = record { offered = 3; clean = 3; repaired = 0; refused = 0; causes = none_refused };
    }

unfoldable pub tied_rows : List Row
tied_rows = replicate 3 empty_row ++ (held_row plain_six ∷ (replicate 27 empty_row ++ (held_row plain_six_above ∷ replicate 16 empty_row)))

unfoldable pub tied_book : Book
tied_book = record { entries = record { even = 9; odd = 2; day = 8766; etop = 1; otop = 0 } ∷ replicate 23 blank }

-- the same, but channel 3 has the next day with the lesser bits
unfoldable pub next_day : Station
next_day =
    station_of (Offer 2 31 106 seven ∷ Offer 1 3 106 seven ∷ Offer 2 31 105 six_above ∷ Offer 2 31 104 five ∷ Offer 1 3 105 six1 ∷ Offer 1 3 104 five_next ∷ [])

-- string 6 after 5, 7, 14 and 15
unfoldable pub six_last : Station
six_last = station_of (Offer 1 3 105 six1 ∷ Offer 1 3 114 fifteen ∷ Offer 1 3 113 fourteen ∷ Offer 1 3 106 seven ∷ Offer 1 3 104 five ∷ [])

-- strings 1..4 on channel 3, strings 2, 3 and 4 being as given, or string 2 alone; then an entry on channel 31, by card two, string 6 being as given
abbrev pub record_of : List ℕ → List ℕ → List ℕ → List Call
record_of second third fourth = Offer 1 3 103 fourth ∷ Offer 1 3 102 third ∷ Offer 1 3 101 second ∷ Offer 1 3 100 one ∷ []

abbrev pub record_calls : List ℕ → List Call
record_calls second = record_of second three four

abbrev pub then_entry : List ℕ → List Call → List Call
then_entry sixth cs = Offer 2 31 106 seven ∷ Offer 2 31 105 sixth ∷ Offer 2 31 104 five ∷ cs

unfoldable pub record_alone : Station
record_alone = station_of (record_calls two)

unfoldable pub good_entry : Station
good_entry = station_of (then_entry six_good (record_calls two))

unfoldable pub ill_entry : Station
ill_entry = station_of (then_entry six2 (record_calls two))

unfoldable pub ill_record : Station
ill_record = station_of (then_entry six_good (record_calls two_ill))

-- l 1 and each M, the entry being good; and B ill too
abbrev pub raised_with : List ℕ → List ℕ → Station
raised_with second fourth = station_of (then_entry six_good (record_of second three_raised fourth))

unfoldable pub raised01 : Station
raised01 = raised_with two four

unfoldable pub raised10 : Station
raised10 = raised_with two four'

unfoldable pub raised11 : Station
raised11 = raised_with two four11

unfoldable pub raised00 : Station
raised00 = raised_with two four00

unfoldable pub ill_raised00 : Station
ill_raised00 = raised_with two_ill four00

-- l 0 first, and in the next frame 1; then its string 4
abbrev pub later_calls : List Call
later_calls = Offer 1 3 117 three_raised ∷ Offer 1 3 116 two ∷ Offer 1 3 115 one ∷ then_entry six_good (record_calls two)

unfoldable pub later_raised : Station
later_raised = station_of later_calls

unfoldable pub later_record : Station
later_record = station_of (Offer 1 3 118 four ∷ later_calls)

-- ---- what is told of them
-- the entry of slot 1 that strings 5, `six1` and 7 show
abbrev pub lesser : Three
lesser = record { day = 8766; even = 18446744073709551616; odd = 2 }

abbrev pub slot_of : Station → ℕ → Three
slot_of st k = meaning (in_slot st.book k)

abbrev pub entry_asked : Station → ℕ → ℕ → List ℕ
entry_asked st card k = answer_of (entry_tests st card k) (three_numbers (slot_of st k))

abbrev pub health_of : Station → ℕ → Health
health_of st c = health_by (kept_at st c) st.book

-- a row with other tallies; a station with other tallies in one row
abbrev pub with_tallies : Tallies → Row → Row
with_tallies t row = record { strings = row.strings; start = row.start; present = row.present; immediate = row.immediate; tallies = t }

abbrev pub tallies_moved : Station → ℕ → Tallies → Station
tallies_moved st c t = record { rows = set st.rows c (with_tallies t (row_at st c)); book = st.book; summary = st.summary }

pub record Witness : Type 0 where
  -- ---- the strings
  pub six2_sent : six2 ≡ sent 6 (2 * 2 ^ 64)
  pub six_above_sent : six_above ≡ sent 6 (2 ^ 64 + 9)
  pub six_good_sent : six_good ≡ sent 6 (2 ^ 71 + 2 * 2 ^ 64)
  pub five_next_sent : five_next ≡ sent 5 (2 ^ 61 + 7 * 2 ^ 23)
  pub two_ill_sent : two_ill ≡ sent 2 (2 ^ 71 + 2 ^ 61)
  pub three_raised_sent : three_raised ≡ sent 3 (2 ^ 56)
  pub four00_sent : four00 ≡ sent 4 (2 * 2 ^ 2)
  pub four11_sent : four11 ≡ sent 4 (2 * 2 ^ 2 + 3)
  pub damaged_sent : damaged ≡ sent_damaged 8 0 9 10
  -- ---- the book
  -- strings 5, 6 and 7 of one frame show an entry: its day, and the bits of its two halves
  pub entry_there : slot_of entry 1 ≡ record { day = 8766; even = 18446744073709551616; odd = 2 }
  pub entry_asked_lem : entry_asked entry 1 1 ≡ 0 ∷ 8766 ∷ 18446744073709551616 ∷ 2 ∷ []
  -- and it is shown still when the row was reset: "that any channel has shown since the start"
  pub entry_shown : ShownIn (Reset 1 3 ∷ entry_calls) 1 lesser
  -- one half never came: "a slot is empty exactly when none was shown"
  pub half_missing : (in_slot half.book 1).day ≡ 0
  pub half_asked : entry_asked half 1 1 ≡ 13 ∷ []
  -- "both halves and the day coming from one frame of one channel"
  pub two_frames_lem : two_frames.book ≡ empty_book
  pub two_channels_lem : two_channels.book ≡ empty_book
  -- an equal day: the slot holds the greater bits, in either order
  pub tie_last : slot_of greater_last 1 ≡ record { day = 8766; even = 18446744073709551625; odd = 2 }
  pub tie_first : slot_of greater_first 1 ≡ record { day = 8766; even = 18446744073709551625; odd = 2 }
  -- and the two whole stations are the one that is written out above
  pub last_rows : greater_last.rows ≡ tied_rows
  pub last_book : greater_last.book ≡ tied_book
  pub first_rows : greater_first.rows ≡ tied_rows
  pub first_book : greater_first.book ≡ tied_book
  pub last_summary : greater_last.summary ≡ record { count = 1; oldest = 8766; newest = 8766 }
  pub first_summary : greater_first.summary ≡ record { count = 1; oldest = 8766; newest = 8766 }
  -- as are the answers
  pub answer_alone : said_after tie_calls (Offer 1 3 106 seven) ≡ 0 ∷ 7 ∷ 0 ∷ 0 ∷ 1 ∷ 0 ∷ []
  pub answer_after : said_after (Offer 2 31 106 seven ∷ tie_calls) (Offer 1 3 106 seven) ≡ 0 ∷ 7 ∷ 0 ∷ 0 ∷ 1 ∷ 0 ∷ []
  -- "by day and then by bits"
  pub next_day_lem : slot_of next_day 1 ≡ record { day = 8767; even = 18446744073709551616; odd = 2 }
  -- "Each string newly stored brings all entries that its frame then shows to the book"
  pub six_last_1 : slot_of six_last 1 ≡ lesser
  pub six_last_5 : slot_of six_last 5 ≡ record { day = 8766; even = 92233720368547758338; odd = 55340232221128654854 }
  -- ---- "a refused string changes nothing but its channel's tallies of strings offered and refused", and its own cause's
  pub tallies_before : (row_at entry 3).tallies ≡ record { offered = 3; clean = 3; repaired = 0; refused = 0; causes = none_refused }
  pub refused_said : answer_of (station_tests entry 1 3 107 damaged) (told_in entry 3 107 damaged) ≡ 32 ∷ []
  pub refused_leaves : station_of (Offer 1 3 107 damaged ∷ entry_calls) ≡ tallies_moved entry 3 (record { offered = 4; clean = 3; repaired = 0; refused = 1; causes = one_even_refused })
  -- "one already held changes only tallies"
  pub again_said : answer_of (station_tests entry 1 3 106 seven) (told_in entry 3 106 seven) ≡ 0 ∷ 7 ∷ 0 ∷ 0 ∷ 0 ∷ 0 ∷ []
  pub again_leaves : station_of (Offer 1 3 106 seven ∷ entry_calls) ≡ tallies_moved entry 3 (record { offered = 4; clean = 4; repaired = 0; refused = 0; causes = none_refused })
  -- "CHANNEL changes nothing at all", and is tested before SHAPE: ten bytes. Channel 23 is the last of card one's
  pub channel_said : answer_of (station_tests entry 1 48 107 ten) (told_in entry 48 107 ten) ≡ 1 ∷ []
  pub channel_leaves : station_of (Offer 1 48 107 one ∷ entry_calls) ≡ entry
  pub channel_23 : answer_of (station_tests entry 1 23 107 one) (told_in entry 23 107 one) ≡ 0 ∷ 1 ∷ 0 ∷ 0 ∷ 1 ∷ 0 ∷ []
  pub no_reset_said : said_after entry_calls (Reset 1 48) ≡ 1 ∷ []
  pub no_reset_leaves : station_of (Reset 1 48 ∷ entry_calls) ≡ entry
  -- ---- "A reset empties the row, record and tallies; the book stays", and its summary
  pub reset_said : said_after entry_calls (Reset 1 3) ≡ 0 ∷ []
  pub reset_leaves : station_of (Reset 1 3 ∷ entry_calls) ≡ record { rows = fresh_station.rows; book = entry.book; summary = entry.summary }
  pub reset_record : station_of (Reset 1 3 ∷ record_calls two) ≡ fresh_station
  -- ---- health
  -- with M 01 and l 0: "usable if the record has the top bit of B at 0 and the entry has C = 1, and not usable if either fails"
  pub usable : health_of good_entry 3 ≡ Usable
  pub not_by_C : health_of ill_entry 3 ≡ NotUsable
  pub not_by_B : health_of ill_record 3 ≡ NotUsable
  -- "usable only if the top bit of B is 0, l of string 3 is 0 and the book has C = 1"; "Other codes of M are read as 01."
  pub raised_01 : health_of raised01 3 ≡ NotUsable
  pub raised_10 : health_of raised10 3 ≡ NotUsable
  pub raised_11 : health_of raised11 3 ≡ NotUsable
  -- "With M = 00, bit 65 of string 3 is a reserved bit and plays no part in health"
  pub raised_00 : health_of raised00 3 ≡ Usable
  pub ill_raised_00 : health_of ill_raised00 3 ≡ NotUsable
  -- the next frame has l 1, but its string 4 has not come, and the record is the former one; then it comes
  pub later_raised_lem : health_of later_raised 3 ≡ Usable
  pub later_record_lem : health_of later_record 3 ≡ NotUsable
  -- "Without a record, or without a book entry for its n, a channel's satellite is unknown"
  pub no_record : health_of good_entry 31 ≡ Unknown
  pub no_entry : health_of record_alone 3 ≡ Unknown
  -- ---- "Queries: 1 or 14, then 13"
  pub slot_0 : entry_asked entry 1 0 ≡ 14 ∷ []
  pub slot_25 : entry_asked entry 1 25 ≡ 14 ∷ []
  pub record_there : answer_of (record_tests good_entry 1 3) [] ≡ 0 ∷ []
  pub record_absent : answer_of (record_tests good_entry 2 31) [] ≡ 13 ∷ []
  pub record_channel : answer_of (record_tests good_entry 1 48) [] ≡ 1 ∷ []

pub witness : Witness
unfolding whole in_bytes sent sent_damaged one two three four four' five six1 seven fourteen fifteen six2 six_above six_good five_next two_ill three_raised four00 four11 damaged sound_tests number_of padding_of misshapen word_of flip bytes_of_string read_relative write_relative first_symbol position sum_c sum_all syndrome sums_set highest placed judge ruling mended sums_made encode layout values_of first_bad entry_of greater is_good day_of is_shown three_of shown_by empty_book joined joined_shown one_more causes_after is_present holds_frame has_record empty_row new_frame stored held_with counted taken_row frame_by brought changes none_filled with_line walk_from walk_of held_after fresh_station no_row is_served station_after station_reset judged health_by calls_by said_after station_of half entry two_frames two_channels greater_last greater_first tied_rows tied_book next_day six_last record_alone good_entry ill_entry ill_record raised01 raised10 raised11 raised00 ill_raised00 later_raised later_record
witness =
    record {
      six2_sent = refl;
      six_above_sent = refl;
      six_good_sent = refl;
      five_next_sent = refl;
      two_ill_sent = refl;
      three_raised_sent = refl;
      four00_sent = refl;
      four11_sent = refl;
      damaged_sent = refl;
      entry_there = refl;
      entry_asked_lem = refl;
      entry_shown =
          record {
            card = 1;
            channel = 3;
            served = refl;
            moment = calls_on 3 entry_calls;
            within = earlier ResetIt (calls_on 3 entry_calls) (calls_on 3 entry_calls) (all (calls_on 3 entry_calls));
            pair = 6;
            named = refl;
            shows = refl;
          };
      half_missing = refl;
      half_asked = refl;
      two_frames_lem = refl;
      two_channels_lem = refl;
      tie_last = refl;
      tie_first = refl;
      last_rows = refl;
      last_book = refl;
      first_rows = refl;
      first_book = refl;
      last_summary = refl;
      first_summary = refl;
      answer_alone = refl;
      answer_after = refl;
      next_day_lem = refl;
      six_last_1 = refl;
      six_last_5 = refl;
      tallies_before = refl;
      refused_said = refl;
      refused_leaves = refl;
      again_said = refl;
      again_leaves = refl;
      channel_said = refl;
      channel_leaves = refl;
      channel_23 = refl;
      no_reset_said = refl;
      no_reset_leaves = refl;
      reset_said = refl;
      reset_leaves = refl;
      reset_record = refl;
      usable = refl;
      not_by_C = refl;
      not_by_B = refl;
      raised_01 = refl;
      raised_10 = refl;
      raised_11 = refl;
      raised_00 = refl;
      ill_raised_00 = refl;
      later_raised_lem = refl;
      later_record_lem = refl;
      no_record = refl;
      no_entry = refl;
      slot_0 = refl;
      slot_25 = refl;
      record_there = refl;
      record_absent = refl;
      record_channel = refl;
    }

-- so: "Exchange two neighbouring calls on different channels: .. the whole station afterwards are unchanged"
pub exchanged : greater_last ≡ greater_first
exchanged =
    same_station greater_last greater_first (witness.last_rows ∙ sym witness.first_rows) (witness.last_book ∙ sym witness.first_book)
    (witness.last_summary ∙ sym witness.first_summary)
