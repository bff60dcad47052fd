-- A block handed to a station that is not fresh, computed from the definitions: two offers, a remark, a reset, an offer to the other card's channel, one to a
-- channel that there is not, and an unknown tag with an offer behind it. Card one hands it over, then card two, then a card that there is not.
-- Assumes nothing.
use Rattle.std.specs.Prelude.{ℕ, List, [], ◌∷◌, ◌++◌, ◌≡◌, refl}
use Rattle.strings.specs.Number.{number_of, padding_of, misshapen, word_of, flip, bytes_of_string}
use Rattle.relative.specs.Relative.{read_relative, write_relative}
use Rattle.relative.specs.Polarity.{first_symbol}
use Rattle.strings.specs.Hamming.{position, sum_c, sum_all, syndrome, sums_set, highest, placed, judge, ruling, mended}
use Rattle.strings.specs.Calls.{sound_tests}
use Rattle.layout.specs.Layout.{layout}
use Rattle.words.specs.Values.{values_of, first_bad}
use Rattle.words.specs.Good.{is_good as goodWords}
use Rattle.book.specs.Entry.{entry_of, greater}
use Rattle.book.specs.Shows.{day_of, is_shown, three_of, shown_by}
use Rattle.book.specs.Book.{empty_book, joined as joinedBook, joined_shown}
use Rattle.tallies.specs.Tallies.{one_more, causes_after}
use Rattle.immediate.specs.Kept.{has_record}
use Rattle.channel.specs.Row.{is_present, holds_frame, empty_row, new_frame, stored, held_with, counted}
use Rattle.channel.specs.Offers.{taken_row}
use Rattle.channel.specs.Witness.{one, two, three}
use Rattle.shows.specs.Shows.{frame_by, brought}
use Rattle.fields.specs.Fields.{is_good, size_in}
use Rattle.fields.specs.Block.{Offer, Reset, call_in, fields_over, fields_in, calls_of, calls_in, joined, end_from, end_in}
use Rattle.station.specs.declared.Station.{Station}
use Rattle.station.specs.Station.{fresh_station, no_row, row_at, is_served, station_after, station_reset}
use Rattle.station.specs.Queries.{all_counts}
use Rattle.blocks.specs.Taking.{answer_in, after_call, after_calls, answers_to}

-- string 1 was taken on channel 3 at epoch 100, and string 2 on channel 7 at epoch 101
unfoldable pub before : Station
before = station_after (station_after fresh_station 1 3 100 one) 1 7 101 two

abbrev offer_bytes : ℕ → ℕ → List ℕ → List ℕ
offer_bytes channel epoch string = 1 ∷ 0 ∷ 16 ∷ channel ∷ 0 ∷ 0 ∷ 0 ∷ epoch ∷ string

-- string 2 on channel 3 at epoch 101; string 3 on channel 7 at epoch 103, off its beat; a remark of two bytes; a reset of channel 3; string 1 on channel 24,
-- and on channel 48; tag 9
abbrev pub block : List ℕ
block =
    offer_bytes 3 101 two
    ++ (offer_bytes 7 103 three
    ++ (3 ∷ 0 ∷ 2 ∷ 1 ∷ 0 ∷ (2 ∷ 0 ∷ 1 ∷ 3 ∷ (offer_bytes 24 5 one ++ (offer_bytes 48 5 one ++ (9 ∷ 0 ∷ 0 ∷ offer_bytes 7 102 three))))))

pub record Witness : Type 0 where
  -- its calls, and where the work stops
  pub calls : calls_in block ≡ Offer 3 101 two ∷ Offer 7 103 three ∷ Reset 3 ∷ Offer 24 5 one ∷ Offer 48 5 one ∷ []
  pub end : end_in block ≡ 41 ∷ 85 ∷ []
  -- their answers to card one: taken as string 2, clean, kept, upright; OFF-BEAT, which stops nothing; done; OWNER; CHANNEL
  pub answers : answers_to before 1 (calls_in block) ≡ (0 ∷ 2 ∷ 0 ∷ 0 ∷ 1 ∷ 0 ∷ []) ∷ (8 ∷ []) ∷ (0 ∷ []) ∷ (15 ∷ []) ∷ (1 ∷ []) ∷ []
  -- channel 3 is empty again; channel 7 holds string 2 alone, and counts what was refused, under 8; the offer behind the unknown tag was not made
  pub third_row : row_at (after_calls before 1 (calls_in block)) 3 ≡ empty_row
  pub seventh_row : (row_at (after_calls before 1 (calls_in block)) 7).present ≡ 0b10
  pub seventh_counts : all_counts (row_at (after_calls before 1 (calls_in block)) 7).tallies ≡ 2 ∷ 1 ∷ 0 ∷ 1 ∷ 0 ∷ 0 ∷ 0 ∷ 0 ∷ 0 ∷ 0 ∷ 0 ∷ 0 ∷ 1 ∷ 0 ∷ []
  -- to card two: OWNER three times, and string 1 begins a frame on channel 24; channel 3 still holds its string, and nothing was counted on channel 7
  pub other_answers : answers_to before 2 (calls_in block) ≡ (15 ∷ []) ∷ (15 ∷ []) ∷ (15 ∷ []) ∷ (0 ∷ 1 ∷ 0 ∷ 0 ∷ 1 ∷ 0 ∷ []) ∷ (1 ∷ []) ∷ []
  pub other_third : row_at (after_calls before 2 (calls_in block)) 3 ≡ row_at before 3
  pub other_seventh : row_at (after_calls before 2 (calls_in block)) 7 ≡ row_at before 7
  pub other_own : (row_at (after_calls before 2 (calls_in block)) 24).present ≡ 0b1
  -- to card three: CARD each time, and the station is as it was
  pub no_card_answers : answers_to before 3 (calls_in block) ≡ (16 ∷ []) ∷ (16 ∷ []) ∷ (16 ∷ []) ∷ (16 ∷ []) ∷ (16 ∷ []) ∷ []
  pub no_card_station : after_calls before 3 (calls_in block) ≡ before

pub witness : Witness
unfolding before one two three sound_tests number_of padding_of misshapen word_of flip bytes_of_string read_relative write_relative first_symbol position sum_c sum_all syndrome sums_set highest placed judge ruling mended layout values_of first_bad goodWords entry_of greater day_of is_shown three_of shown_by empty_book joinedBook joined_shown one_more causes_after is_present holds_frame has_record empty_row new_frame stored held_with counted taken_row frame_by brought fresh_station no_row is_served station_after station_reset is_good size_in call_in fields_over fields_in calls_of joined end_from answer_in after_call after_calls answers_to
witness =
    record {
      calls = refl;
      end = refl;
      answers = refl;
      third_row = refl;
      seventh_row = refl;
      seventh_counts = refl;
      other_answers = refl;
      other_third = refl;
      other_seventh = refl;
      other_own = refl;
      no_card_answers = refl;
      no_card_station = refl;
    }
