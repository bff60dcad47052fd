-- Which pairs a frame shows, computed from the definitions. The strings are those of a channel's table.
-- Assumes nothing.
use Rattle.std.specs.Prelude.{ℕ, List, [], ◌∷◌, ◌≡◌, refl, Some, None}
use Rattle.strings.specs.Number.{number_of, padding_of, misshapen, word_of, flip, bytes_of_string}
use Rattle.relative.specs.Relative.{read_relative}
use Rattle.strings.specs.Hamming.{position, sum_c, sum_all, syndrome, sums_set, highest, placed, judge, ruling, mended}
use Rattle.strings.specs.Calls.{sound_tests}
use Rattle.layout.specs.Layout.{layout}
use Rattle.words.specs.Values.{values_of, first_bad}
use Rattle.book.specs.Entry.{entry_of}
use Rattle.words.specs.Good.{is_good}
use Rattle.book.specs.Shows.{day_of, is_shown, three_of, shown_by}
use Rattle.channel.specs.Frame.{Frame}
use Rattle.channel.specs.History.{Call, held_after}
use Rattle.channel.specs.History.Call.{Offer}
use Rattle.channel.specs.Witness.{five, six1, six21, seven, fourteen, fifteen}
use Rattle.shows.specs.Shows.{frame_by, frame_number, shown_at}

-- a frame with string 6 as given, and one without
abbrev pub almanac : List ℕ → List Call
almanac sixth = Offer 114 fifteen ∷ Offer 113 fourteen ∷ Offer 106 seven ∷ Offer 105 sixth ∷ Offer 104 five ∷ []

abbrev pub no_six : List Call
no_six = Offer 114 fifteen ∷ Offer 113 fourteen ∷ Offer 106 seven ∷ Offer 104 five ∷ []

-- the frames that are then held, with nA 1, with nA 21, and without
unfoldable pub held_in1 : Frame
held_in1 = held_after (almanac six1)

unfoldable pub held_in5 : Frame
held_in5 = held_after (almanac six21)

unfoldable pub held_unknown : Frame
held_unknown = held_after no_six

pub record Witness : Type 0 where
  -- "In frames 1..4, strings 14 and 15 are an almanac pair; in frame 5, or with the number unknown, they are no pair"
  pub frame_1 : frame_number held_in1 ≡ 1
  pub pair_in_1 : shown_at held_in1 14 ≡ Some (5, record { even = 258; odd = 6; day = 8766; etop = 5; otop = 3 })
  pub frame_5 : frame_number held_in5 ≡ 5
  pub pair_in_5 : shown_at held_in5 14 ≡ None
  pub frame_unknown : frame_number held_unknown ≡ 0
  pub pair_in_unknown : shown_at held_unknown 14 ≡ None
  -- "Pairs 6-7 to 12-13 need no frame number"
  pub pair_6_in_5 : shown_at held_in5 6 ≡ Some (21, record { even = 0; odd = 2; day = 8766; etop = 21; otop = 0 })

pub witness : Witness
unfolding five six1 six21 seven fourteen fifteen held_in1 held_in5 held_unknown sound_tests number_of padding_of misshapen word_of flip bytes_of_string read_relative position sum_c sum_all syndrome sums_set highest placed judge ruling mended layout values_of first_bad entry_of is_good day_of is_shown three_of shown_by frame_by held_after
witness =
    record { frame_1 = refl; pair_in_1 = refl; frame_5 = refl; pair_in_5 = refl; frame_unknown = refl; pair_in_unknown = refl; pair_6_in_5 = refl }
