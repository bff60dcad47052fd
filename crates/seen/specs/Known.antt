-- What a line tells of strings that are refused (the paper, the end of "Known strings and edges": "repaired bit (0 if none or number 1..4), m (0 for
-- 1..5)"), computed from the definitions.
-- Assumes nothing.
use Rattle.std.specs.Prelude.{ℕ, ◌+◌, ◌^◌, List, [], ◌∷◌, ◌≡◌, refl, get_or, Err}
use Rattle.channel.specs.Offers.{took}
use Rattle.strings.specs.declared.Refusal.{Refusal}
use Rattle.strings.specs.declared.Refusal.TheVariants.{Channel, Shape, Damaged, Idle, Number, Early, Stale, OffBeat, Conflict, Range, Place, Room, Nothing, Slot, Owner, Card}
use Rattle.strings.specs.declared.hamming.Damage.TheVariants.{Unplaced, Even, Outside}
use Rattle.strings.specs.Pick.{is_one_of}
use Rattle.strings.specs.Number.{number_of, padding_of, misshapen, word_of, flip, bytes_of_string}
use Rattle.strings.specs.Hamming.{position, sum_c, sum_all, syndrome, sums_set, highest, placed, judge, ruling, mended, sums_made, encode}
use Rattle.strings.specs.Numbers.{refusal_paper}
use Rattle.strings.specs.Calls.{sound_tests}
use Rattle.relative.specs.declared.Polarity.TheVariants.{Upright, Inverted}
use Rattle.relative.specs.Relative.{read_relative, write_relative, inverse}
use Rattle.relative.specs.Polarity.{first_symbol}
use Rattle.strings.specs.declared.Verdict.TheVariants.{Repaired}
use Rattle.channel.specs.declared.News.TheVariants.{Kept}
use Rattle.seen.specs.Seen.{seen, seen_in, comes_before_verdict, seen_by}

-- ---- strings as they are sent
abbrev pub sent : ℕ → List ℕ
sent n = bytes_of_string (write_relative n)

-- strings without data, encoded: string 0, and string 1, with bit 9 wrong; string 1 with bit 8 wrong, with bits 9 and 10, and with bits 84, 3 and 8
abbrev pub zero_repaired : List ℕ
zero_repaired = sent (flip (encode 0) 9)

abbrev pub one_repaired : List ℕ
one_repaired = sent (flip (encode (2 ^ 80)) 9)

abbrev pub one_unplaced : List ℕ
one_unplaced = sent (flip (encode (2 ^ 80)) 8)

abbrev pub one_even : List ℕ
one_even = sent (flip (flip (encode (2 ^ 80)) 9) 10)

abbrev pub one_outside : List ℕ
one_outside = sent (flip (flip (flip (encode (2 ^ 80)) 84) 3) 8)

-- string 1 with bit 85 set: it is read as 0, and repaired to 1
abbrev pub one_idle : List ℕ
one_idle = sent (encode (2 ^ 84 + 2 ^ 80))

-- with all 85 symbols inverted
abbrev pub inverted : List ℕ → List ℕ
inverted s = bytes_of_string (inverse (number_of s))

pub record Known : Type 0 where
  -- the repaired bit is told after NUMBER, and there m is 0; after STALE both are
  pub number : seen_by (Err Number) zero_repaired ≡ seen 9 0 0
  pub stale : seen_by (Err Stale) one_repaired ≡ seen 9 1 0
  -- no refusal tells a polarity: the same string inverted is seen as it was; a taken one tells it
  pub stale_inverted : seen_by (Err Stale) (inverted one_repaired) ≡ seen 9 1 0
  pub taken : seen_by (took 1 (Repaired 9) Kept Upright) one_repaired ≡ seen 9 1 0
  pub taken_inverted : seen_by (took 1 (Repaired 9) Kept Inverted) (inverted one_repaired) ≡ seen 9 1 1
  -- after DAMAGED, by each of its causes, and after IDLE neither is
  pub unplaced : seen_by (Err (Damaged Unplaced)) one_unplaced ≡ seen 0 0 0
  pub even : seen_by (Err (Damaged Even)) one_even ≡ seen 0 0 0
  pub outside : seen_by (Err (Damaged Outside)) one_outside ≡ seen 0 0 0
  pub idle : seen_by (Err Idle) one_idle ≡ seen 0 0 0
  -- "number 1..4", where "the listing's zeros treat each as 3" of 31 to 33
  pub before_verdict : (q : Refusal) → comes_before_verdict q ≡ is_one_of (16 ∷ 1 ∷ 15 ∷ 2 ∷ 31 ∷ 32 ∷ 33 ∷ 4 ∷ []) (get_or (refusal_paper q) 0 0)

by_number : (q : Refusal) → comes_before_verdict q ≡ is_one_of (16 ∷ 1 ∷ 15 ∷ 2 ∷ 31 ∷ 32 ∷ 33 ∷ 4 ∷ []) (get_or (refusal_paper q) 0 0)
by_number Channel = refl
by_number Shape = refl
by_number (Damaged Unplaced) = refl
by_number (Damaged Even) = refl
by_number (Damaged Outside) = refl
by_number Idle = refl
by_number Number = refl
by_number Early = refl
by_number Stale = refl
by_number OffBeat = refl
by_number Conflict = refl
by_number (Range place) = refl
by_number Place = refl
by_number Room = refl
by_number Nothing = refl
by_number Slot = refl
by_number Owner = refl
by_number Card = refl

pub known : Known
unfolding sound_tests number_of padding_of misshapen word_of flip bytes_of_string position sum_c sum_all syndrome sums_set highest placed judge ruling mended sums_made encode read_relative write_relative inverse first_symbol seen_in seen_by
known =
    record {
      number = refl;
      stale = refl;
      stale_inverted = refl;
      taken = refl;
      taken_inverted = refl;
      unplaced = refl;
      even = refl;
      outside = refl;
      idle = refl;
      before_verdict = by_number;
    }
