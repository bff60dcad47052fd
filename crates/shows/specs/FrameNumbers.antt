-- The number of a frame (the paper, "Frames and the book"): "string 6 of the held frame with nA 1, 6, 11, 16 or 21 means frame 1..5 (Table 4.1)".
-- The proof of what it says of a frame stands in `proofs/FrameNumbers.antt`.
-- Assumes nothing.
use Rattle.std.specs.Prelude.{ℕ, true, false, List, [], ◌∷◌, map, ◌≡◌, refl, get_or}
use Rattle.strings.specs.Number.{word_of}
use Rattle.strings.specs.Table413.{◌to◌}
use Rattle.channel.specs.Frame.{Frame}
use Rattle.shows.specs.Shows.{frame_by, frame_number}

-- at each nA, 0 to 31, the frame that begins with it; 0: none. Table 4.1 has satellites 1-5, 6-10, 11-15, 16-20 and 21-24 in frames 1 to 5
abbrev pub frames_by : List ℕ
frames_by =
    0 ∷ 1 ∷ 0 ∷ 0 ∷ 0 ∷ 0 ∷ 2 ∷ 0 ∷ 0 ∷ 0 ∷ 0 ∷ 3 ∷ 0 ∷ 0 ∷ 0 ∷ 0 ∷ 4 ∷ 0 ∷ 0 ∷ 0 ∷ 0 ∷ 5 ∷ 0 ∷ 0 ∷ 0 ∷ 0 ∷ 0 ∷ 0 ∷ 0 ∷ 0 ∷ 0 ∷ 0 ∷ []

-- Table 4.1, computed at every value of the five bits
pub table_4_1 : map frame_by (0 to 31) ≡ frames_by
unfolding frame_by
table_4_1 = refl

-- so it is by bits 77..73 of string 6, and unknown without it
pub record NumberBySix (f : Frame) : Type 0 where
  pub with_six : f.has 6 ≡ true → frame_number f ≡ get_or frames_by (word_of (f.text 6) 77 73) 0
  pub without : f.has 6 ≡ false → frame_number f ≡ 0
