-- The number of a frame, by bits 77..73 of its string 6.
-- Assumes nothing.
use mathlib.Core.Path.{◌≡◌, sym, ap, ◌∙◌}
use mathlib.Core.Bool.{Bool}
use mathlib.Core.List.{List}
use Prim.Native.Nat.{ℕ, ◌<◌}
use lib.Dec.{eqb, eqb→eq}
use lib.ListN.{get_or, get_or-map}
use Rattle.strings.specs.Pick.{pick}
use Rattle.strings.specs.Number.{word_of}
use Rattle.strings.specs.Table413.{◌to◌}
use Rattle.strings.proofs.Below.{below_at}
use Rattle.words.proofs.WordBits.{word_lt}
use Rattle.channel.specs.Frame.{Frame}
use Rattle.shows.specs.Shows.{frame_by}
use Rattle.shows.specs.FrameNumbers.{frames_by, table_4_1, NumberBySix}

-- what the table says at one nA
at_n_a : (na : ℕ) → na < 32 → frame_by na ≡ get_or frames_by na 0
unfolding frame_by
at_n_a na h =
    let i : get_or (0 to 31) na 0 ≡ na = eqb→eq _ na (below_at 32 (λ k. eqb (get_or (0 to 31) k 0) k) tt na h) in
    ap frame_by (sym i) ∙ sym (get_or-map frame_by (0 to 31) na 0) ∙ ap (λ (l : List ℕ). get_or l na 0) table_4_1

-- THE FRAME'S NUMBER
pub number_by_six : (f : Frame) → NumberBySix f
number_by_six f =
    let na = word_of (f.text 6) 77 73 in
    record {
      with_six = λ e. ap (λ (t : Bool). pick t (frame_by na) 0) e ∙ at_n_a na (word_lt (f.text 6) 77 73);
      without = λ e. ap (λ (t : Bool). pick t (frame_by na) 0) e;
    }
