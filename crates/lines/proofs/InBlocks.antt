-- An input that is listed block by block, the station carried from one to the next, is listed as one whole (listing-in-blocks, station-in-blocks).
-- Assumes nothing.
use mathlib.Core.Path.{◌≡◌, refl, sym, ap, ap₂, ◌∙◌}
use mathlib.Core.List.{List, ◌++◌, append-nil, append_assoc}
use Prim.Native.Nat.{ℕ, zero, suc, ◌+◌, ◌*◌, ◌/◌, ◌%◌, ◌≤◌}
use native.Mathlib.Nat.{add-zero, add-suc}
use native.Mathlib.Omega.{arith}
use lib.ListN.{length, take, drop, length-append, length-drop}
use lib.Seq.{take-append-le, drop-append-le, drop-append-add}
use Rattle.station.specs.declared.Station.{Station}
use Rattle.station.specs.Station.{station_after}
use Rattle.fields.specs.Sixteen.{channel_in, epoch_in, symbols_in}
use Rattle.lines.specs.Line.{speaks_for, line_for}
use Rattle.lines.specs.Text.{line_text, left_over, record_at, station_at, lines_at, listing}

-- a record offered, and its line
abbrev offered : Station → List ℕ → Station
offered st rec = station_after st speaks_for (channel_in rec) (epoch_in rec) (symbols_in rec)

abbrev text_of : Station → List ℕ → List ℕ
text_of st rec = line_text (line_for st rec)

-- a first block of n whole records, and the rest
module _ (st : Station) (block rest : List ℕ) (n : ℕ) (whole : length block ≡ n * 16) where
  -- ---- the records of the block
  record_of_block : (k : ℕ) → suc k ≤ n → record_at (block ++ rest) k ≡ record_at block k
  record_of_block k h =
      let l : k * 16 ≤ length block = omega arith in
      let m : 16 ≤ length (drop (k * 16) block) = simp length-drop (omega arith) in
      ap (take 16) (drop-append-le (k * 16) block rest l) ∙ take-append-le 16 (drop (k * 16) block) rest m

  station_of_block : (k : ℕ) → k ≤ n → station_at st (block ++ rest) k ≡ station_at st block k
  unfolding station_at
  station_of_block zero h = refl
  station_of_block (suc k) h = ap₂ offered (station_of_block k (omega arith)) (record_of_block k h)

  lines_of_block : (k : ℕ) → k ≤ n → lines_at st (block ++ rest) k ≡ lines_at st block k
  unfolding lines_at
  lines_of_block zero h = refl
  lines_of_block (suc k) h = ap₂ ◌++◌ (lines_of_block k (omega arith)) (ap₂ text_of (station_of_block k (omega arith)) (record_of_block k h))

  -- ---- the records of the rest
  abbrev after : Station
  after = station_at st block n

  record_of_rest : (k : ℕ) → record_at (block ++ rest) (n + k) ≡ record_at rest k
  record_of_rest k =
      let e : (n + k) * 16 ≡ length block + k * 16 = omega arith in
      ap (take 16) (ap (λ (j : ℕ). drop j (block ++ rest)) e ∙ drop-append-add block rest (k * 16))

  station_of_rest : (k : ℕ) → station_at st (block ++ rest) (n + k) ≡ station_at after rest k
  unfolding station_at
  station_of_rest zero = ap (station_at st (block ++ rest)) (add-zero n) ∙ station_of_block n (omega arith)
  station_of_rest (suc k) = ap (station_at st (block ++ rest)) (add-suc n k) ∙ ap₂ offered (station_of_rest k) (record_of_rest k)

  lines_of_rest : (k : ℕ) → lines_at st (block ++ rest) (n + k) ≡ lines_at st block n ++ lines_at after rest k
  unfolding lines_at
  lines_of_rest zero = ap (lines_at st (block ++ rest)) (add-zero n) ∙ lines_of_block n (omega arith) ∙ sym (append-nil (lines_at st block n))
  lines_of_rest (suc k) =
      ap (lines_at st (block ++ rest)) (add-suc n k)
      ∙ ap₂ ◌++◌ (lines_of_rest k) (ap₂ text_of (station_of_rest k) (record_of_rest k))
      ∙ append_assoc (lines_at st block n) (lines_at after rest k) _

  -- ---- the whole
  many : length (block ++ rest) / 16 ≡ n + length rest / 16
  many = simp length-append (omega arith)

  left : length (block ++ rest) % 16 ≡ length rest % 16
  left = simp length-append (omega arith)

  -- THE STATION of the whole input is that of the rest after that of the block
  pub station_in_blocks : station_at st (block ++ rest) (length (block ++ rest) / 16) ≡ station_at after rest (length rest / 16)
  station_in_blocks = ap (station_at st (block ++ rest)) many ∙ station_of_rest (length rest / 16)

  -- nothing is left over of the block
  listing_of_block : listing st block ≡ lines_at st block n
  unfolding listing left_over
  listing_of_block =
      let e : length block / 16 ≡ n = omega arith in
      let z : length block % 16 ≡ 0 = omega arith in
      ap₂ (λ (i j : ℕ). lines_at st block i ++ left_over j) e z ∙ append-nil (lines_at st block n)

  -- THE LISTING of the whole input is the block's and then the rest's
  pub listing_in_blocks : listing st (block ++ rest) ≡ listing st block ++ listing after rest
  unfolding listing
  listing_in_blocks =
      ap₂ (λ (i j : ℕ). lines_at st (block ++ rest) i ++ left_over j) many left
      ∙ ap (λ (l : List ℕ). l ++ left_over (length rest % 16)) (lines_of_rest (length rest / 16))
      ∙ append_assoc (lines_at st block n) (lines_at after rest (length rest / 16)) (left_over (length rest % 16))
      ∙ ap (λ (l : List ℕ). l ++ listing after rest) (sym listing_of_block)
