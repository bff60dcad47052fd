-- A capture that is read block by block, the office carried from one to the next, is written as one whole (in_blocks, file-in-parts).
-- Assumes nothing.
use Prim.Native.Nat.{ℕ, zero, suc, ◌+◌, ◌*◌, ◌/◌, ◌≤◌}
use mathlib.Core.List.{List, [], ◌∷◌, ◌++◌, append-nil, append_assoc}
use mathlib.Core.Path.{◌≡◌, refl, sym, ap, ap₂, ◌∙◌}
use native.Mathlib.Nat.{add-zero, add-suc}
use native.Mathlib.Omega.{arith}
use lib.ListN.{length, take, drop, length-append, length-drop}
use lib.Seq.{take-append-le, drop-append-le, drop-append-add}
use Rattle.station.specs.declared.Station.{Station}
use Rattle.station.specs.Station.{fresh_station}
use Rattle.navfile.specs.Header.{header}
use Rattle.navfile.specs.File.{record_at, records_in, offered, station_at, station_in, Ask, ask_before, asks_at, asks_in, last_asks, none_written, due_of, written_after, texts_of, asks_of, records_of, file_of}
use Rattle.navfile.specs.Calls.{text_in, office_in, last_text}
use Rattle.navfile.specs.Laws.{InBlocks, FileInParts}
use Rattle.navfile.proofs.Due.{due_append, written_append}
use Rattle.navfile.proofs.Pieces.{texts_append}

-- a first block of n whole records, and the rest
module _ (card : ℕ) (st : Station) (block rest : List ℕ) (n : ℕ) (whole : length block ≡ n * 16) where
  -- ---- the records of the block
  record_of_block : (k : ℕ) → suc k ≤ n → record_at (block ++ rest) k ≡ record_at block k
  record_of_block k h =
      let l : k * 16 ≤ length block = omega arith in
      let m : 16 ≤ length (drop (k * 16) block) = simp length-drop (omega arith) in
      ap (take 16) (drop-append-le (k * 16) block rest l) ∙ take-append-le 16 (drop (k * 16) block) rest m

  station_of_block : (k : ℕ) → k ≤ n → station_at card st (block ++ rest) k ≡ station_at card st block k
  unfolding station_at
  station_of_block zero h = refl
  station_of_block (suc k) h = ap₂ (offered card) (station_of_block k (omega arith)) (record_of_block k h)

  -- an ask more
  abbrev and_ask : List Ask → Station → List ℕ → List Ask
  and_ask asks x rec = asks ++ (ask_before card x rec ∷ [])

  asks_of_block : (k : ℕ) → k ≤ n → asks_at card st (block ++ rest) k ≡ asks_at card st block k
  unfolding asks_at
  asks_of_block zero h = refl
  asks_of_block (suc k) h =
      ap₂ (λ (asks : List Ask) (x : Station). and_ask asks x (record_at (block ++ rest) k)) (asks_of_block k (omega arith)) (station_of_block k (omega arith))
      ∙ ap (and_ask (asks_at card st block k) (station_at card st block k)) (record_of_block k h)

  -- ---- the records of the rest
  abbrev after : Station
  after = station_at card st block n

  record_of_rest : (k : ℕ) → record_at (block ++ rest) (n + k) ≡ record_at rest k
  record_of_rest k =
      let e : (n + k) * 16 ≡ length block + k * 16 = omega arith in
      ap (take 16) (ap (λ (j : ℕ). drop j (block ++ rest)) e ∙ drop-append-add block rest (k * 16))

  station_of_rest : (k : ℕ) → station_at card st (block ++ rest) (n + k) ≡ station_at card after rest k
  unfolding station_at
  station_of_rest zero = ap (station_at card st (block ++ rest)) (add-zero n) ∙ station_of_block n (omega arith)
  station_of_rest (suc k) = ap (station_at card st (block ++ rest)) (add-suc n k) ∙ ap₂ (offered card) (station_of_rest k) (record_of_rest k)

  asks_of_rest : (k : ℕ) → asks_at card st (block ++ rest) (n + k) ≡ asks_at card st block n ++ asks_at card after rest k
  unfolding asks_at
  asks_of_rest zero = ap (asks_at card st (block ++ rest)) (add-zero n) ∙ asks_of_block n (omega arith) ∙ sym (append-nil (asks_at card st block n))
  asks_of_rest (suc k) =
      ap (asks_at card st (block ++ rest)) (add-suc n k)
      ∙ ap₂ (λ (asks : List Ask) (x : Station). and_ask asks x (record_at (block ++ rest) (n + k))) (asks_of_rest k) (station_of_rest k)
      ∙ ap (and_ask (asks_at card st block n ++ asks_at card after rest k) (station_at card after rest k)) (record_of_rest k)
      ∙ append_assoc (asks_at card st block n) (asks_at card after rest k) _

  -- ---- the whole
  many : records_in (block ++ rest) ≡ n + records_in rest
  many = simp length-append (omega arith)

  all : records_in block ≡ n
  all = omega arith

  station_in_blocks : station_in card st (block ++ rest) ≡ station_in card (station_in card st block) rest
  station_in_blocks =
      ap (station_at card st (block ++ rest)) many ∙ station_of_rest (records_in rest)
      ∙ ap (λ (j : ℕ). station_in card (station_at card st block j) rest) (sym all)

  asks_in_blocks : asks_in card st (block ++ rest) ≡ asks_in card st block ++ asks_in card (station_in card st block) rest
  asks_in_blocks =
      ap (asks_at card st (block ++ rest)) many ∙ asks_of_rest (records_in rest)
      ∙ ap (λ (j : ℕ). asks_at card st block j ++ asks_in card (station_at card st block j) rest) (sym all)

-- THE TEXT AND THE OFFICE OF THE WHOLE are those of the block, and then those of the rest
pub in_blocks : InBlocks
unfolding text_in office_in
in_blocks card o block rest whole =
    let n : length block ≡ length block / 16 * 16 = omega arith in
    let e = asks_in_blocks card o.station block rest (length block / 16) n in
    let a = asks_in card o.station block in
    let b = asks_in card (station_in card o.station block) rest in
    record {
      text = ap (λ (l : List Ask). texts_of (due_of card o.written l)) e ∙ ap texts_of (due_append card o.written a b)
          ∙ texts_append (due_of card o.written a) (due_of card (written_after card o.written a) b);
      office = ap₂ (λ (x : Station) (w : List ℕ). record { station = x; written = w })
          (station_in_blocks card o.station block rest (length block / 16) n)
          (ap (written_after card o.written) e ∙ written_append card o.written a b);
    }

-- THE FILE is the header, what is written of the capture, and what is written at the end
pub file_in_parts : FileInParts
unfolding file_of records_of asks_of text_in office_in last_text
file_in_parts card input =
    let a = asks_in card fresh_station input in
    let b = last_asks (station_in card fresh_station input) in
    ap (λ (l : List ℕ). header ++ l) (ap texts_of (due_append card none_written a b) ∙ texts_append (due_of card none_written a) (due_of card (written_after card none_written a) b))
