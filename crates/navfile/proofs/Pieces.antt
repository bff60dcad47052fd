-- The file in pieces: a header of three lines, and 320 bytes for each record (every-file); of an empty capture the header alone (empty-capture).
-- Assumes nothing.
use Prim.Native.Nat.{ℕ, zero, suc, ◌+◌, ◌*◌, ◌<◌}
use mathlib.Core.Bool.{true, false, true≢false}
use mathlib.Core.List.{List, [], ◌∷◌, ◌++◌, append-nil, append_assoc, Memᴰ}
use mathlib.Core.Path.{◌≡◌, refl, sym, ap, ap₂, ◌∙◌}
use native.Mathlib.Omega.{arith}
use lib.ListN.{length, get_or, take, drop, length-append, get_or-replicate}
use lib.Seq.{take_at, drop-append-add}
use Rattle.immediate.specs.Kept.{has_record}
use Rattle.strings.specs.Number.{number_of, word_of}
use Rattle.layout.specs.Layout.{layout}
use Rattle.words.specs.Values.{values_of, first_bad}
use Rattle.words.specs.Good.{is_good}
use Rattle.channel.specs.declared.Row.{Row}
use Rattle.channel.specs.Row.{empty_row}
use Rattle.rinex.specs.Record.{record_text}
use Rattle.rinex.proofs.Columns.{head_long, x_long, y_long, z_long}
use Rattle.station.specs.Station.{channels, fresh_station, no_row, row_at}
use Rattle.navigation_queries.specs.Five.{five_at}
use Rattle.navigation_queries.specs.Carrier.{carrier_at}
use Rattle.navigation.specs.Writes.{words_at, n_at, record_bytes, text_at}
use Rattle.navfile.specs.Header.{header_bytes, header, version_line, program_line, end_line}
use Rattle.navfile.specs.File.{station_at, Ask, lines_of, is_answered, none_written, texts_of, asks_at, asks_of, records_of, file_of}
use Rattle.navfile.specs.Laws.{EveryFile, EmptyCapture}
use Rattle.navfile.proofs.Answered.{answered_parts}
use Rattle.navfile.proofs.Due.{due_in}
use Rattle.navfile.proofs.Moments.{last_from}

-- ---- the header
pub header_long : length header ≡ header_bytes
unfolding header version_line program_line end_line
header_long = refl

-- ---- the records
pub lines_long : (a : Ask) → length (lines_of a) ≡ record_bytes
unfolding text_at record_text
lines_long a =
    let w = words_at a.station a.channel in
    let h = carrier_at a.station (n_at a.station a.channel) in
    simp length-append (omega (arith, head_long w (five_at a.station a.channel).n4, x_long w, y_long w h, z_long w))

pub texts_append : (a b : List Ask) → texts_of (a ++ b) ≡ texts_of a ++ texts_of b
unfolding texts_of
texts_append [] b = refl
texts_append (x ∷ a) b = ap (λ (l : List ℕ). lines_of x ++ l) (texts_append a b) ∙ sym (append_assoc (lines_of x) (texts_of a) (texts_of b))

pub texts_long : (asks : List Ask) → length (texts_of asks) ≡ length asks * record_bytes
unfolding texts_of
texts_long [] = refl
texts_long (a ∷ asks) = length-append (lines_of a) (texts_of asks) ∙ omega (arith, lines_long a, texts_long asks)

texts_at : (asks : List Ask) (i : ℕ) (d : Ask) → i < length asks → take record_bytes (drop (i * record_bytes) (texts_of asks)) ≡ lines_of (get_or asks i d)
unfolding texts_of
texts_at [] i d h = absurd (omega arith)
texts_at (a ∷ asks) zero d h = take_at (lines_of a) (texts_of asks) record_bytes (lines_long a)
texts_at (a ∷ asks) (suc i) d h =
    let e : suc i * record_bytes ≡ length (lines_of a) + i * record_bytes = omega (arith, lines_long a) in
    ap (take record_bytes) (ap (λ (k : ℕ). drop k (lines_of a ++ texts_of asks)) e ∙ drop-append-add (lines_of a) (texts_of asks) (i * record_bytes))
    ∙ texts_at asks i d (omega arith)

pub every_file : EveryFile
unfolding file_of
every_file card input =
    let l = records_of card input in
    record {
      long = length-append header (texts_of l) ∙ ap₂ ◌+◌ header_long (texts_long l);
      first = take_at header (texts_of l) header_bytes header_long;
      piece = λ i a h.
          let e : header_bytes + i * record_bytes ≡ length header + i * record_bytes = ap (λ (k : ℕ). k + i * record_bytes) (sym header_long) in
          ap (take record_bytes) (ap (λ (k : ℕ). drop k (header ++ texts_of l)) e ∙ drop-append-add header (texts_of l) (i * record_bytes)) ∙ texts_at l i a h;
    }

-- ---- an empty capture: no channel of a fresh station has a record
none_in : (l : List Ask) → ((a : Ask) → Memᴰ a l → ⊥) → l ≡ []
none_in [] f = refl
none_in (a ∷ l) f = absurd (f a (Memᴰ.head refl))

empty_none : has_record empty_row.immediate ≡ false
unfolding empty_row has_record is_good layout values_of first_bad number_of word_of
empty_none = refl

fresh_row : (c : ℕ) → c < channels → row_at fresh_station c ≡ empty_row
unfolding fresh_station
fresh_row c h = get_or-replicate channels c empty_row no_row h

fresh_none : (card : ℕ) (a : Ask) → a.station ≡ fresh_station → is_answered card a ≡ true → ⊥
fresh_none card a e q =
    let p = answered_parts card a.station a.channel q in
    let r : row_at a.station a.channel ≡ empty_row = ap (λ st. row_at st a.channel) e ∙ fresh_row a.channel p.channel in
    true≢false (sym p.kept ∙ ap (λ (row : Row). has_record row.immediate) r ∙ empty_none)

pub empty_capture : EmptyCapture
unfolding file_of records_of asks_of asks_at station_at texts_of
empty_capture card =
    let none : records_of card [] ≡ [] =
    none_in (records_of card []) (λ a m.
    let d = due_in card none_written _ a m in
    fresh_none card a (last_from fresh_station _ a d.0) d.1)
    in
    ap (λ (l : List Ask). header ++ texts_of l) none ∙ append-nil header
