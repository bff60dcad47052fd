-- Every call has an answer that its relation holds of, and no second (station-answers, strings-answer); its numbers are those of the first test that
-- fits (station-numbers, string-numbers); and one that is refused leaves its output as it was (no-output-byte).
-- Assumes nothing.
use mathlib.Core.Path.{◌≡◌, refl, sym, ap, ap₂, ◌∙◌}
use mathlib.Core.Bool.{not, true≢false}
use mathlib.Core.List.{List, [], ◌∷◌, ◌++◌}
use mathlib.Core.Logic.{◌⊎◌, inl, ⊎_elim}
use Prim.Native.Nat.{ℕ}
use native.Mathlib.Omega.{arith}
use borrow.Author.Tests.{ne_eqb}
use lib.Dec.{eqb}
use lib.IntN.{ℤ}
use Rattle.strings.specs.declared.Refusal.TheVariants.{Range}
use Rattle.station.specs.declared.Health.{Health}
use Rattle.summary.specs.declared.Summary.{Summary}
use Rattle.tallies.specs.declared.Tallies.{Tallies}
use Rattle.book.specs.declared.Entry.{Entry}
use Rattle.records.specs.declared.named.ImmediateWords.{ImmediateWords}
use Rattle.relative.specs.declared.Polarity.{Polarity}
use Rattle.strings.specs.declared.hamming.Damage.{Damage}
use Rattle.strings.specs.declared.Refusal.{Refusal}
use Rattle.strings.specs.declared.Verdict.{Verdict}
use Rattle.std.specs.Prelude.{Result, Ok, Err, ⊤}
use Rattle.strings.specs.Number.{number_of, bytes_of_string}
use Rattle.strings.specs.Hamming.{ruling, is_damaged, mended}
use Rattle.strings.specs.Numbers.{test, first_of, left_by, answer_of}
use Rattle.strings.specs.Calls.{no_room, checked_paper, sound_tests, string_tests, check_tests, verdict_told, Checks}
use Rattle.strings.proofs.CheckRule.{check_once, check_first, check_numbers}
use Rattle.relative.specs.Relative.{read_relative, write_relative}
use Rattle.relative.specs.Polarity.{first_symbol, polarity_of}
use Rattle.relative.specs.Calls.{reading_tests, ReadsRelative, writing_tests, WritesRelative}
use Rattle.relative.proofs.RelativeCode.{polarity_told, reads_once, writes_once, reads_exactly, writes_exactly}
use Rattle.records.specs.declared.kinds.Kind.{Kind}
use Rattle.records.specs.declared.named.Record.{Record}
use Rattle.records.specs.Records.{kind_of, list_of, record_of}
use Rattle.layout.specs.Layout.{layout, kind_number, of_kind}
use Rattle.words.specs.Values.{values_of, first_bad}
use Rattle.words.specs.Calls.{number_in, range_test, read_tests, reading_words, Reads, write_tests, string_of, Writes}
use Rattle.records.proofs.RecordLists.{record_kind}
use Rattle.words.proofs.RecordLists.{record_values}
use Rattle.words.proofs.RoundTrips.{read_once, read_numbers, write_once, write_numbers}
use Rattle.words.specs.Immediate.{immediate_of}
use Rattle.book.specs.Entry.{meaning}
use Rattle.book.specs.Book.{in_slot}
use Rattle.station.specs.declared.Station.{Station}
use Rattle.station.specs.declared.Stepped.{Stepped}
use Rattle.station.specs.declared.Emptied.{Emptied}
use Rattle.station.specs.Station.{row_at, card_test, gate_tests, station_after, OffersTo, station_reset, Resets}
use Rattle.station.specs.Queries.{kept_at, record_tests, FindsRecord, entry_tests, three_numbers, FindsEntry, all_counts, FindsTallies, summary_numbers, FindsSummary, health_number, health_by, FindsHealth}
use Rattle.station.specs.Demand1.{OneAnswer, StationAnswers, StringsAnswer, StationNumbers, StringNumbers, NoOutputByte}
use Rattle.station.proofs.Found.{one_record, no_record, one_entry, no_entry}
use Rattle.station.proofs.OnceOnly.{offers_to_once, resets_once, offers_to_exactly, resets_exactly}
use Rattle.station.proofs.QueriesOnce.{records_once, records_exactly, entries_once, entries_exactly, tallies_once, tallies_exactly, summaries_once, summaries_exactly, health_once, health_exactly}
use Rattle.station.proofs.EveryHistory.{some_answer, offer_answers, reset_answer, reset_answers}
use Rattle.station.proofs.Refusals.{Fitting, settles_first, settles_then, settles, taken_says, untouched}

-- an answer, where no second fits
pub one : (A : Type 0) (Fits : A → Type 0) → ((r q : A) → Fits r → Fits q → r ≡ q) → (r : A) → Fits r → OneAnswer A Fits
one A Fits once r f = record { answer = r; fits = f; only = λ q g. once q r g f }

-- ---- the calls on a station
module _ (st : Station) where
  offer_one : (card c epoch : ℕ) (s : List ℕ) → OneAnswer Stepped (OffersTo st card c epoch s)
  offer_one card c epoch s =
      one Stepped (OffersTo st card c epoch s) (offers_to_once st card c epoch s) (record { station = station_after st card c epoch s; answer = (some_answer st card c epoch s).answer })
      (offer_answers st card c epoch s)

  reset_one : (card c : ℕ) → OneAnswer Emptied (Resets st card c)
  reset_one card c = one Emptied (Resets st card c) (resets_once st card c) (record { station = station_reset st card c; answer = reset_answer card c }) (reset_answers st card c)

  record_one : (card c : ℕ) → OneAnswer (Result (ImmediateWords × ℕ) Refusal) (FindsRecord st card c)
  record_one card c =
      let ts = record_tests st card c in
      ⊎_elim
      (λ (z : first_of ts ≡ 0).
      one (Result (ImmediateWords × ℕ) Refusal) (FindsRecord st card c) (records_once st card c) (Ok (immediate_of (kept_at st c).strings, (kept_at st c).start))
      (record { answer = taken_says ts [] z; words = λ w start q. (sym (one_record q).0, sym (one_record q).1) }))
      (λ (f : Fitting ts).
      one (Result (ImmediateWords × ℕ) Refusal) (FindsRecord st card c) (records_once st card c) (Err f.refusal) (record { answer = f.says []; words = λ w start q. no_record q }))
      (settles ts tt)

  entry_one : (card slot : ℕ) → OneAnswer (Result Entry Refusal) (FindsEntry st card slot)
  entry_one card slot =
      let ts = entry_tests st card slot in
      let e = in_slot st.book slot in
      ⊎_elim
      (λ (z : first_of ts ≡ 0).
      one (Result Entry Refusal) (FindsEntry st card slot) (entries_once st card slot) (Ok e) (record { answer = taken_says ts (three_numbers (meaning e)) z; entry = λ d q. sym (one_entry q) }))
      (λ (f : Fitting ts).
      one (Result Entry Refusal) (FindsEntry st card slot) (entries_once st card slot) (Err f.refusal)
      (record { answer = f.says (three_numbers (meaning e)); entry = λ d q. no_entry q }))
      (settles ts tt)

  tallies_one : (card c : ℕ) → OneAnswer (Result Tallies Refusal) (FindsTallies st card c)
  unfolding FindsTallies
  tallies_one card c =
      let ts = gate_tests card c in
      let t = (row_at st c).tallies in
      ⊎_elim
      (λ (z : first_of ts ≡ 0). one (Result Tallies Refusal) (FindsTallies st card c) (tallies_once st card c) (Ok t) (taken_says ts (all_counts t) z))
      (λ (f : Fitting ts). one (Result Tallies Refusal) (FindsTallies st card c) (tallies_once st card c) (Err f.refusal) (f.says (all_counts t)))
      (settles ts tt)

  summary_one : (card : ℕ) → OneAnswer (Result Summary Refusal) (FindsSummary st card)
  unfolding FindsSummary
  summary_one card =
      let ts = card_test card ∷ [] in
      let s = st.summary in
      ⊎_elim
      (λ (z : first_of ts ≡ 0). one (Result Summary Refusal) (FindsSummary st card) (summaries_once st card) (Ok s) (taken_says ts (summary_numbers s) z))
      (λ (f : Fitting ts). one (Result Summary Refusal) (FindsSummary st card) (summaries_once st card) (Err f.refusal) (f.says (summary_numbers s)))
      (settles ts tt)

  health_one : (card c : ℕ) → OneAnswer (Result Health Refusal) (FindsHealth st card c)
  unfolding FindsHealth
  health_one card c =
      let ts = gate_tests card c in
      let h = health_by (kept_at st c) st.book in
      ⊎_elim
      (λ (z : first_of ts ≡ 0). one (Result Health Refusal) (FindsHealth st card c) (health_once st card c) (Ok h) (taken_says ts (health_number h ∷ []) z))
      (λ (f : Fitting ts). one (Result Health Refusal) (FindsHealth st card c) (health_once st card c) (Err f.refusal) (f.says (health_number h ∷ [])))
      (settles ts tt)

  -- EVERY CALL ANSWERS, of any station
  pub station_answers : StationAnswers st
  station_answers =
      record { offer = offer_one; reset = reset_one; immediate_of_lem = record_one; entry_of = entry_one; tallies_of = tallies_one; summary_of = summary_one; health_of = health_one }

  -- THE FIRST THAT FITS IS GIVEN, AND GIVEN ONLY THEN
  pub station_numbers : StationNumbers st
  station_numbers =
      record {
        offer = offers_to_exactly st;
        reset = resets_exactly st;
        immediate_of_lem = records_exactly st;
        entry_of = entries_exactly st;
        tallies_of = tallies_exactly st;
        summary_of = summaries_exactly st;
        health_of = health_exactly st;
      }

-- ---- the calls on strings and records
pair : {A : Type 0} {a b : A} {l m : List ℕ} → (a ≡ b) × (l ≡ m) → ◌≡◌ {A = A × List ℕ} (a, l) (b, m)
pair e = ap₂ (λ x y. (x, y)) e.0 e.1

module _ (s out : List ℕ) where
  -- a string that no test of the check fits has a verdict
  verdict_there : first_of (check_tests s out) ≡ 0 → (r : Result Verdict Refusal) × (checked_paper r ≡ 0 ∷ verdict_told (ruling (number_of s)))
  verdict_there z = by (ruling (number_of s)) refl
    where
      by : (u : Result Verdict Damage) → ruling (number_of s) ≡ u → (r : Result Verdict Refusal) × (checked_paper r ≡ 0 ∷ verdict_told u)
      by (Ok v) q = (Ok v, refl)
      by (Err d) q = absurd (true≢false (sym (ap is_damaged q) ∙ (check_first s out z).1.sound))

  check_one : OneAnswer (Result Verdict Refusal × List ℕ) (λ r. Checks s out r.0 r.1)
  unfolding Checks sound_tests
  check_one =
      let ts = check_tests s out in
      let told = verdict_told (ruling (number_of s)) in
      let left = left_by (first_of ts) (bytes_of_string (mended (number_of s))) out in
      let so : (r : Result Verdict Refusal) → checked_paper r ≡ answer_of ts told → OneAnswer (Result Verdict Refusal × List ℕ) (λ r. Checks s out r.0 r.1) =
      λ r e. one (Result Verdict Refusal × List ℕ) (λ r. Checks s out r.0 r.1) (λ r q a b. pair (check_once s out r.0 q.0 r.1 q.1 a b)) (r, left) (record { answer = e; output = refl })
      in
      ⊎_elim (λ (z : first_of ts ≡ 0). let v = verdict_there z in so v.0 (v.1 ∙ taken_says ts told z)) (λ (f : Fitting ts). so (Err f.refusal) (f.says told))
      (settles ts tt)

  reading_one : OneAnswer (Result Polarity Refusal × List ℕ) (λ r. ReadsRelative s out r.0 r.1)
  unfolding ReadsRelative
  reading_one =
      let ts = reading_tests s out in
      let left = left_by (first_of ts) (bytes_of_string (read_relative (number_of s))) out in
      let told = first_symbol (number_of s) ∷ [] in
      let so : (r : Result Polarity Refusal) → _ → OneAnswer (Result Polarity Refusal × List ℕ) (λ r. ReadsRelative s out r.0 r.1) =
      λ r e. one (Result Polarity Refusal × List ℕ) (λ r. ReadsRelative s out r.0 r.1) (λ r q a b. pair (reads_once s out r.0 r.1 q.0 q.1 a b)) (r, left) (record { answer = e; output = refl })
      in
      ⊎_elim
      (λ (z : first_of ts ≡ 0). so (Ok (polarity_of (number_of s))) (ap (λ (b : ℕ). 0 ∷ b ∷ []) (polarity_told (number_of s)) ∙ taken_says ts told z))
      (λ (f : Fitting ts). so (Err f.refusal) (f.says told)) (settles ts tt)

  sending_one : OneAnswer (Result ⊤ Refusal × List ℕ) (λ r. WritesRelative s out r.0 r.1)
  unfolding WritesRelative
  sending_one =
      let ts = writing_tests s out in
      let left = left_by (first_of ts) (bytes_of_string (write_relative (number_of s))) out in
      let so : (r : Result ⊤ Refusal) → _ → OneAnswer (Result ⊤ Refusal × List ℕ) (λ r. WritesRelative s out r.0 r.1) =
      λ r e. one (Result ⊤ Refusal × List ℕ) (λ r. WritesRelative s out r.0 r.1) (λ r q a b. pair (writes_once s out r.0 r.1 q.0 q.1 a b)) (r, left) (record { answer = e; output = refl })
      in
      ⊎_elim (λ (z : first_of ts ≡ 0). so (Ok tt) (taken_says ts [] z)) (λ (f : Fitting ts). so (Err f.refusal) (f.says []))
      (settles ts tt)

-- RANGE says its place
range_settles : (zs : List ℤ) (k : Kind) → (first_of (range_test zs k ∷ []) ≡ 0) ⊎ Fitting (range_test zs k ∷ [])
range_settles zs k =
    let p = first_bad (layout k) zs in
    settles_first (Range p) 10 (p ∷ []) (not (eqb p 0)) [] refl (inl refl)

read_one : (s : List ℕ) (k : Kind) → OneAnswer (Result (ℕ × Record) Refusal) (Reads s k)
unfolding Reads reading_words sound_tests
read_one s k =
    let n = mended (number_of s) in
    let ts = read_tests s k in
    let zs = values_of n (layout k) in
    ⊎_elim
    (λ (z : first_of ts ≡ 0).
    one (Result (ℕ × Record) Refusal) (Reads s k) (read_once s k) (Ok (number_in n, record_of k zs))
    (record {
      answer = ap (λ (q : Kind). 0 ∷ number_in n ∷ kind_number q ∷ []) (record_kind k zs) ∙ taken_says ts (number_in n ∷ kind_number k ∷ []) z;
      words = rw z (record_values k n);
    }))
    (λ (f : Fitting ts).
    one (Result (ℕ × Record) Refusal) (Reads s k) (read_once s k) (Err f.refusal) (record { answer = f.says (number_in n ∷ kind_number k ∷ []); words = rw (ne_eqb (first_of ts) 0 (λ e. omega (arith, f.first, e))) }))
    (settles_then (string_tests s ++ (test 5 (eqb (number_in n) 0) ∷ test 11 (not (of_kind k (number_in n))) ∷ [])) (range_test zs k ∷ []) tt (range_settles zs k))

write_one : (m : ℕ) (w : Record) (out : List ℕ) → OneAnswer (Result ⊤ Refusal × List ℕ) (λ r. Writes m w out r.0 r.1)
unfolding Writes
write_one m w out =
    let ts = write_tests m w out in
    let left = left_by (first_of ts) (bytes_of_string (string_of m w)) out in
    let so : (r : Result ⊤ Refusal) → _ → OneAnswer (Result ⊤ Refusal × List ℕ) (λ r. Writes m w out r.0 r.1) =
    λ r e. one (Result ⊤ Refusal × List ℕ) (λ r. Writes m w out r.0 r.1) (λ r q a b. pair (write_once m w out r.0 q.0 r.1 q.1 a b)) (r, left) (record { answer = e; output = refl })
    in
    ⊎_elim (λ (z : first_of ts ≡ 0). so (Ok tt) (taken_says ts [] z)) (λ (f : Fitting ts). so (Err f.refusal) (f.says []))
    (settles_then (test 12 (no_room out) ∷ test 11 (not (of_kind (kind_of w) m)) ∷ []) (range_test (list_of w) (kind_of w) ∷ []) tt (range_settles (list_of w) (kind_of w)))

-- EVERY CALL ANSWERS, of any bytes and any record
pub strings_answer : StringsAnswer
strings_answer = record { check = check_one; from_relative = reading_one; to_relative = sending_one; read = read_one; write = write_one }

pub string_numbers : StringNumbers
string_numbers =
    record {
      check = check_numbers;
      from_relative = reads_exactly;
      to_relative = writes_exactly;
      read = read_numbers;
      write = write_numbers;
    }

-- NO OUTPUT BYTE
pub no_output_byte : NoOutputByte
unfolding Checks ReadsRelative WritesRelative Writes
no_output_byte =
    record {
      check = λ s out why out' a. untouched (check_tests s out) (verdict_told (ruling (number_of s))) (bytes_of_string (mended (number_of s))) out why out' a;
      from_relative = λ s out why out' a. untouched (reading_tests s out) (first_symbol (number_of s) ∷ []) (bytes_of_string (read_relative (number_of s))) out why out' a;
      to_relative = λ s out why out' a. untouched (writing_tests s out) [] (bytes_of_string (write_relative (number_of s))) out why out' a;
      write = λ m w out why out' a. untouched (write_tests m w out) [] (bytes_of_string (string_of m w)) out why out' a;
    }
