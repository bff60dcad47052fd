-- What a question tells, computed (toldTo): it is what the contract says (tells-are, tells), and what the same question by value answers (value-are, value).
-- Assumes nothing.
use Prim.Native.Nat.{ℕ, zero, suc, ◌+◌}
use native.Mathlib.Nat.{suc-ne-zero}
use mathlib.Core.Bool.{Bool, true, false, not, ◌||◌}
use mathlib.Core.List.{List, [], ◌∷◌, ◌++◌}
use mathlib.Core.Path.{◌≡◌, refl, sym, ap, ap₂, subst, ◌∙◌}
use borrow.Author.Tests.{eq-eqb, ne_eqb, eqb-true, eqb-false}
use lib.Dec.{T, eqb}
use lib.IntN.{ℤ}
use lib.ListN.{length, get_or, drop}
use Rattle.strings.specs.Pick.{pick, is_one_of}
use Rattle.summary.specs.declared.Summary.{Summary as TheSummary}
use Rattle.tallies.specs.declared.Tallies.{Tallies as TheTallies}
use Rattle.book.specs.declared.Entry.{Entry as TheEntry}
use Rattle.records.specs.declared.named.ImmediateWords.{ImmediateWords}
use Rattle.std.specs.Prelude.{Result, Ok, Err}
use Rattle.strings.specs.declared.Refusal.{Refusal}
use Rattle.strings.specs.Numbers.{refusal_paper, Test, test, first_of, place_of, said_by, answer_of}
use Rattle.strings.proofs.Answer.{not_taken}
use Rattle.strings.proofs.Below.{and_left, and_right}
use Rattle.strings.proofs.Tests.{placeless, all_of, first_of_lem}
use Rattle.fields.specs.Fields.{size_at}
use Rattle.words.specs.Immediate.{immediate_of}
use Rattle.book.specs.Entry.{meaning}
use Rattle.book.specs.Book.{in_slot}
use Rattle.wire.specs.Bytes.{book_bytes}
use Rattle.immediate.specs.Kept.{has_record}
use Rattle.station.specs.declared.Station.{Station}
use Rattle.station.specs.Station.{row_at, card_test, gate_tests}
use Rattle.station.specs.Queries.{kept_at, record_tests, record_paper, FindsRecord, is_empty, entry_tests, three_numbers, entry_paper, FindsEntry, all_counts, tallies_paper, FindsTallies, summary_numbers, summary_paper, FindsSummary, health_by, health_number, FindsHealth}
use Rattle.station.proofs.Demands.{demands}
use Rattle.blocks.proofs.Along.{taken, takes}
use Rattle.navigation.specs.Writes.{record_tests as navigation_tests, n_at, text_at}
use Rattle.navigation.proofs.Laws.{laws as navigation-laws}
use Rattle.told.specs.Told.{packed}
use Rattle.lent_queries.specs.Lent.{room_test, left_in, summary_tests, tallies_tests, slot_tests, entry_numbers, kept_tests, words_list, TellsHealth}
use Rattle.lent_queries.proofs.Said.{number_of}
use Rattle.lent_sites.specs.Lent.{book_length}
use Rattle.lent_navigation.proofs.Laws.{laws as lent-navigation-laws}
use Rattle.lent_life.specs.Life.{Question, Next, Summary, Health, Tallies, Immediate, Entry, Book, Navigation, Back, Number, Numbers, Words, Started, Nothing, Tells, next, summary, health, tallies, immediate, entry, book, navigation}
use Rattle.lent_life.specs.ByValue.{has_room, number_told, summary_out, tallies_out, entry_out, words_out, start_out, TellsByValue, next as next', summary as summary', health as health', tallies as tallies', immediate as immediate', entry as entry', book as book', no_room_lem, navigation as navigation'}

-- ---- the outputs in what comes back
abbrev pub out_in : Back → List ℕ
out_in Nothing = []
out_in (Number r) = []
out_in (Numbers r out) = out
out_in (Words r out) = []
out_in (Started r words start) = []

abbrev pub words_in : Back → List ℤ
words_in Nothing = []
words_in (Number r) = []
words_in (Numbers r out) = []
words_in (Words r out) = out
words_in (Started r words start) = words

abbrev pub start_in : Back → ℕ
start_in Nothing = 0
start_in (Number r) = 0
start_in (Numbers r out) = 0
start_in (Words r out) = 0
start_in (Started r words start) = start

-- ---- a list of tests with ROOM among them: the gate's and SLOT before it, NOTHING after it
abbrev is_after : ℕ → Bool
is_after k = is_one_of (0 ∷ 13 ∷ []) k

abbrev is_before : ℕ → Bool
is_before k = not (is_after k)

never : (b : Bool) → T (not b) → b ≡ false
never true t = absurd t
never false t = refl

always : (b : Bool) → T b → b ≡ true
always true t = refl
always false t = absurd t

-- the number of tests k, with ROOM or not
abbrev with_room : Bool → ℕ → ℕ
with_room room k = pick room k (pick (is_after k) 12 k)

first_room : (us ts : List Test) (room : Bool) → T (all_of is_before us) → T (all_of is_after ts)
    → first_of (us ++ (test 12 (not room) ∷ ts)) ≡ with_room room (first_of (us ++ ts))
first_room [] ts true a b = refl
first_room [] ts false a b = ap (λ (t : Bool). pick t 12 (first_of ts)) (sym (always (is_after (first_of ts)) (first_of_lem is_after ts b tt)))
first_room (u ∷ us) ts room a b =
    by u.fits u.number room (never (is_after u.number) (and_left (is_before u.number) (all_of is_before us) a))
    (first_room us ts room (and_right (is_before u.number) (all_of is_before us) a) b)
  where
    by : (f : Bool) (n : ℕ) (room : Bool) → is_after n ≡ false → first_of (us ++ (test 12 (not room) ∷ ts)) ≡ with_room room (first_of (us ++ ts))
        → pick f n (first_of (us ++ (test 12 (not room) ∷ ts))) ≡ with_room room (pick f n (first_of (us ++ ts)))
    by true n true e ih = refl
    by true n false e ih = ap (λ (t : Bool). pick t 12 n) (sym e)
    by false n room e ih = ih

-- where there is no room the number is not 0
not_first : (b c : Bool) → (b || (c || false)) ≡ false → b ≡ false
not_first true c e = e
not_first false c e = refl

none_left : (k : ℕ) → eqb (pick (is_after k) 12 k) 0 ≡ false
none_left k = by (is_after k) refl
  where
    by : (t : Bool) → is_after k ≡ t → eqb (pick t 12 k) 0 ≡ false
    by true e = refl
    by false e = not_first (eqb k 0) (eqb k 13) e

left_room : {Y : Type 0} (room : Bool) (k : ℕ) (made out : Y) → pick (eqb (with_room room k) 0) made out ≡ pick room (pick (eqb k 0) made out) out
left_room true k made out = refl
left_room false k made out = ap (λ (t : Bool). pick t made out) (none_left k)

-- ---- an answer in the paper's numbers begins with that of the tests
begins : (k : ℕ) (l m : List ℕ) → get_or (said_by k l m) 0 0 ≡ k
begins zero l m = refl
begins (suc k) l m = refl

module _ {X : Type 0} (us ts : List Test) (n : ℕ) (out : List X) (a : T (all_of is_before us)) (b : T (all_of is_after ts))
    (p : T (placeless (us ++ (room_test n out ∷ ts)))) where
  number_same : (answer told : List ℕ) → answer ≡ answer_of (us ++ ts) told → number_told (has_room n out) answer ≡ packed (answer_of (us ++ (room_test n out ∷ ts)) [])
  number_same answer told e =
      ap (with_room (has_room n out)) (ap (λ (l : List ℕ). get_or l 0 0) e ∙ begins (first_of (us ++ ts)) (place_of (us ++ ts)) told)
      ∙ sym (number_of (us ++ (room_test n out ∷ ts)) p ∙ first_room us ts (has_room n out) a b)

  out_same : {Y : Type 0} (made was now : Y) → now ≡ pick (eqb (first_of (us ++ ts)) 0) made was → pick (has_room n out) now was ≡ left_in (us ++ (room_test n out ∷ ts)) made was
  out_same {Y} made was now e =
      ap (λ (y : Y). pick (has_room n out) y was) e ∙ sym (left_room (has_room n out) (first_of (us ++ ts)) made was)
      ∙ ap (λ (k : ℕ). pick (eqb k 0) made was) (sym (first_room us ts (has_room n out) a b))

-- ---- by value: where it is found the tests give 0, and where it is refused not
found_is : (k : ℕ) (place told l : List ℕ) → 0 ∷ l ≡ said_by k place told → (k ≡ 0) × (l ≡ told)
found_is zero place told l e = (refl, ap (drop 1) e)
found_is (suc k) place told l e = let z : ◌≡◌ {A = ℕ} 0 (suc k) = ap (λ (m : List ℕ). get_or m 0 0) e in absurd (suc-ne-zero k (sym z))

refused_is : (why : Refusal) (k : ℕ) (place told : List ℕ) → refusal_paper why ≡ said_by k place told → eqb k 0 ≡ false
refused_is why zero place told e = absurd (not_taken why told e)
refused_is why (suc k) place told e = ne_eqb (suc k) 0 (λ z. suc-ne-zero k z)

module _ (tests : List Test) (told : List ℕ) where
  taken_first : (l : List ℕ) → 0 ∷ l ≡ answer_of tests told → (first_of tests ≡ 0) × (l ≡ told)
  taken_first l e = found_is (first_of tests) (place_of tests) told l e

  found : {Y : Type 0} (made out y : Y) → first_of tests ≡ 0 → y ≡ made → y ≡ pick (eqb (first_of tests) 0) made out
  found made out y z e = e ∙ ap (λ (k : ℕ). pick (eqb k 0) made out) (sym z)

  refused : {Y : Type 0} (why : Refusal) (made out : Y) → refusal_paper why ≡ answer_of tests told → out ≡ pick (eqb (first_of tests) 0) made out
  refused why made out e = ap (λ (t : Bool). pick t made out) (sym (refused_is why (first_of tests) (place_of tests) told e))

summary_out_lem : (st : Station) (card : ℕ) (out : List ℕ) (x : Result TheSummary Refusal) → FindsSummary st card x
    → summary_out x out ≡ pick (eqb (first_of (card_test card ∷ [])) 0) (summary_numbers st.summary) out
unfolding FindsSummary
summary_out_lem st card out (Ok s) f =
    let ts = card_test card ∷ [] in
    let m = summary_numbers st.summary in
    let w = taken_first ts m (summary_numbers s) f in found ts m m out (summary_numbers s) w.0 w.1
summary_out_lem st card out (Err why) f = refused (card_test card ∷ []) (summary_numbers st.summary) why (summary_numbers st.summary) out f

tallies_out_lem : (st : Station) (card c : ℕ) (out : List ℕ) (x : Result TheTallies Refusal) → FindsTallies st card c x
    → tallies_out x out ≡ pick (eqb (first_of (gate_tests card c)) 0) (all_counts (row_at st c).tallies) out
unfolding FindsTallies
tallies_out_lem st card c out (Ok t) f =
    let ts = gate_tests card c in
    let m = all_counts (row_at st c).tallies in
    let w = taken_first ts m (all_counts t) f in found ts m m out (all_counts t) w.0 w.1
tallies_out_lem st card c out (Err why) f = refused (gate_tests card c) (all_counts (row_at st c).tallies) why (all_counts (row_at st c).tallies) out f

entry_out_lem : (st : Station) (card k : ℕ) (out : List ℤ) (x : Result TheEntry Refusal) → FindsEntry st card k x
    → entry_out x out ≡ pick (eqb (first_of (entry_tests st card k)) 0) (entry_numbers (in_slot st.book k)) out
entry_out_lem st card k out (Ok e) f =
    let ts = entry_tests st card k in
    let m = three_numbers (meaning (in_slot st.book k)) in
    let w = taken_first ts m (three_numbers (meaning e)) f.answer in
    found ts m (entry_numbers (in_slot st.book k)) out (entry_numbers e) w.0 (ap entry_numbers (f.entry e refl))
entry_out_lem st card k out (Err why) f =
    refused (entry_tests st card k) (three_numbers (meaning (in_slot st.book k))) why (entry_numbers (in_slot st.book k)) out f.answer

words_out_lem : (st : Station) (card c : ℕ) (out : List ℤ) (x : Result (ImmediateWords × ℕ) Refusal) → FindsRecord st card c x
    → words_out x out ≡ pick (eqb (first_of (record_tests st card c)) 0) (words_list (immediate_of (kept_at st c).strings)) out
words_out_lem st card c out (Ok (w, s)) f =
    let ts = record_tests st card c in
    found ts [] (words_list (immediate_of (kept_at st c).strings)) out (words_list w) (taken_first ts [] [] f.answer).0 (ap words_list (f.words w s refl).0)
words_out_lem st card c out (Err why) f = refused (record_tests st card c) [] why (words_list (immediate_of (kept_at st c).strings)) out f.answer

start_out_lem : (st : Station) (card c : ℕ) (was : ℕ) (x : Result (ImmediateWords × ℕ) Refusal) → FindsRecord st card c x
    → start_out x was ≡ pick (eqb (first_of (record_tests st card c)) 0) (kept_at st c).start was
start_out_lem st card c was (Ok (w, s)) f =
    let ts = record_tests st card c in
    found ts [] (kept_at st c).start was s (taken_first ts [] [] f.answer).0 (f.words w s refl).1
start_out_lem st card c was (Err why) f = refused (record_tests st card c) [] why (kept_at st c).start was f.answer

-- ---- what a question tells
abbrev pub entry_tests' : Station → ℕ → ℕ → List ℤ → List Test
entry_tests' st card k out = slot_tests card k ++ (room_test 13 out ∷ test 13 (is_empty st.book k) ∷ [])

abbrev pub record_tests' : Station → ℕ → ℕ → List ℤ → List Test
record_tests' st card c words = gate_tests card c ++ kept_tests (kept_at st c) words

abbrev pub told_to : Station → Question → Back
told_to st (Next block at) = Number (at + size_at block at)
told_to st (Summary card out) = Numbers (packed (answer_of (summary_tests card out) [])) (left_in (summary_tests card out) (summary_numbers st.summary) out)
told_to st (Health card c) = Number (packed (answer_of (gate_tests card c) (health_number (health_by (kept_at st c) st.book) ∷ [])))
told_to st (Tallies card c out) = Numbers (packed (answer_of (tallies_tests card c out) [])) (left_in (tallies_tests card c out) (all_counts (row_at st c).tallies) out)
told_to st (Immediate card c words start) =
    let ts = record_tests' st card c words in
    Started (packed (answer_of ts [])) (left_in ts (words_list (immediate_of (kept_at st c).strings)) words) (left_in ts (kept_at st c).start start)
told_to st (Entry card k out) =
    let ts = entry_tests' st card k out in
    Words (packed (answer_of ts [])) (left_in ts (entry_numbers (in_slot st.book k)) out)
told_to st (Book out) = Numbers (pick (eqb (length out) book_length) 0 12) (pick (eqb (length out) book_length) (book_bytes st.book) out)
told_to st (Navigation card c out) =
    let ts = navigation_tests st card c (length out) in
    Numbers (packed (answer_of ts (n_at st c ∷ []))) (left_in ts (text_at st c) out)

started : {r k : ℕ} {w v : List ℤ} {s t : ℕ} → r ≡ k → w ≡ v → s ≡ t → Started r w s ≡ Started k v t
started {r} {k} {w} {v} {s} {t} a b c = ap₂ (λ (n : ℕ) (l : List ℤ). Started n l s) a b ∙ ap (Started k v) c

-- AS THE CONTRACTS SAY
pub tells_are : (st : Station) (q : Question) (back : Back) → Tells st q back → back ≡ told_to st q
unfolding TellsHealth
tells_are st q back (next s block at) = refl
tells_are st q back (summary s card out out' r t) = ap₂ Numbers t.answer t.output
tells_are st q back (health s card c r t) = ap Number t
tells_are st q back (tallies s card c out out' r t) = ap₂ Numbers t.answer t.output
tells_are st q back (immediate s card c words start words' start' r t) =
    started t.raw.answer t.raw.output t.begins.output
tells_are st q back (entry s card k out out' r t) = ap₂ Words t.answer t.output
tells_are st q back (book s out out' r t) = ap₂ Numbers t.answer t.bytes
tells_are st q back (navigation s card c out out' r t) = ap₂ Numbers t.answer t.output

pub tells : (st : Station) (q : Question) → Tells st q (told_to st q)
unfolding TellsHealth
tells st (Next block at) = next st block at
tells st (Summary card out) = summary st card out _ _ (record { answer = refl; output = refl })
tells st (Health card c) = health st card c _ refl
tells st (Tallies card c out) = tallies st card c out _ _ (record { answer = refl; output = refl })
tells st (Immediate card c words start) =
    immediate st card c words start _ _ _ (record { raw = record { answer = refl; output = refl }; begins = record { answer = refl; output = refl } })
tells st (Entry card k out) = entry st card k out _ _ (record { answer = refl; output = refl })
tells st (Book out) = book st out _ _ (record { answer = refl; bytes = refl })
tells st (Navigation card c out) = navigation st card c out _ _ (record { answer = refl; output = refl })

-- AS BY VALUE
pub value_are : (st : Station) (q : Question) (back : Back) → TellsByValue st q back → back ≡ told_to st q
unfolding FindsSummary FindsTallies FindsHealth
value_are st q back (next' s card block at r t) = ap Number t.next
value_are st q back (summary' s card out x f) =
    let us = card_test card ∷ [] in
    ap₂ Numbers (number_same us [] 3 out tt tt tt (summary_paper x) (summary_numbers s.summary) f)
    (out_same us [] 3 out tt tt tt (summary_numbers s.summary) out (summary_out x out) (summary_out_lem s card out x f))
value_are st q back (health' s card c x f) = ap (λ (l : List ℕ). Number (packed l)) f
value_are st q back (tallies' s card c out x f) =
    let us = gate_tests card c in
    ap₂ Numbers (number_same us [] 14 out tt tt tt (tallies_paper x) (all_counts (row_at s c).tallies) f)
    (out_same us [] 14 out tt tt tt (all_counts (row_at s c).tallies) out (tallies_out x out) (tallies_out_lem s card c out x f))
value_are st q back (immediate' s card c words start x f) =
    let us = gate_tests card c in
    let ts = test 13 (not (has_record (kept_at s c))) ∷ [] in
    started (number_same us ts 26 words tt tt tt (record_paper x) [] f.answer)
    (out_same us ts 26 words tt tt tt (words_list (immediate_of (kept_at s c).strings)) words (words_out x words) (words_out_lem s card c words x f))
    (out_same us ts 26 words tt tt tt (kept_at s c).start start (start_out x start) (start_out_lem s card c start x f))
value_are st q back (entry' s card k out x f) =
    let us = slot_tests card k in
    let ts = test 13 (is_empty s.book k) ∷ [] in
    ap₂ Words (number_same us ts 13 out tt tt tt (entry_paper x) (three_numbers (meaning (in_slot s.book k))) f.answer)
    (out_same us ts 13 out tt tt tt (entry_numbers (in_slot s.book k)) out (entry_out x out) (entry_out_lem s card k out x f))
value_are st q back (book' s out e) = ap (λ (t : Bool). Numbers (pick t 0 12) (pick t (book_bytes s.book) out)) (sym (eq-eqb (length out) book_length e))
value_are st q back (no_room_lem s out n) = ap (λ (t : Bool). Numbers (pick t 0 12) (pick t (book_bytes s.book) out)) (sym (ne_eqb (length out) book_length n))
value_are st q back (navigation' s card c out x text w) =
    let e = lent-navigation-laws.same s card c out _ text _ x w (record { answer = refl; output = refl }) in
    sym (ap₂ Numbers e.1 e.0)

told_by_lem : {st : Station} {q : Question} {back : Back} → TellsByValue st q back → TellsByValue st q (told_to st q)
told_by_lem {st} {q} {back} t = subst (TellsByValue st q) (value_are st q back t) t

pub value : (st : Station) (q : Question) → TellsByValue st q (told_to st q)
value st (Next block at) = told_by_lem (next' st 1 block at (taken st 1 block at) (takes st 1 block at))
value st (Summary card out) = let w = (demands.station_answers st).summary_of card in told_by_lem (summary' st card out w.answer w.fits)
value st (Health card c) = let w = (demands.station_answers st).health_of card c in told_by_lem (health' st card c w.answer w.fits)
value st (Tallies card c out) = let w = (demands.station_answers st).tallies_of card c in told_by_lem (tallies' st card c out w.answer w.fits)
value st (Immediate card c words start) =
    let w = (demands.station_answers st).immediate_of_lem card c in told_by_lem (immediate' st card c words start w.answer w.fits)
value st (Entry card k out) = let w = (demands.station_answers st).entry_of card k in told_by_lem (entry' st card k out w.answer w.fits)
value st (Book out) = told_by_lem (by (eqb (length out) book_length) refl)
  where
    by : (t : Bool) → eqb (length out) book_length ≡ t → TellsByValue st (Book out) (pick t (Numbers 0 (book_bytes st.book)) (Numbers 12 out))
    by true e = book' st out (eqb-true (length out) book_length e)
    by false e = no_room_lem st out (eqb-false (length out) book_length e)
value st (Navigation card c out) =
    let w = navigation-laws.answers st card c out in told_by_lem (navigation' st card c out w.answer.0 w.answer.1 w.fits)
