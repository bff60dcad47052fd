-- The host is told any two answers of a call apart (told-apart): each is read back from its number, or from its number and its output.
-- Assumes nothing.
use Prim.Native.Nat.{ℕ, zero, suc, ◌/◌, ◌%◌, ◌<◌}
use native.Mathlib.Omega.{arith}
use mathlib.Core.Bool.{Bool, true, false, not, true≢false}
use mathlib.Core.List.{List, [], ◌∷◌}
use mathlib.Core.Path.{◌≡◌, refl, sym, ap, ap₂, subst, ◌∙◌}
use borrow.Author.Tests.{eq-eqb}
use lib.Dec.{T, eqb, leb, ltb}
use lib.IntN.{ℤ}
use lib.ListN.{length, get_or, drop, take}
use Rattle.strings.specs.Pick.{pick}
use Rattle.navigation.specs.declared.Unwritten.{Unwritten}
use Rattle.station.specs.declared.Health.{Health as TheHealth}
use Rattle.tallies.specs.declared.Tallies.{Tallies}
use Rattle.book.specs.declared.Entry.{Entry as TheEntry}
use Rattle.channel.specs.declared.TakenString.{TakenString}
use Rattle.std.specs.Prelude.{Result, Ok, Err, None, ⊤}
use Rattle.strings.specs.declared.Refusal.{Refusal}
use Rattle.strings.specs.declared.Refusal.TheVariants.{Channel, Shape, Damaged, Idle, Number as NoNumber, Early, Stale, OffBeat, Conflict, Range, Place, Room, Nothing as None, Slot, Owner, Card}
use Rattle.strings.specs.declared.hamming.Damage.TheVariants.{Unplaced, Even, Outside}
use Rattle.strings.specs.Numbers.{refusal_paper, Test, test, test_at, first_of, place_of, said_by, answer_of}
use Rattle.strings.specs.Calls.{written_paper}
use Rattle.strings.proofs.Answer.{refusal_known, refusal_same, refusal_of, not_taken, written_same}
use Rattle.strings.proofs.Tests.{placeless, no_place}
use Rattle.fields.specs.declared.Why.{Why}
use Rattle.fields.specs.declared.Why.TheVariants.{Tag, Length, Cut}
use Rattle.fields.specs.Fields.{tag_in, length_in, is_unknown, is_wrong, is_cut, tests_in, why_number}
use Rattle.fields.specs.Block.{Call, Offer, Reset, call_in}
use Rattle.records.specs.declared.named.ImmediateWords.{ImmediateWords}
use Rattle.records.specs.Records.{string1_of, string2_of, string3_of, string4_of}
use Rattle.summary.specs.declared.Summary.{Summary}
use Rattle.wire.specs.Bytes.{book_from}
use Rattle.wire.proofs.Laws.{laws as wire-laws}
use Rattle.channel.specs.Offers.{answer_paper}
use Rattle.station.specs.declared.Station.{Station}
use Rattle.station.specs.declared.Health.TheVariants.{Unknown, Usable, NotUsable}
use Rattle.station.specs.Station.{last_channel, owner_of, is_card, card_test, gate_tests, shut_says}
use Rattle.station.specs.Queries.{record_tests, record_paper, FindsRecord, entry_tests, entry_paper, FindsEntry, tallies_paper, FindsTallies, summary_paper, FindsSummary, health_paper}
use Rattle.station.proofs.EveryHistory.{offer_answers}
use Rattle.station.proofs.QueriesOnce.{tallies_same, health_same}
use Rattle.blocks.specs.declared.Told.{Told}
use Rattle.blocks.specs.declared.Told.TheVariants.{End, Offered, Emptied, Remark, Refused}
use Rattle.blocks.specs.declared.Taken.{Taken}
use Rattle.blocks.specs.Taking.{answer_in, after_calls, answers_to, answer_among, field_says, calls_at, told_paper, Takes}
use Rattle.blocks.specs.Along.{answers_in}
use Rattle.blocks.proofs.Found.{no_number}
use Rattle.blocks.proofs.Laws.{told_same}
use Rattle.navigation.specs.declared.Unwritten.TheVariants.{Refused as NotRecorded, Lines}
use Rattle.navigation.specs.Writes.{words_at, text_at, answer_paper as navigationPaper, Writes}
use Rattle.navigation.proofs.Laws.{laws as navigation-laws}
use Rattle.told.specs.Told.{packed, AreBytes}
use Rattle.lent.proofs.Laws.{laws as lent-laws}
use Rattle.lent_blocks.specs.Taking.{numbers_in, TakesLent}
use Rattle.lent_blocks.specs.Laws.{lowest_of, above_of}
use Rattle.lent_blocks.proofs.Laws.{laws as block-laws}
use Rattle.lent_navigation.proofs.Told.{refusal_two}
use Rattle.lent_life.specs.Life.{Back, Numbers, Words, Started}
use Rattle.lent_life.specs.ByValue.{has_room, number_told, summary_out, tallies_out, entry_out, words_out, start_out, health_back, field_back, navigation_back}
use Rattle.lent_life.specs.Histories.{number_in}
use Rattle.lent_life.specs.Apart.{SameWords, found, refused, ToldApart}
use Rattle.lent_life.proofs.Told.{out_in, words_in, start_in}
use Rattle.lent_life.proofs.Epoch.{quarter_told}
use Rattle.lent_life.proofs.Histories.{its_answers}

-- ---- a refusal read back from its one number: the lowest byte, and where that is 10 the place above it
abbrev read_back : ℕ → List ℕ
read_back n = pick (eqb (n % 256) 10) (n % 256 ∷ n / 256 ∷ []) (n % 256 ∷ [])

range_low : (place : ℕ) → packed (10 ∷ place ∷ []) % 256 ≡ 10
range_low place = omega arith

range_above : (place : ℕ) → packed (10 ∷ place ∷ []) / 256 ≡ place
range_above place = omega arith

range_read : (place : ℕ) → read_back (packed (10 ∷ place ∷ [])) ≡ 10 ∷ place ∷ []
range_read place = rw (range_low place, range_above place) refl

refusal_read : (q : Refusal) → read_back (packed (refusal_paper q)) ≡ refusal_paper q
refusal_read Channel = refl
refusal_read Shape = refl
refusal_read (Damaged Unplaced) = refl
refusal_read (Damaged Even) = refl
refusal_read (Damaged Outside) = refl
refusal_read Idle = refl
refusal_read NoNumber = refl
refusal_read Early = refl
refusal_read Stale = refl
refusal_read OffBeat = refl
refusal_read Conflict = refl
refusal_read (Range place) = range_read place
refusal_read Place = refl
refusal_read Room = refl
refusal_read None = refl
refusal_read Slot = refl
refusal_read Owner = refl
refusal_read Card = refl

written_read : (w : Result ⊤ Refusal) → read_back (packed (written_paper w)) ≡ written_paper w
written_read (Ok _) = refl
written_read (Err q) = refusal_read q

written_apart : (v w : Result ⊤ Refusal) → packed (written_paper v) ≡ packed (written_paper w) → v ≡ w
written_apart v w e = written_same v w (sym (written_read v) ∙ ap read_back e ∙ written_read w)

-- ---- health: where the lowest byte is 0 the health stands above it
abbrev health_read : ℕ → List ℕ
health_read n = pick (eqb (n % 256) 0) (0 ∷ n / 256 ∷ []) (read_back n)

low_read : (n : ℕ) (l : List ℕ) → read_back n ≡ l → n % 256 ≡ get_or l 0 0
low_read n l e = sym (by (eqb (n % 256) 10)) ∙ ap (λ (m : List ℕ). get_or m 0 0) e
  where
    by : (t : Bool) → get_or (pick t (n % 256 ∷ n / 256 ∷ []) (n % 256 ∷ [])) 0 0 ≡ n % 256
    by true = refl
    by false = refl

health_read_lem : (x : Result TheHealth Refusal) → health_read (packed (health_paper x)) ≡ health_paper x
health_read_lem (Ok Unknown) = refl
health_read_lem (Ok Usable) = refl
health_read_lem (Ok NotUsable) = refl
health_read_lem (Err q) =
    let n = packed (refusal_paper q) in
    let z : eqb (n % 256) 0 ≡ false = ap (λ (k : ℕ). eqb k 0) (low_read n (refusal_paper q) (refusal_read q)) ∙ (refusal_known q).1 in
    ap (λ (t : Bool). pick t (0 ∷ n / 256 ∷ []) (read_back n)) z ∙ refusal_read q

health_apart : (x y : Result TheHealth Refusal) → health_back x ≡ health_back y → x ≡ y
health_apart x y e = health_same x y (sym (health_read_lem x) ∙ ap (λ (b : Back). health_read (number_in b)) e ∙ health_read_lem y)

-- ---- a navigation record: where the lowest byte is 0 its satellite stands above it
record_low : (n : ℕ) → packed (0 ∷ n ∷ []) % 256 ≡ 0
record_low n = omega arith

record_above : (n : ℕ) → packed (0 ∷ n ∷ []) / 256 ≡ n
record_above n = omega arith

record_read : (x : Result (ℕ × ℕ) Unwritten) → health_read (packed (take 2 (navigationPaper x))) ≡ take 2 (navigationPaper x)
record_read (Ok (n, quarter)) = rw (record_low n, record_above n) refl
record_read (Err (NotRecorded q)) = ap (λ (l : List ℕ). health_read (packed l)) (refusal_two q) ∙ health_read_lem (Err q) ∙ sym (refusal_two q)
record_read (Err Lines) = refl

-- 17 is no refusal of another call's
no_lines : {A : Type 0} (q : Refusal) → take 2 (refusal_paper q) ≡ 17 ∷ [] → A
no_lines q e =
    let f : refusal_paper q ≡ 17 ∷ [] = sym (refusal_two q) ∙ e in
    let d : refusal_paper (refusal_of (17 ∷ [])) ≡ 17 ∷ [] = ap refusal_paper (sym (ap refusal_of f) ∙ (refusal_known q).0) ∙ f in
    let z : ◌≡◌ {A = ℕ} 16 17 = ap (λ (l : List ℕ). get_or l 0 0) d in absurd (omega (arith, z))

-- and its text tells the quarter of an hour
quarter_same : (st st' : Station) (card card' c c' n m p q : ℕ) (out out' text text' : List ℕ) → Writes st card c out (Ok (n, p)) text
    → Writes st' card' c' out' (Ok (m, q)) text' → text ≡ text' → p ≡ q
unfolding text_at
quarter_same st st' card card' c c' n m p q out out' text text' f g e =
    let a = navigation-laws.written st card c out n p text f in
    let b = navigation-laws.written st' card' c' out' m q text' g in
    a.epoch ∙ quarter_told (words_at st c) (words_at st' c') _ _ _ _ a.in_time b.in_time (sym a.text ∙ e ∙ b.text) ∙ sym b.epoch

module _ (st st' : Station) (card card' c c' : ℕ) (out out' text text' : List ℕ) where
  same_record : (x y : Result (ℕ × ℕ) Unwritten) → Writes st card c out x text → Writes st' card' c' out' y text' → text ≡ text'
      → take 2 (navigationPaper x) ≡ take 2 (navigationPaper y) → x ≡ y
  same_record (Ok (n, p)) (Ok (m, q)) f g t e =
      ap₂ (λ (x y : ℕ). Ok (x, y)) (ap (λ (l : List ℕ). get_or l 1 0) e) (quarter_same st st' card card' c c' n m p q out out' text text' f g t)
  same_record (Ok (n, p)) (Err (NotRecorded v)) f g t e = absurd (not_taken v _ (sym (refusal_two v) ∙ sym e))
  same_record (Ok (n, p)) (Err Lines) f g t e = let z : ◌≡◌ {A = ℕ} 0 17 = ap (λ (l : List ℕ). get_or l 0 0) e in absurd (omega (arith, z))
  same_record (Err (NotRecorded v)) (Ok (m, q)) f g t e = absurd (not_taken v _ (sym (refusal_two v) ∙ e))
  same_record (Err (NotRecorded v)) (Err (NotRecorded u)) f g t e = ap (λ (x : Refusal). Err (NotRecorded x)) (refusal_same v u (sym (refusal_two v) ∙ e ∙ refusal_two u))
  same_record (Err (NotRecorded v)) (Err Lines) f g t e = no_lines v e
  same_record (Err Lines) (Ok (m, q)) f g t e = let z : ◌≡◌ {A = ℕ} 17 0 = ap (λ (l : List ℕ). get_or l 0 0) e in absurd (omega (arith, z))
  same_record (Err Lines) (Err (NotRecorded u)) f g t e = no_lines u (sym e)
  same_record (Err Lines) (Err Lines) f g t e = refl

  record_apart : (x y : Result (ℕ × ℕ) Unwritten) → Writes st card c out x text → Writes st' card' c' out' y text' → navigation_back x text ≡ navigation_back y text' → x ≡ y
  record_apart x y f g e = same_record x y f g (ap out_in e) (sym (record_read x) ∙ ap (λ (b : Back). health_read (number_in b)) e ∙ record_read y)

-- ---- a field: what it led to is known by the lowest byte, what stands above it, and the place
far : (w : Why) (k : ℕ) → k < 41 → why_number w ≡ k → ⊥
far Tag k l e = omega (arith, l, e)
far Length k l e = omega (arith, l, e)
far Cut k l e = omega (arith, l, e)

same_told : (at : ℕ) (t u : Told) → ((a : Result TakenString Refusal) → t ≡ Offered a → AreBytes (answer_paper a)) → ((b : Result TakenString Refusal) → u ≡ Offered b → AreBytes (answer_paper b))
    → ((v : Why) (i : ℕ) → t ≡ Refused v i → i ≡ at) → ((w : Why) (j : ℕ) → u ≡ Refused w j → j ≡ at) → lowest_of t ≡ lowest_of u → above_of t ≡ above_of u → t ≡ u
same_told at End End m n m' n' low above = refl
same_told at End (Offered b) m n m' n' low above = absurd (omega (arith, low))
same_told at End (Emptied b) m n m' n' low above = absurd (omega (arith, low))
same_told at End Remark m n m' n' low above = absurd (omega (arith, low))
same_told at End (Refused w j) m n m' n' low above = absurd (far w 0 (omega arith) (sym low))
same_told at (Offered a) End m n m' n' low above = absurd (omega (arith, low))
same_told at (Offered a) (Offered b) m n m' n' low above = ap Offered (lent-laws.told_apart a b (m a refl) (n b refl) above)
same_told at (Offered a) (Emptied b) m n m' n' low above = absurd (omega (arith, low))
same_told at (Offered a) Remark m n m' n' low above = absurd (omega (arith, low))
same_told at (Offered a) (Refused w j) m n m' n' low above = absurd (far w 1 (omega arith) (sym low))
same_told at (Emptied a) End m n m' n' low above = absurd (omega (arith, low))
same_told at (Emptied a) (Offered b) m n m' n' low above = absurd (omega (arith, low))
same_told at (Emptied a) (Emptied b) m n m' n' low above = ap Emptied (written_apart a b above)
same_told at (Emptied a) Remark m n m' n' low above = absurd (omega (arith, low))
same_told at (Emptied a) (Refused w j) m n m' n' low above = absurd (far w 2 (omega arith) (sym low))
same_told at Remark End m n m' n' low above = absurd (omega (arith, low))
same_told at Remark (Offered b) m n m' n' low above = absurd (omega (arith, low))
same_told at Remark (Emptied b) m n m' n' low above = absurd (omega (arith, low))
same_told at Remark Remark m n m' n' low above = refl
same_told at Remark (Refused w j) m n m' n' low above = absurd (far w 3 (omega arith) (sym low))
same_told at (Refused v i) End m n m' n' low above = absurd (far v 0 (omega arith) low)
same_told at (Refused v i) (Offered b) m n m' n' low above = absurd (far v 1 (omega arith) low)
same_told at (Refused v i) (Emptied b) m n m' n' low above = absurd (far v 2 (omega arith) low)
same_told at (Refused v i) Remark m n m' n' low above = absurd (far v 3 (omega arith) low)
same_told at (Refused v i) (Refused w j) m n m' n' low above = told_same (Refused v i) (Refused w j) (ap₂ (λ (k p : ℕ). k ∷ p ∷ []) low (m' v i refl ∙ sym (n' w j refl)))

-- the numbers of a call's answer are bytes
bytes_end : AreBytes []
bytes_end zero = omega arith
bytes_end (suc k) = omega arith

byte_one : (x : ℕ) → x < 256 → AreBytes (x ∷ [])
byte_one x l zero = l
byte_one x l (suc k) = bytes_end k

shut_bytes : (card c : ℕ) → AreBytes (shut_says card c)
shut_bytes card c = by (not (is_card card)) (ltb last_channel c) (not (eqb (owner_of c) card))
  where
    by : (b d e : Bool) → AreBytes (answer_of (test 16 b ∷ test 1 d ∷ test 15 e ∷ []) [])
    by true d e = byte_one 16 (omega arith)
    by false true e = byte_one 1 (omega arith)
    by false false true = byte_one 15 (omega arith)
    by false false false = byte_one 0 (omega arith)

call_bytes : (st : Station) (card : ℕ) (call : Call) → AreBytes (answer_in st card call)
unfolding answer_in
call_bytes st card (Offer c epoch s) =
    let o = offer_answers st card c epoch s in subst AreBytes o.answer (lent-laws.in_bytes_lem st card c epoch s _ o)
call_bytes st card (Reset c) = shut_bytes card c

answer_bytes : (st : Station) (card : ℕ) (calls : List Call) (l : List ℕ) → l ∷ [] ≡ answers_to st card calls → AreBytes l
unfolding answers_to
answer_bytes st card [] l e = let z : ◌≡◌ {A = ℕ} 1 0 = ap length e in absurd (omega (arith, z))
answer_bytes st card (call ∷ calls) l e = subst AreBytes (sym (ap (λ (m : List (List ℕ)). get_or m 0 []) e)) (call_bytes st card call)

-- a field is refused at its place
refused_at : (at : ℕ) (a b c : Bool) (told : List ℕ) (why : Why) (place : ℕ)
    → why_number why ∷ place ∷ [] ≡ answer_of (test_at 43 at a ∷ test_at 41 at b ∷ test_at 42 at c ∷ []) told → place ≡ at
refused_at at true b c told why place e = ap (λ (l : List ℕ). get_or l 1 0) e
refused_at at false true c told why place e = ap (λ (l : List ℕ). get_or l 1 0) e
refused_at at false false true told why place e = ap (λ (l : List ℕ). get_or l 1 0) e
refused_at at false false false told why place e = absurd (no_number why (ap (λ (l : List ℕ). get_or l 0 0) e))

module _ {st : Station} {card : ℕ} {block : List ℕ} {at : ℕ} {r : Taken} (t : Takes st card block at r) where
  offered_bytes : (a : Result TakenString Refusal) → r.told ≡ Offered a → AreBytes (answer_paper a)
  offered_bytes a e = answer_bytes st card (calls_at block at) (answer_paper a) (ap answers_in (sym e) ∙ its_answers t)

  at_place : (why : Why) (place : ℕ) → r.told ≡ Refused why place → place ≡ at
  unfolding field_says
  at_place why place e = by (leb (length block) at) (ap told_paper (sym e) ∙ t.answer)
    where
      by : (end : Bool) → why_number why ∷ place ∷ []
          ≡ pick end (0 ∷ 0 ∷ []) (answer_of (tests_in at (drop at block)) (tag_in (drop at block) ∷ answer_among st card (call_in (drop at block)))) → place ≡ at
      by true p = absurd (no_number why (ap (λ (l : List ℕ). get_or l 0 0) p))
      by false p =
          refused_at at (is_cut (length_in (drop at block)) (length (drop at block))) (is_unknown (tag_in (drop at block)))
          (is_wrong (tag_in (drop at block)) (length_in (drop at block))) _ why place p

  lent_as : TakesLent st card block at (after_calls st card (calls_at block at)) (number_in (field_back r))
  lent_as = record { answer = ap (λ (l : List ℕ). packed (numbers_in l)) t.answer; station = refl }

  low_of : number_in (field_back r) % 256 ≡ lowest_of r.told
  low_of = block-laws.lowest st card block at (after_calls st card (calls_at block at)) (number_in (field_back r)) r lent_as t

  above_of_lem : number_in (field_back r) / 256 ≡ above_of r.told
  above_of_lem = block-laws.above st card block at (after_calls st card (calls_at block at)) (number_in (field_back r)) r lent_as t

field_apart : (st st' : Station) (card card' : ℕ) (block block' : List ℕ) (at : ℕ) (r r' : Taken) → Takes st card block at r
    → Takes st' card' block' at r' → field_back r ≡ field_back r' → r.told ≡ r'.told
field_apart st st' card card' block block' at r r' t u e =
    same_told at r.told r'.told (offered_bytes t) (offered_bytes u) (at_place t) (at_place u)
    (sym (low_of t) ∙ ap (λ (b : Back). number_in b % 256) e ∙ low_of u) (sym (above_of_lem t) ∙ ap (λ (b : Back). number_in b / 256) e ∙ above_of_lem u)

-- ---- a query with an output that has room: the number and what the output holds
-- with room, what comes back is the number and the output made
roomy : {X : Type 0} (n : ℕ) (out : List X) → length out ≡ n → has_room n out ≡ true
roomy n out e = eq-eqb (length out) n e

-- a refusal is not told as what is found
no_zero : {A : Type 0} (q : Refusal) → 0 ≡ get_or (refusal_paper q) 0 0 → A
no_zero q e = absurd (true≢false (ap (λ (k : ℕ). eqb k 0) e ∙ (refusal_known q).1))

-- and by tests that tell no place it is its number
alone_is : (k : ℕ) (place told : List ℕ) (q : Refusal) → place ≡ [] → refusal_paper q ≡ said_by k place told → refusal_paper q ≡ get_or (refusal_paper q) 0 0 ∷ []
alone_is zero place told q e f = no_zero q (sym (ap (λ (l : List ℕ). get_or l 0 0) f))
alone_is (suc k) place told q e f = let g = f ∙ ap (λ (l : List ℕ). suc k ∷ l) e in g ∙ ap (λ (l : List ℕ). get_or l 0 0 ∷ []) (sym g)

module _ (ts us : List Test) (told told' : List ℕ) (p : T (placeless ts)) (p' : T (placeless us)) where
  refusals_same : (q w : Refusal) → refusal_paper q ≡ answer_of ts told → refusal_paper w ≡ answer_of us told' → get_or (refusal_paper q) 0 0 ≡ get_or (refusal_paper w) 0 0 → q ≡ w
  refusals_same q w e f n =
      refusal_same q w
      (alone_is (first_of ts) (place_of ts) told q (no_place ts p) e ∙ ap (λ (k : ℕ). k ∷ []) n ∙ sym (alone_is (first_of us) (place_of us) told' w (no_place us p') f))

abbrev summary_by : List ℕ → Summary
summary_by l = record { count = get_or l 0 0; oldest = get_or l 1 0; newest = get_or l 2 0 }

module _ (st st' : Station) (card card' : ℕ) (out out' : List ℕ) where
  summary_with : (room room' : Bool) → room ≡ true → room' ≡ true → (x y : Result Summary Refusal) → FindsSummary st card x → FindsSummary st' card' y
      → Numbers (number_told room (summary_paper x)) (pick room (summary_out x out) out) ≡ Numbers (number_told room' (summary_paper y)) (pick room' (summary_out y out') out') → x ≡ y
  unfolding FindsSummary
  summary_with false room' q w x y f g e = absurd (true≢false (sym q))
  summary_with true false q w x y f g e = absurd (true≢false (sym w))
  summary_with true true q w (Ok s) (Ok t) f g e = ap (λ (b : Back). Ok (summary_by (out_in b))) e
  summary_with true true q w (Ok s) (Err v) f g e = no_zero v (ap number_in e)
  summary_with true true q w (Err v) (Ok t) f g e = no_zero v (sym (ap number_in e))
  summary_with true true q w (Err v) (Err u) f g e =
      ap Err (refusals_same (card_test card ∷ []) (card_test card' ∷ []) _ _ tt tt v u f g (ap number_in e))

module _ (st st' : Station) (card card' c c' : ℕ) (out out' : List ℕ) where
  tallies_with : (room room' : Bool) → room ≡ true → room' ≡ true → (x y : Result Tallies Refusal) → FindsTallies st card c x → FindsTallies st' card' c' y
      → Numbers (number_told room (tallies_paper x)) (pick room (tallies_out x out) out) ≡ Numbers (number_told room' (tallies_paper y)) (pick room' (tallies_out y out') out') → x ≡ y
  unfolding FindsTallies
  tallies_with false room' q w x y f g e = absurd (true≢false (sym q))
  tallies_with true false q w x y f g e = absurd (true≢false (sym w))
  tallies_with true true q w (Ok s) (Ok t) f g e = tallies_same (Ok s) (Ok t) (ap (λ (b : Back). 0 ∷ out_in b) e)
  tallies_with true true q w (Ok s) (Err v) f g e = no_zero v (ap number_in e)
  tallies_with true true q w (Err v) (Ok t) f g e = no_zero v (sym (ap number_in e))
  tallies_with true true q w (Err v) (Err u) f g e = ap Err (refusals_same (gate_tests card c) (gate_tests card' c') _ _ tt tt v u f g (ap number_in e))

-- the 26 words are those of the four strings, one after the other
abbrev words_by : List ℤ → ImmediateWords
words_by l = record { one = string1_of l; two = string2_of (drop 5 l); three = string3_of (drop 11 l); four = string4_of (drop 18 l) }

module _ (st st' : Station) (card card' c c' : ℕ) (words words' : List ℤ) (start start' : ℕ) where
  record_with : (room room' : Bool) → room ≡ true → room' ≡ true → (x y : Result (ImmediateWords × ℕ) Refusal) → FindsRecord st card c x → FindsRecord st' card' c' y
      → Started (number_told room (record_paper x)) (pick room (words_out x words) words) (pick room (start_out x start) start)
      ≡ Started (number_told room' (record_paper y)) (pick room' (words_out y words') words') (pick room' (start_out y start') start') → x ≡ y
  record_with false room' q w x y f g e = absurd (true≢false (sym q))
  record_with true false q w x y f g e = absurd (true≢false (sym w))
  record_with true true q w (Ok (a, s)) (Ok (b, t)) f g e = ap (λ (k : Back). Ok (words_by (words_in k), start_in k)) e
  record_with true true q w (Ok (a, s)) (Err v) f g e = no_zero v (ap number_in e)
  record_with true true q w (Err v) (Ok (b, t)) f g e = no_zero v (sym (ap number_in e))
  record_with true true q w (Err v) (Err u) f g e =
      ap Err (refusals_same (record_tests st card c) (record_tests st' card' c') [] [] tt tt v u f.answer g.answer (ap number_in e))

module _ (st st' : Station) (card card' k k' : ℕ) (out out' : List ℤ) where
  entry_with : (room room' : Bool) → room ≡ true → room' ≡ true → (x y : Result TheEntry Refusal) → FindsEntry st card k x → FindsEntry st' card' k' y
      → Words (number_told room (entry_paper x)) (pick room (entry_out x out) out) ≡ Words (number_told room' (entry_paper y)) (pick room' (entry_out y out') out') → SameWords x y
  entry_with false room' q w x y f g e = absurd (true≢false (sym q))
  entry_with true false q w x y f g e = absurd (true≢false (sym w))
  entry_with true true q w (Ok a) (Ok b) f g e = found a b (ap words_in e)
  entry_with true true q w (Ok a) (Err v) f g e = no_zero v (ap number_in e)
  entry_with true true q w (Err v) (Ok b) f g e = no_zero v (sym (ap number_in e))
  entry_with true true q w (Err v) (Err u) f g e =
      subst (λ (z : Refusal). SameWords (Err v) (Err z))
      (refusals_same (entry_tests st card k) (entry_tests st' card' k') _ _ tt tt v u f.answer g.answer (ap number_in e))
      (refused v)

-- ANY TWO ANSWERS ARE TOLD APART
pub told_apart : ToldApart
told_apart =
    record {
      offer = λ st st' card card' c c' epoch epoch' s s' r r' o o' e.
          lent-laws.told_apart r.answer r'.answer (lent-laws.in_bytes_lem st card c epoch s r o) (lent-laws.in_bytes_lem st' card' c' epoch' s' r' o') e;
      reset = λ st st' card card' c c' r r' o o' e. written_apart r.answer r'.answer e;
      field = field_apart;
      health = λ st st' card card' c c' x y f g e. health_apart x y e;
      summary = λ st st' card card' out out' x y n n' f g e. summary_with st st' card card' out out' (has_room 3 out) (has_room 3 out') (roomy 3 out n) (roomy 3 out' n') x y f g e;
      tallies = λ st st' card card' c c' out out' x y n n' f g e.
          tallies_with st st' card card' c c' out out' (has_room 14 out) (has_room 14 out') (roomy 14 out n) (roomy 14 out' n') x y f g e;
      immediate = λ st st' card card' c c' words words' start start' x y n n' f g e.
          record_with st st' card card' c c' words words' start start' (has_room 26 words) (has_room 26 words') (roomy 26 words n) (roomy 26 words' n') x y f g e;
      entry = λ st st' card card' k k' out out' x y n n' f g e.
          entry_with st st' card card' k k' out out' (has_room 13 out) (has_room 13 out') (roomy 13 out n) (roomy 13 out' n') x y f g e;
      navigation = record_apart;
      book = λ a b ia ib e. sym (wire-laws.back a ia) ∙ ap book_from e ∙ wire-laws.back b ib;
    }
