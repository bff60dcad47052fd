-- The laws of a lent offer and a lent reset (laws). The numbers of an offer's answer are bytes (answer-bytes), and six of them at most (answer-small); and it
-- is read back from the one number, byte by byte (paper-read).
-- Assumes nothing.
use Prim.Native.Nat.{ℕ, zero, suc, ◌<◌, ◌≤◌, ◌/◌, ◌%◌, ◌*◌, ◌^◌}
use native.Mathlib.Omega.{arith}
use mathlib.Core.Bool.{Bool, true, false, not}
use mathlib.Core.List.{List, [], ◌∷◌, ◌++◌}
use mathlib.Core.Path.{◌≡◌, refl, sym, ap, subst, ◌∙◌}
use lib.Dec.{eqb, ltb, ltb→lt}
use lib.ListN.{get_or, take}
use Rattle.strings.specs.Pick.{pick}
use Rattle.channel.specs.declared.TakenString.{TakenString}
use Rattle.strings.specs.declared.hamming.Damage.{Damage}
use Rattle.std.specs.Prelude.{Result, Ok, Err}
use Rattle.strings.specs.declared.Refusal.{Refusal}
use Rattle.strings.specs.declared.Refusal.TheVariants.{Channel, Shape, Damaged, Idle, Number, Early, Stale, OffBeat, Conflict, Range, Place, Room, Nothing, Slot, Owner, Card}
use Rattle.strings.specs.declared.hamming.Damage.TheVariants.{Unplaced, Even, Outside}
use Rattle.strings.specs.declared.Verdict.{Verdict}
use Rattle.strings.specs.declared.Verdict.TheVariants.{Clean, Repaired}
use Rattle.strings.specs.Hamming.{NamesBit, ruling}
use Rattle.strings.specs.Number.{bit_of, number_of}
use Rattle.strings.proofs.Digits.{bit_lt}
use Rattle.relative.specs.declared.Polarity.{Polarity}
use Rattle.relative.specs.Polarity.{first_symbol}
use Rattle.strings.specs.Numbers.{refusal_paper, Test, test, first_of, place_of, said_by, answer_of}
use Rattle.strings.specs.Calls.{sound_tests}
use Rattle.strings.proofs.Judge.{names_bit}
use Rattle.strings.proofs.Tests.{first_of_lem, no_place}
use Rattle.words.specs.Calls.{number_in}
use Rattle.channel.specs.declared.News.{News}
use Rattle.channel.specs.declared.News.TheVariants.{AlreadyHeld, Kept, RecordBuilt, RecordOutOfRange}
use Rattle.channel.specs.Frame.{news_of}
use Rattle.channel.specs.Offers.{news_number, answer_paper, told_as, took}
use Rattle.channel.proofs.Answers.{answer_same}
use Rattle.channel.proofs.Frames.{number_small}
use Rattle.hearing.specs.Hears.{plain_of, whole_of, verdict_of}
use Rattle.station.specs.declared.Station.{Station}
use Rattle.station.specs.declared.Stepped.{Stepped}
use Rattle.station.specs.declared.Emptied.{Emptied}
use Rattle.station.specs.Station.{last_channel, owner_of, held_at, is_card, station_tests, told_in, station_after, OffersTo, station_reset}
use Rattle.station.specs.History.{Call, Offer, Reset, Runs, offering, resetting}
use Rattle.station.proofs.EveryHistory.{some_answer, offer_answers, reset_answer, reset_answers}
use Rattle.told.specs.Told.{packed, AreBytes}
use Rattle.told.proofs.ReadBack.{read_back_lem}
use Rattle.lent.specs.Lent.{OffersLent, ResetsLent}
use Rattle.lent.specs.Laws.{AsOffered, AsReset, ToldAs, Laws}

-- ---- bytes, one after another
none_left : AreBytes []
none_left zero = omega arith
none_left (suc k) = omega arith

before : (x : ℕ) (xs : List ℕ) → x < 256 → AreBytes xs → AreBytes (x ∷ xs)
before x xs l h zero = l
before x xs l h (suc k) = h k

news_byte : (w : News) → news_number w < 256
news_byte AlreadyHeld = omega arith
news_byte Kept = omega arith
news_byte RecordBuilt = omega arith
news_byte RecordOutOfRange = omega arith

six_bytes : (m k i n p : ℕ) → m < 256 → k < 256 → i < 256 → n < 256 → p < 256 → AreBytes (0 ∷ m ∷ k ∷ i ∷ n ∷ p ∷ [])
six_bytes m k i n p lm lk li ln lp =
    before 0 (m ∷ k ∷ i ∷ n ∷ p ∷ []) (omega arith)
    (before m (k ∷ i ∷ n ∷ p ∷ []) lm (before k (i ∷ n ∷ p ∷ []) lk (before i (n ∷ p ∷ []) li (before n (p ∷ []) ln (before p [] lp none_left)))))

taken_bytes : (m : ℕ) (v : Verdict) (w : News) (x : ℕ) → m ≤ 15 → NamesBit v → AreBytes (0 ∷ (told_as m v w ++ (first_symbol x ∷ [])))
unfolding first_symbol
taken_bytes m Clean w x l b =
    six_bytes m 0 0 (news_number w) (bit_of x 85) (omega (arith, l)) (omega arith) (omega arith) (news_byte w) (omega (arith, bit_lt x 85))
taken_bytes m (Repaired i) w x l b =
    six_bytes m 1 i (news_number w) (bit_of x 85) (omega (arith, l)) (omega arith) (omega (arith, b.1)) (news_byte w) (omega (arith, bit_lt x 85))

-- ---- what tests say whose numbers are bytes and that tell no place
said_bytes : (k : ℕ) (place told : List ℕ) → k < 256 → place ≡ [] → AreBytes (0 ∷ told) → AreBytes (said_by k place told)
said_bytes zero place told l e h = h
said_bytes (suc k) place told l e h = before (suc k) place l (subst AreBytes (sym e) none_left)

said_small : (k : ℕ) (place told : List ℕ) → k < 256 → place ≡ [] → packed (0 ∷ told) < 2 ^ 48 → packed (said_by k place told) < 2 ^ 48
said_small zero place told l e h = h
said_small (suc k) place told l e h = let z : packed place ≡ 0 = ap packed e in omega (arith, l, z)

-- six numbers that are bytes, in one
six_small : (m k i n p : ℕ) → AreBytes (0 ∷ m ∷ k ∷ i ∷ n ∷ p ∷ []) → packed (0 ∷ m ∷ k ∷ i ∷ n ∷ p ∷ []) < 2 ^ 48
six_small m k i n p h = omega (arith, h 1, h 2, h 3, h 4, h 5)

taken_small : (m : ℕ) (v : Verdict) (w : News) (x : ℕ) → AreBytes (0 ∷ (told_as m v w ++ (first_symbol x ∷ []))) → packed (0 ∷ (told_as m v w ++ (first_symbol x ∷ []))) < 2 ^ 48
taken_small m Clean w x h = six_small m 0 0 (news_number w) (first_symbol x) h
taken_small m (Repaired i) w x h = six_small m 1 i (news_number w) (first_symbol x) h

names_one : (n : ℕ) → NamesBit (verdict_of (ruling n))
names_one n = by (ruling n) refl
  where
    by : (r : Result Verdict Damage) → ruling n ≡ r → NamesBit (verdict_of r)
    by (Ok v) e = names_bit n v e
    by (Err d) e = tt

module _ (st : Station) (card c epoch : ℕ) (s : List ℕ) where
  abbrev tests : List Test
  tests = station_tests st card c epoch s

  small : first_of tests < 256
  unfolding sound_tests
  small = ltb→lt (first_of tests) 256 (first_of_lem (λ k. ltb k 256) tests tt tt)

  placed_nowhere : place_of tests ≡ []
  unfolding sound_tests
  placed_nowhere = no_place tests tt

  told_is_bytes : AreBytes (0 ∷ told_in st c epoch s)
  told_is_bytes =
      let n = whole_of s in
      taken_bytes (number_in n) (verdict_of (ruling (plain_of s))) (news_of (held_at st c) epoch n) (number_of s) (number_small n) (names_one (plain_of s))

  answer_bytes : AreBytes (answer_of tests (told_in st c epoch s))
  answer_bytes = said_bytes (first_of tests) (place_of tests) (told_in st c epoch s) small placed_nowhere told_is_bytes

  answer_small : packed (answer_of tests (told_in st c epoch s)) < 2 ^ 48
  answer_small =
      let n = whole_of s in
      said_small (first_of tests) (place_of tests) (told_in st c epoch s) small placed_nowhere
      (taken_small (number_in n) (verdict_of (ruling (plain_of s))) (news_of (held_at st c) epoch n) (number_of s) told_is_bytes)

-- ---- the offer that a lent one is
module _ (st : Station) (card c epoch : ℕ) (s : List ℕ) where
  abbrev step : Stepped
  step = record { station = station_after st card c epoch s; answer = (some_answer st card c epoch s).answer }

  offered : OffersTo st card c epoch s step
  offered = offer_answers st card c epoch s

  module _ (st' : Station) (r : ℕ) where
    to_offer : OffersLent st card c epoch s st' r → AsOffered st card c epoch s st' r
    to_offer o = record { step = step; offers = offered; answer = o.answer ∙ ap packed (sym offered.answer); station = o.station }

    from-offer : AsOffered st card c epoch s st' r → OffersLent st card c epoch s st' r
    from-offer o = record { answer = o.answer ∙ ap packed o.offers.answer; station = o.station ∙ o.offers.station }

    runs_on : (cs : List Call) → Runs cs st → OffersLent st card c epoch s st' r → Runs (Offer card c epoch s ∷ cs) st'
    runs_on cs run o = subst (Runs (Offer card c epoch s ∷ cs)) (sym o.station) (offering card c epoch s cs st step run offered)

    six-hold : OffersLent st card c epoch s st' r → r < 2 ^ 48
    six-hold o = subst (λ (k : ℕ). k < 2 ^ 48) (sym o.answer) (answer_small st card c epoch s)

  bytes : (r : Stepped) → OffersTo st card c epoch s r → AreBytes (answer_paper r.answer)
  bytes r o = subst AreBytes (sym o.answer) (answer_bytes st card c epoch s)

-- ---- the reset that a lent one is
module _ (st : Station) (card c : ℕ) where
  abbrev emptied : Emptied
  emptied = record { station = station_reset st card c; answer = reset_answer card c }

  module _ (st' : Station) (r : ℕ) where
    to-reset : ResetsLent st card c st' r → AsReset st card c st' r
    to-reset o = let e = reset_answers st card c in record { step = emptied; resets = e; answer = o.answer ∙ ap packed (sym e.answer); station = o.station }

    from-reset : AsReset st card c st' r → ResetsLent st card c st' r
    from-reset o = record { answer = o.answer ∙ ap packed o.resets.answer; station = o.station ∙ o.resets.station }

    resets_on : (cs : List Call) → Runs cs st → ResetsLent st card c st' r → Runs (Reset card c ∷ cs) st'
    resets_on cs run o = subst (Runs (Reset card c ∷ cs)) (sym o.station) (resetting card c cs st emptied run (reset_answers st card c))

    five-hold : ResetsLent st card c st' r → r < 2 ^ 5
    five-hold o = subst (λ (k : ℕ). k < 2 ^ 5) (sym o.answer) (by (not (is_card card)) (ltb last_channel c) (not (eqb (owner_of c) card)))
      where
        by : (b d e : Bool) → packed (answer_of (test 16 b ∷ test 1 d ∷ test 15 e ∷ []) []) < 2 ^ 5
        by true d e = omega arith
        by false true e = omega arith
        by false false true = omega arith
        by false false false = omega arith

-- ---- an answer read back: five numbers after the 0, two where the first is 10, and else the first alone
abbrev six : List ℕ → List ℕ
six l = get_or l 0 0 ∷ get_or l 1 0 ∷ get_or l 2 0 ∷ get_or l 3 0 ∷ get_or l 4 0 ∷ get_or l 5 0 ∷ []

abbrev told : List ℕ → List ℕ
told l = pick (eqb (get_or l 0 0) 0) l (pick (eqb (get_or l 0 0) 10) (take 2 l) (take 1 l))

refusal_read : (q : Refusal) → told (six (refusal_paper q)) ≡ refusal_paper q
refusal_read Channel = refl
refusal_read Shape = refl
refusal_read (Damaged Unplaced) = refl
refusal_read (Damaged Even) = refl
refusal_read (Damaged Outside) = refl
refusal_read Idle = refl
refusal_read Number = refl
refusal_read Early = refl
refusal_read Stale = refl
refusal_read OffBeat = refl
refusal_read Conflict = refl
refusal_read (Range place) = refl
refusal_read Place = refl
refusal_read Room = refl
refusal_read Nothing = refl
refusal_read Slot = refl
refusal_read Owner = refl
refusal_read Card = refl

taken_read : (m : ℕ) (v : Verdict) (w : News) (p : Polarity) → told (six (answer_paper (took m v w p))) ≡ answer_paper (took m v w p)
taken_read m Clean w p = refl
taken_read m (Repaired i) w p = refl

paper_read : (a : Result TakenString Refusal) → told (six (answer_paper a)) ≡ answer_paper a
paper_read (Ok said) = taken_read said.m said.verdict said.news said.polarity
paper_read (Err q) = refusal_read q

-- the first six bytes of a number
abbrev byte_of : ℕ → ℕ → ℕ
byte_of n k = n / 2 ^ (8 * k) % 256

abbrev six_in : ℕ → List ℕ
six_in n = byte_of n 0 ∷ byte_of n 1 ∷ byte_of n 2 ∷ byte_of n 3 ∷ byte_of n 4 ∷ byte_of n 5 ∷ []

six_read : (xs : List ℕ) → AreBytes xs → six_in (packed xs) ≡ six xs
six_read xs h = rw (read_back_lem xs h 0, read_back_lem xs h 1, read_back_lem xs h 2, read_back_lem xs h 3, read_back_lem xs h 4, read_back_lem xs h 5)

apart : (a b : Result TakenString Refusal) → AreBytes (answer_paper a) → AreBytes (answer_paper b) → packed (answer_paper a) ≡ packed (answer_paper b) → a ≡ b
apart a b h k e =
    answer_same a b
    (sym (paper_read a) ∙ ap told (sym (six_read (answer_paper a) h) ∙ ap six_in e ∙ six_read (answer_paper b) k) ∙ paper_read b)

-- ---- the number tells the answer
module _ {a : Result TakenString Refusal} {n : ℕ} (t : ToldAs a n) where
  told_bytes : AreBytes (answer_paper a)
  told_bytes = subst (λ (x : Result TakenString Refusal). AreBytes (answer_paper x)) t.answer (bytes t.before t.card t.channel t.epoch t.bytes t.step t.offers)

  told_number : n ≡ packed (answer_paper a)
  told_number = t.lent.answer ∙ ap packed (sym t.offers.answer) ∙ ap (λ (x : Result TakenString Refusal). packed (answer_paper x)) t.answer

-- ALL OF THEM
pub laws : Laws
laws =
    record {
      as_offered = λ st card c epoch s st' r. (to_offer st card c epoch s st' r, from-offer st card c epoch s st' r);
      runs = λ cs st card c epoch s st' r. runs_on st card c epoch s st' r cs;
      as_reset = λ st card c st' r. (to-reset st card c st' r, from-reset st card c st' r);
      runs_reset = λ cs st card c st' r. resets_on st card c st' r cs;
      told_once = λ a b n t u. apart a b (told_bytes t) (told_bytes u) (sym (told_number t) ∙ told_number u);
      in_bytes_lem = bytes;
      told_apart = apart;
      six_bytes = six-hold;
      five_bits = five-hold;
    }
