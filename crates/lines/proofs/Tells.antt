-- The line of a record is the paper's, from what an offer promises (lists-by), and no second one fits (lists-once).
-- Assumes nothing.
use mathlib.Core.Path.{◌≡◌, refl, sym, ap, ap₂, subst, ◌∙◌}
use mathlib.Core.Bool.{Bool, true, false, not, ◌&&◌}
use mathlib.Core.List.{List, [], ◌∷◌, ◌++◌}
use mathlib.Core.Logic.{⊎_elim}
use Prim.Native.Nat.{ℕ, zero, suc}
use native.Mathlib.Omega.{arith}
use lib.Dec.{T, eqb}
use lib.ListN.{get_or, drop}
use borrow.Author.Tests.{eq-eqb, eqb-true}
use Rattle.strings.specs.Pick.{pick, is_one_of}
use Rattle.channel.specs.declared.TakenString.{TakenString}
use Rattle.std.specs.Prelude.{Result, Err, Ok}
use Rattle.strings.specs.declared.Refusal.{Refusal}
use Rattle.strings.specs.declared.Refusal.TheVariants.{Channel, Shape, Damaged, Idle, Number, Early, Stale, OffBeat, Conflict, Range, Place, Room, Nothing, Slot, Owner, Card}
use Rattle.strings.specs.declared.hamming.Damage.TheVariants.{Unplaced, Even, Outside}
use Rattle.strings.specs.declared.Verdict.{Verdict}
use Rattle.strings.specs.declared.Verdict.TheVariants.{Clean, Repaired}
use Rattle.strings.specs.Number.{number_of}
use Rattle.strings.proofs.Answer.{refusal_known}
use Rattle.strings.specs.Numbers.{refusal_paper, Test, first_of, place_of, said_by, answer_of}
use Rattle.strings.specs.Calls.{sound_tests}
use Rattle.strings.proofs.Tests.{all_of, first_of_lem, first_by}
use Rattle.words.specs.Calls.{number_in}
use Rattle.channel.specs.declared.News.{News}
use Rattle.channel.specs.Frame.{place_tests, news_of}
use Rattle.hearing.specs.Hears.{whole_of, verdict_in, hear_tests}
use Rattle.relative.specs.declared.Polarity.{Polarity}
use Rattle.relative.specs.Polarity.{first_symbol, polarity_number}
use Rattle.channel.specs.Offers.{told_as, answer_paper, took}
use Rattle.channel.proofs.HeldFrame.{first_said}
use Rattle.station.specs.declared.Station.{Station}
use Rattle.station.specs.declared.Stepped.{Stepped}
use Rattle.station.specs.Station.{held_at, gate_tests, station_tests, told_in, OffersTo}
use Rattle.station.proofs.Served.{past_gate}
use Rattle.lines.specs.declared.Line.{Line}
use Rattle.lines.specs.declared.Listed.{Listed}
use Rattle.seen.specs.declared.seeing.Seen.{Seen}
use Rattle.fields.specs.Sixteen.{channel_in, epoch_in, symbols_in}
use Rattle.lines.specs.Line.{speaks_for, before_verdict, before_number, repaired_for, m_for, polarity_for, line_for, Lists}
use Rattle.seen.specs.Seen.{bit_in, seen, is_heard, seen_in, comes_before_verdict, seen_by}

-- the refusals before the verdict are the paper's 1..4, with 31 to 33 for 3
comes_before : (q : Refusal) → comes_before_verdict q ≡ is_one_of before_verdict (get_or (refusal_paper q) 0 0)
comes_before Channel = refl
comes_before Shape = refl
comes_before (Damaged Unplaced) = refl
comes_before (Damaged Even) = refl
comes_before (Damaged Outside) = refl
comes_before Idle = refl
comes_before Number = refl
comes_before Early = refl
comes_before Stale = refl
comes_before OffBeat = refl
comes_before Conflict = refl
comes_before (Range place) = refl
comes_before Place = refl
comes_before Room = refl
comes_before Nothing = refl
comes_before Slot = refl
comes_before Owner = refl
comes_before Card = refl

-- ---- a refused string
-- a number of both lists, and one of neither: what is seen again is what the paper tells
abbrev held_back : ℕ → Bool
held_back k = is_one_of before_verdict k && is_one_of before_number k

abbrev tells_both : ℕ → Bool
tells_both k = not (is_one_of before_verdict k) && not (is_one_of before_number k)

abbrev Again : ℕ → Bool → ℕ → ℕ → Type 0
Again k heard bit m =
    pick (is_one_of before_verdict k) (seen 0 0 0) (pick heard (seen bit m 0) (seen 0 0 0))
    ≡ seen (pick (is_one_of before_verdict k) 0 bit) (pick (is_one_of before_number k) 0 m) 0

held_back_lem : (a b heard : Bool) (bit m : ℕ) → T (a && b)
    → pick a (seen 0 0 0) (pick heard (seen bit m 0) (seen 0 0 0)) ≡ seen (pick a 0 bit) (pick b 0 m) 0
held_back_lem true true heard bit m t = refl
held_back_lem true false heard bit m t = absurd t
held_back_lem false b heard bit m t = absurd t

tells_both_lem : (a b : Bool) (bit m : ℕ) → T (not a && not b) → pick a (seen 0 0 0) (seen bit m 0) ≡ seen (pick a 0 bit) (pick b 0 m) 0
tells_both_lem true b bit m t = absurd t
tells_both_lem false true bit m t = absurd t
tells_both_lem false false bit m t = refl

-- ---- a taken one
told_bit : (m : ℕ) (v : Verdict) (w : News) (b : ℕ) → get_or (0 ∷ (told_as m v w ++ (b ∷ []))) 3 0 ≡ bit_in v
told_bit m Clean w b = refl
told_bit m (Repaired i) w b = refl

told_last : (m : ℕ) (v : Verdict) (w : News) (b : ℕ) → get_or (0 ∷ (told_as m v w ++ (b ∷ []))) 5 0 ≡ b
told_last m Clean w b = refl
told_last m (Repaired i) w b = refl

-- ---- what is seen by an answer is what the paper tells
module _ (st : Station) (c epoch : ℕ) (s : List ℕ) where
  abbrev tests : List Test
  tests = station_tests st speaks_for c epoch s

  abbrev told : ℕ → Seen
  told k = seen (repaired_for k s) (m_for k s) (polarity_for k s)

  seen_taken : (m : ℕ) (v : Verdict) (w : News) (p : Polarity) (k : ℕ) → answer_paper (took m v w p) ≡ said_by k (place_of tests) (told_in st c epoch s)
      → seen (bit_in v) m (polarity_number p) ≡ told k
  seen_taken m v w p zero e =
      let n = whole_of s in
      let x = news_of (held_at st c) epoch n in
      let b : bit_in v ≡ bit_in (verdict_in s) = sym (told_bit m v w _) ∙ ap (λ (l : List ℕ). get_or l 3 0) e ∙ told_bit (number_in n) (verdict_in s) x _ in
      let i : m ≡ number_in n = ap (λ (l : List ℕ). get_or l 1 0) e in
      let f : polarity_number p ≡ first_symbol (number_of s) =
      sym (told_last m v w _) ∙ ap (λ (l : List ℕ). get_or l 5 0) e ∙ told_last (number_in n) (verdict_in s) x _
      in
      ap₂ (λ (y z : ℕ). seen y z (polarity_number p)) b i ∙ ap (seen (bit_in (verdict_in s)) (number_in n)) f
  seen_taken m v w p (suc k) e = let z : ◌≡◌ {A = ℕ} 0 (suc k) = ap (λ (l : List ℕ). get_or l 0 0) e in absurd (omega arith)

  -- those before the place: the gate, and what is heard of the bytes
  abbrev first : List Test
  first = gate_tests speaks_for c ++ hear_tests s

  abbrev after : List Test
  after = place_tests (held_at st c) epoch (whole_of s)

  first_held : T (all_of held_back first)
  unfolding sound_tests
  first_held = tt

  -- EARLY and those after it
  later_told : T (tells_both (first_of (drop 1 after)))
  later_told = first_of_lem tells_both (drop 1 after) tt tt

  -- NUMBER, whose m is 0, or one of those
  place_seen : (k : ℕ) → k ≡ first_of after → Again k true (bit_in (verdict_in s)) (number_in (whole_of s))
  place_seen k e = by (eqb (number_in (whole_of s)) 0) refl e
    where
      by : (t : Bool) → eqb (number_in (whole_of s)) 0 ≡ t → k ≡ pick t 5 (first_of (drop 1 after)) → Again k true (bit_in (verdict_in s)) (number_in (whole_of s))
      by true z q = rw q (ap (λ (m : ℕ). seen (bit_in (verdict_in s)) m 0) (eqb-true (number_in (whole_of s)) 0 z))
      by false z q =
          rw q
          (tells_both_lem (is_one_of before_verdict (first_of (drop 1 after))) (is_one_of before_number (first_of (drop 1 after))) (bit_in (verdict_in s)) (number_in (whole_of s)) later_told)

  -- whichever test fits first
  seen_again : Again (first_of tests) (is_heard s) (bit_in (verdict_in s)) (number_in (whole_of s))
  seen_again =
      let k = first_of tests in
      let bit = bit_in (verdict_in s) in
      let m = number_in (whole_of s) in
      ⊎_elim (λ (h : T (held_back k)). held_back_lem (is_one_of before_verdict k) (is_one_of before_number k) (is_heard s) bit m h)
      (λ (o : (first_of first ≡ 0) × (k ≡ first_of after)).
      let heard = eq-eqb (first_of (hear_tests s)) 0 (past_gate speaks_for c (hear_tests s) o.0) in
      subst (λ (t : Bool). Again k t bit m) (sym heard) (place_seen k o.1)) (first_by held_back first after first_held)

  -- a refusal's number is not 0, so the line tells no polarity
  none_told : (q : Refusal) → get_or (refusal_paper q) 0 0 ≡ first_of tests → 0 ≡ polarity_for (first_of tests) s
  none_told q e = sym (ap (λ (t : Bool). pick t (first_symbol (number_of s)) 0) (ap (λ (k : ℕ). eqb k 0) (sym e) ∙ (refusal_known q).1))

  seen_refused : (q : Refusal) → get_or (refusal_paper q) 0 0 ≡ first_of tests → seen_by (Err q) s ≡ told (first_of tests)
  unfolding seen_by seen_in
  seen_refused q e =
      ap (λ (t : Bool). pick t (seen 0 0 0) (seen_in s)) (comes_before q ∙ ap (is_one_of before_verdict) e) ∙ seen_again
      ∙ ap (seen (repaired_for (first_of tests) s) (m_for (first_of tests) s)) (none_told q e)

  -- an answer's number is that of the first test that fits
  pub number_is : (r : Stepped) → OffersTo st speaks_for c epoch s r → get_or (answer_paper r.answer) 0 0 ≡ first_of tests
  number_is r o = ap (λ (l : List ℕ). get_or l 0 0) o.answer ∙ first_said tests (told_in st c epoch s)

  pub seen_is : (r : Stepped) → OffersTo st speaks_for c epoch s r → seen_by r.answer s ≡ told (first_of tests)
  unfolding seen_by
  seen_is r o = by r.answer o.answer (number_is r o)
    where
      by : (a : Result TakenString Refusal) → answer_paper a ≡ answer_of tests (told_in st c epoch s) → get_or (answer_paper a) 0 0 ≡ first_of tests
          → seen_by a s ≡ told (first_of tests)
      by (Ok said) e n = seen_taken said.m said.verdict said.news said.polarity (first_of tests) e
      by (Err q) e n = seen_refused q n

-- ---- the line of a record
-- a line is known by its six numbers
abbrev six : Line → List ℕ
six l = l.channel ∷ l.epoch ∷ l.number ∷ l.repaired ∷ l.m ∷ l.polarity ∷ []

abbrev line_by : List ℕ → Line
line_by l = record { channel = get_or l 0 0; epoch = get_or l 1 0; number = get_or l 2 0; repaired = get_or l 3 0; m = get_or l 4 0; polarity = get_or l 5 0 }

line_same : (p q : Line) → p.channel ≡ q.channel → p.epoch ≡ q.epoch → p.number ≡ q.number → p.repaired ≡ q.repaired → p.m ≡ q.m
    → p.polarity ≡ q.polarity → p ≡ q
line_same p q a b c d e f = let n : six p ≡ six q = cc in ap line_by n

module _ (st : Station) (rec : List ℕ) where
  abbrev line_of : ℕ → ℕ → ℕ → Seen → Line
  line_of c epoch number x = record { channel = c; epoch = epoch; number = number; repaired = x.repaired; m = x.m; polarity = x.polarity }

  pub lists_by : (c epoch number : ℕ) (s : List ℕ) (r : Stepped) (x : Seen) → c ≡ channel_in rec → epoch ≡ epoch_in rec → s ≡ symbols_in rec
      → OffersTo st speaks_for c epoch s r → number ≡ get_or (answer_paper r.answer) 0 0 → x ≡ seen_by r.answer s
      → Lists st rec (record { station = r.station; line = line_of c epoch number x })
  lists_by c epoch number s r x d e f o n y =
      let o : OffersTo st speaks_for (channel_in rec) (epoch_in rec) (symbols_in rec) r = rw (← d, ← e, ← f) o in
      let z = y ∙ ap (seen_by r.answer) f ∙ seen_is st (channel_in rec) (epoch_in rec) (symbols_in rec) r o in
      record {
        channel = d;
        epoch = e;
        number = n ∙ number_is st (channel_in rec) (epoch_in rec) (symbols_in rec) r o;
        repaired = ap (λ (x : Seen). x.repaired) z;
        m = ap (λ (x : Seen). x.m) z;
        polarity = ap (λ (x : Seen). x.polarity) z;
        station = o.station;
      }

  -- the whole line
  pub line_is : (r : Listed) → Lists st rec r → r.line ≡ line_for st rec
  unfolding line_for
  line_is r a = line_same r.line (line_for st rec) a.channel a.epoch a.number a.repaired a.m a.polarity

  -- NO SECOND LINE FITS, and no second station
  pub lists_once : (r q : Listed) → Lists st rec r → Lists st rec q → r ≡ q
  lists_once r q a b =
      ap₂ (λ (x : Station) (l : Line). record { station = x; line = l }) (a.station ∙ sym b.station)
      (line_is r a ∙ sym (line_is q b))
