-- How a call's answer follows from its tests; that no second answer fits; and that each number is given exactly where it belongs.
-- Assumes nothing.
use mathlib.Core.Path.{◌≡◌, refl, ◌∙◌, sym, ap, subst}
use mathlib.Core.Bool.{Bool, true, false, not, ◌&&◌, ◌||◌, true≢false}
use mathlib.Core.List.{List, [], ◌∷◌}
use Prim.Native.Nat.{ℕ, zero, suc, ◌<◌, suc-le-suc}
use native.Mathlib.Nat.{le_of_suc-le-suc, not-suc-le-zero, zero-lt-suc}
use lib.Dec.{T, eqb, eqb_refl, T_not}
use lib.ListN.{length, get_or, drop}
use Rattle.strings.specs.declared.Refusal.{Refusal}
use Rattle.std.specs.Prelude.{Result, Ok, Err, ⊤}
use Rattle.strings.specs.declared.Refusal.TheVariants.{Channel, Shape, Damaged, Idle, Number, Early, Stale, OffBeat, Conflict, Range, Place, Room, Nothing, Slot, Owner, Card}
use Rattle.strings.specs.declared.hamming.Damage.TheVariants.{Unplaced, Even, Outside}
use Rattle.strings.specs.declared.Verdict.{Verdict}
use Rattle.strings.specs.declared.Verdict.TheVariants.{Clean, Repaired}
use Rattle.strings.specs.Pick.{pick}
use Rattle.strings.specs.Numbers.{refusal_paper, verdict_paper, Test, first_of, place_of, said_by, answer_of, left_by, Answers, number_at, FitsAt, Exactly}
use Rattle.strings.specs.Calls.{written_paper, checked_paper}
use Rattle.strings.proofs.Below.{and_left, and_right}

-- ---- an answer, test by test
module _ {told made out : List ℕ} where
  -- the first test fits: its number, and the output untouched
  pub refuses : (k : ℕ) {p : List ℕ} {b : Bool} {ts : List Test} → b ≡ true
      → Answers (record { number = suc k; place = p; fits = b } ∷ ts) told made out (suc k ∷ p) out
  refuses k e = record { answer = rw e; output = rw e }

  -- the tests give this number and no place
  pub refuses_by : (ts : List Test) (n : ℕ) → (n ≡ 0 → ⊥) → first_of ts ≡ n → place_of ts ≡ [] → Answers ts told made out (n ∷ []) out
  refuses_by ts zero z e f = absurd (z refl)
  refuses_by ts (suc k) z e f = record { answer = rw (e, f); output = rw e }

  -- the first test does not fit: the answer is that of the others
  pub goes_on : (k : ℕ) {p : List ℕ} {b : Bool} {ts : List Test} {said out' : List ℕ} → b ≡ false → Answers ts told made out said out'
      → Answers (record { number = k; place = p; fits = b } ∷ ts) told made out said out'
  goes_on k e a = record { answer = rw e a.answer; output = rw e a.output }

  -- none fits: what the call tells, and what it makes
  pub takes : {said out' : List ℕ} → said ≡ 0 ∷ told → out' ≡ made → Answers [] told made out said out'
  takes e f = record { answer = e; output = f }

  -- ---- no second answer fits
  pub same_answer : {ts : List Test} {said said' out' out'' : List ℕ} → Answers ts told made out said out' → Answers ts told made out said' out''
      → (said ≡ said') × (out' ≡ out'')
  same_answer a b = (a.answer ∙ sym b.answer, a.output ∙ sym b.output)

-- a refusal is known by its numbers
abbrev pub refusal_of : List ℕ → Refusal
refusal_of l =
    let n = get_or l 0 0 in
    pick (eqb n 1) Channel (pick (eqb n 2) Shape
    (pick (eqb n 31) (Damaged Unplaced) (pick (eqb n 32) (Damaged Even) (pick (eqb n 33) (Damaged Outside)
    (pick (eqb n 4) Idle (pick (eqb n 5) Number (pick (eqb n 6) Early (pick (eqb n 7) Stale (pick (eqb n 8) OffBeat (pick (eqb n 9) Conflict
    (pick (eqb n 10) (Range (get_or l 1 0)) (pick (eqb n 11) Place (pick (eqb n 12) Room (pick (eqb n 13) Nothing
    (pick (eqb n 14) Slot (pick (eqb n 15) Owner Card))))))))))))))))

-- and its number is not 0
pub refusal_known : (r : Refusal) → (refusal_of (refusal_paper r) ≡ r) × (eqb (get_or (refusal_paper r) 0 0) 0 ≡ false)
refusal_known Channel = (refl, refl)
refusal_known Shape = (refl, refl)
refusal_known (Damaged Unplaced) = (refl, refl)
refusal_known (Damaged Even) = (refl, refl)
refusal_known (Damaged Outside) = (refl, refl)
refusal_known Idle = (refl, refl)
refusal_known Number = (refl, refl)
refusal_known Early = (refl, refl)
refusal_known Stale = (refl, refl)
refusal_known OffBeat = (refl, refl)
refusal_known Conflict = (refl, refl)
refusal_known (Range p) = (refl, refl)
refusal_known Place = (refl, refl)
refusal_known Room = (refl, refl)
refusal_known Nothing = (refl, refl)
refusal_known Slot = (refl, refl)
refusal_known Owner = (refl, refl)
refusal_known Card = (refl, refl)

pub refusal_same : (r q : Refusal) → refusal_paper r ≡ refusal_paper q → r ≡ q
refusal_same r q e = sym (refusal_known r).0 ∙ ap refusal_of e ∙ (refusal_known q).0

-- no refusal is told as a taken call is
pub not_taken : (q : Refusal) (told : List ℕ) → refusal_paper q ≡ 0 ∷ told → ⊥
not_taken q told e = true≢false (ap (λ (l : List ℕ). eqb (get_or l 0 0) 0) (sym e) ∙ (refusal_known q).1)

abbrev verdict_of : List ℕ → Verdict
verdict_of l = pick (eqb (get_or l 0 0) 0) Clean (Repaired (get_or l 1 0))

verdict_back : (v : Verdict) → verdict_of (verdict_paper v) ≡ v
verdict_back Clean = refl
verdict_back (Repaired i) = refl

pub verdict_same : (v w : Verdict) → verdict_paper v ≡ verdict_paper w → v ≡ w
verdict_same v w e = sym (verdict_back v) ∙ ap verdict_of e ∙ verdict_back w

-- ---- the answers of the calls
abbrev written_of : List ℕ → Result ⊤ Refusal
written_of l = pick (eqb (get_or l 0 0) 0) (Ok tt) (Err (refusal_of l))

written_back : (w : Result ⊤ Refusal) → written_of (written_paper w) ≡ w
written_back (Ok _) = refl
written_back (Err r) = rw (refusal_known r).1 (ap Err (refusal_known r).0)

pub written_same : (v w : Result ⊤ Refusal) → written_paper v ≡ written_paper w → v ≡ w
written_same v w e = sym (written_back v) ∙ ap written_of e ∙ written_back w

abbrev checked_of : List ℕ → Result Verdict Refusal
checked_of l = pick (eqb (get_or l 0 0) 0) (Ok (verdict_of (drop 1 l))) (Err (refusal_of l))

checked_back : (c : Result Verdict Refusal) → checked_of (checked_paper c) ≡ c
checked_back (Ok v) = ap Ok (verdict_back v)
checked_back (Err r) = rw (refusal_known r).1 (ap Err (refusal_known r).0)

pub checked_same : (c d : Result Verdict Refusal) → checked_paper c ≡ checked_paper d → c ≡ d
checked_same c d e = sym (checked_back c) ∙ ap checked_of e ∙ checked_back d

-- ---- each number exactly where its test fits and none before it does
-- n is the number of a test
abbrev among : ℕ → List Test → Bool
among n [] = false
among n (t ∷ ts) = eqb t.number n || among n ts

-- no number is 0, and no two are the same
abbrev pub apart : List Test → Bool
apart [] = true
apart (t ∷ ts) = (not (eqb t.number 0) && not (among t.number ts)) && apart ts

or_left : (a b : Bool) → T a → T (a || b)
or_left true b t = tt
or_left false b t = absurd t

or_right : (a b : Bool) → T b → T (a || b)
or_right true b t = tt
or_right false b t = t

at_among : (ts : List Test) (j : ℕ) → j < length ts → T (among (number_at ts j) ts)
at_among [] j l = absurd (not-suc-le-zero l)
at_among (t ∷ ts) zero l = or_left (eqb t.number t.number) (among t.number ts) (eqb_refl t.number)
at_among (t ∷ ts) (suc j) l = or_right (eqb t.number (number_at ts j)) (among (number_at ts j) ts) (at_among ts j (le_of_suc-le-suc l))

first_among_at : (t : Test) (ts : List Test) (n : ℕ) (b : Bool) → (first_of ts ≡ n → T (among n ts)) → pick b t.number (first_of ts) ≡ n → T (among n (t ∷ ts))
first_among_at t ts n true ih e = or_left (eqb t.number n) (among n ts) (subst (λ (m : ℕ). T (eqb t.number m)) e (eqb_refl t.number))
first_among_at t ts n false ih e = or_right (eqb t.number n) (among n ts) (ih e)

first_among : (ts : List Test) (n : ℕ) → (n ≡ 0 → ⊥) → first_of ts ≡ n → T (among n ts)
first_among [] n z e = absurd (z (sym e))
first_among (t ∷ ts) n z e = first_among_at t ts n t.fits (first_among ts n z) e

nonzero : (n : ℕ) → T (not (eqb n 0)) → n ≡ 0 → ⊥
nonzero n h e = T_not (eqb n 0) h (subst (λ (m : ℕ). T (eqb n m)) e (eqb_refl n))

-- what stands in the way of a test
abbrev Clear : List Test → ℕ → Type 0
Clear ts j = (i : ℕ) → i < j → FitsAt ts i → ⊥

module _ (t : Test) (ts : List Test) (a : T (apart (t ∷ ts))) where
  abbrev own : Bool
  own = not (eqb t.number 0)

  abbrev lone : Bool
  lone = not (among t.number ts)

  head_nonzero : t.number ≡ 0 → ⊥
  head_nonzero = nonzero t.number (and_left own lone (and_left (own && lone) (apart ts) a))

  head_lone : T (among t.number ts) → ⊥
  head_lone = T_not (among t.number ts) (and_right own lone (and_left (own && lone) (apart ts) a))

  tail_apart : T (apart ts)
  tail_apart = and_right (own && lone) (apart ts) a

  -- the head's test, and the number that is given
  head_given : (b : Bool) → pick b t.number (first_of ts) ≡ t.number → T b
  head_given true e = tt
  head_given false e = head_lone (first_among ts t.number head_nonzero e)

  later_given : (b : Bool) (j : ℕ) → j < length ts → pick b t.number (first_of ts) ≡ number_at ts j → (T b → ⊥) × (first_of ts ≡ number_at ts j)
  later_given true j l e = absurd (head_lone (subst (λ (n : ℕ). T (among n ts)) (sym e) (at_among ts j l)))
  later_given false j l e = ((λ x. x), e)

  none_given : (b : Bool) → pick b t.number (first_of ts) ≡ 0 → (T b → ⊥) × (first_of ts ≡ 0)
  none_given true e = absurd (head_nonzero e)
  none_given false e = ((λ x. x), e)

past : (b : Bool) (n m k : ℕ) → (T b → ⊥) → m ≡ k → pick b n m ≡ k
past true n m k h e = absurd (h tt)
past false n m k h e = e

given : (b : Bool) (n m : ℕ) → T b → pick b n m ≡ n
given true n m h = refl
given false n m h = absurd h

clear_cons : (t : Test) (ts : List Test) (j : ℕ) → (T t.fits → ⊥) → Clear ts j → Clear (t ∷ ts) (suc j)
clear_cons t ts j h c zero l = h
clear_cons t ts j h c (suc i) l = c i (le_of_suc-le-suc l)

given_there : (ts : List Test) → T (apart ts) → (j : ℕ) → j < length ts → first_of ts ≡ number_at ts j → FitsAt ts j × Clear ts j
given_there [] a j l e = absurd (not-suc-le-zero l)
given_there (t ∷ ts) a zero l e = (head_given t ts a t.fits e, (λ i h. absurd (not-suc-le-zero h)))
given_there (t ∷ ts) a (suc j) l e =
    let p = later_given t ts a t.fits j (le_of_suc-le-suc l) e in
    let q = given_there ts (tail_apart t ts a) j (le_of_suc-le-suc l) p.1 in
    (q.0, clear_cons t ts j p.0 q.1)

there_given : (ts : List Test) (j : ℕ) → j < length ts → FitsAt ts j → Clear ts j → first_of ts ≡ number_at ts j
there_given [] j l f c = absurd (not-suc-le-zero l)
there_given (t ∷ ts) zero l f c = given t.fits t.number (first_of ts) f
there_given (t ∷ ts) (suc j) l f c =
    past t.fits t.number (first_of ts) (number_at ts j) (c 0 (zero-lt-suc j))
    (there_given ts j (le_of_suc-le-suc l) f (λ i h. c (suc i) (suc-le-suc h)))

given_none : (ts : List Test) → T (apart ts) → first_of ts ≡ 0 → Clear ts (length ts)
given_none [] a e = λ i h. absurd (not-suc-le-zero h)
given_none (t ∷ ts) a e =
    let p = none_given t ts a t.fits e in
    clear_cons t ts (length ts) p.0 (given_none ts (tail_apart t ts a) p.1)

none_given_there : (ts : List Test) → Clear ts (length ts) → first_of ts ≡ 0
none_given_there [] c = refl
none_given_there (t ∷ ts) c =
    past t.fits t.number (first_of ts) 0 (c 0 (zero-lt-suc (length ts))) (none_given_there ts (λ i h. c (suc i) (suc-le-suc h)))

said_number : (n : ℕ) (place told : List ℕ) → get_or (said_by n place told) 0 0 ≡ n
said_number zero place told = refl
said_number (suc k) place told = refl

pub exactly : {ts : List Test} {told made out said out' : List ℕ} → T (apart ts) → Answers ts told made out said out' → Exactly ts said
exactly {ts} {told} a r =
    let e = ap (λ (l : List ℕ). get_or l 0 0) r.answer ∙ said_number (first_of ts) (place_of ts) told in
    record {
      refused = λ j l. ((λ q. given_there ts a j l (sym e ∙ q)), (λ q. e ∙ there_given ts j l q.0 q.1));
      taken = ((λ q. given_none ts a (sym e ∙ q)), (λ q. e ∙ none_given_there ts q));
    }

-- an answer begins with the number that is given
pub first_given : (ts : List Test) (told : List ℕ) {n : ℕ} {l : List ℕ} → n ∷ l ≡ answer_of ts told → first_of ts ≡ n
first_given ts told e = sym (ap (λ (l : List ℕ). get_or l 0 0) e ∙ said_number (first_of ts) (place_of ts) told)

-- what is taken leaves what it makes
pub taken_made : {ts : List Test} {told made out out' : List ℕ} (l : List ℕ) → Answers ts told made out (0 ∷ l) out' → out' ≡ made
taken_made {ts} {told} {made} {out} l a = a.output ∙ ap (λ (k : ℕ). left_by k made out) (first_given ts told a.answer)

-- "Refusals leave outputs untouched"
left_untouched : (k : ℕ) (made out : List ℕ) → (k ≡ 0 → ⊥) → left_by k made out ≡ out
left_untouched zero made out h = absurd (h refl)
left_untouched (suc k) made out h = refl

pub refused_left : {ts : List Test} {told made out out' : List ℕ} (q : Refusal) → Answers ts told made out (refusal_paper q) out' → out' ≡ out
refused_left {ts} {told} {made} {out} q a =
    let e = ap (λ (l : List ℕ). get_or l 0 0) a.answer ∙ said_number (first_of ts) (place_of ts) told in
    a.output ∙ left_untouched (first_of ts) made out (λ z. true≢false (ap (λ (n : ℕ). eqb n 0) (sym (e ∙ z)) ∙ (refusal_known q).1))
