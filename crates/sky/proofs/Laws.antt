-- What holds of the symbols of every sky: line-laws; and of every making: make-laws. And the answers of `make_sky`, test by test.
-- Assumes nothing.
use mathlib.Core.Path.{◌≡◌, refl, sym, ap, ◌∙◌}
use mathlib.Core.Bool.{Bool, true, false, not}
use mathlib.Core.List.{List, [], ◌∷◌}
use Prim.Native.Nat.{ℕ, suc, ◌+◌, ◌-◌, ◌*◌, ◌^◌, ◌<◌}
use native.Mathlib.Omega.{arith}
use borrow.Author.Tests.{eq-eqb, ne_eqb, eqb-true, not-false, ltb-true, ltb-false}
use lib.Dec.{eqb, ltb, lit<}
use lib.ListN.{length, get_or, get_or-append}
use Rattle.strings.specs.Pick.{pick}
use Rattle.sky.specs.declared.Unmade.{Unmade}
use Rattle.std.specs.Prelude.{Result, Ok, Err, ⊤}
use Rattle.strings.specs.Number.{number_of}
use Rattle.strings.specs.Numbers.{refusal_paper, test, test_at, answer_of, Exactly}
use Rattle.strings.specs.declared.Refusal.{Refusal}
use Rattle.strings.specs.declared.Refusal.TheVariants.{Channel, Shape, Damaged, Idle, Number, Early, Stale, OffBeat, Conflict, Range, Place, Room, Nothing, Slot, Owner, Card}
use Rattle.strings.specs.declared.hamming.Damage.TheVariants.{Unplaced, Even, Outside}
use Rattle.strings.proofs.Answer.{refuses, goes_on, takes, same_answer, refusal_of, refusal_known, exactly, first_given, taken_made, refused_left}
use Rattle.relative.specs.Relative.{read_relative}
use Rattle.superframe.specs.declared.Sky.{Sky}
use Rattle.superframe.specs.Sky.{sky_string}
use Rattle.superframe.specs.Refused.{wrong_slot, lowest_bad, Makes}
use Rattle.superframe.proofs.Lowest.{refusals}
use Rattle.sky.specs.declared.Unmade.TheVariants.{OutOfOrder, Refused}
use Rattle.sky.specs.Mark.{mark, sequence, five_ones, mark_shortened}
use Rattle.sky.specs.Line.{relative_bytes, symbol_of, sky_lines, heard_in, LineLaws}
use Rattle.sky.specs.Calls.{made_paper, make_tests, MakesSky, MakeLaws}
use Rattle.sky.proofs.Lines.{lines_long, lines_small, first_half, second_half, mark_in}
use Rattle.sky.proofs.Strings.{string_small, idle_sent, read_back_lem, plain_back}

-- ---- THE SYMBOLS OF EVERY SKY
module _ (sky : Sky) where
  abbrev sent : ℕ → List ℕ
  sent i = relative_bytes (sky_string sky (suc i))

  sky_long : length (sky_lines sky) ≡ 15000
  unfolding sky_lines
  sky_long = lines_long sent 75

  sky_small : (k : ℕ) → get_or (sky_lines sky) k 0 < 2
  unfolding sky_lines
  sky_small = lines_small sent 75

  sky_first : (i j : ℕ) → i < 75 → j < 85 → get_or (sky_lines sky) (200 * i + 2 * j) 0 ≡ symbol_of (sent i) j
  unfolding sky_lines
  sky_first i j l u = first_half sent 75 i j l u

  sky_second : (i j : ℕ) → i < 75 → j < 85 → get_or (sky_lines sky) (200 * i + 2 * j + 1) 0 ≡ 1 - symbol_of (sent i) j
  unfolding sky_lines
  sky_second i j l u = second_half sent 75 i j l u

  -- no string of a sky that is not refused has bit 85
  small_in : Makes sky → (i : ℕ) → i < 75 → sky_string sky (suc i) < 2 ^ 84
  small_in o i l = string_small sky ((refusals sky).made o).1 (suc i) (omega arith) (omega arith)

  sky_plain : Makes sky → (i : ℕ) → i < 75 → read_relative (number_of (heard_in (sky_lines sky) (suc i))) ≡ sky_string sky (suc i)
  sky_plain o i l = ap (λ (s : List ℕ). read_relative (number_of s)) (read_back_lem sky i l) ∙ plain_back (sky_string sky (suc i)) (small_in o i l)

  sky_mark : (i j : ℕ) → i < 75 → j < 30 → get_or (sky_lines sky) (200 * i + 170 + j) 0 ≡ get_or mark j 0
  unfolding sky_lines
  sky_mark i j l u = mark_in sent 75 i j l u

  whole : (j : ℕ) → j < 30 → get_or mark j 0 ≡ get_or (sequence 31 five_ones) j 0
  whole j u = sym (ap (λ (l : List ℕ). get_or l j 0) mark_shortened.0 ∙ get_or-append mark (0 ∷ []) 0 j u)

  sky_whole : Makes sky → (i j : ℕ) → i < 74 → j < 31 → get_or (sky_lines sky) (200 * i + 170 + j) 0 ≡ get_or (sequence 31 five_ones) j 0
  sky_whole o i j l u = by (ltb j 30) refl
    where
      by : (t : Bool) → ltb j 30 ≡ t → get_or (sky_lines sky) (200 * i + 170 + j) 0 ≡ get_or (sequence 31 five_ones) j 0
      by true q = sky_mark i j (omega arith) (ltb-true j 30 q) ∙ whole j (ltb-true j 30 q)
      by false q =
          let e : j ≡ 30 = omega (arith, ltb-false j 30 q) in
          let p : 200 * i + 170 + j ≡ 200 * suc i + 2 * 0 = omega arith in
          ap (λ (k : ℕ). get_or (sky_lines sky) k 0) p ∙ sky_first (suc i) 0 (omega arith) (lit< tt)
          ∙ idle_sent (sky_string sky (suc (suc i))) (small_in o (suc i) (omega arith))
          ∙ ap (λ (k : ℕ). get_or (sequence 31 five_ones) k 0) (sym e)

  pub line_laws : LineLaws sky
  line_laws =
      record { long = sky_long; small = sky_small; first = sky_first; second = sky_second; heard = read_back_lem sky; plain = sky_plain; marked = sky_mark; completed = sky_whole }

-- ---- the answers, test by test
module _ (sky : Sky) (out : List ℕ) where
  pub no_room_lem : (length out ≡ 15000 → ⊥) → MakesSky sky out (Err (Refused Room)) out
  unfolding MakesSky
  no_room_lem h = refuses 11 (ap not (ne_eqb (length out) 15000 h))

  module _ (h : length out ≡ 15000) where
    pub no_order : wrong_slot sky 24 ≡ true → MakesSky sky out (Err OutOfOrder) out
    unfolding MakesSky
    no_order e = goes_on 12 (ap not (eq-eqb (length out) 15000 h)) (refuses 17 e)

    pub no_range : wrong_slot sky 24 ≡ false → (p : ℕ) → p ≡ lowest_bad sky 75 → (p ≡ 0 → ⊥) → MakesSky sky out (Err (Refused (Range p))) out
    unfolding MakesSky
    no_range e p q z = rw q (goes_on 12 (ap not (eq-eqb (length out) 15000 h)) (goes_on 18 e (refuses 9 (ap not (ne_eqb (lowest_bad sky 75) 0 (λ w. z (q ∙ w)))))))

    pub is_made : wrong_slot sky 24 ≡ false → lowest_bad sky 75 ≡ 0 → (out' : List ℕ) → out' ≡ sky_lines sky → MakesSky sky out (Ok tt) out'
    unfolding MakesSky
    is_made e z out' q =
        goes_on 12 (ap not (eq-eqb (length out) 15000 h)) (goes_on 18 e (goes_on 10 (ap not (eq-eqb (lowest_bad sky 75) 0 z)) (takes refl q)))

-- ---- an answer is known by its numbers
not_18 : (r : Refusal) → eqb (get_or (refusal_paper r) 0 0) 18 ≡ false
not_18 Channel = refl
not_18 Shape = refl
not_18 (Damaged Unplaced) = refl
not_18 (Damaged Even) = refl
not_18 (Damaged Outside) = refl
not_18 Idle = refl
not_18 Number = refl
not_18 Early = refl
not_18 Stale = refl
not_18 OffBeat = refl
not_18 Conflict = refl
not_18 (Range p) = refl
not_18 Place = refl
not_18 Room = refl
not_18 Nothing = refl
not_18 Slot = refl
not_18 Owner = refl
not_18 Card = refl

abbrev made_of : List ℕ → Result ⊤ Unmade
made_of l = pick (eqb (get_or l 0 0) 0) (Ok tt) (pick (eqb (get_or l 0 0) 18) (Err OutOfOrder) (Err (Refused (refusal_of l))))

made_back : (r : Result ⊤ Unmade) → made_of (made_paper r) ≡ r
made_back (Ok _) = refl
made_back (Err OutOfOrder) = refl
made_back (Err (Refused r)) = rw ((refusal_known r).1, not_18 r) (ap (λ (x : Refusal). Err (Refused x)) (refusal_known r).0)

made_same : (r q : Result ⊤ Unmade) → made_paper r ≡ made_paper q → r ≡ q
made_same r q e = sym (made_back r) ∙ ap made_of e ∙ made_back q

-- ---- EVERY MAKING
none_first : (a b c : Bool) (x y z : ℕ) → pick a (suc x) (pick b (suc y) (pick c (suc z) 0)) ≡ 0 → (b ≡ false) × (c ≡ false)
none_first true b c x y z e = absurd (omega arith)
none_first false true c x y z e = absurd (omega arith)
none_first false false true x y z e = absurd (omega arith)
none_first false false false x y z e = (refl, refl)

place_told : (a b c : Bool) (l p : ℕ) → 10 ∷ p ∷ [] ≡ answer_of (test 12 a ∷ test 18 b ∷ test_at 10 l c ∷ []) [] → l ≡ p
place_told true b c l p e = absurd (omega (arith, ap (λ (l : List ℕ). get_or l 0 0) e))
place_told false true c l p e = absurd (omega (arith, ap (λ (l : List ℕ). get_or l 0 0) e))
place_told false false true l p e = sym (ap (λ (l : List ℕ). get_or l 1 0) e)
place_told false false false l p e = absurd (omega (arith, ap (λ (l : List ℕ). get_or l 0 0) e))

module _ (sky : Sky) (out : List ℕ) where
  once : (r q : Result ⊤ Unmade) (out' out'' : List ℕ) → MakesSky sky out r out' → MakesSky sky out q out'' → (r ≡ q) × (out' ≡ out'')
  unfolding MakesSky
  once r q out' out'' a b = let e = same_answer a b in (made_same r q e.0, e.1)

  numbers : (r : Result ⊤ Unmade) (out' : List ℕ) → MakesSky sky out r out' → Exactly (make_tests sky out) (made_paper r)
  unfolding MakesSky
  numbers r out' a = exactly tt a

  made : (out' : List ℕ) → MakesSky sky out (Ok tt) out' → Makes sky × (out' ≡ sky_lines sky)
  unfolding MakesSky
  made out' a =
      let w = none_first (not (eqb (length out) 15000)) (wrong_slot sky 24) (not (eqb (lowest_bad sky 75) 0)) 11 17 9 (first_given (make_tests sky out) [] a.answer) in
      ((refusals sky).makes w.0 (eqb-true _ 0 (not-false _ w.1)), taken_made [] a)

  untouched : (r : Result ⊤ Unmade) (out' : List ℕ) → (r ≡ Ok tt → ⊥) → MakesSky sky out r out' → out' ≡ out
  unfolding MakesSky
  untouched (Ok _) out' h a = absurd (h refl)
  untouched (Err OutOfOrder) out' h a = a.output ∙ rw (first_given (make_tests sky out) [] a.answer)
  untouched (Err (Refused r)) out' h a = refused_left r a

  never_75 : (out' : List ℕ) → MakesSky sky out (Err (Refused (Range 75))) out' → ⊥
  unfolding MakesSky
  never_75 out' a = (refusals sky).never_75 (place_told (not (eqb (length out) 15000)) (wrong_slot sky 24) (not (eqb (lowest_bad sky 75) 0)) (lowest_bad sky 75) 75 a.answer)

  pub make_laws : MakeLaws sky out
  make_laws = record { once = once; numbers = numbers; made = made; untouched = untouched; never_75 = never_75 }
