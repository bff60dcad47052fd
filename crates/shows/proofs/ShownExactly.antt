-- Where a frame shows an entry, and which, in its strings and their bits: the rule of the pair, by the frame's number (`number_by_six`), and the
-- book's law of three strings (`shown_exactly`).
-- Assumes nothing.
use mathlib.Core.Path.{◌≡◌, refl, sym, ap, ◌∙◌}
use mathlib.Core.Bool.{Bool, true, false, ◌&&◌, ◌||◌, false≢true, beq}
use mathlib.Core.Logic.{◌⊎◌, inl, inr}
use Prim.Native.Nat.{ℕ, zero, suc, ◌+◌, ◌*◌, ◌<◌}
use native.Mathlib.Omega.{arith}
use borrow.Author.Tests.{eqb-true}
use lib.Dec.{T, eqb, leb}
use lib.ListN.{get_or}
use Rattle.strings.specs.Pick.{pick}
use Rattle.std.specs.Prelude.{Some, None}
use Rattle.strings.specs.Number.{word_of}
use Rattle.strings.proofs.Below.{below_at, both}
use Rattle.words.proofs.WordBits.{word_lt}
use Rattle.book.specs.declared.Entry.{Entry}
use Rattle.book.specs.Shows.{shown_by}
use Rattle.book.specs.ShownExactly.{SomeEntry}
use Rattle.book.proofs.ShownExactly.{shown_exactly}
use Rattle.channel.specs.Frame.{Frame}
use Rattle.shows.specs.Shows.{frame_number, is_pair, has_pair, shown_at, shows_of}
use Rattle.shows.specs.FrameNumbers.{frames_by}
use Rattle.shows.specs.ShownExactly.{ThreeGood, IsEarlier, IsFirst, InFrames1To4, FrameShows}
use Rattle.shows.proofs.FrameNumbers.{number_by_six}

-- ---- of two tests
either : (a b : Bool) → (a || b) ≡ true → (a ≡ true) ⊎ (b ≡ true)
either true b e = inl refl
either false b e = inr e

same : (a b : Bool) → T (beq a b) → a ≡ b
same true true t = refl
same true false t = absurd t
same false true t = absurd t
same false false t = refl

-- ---- frames 1 to 4
abbrev is1_to4 : ℕ → Bool
is1_to4 number = leb 1 number && leb number 4

abbrev is_first : ℕ → Bool
is_first na = eqb na 1 || (eqb na 6 || (eqb na 11 || eqb na 16))

-- by the table, computed at every nA
table_first : (na : ℕ) → na < 32 → is1_to4 (get_or frames_by na 0) ≡ is_first na
table_first na h = same _ _ (below_at 32 (λ k. beq (is1_to4 (get_or frames_by k 0)) (is_first k)) tt na h)

first_to : (na : ℕ) → is_first na ≡ true → IsFirst na
first_to na e = one (either (eqb na 1) _ e)
  where
    three : (eqb na 11 ≡ true) ⊎ (eqb na 16 ≡ true) → (na ≡ 11) ⊎ (na ≡ 16)
    three (inl q) = inl (eqb-true na 11 q)
    three (inr q) = inr (eqb-true na 16 q)

    two : (eqb na 6 ≡ true) ⊎ ((eqb na 11 || eqb na 16) ≡ true) → (na ≡ 6) ⊎ ((na ≡ 11) ⊎ (na ≡ 16))
    two (inl q) = inl (eqb-true na 6 q)
    two (inr r) = inr (three (either (eqb na 11) (eqb na 16) r))

    one : (eqb na 1 ≡ true) ⊎ ((eqb na 6 || (eqb na 11 || eqb na 16)) ≡ true) → IsFirst na
    one (inl q) = inl (eqb-true na 1 q)
    one (inr r) = inr (two (either (eqb na 6) (eqb na 11 || eqb na 16) r))

first_from : (na : ℕ) → IsFirst na → is_first na ≡ true
first_from na (inl e) = ap is_first e
first_from na (inr (inl e)) = ap is_first e
first_from na (inr (inr (inl e))) = ap is_first e
first_from na (inr (inr (inr e))) = ap is_first e

in_to : (f : Frame) → is1_to4 (frame_number f) ≡ true → InFrames1To4 f
in_to f e = by (f.has 6) refl
  where
    by : (t : Bool) → f.has 6 ≡ t → InFrames1To4 f
    by true q =
        let na = word_of (f.text 6) 77 73 in
        record { six = q; n_a = first_to na (sym (table_first na (word_lt (f.text 6) 77 73)) ∙ ap is1_to4 (sym ((number_by_six f).with_six q)) ∙ e) }
    by false q = absurd (false≢true (ap is1_to4 (sym ((number_by_six f).without q)) ∙ e))

in_from : (f : Frame) → InFrames1To4 f → is1_to4 (frame_number f) ≡ true
in_from f i =
    let na = word_of (f.text 6) 77 73 in
    ap is1_to4 ((number_by_six f).with_six i.six) ∙ table_first na (word_lt (f.text 6) 77 73) ∙ first_from na i.n_a

-- ---- the rule of the pair
earlier_pair : (f : Frame) (p : ℕ) → IsEarlier p → is_pair f p ≡ true
earlier_pair f p (inl e) = ap (is_pair f) e
earlier_pair f p (inr (inl e)) = ap (is_pair f) e
earlier_pair f p (inr (inr (inl e))) = ap (is_pair f) e
earlier_pair f p (inr (inr (inr e))) = ap (is_pair f) e

-- ---- what is shown at a pair: both halves and string 5 are there, they are a pair, and the three show it
module _ (f : Frame) (p : ℕ) where
  abbrev three_there : Bool
  three_there = f.has 5 && (f.has p && f.has (p + 1))

  at_pair : (slot : ℕ) (e : Entry) → shown_at f p ≡ Some (slot, e) → (has_pair f p ≡ true) × (shown_by (f.text 5) (f.text p) (f.text (p + 1)) ≡ Some (slot, e))
  at_pair slot e q = by (has_pair f p) refl q
    where
      by : (t : Bool) → has_pair f p ≡ t → pick t (shown_by (f.text 5) (f.text p) (f.text (p + 1))) None ≡ Some (slot, e)
          → (has_pair f p ≡ true) × (shown_by (f.text 5) (f.text p) (f.text (p + 1)) ≡ Some (slot, e))
      by true h q = (h, q)
      by false h q = let z : ◌≡◌ {A = ℕ} 0 1 = cc in absurd (omega arith)

  shown_needs : SomeEntry (shown_at f p) → ThreeGood f p × (is_pair f p ≡ true)
  shown_needs s =
      let a = at_pair s.slot s.entry s.is in
      let t = both three_there (is_pair f p) a.0 in
      let b = both (f.has 5) (f.has p && f.has (p + 1)) t.0 in
      let c = both (f.has p) (f.has (p + 1)) b.1 in
      let some : SomeEntry (shown_by (f.text 5) (f.text p) (f.text (p + 1))) = record { slot = s.slot; entry = s.entry; is = a.1 } in (
        record { five = b.0; even = c.0; odd = c.1; in_range_lem = (shown_exactly (f.text 5) (f.text p) (f.text (p + 1))).exactly.0 some },
        t.1,
      )

  shown_where : ThreeGood f p → is_pair f p ≡ true → SomeEntry (shown_at f p)
  shown_where g h =
      let s = (shown_exactly (f.text 5) (f.text p) (f.text (p + 1))).exactly.1 g.in_range_lem in
      record { slot = s.slot; entry = s.entry; is = rw (g.five, g.even, g.odd, h) s.is }

-- the five in turn
pair_at : (f : Frame) (j : ℕ) → j < 5 → get_or (shows_of f) j None ≡ shown_at f (6 + 2 * j)
pair_at f zero h = refl
pair_at f (suc zero) h = refl
pair_at f (suc (suc zero)) h = refl
pair_at f (suc (suc (suc zero))) h = refl
pair_at f (suc (suc (suc (suc zero)))) h = refl
pair_at f (suc (suc (suc (suc (suc j))))) h = absurd (omega arith)

-- WHAT A FRAME SHOWS, AND WHERE
pub frame_shows : (f : Frame) → FrameShows f
frame_shows f =
    record {
      earlier = λ p i. ((λ s. (shown_needs f p s).0), (λ g. shown_where f p g (earlier_pair f p i)));
      last = ((λ s. let n = shown_needs f 14 s in (n.0, in_to f n.1)), (λ g. shown_where f 14 g.0 (in_from f g.1)));
      what = λ p slot e q. (shown_exactly (f.text 5) (f.text p) (f.text (p + 1))).what slot e (at_pair f p slot e q).1;
      pairs = pair_at f;
      no_more = refl;
    }
