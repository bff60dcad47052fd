-- The calls of a block from a place on (from-good, from-none), and how the reading from there ends (end-good, end_none). So a field that was taken either
-- moves on (moves) or ends the block (stops), as what is told says (goes_on, last-stays); and what was handed over up to a place, with what is left, is the
-- whole (So-far, so-far-none, so_far_more, so-far-all).
-- Assumes nothing.
use mathlib.Core.Path.{◌≡◌, refl, sym, ap, ap₂, ◌∙◌}
use mathlib.Core.Bool.{Bool, true, false, true≢false}
use mathlib.Core.List.{List, [], ◌∷◌, ◌++◌}
use Prim.Native.Nat.{ℕ, ◌+◌, ◌≤◌, ◌<◌}
use native.Mathlib.Omega.{arith}
use lib.Dec.{leb}
use lib.ListN.{length, get_or, take, drop, length-append, length-drop}
use lib.Seq.{drop-drop}
use borrow.Author.Tests.{lt-leb}
use Rattle.strings.specs.Pick.{pick}
use Rattle.fields.specs.declared.Why.{Why}
use Rattle.std.specs.Prelude.{Result, ⊤}
use Rattle.strings.specs.Numbers.{answer_of}
use Rattle.fields.specs.Fields.{tag_in, is_unknown, tests_in, is_good, size_in}
use Rattle.fields.specs.Block.{Call, call_in, fields_in, calls_of, calls_in, joined, end_at, end_from, end_in}
use Rattle.fields.proofs.Whole.{good_parts, size_is, size_none, front_length, calls_front}
use Rattle.fields.proofs.Tested.{good_tells, refused_tells, refused_never}
use Rattle.fields.proofs.Steps.{fields_none, fields_good}
use Rattle.station.specs.declared.Station.{Station}
use Rattle.blocks.specs.declared.Told.{Told}
use Rattle.blocks.specs.declared.Told.TheVariants.{End, Offered, Emptied, Remark, Refused}
use Rattle.blocks.specs.declared.Taken.{Taken}
use Rattle.blocks.specs.Taking.{answer_in, after_call, after_calls, answers_to, told_paper, answer_among, field_says, calls_at, Takes}
use Rattle.blocks.specs.Handing.{ended_paper, HandsOver, is_last, ended_by}
use Rattle.blocks.proofs.Found.{no_number, calls_where, none_where}

-- ---- calls one after the other
pub after_append : (st : Station) (card : ℕ) (cs ds : List Call) → after_calls st card (cs ++ ds) ≡ after_calls (after_calls st card cs) card ds
unfolding after_calls
after_append st card [] ds = refl
after_append st card (call ∷ cs) ds = after_append (after_call st card call) card cs ds

pub answers_append : (st : Station) (card : ℕ) (cs ds : List Call)
    → answers_to st card (cs ++ ds) ≡ answers_to st card cs ++ answers_to (after_calls st card cs) card ds
unfolding after_calls answers_to
answers_append st card [] ds = refl
answers_append st card (call ∷ cs) ds = ap (λ (l : List (List ℕ)). answer_in st card call ∷ l) (answers_append (after_call st card call) card cs ds)

-- ---- from a place on
abbrev pub from : List ℕ → ℕ → List Call
from block at = calls_in (drop at block)

module _ (block : List ℕ) (at : ℕ) where
  abbrev rest : List ℕ
  rest = drop at block

  -- ---- a good field
  module _ (e : is_good rest ≡ true) where
    abbrev size : ℕ
    size = size_in rest

    left-of : drop size rest ≡ drop (at + size) block
    left-of = drop-drop size at block

    pub from_good : from block at ≡ call_in rest ++ from block (at + size)
    unfolding calls_of
    from_good =
        ap calls_of (fields_good rest e) ∙ ap₂ ◌++◌ (calls_front rest e) (ap (λ (l : List ℕ). calls_of (fields_in l)) left-of)

    pub end_good : end_from block at ≡ end_from block (at + size)
    unfolding end_from joined
    end_good =
        let n : at + length (joined (fields_in rest)) ≡ at + size + length (joined (fields_in (drop (at + size) block))) =
        ap (λ (k : ℕ). at + k)
        (ap (λ (fs : List (List ℕ)). length (joined fs)) (fields_good rest e) ∙ length-append (take size rest) (joined (fields_in (drop size rest)))
        ∙ ap₂ ◌+◌ (front_length rest e) (ap (λ (l : List ℕ). length (joined (fields_in l))) left-of)) ∙ omega arith in
        ap (end_at block) n

    pub falls : (at < at + size) × (at + size ≤ length block)
    falls = (omega (arith, size_is rest e), omega (arith, size_is rest e, (good_parts rest e).whole, length-drop at block))

  -- ---- none
  module _ (e : is_good rest ≡ false) where
    pub from_none : from block at ≡ []
    unfolding calls_of
    from_none = ap calls_of (fields_none rest e)

    pub end_none : end_from block at ≡ end_at block at
    unfolding end_from joined
    end_none = ap (λ (fs : List (List ℕ)). end_at block (at + length (joined fs))) (fields_none rest e) ∙ ap (end_at block) (omega arith)

-- ---- where the reading does not move on, what is told is how the block ended
module _ (block : List ℕ) (at : ℕ) (e : is_good (drop at block) ≡ false) where
  -- at the end of the block 0 and 0 is told, and nothing else
  whole : (told : Told) → told_paper told ≡ 0 ∷ 0 ∷ [] → ended_paper (ended_by told) ≡ 0 ∷ []
  whole End p = refl
  whole (Offered answer) p = let z : ◌≡◌ {A = ℕ} 1 0 = ap (λ (l : List ℕ). get_or l 1 0) p in absurd (omega arith)
  whole (Emptied answer) p = let z : ◌≡◌ {A = ℕ} 2 0 = ap (λ (l : List ℕ). get_or l 1 0) p in absurd (omega arith)
  whole Remark p = let z : ◌≡◌ {A = ℕ} 3 0 = ap (λ (l : List ℕ). get_or l 1 0) p in absurd (omega arith)
  whole (Refused why place) p = absurd (no_number why (ap (λ (l : List ℕ). get_or l 0 0) p))

  -- before it, a number and its place
  stopped : (told : Told) (l : List ℕ) → told_paper told ≡ answer_of (tests_in at (drop at block)) l
      → ended_paper (ended_by told) ≡ answer_of (tests_in at (drop at block)) []
  stopped End l p = absurd (refused_never at (drop at block) l _ e (sym p))
  stopped (Offered answer) l p = absurd (refused_never at (drop at block) l _ e (sym p))
  stopped (Emptied answer) l p = absurd (refused_never at (drop at block) l _ e (sym p))
  stopped Remark l p = absurd (refused_never at (drop at block) l _ e (sym p))
  stopped (Refused why place) l p = p ∙ refused_tells at (drop at block) l e

  ended : (st : Station) (card : ℕ) (told : Told) → told_paper told ≡ field_says st card block at → ended_paper (ended_by told) ≡ end_at block at
  unfolding field_says
  ended st card told p = by (leb (length block) at) p
    where
      by : (b : Bool)
          → told_paper told ≡ pick b (0 ∷ 0 ∷ []) (answer_of (tests_in at (drop at block)) (tag_in (drop at block) ∷ answer_among st card (call_in (drop at block))))
          → ended_paper (ended_by told) ≡ pick b (0 ∷ []) (answer_of (tests_in at (drop at block)) [])
      by true q = whole told q
      by false q = stopped told _ q

-- ---- a field that was taken moves on, where it is good
pub record Moves (block : List ℕ) (at after : ℕ) : Type 0 where
  pub good : is_good (drop at block) ≡ true
  pub forward : at < after
  pub within : after ≤ length block
  pub calls : from block at ≡ calls_at block at ++ from block after
  pub end : end_from block at ≡ end_from block after

-- or the block is done
pub record Stops (block : List ℕ) (at : ℕ) (told : Told) : Type 0 where
  pub refused : is_good (drop at block) ≡ false
  pub calls : from block at ≡ []
  pub none : calls_at block at ≡ []
  pub end : ended_paper (ended_by told) ≡ end_from block at

module _ {st : Station} {card : ℕ} {block : List ℕ} {at : ℕ} {r : Taken} (t : Takes st card block at r) where
  pub moves : (r.after ≡ at → ⊥) → Moves block at r.after
  moves n = by (is_good (drop at block)) refl
    where
      by : (b : Bool) → is_good (drop at block) ≡ b → Moves block at r.after
      by true e =
          let s : at + size_in (drop at block) ≡ r.after = sym t.next in
          record {
            good = e;
            forward = omega (arith, (falls block at e).0, s);
            within = omega (arith, (falls block at e).1, s);
            calls = from_good block at e ∙ ap₂ (λ (cs : List Call) (k : ℕ). cs ++ from block k) (sym (calls_where block at e)) s;
            end = end_good block at e ∙ ap (end_from block) s;
          }
      by false e = absurd (n (t.next ∙ ap (λ (k : ℕ). at + k) (size_none (drop at block) e) ∙ omega arith))

  pub stops : r.after ≡ at → Stops block at r.told
  stops h = by (is_good (drop at block)) refl
    where
      by : (b : Bool) → is_good (drop at block) ≡ b → Stops block at r.told
      by true e = absurd (omega (arith, (falls block at e).0, t.next, h))
      by false e =
          record {
            refused = e;
            calls = from_none block at e;
            none = none_where block at e;
            end = ended block at e st card r.told t.answer ∙ sym (end_none block at e);
          }

-- ---- what is told says whether it moves on
pub never_0 : (rest : List ℕ) → is_good rest ≡ true → tag_in rest ≡ 0 → ⊥
never_0 rest e z = true≢false (ap is_unknown (sym z) ∙ (good_parts rest e).known)

-- a good field before the end tells its tag and its answer
pub says_call : (st : Station) (card : ℕ) (block : List ℕ) (at : ℕ) → is_good (drop at block) ≡ true
    → field_says st card block at ≡ 0 ∷ tag_in (drop at block) ∷ answer_among st card (call_in (drop at block))
unfolding field_says
says_call st card block at e =
    let f = falls block at e in
    rw (lt-leb (length block) at (omega (arith, f.0, f.1))) (good_tells at (drop at block) _ e)

module _ {st : Station} {card : ℕ} {block : List ℕ} {at : ℕ} {r : Taken} (t : Takes st card block at r) where
  -- a good field is not the last
  good_goes : is_good (drop at block) ≡ true → is_last r.told ≡ false
  good_goes e = by r.told (t.answer ∙ says_call st card block at e)
    where
      by : (told : Told) → told_paper told ≡ 0 ∷ tag_in (drop at block) ∷ answer_among st card (call_in (drop at block)) → is_last told ≡ false
      by End p = absurd (never_0 (drop at block) e (sym (ap (λ (l : List ℕ). get_or l 1 0) p)))
      by (Offered answer) p = refl
      by (Emptied answer) p = refl
      by Remark p = refl
      by (Refused why place) p = absurd (no_number why (ap (λ (l : List ℕ). get_or l 0 0) p))

  -- and one that is refused is
  none_stops : is_good (drop at block) ≡ false → is_last r.told ≡ true
  unfolding field_says
  none_stops e = by (leb (length block) at) r.told t.answer
    where
      by : (b : Bool) (told : Told)
          → told_paper told ≡ pick b (0 ∷ 0 ∷ []) (answer_of (tests_in at (drop at block)) (tag_in (drop at block) ∷ answer_among st card (call_in (drop at block))))
          → is_last told ≡ true
      by b End p = refl
      by b (Refused why place) p = refl
      by true (Offered answer) p = let z : ◌≡◌ {A = ℕ} 1 0 = ap (λ (l : List ℕ). get_or l 1 0) p in absurd (omega arith)
      by true (Emptied answer) p = let z : ◌≡◌ {A = ℕ} 2 0 = ap (λ (l : List ℕ). get_or l 1 0) p in absurd (omega arith)
      by true Remark p = let z : ◌≡◌ {A = ℕ} 3 0 = ap (λ (l : List ℕ). get_or l 1 0) p in absurd (omega arith)
      by false (Offered answer) p = absurd (refused_never at (drop at block) _ _ e (sym p))
      by false (Emptied answer) p = absurd (refused_never at (drop at block) _ _ e (sym p))
      by false Remark p = absurd (refused_never at (drop at block) _ _ e (sym p))

  pub last_stays : is_last r.told ≡ true → r.after ≡ at
  last_stays l = by (is_good (drop at block)) refl
    where
      by : (b : Bool) → is_good (drop at block) ≡ b → r.after ≡ at
      by true e = absurd (true≢false (sym l ∙ good_goes e))
      by false e = t.next ∙ ap (λ (k : ℕ). at + k) (size_none (drop at block) e) ∙ omega arith

  pub goes_on : is_last r.told ≡ false → r.after ≡ at → ⊥
  goes_on l h = by (is_good (drop at block)) refl
    where
      by : (b : Bool) → is_good (drop at block) ≡ b → ⊥
      by true e = omega (arith, (falls block at e).0, t.next, h)
      by false e = true≢false (sym (none_stops e) ∙ l)

-- ---- what was handed over up to a place, and what is left
pub record SoFar (st : Station) (card : ℕ) (block : List ℕ) (next : Station) (at : ℕ) : Type 0 where
  pub station : after_calls next card (from block at) ≡ after_calls st card (calls_in block)
  pub end : end_from block at ≡ end_in block

pub so_far_none : (st : Station) (card : ℕ) (block : List ℕ) → SoFar st card block st 0
so_far_none st card block = record { station = refl; end = refl }

module _ {st next : Station} {card : ℕ} {block : List ℕ} {at : ℕ} {r : Taken} (s : SoFar st card block next at) (t : Takes next card block at r) where
  pub so_far_more : (r.after ≡ at → ⊥) → SoFar st card block r.station r.after
  so_far_more n =
      let m = moves t n in
      record {
        station = ap (λ (x : Station). after_calls x card (from block r.after)) t.station
            ∙ sym (after_append next card (calls_at block at) (from block r.after))
            ∙ ap (after_calls next card) (sym m.calls) ∙ s.station;
        end = sym m.end ∙ s.end;
      }

  pub so_far_all : r.after ≡ at → {ended : Result ⊤ (Why × ℕ)} → ended ≡ ended_by r.told → HandsOver st card block (record { station = r.station; ended = ended })
  unfolding after_calls
  so_far_all h {ended} e =
      let m = stops t h in
      record {
        station = t.station ∙ ap (after_calls next card) (m.none ∙ sym m.calls) ∙ s.station;
        end = ap ended_paper e ∙ m.end ∙ s.end;
      }
