-- What holds of every block that is handed to a station (the statements stand in `specs/Laws.antt`).
-- Assumes nothing.
use mathlib.Core.Path.{◌≡◌, refl, sym, ap, ap₂, ◌∙◌}
use mathlib.Core.Bool.{Bool, true, false}
use mathlib.Core.List.{List, [], ◌∷◌, ◌++◌, append-nil}
use mathlib.Core.Logic.{◌↔◌}
use Prim.Native.Nat.{ℕ, ◌+◌, ◌≤◌, ◌<◌}
use native.Mathlib.Omega.{arith}
use lib.Dec.{leb}
use lib.ListN.{length, get_or, take, drop, length-append, length-drop, get_or-append}
use lib.Seq.{take-append-le, drop-append-le}
use borrow.Author.Tests.{le-leb, lt-leb, leb-true, leb-false, le-ltb}
use Rattle.strings.specs.Pick.{pick}
use Rattle.std.specs.Prelude.{Result, Ok, Err, ⊤}
use Rattle.strings.specs.Number.{value_of}
use Rattle.strings.specs.Numbers.{test_at, first_of, answer_of, left_by, Exactly}
use Rattle.strings.proofs.Answer.{written_same, exactly as by_tests}
use Rattle.fields.specs.declared.Why.{Why}
use Rattle.fields.specs.declared.Why.TheVariants.{Tag, Length, Cut}
use Rattle.fields.specs.Fields.{tag_in, length_in, is_unknown, is_wrong, is_cut, tests_in, is_good, why_number}
use Rattle.fields.specs.Block.{Call, call_in, calls_of, calls_in, end_in}
use Rattle.fields.specs.Written.{Item, block_of, calls_among, AllFit}
use Rattle.fields.specs.Laws.{onward}
use Rattle.fields.proofs.Whole.{size_none}
use Rattle.fields.proofs.Tested.{refused_never}
use Rattle.fields.proofs.Steps.{fields_none}
use Rattle.fields.proofs.Laws.{laws as fields-laws}
use Rattle.channel.proofs.Answers.{answer_same}
use Rattle.station.specs.declared.Station.{Station}
use Rattle.station.specs.Demand1.{OneAnswer}
use Rattle.blocks.specs.declared.Told.{Told}
use Rattle.blocks.specs.declared.Told.TheVariants.{End, Offered, Emptied, Remark, Refused}
use Rattle.blocks.specs.declared.Taken.{Taken}
use Rattle.blocks.specs.declared.Handed.{Handed}
use Rattle.blocks.specs.Taking.{after_calls, told_paper, answer_among, field_says, Takes}
use Rattle.blocks.specs.Handing.{ended_paper, HandsOver}
use Rattle.blocks.specs.Along.{Along}
use Rattle.blocks.specs.Laws.{Laws}
use Rattle.blocks.proofs.Found.{no_number, none_where}
use Rattle.blocks.proofs.Steps.{after_append, end_none, never_0, says_call}
use Rattle.blocks.proofs.Along.{taken, takes, as_calls, passes}

-- ---- the numbers determine what is told
why_of : ℕ → Why
why_of n = pick (leb n 41) Tag (pick (leb n 42) Length Cut)

why_known : (why : Why) → why_of (why_number why) ≡ why
unfolding why_of
why_known Tag = refl
why_known Length = refl
why_known Cut = refl

abbrev first : List ℕ → ℕ
first l = get_or l 0 0

abbrev second : List ℕ → ℕ
second l = get_or l 1 0

why_same : (v w : Why) → why_number v ≡ why_number w → v ≡ w
why_same v w e = sym (why_known v) ∙ ap why_of e ∙ why_known w

refused_same : (v w : Why) (i j : ℕ) → why_number v ∷ i ∷ [] ≡ why_number w ∷ j ∷ [] → Refused v i ≡ Refused w j
refused_same v w i j e = ap₂ Refused (why_same v w (ap first e)) (ap second e)

not_refused : {A : Type 0} (w : Why) (j : ℕ) (l : List ℕ) → 0 ∷ l ≡ why_number w ∷ j ∷ [] → A
not_refused w j l e = absurd (no_number w (sym (ap first e)))

other_tag : {A : Type 0} (m n : ℕ) (k l : List ℕ) → (m ≡ n → ⊥) → 0 ∷ m ∷ k ≡ 0 ∷ n ∷ l → A
other_tag m n k l d e = absurd (d (ap second e))

pub told_same : (t u : Told) → told_paper t ≡ told_paper u → t ≡ u
told_same End End e = refl
told_same End (Offered a) e = other_tag 0 1 _ _ (λ p. omega arith) e
told_same End (Emptied a) e = other_tag 0 2 _ _ (λ p. omega arith) e
told_same End Remark e = other_tag 0 3 _ _ (λ p. omega arith) e
told_same End (Refused w j) e = not_refused w j _ e
told_same (Offered a) End e = other_tag 1 0 _ _ (λ p. omega arith) e
told_same (Offered a) (Offered b) e = ap Offered (answer_same a b (ap (drop 2) e))
told_same (Offered a) (Emptied b) e = other_tag 1 2 _ _ (λ p. omega arith) e
told_same (Offered a) Remark e = other_tag 1 3 _ _ (λ p. omega arith) e
told_same (Offered a) (Refused w j) e = not_refused w j _ e
told_same (Emptied a) End e = other_tag 2 0 _ _ (λ p. omega arith) e
told_same (Emptied a) (Offered b) e = other_tag 2 1 _ _ (λ p. omega arith) e
told_same (Emptied a) (Emptied b) e = ap Emptied (written_same a b (ap (drop 2) e))
told_same (Emptied a) Remark e = other_tag 2 3 _ _ (λ p. omega arith) e
told_same (Emptied a) (Refused w j) e = not_refused w j _ e
told_same Remark End e = other_tag 3 0 _ _ (λ p. omega arith) e
told_same Remark (Offered b) e = other_tag 3 1 _ _ (λ p. omega arith) e
told_same Remark (Emptied b) e = other_tag 3 2 _ _ (λ p. omega arith) e
told_same Remark Remark e = refl
told_same Remark (Refused w j) e = not_refused w j _ e
told_same (Refused v i) End e = not_refused v i _ (sym e)
told_same (Refused v i) (Offered b) e = not_refused v i _ (sym e)
told_same (Refused v i) (Emptied b) e = not_refused v i _ (sym e)
told_same (Refused v i) Remark e = not_refused v i _ (sym e)
told_same (Refused v i) (Refused w j) e = refused_same v w i j e

pub ended_same : (t u : Result ⊤ (Why × ℕ)) → ended_paper t ≡ ended_paper u → t ≡ u
ended_same (Ok _) (Ok _) e = refl
ended_same (Ok _) (Err (w, j)) e = not_refused w j _ e
ended_same (Err (v, i)) (Ok _) e = not_refused v i _ (sym e)
ended_same (Err (v, i)) (Err (w, j)) e = ap₂ (λ (x : Why) (y : ℕ). Err (x, y)) (why_same v w (ap first e)) (ap second e)

-- ---- NO SECOND ANSWER FITS, and every call answers
takes_once : (st : Station) (card : ℕ) (block : List ℕ) (at : ℕ) (r q : Taken) → Takes st card block at r → Takes st card block at q → r ≡ q
takes_once st card block at r q a b =
    ap₂ (λ (x : Station × Told) (k : ℕ). record { station = x.0; told = x.1; after = k })
    (ap₂ (λ (x : Station) (y : Told). (x, y)) (a.station ∙ sym b.station) (told_same r.told q.told (a.answer ∙ sym b.answer)))
    (a.next ∙ sym b.next)

hands_once : (st : Station) (card : ℕ) (block : List ℕ) (r q : Handed) → HandsOver st card block r → HandsOver st card block q → r ≡ q
hands_once st card block r q a b =
    ap₂ (λ (x : Station) (y : Result ⊤ (Why × ℕ)). record { station = x; ended = y }) (a.station ∙ sym b.station)
    (ended_same r.ended q.ended (a.end ∙ sym b.end))

field_answers : (st : Station) (card : ℕ) (block : List ℕ) (at : ℕ) → OneAnswer Taken (Takes st card block at)
field_answers st card block at =
    record {
      answer = taken st card block at;
      fits = takes st card block at;
      only = λ r a. takes_once st card block at r (taken st card block at) a (takes st card block at);
    }

block_answers : (st : Station) (card : ℕ) (block : List ℕ) → OneAnswer Handed (HandsOver st card block)
block_answers st card block =
    let w = passes st card block in
    let a = as_calls st card block w.answers w.last w.ended w.along in
    let f : HandsOver st card block (record { station = w.last; ended = w.ended }) = record { station = a.same_station; end = a.end } in
    record { answer = record { station = w.last; ended = w.ended }; fits = f; only = λ r o. hands_once st card block r _ o f }

-- ---- the numbers
says_before : (st : Station) (card : ℕ) (block : List ℕ) (at : ℕ) → at < length block
    → field_says st card block at ≡ answer_of (tests_in at (drop at block)) (tag_in (drop at block) ∷ answer_among st card (call_in (drop at block)))
unfolding field_says
says_before st card block at h = rw (lt-leb (length block) at h)

exactly : (st : Station) (card : ℕ) (block : List ℕ) (at : ℕ) (r : Taken) → Takes st card block at r → at < length block
    → Exactly (tests_in at (drop at block)) (told_paper r.told)
exactly st card block at r t h =
    by_tests tt (record { answer = t.answer ∙ says_before st card block at h; output = refl {a = left_by (first_of (tests_in at (drop at block))) [] []} })

refused : (st : Station) (card : ℕ) (block : List ℕ) (at : ℕ) (r : Taken) → Takes st card block at r → is_good (drop at block) ≡ false
    → (r.station ≡ st) × (r.after ≡ at)
unfolding after_calls
refused st card block at r t e = (
  t.station ∙ ap (after_calls st card) (none_where block at e),
  t.next ∙ ap (λ (k : ℕ). at + k) (size_none (drop at block) e) ∙ omega arith,
)

-- the end is told at the end
module _ (st : Station) (card : ℕ) (block : List ℕ) (at : ℕ) (r : Taken) (t : Takes st card block at r) where
  abbrev rest : List ℕ
  rest = drop at block

  not_before : r.told ≡ End → at < length block → ⊥
  not_before e h = by (is_good rest) refl
    where
      by : (b : Bool) → is_good rest ≡ b → ⊥
      by true g = never_0 rest g (sym (ap second (ap told_paper (sym e) ∙ t.answer ∙ says_call st card block at g)))
      by false g =
          refused_never at rest (tag_in rest ∷ answer_among st card (call_in rest)) (0 ∷ []) g
          (sym (says_before st card block at h) ∙ sym t.answer ∙ ap told_paper e)

  past_end : length block ≤ at → r.told ≡ End
  unfolding field_says
  past_end h = told_same r.told End (t.answer ∙ rw (le-leb (length block) at h))

  ends : (r.told ≡ End) ↔ (length block ≤ at)
  ends = (by (leb (length block) at) refl, past_end)
    where
      by : (b : Bool) → leb (length block) at ≡ b → r.told ≡ End → length block ≤ at
      by true p e = leb-true (length block) at p
      by false p e = absurd (not_before e (leb-false (length block) at p))

-- ---- field by field as the whole block
same_station : (st : Station) (card : ℕ) (block : List ℕ) (answers : List (List ℕ)) (last : Station) (ended : Result ⊤ (Why × ℕ)) (r : Handed)
    → Along card block st 0 answers last ended → HandsOver st card block r → (last ≡ r.station) × (ended ≡ r.ended)
same_station st card block answers last ended r along o =
    let a = as_calls st card block answers last ended along in
    (a.same_station ∙ sym o.station, ended_same ended r.ended (a.end ∙ sym o.end))

-- ---- blocks that are written, and blocks end to end
written : (st : Station) (card : ℕ) (items : List Item) → AllFit items → (r : Handed) → HandsOver st card (block_of items) r
    → (r.station ≡ after_calls st card (calls_among items)) × (r.ended ≡ Ok tt)
written st card items fit r o =
    let w = fields-laws.reads items fit in
    (o.station ∙ ap (after_calls st card) w.calls, ended_same r.ended (Ok tt) (o.end ∙ w.whole))

follow : (st : Station) (card : ℕ) (a b : List ℕ) (r q s : Handed) → HandsOver st card a r → r.ended ≡ Ok tt → HandsOver r.station card b q
    → HandsOver st card (a ++ b) s
    → s.station ≡ q.station
follow st card a b r q s o e p w =
    let f = fields-laws.follow a b (sym o.end ∙ ap ended_paper e) in
    w.station ∙ ap (after_calls st card) f.calls ∙ after_append st card (calls_in a) (calls_in b)
    ∙ ap (λ (x : Station). after_calls x card (calls_in b)) (sym o.station) ∙ sym p.station

-- ---- what is refused
none_in : (rest : List ℕ) → is_good rest ≡ false → calls_in rest ≡ []
unfolding calls_of
none_in rest e = ap calls_of (fields_none rest e)

kept : (st : Station) (card : ℕ) (before rest : List ℕ) (r : Handed) → end_in before ≡ 0 ∷ [] → is_good rest ≡ false → HandsOver st card (before ++ rest) r
    → r.station ≡ after_calls st card (calls_in before)
kept st card before rest r w e o =
    let l = (fields-laws.follow before rest w).calls ∙ ap (λ (l : List Call). calls_in before ++ l) (none_in rest e) ∙ append-nil (calls_in before) in
    o.station ∙ ap (after_calls st card) l

-- a field that is refused though it is whole, with any bytes after it
module _ (field : List ℕ) (e : is_good field ≡ false) (h : 3 + length_in field ≤ length field) where
  module _ (x : List ℕ) where
    tag_then : tag_in (field ++ x) ≡ tag_in field
    tag_then = get_or-append field x 0 0 (omega arith)

    length_then : length_in (field ++ x) ≡ length_in field
    length_then =
        ap (λ (l : List ℕ). value_of (take 2 l)) (drop-append-le 1 field x (omega arith))
        ∙ ap value_of (take-append-le 2 (drop 1 field) x (omega (arith, length-drop 1 field)))

    whole-then : is_cut (length_in (field ++ x)) (length (field ++ x)) ≡ false
    whole-then = le-ltb (length (field ++ x)) (3 + length_in (field ++ x)) (omega (arith, length_then, length-append field x))

    refused-then : is_good (field ++ x) ≡ false
    unfolding is_good
    refused-then =
        rw (whole-then, tag_then, length_then) (rw (le-ltb (length field) (3 + length_in field) h) at e)

    end-then : end_in (field ++ x)
        ≡ answer_of (test_at 43 0 false ∷ test_at 41 0 (is_unknown (tag_in field)) ∷ test_at 42 0 (is_wrong (tag_in field) (length_in field)) ∷ []) []
    end-then =
        end_none (field ++ x) 0 refused-then
        ∙ rw (lt-leb (length (field ++ x)) 0 (omega (arith, length-append field x)), whole-then, tag_then, length_then)

no_effect : (st : Station) (card : ℕ) (before field x y : List ℕ) (r q : Handed) → end_in before ≡ 0 ∷ [] → is_good field ≡ false
    → 3 + length_in field ≤ length field
    → HandsOver st card (before ++ (field ++ x)) r → HandsOver st card (before ++ (field ++ y)) q → r ≡ q
no_effect st card before field x y r q w e h o p =
    let a = kept st card before (field ++ x) r w (refused-then field e h x) o in
    let b = kept st card before (field ++ y) q w (refused-then field e h y) p in
    let c = o.end ∙ (fields-laws.follow before (field ++ x) w).end ∙ ap (onward (length before)) (end-then field e h x) in
    let d = p.end ∙ (fields-laws.follow before (field ++ y) w).end ∙ ap (onward (length before)) (end-then field e h y) in
    ap₂ (λ (x : Station) (y : Result ⊤ (Why × ℕ)). record { station = x; ended = y }) (a ∙ sym b) (ended_same r.ended q.ended (c ∙ sym d))

pub laws : Laws
laws =
    record {
      field_answers = field_answers;
      block_answers = block_answers;
      ends = ends;
      exactly = exactly;
      refused = refused;
      passes = passes;
      as_calls = as_calls;
      same_station = same_station;
      written = written;
      follow = follow;
      keeps = λ st card before rest r q w e o p. kept st card before rest r w e o ∙ sym p.station;
      no_effect = no_effect;
    }
