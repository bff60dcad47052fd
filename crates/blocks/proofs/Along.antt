-- The fields of a block one by one: a field's answers are those of its calls (answers-are); so the answers along a block are those of its calls one by
-- one, and the last station and the end are the block's (as-calls). Every field has an answer (takes), and every block can be passed (passes).
-- Assumes nothing.
use mathlib.Core.Path.{◌≡◌, refl, sym, ap, ap₂, subst, ◌∙◌}
use mathlib.Core.Bool.{Bool, true, false, not, ◌||◌, true≢false}
use mathlib.Core.List.{List, [], ◌∷◌, ◌++◌}
use Prim.Native.Nat.{ℕ, zero, suc, ◌+◌, ◌-◌, ◌≤◌}
use native.Mathlib.Omega.{arith}
use lib.Dec.{eqb, leb}
use lib.ListN.{length, get_or, drop}
use borrow.Author.Tests.{eqb-true, eqb-false}
use Rattle.strings.specs.Pick.{pick}
use Rattle.fields.specs.declared.Why.{Why}
use Rattle.std.specs.Prelude.{Result, ⊤}
use Rattle.strings.specs.Numbers.{test_at, answer_of}
use Rattle.fields.specs.declared.Why.TheVariants.{Tag, Length, Cut}
use Rattle.fields.specs.Sixteen.{channel_in, epoch_in, symbols_in}
use Rattle.fields.specs.Fields.{tag_in, length_in, body_in, is_unknown, is_wrong, is_cut, tests_in, is_good, size_at}
use Rattle.fields.specs.Block.{Call, offer_of, reset_of, call_in, end_from}
use Rattle.fields.proofs.Tested.{good_tells}
use Rattle.fields.proofs.Answers.{third}
use Rattle.fields.proofs.Whole.{good_parts}
use Rattle.station.proofs.EveryHistory.{some_answer, reset_answer, reset_answers}
use Rattle.station.specs.declared.Station.{Station}
use Rattle.blocks.specs.declared.Told.{Told}
use Rattle.blocks.specs.declared.Told.TheVariants.{End, Offered, Emptied, Remark, Refused}
use Rattle.blocks.specs.declared.Taken.{Taken}
use Rattle.blocks.specs.Taking.{answer_in, after_calls, answers_to, told_paper, answer_among, field_says, calls_at, Takes}
use Rattle.blocks.specs.Handing.{ended_paper, ended_by}
use Rattle.blocks.specs.Along.{answers_in, Along, stops as Stop, goes as Go, Passed, AsCalls}
use Rattle.blocks.proofs.Found.{no_number, calls_where}
use Rattle.blocks.proofs.Steps.{after_append, answers_append, from, moves, stops, says_call}

-- ---- a field's answers
-- by what it tells
by_told : (told : Told) (tag : ℕ) (l : List ℕ) → told_paper told ≡ 0 ∷ tag ∷ l → answers_in told ≡ pick (eqb tag 1) (l ∷ []) (pick (eqb tag 2) (l ∷ []) [])
by_told End tag l p = ap (λ (k : ℕ). pick (eqb k 1) (l ∷ []) (pick (eqb k 2) (l ∷ []) [])) (ap (λ (x : List ℕ). get_or x 1 0) p)
by_told (Offered answer) tag l p =
    ap (λ (x : List ℕ). x ∷ []) (ap (drop 2) p) ∙ ap (λ (k : ℕ). pick (eqb k 1) (l ∷ []) (pick (eqb k 2) (l ∷ []) [])) (ap (λ (x : List ℕ). get_or x 1 0) p)
by_told (Emptied answer) tag l p =
    ap (λ (x : List ℕ). x ∷ []) (ap (drop 2) p) ∙ ap (λ (k : ℕ). pick (eqb k 1) (l ∷ []) (pick (eqb k 2) (l ∷ []) [])) (ap (λ (x : List ℕ). get_or x 1 0) p)
by_told Remark tag l p = ap (λ (k : ℕ). pick (eqb k 1) (l ∷ []) (pick (eqb k 2) (l ∷ []) [])) (ap (λ (x : List ℕ). get_or x 1 0) p)
by_told (Refused why place) tag l p = absurd (no_number why (ap (λ (x : List ℕ). get_or x 0 0) p))

-- by its calls, of which there is one at most
by_calls : (st : Station) (card : ℕ) (a b : Bool) (x y : Call)
    → pick a (answer_among st card (pick a (x ∷ []) (pick b (y ∷ []) [])) ∷ []) (pick b (answer_among st card (pick a (x ∷ []) (pick b (y ∷ []) [])) ∷ []) [])
    ≡ answers_to st card (pick a (x ∷ []) (pick b (y ∷ []) []))
unfolding answers_to
by_calls st card true b x y = refl
by_calls st card false true x y = refl
by_calls st card false false x y = refl

module _ {st : Station} {card : ℕ} {block : List ℕ} {at : ℕ} {r : Taken} (t : Takes st card block at r) where
  pub answers_are : is_good (drop at block) ≡ true → answers_in r.told ≡ answers_to st card (calls_at block at)
  unfolding call_in
  answers_are e =
      let rest = drop at block in
      by_told r.told (tag_in rest) (answer_among st card (call_in rest)) (t.answer ∙ says_call st card block at e)
      ∙ by_calls st card (eqb (tag_in rest) 1) (eqb (tag_in rest) 2) (offer_of (body_in rest)) (reset_of (body_in rest))
      ∙ ap (answers_to st card) (sym (calls_where block at e))

-- ---- along a block, from a place on
pub record FromThere (st : Station) (card : ℕ) (block : List ℕ) (at : ℕ) (answers : List (List ℕ)) (last : Station) (ended : Result ⊤ (Why × ℕ)) : Type 0 where
  pub same_answers : answers ≡ answers_to st card (from block at)
  pub same_station : last ≡ after_calls st card (from block at)
  pub end : ended_paper ended ≡ end_from block at

pub from_there : (card : ℕ) (block : List ℕ) (st : Station) (at : ℕ) (answers : List (List ℕ)) (last : Station) (ended : Result ⊤ (Why × ℕ))
    → Along card block st at answers last ended
    → FromThere st card block at answers last ended
unfolding answers_to
from_there card block st at answers last ended (Stop s k r t h) =
    let m = stops t h in
    record {
      same_answers = sym (ap (answers_to s card) m.calls);
      same_station = t.station ∙ ap (after_calls s card) (m.none ∙ sym m.calls);
      end = m.end;
    }
from_there card block st at answers last ended (Go s k r more l e t n along) =
    let m = moves t n in
    let w = from_there card block r.station r.after more l e along in
    let c = calls_at block k in
    let d = from block r.after in
    record {
      same_answers = ap₂ ◌++◌ (answers_are t m.good) (w.same_answers ∙ ap (λ (x : Station). answers_to x card d) t.station)
          ∙ sym (answers_append s card c d)
          ∙ ap (answers_to s card) (sym m.calls);
      same_station = w.same_station ∙ ap (λ (x : Station). after_calls x card d) t.station ∙ sym (after_append s card c d)
          ∙ ap (after_calls s card) (sym m.calls);
      end = w.end ∙ sym m.end;
    }

pub as_calls : (st : Station) (card : ℕ) (block : List ℕ) (answers : List (List ℕ)) (last : Station) (ended : Result ⊤ (Why × ℕ)) → Along card block st 0 answers last ended
    → AsCalls st card block answers last ended
as_calls st card block answers last ended along =
    let w = from_there card block st 0 answers last ended along in
    record { same_answers = w.same_answers; same_station = w.same_station; end = w.end }

-- ---- every field has an answer
record Telling (said : List ℕ) : Type 0 where
  told : Told
  says : told_paper told ≡ said

-- a good field, by its tag
offered : (st : Station) (card : ℕ) (body : List ℕ) → Telling (0 ∷ 1 ∷ answer_in st card (offer_of body))
unfolding answer_in
offered st card body =
    let a = some_answer st card (channel_in body) (epoch_in body) (symbols_in body) in
    record { told = Offered a.answer; says = ap (λ (l : List ℕ). 0 ∷ 1 ∷ l) a.is }

emptied : (st : Station) (card : ℕ) (body : List ℕ) → Telling (0 ∷ 2 ∷ answer_in st card (reset_of body))
unfolding answer_in
emptied st card body =
    let c = channel_in body in
    record { told = Emptied (reset_answer card c); says = ap (λ (l : List ℕ). 0 ∷ 2 ∷ l) (reset_answers st card c).answer }

by_tag : (st : Station) (card : ℕ) (rest : List ℕ) → is_unknown (tag_in rest) ≡ false → Telling (0 ∷ tag_in rest ∷ answer_among st card (call_in rest))
unfolding call_in
by_tag st card rest known = by (eqb (tag_in rest) 1) (eqb (tag_in rest) 2) refl refl
  where
    by : (a b : Bool) → eqb (tag_in rest) 1 ≡ a → eqb (tag_in rest) 2 ≡ b
        → Telling (0 ∷ tag_in rest ∷ answer_among st card (pick a (offer_of (body_in rest) ∷ []) (pick b (reset_of (body_in rest) ∷ []) [])))
    by true b p q =
        subst (λ (k : ℕ). Telling (0 ∷ k ∷ answer_in st card (offer_of (body_in rest)))) (sym (eqb-true (tag_in rest) 1 p)) (offered st card (body_in rest))
    by false true p q =
        subst (λ (k : ℕ). Telling (0 ∷ k ∷ answer_in st card (reset_of (body_in rest)))) (sym (eqb-true (tag_in rest) 2 q)) (emptied st card (body_in rest))
    by false false p q =
        record { told = Remark; says = ap (λ (k : ℕ). 0 ∷ k ∷ []) (sym (third (tag_in rest) known (eqb-false (tag_in rest) 1 p) (eqb-false (tag_in rest) 2 q))) }

-- one that is refused, by its tests
by_tests : (a b c : Bool) (at : ℕ) (l : List ℕ) → not (a || (b || c)) ≡ false
    → Telling (answer_of (test_at 43 at a ∷ test_at 41 at b ∷ test_at 42 at c ∷ []) l)
by_tests true b c at l e = record { told = Refused Cut at; says = refl }
by_tests false true c at l e = record { told = Refused Tag at; says = refl }
by_tests false false true at l e = record { told = Refused Length at; says = refl }
by_tests false false false at l e = absurd (true≢false e)

module _ (st : Station) (card : ℕ) (block : List ℕ) (at : ℕ) where
  abbrev rest : List ℕ
  rest = drop at block

  abbrev its : List ℕ
  its = tag_in rest ∷ answer_among st card (call_in rest)

  before_end : (b : Bool) → is_good rest ≡ b → Telling (answer_of (tests_in at rest) its)
  unfolding is_good
  before_end true e = subst Telling (sym (good_tells at rest its e)) (by_tag st card rest (good_parts rest e).known)
  before_end false e = by_tests (is_cut (length_in rest) (length rest)) (is_unknown (tag_in rest)) (is_wrong (tag_in rest) (length_in rest)) at its e

  some_told : Telling (field_says st card block at)
  unfolding field_says
  some_told = by (leb (length block) at)
    where
      by : (b : Bool) → Telling (pick b (0 ∷ 0 ∷ []) (answer_of (tests_in at rest) its))
      by true = record { told = End; says = refl }
      by false = before_end (is_good rest) refl

  pub taken : Taken
  taken = record { station = after_calls st card (calls_at block at); told = some_told.told; after = at + size_at block at }

  pub takes : Takes st card block at taken
  unfolding taken
  takes = record { answer = some_told.says; station = refl; next = refl }

-- ---- and every block can be passed
one_field : (st : Station) (card : ℕ) (block : List ℕ) (at : ℕ)
    → (((taken st card block at).after ≡ at → ⊥) → Passed (taken st card block at).station card block (taken st card block at).after) → Passed st card block at
one_field st card block at go = by (eqb r.after at) refl
  where
    r : Taken
    r = taken st card block at

    by : (b : Bool) → eqb r.after at ≡ b → Passed st card block at
    by true e = record { answers = []; last = r.station; ended = ended_by r.told; along = Stop st at r (takes st card block at) (eqb-true r.after at e) }
    by false e =
        let n = eqb-false r.after at e in
        let w = go n in
        record {
          answers = answers_in r.told ++ w.answers;
          last = w.last;
          ended = w.ended;
          along = Go st at r w.answers w.last w.ended (takes st card block at) n w.along;
        }

pass : (card : ℕ) (block : List ℕ) (k : ℕ) (st : Station) (at : ℕ) → length block - at ≤ k → Passed st card block at
pass card block zero st at h = one_field st card block at (λ n. let m = moves (takes st card block at) n in absurd (omega (arith, m.forward, m.within)))
pass card block (suc k) st at h =
    one_field st card block at (λ n.
    let m = moves (takes st card block at) n in
    pass card block k (taken st card block at).station (taken st card block at).after (omega (arith, m.forward, m.within)))

pub passes : (st : Station) (card : ℕ) (block : List ℕ) → Passed st card block 0
passes st card block = pass card block (length block) st 0 (omega arith)
