-- What is said of a field by its tests (good-said, refused-said); that no second field fits (once), that the end is told exactly there (ends), and that each
-- number is given exactly where its test is the first to fit (numbers-exactly). A good field is good wherever its bytes stand (anywhere).
-- Assumes nothing.
use mathlib.Core.Path.{◌≡◌, refl, sym, ap, ◌∙◌}
use mathlib.Core.Bool.{Bool, true, false, true≢false}
use mathlib.Core.List.{List, [], ◌∷◌, ◌++◌}
use mathlib.Core.Logic.{◌↔◌}
use Prim.Native.Nat.{ℕ, ◌≤◌, ◌<◌}
use lib.Dec.{eqb, leb}
use lib.ListN.{length, get_or, drop}
use lib.Seq.{drop-append_seam}
use borrow.Author.Tests.{leb-true, leb-false, le-leb, lt-leb}
use Rattle.strings.specs.Pick.{pick}
use Rattle.strings.specs.Numbers.{answer_of, Exactly}
use Rattle.strings.proofs.Answer.{exactly}
use Rattle.fields.specs.declared.Why.{Why}
use Rattle.fields.specs.declared.Why.TheVariants.{Tag, Length, Cut}
use Rattle.fields.specs.declared.Field.{Field}
use Rattle.fields.specs.declared.Field.TheVariants.{End, Offer, Reset, Remark, Refused}
use Rattle.fields.specs.Fields.{tag_in, is_unknown, tests_in, is_good, size_in, size_at, field_paper, told_of, said_at, Finds}
use Rattle.fields.specs.Block.{call_in}
use Rattle.fields.specs.Laws.{bytes_at, elsewhere, Same}
use Rattle.fields.proofs.Whole.{good_parts, good_size, size_then, calls_then, front_length, good_front, alone, calls_front}
use Rattle.fields.proofs.Tested.{good_tells, refused_tells, refused_never}

-- ---- a field is known by its numbers
why_by : ℕ → Why
why_by n = pick (eqb n 41) Tag (pick (eqb n 42) Length Cut)

field_by : List ℕ → Field
field_by l =
    pick (eqb (get_or l 0 0) 0)
    (pick (eqb (get_or l 1 0) 0) End (pick (eqb (get_or l 1 0) 1) (Offer (get_or l 2 0)) (pick (eqb (get_or l 1 0) 2) (Reset (get_or l 2 0)) Remark)))
    (Refused (why_by (get_or l 0 0)) (get_or l 1 0))

field_back_lem : (f : Field) → field_by (field_paper f) ≡ f
unfolding field_by why_by
field_back_lem End = refl
field_back_lem (Offer p) = refl
field_back_lem (Reset p) = refl
field_back_lem Remark = refl
field_back_lem (Refused Tag p) = refl
field_back_lem (Refused Length p) = refl
field_back_lem (Refused Cut p) = refl

field_same : (f g : Field) → field_paper f ≡ field_paper g → f ≡ g
field_same f g e = sym (field_back_lem f) ∙ ap field_by e ∙ field_back_lem g

-- ---- NO SECOND ANSWER FITS
pub once : (block : List ℕ) (at : ℕ) (f g : Field) (after after' : ℕ) → Finds block at f after → Finds block at g after' → (f ≡ g) × (after ≡ after')
once block at f g after after' a b = (field_same f g (a.answer ∙ sym b.answer), a.next ∙ sym b.next)

-- ---- what is said before the end: of a good field what it tells, and of another the same whatever it would tell
pub said_before : (block : List ℕ) (at : ℕ) → at < length block → said_at block at ≡ answer_of (tests_in at (drop at block)) (told_of at (tag_in (drop at block)))
unfolding said_at
said_before block at h = rw (lt-leb (length block) at h)

pub said_end : (block : List ℕ) (at : ℕ) → length block ≤ at → said_at block at ≡ 0 ∷ 0 ∷ []
unfolding said_at
said_end block at h = rw (le-leb (length block) at h)

module _ (block : List ℕ) (at : ℕ) (before : at < length block) where
  pub good_said : is_good (drop at block) ≡ true → said_at block at ≡ 0 ∷ told_of at (tag_in (drop at block))
  good_said e = said_before block at before ∙ good_tells at (drop at block) (told_of at (tag_in (drop at block))) e

  pub refused_said : is_good (drop at block) ≡ false → said_at block at ≡ answer_of (tests_in at (drop at block)) []
  refused_said e = said_before block at before ∙ refused_tells at (drop at block) (told_of at (tag_in (drop at block))) e

  -- 0 and a tag: the field is good, and tells it
  pub good_by_said : (l : List ℕ) → said_at block at ≡ 0 ∷ l → (is_good (drop at block) ≡ true) × (told_of at (tag_in (drop at block)) ≡ l)
  good_by_said l p = by (is_good (drop at block)) refl
    where
      by : (b : Bool) → is_good (drop at block) ≡ b → (is_good (drop at block) ≡ true) × (told_of at (tag_in (drop at block)) ≡ l)
      by true e = (e, ap (drop 1) (sym (good_said e) ∙ p))
      by false e = absurd (refused_never at (drop at block) [] l e (sym (refused_said e) ∙ p))

-- ---- THE END IS TOLD EXACTLY at the end and past it
module _ (block : List ℕ) (at : ℕ) (f : Field) (after : ℕ) (h : Finds block at f after) where
  told_end : f ≡ End → length block ≤ at
  told_end e = by (leb (length block) at) refl
    where
      by : (b : Bool) → leb (length block) at ≡ b → length block ≤ at
      by true q = leb-true (length block) at q
      by false q =
          let l = leb-false (length block) at q in
          let g = good_by_said block at l (0 ∷ []) (sym h.answer ∙ ap field_paper e) in
          let z : tag_in (drop at block) ≡ 0 = ap (λ (x : List ℕ). get_or x 0 0) g.1 in
          absurd (true≢false (sym (ap is_unknown z) ∙ (good_parts (drop at block) g.0).known))

  pub ends : (f ≡ End) ↔ (length block ≤ at)
  ends = (told_end, (λ l. field_same f End (h.answer ∙ said_end block at l)))

  -- ---- EACH NUMBER EXACTLY where its test is the first to fit
  pub numbers_exactly : at < length block → Exactly (tests_in at (drop at block)) (field_paper f)
  numbers_exactly l =
      exactly {made = []} {out = []} tt (record { answer = h.answer ∙ said_before block at l; output = refl })

-- ---- A GOOD FIELD IS GOOD WHEREVER ITS BYTES STAND
pub anywhere : (block : List ℕ) (at : ℕ) (before after : List ℕ) → 0 < size_at block at → Same block at (elsewhere before block at after) (length before)
anywhere block at before after h =
    let rest = drop at block in
    let e = good_size rest h in
    let d = drop-append_seam before (bytes_at block at ++ after) in
    record {
      size = ap size_in d ∙ size_then (bytes_at block at) after (good_front rest e) ∙ (alone rest e).size ∙ front_length rest e;
      calls = ap call_in d ∙ calls_then (bytes_at block at) after (good_front rest e) ∙ calls_front rest e;
    }
