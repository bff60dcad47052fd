-- What a field that was found says of its block: at the end (end-there), refused (refused-there), or good, with its tag and the place of its body
-- (good-there); so what it leads to on any station, its number and its calls (leads-end, leads-remark, leads-offer, leads-reset, says-refused), and that it
-- is taken so (takes-end ..).
-- Assumes nothing.
use mathlib.Core.Path.{◌≡◌, refl, sym, ap, ap₂, ◌∙◌}
use mathlib.Core.Bool.{Bool, true, false, not, ◌||◌, true≢false}
use mathlib.Core.List.{List, [], ◌∷◌}
use Prim.Native.Nat.{ℕ, suc, ◌+◌, ◌-◌, ◌≤◌, ◌<◌}
use native.Mathlib.Omega.{arith}
use lib.Dec.{eqb, leb}
use lib.ListN.{length, get_or, take, drop, length-drop, drop_of_length-le}
use lib.Seq.{drop-drop, get_or-drop, get_or-take}
use borrow.Author.Tests.{eqb-true, leb-true, leb-false, le-leb, lt-leb, le-ltb}
use Rattle.strings.specs.Pick.{pick}
use Rattle.strings.specs.Numbers.{test_at, answer_of}
use Rattle.fields.specs.declared.Why.{Why}
use Rattle.fields.specs.declared.Why.TheVariants.{Tag, Length, Cut}
use Rattle.fields.specs.declared.Field.{Field}
use Rattle.fields.specs.declared.Field.TheVariants.{End, Offer as OfferAt, Reset as ResetAt, Remark, Refused}
use Rattle.fields.specs.Sixteen.{channel_in, epoch_in, symbols_in}
use Rattle.fields.specs.Fields.{tag_in, length_in, body_in, is_unknown, is_wrong, is_cut, tests_in, is_good, why_number, field_paper, told_of, said_at, Finds}
use Rattle.fields.specs.Block.{Call, Offer, Reset, offer_of, call_in}
use Rattle.fields.proofs.Whole.{Good, good_parts}
use Rattle.station.specs.declared.Station.{Station}
use Rattle.station.specs.declared.Stepped.{Stepped}
use Rattle.station.specs.Station.{OffersTo}
use Rattle.blocks.specs.declared.Told.{Told}
use Rattle.blocks.specs.declared.Told.TheVariants.{End as Ends, Offered as Offers, Remark as Remarks, Refused as Refuses}
use Rattle.blocks.specs.declared.Taken.{Taken}
use Rattle.blocks.specs.Taking.{answer_in, after_call, after_calls, told_paper, answer_among, field_says, calls_at, Takes, tag_of, Makes}

-- ---- an answer and its tests: a test at the end of the block, and then three
abbrev said_by3 : Bool → ℕ → Bool → Bool → Bool → List ℕ → List ℕ
said_by3 t at a b c told = pick t (0 ∷ 0 ∷ []) (answer_of (test_at 43 at a ∷ test_at 41 at b ∷ test_at 42 at c ∷ []) told)

-- a tag is told: no test fits
good_by_tests : (t a b c : Bool) (at n : ℕ) (ps told : List ℕ) → 0 ∷ suc n ∷ ps ≡ said_by3 t at a b c told
    → (t ≡ false) × ((not (a || (b || c)) ≡ true) × (suc n ∷ ps ≡ told))
good_by_tests true a b c at n ps told e = let z : suc n ≡ 0 = ap (λ (l : List ℕ). get_or l 1 0) e in absurd (omega arith)
good_by_tests false true b c at n ps told e = let z : ◌≡◌ {A = ℕ} 0 43 = ap (λ (l : List ℕ). get_or l 0 0) e in absurd (omega arith)
good_by_tests false false true c at n ps told e = let z : ◌≡◌ {A = ℕ} 0 41 = ap (λ (l : List ℕ). get_or l 0 0) e in absurd (omega arith)
good_by_tests false false false true at n ps told e = let z : ◌≡◌ {A = ℕ} 0 42 = ap (λ (l : List ℕ). get_or l 0 0) e in absurd (omega arith)
good_by_tests false false false false at n ps told e = (refl, (refl, ap (λ (l : List ℕ). drop 1 l) e))

-- a number that is not 0 is told: one of the three fits, and nothing else is told
refused_by_tests : (t a b c : Bool) (at n : ℕ) (ps told told' : List ℕ) → (n ≡ 0 → ⊥) → n ∷ ps ≡ said_by3 t at a b c told
    → (n ∷ ps ≡ said_by3 t at a b c told') × (not (a || (b || c)) ≡ false)
refused_by_tests true a b c at n ps told told' z e = absurd (z (ap (λ (l : List ℕ). get_or l 0 0) e))
refused_by_tests false true b c at n ps told told' z e = (e, refl)
refused_by_tests false false true c at n ps told told' z e = (e, refl)
refused_by_tests false false false true at n ps told told' z e = (e, refl)
refused_by_tests false false false false at n ps told told' z e = absurd (z (ap (λ (l : List ℕ). get_or l 0 0) e))

-- 0 and 0 is told: at the end of the block, since no tag is 0
end_by_tests : (t a c : Bool) (at tag : ℕ) → 0 ∷ 0 ∷ [] ≡ said_by3 t at a (is_unknown tag) c (told_of at tag) → t ≡ true
end_by_tests true a c at tag e = refl
end_by_tests false true c at tag e = let z : ◌≡◌ {A = ℕ} 0 43 = ap (λ (l : List ℕ). get_or l 0 0) e in absurd (omega arith)
end_by_tests false false c at tag e = absurd (unknown (is_unknown tag) refl e)
  where
    at_0 : is_unknown tag ≡ false → tag ≡ 0 → ⊥
    at_0 k z = true≢false (ap is_unknown (sym z) ∙ k)

    wrong : (b d : Bool) → is_unknown tag ≡ b → d ≡ c → 0 ∷ 0 ∷ [] ≡ said_by3 false at false b d (told_of at tag) → ⊥
    wrong true d k p q = let z : ◌≡◌ {A = ℕ} 0 41 = ap (λ (l : List ℕ). get_or l 0 0) q in omega arith
    wrong false true k p q = let z : ◌≡◌ {A = ℕ} 0 42 = ap (λ (l : List ℕ). get_or l 0 0) q in omega arith
    wrong false false k p q = at_0 k (sym (ap (λ (l : List ℕ). get_or l 1 0) q))

    unknown : (b : Bool) → is_unknown tag ≡ b → 0 ∷ 0 ∷ [] ≡ said_by3 false at false (is_unknown tag) c (told_of at tag) → ⊥
    unknown b k q = wrong (is_unknown tag) c refl refl q

pub no_number : (why : Why) → why_number why ≡ 0 → ⊥
no_number Tag e = omega arith
no_number Length e = omega arith
no_number Cut e = omega arith

-- ---- of the field at a place
pub record GoodAt (block : List ℕ) (at tag : ℕ) : Type 0 where
  pub before : at < length block
  pub good : is_good (drop at block) ≡ true
  pub its_tag : tag_in (drop at block) ≡ tag

pub calls_where : (block : List ℕ) (at : ℕ) → is_good (drop at block) ≡ true → calls_at block at ≡ call_in (drop at block)
unfolding calls_at
calls_where block at e = rw e

pub none_where : (block : List ℕ) (at : ℕ) → is_good (drop at block) ≡ false → calls_at block at ≡ []
unfolding calls_at
none_where block at e = rw e

module _ (block : List ℕ) (at : ℕ) where
  good_there : (n : ℕ) (ps : List ℕ) → 0 ∷ suc n ∷ ps ≡ said_at block at → GoodAt block at (suc n) × (ps ≡ pick (eqb (suc n) 3) [] ((at + 3) ∷ []))
  unfolding said_at is_good
  good_there n ps e =
      let rest = drop at block in
      let q =
      good_by_tests (leb (length block) at) (is_cut (length_in rest) (length rest)) (is_unknown (tag_in rest)) (is_wrong (tag_in rest) (length_in rest)) at n ps
      (told_of at (tag_in rest)) e in
      let tag : tag_in rest ≡ suc n = sym (ap (λ (l : List ℕ). get_or l 0 0) q.1.1) in (
        record { before = leb-false (length block) at q.0; good = q.1.0; its_tag = tag },
        ap (λ (l : List ℕ). drop 1 l) q.1.1 ∙ ap (λ (k : ℕ). pick (eqb k 3) [] ((at + 3) ∷ [])) tag,
      )

  end_there : 0 ∷ 0 ∷ [] ≡ said_at block at → length block ≤ at
  unfolding said_at
  end_there e =
      let rest = drop at block in
      leb-true (length block) at
      (end_by_tests (leb (length block) at) (is_cut (length_in rest) (length rest)) (is_wrong (tag_in rest) (length_in rest)) at (tag_in rest) e)

  refused_there : (why : Why) (ps told : List ℕ) → why_number why ∷ ps ≡ said_at block at
      → (why_number why ∷ ps ≡ pick (leb (length block) at) (0 ∷ 0 ∷ []) (answer_of (tests_in at (drop at block)) told)) × (is_good (drop at block) ≡ false)
  unfolding said_at is_good
  refused_there why ps told e =
      let rest = drop at block in
      refused_by_tests (leb (length block) at) (is_cut (length_in rest) (length rest)) (is_unknown (tag_in rest)) (is_wrong (tag_in rest) (length_in rest)) at
      (why_number why) ps (told_of at (tag_in rest)) told (no_number why) e

  -- the parts of a good field
  module _ {tag : ℕ} (g : GoodAt block at tag) where
    parts : Good (drop at block)
    parts = good_parts (drop at block) g.good

    -- it is whole
    room : at + 3 + length_in (drop at block) ≤ length block
    room = omega (arith, parts.whole, length-drop at block, g.before)

    says-good : (st : Station) (card : ℕ) → field_says st card block at ≡ 0 ∷ tag_in (drop at block) ∷ answer_among st card (call_in (drop at block))
    unfolding field_says
    says-good st card =
        let rest = drop at block in
        rw (lt-leb (length block) at g.before, le-ltb (length rest) (3 + length_in rest) parts.whole, parts.known, parts.right)

    calls-good : calls_at block at ≡ call_in (drop at block)
    calls-good = calls_where block at g.good

    right : is_wrong tag (length_in (drop at block)) ≡ false
    right = ap (λ (k : ℕ). is_wrong k (length_in (drop at block))) (sym g.its_tag) ∙ parts.right

  not_not : (b : Bool) → not b ≡ false → b ≡ true
  not_not true e = refl
  not_not false e = sym e

  -- an offer has sixteen bytes, and a reset one
  sixteen : GoodAt block at 1 → length_in (drop at block) ≡ 16
  sixteen g = eqb-true (length_in (drop at block)) 16 (not_not (eqb (length_in (drop at block)) 16) (right g))

  one_byte : GoodAt block at 2 → length_in (drop at block) ≡ 1
  one_byte g = eqb-true (length_in (drop at block)) 1 (not_not (eqb (length_in (drop at block)) 1) (right g))

-- ---- what the field leads to
-- no call is made: the station, what is told, and the place after
abbrev pub Left : Station → Told → ℕ → Taken → Type 0
Left st told after r = (r.station ≡ st) × ((r.told ≡ told) × (r.after ≡ after))

no_calls : (st : Station) (card : ℕ) (calls : List Call) → calls ≡ [] → st ≡ after_calls st card calls
unfolding after_calls
no_calls st card calls e = sym (ap (after_calls st card) e)

one_call : (st : Station) (card : ℕ) (call : Call) (calls : List Call) → calls ≡ call ∷ [] → after_call st card call ≡ after_calls st card calls
unfolding after_calls
one_call st card call calls e = sym (ap (after_calls st card) e)

none_empty : is_good [] ≡ false
unfolding is_good
none_empty = refl

-- an offer's answer and station, as the code reads its bytes
pub makes_offer : (st : Station) (card : ℕ) (body : List ℕ) {c epoch after : ℕ} {s : List ℕ} (r : Stepped) → c ≡ channel_in body → epoch ≡ epoch_in body
    → s ≡ symbols_in body → OffersTo st card c epoch s r
    → Makes st card (offer_of body) after (record { station = r.station; told = Offers r.answer; after = after })
unfolding answer_in after_call
makes_offer st card body {c} {epoch} {after} {s} r p q w o =
    let e : Offer c epoch s ≡ offer_of body =
    ap (λ (k : ℕ). Offer k epoch s) p ∙ ap (λ (k : ℕ). Offer (channel_in body) k s) q ∙ ap (Offer (channel_in body) (epoch_in body)) w in
    record {
      answer = ap (λ (l : List ℕ). 0 ∷ 1 ∷ l) o.answer ∙ ap (λ (x : Call). 0 ∷ 1 ∷ answer_in st card x) e;
      station = o.station ∙ ap (after_call st card) e;
      next = refl;
    }

-- a field's number, which is 0 at the end of the block and else its tag, and the calls that it makes
pub record Leads (block : List ℕ) (at told : ℕ) (made : List Call) : Type 0 where
  pub says : (st : Station) (card : ℕ) → field_says st card block at ≡ 0 ∷ told ∷ answer_among st card made
  pub calls : calls_at block at ≡ made

module _ {block : List ℕ} {at after : ℕ} {f : Field} (found : Finds block at f after) where
  leads_good : {tag : ℕ} {made : List Call} → GoodAt block at tag → call_in (drop at block) ≡ made → Leads block at tag made
  leads_good g n =
      record {
        says = λ st card. says-good block at g st card ∙ ap₂ (λ (k : ℕ) (cs : List Call). 0 ∷ k ∷ answer_among st card cs) g.its_tag n;
        calls = calls-good block at g ∙ n;
      }

  module _ (body : ℕ) where
    -- an offer: its sixteen bytes are there
    module _ (e : f ≡ OfferAt body) where
      offer-there : GoodAt block at 1 × (body ∷ [] ≡ (at + 3) ∷ [])
      offer-there = good_there block at 0 (body ∷ []) (ap field_paper (sym e) ∙ found.answer)

      pub offer_place : body ≡ at + 3
      offer_place = ap (λ (l : List ℕ). get_or l 0 0) offer-there.1

      pub offer_room : body + 16 ≤ length block
      offer_room = omega (arith, offer_place, room block at offer-there.0, sixteen block at offer-there.0)

      offer-body : take (body + 16 - body) (drop body block) ≡ body_in (drop at block)
      offer-body =
          let n : body + 16 - body ≡ length_in (drop at block) = omega (arith, sixteen block at offer-there.0) in
          ap₂ (λ (k j : ℕ). take k (drop j block)) n offer_place ∙ ap (take (length_in (drop at block))) (sym (drop-drop 3 at block))

      pub leads_offer : Leads block at 1 (offer_of (take (body + 16 - body) (drop body block)) ∷ [])
      unfolding call_in
      leads_offer =
          let g = offer-there.0 in
          let n : call_in (drop at block) ≡ offer_of (body_in (drop at block)) ∷ [] = rw g.its_tag in
          leads_good g (n ∙ ap (λ (l : List ℕ). offer_of l ∷ []) (sym offer-body))

    -- a reset: its byte is there
    module _ (e : f ≡ ResetAt body) where
      reset-there : GoodAt block at 2 × (body ∷ [] ≡ (at + 3) ∷ [])
      reset-there = good_there block at 1 (body ∷ []) (ap field_paper (sym e) ∙ found.answer)

      reset-place : body ≡ at + 3
      reset-place = ap (λ (l : List ℕ). get_or l 0 0) reset-there.1

      pub reset_room : body < length block
      reset_room = omega (arith, reset-place, room block at reset-there.0, one_byte block at reset-there.0)

      reset-byte : get_or block body 0 ≡ channel_in (body_in (drop at block))
      reset-byte =
          let n : 0 < length_in (drop at block) = omega (arith, one_byte block at reset-there.0) in
          let k : at + 3 + 0 ≡ at + 3 = omega arith in
          ap (λ (j : ℕ). get_or block j 0) (reset-place ∙ sym k) ∙ sym (get_or-drop (at + 3) block 0 0)
          ∙ ap (λ (l : List ℕ). get_or l 0 0) (sym (drop-drop 3 at block))
          ∙ sym (get_or-take (length_in (drop at block)) (drop 3 (drop at block)) 0 0 n)

      pub leads_reset : Leads block at 2 (Reset (get_or block body 0) ∷ [])
      unfolding call_in
      leads_reset =
          let g = reset-there.0 in
          let n : call_in (drop at block) ≡ Reset (channel_in (body_in (drop at block))) ∷ [] = rw g.its_tag in
          leads_good g (n ∙ ap (λ (c : ℕ). Reset c ∷ []) (sym reset-byte))

  -- no call: the end, a remark, and a field that is refused
  pub leads_end : f ≡ End → Leads block at 0 []
  unfolding field_says
  leads_end e =
      let h = end_there block at (ap field_paper (sym e) ∙ found.answer) in
      record {
        says = λ st card. rw (le-leb (length block) at h);
        calls = none_where block at (ap is_good (drop_of_length-le block h) ∙ none_empty);
      }

  pub leads_remark : f ≡ Remark → Leads block at 3 []
  unfolding call_in
  leads_remark e =
      let g = (good_there block at 2 [] (ap field_paper (sym e) ∙ found.answer)).0 in
      leads_good g (rw g.its_tag)

  module _ (why : Why) (place : ℕ) (e : f ≡ Refused why place) where
    pub says_refused : (st : Station) (card : ℕ) → field_says st card block at ≡ why_number why ∷ place ∷ []
    unfolding field_says
    says_refused st card =
        let told = tag_in (drop at block) ∷ answer_among st card (call_in (drop at block)) in
        sym (refused_there block at why (place ∷ []) told (ap field_paper (sym e) ∙ found.answer)).0

    pub none_refused_lem : calls_at block at ≡ []
    none_refused_lem = none_where block at (refused_there block at why (place ∷ []) [] (ap field_paper (sym e) ∙ found.answer)).1

  -- so a field is taken
  module _ {st : Station} {card : ℕ} {r : Taken} where
    takes-call : {call : Call} → Leads block at (tag_of call) (call ∷ []) → Makes st card call after r → Takes st card block at r
    takes-call {call} l m =
        record {
          answer = m.answer ∙ sym (l.says st card);
          station = m.station ∙ one_call st card call (calls_at block at) l.calls;
          next = m.next ∙ found.next;
        }

    takes_none : {told : Told} → calls_at block at ≡ [] → told_paper told ≡ field_says st card block at → Left st told after r → Takes st card block at r
    takes_none n e l =
        record { answer = ap told_paper l.1.0 ∙ e; station = l.0 ∙ no_calls st card (calls_at block at) n; next = l.1.1 ∙ found.next }

    pub takes_offer : (body : ℕ) → f ≡ OfferAt body → Makes st card (offer_of (take (body + 16 - body) (drop body block))) after r → Takes st card block at r
    takes_offer body e = takes-call (leads_offer body e)

    pub takes_reset : (body : ℕ) → f ≡ ResetAt body → Makes st card (Reset (get_or block body 0)) after r → Takes st card block at r
    takes_reset body e = takes-call (leads_reset body e)

    pub takes_end : f ≡ End → Left st Ends after r → Takes st card block at r
    takes_end e = let l = leads_end e in takes_none l.calls (sym (l.says st card))

    pub takes_remark : f ≡ Remark → Left st Remarks after r → Takes st card block at r
    takes_remark e = let l = leads_remark e in takes_none l.calls (sym (l.says st card))

    pub takes_refused : (why : Why) (place : ℕ) → f ≡ Refused why place → Left st (Refuses why place) after r → Takes st card block at r
    takes_refused why place e = takes_none (none_refused_lem why place e) (sym (says_refused why place e st card))
