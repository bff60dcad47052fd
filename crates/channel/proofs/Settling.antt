-- An offer, test by test: what it leaves where some test fits and where none does; what a fate and what is heard come to; and the row of it all.
-- Assumes nothing.
use mathlib.Core.Path.{◌≡◌, refl, sym, ap, ap₂, subst, ◌∙◌}
use mathlib.Core.Bool.{Bool, true, false, true≢false}
use mathlib.Core.List.{List, [], ◌∷◌, ◌++◌}
use Prim.Native.Nat.{ℕ, zero, suc, ◌≤◌}
use native.Mathlib.Omega.{arith}
use borrow.Author.Tests.{ne_eqb, eqb-true, eqb-false}
use lib.Arith.{lt_of_le-ne}
use lib.Dec.{eqb}
use lib.ListN.{length, get_or, drop}
use Rattle.strings.specs.Pick.{pick}
use Rattle.std.specs.Prelude.{Result, Ok, Err}
use Rattle.strings.specs.declared.Refusal.{Refusal}
use Rattle.strings.specs.declared.Verdict.{Verdict}
use Rattle.strings.specs.Number.{number_of, misshapen}
use Rattle.strings.specs.Hamming.{ruling}
use Rattle.strings.specs.Numbers.{refusal_paper, Test, first_of, place_of, said_by, answer_of}
use Rattle.strings.specs.Calls.{checked_paper, verdict_told}
use Rattle.words.specs.Calls.{number_in}
use Rattle.strings.proofs.Below.{both}
use Rattle.channel.specs.declared.Fate.{Fate}
use Rattle.channel.specs.declared.Fate.TheVariants.{Held as Here, New}
use Rattle.channel.specs.declared.News.{News}
use Rattle.channel.specs.declared.News.TheVariants.{AlreadyHeld}
use Rattle.channel.specs.declared.Row.{Row}
use Rattle.channel.specs.declared.Offered.{Offered}
use Rattle.tallies.specs.Tallies.{Outcome}
use Rattle.tallies.specs.Tallies.Outcome.{Refused as REFUSED, Taken as TAKEN}
use Rattle.channel.specs.Frame.{Frame, with_string, start_of, is_of_frame, is_here, frame_for, place_tests, news_at, news_of}
use Rattle.immediate.specs.Kept.{record_by}
use Rattle.channel.specs.Row.{holds_frame, Held, held, frame_in, held_of, frame_of, new_frame, bytes_by, held_for, stored, held_with, holding, is_built, counted}
use Rattle.hearing.specs.Hears.{plain_of, whole_of, hear_tests, Hears, verdict_in}
use Rattle.channel.specs.Offers.{placed_paper, answer_paper, told_with, is_placed, told_as, Settles, Places, StoresIn, fate_paper, fate_told, FateBy, offer_tests, OffersApart, taken_row, Offers, outcome_of, tells_record}
use Rattle.channel.proofs.Frames.{held_for_lem}
use Rattle.channel.proofs.HeldFrame.{first_said}
use Rattle.strings.proofs.Answer.{not_taken}
use Rattle.strings.proofs.Shape.{shaped}
use Rattle.strings.proofs.Tests.{past_first}
use Rattle.strings.proofs.SoundTests.{IsSound}
use Rattle.relative.specs.Polarity.{polarity_of}
use Rattle.relative.proofs.RelativeCode.{polarity_told}
use Rattle.channel.proofs.Answers.{told_with_lem, counts_by, tells_by}
use Rattle.hearing.proofs.Hearing.{none_fits_lem, heard_then, heard_number, heard_shape, heard_verdict}

-- ---- test by test
-- a refusal by some tests is one by these and others after them: nothing changes
module _ {told : List ℕ} {h taken : Held} (q : Refusal) (before : List ℕ) where
  first_fits : (k : ℕ) (p : List ℕ) (b : Bool) (ts us : List Test) → (refusal_paper q ≡ answer_of ts before → Settles us told h taken (Err q) h)
      → refusal_paper q ≡ said_by (pick b k (first_of ts)) (pick b p (place_of ts)) before
      → Settles (record { number = k; place = p; fits = b } ∷ us) told h taken (Err q) h
  first_fits zero p true ts us ih e = absurd (not_taken q before e)
  first_fits (suc k) p true ts us ih e = record { answer = e; left = rw (ne_eqb (suc k) 0 (λ z. omega arith)) }
  first_fits k p false ts us ih e = let t = ih e in record { answer = t.answer; left = t.left }

  pub refuses : (ts us : List Test) → refusal_paper q ≡ answer_of ts before → Settles (ts ++ us) told h taken (Err q) h
  refuses [] us e = absurd (not_taken q before e)
  refuses (t ∷ ts) us e = first_fits t.number t.place t.fits ts (ts ++ us) (refuses ts us) e

-- a string that is heard: the tests of its place decide
settles_heard : {told : List ℕ} {h taken : Held} {a : Result (ℕ × Verdict × News) Refusal} {h' : Held} {ts : List Test} (s : List ℕ) → misshapen s ≡ false → IsSound (plain_of s)
    → Settles ts told h taken a h' → Settles (hear_tests s ++ ts) told h taken a h'
settles_heard {ts} s e i k = let p = heard_then s ts e i in record { answer = rw (p.0, p.1) k.answer; left = rw p.0 k.left }

-- no test fits
takes : {told : List ℕ} {h taken : Held} {a : Result (ℕ × Verdict × News) Refusal} {h' : Held} (ts : List Test) → first_of ts ≡ 0 → placed_paper a ≡ 0 ∷ told → h' ≡ taken
    → Settles ts told h taken a h'
takes {told} {h} {taken} ts z e f =
    record { answer = e ∙ ap (λ (k : ℕ). said_by k (place_of ts) told) (sym z); left = f ∙ ap (λ (k : ℕ). pick (eqb k 0) taken h) (sym z) }

-- ---- what a fate comes to
-- already held: no test fits, and the string is here
fated_here : (k : ℕ) (place told : List ℕ) (t : Bool) → 0 ∷ 0 ∷ [] ≡ said_by k place (pick t (0 ∷ []) (1 ∷ told)) → (k ≡ 0) × (t ≡ true)
fated_here zero place told true e = (refl, refl)
fated_here zero place told false e = let q : ◌≡◌ {A = ℕ} 0 1 = ap (λ (l : List ℕ). get_or l 1 0) e in absurd (omega arith)
fated_here (suc k) place told t e = let q : ◌≡◌ {A = ℕ} 0 (suc k) = ap (λ (l : List ℕ). get_or l 0 0) e in absurd (omega arith)

-- new: no test fits, the string is not here, and the frame it joins
fated_new : (k : ℕ) (place : List ℕ) (a b c d : ℕ) (t : Bool) → 0 ∷ 1 ∷ a ∷ b ∷ [] ≡ said_by k place (pick t (0 ∷ []) (1 ∷ c ∷ d ∷ []))
    → ((k ≡ 0) × (t ≡ false)) × ((a ≡ c) × (b ≡ d))
fated_new zero place a b c d true e = let q : ◌≡◌ {A = ℕ} 1 0 = ap (λ (l : List ℕ). get_or l 1 0) e in absurd (omega arith)
fated_new zero place a b c d false e = ((refl, refl), (ap (λ (l : List ℕ). get_or l 2 0) e, ap (λ (l : List ℕ). get_or l 3 0) e))
fated_new (suc k) place a b c d t e = let q : ◌≡◌ {A = ℕ} 0 (suc k) = ap (λ (l : List ℕ). get_or l 0 0) e in absurd (omega arith)

-- the frame that a new string joins: the held one, or a new one
joined_held : (h : Held) (start : ℕ) → is_of_frame (frame_in h) start ≡ true → held start h.mask (bytes_by h.mask h.bytes) ≡ h
joined_held h start e =
    let p = both (holds_frame h.mask) (eqb start h.start) e in
    rw p.0 (ap (λ (x : ℕ). held x h.mask h.bytes) (eqb-true start h.start p.1))

joined_new : (h : Held) (start : ℕ) → held start 0 (bytes_by 0 h.bytes) ≡ new_frame start
unfolding new_frame holds_frame
joined_new h start = refl

joined : (h : Held) (start : ℕ) (t : Bool) → is_of_frame (frame_in h) start ≡ t
    → held start (pick t h.mask 0) (bytes_by (pick t h.mask 0) h.bytes) ≡ pick t h (new_frame start)
joined h start true e = joined_held h start e
joined h start false e = joined_new h start

module _ (h : Held) (epoch n : ℕ) (v : Verdict) (r : Result Fate Refusal) (f : FateBy (place_tests (frame_in h) epoch n) h epoch n r) where
  abbrev tests : List Test
  tests = place_tests (frame_in h) epoch n

  pub placed_not : (q : Refusal) → r ≡ Err q → Places h epoch n v (Err q) h
  placed_not q e = refuses q (fate_told h epoch n) tests [] (ap fate_paper (sym e) ∙ f)

  pub placed_here : r ≡ Ok Here → Places h epoch n v (Ok (number_in n, v, AlreadyHeld)) h
  unfolding held_with
  placed_here e =
      let p = fated_here (first_of tests) (place_of tests) _ (is_here (frame_in h) epoch n) (ap fate_paper (sym e) ∙ f) in
      takes tests p.0
      (ap (λ (t : Bool). 0 ∷ told_as (number_in n) v (pick t AlreadyHeld (news_at (with_string (frame_for (frame_in h) (start_of epoch n)) n) (number_in n)))) (sym p.1))
      (ap (λ (t : Bool). pick t h (stored (held_for h (start_of epoch n)) n)) (sym p.1))

  module _ (start mask : ℕ) (e : r ≡ Ok (New start mask)) where
    facts : ((first_of tests ≡ 0) × (is_here (frame_in h) epoch n ≡ false))
        × ((start ≡ start_of epoch n) × (mask ≡ pick (is_of_frame (frame_in h) (start_of epoch n)) h.mask 0))
    facts = fated_new (first_of tests) (place_of tests) start mask _ _ (is_here (frame_in h) epoch n) (ap fate_paper (sym e) ∙ f)

    -- a string that is taken has a number
    pub new_numbered : 1 ≤ number_in n
    new_numbered =
        let z = eqb-false (number_in n) 0 (past_first 4 (eqb (number_in n) 0) (drop 1 tests) facts.0.0).0 in
        lt_of_le-ne (omega arith) (λ q. z (sym q))

    -- it is stored in the frame that it joins
    pub placed_new : (a : Result (ℕ × Verdict × News) Refusal) (h' : Held) → StoresIn (held start mask (bytes_by mask h.bytes)) n v a h' → Places h epoch n v a h'
    unfolding held_with
    placed_new a h' s =
        let o = start_of epoch n in
        let i : held start mask (bytes_by mask h.bytes) ≡ held_for h o =
        ap₂ (λ (x y : ℕ). held x y (bytes_by y h.bytes)) facts.1.0 facts.1.1 ∙ joined h o (is_of_frame (frame_in h) o) refl
        in
        let k = subst (λ (x : Held). StoresIn x n v a h') i s in
        takes tests facts.0.0
        (ap placed_paper k.answer
        ∙ ap (λ (x : Frame). 0 ∷ told_as (number_in n) v (news_at (with_string x n) (number_in n))) (held_for_lem h o)
        ∙ ap (λ (t : Bool). 0 ∷ told_as (number_in n) v (pick t AlreadyHeld (news_at (with_string (frame_for (frame_in h) o) n) (number_in n)))) (sym facts.0.1))
        (k.left ∙ ap (λ (t : Bool). pick t h (stored (held_for h o) n)) (sym facts.0.1))

-- ---- what is heard comes to
module _ (h : Held) (epoch : ℕ) (s out out' : List ℕ) (c : Result Verdict Refusal) (a : Hears s out c out') where
  pub heard_no : (q : Refusal) → c ≡ Err q → OffersApart h epoch s (Err q) h
  unfolding Hears
  heard_no q e =
      refuses q (verdict_told (ruling (plain_of s))) (hear_tests s) (place_tests (frame_in h) epoch (whole_of s)) (ap checked_paper (sym e) ∙ a.answer)

  pub heard_shaped : (v : Verdict) → c ≡ Ok v → misshapen out' ≡ false
  heard_shaped v e = heard_shape s out out' v (subst (λ (y : Result Verdict Refusal). Hears s out y out') e a)

  pub heard_on_lem : (v : Verdict) → c ≡ Ok v → (x : Result (ℕ × Verdict × News) Refusal) (h' : Held) → Places h epoch (number_of out') v x h' → OffersApart h epoch s x h'
  heard_on_lem v e x h' p =
      let b : Hears s out (Ok v) out' = subst (λ (y : Result Verdict Refusal). Hears s out y out') e a in
      let n = none_fits_lem s out out' v b in
      settles_heard s n.0 n.1
      (subst (λ (w : Verdict). Places h epoch (whole_of s) w x h') (heard_verdict s out out' v b)
      (subst (λ (k : ℕ). Places h epoch k v x h') (heard_number s out out' v b) p))

-- what is taken has eleven bytes
pub placed_whole : (h : Held) (epoch : ℕ) (s : List ℕ) (a : Result (ℕ × Verdict × News) Refusal) (h' : Held) → OffersApart h epoch s a h' → is_placed a ≡ true → length s ≡ 11
placed_whole h epoch s (Ok (m, v, w)) h' o e =
    let ts = offer_tests (frame_in h) epoch s in
    let z : ◌≡◌ {A = ℕ} 0 (first_of ts) = ap (λ (l : List ℕ). get_or l 0 0) o.answer ∙ first_said ts _ in
    (shaped s (past_first 1 (misshapen s) (drop 1 ts) (sym z)).0).0
placed_whole h epoch s (Err q) h' o e = absurd (true≢false (sym e))

-- ---- the row of it all: what is held, the record and the tallies by the answer
abbrev pub row_by : Row → Held → Bool → Outcome → Row
row_by row h built o = counted o (holding row h (record_by built h.start h.bytes row.immediate))

module _ (row : Row) (epoch : ℕ) (s : List ℕ) where
  abbrev the_tests : List Test
  the_tests = offer_tests (frame_of row) epoch s

  abbrev the_news : News
  the_news = news_of (frame_of row) epoch (whole_of s)

  row_by_lem : (k : ℕ) (t : Bool) → row_by row (pick t (held_with (held_of row) epoch (whole_of s)) (held_of row)) (pick t (is_built the_news) false) (pick t (TAKEN (verdict_in s)) (REFUSED k))
      ≡ counted (pick t (TAKEN (verdict_in s)) (REFUSED k)) (pick t (taken_row row epoch (whole_of s)) row)
  unfolding taken_row counted
  row_by_lem k true = refl
  row_by_lem k false = refl

  pub offers_by : (h' : Held) (said : Result (ℕ × Verdict × News) Refusal) (r : Offered) → OffersApart (held_of row) epoch s said h' → r.answer ≡ told_with said (polarity_of (number_of s))
      → r.row ≡ row_by row h' (tells_record said) (outcome_of r.answer) → Offers row epoch s r
  unfolding Offers
  offers_by h' said r a t e =
      let k = first_of the_tests in
      let place = place_of the_tests in
      let m = number_in (whole_of s) in
      let p = polarity_of (number_of s) in
      let says = ap answer_paper t ∙ told_with_lem said p k place _ a.answer in
      record {
        answer = says ∙ ap (λ (b : ℕ). said_by k place (told_as m (verdict_in s) the_news ++ (b ∷ []))) (polarity_told (number_of s));
        left =
            e ∙ ap₂ (λ (x : Bool) (y : Outcome). row_by row h' x y) (tells_by place m (verdict_in s) the_news said k a.answer) (counts_by place m (verdict_in s) the_news p r.answer k says)
            ∙ ap (λ (x : Held). row_by row x (pick (eqb k 0) (is_built the_news) false) (pick (eqb k 0) (TAKEN (verdict_in s)) (REFUSED k))) a.left
            ∙ row_by_lem k (eqb k 0);
      }
