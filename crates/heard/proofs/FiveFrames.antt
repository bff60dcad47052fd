-- Five frames in order: each is heard whole, and what the 75 moments show is the entry of each slot.
-- Assumes nothing.
use mathlib.Core.Path.{◌≡◌, refl, sym, ap, ap₂, subst, ◌∙◌}
use mathlib.Core.Bool.{Bool, true, false, not, ◌&&◌, ◌||◌}
use mathlib.Core.List.{List, [], ◌∷◌}
use mathlib.Core.Logic.{inl, inr}
use Prim.Native.Nat.{ℕ, zero, suc, ◌+◌, ◌-◌, ◌*◌, ◌/◌, ◌%◌, ◌≤◌, ◌<◌}
use native.Mathlib.Omega.{arith}
use borrow.Author.Tests.{eq-eqb, eqb-true, eqb-false, le-leb, leb-true}
use lib.Arith.{lt_of_le-ne}
use lib.Dec.{eqb, leb}
use Rattle.strings.specs.Pick.{pick, is_one_of}
use Rattle.std.specs.Prelude.{Some, None}
use Rattle.book.specs.Entry.{Three, entry_of, meaning}
use Rattle.book.specs.Shows.{slot_in, shown_by}
use Rattle.book.proofs.Order.{meaning_entry}
use Rattle.book.proofs.Joins.{shown_parts}
use Rattle.channel.specs.History.{Call, Offer, held_after, said_to}
use Rattle.shows.specs.Shows.{frame_by, shown_at}
use Rattle.superframe.specs.Table41.{slot_of_pair, frame_of_slot, pair_of_slot}
use Rattle.superframe.proofs.Table41.{pair_cases, table_4_1}
use Rattle.station.specs.History.{Part, whole, earlier, pairs}
use Rattle.sky.specs.Line.{relative_bytes}
use Rattle.heard.specs.Heard.{Sendable, offers, in_order, OneFrame, Ready, HasFirst, FrameHeard, is_pair_of, shown_first, in_frame, entry_in, Superframe}
use Rattle.heard.proofs.OneFrame.{frame_heard}
use Rattle.heard.proofs.Showing.{first_shows, good_shows}

-- ---- strings in order, in two parts
pub in_two : (string : ℕ → ℕ) (e a k : ℕ) (before : List Call)
    → in_order string e (a + k) before ≡ in_order (λ m. string (a + m)) (e + a) k (in_order string e a before)
unfolding offers
in_two string e a zero before = let z : a + 0 ≡ a = omega arith in ap (λ (n : ℕ). in_order string e n before) z
in_two string e a (suc k) before =
    let z : a + suc k ≡ suc (a + k) = omega arith in
    let w : e + (a + k) ≡ e + a + k = omega arith in
    ap (λ (n : ℕ). in_order string e n before) z
    ∙ ap₂ (λ (x : ℕ) (rest : List Call). Offer x (relative_bytes (string (suc (a + k)))) ∷ rest) w (in_two string e a k before)
    ∙ ap (λ (n : ℕ). Offer (e + a + k) (relative_bytes (string n)) ∷ in_order (λ m. string (a + m)) (e + a) k (in_order string e a before)) (sym z)

-- the moments of such calls are the shorter ones
pub record Moment (string : ℕ → ℕ) (e n : ℕ) (part : List Call) : Type 0 where
  pub at : ℕ
  pub most : at ≤ n
  pub is : part ≡ in_order string e at []

pub moments : (string : ℕ → ℕ) (e n : ℕ) (part : List Call) → Part part (in_order string e n []) → Moment string e n part
unfolding offers
moments string e zero part (whole cs) = record { at = 0; most = omega arith; is = refl }
moments string e (suc n) part (whole cs) = record { at = suc n; most = omega arith; is = refl }
moments string e (suc n) part (earlier now p cs q) =
    let m = moments string e n part q in
    record { at = m.at; most = omega (arith, m.most); is = m.is }

pub part_of : (string : ℕ → ℕ) (e n i : ℕ) → i ≤ n → Part (in_order string e i []) (in_order string e n [])
unfolding offers
part_of string e zero i l = let z : i ≡ 0 = omega arith in subst (λ (j : ℕ). Part (in_order string e j []) []) (sym z) (whole [])
part_of string e (suc n) i l = by (eqb i (suc n)) refl (λ h. part_of string e n i h)
  where
    by : (t : Bool) → eqb i (suc n) ≡ t → (i ≤ n → Part (in_order string e i []) (in_order string e n [])) → Part (in_order string e i []) (in_order string e (suc n) [])
    by true q h = subst (λ (j : ℕ). Part (in_order string e j []) (in_order string e (suc n) [])) (sym (eqb-true i (suc n) q)) (whole (in_order string e (suc n) []))
    by false q h =
        earlier (Offer (e + n) (relative_bytes (string (suc n)))) (in_order string e i []) (in_order string e n [])
        (h (let l : i < suc n = lt_of_le-ne l (eqb-false i (suc n) q) in omega arith))

-- ---- each frame is heard
module _ (string : ℕ → ℕ) (sky : Superframe string) where
  one_frame : (g : ℕ) → g < 5 → OneFrame (in_frame string g)
  one_frame g l m a b =
      let q : (15 * g + m - 1) % 15 + 1 ≡ m = omega arith in
      subst (Sendable (string (15 * g + m))) q (sky.sent (15 * g + m) (omega arith) (omega arith))

  module _ (e : ℕ) (before : List Call) (ready : Ready (held_after before) e) where
    abbrev FrameAt : ℕ → Type 0
    FrameAt g = FrameHeard (in_frame string g) (e + 15 * g) (in_order string e (15 * g) before)

    -- the first k strings of frame g
    first_of_lem : (g : ℕ) → FrameAt g → (k : ℕ) → 1 ≤ k → k ≤ 15 → HasFirst (in_frame string g) (e + 15 * g) k (held_after (in_order string e (15 * g + k) before))
    first_of_lem g h k a b =
        subst (λ (cs : List Call). HasFirst (in_frame string g) (e + 15 * g) k (held_after cs)) (sym (in_two string e (15 * g) k before)) (h.first k a b)

    pub frames_heard : (g : ℕ) → g < 5 → FrameAt g
    unfolding offers
    frames_heard zero l = frame_heard (in_frame string 0) (e + 15 * 0) before (one_frame 0 l) (subst (Ready (held_after before)) (omega arith) ready)
    frames_heard (suc g) l =
        let h = (first_of_lem g (frames_heard g (omega arith)) 15 (omega arith) (omega arith)).start in
        let q : 15 * g + 15 ≡ 15 * suc g = omega arith in
        let s : (held_after (in_order string e (15 * suc g) before)).start ≡ e + 15 * g = ap (λ (n : ℕ). (held_after (in_order string e n before)).start) (sym q) ∙ h in
        frame_heard (in_frame string (suc g)) (e + 15 * suc g) (in_order string e (15 * suc g) before) (one_frame (suc g) l) (inr (omega arith))

    pub first_at : (g : ℕ) → g < 5 → (k : ℕ) → 1 ≤ k → k ≤ 15 → HasFirst (in_frame string g) (e + 15 * g) k (held_after (in_order string e (15 * g + k) before))
    first_at g l = first_of_lem g (frames_heard g l)

    pub held_at_lem : (g : ℕ) → g < 5 → (k : ℕ) → 1 ≤ k → k ≤ 15 → (held_after (in_order string e (15 * g + k) before)).held ≡ true
    held_at_lem g l k a b = ap (λ (cs : List Call). (held_after cs).held) (in_two string e (15 * g) k before) ∙ (frames_heard g l).held k a b

    -- what is said to string i+1
    pub said_at_lem : (i : ℕ) → i < 75
        → said_to (held_after (in_order string e i before)) (e + i) (relative_bytes (string (suc i))) ≡ 0 ∷ (i % 15 + 1) ∷ 0 ∷ 0 ∷ pick (eqb (i % 15 + 1) 4) 2 1 ∷ 0 ∷ []
    said_at_lem i l =
        let l' : i / 15 < 5 = omega arith in
        let z : 15 * (i / 15) + i % 15 ≡ i = omega arith in
        let a : e + (15 * (i / 15) + i % 15) ≡ e + 15 * (i / 15) + i % 15 = omega arith in
        let b : suc (15 * (i / 15) + i % 15) ≡ 15 * (i / 15) + suc (i % 15) = omega arith in
        let d : suc (i % 15) ≡ i % 15 + 1 = omega arith in
        let cs : List Call = in_order (in_frame string (i / 15)) (e + 15 * (i / 15)) (i % 15) (in_order string e (15 * (i / 15)) before) in
        ap (λ (n : ℕ). said_to (held_after (in_order string e n before)) (e + n) (relative_bytes (string (suc n)))) (sym z)
        ∙ ap (λ (x : List Call). said_to (held_after x) (e + (15 * (i / 15) + i % 15)) (relative_bytes (string (suc (15 * (i / 15) + i % 15))))) (in_two string e (15 * (i / 15)) (i % 15) before)
        ∙ ap₂ (λ (x n : ℕ). said_to (held_after cs) x (relative_bytes (string n))) a b
        ∙ (frames_heard (i / 15) l').said (i % 15) (omega arith)
        ∙ ap (λ (t : Bool). 0 ∷ suc (i % 15) ∷ 0 ∷ 0 ∷ pick (eqb (suc (i % 15)) 4) (pick t 2 3) 1 ∷ 0 ∷ []) (sky.four (i / 15) l')
        ∙ ap (λ (m : ℕ). 0 ∷ m ∷ 0 ∷ 0 ∷ pick (eqb m 4) 2 1 ∷ 0 ∷ []) d

  six_or_more : (p : ℕ) → is_one_of pairs p ≡ true → 6 ≤ p
  six_or_more = pair_cases (λ p. 6 ≤ p) (omega arith) (omega arith) (omega arith) (omega arith) (omega arith)

  -- string 6 of frame g has nA 5g+1, which tells its number
  number_of : (g : ℕ) → g < 5 → frame_by (5 * g + 1) ≡ g + 1
  unfolding frame_by
  number_of zero l = refl
  number_of (suc zero) l = refl
  number_of (suc (suc zero)) l = refl
  number_of (suc (suc (suc zero))) l = refl
  number_of (suc (suc (suc (suc zero)))) l = refl
  number_of (suc (suc (suc (suc (suc g))))) l = absurd (omega arith)

  number_is : (g : ℕ) → g < 5 → frame_by (slot_in (in_frame string g 6)) ≡ g + 1
  number_is g l =
      let a : frame_of_slot (5 * g + 1) ≡ g = omega arith in
      let b : pair_of_slot (5 * g + 1) ≡ 6 = omega arith in
      ap frame_by (sym (ap₂ (λ (i p : ℕ). slot_in (in_frame string i p)) a b) ∙ sky.slot (5 * g + 1) (omega arith) (omega arith)) ∙ number_of g l

  pair_is : (g : ℕ) → g < 5 → (p : ℕ) → is_pair_of (in_frame string g) p ≡ (not (eqb p 14) || leb (g + 1) 4)
  pair_is g l p = rw (number_is g l, le-leb 1 (g + 1) (omega arith))

  -- ---- what the strings of a slot show
  slot_shows : (k : ℕ) → 1 ≤ k → k ≤ 24
      → shown_by (in_frame string (frame_of_slot k) 5) (in_frame string (frame_of_slot k) (pair_of_slot k)) (in_frame string (frame_of_slot k) (pair_of_slot k + 1)) ≡ Some (k, entry_of (entry_in string k))
  slot_shows k a b =
      let l : frame_of_slot k < 5 = omega arith in
      good_shows (in_frame string (frame_of_slot k) 5) (in_frame string (frame_of_slot k) (pair_of_slot k)) (in_frame string (frame_of_slot k) (pair_of_slot k + 1))
      (sky.five (frame_of_slot k) l) (sky.stated (frame_of_slot k) l) (sky.even k a b) (sky.odd k a b)
      ∙ ap (λ (j : ℕ). Some (j, entry_of (entry_in string k))) (sky.slot k a b)

  pair_shows : (g : ℕ) → g < 5 → (p : ℕ) → is_one_of pairs p ≡ true → (p ≡ 14 → g < 4)
      → shown_by (in_frame string g 5) (in_frame string g p) (in_frame string g (p + 1)) ≡ Some (slot_of_pair g p, entry_of (entry_in string (slot_of_pair g p)))
  pair_shows g l p m h =
      let only = table_4_1.only g p (l, (m, h)) in
      let slot = table_4_1.slot g p (l, (m, h)) in
      ap₂ (λ (i q : ℕ). shown_by (in_frame string i 5) (in_frame string i q) (in_frame string i (q + 1))) (sym only.0) (sym only.1)
      ∙ slot_shows (slot_of_pair g p) slot.0 slot.1

  fifth : (g : ℕ) → g < 5 → (p : ℕ) → is_pair_of (in_frame string g) p ≡ true → p ≡ 14 → g < 4
  fifth g l p q z =
      let w : leb (g + 1) 4 ≡ true = ap (λ (b : Bool). not b || leb (g + 1) 4) (sym (eq-eqb p 14 z)) ∙ sym (pair_is g l p) ∙ q in
      omega (arith, leb-true (g + 1) 4 w)

  -- the frame that has the first k of frame g shows only entries of slots
  first_tells : (g : ℕ) → g < 5 → (j p k : ℕ) (u : Three) → is_one_of pairs p ≡ true → shown_first (in_frame string g) j p ≡ Some (k, entry_of u) → u ≡ entry_in string k
  first_tells g l j p k u m = by (leb (p + 1) j) (is_pair_of (in_frame string g) p) refl
    where
      by : (b c : Bool) → is_pair_of (in_frame string g) p ≡ c
          → pick (b && c) (shown_by (in_frame string g 5) (in_frame string g p) (in_frame string g (p + 1))) None ≡ Some (k, entry_of u) → u ≡ entry_in string k
      by true true q w =
          let a = sym (pair_shows g l p m (fifth g l p q)) ∙ w in
          let s = shown_parts a in
          sym (meaning_entry u) ∙ ap meaning (sym s.1) ∙ meaning_entry (entry_in string (slot_of_pair g p)) ∙ ap (entry_in string) s.0
      by true false q w = let z : ◌≡◌ {A = ℕ} 0 1 = cc in absurd (omega arith)
      by false c q w = let z : ◌≡◌ {A = ℕ} 0 1 = cc in absurd (omega arith)

  -- a slot's strings are a pair of their frame
  slot_pair : (k : ℕ) → 1 ≤ k → k ≤ 24 → is_pair_of (in_frame string (frame_of_slot k)) (pair_of_slot k) ≡ true
  slot_pair k a b = pair_is (frame_of_slot k) (omega arith) (pair_of_slot k) ∙ by (eqb (pair_of_slot k) 14) refl
    where
      by : (t : Bool) → eqb (pair_of_slot k) 14 ≡ t → (not t || leb (frame_of_slot k + 1) 4) ≡ true
      by true q = let z = eqb-true (pair_of_slot k) 14 q in le-leb (frame_of_slot k + 1) 4 (omega arith)
      by false q = refl

  -- ---- at the moments of a fresh channel
  module _ (e : ℕ) where
    pub fresh_ready : Ready (held_after []) e
    unfolding held_after
    fresh_ready = inl refl

    -- EVERY MOMENT SHOWS ONLY THE ENTRIES OF THE SKY
    pub shows_only : (n : ℕ) → n ≤ 75 → (p k : ℕ) (u : Three) → is_one_of pairs p ≡ true → shown_at (held_after (in_order string e n [])) p ≡ Some (k, entry_of u)
        → u ≡ entry_in string k
    unfolding offers held_after
    shows_only zero l p k u m q = let z : ◌≡◌ {A = ℕ} 0 1 = cc in absurd (omega arith)
    shows_only (suc i) l p k u m q =
        let z : 15 * (i / 15) + (i % 15 + 1) ≡ suc i = omega arith in
        let h = first_at e [] fresh_ready (i / 15) (omega arith) (i % 15 + 1) (omega arith) (omega arith) in
        first_tells (i / 15) (omega arith) (i % 15 + 1) p k u m
        (sym (first_shows (in_frame string (i / 15)) (e + 15 * (i / 15)) (i % 15 + 1) _ h p (six_or_more p m))
        ∙ ap (λ (x : ℕ). shown_at (held_after (in_order string e x [])) p) z ∙ q)

    -- AND EACH OF THEM IS SHOWN
    pub shows_each : (k : ℕ) → 1 ≤ k → k ≤ 24
        → shown_at (held_after (in_order string e (15 * frame_of_slot k + 15) [])) (pair_of_slot k) ≡ Some (k, entry_of (entry_in string k))
    shows_each k a b =
        let l : frame_of_slot k < 5 = omega arith in
        first_shows (in_frame string (frame_of_slot k)) (e + 15 * frame_of_slot k) 15 _ (first_at e [] fresh_ready (frame_of_slot k) l 15 (omega arith) (omega arith)) (pair_of_slot k) (omega arith)
        ∙ rw (le-leb (pair_of_slot k + 1) 15 (omega arith), slot_pair k a b) (slot_shows k a b)
