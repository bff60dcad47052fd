-- The immediate record of a row is the history's (record_is): strings 1..4 of the latest held frame since the reset that had them present and in
-- range, and the start that it keeps is that frame's (start_is). There is one exactly if some moment since the reset left such a frame (record-exactly).
-- Assumes nothing.
use mathlib.Core.Path.{◌≡◌, refl, sym, ap, ap₂, ◌∙◌}
use mathlib.Core.Bool.{Bool, true, false, ◌&&◌, false≢true}
use mathlib.Core.List.{List, [], ◌∷◌}
use mathlib.Core.Logic.{◌↔◌}
use Prim.Native.Nat.{ℕ, ◌+◌, ◌-◌, ◌*◌, ◌^◌, ◌≤◌, ◌<◌}
use native.Mathlib.Omega.{arith}
use borrow.Author.Tests.{ne_eqb, leb-false, eqb-true}
use lib.Dec.{eqb, leb, lit<}
use lib.ListN.{length, take, drop}
use lib.Seq.{take-add, drop_at, take-take, length-take-le, length-sets}
use Rattle.strings.specs.Pick.{pick}
use Rattle.strings.specs.Number.{number_of, word_of, bytes_of_string}
use Rattle.strings.specs.Numbers.{first_of}
use Rattle.words.specs.Calls.{number_in}
use Rattle.layout.specs.Layout.{layout}
use Rattle.words.specs.Values.{values_of, first_bad}
use Rattle.words.specs.Immediate.{string_at}
use Rattle.words.specs.Good.{is_good}
use Rattle.strings.proofs.Below.{both}
use Rattle.channel.specs.declared.News.TheVariants.{AlreadyHeld, Kept, RecordBuilt, RecordOutOfRange}
use Rattle.channel.specs.declared.Row.{Row}
use Rattle.immediate.specs.declared.Immediate.{Immediate}
use Rattle.immediate.specs.Kept.{four_good, kept_four, has_record, record_in, built_from, record_by}
use Rattle.channel.specs.Frame.{Frame, empty_frame, with_string, start_of, is_of_frame, is_here, frame_for, is_complete, is_readable, news_at}
use Rattle.channel.specs.Row.{is_present, Held, frame_in, held_of, frame_of, empty_row, held_for, stored, held_with, is_built, counted}
use Rattle.hearing.specs.Hears.{whole_of}
use Rattle.channel.specs.Offers.{taken_row, offer_tests, offered_row}
use Rattle.channel.specs.History.{Call, Offer, Reset, held_after, makes_record, four_of, of_latest, record_after, record_start, LeftSince, latest, before, SomeMoment, Runs, fresh, offering, resetting}
use Rattle.channel.proofs.Frames.{stored_frame, held_for_lem}
use Rattle.hearing.proofs.Hearing.{whole_lt}
use Rattle.channel.proofs.HeldFrame.{taken_numbered, for_long, offered_is, runs_long, held_is, frame_after_lem}

-- ---- four strings kept
-- the first four strings are those of the first 44 bytes
string_of_four : (l : List ℕ) (j : ℕ) → length l ≡ 165 → j < 4 → string_at (take 44 l) j ≡ string_at l j
string_of_four l j long h =
    let k = 11 * j in
    let e : k + (44 - k) ≡ 44 = omega arith in
    let t : length (take k l) ≡ k = length-take-le k l (omega arith) in
    ap number_of
    (ap (λ (i : ℕ). take 11 (drop k (take i l))) (sym e) ∙ ap (λ (x : List ℕ). take 11 (drop k x)) (take-add k (44 - k) l)
    ∙ ap (take 11) (drop_at (take k l) (take (44 - k) (drop k l)) k t) ∙ take-take 11 (44 - k) (drop k l) (omega arith))

-- the texts of four strings that are present are the strings held
module _ (h : Held) (long : length h.bytes ≡ 165) (c : is_complete (frame_in h) ≡ true) where
  has_one : is_present h.mask 1 ≡ true
  has_one = (both (is_present h.mask 1) _ c).0

  has_two : is_present h.mask 2 ≡ true
  has_two = (both (is_present h.mask 2) _ (both (is_present h.mask 1) _ c).1).0

  has_rest : (is_present h.mask 3 && is_present h.mask 4) ≡ true
  has_rest = (both (is_present h.mask 2) _ (both (is_present h.mask 1) _ c).1).1

  text_is : (j : ℕ) → j < 4 → is_present h.mask (j + 1) ≡ true → string_at (take 44 h.bytes) j ≡ (frame_in h).text (j + 1)
  text_is j l p =
      let e : j + 1 - 1 ≡ j = omega arith in
      string_of_four h.bytes j long l ∙ rw p (ap (string_at h.bytes) (sym e))

  -- a record built is the frame's four strings, and is held where they are in range
  built_four : kept_four (built_from h.start h.bytes) ≡ four_of (frame_in h)
  built_four =
      let three = both (is_present h.mask 3) (is_present h.mask 4) has_rest in
      ap₂ (λ (x y : ℕ). x ∷ y ∷ string_at (take 44 h.bytes) 2 ∷ string_at (take 44 h.bytes) 3 ∷ []) (text_is 0 (lit< tt) has_one) (text_is 1 (lit< tt) has_two)
      ∙ ap₂ (λ (x y : ℕ). (frame_in h).text 1 ∷ (frame_in h).text 2 ∷ x ∷ y ∷ []) (text_is 2 (lit< tt) three.0) (text_is 3 (lit< tt) three.1)

  built_held : has_record (built_from h.start h.bytes) ≡ is_readable (frame_in h)
  unfolding has_record
  built_held =
      let three = both (is_present h.mask 3) (is_present h.mask 4) has_rest in
      ap₂ (λ (x y : ℕ). four_good x y (string_at (take 44 h.bytes) 2) (string_at (take 44 h.bytes) 3)) (text_is 0 (lit< tt) has_one) (text_is 1 (lit< tt) has_two)
      ∙ ap₂ (λ (x y : ℕ). four_good ((frame_in h).text 1) ((frame_in h).text 2) x y) (text_is 2 (lit< tt) three.0) (text_is 3 (lit< tt) three.1)

  built : is_readable (frame_in h) ≡ true → record_in (built_from h.start h.bytes) ≡ four_of (frame_in h)
  unfolding record_in
  built r = rw (built_held ∙ r) built_four

-- ---- a string above 4 leaves strings 1..4 as they were
module _ (g : Frame) (n : ℕ) (above : leb (number_in n) 4 ≡ false) where
  not_it : (k : ℕ) → k ≤ 4 → eqb k (number_in n) ≡ false
  not_it k h = let a : 4 < number_in n = leb-false (number_in n) 4 above in ne_eqb k (number_in n) (λ e. omega arith)

  pub later_makes : makes_record (with_string g n) ≡ makes_record g
  later_makes = rw (not_it 1 (omega arith), not_it 2 (omega arith), not_it 3 (omega arith), not_it 4 (omega arith))

  later_four : four_of (with_string g n) ≡ four_of g
  later_four = rw (not_it 1 (omega arith), not_it 2 (omega arith), not_it 3 (omega arith), not_it 4 (omega arith))

-- a history whose frame now makes a record has that frame's
pub record_now : {X : Type 0} (none : X) (of : Frame → X) (cs : List Call) → makes_record (held_after cs) ≡ true → of_latest none of cs ≡ of (held_after cs)
unfolding of_latest held_after
record_now none of [] e = absurd (false≢true e)
record_now none of (Offer epoch s ∷ cs) e = rw e
record_now none of (Reset ∷ cs) e = absurd (false≢true e)

-- ---- something of a kept record and of a frame: a record that is built shows its frame's, and a string above 4 leaves the frame's as it was
module _ (X : Type 0) (none : X) (shown : Immediate → X) (of : Frame → X) (empty : shown empty_row.immediate ≡ none)
    (built-shows : (h : Held) → length h.bytes ≡ 165 → is_complete (frame_in h) ≡ true → is_readable (frame_in h) ≡ true → shown (built_from h.start h.bytes) ≡ of (frame_in h))
    (Later-same : (g : Frame) (n : ℕ) → leb (number_in n) 4 ≡ false → of (with_string g n) ≡ of g) where
  -- ---- one offer, to a row whose record is up to date
  abbrev UpToDate : Row → Type 0
  UpToDate row = makes_record (frame_of row) ≡ true → shown row.immediate ≡ of (frame_of row)

  -- what the record ought to show then
  abbrev next_shown : Row → Frame → X
  next_shown row f = pick (makes_record f) (of f) (shown row.immediate)

  -- where the frame stays, so does the record
  same_record : (row : Row) → UpToDate row → shown row.immediate ≡ next_shown row (frame_of row)
  same_record row u = by (makes_record (frame_of row)) refl
    where
      by : (t : Bool) → makes_record (frame_of row) ≡ t → shown row.immediate ≡ pick t (of (frame_of row)) (shown row.immediate)
      by true e = u e
      by false e = refl

  -- a string newly stored
  module _ (row : Row) (epoch n : ℕ) (long : length row.strings ≡ 165) (small : n < 2 ^ 85) (least : 1 ≤ number_in n) (u : UpToDate row) where
    -- the frame that it joins, and the frame with it
    abbrev joined : Frame
    joined = frame_for (frame_of row) (start_of epoch n)

    abbrev whole : Frame
    whole = with_string joined n

    -- what is held with it
    abbrev next : Held
    next = stored (held_for (held_of row) (start_of epoch n)) n

    next-frame : frame_in next ≡ whole
    next-frame =
        stored_frame (held_for (held_of row) (start_of epoch n)) n (for_long (held_of row) (start_of epoch n) long) small least
        ∙ ap (λ (f : Frame). with_string f n) (held_for_lem (held_of row) (start_of epoch n))

    next-long : length next.bytes ≡ 165
    unfolding stored
    next-long = length-sets (held_for (held_of row) (start_of epoch n)).bytes (11 * (number_in n - 1)) (bytes_of_string n) ∙ for_long (held_of row) (start_of epoch n) long

    -- where it is above 4 and the frame makes a record, it did so before
    before-it : leb (number_in n) 4 ≡ false → makes_record whole ≡ true → shown row.immediate ≡ of whole
    before-it a m = by (is_of_frame (frame_of row) (start_of epoch n)) (sym (later_makes joined n a) ∙ m) ∙ sym (Later-same joined n a)
      where
        by : (t : Bool) → makes_record (pick t (frame_of row) (empty_frame (start_of epoch n))) ≡ true
            → shown row.immediate ≡ of (pick t (frame_of row) (empty_frame (start_of epoch n)))
        by true e = u e
        by false e = absurd (false≢true e)

    new-record : shown (record_by (is_built (news_at whole (number_in n))) next.start next.bytes row.immediate) ≡ next_shown row whole
    new-record = by (leb (number_in n) 4) (is_complete whole) (is_readable whole) refl refl refl
      where
        by : (l c r : Bool) → leb (number_in n) 4 ≡ l → is_complete whole ≡ c → is_readable whole ≡ r
            → shown (record_by (is_built (pick (l && c) (pick r RecordBuilt RecordOutOfRange) Kept)) next.start next.bytes row.immediate)
            ≡ pick (c && r) (of whole) (shown row.immediate)
        by true true true a b c =
            built-shows next next-long (ap is_complete next-frame ∙ b) (ap is_readable next-frame ∙ c) ∙ ap of next-frame
        by true true false a b c = refl
        by true false r a b c = refl
        by false true true a b c = before-it a (ap₂ ◌&&◌ b c)
        by false true false a b c = refl
        by false false r a b c = refl

  -- any offer
  module _ (row : Row) (epoch : ℕ) (s : List ℕ) (long : length row.strings ≡ 165) (u : UpToDate row) where
    -- the frame with the string
    abbrev more : Frame
    more = with_string (frame_for (frame_of row) (start_of epoch (whole_of s))) (whole_of s)

    abbrev next-held : Bool → Held
    next-held t = pick t (held_of row) (stored (held_for (held_of row) (start_of epoch (whole_of s))) (whole_of s))

    taken-record : 1 ≤ number_in (whole_of s)
        → shown (taken_row row epoch (whole_of s)).immediate ≡ next_shown row (pick (is_here (frame_of row) epoch (whole_of s)) (frame_of row) more)
    unfolding taken_row held_with
    taken-record least = by (is_here (frame_of row) epoch (whole_of s))
      where
        by : (t : Bool)
            → shown (record_by (is_built (pick t AlreadyHeld (news_at more (number_in (whole_of s))))) (next-held t).start (next-held t).bytes row.immediate)
            ≡ next_shown row (pick t (frame_of row) more)
        by true = same_record row u
        by false = new-record row epoch (whole_of s) long (whole_lt s) least u

    record-after : shown (offered_row row epoch s).immediate ≡ next_shown row (frame_of (offered_row row epoch s))
    unfolding counted
    record-after = by (eqb (first_of (offer_tests (frame_of row) epoch s)) 0) refl ∙ ap (next_shown row) (sym (frame_after_lem row epoch s long))
      where
        by : (t : Bool) → eqb (first_of (offer_tests (frame_of row) epoch s)) 0 ≡ t
            → shown (pick t (taken_row row epoch (whole_of s)) row).immediate
            ≡ next_shown row (pick t (pick (is_here (frame_of row) epoch (whole_of s)) (frame_of row) more) (frame_of row))
        by true e = taken-record (taken_numbered (frame_of row) epoch s (eqb-true (first_of (offer_tests (frame_of row) epoch s)) 0 e))
        by false e = same_record row u

  -- ---- over a history
  latest_is : (cs : List Call) (row : Row) → Runs cs row → shown row.immediate ≡ of_latest none of cs
  unfolding of_latest
  latest_is cs row fresh = empty
  latest_is cs row (offering epoch s ds prior r run o) =
      let h = held_is ds prior run in
      let i = latest_is ds prior run in
      let u : UpToDate prior = (λ e. i ∙ record_now none of ds (ap makes_record (sym h) ∙ e) ∙ ap of (sym h)) in
      let f : frame_of (offered_row prior epoch s) ≡ held_after (Offer epoch s ∷ ds) =
      ap frame_of (sym (offered_is prior epoch s r o)) ∙ held_is (Offer epoch s ∷ ds) r.row (offering epoch s ds prior r run o)
      in
      ap (λ (x : Row). shown x.immediate) (offered_is prior epoch s r o) ∙ record-after prior epoch s (runs_long ds prior run) u
      ∙ ap₂ (λ (x : Frame) (l : X). pick (makes_record x) (of x) l) f i
  latest_is cs row (resetting ds prior run) = empty

-- a reset row has none, and starts at 0
no_record : record_in empty_row.immediate ≡ []
unfolding empty_row record_in has_record is_good layout values_of first_bad number_of word_of
no_record = refl

no_start : empty_row.immediate.start ≡ 0
unfolding empty_row
no_start = refl

-- THE ROW'S RECORD IS THE HISTORY'S
pub record_is : (cs : List Call) (row : Row) → Runs cs row → record_in row.immediate ≡ record_after cs
record_is = latest_is (List ℕ) [] record_in four_of no_record built later_four

-- AND SO IS ITS START
pub start_is : (cs : List Call) (row : Row) → Runs cs row → row.immediate.start ≡ record_start cs
start_is = latest_is ℕ 0 (λ (i : Immediate). i.start) (λ (f : Frame). f.start) no_start (λ h l c r. refl) (λ g n a. refl)

-- ---- when there is one
-- a list with an element is not empty
pub not_empty : (x : ℕ) (l : List ℕ) → x ∷ l ≡ [] → ⊥
not_empty x l e = let z : ◌≡◌ {A = ℕ} (length (x ∷ l)) 0 = ap length e in omega arith

moment_found : (cs : List Call) → (record_after cs ≡ [] → ⊥) → SomeMoment cs
unfolding of_latest
moment_found [] n = absurd (n refl)
moment_found (Offer epoch s ∷ cs) n = by (makes_record (held_after (Offer epoch s ∷ cs))) refl n (moment_found cs)
  where
    by : (t : Bool) → makes_record (held_after (Offer epoch s ∷ cs)) ≡ t → (pick t (four_of (held_after (Offer epoch s ∷ cs))) (record_after cs) ≡ [] → ⊥)
        → ((record_after cs ≡ [] → ⊥) → SomeMoment cs) → SomeMoment (Offer epoch s ∷ cs)
    by true e m ih = record { frame = held_after (Offer epoch s ∷ cs); left = latest epoch s cs; makes = e }
    by false e m ih = let i = ih m in record { frame = i.frame; left = before epoch s cs i.frame i.left; makes = i.makes }
moment_found (Reset ∷ cs) n = absurd (n refl)

moment_kept : (cs : List Call) (f : Frame) → LeftSince cs f → makes_record f ≡ true → record_after cs ≡ [] → ⊥
unfolding of_latest
moment_kept cs f (latest epoch s ds) e q = not_empty _ _ (rw e at q)
moment_kept cs f (before epoch s ds g l) e q = by (makes_record (held_after (Offer epoch s ∷ ds))) (λ z. moment_kept ds g l e z) q
  where
    by : (t : Bool) → (record_after ds ≡ [] → ⊥) → pick t (four_of (held_after (Offer epoch s ∷ ds))) (record_after ds) ≡ [] → ⊥
    by true ih z = not_empty _ _ z
    by false ih z = ih z

pub record_there : (i : Immediate) → (has_record i ≡ true) ↔ (record_in i ≡ [] → ⊥)
unfolding record_in
record_there i = by (has_record i)
  where
    by : (t : Bool) → (t ≡ true) ↔ (pick t (kept_four i) [] ≡ [] → ⊥)
    by true = ((λ e z. not_empty _ _ z), (λ n. refl))
    by false = ((λ e. absurd (false≢true e)), (λ n. absurd (n refl)))

-- A RECORD IS HELD EXACTLY IF SOME MOMENT SINCE THE RESET LEFT STRINGS 1..4 PRESENT AND IN RANGE
pub record_exactly : (cs : List Call) (row : Row) → Runs cs row → (has_record row.immediate ≡ true) ↔ SomeMoment cs
record_exactly cs row run =
    let e = record_is cs row run in
    let t = record_there row.immediate in (
      (λ h. moment_found cs (λ z. t.0 h (e ∙ z))),
      (λ (m : SomeMoment cs). t.1 (λ z. moment_kept cs m.frame m.left m.makes (sym e ∙ z))),
    )
