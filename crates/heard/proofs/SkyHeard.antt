-- THE THEOREM: a fresh station that hears the 75 strings made of a sky's words holds these words (the statement stands in `specs/SkyHeard.antt`).
-- Assumes nothing.
use mathlib.Core.Path.{◌≡◌, refl, sym, ap, ap₂, subst, ◌∙◌}
use mathlib.Core.Bool.{Bool, true, false}
use mathlib.Core.List.{List, [], ◌∷◌, map}
use Prim.Native.Nat.{ℕ, zero, suc, ◌+◌, ◌≤◌, ◌<◌}
use native.Mathlib.Omega.{arith}
use lib.ListN.{get_or}
use Rattle.strings.specs.Pick.{pick}
use Rattle.records.specs.declared.kinds.Kind.TheVariants.{One, Two, Three, Four}
use Rattle.records.specs.declared.named.String1.{String1}
use Rattle.records.specs.declared.named.String2.{String2}
use Rattle.records.specs.declared.named.String3.{String3}
use Rattle.records.specs.declared.named.String4.{String4}
use Rattle.records.specs.declared.named.Record.TheVariants.{One as One', Two as Two', Three as Three', Four as Four'}
use Rattle.records.specs.Records.{list_of, string1_of, string2_of, string3_of, string4_of}
use Rattle.layout.specs.Layout.{layout}
use Rattle.words.specs.Values.{values_of}
use Rattle.words.specs.Immediate.{string_at, immediate_of}
use Rattle.book.specs.Entry.{Three as Entry3, meaning, even_words, odd_words}
use Rattle.book.specs.Book.{in_slot}
use Rattle.book.proofs.Order.{meaning_entry}
use Rattle.immediate.specs.declared.Immediate.{Immediate}
use Rattle.immediate.specs.Kept.{kept_four, has_record, record_in}
use Rattle.channel.specs.History.{Call as OnChannel, Offer as OfferIt}
use Rattle.station.specs.declared.Station.{Station}
use Rattle.station.specs.Station.{is_served, OffersTo}
use Rattle.station.specs.Queries.{kept_at}
use Rattle.station.specs.History.{Call, Runs}
use Rattle.superframe.specs.declared.Sky.{Sky}
use Rattle.superframe.specs.Sky.{sky_string}
use Rattle.superframe.specs.Refused.{Makes}
use Rattle.sky.specs.Line.{sky_lines, heard_in}
use Rattle.sky.proofs.Laws.{line_laws, make_laws}
use Rattle.sky.specs.Line.{relative_bytes}
use Rattle.heard.specs.Heard.{offers, in_frame, entry_in, on_channel, sky_calls, SkyHeld}
use Rattle.heard.specs.SkyHeard.{line_calls, sky_day, SkyLeaves, SkyHeard, EverySky, EverySkyInCode}
use Rattle.heard.proofs.Days.{one_day_lem}
use Rattle.heard.proofs.Sky.{sky_held, sky_taken}
use Rattle.heard.proofs.FromWords.{first_is, second_is, third_is, fourth_is, sky_strings, day_out, even_out, odd_out, has_values}

-- ---- a reader gets the strings, so they are the calls
offers_same : (f g : ℕ → List ℕ) (e n : ℕ) → ((i : ℕ) → i < n → f (suc i) ≡ g (suc i)) → offers f e n [] ≡ offers g e n []
unfolding offers
offers_same f g e zero h = refl
offers_same f g e (suc n) h =
    ap₂ (λ (s : List ℕ) (cs : List OnChannel). OfferIt (e + n) s ∷ cs) (h n (omega arith)) (offers_same f g e n (λ i l. h i (omega arith)))

line_calls_lem : (sky : Sky) (card c e n : ℕ) → n ≤ 75 → line_calls (sky_lines sky) card c e n ≡ sky_calls (sky_string sky) card c e n
line_calls_lem sky card c e n l =
    ap (map (on_channel card c)) (offers_same (heard_in (sky_lines sky)) (λ i. relative_bytes (sky_string sky i)) e n (λ i h. (line_laws sky).heard i (omega arith)))

-- ---- the four strings of a record, and their words
record_there : (i : Immediate) (a b c d : ℕ) → record_in i ≡ a ∷ b ∷ c ∷ d ∷ [] → (has_record i ≡ true) × (kept_four i ≡ a ∷ b ∷ c ∷ d ∷ [])
unfolding record_in
record_there i a b c d = by (has_record i) refl
  where
    by : (t : Bool) → has_record i ≡ t → pick t (kept_four i) [] ≡ a ∷ b ∷ c ∷ d ∷ [] → (has_record i ≡ true) × (kept_four i ≡ a ∷ b ∷ c ∷ d ∷ [])
    by true q e = (q, e)
    by false q e = let z : ◌≡◌ {A = ℕ} 0 1 = cc in absurd (omega arith)

again1 : (r : String1) → string1_of (list_of (One' r)) ≡ r
unfolding list_of
again1 r = refl

again2 : (r : String2) → string2_of (list_of (Two' r)) ≡ r
unfolding list_of
again2 r = refl

again3 : (r : String3) → string3_of (list_of (Three' r)) ≡ r
unfolding list_of
again3 r = refl

again4 : (r : String4) → string4_of (list_of (Four' r)) ≡ r
unfolding list_of
again4 r = refl

module _ (sky : Sky) (ok : Makes sky) where
  -- the words of the strings 1 to 4 of frame 5
  words_are : (s : List ℕ) → string_at s 0 ≡ in_frame (sky_string sky) 4 1 → string_at s 1 ≡ in_frame (sky_string sky) 4 2 → string_at s 2 ≡ in_frame (sky_string sky) 4 3
      → string_at s 3 ≡ in_frame (sky_string sky) 4 4 → immediate_of s ≡ sky.words
  unfolding immediate_of
  words_are s a b c d =
      let v1 = ap (λ (n : ℕ). string1_of (values_of n (layout One))) a ∙ ap string1_of (has_values sky ok 4 1 (One' sky.words.one) (omega arith) (omega arith) (omega arith) (first_is sky 4)) ∙ again1 sky.words.one in
      let v2 = ap (λ (n : ℕ). string2_of (values_of n (layout Two))) b ∙ ap string2_of (has_values sky ok 4 2 (Two' sky.words.two) (omega arith) (omega arith) (omega arith) (second_is sky 4)) ∙ again2 sky.words.two in
      let v3 = ap (λ (n : ℕ). string3_of (values_of n (layout Three))) c ∙ ap string3_of (has_values sky ok 4 3 (Three' sky.words.three) (omega arith) (omega arith) (omega arith) (third_is sky 4)) ∙ again3 sky.words.three in
      let v4 = ap (λ (n : ℕ). string4_of (values_of n (layout Four))) d ∙ ap string4_of (has_values sky ok 4 4 (Four' sky.words.four) (omega arith) (omega arith) (omega arith) (fourth_is sky 4)) ∙ again4 sky.words.four in
      ap₂ (λ (x : String1) (y : String2). record { one = x; two = y; three = string3_of (values_of (string_at s 2) (layout Three)); four = string4_of (values_of (string_at s 3) (layout Four)) }) v1 v2
      ∙ ap₂ (λ (x : String3) (y : String4). record { one = sky.words.one; two = sky.words.two; three = x; four = y }) v3 v4

  module _ (card c e : ℕ) (served : is_served card c ≡ true) where
    module _ (st : Station) (run : Runs (sky_calls (sky_string sky) card c e 75) st) where
      held : SkyHeld (sky_string sky) c e st
      held = sky_held (sky_string sky) (sky_strings sky ok) card c e served st run

      slot-means : (k : ℕ) → 1 ≤ k → k ≤ 24 → meaning (in_slot st.book k) ≡ entry_in (sky_string sky) k
      slot-means k a b = ap meaning (held.entry k a b) ∙ meaning_entry (entry_in (sky_string sky) k)

      day-is : (k : ℕ) → 1 ≤ k → k ≤ 24 → (in_slot st.book k).day ≡ sky_day sky
      day-is k a b = ap (λ (t : Entry3). t.day) (slot-means k a b) ∙ day_out sky ok k a b

      leaves : SkyLeaves sky c e st
      leaves =
          let w = record_there (kept_at st c) _ _ _ _ held.kept in
          record {
            slots = held.slots;
            day = day-is;
            even = λ k a b. ap even_words (slot-means k a b) ∙ even_out sky ok k a b;
            odd = λ k a b. ap odd_words (slot-means k a b) ∙ odd_out sky ok k a b;
            filled = held.filled;
            summary = one_day_lem (sky_calls (sky_string sky) card c e 75) st run (sky_day sky)
                ((λ z. held.filled 1 (omega arith) (omega arith) (day-is 1 (omega arith) (omega arith) ∙ z)), day-is);
            has_record_lem = w.0;
            words = words_are (kept_at st c).strings (ap (λ (l : List ℕ). get_or l 0 0) w.1) (ap (λ (l : List ℕ). get_or l 1 0) w.1)
                (ap (λ (l : List ℕ). get_or l 2 0) w.1) (ap (λ (l : List ℕ). get_or l 3 0) w.1);
            start = held.kept_start;
            others = held.others;
          }

    heard : SkyHeard sky (sky_lines sky) card c e
    heard =
        record {
          taken = λ i l st run r o. sky_taken (sky_string sky) (sky_strings sky ok) card c e served i l st
              (subst (λ (cs : List Call). Runs cs st) (line_calls_lem sky card c e i (omega arith)) run) r
              (subst (λ (s : List ℕ). OffersTo st card c (e + i) s r) ((line_laws sky).heard i l) o);
          leaves = λ st run. leaves st (subst (λ (cs : List Call). Runs cs st) (line_calls_lem sky card c e 75 (omega arith)) run);
        }

-- WHAT GOES IN COMES OUT
pub sky_heard : EverySky
sky_heard sky out out' made card c e served =
    let m = (make_laws sky out).made out' made in
    subst (λ (x : List ℕ). SkyHeard sky x card c e) (sym m.1) (heard sky m.0 card c e served)

pub sky_heard_in_code : EverySkyInCode
sky_heard_in_code sky out out' made card c e served within = sky_heard sky out out' made card c e served
