-- One string offered in relative form: where it is the next of its frame it is taken, clean.
-- Assumes nothing.
use mathlib.Core.Path.{◌≡◌, refl, sym, ap, ap₂, subst, ◌∙◌}
use mathlib.Core.Bool.{Bool, true, false, ◌&&◌}
use mathlib.Core.List.{[], ◌∷◌}
use mathlib.Core.Logic.{⊎_elim}
use Prim.Native.Nat.{ℕ, suc, ◌+◌, ◌-◌, ◌≤◌, ◌<◌}
use native.Mathlib.Omega.{arith}
use borrow.Author.Tests.{eq-eqb, ne_eqb, lt-ltb, le-ltb, eqb-true, eqb-false}
use lib.Arith.{lt_of_le-ne}
use lib.Dec.{eqb, ltb}
use Rattle.strings.specs.Pick.{pick}
use Rattle.strings.specs.Number.{number_of, misshapen}
use Rattle.strings.specs.declared.Verdict.TheVariants.{Clean}
use Rattle.strings.specs.Hamming.{ruling, is_damaged, mended}
use Rattle.strings.specs.Numbers.{first_of, place_of, said_by}
use Rattle.strings.specs.Calls.{is_idle}
use Rattle.strings.proofs.Digits.{high_bit}
use Rattle.strings.proofs.Value.{string_number_lem}
use Rattle.strings.proofs.Shape.{string_shaped}
use Rattle.strings.proofs.Flips.{encoded_ruling}
use Rattle.strings.proofs.Judge.{mended_by_lem}
use Rattle.strings.proofs.SoundTests.{IsSound}
use Rattle.relative.specs.Relative.{write_relative}
use Rattle.relative.specs.Polarity.{first_symbol}
use Rattle.relative.proofs.RelativeCode.{written_lt, first_written}
use Rattle.hearing.specs.Hears.{plain_of, whole_of}
use Rattle.hearing.proofs.Hearing.{heard_then}
use Rattle.words.specs.Calls.{number_in}
use Rattle.channel.specs.Frame.{Frame, empty_frame, with_string, start_of, is_here, place_tests, frame_for, after_string, news_at}
use Rattle.channel.specs.Offers.{news_number, offer_tests, told_to}
use Rattle.channel.specs.History.{frame_after, said_to}
use Rattle.sky.specs.Line.{relative_bytes}
use Rattle.sky.proofs.Strings.{plain_back}
use Rattle.heard.specs.Heard.{Sendable, Ready, HasFirst}

-- ---- what the relative form brings
module _ (n m : ℕ) (s : Sendable n m) where
  brings_shape : misshapen (relative_bytes n) ≡ false
  unfolding relative_bytes
  brings_shape = string_shaped (write_relative n) (written_lt n)

  pub brings_plain : plain_of (relative_bytes n) ≡ n
  brings_plain = plain_back n s.small

  stays : mended n ≡ n
  stays = mended_by_lem n Clean (encoded_ruling n s.encoded)

  pub brings_whole : whole_of (relative_bytes n) ≡ n
  brings_whole = ap mended brings_plain ∙ stays

  not_idle : is_idle n ≡ false
  not_idle = ap (λ (b : ℕ). eqb b 1) (high_bit n 85 84 s.small (omega arith))

  -- it is upright, since its first symbol is bit 85
  pub brings_upright : first_symbol (number_of (relative_bytes n)) ≡ 0
  unfolding relative_bytes
  brings_upright = ap first_symbol (string_number_lem (write_relative n) (written_lt n)) ∙ first_written n s.small

  sounds : IsSound (plain_of (relative_bytes n))
  sounds =
      record {
        sound = ap (λ (x : ℕ). is_damaged (ruling x)) brings_plain ∙ ap is_damaged (encoded_ruling n s.encoded);
        idle = ap is_idle brings_whole ∙ not_idle;
      }

  -- SHAPE, DAMAGED and IDLE do not fit
  tests_left : (f : Frame) (epoch : ℕ) → first_of (offer_tests f epoch (relative_bytes n)) ≡ first_of (place_tests f epoch n)
  tests_left f epoch =
      (heard_then (relative_bytes n) (place_tests f epoch (whole_of (relative_bytes n))) brings_shape sounds).0
      ∙ ap (λ (x : ℕ). first_of (place_tests f epoch x)) brings_whole

-- ---- the next string of a frame
-- what is held lets string k+1 of a frame that starts at e come next, and the frame that it joins has the first k
pub record Opens (string : ℕ → ℕ) (e k n : ℕ) (f : Frame) : Type 0 where
  pub clear : first_of (place_tests f (e + k) n) ≡ 0
  pub new : is_here f (e + k) n ≡ false
  pub base : HasFirst string e k (frame_for f e)

le_but : {m k : ℕ} → (m ≡ suc k → ⊥) → m ≤ suc k → m ≤ k
le_but {m} {k} d u = let l : m < suc k = lt_of_le-ne u d in omega arith

empty_first : (string : ℕ → ℕ) (e : ℕ) → HasFirst string e 0 (empty_frame e)
empty_first string e = record { start = refl; has = λ m l u. absurd (omega arith); text = λ m l u. absurd (omega arith); rest = λ m l. refl }

module _ (string : ℕ → ℕ) (f : Frame) (e k n : ℕ) (s : Sendable n (suc k)) where
  starts : start_of (e + k) n ≡ e
  starts = rw s.number (omega arith)

  on_time : ltb (e + k) (number_in n - 1) ≡ false
  on_time = le-ltb (e + k) (number_in n - 1) (omega (arith, s.number))

  numbered : eqb (number_in n) 0 ≡ false
  numbered = ne_eqb (number_in n) 0 (λ q. omega (arith, s.number))

  -- the first string of a frame: one that starts 15 or more before is held, or none
  opens_after : f.start + 15 ≤ e → k ≡ 0 → f.held ≡ true → Opens string e k n f
  opens_after l z h =
      let other : eqb e f.start ≡ false = ne_eqb e f.start (λ q. omega arith) in
      record {
        clear = rw (starts, on_time, numbered, s.number, h, le-ltb e f.start (omega arith), lt-ltb f.start e (omega arith), le-ltb e (f.start + 15) (omega arith), other);
        new = rw (starts, h, other);
        base = rw (h, other, z) (empty_first string e);
      }

  opens_none : k ≡ 0 → f.held ≡ false → Opens string e k n f
  opens_none z h = record { clear = rw (on_time, numbered, h); new = rw h; base = rw (h, z) (empty_first string e) }

  pub opens_first : k ≡ 0 → Ready f e → Opens string e k n f
  opens_first z r = ⊎_elim (opens_none z) (λ (l : f.start + 15 ≤ e). by l f.held refl) r
    where
      by : f.start + 15 ≤ e → (b : Bool) → f.held ≡ b → Opens string e k n f
      by l true h = opens_after l z h
      by l false h = opens_none z h

  -- a later one: the frame is held
  pub opens_next : f.held ≡ true → HasFirst string e k f → Opens string e k n f
  opens_next h i =
      let own : eqb e f.start ≡ true = eq-eqb e f.start (sym i.start) in
      let free : f.has (suc k) ≡ false = i.rest (suc k) (omega arith) in
      record {
        clear = rw (starts, on_time, numbered, s.number, h, le-ltb e f.start (omega (arith, i.start)), le-ltb f.start e (omega (arith, i.start)), own, free);
        new = rw (starts, s.number, h, own, free);
        base = subst (HasFirst string e k) (sym (ap₂ (λ (a b : Bool). pick (a && b) f (empty_frame e)) h own)) i;
      }

  -- so it is taken
  module _ (o : Opens string e k n f) where
    abbrev next : Frame
    next = with_string (frame_for f e) n

    taken : first_of (offer_tests f (e + k) (relative_bytes n)) ≡ 0
    taken = tests_left n (suc k) s f (e + k) ∙ o.clear

    pub opens_frame : frame_after f (e + k) (relative_bytes n) ≡ next
    opens_frame = ap (λ (b : Bool). pick b (after_string f (e + k) (whole_of (relative_bytes n))) f) (eq-eqb _ 0 taken) ∙ ap (after_string f (e + k)) (brings_whole n (suc k) s)
        ∙ rw (o.new, starts)

    pub opens_said : said_to f (e + k) (relative_bytes n) ≡ 0 ∷ suc k ∷ 0 ∷ 0 ∷ news_number (news_at next (suc k)) ∷ 0 ∷ []
    opens_said =
        ap (λ (x : ℕ). said_by x (place_of (offer_tests f (e + k) (relative_bytes n))) (told_to f (e + k) (relative_bytes n))) taken
        ∙ rw (brings_upright n (suc k) s, brings_plain n (suc k) s, stays n (suc k) s, encoded_ruling n s.encoded, o.new, starts, s.number)

    pub opens_has : n ≡ string (suc k) → HasFirst string e (suc k) next
    opens_has q =
        record {
          start = o.base.start;
          has = λ m l u. by-has m (eqb m (suc k)) refl l u;
          text = λ m l u. by-text m (eqb m (suc k)) refl l u;
          rest = λ m l. rw (s.number, ne_eqb m (suc k) (λ q. omega arith)) (o.base.rest m (omega arith));
        }
      where
        by-has : (m : ℕ) (b : Bool) → eqb m (suc k) ≡ b → 1 ≤ m → m ≤ suc k → next.has m ≡ true
        by-has m true w l u = rw (s.number, w)
        by-has m false w l u = let d = eqb-false m (suc k) w in rw (s.number, w) (o.base.has m l (le_but d u))

        by-text : (m : ℕ) (b : Bool) → eqb m (suc k) ≡ b → 1 ≤ m → m ≤ suc k → next.text m ≡ string m
        by-text m true w l u = rw (s.number, w) (q ∙ ap string (sym (eqb-true m (suc k) w)))
        by-text m false w l u = let d = eqb-false m (suc k) w in rw (s.number, w) (o.base.text m l (le_but d u))
