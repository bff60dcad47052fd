-- A string offered as it is and with all its symbols inverted (either_way): the same row, and answers that differ in the polarity alone. An offer looks at
-- its bytes by their shape, by the plain string that they are read as, and by their first symbol.
-- Assumes nothing.
use mathlib.Core.Path.{◌≡◌, refl, sym, ap, ◌∙◌}
use mathlib.Core.List.{List, [], ◌∷◌, ◌++◌}
use Prim.Native.Nat.{ℕ, zero, suc, ◌^◌, ◌<◌}
use native.Mathlib.Omega.{arith}
use lib.ListN.{get_or}
use Rattle.strings.specs.declared.Verdict.{Verdict}
use Rattle.strings.specs.declared.Refusal.{Refusal}
use Rattle.channel.specs.declared.TakenString.{TakenString}
use Rattle.std.specs.Prelude.{Result, Err, Ok}
use Rattle.strings.specs.Number.{number_of, misshapen, bytes_of_string}
use Rattle.strings.specs.Numbers.{first_of, place_of, said_by, answer_of}
use Rattle.strings.proofs.Value.{string_number_lem}
use Rattle.strings.proofs.Shape.{string_shaped}
use Rattle.words.specs.Calls.{number_in}
use Rattle.relative.specs.declared.Polarity.{Polarity}
use Rattle.relative.specs.Relative.{read_relative, inverse}
use Rattle.relative.specs.Polarity.{polarity_of, polarity_number, turned}
use Rattle.relative.proofs.RelativeCode.{inverse_lt, inverse_alike, polarity_told, polarity_turned}
use Rattle.hearing.specs.Hears.{plain_of, whole_of, verdict_in}
use Rattle.channel.specs.declared.News.{News}
use Rattle.channel.specs.declared.Row.{Row}
use Rattle.channel.specs.declared.Offered.{Offered}
use Rattle.channel.specs.Frame.{Frame, news_of}
use Rattle.channel.specs.Row.{frame_of}
use Rattle.channel.specs.Offers.{told_as, answer_paper, offer_tests, told_to, offered_row, Offers, took}
use Rattle.channel.specs.Laws.{other_way, EitherWay}
use Rattle.channel.proofs.Answers.{answer_same}
use Rattle.channel.proofs.HeldFrame.{offered_is, said_by_lem}

-- ---- two byte strings that are told apart by their polarity alone
pub record Turned (s t : List ℕ) : Type 0 where
  pub shape : misshapen t ≡ misshapen s
  pub plain : plain_of t ≡ plain_of s
  pub polarity : polarity_of (number_of t) ≡ turned (polarity_of (number_of s))

-- a string and its inverse are
pub inverse_turned : (x : ℕ) → x < 2 ^ 85 → Turned (bytes_of_string x) (bytes_of_string (inverse x))
inverse_turned x h =
    let y = inverse x in
    let g = inverse_lt x h in
    record {
      shape = string_shaped y g ∙ sym (string_shaped x h);
      plain = ap read_relative (string_number_lem y g) ∙ inverse_alike x h ∙ ap read_relative (sym (string_number_lem x h));
      polarity = ap polarity_of (string_number_lem y g) ∙ polarity_turned x ∙ ap (λ (z : ℕ). turned (polarity_of z)) (sym (string_number_lem x h));
    }

-- ---- the answers
-- by the first test that fits: the same refusal, or taken with the other polarity
pub other_way_lem : (k : ℕ) (place : List ℕ) (m : ℕ) (v : Verdict) (w : News) (p q : Polarity) (a b : Result TakenString Refusal) → q ≡ turned p
    → answer_paper a ≡ said_by k place (told_as m v w ++ (polarity_number p ∷ [])) → answer_paper b ≡ said_by k place (told_as m v w ++ (polarity_number q ∷ []))
    → b ≡ other_way a
other_way_lem zero place m v w p q a b t e f =
    answer_same b (took m v w q) f ∙ ap (took m v w) t ∙ sym (ap other_way (answer_same a (took m v w p) e))
other_way_lem (suc k) place m v w p q (Ok said) b t e f = let n : ◌≡◌ {A = ℕ} 0 (suc k) = ap (λ (l : List ℕ). get_or l 0 0) e in absurd (omega arith)
other_way_lem (suc k) place m v w p q (Err why) b t e f = answer_same b (Err why) (f ∙ sym e)

-- what is told, with the number of the polarity in the place of the first symbol
pub polarity_in : (f : Frame) (epoch : ℕ) (s : List ℕ)
    → told_to f epoch s ≡ told_as (number_in (whole_of s)) (verdict_in s) (news_of f epoch (whole_of s)) ++ (polarity_number (polarity_of (number_of s)) ∷ [])
polarity_in f epoch s =
    ap (λ (b : ℕ). told_as (number_in (whole_of s)) (verdict_in s) (news_of f epoch (whole_of s)) ++ (b ∷ [])) (sym (polarity_told (number_of s)))

module _ (s t : List ℕ) (e : Turned s t) where
  -- the tests and the row do not see it
  pub row_turned : (row : Row) (epoch : ℕ) → offered_row row epoch t ≡ offered_row row epoch s
  row_turned row epoch = rw (e.shape, e.plain) refl

  module _ (row : Row) (epoch : ℕ) (r q : Offered) (o : Offers row epoch s r) (p : Offers row epoch t q) where
    answer-turned : q.answer ≡ other_way r.answer
    answer-turned =
        let f = frame_of row in
        let ts = offer_tests f epoch s in
        let m = number_in (whole_of s) in
        let w = news_of f epoch (whole_of s) in
        other_way_lem (first_of ts) (place_of ts) m (verdict_in s) w (polarity_of (number_of s)) (polarity_of (number_of t)) r.answer q.answer e.polarity
        (said_by_lem row epoch s r o ∙ ap (answer_of ts) (polarity_in f epoch s))
        (rw (e.shape, e.plain) at (said_by_lem row epoch t q p ∙ ap (answer_of (offer_tests f epoch t)) (polarity_in f epoch t)))

    pub turned_way : EitherWay r q
    turned_way = record { answer = answer-turned; left = offered_is row epoch t q p ∙ row_turned row epoch ∙ sym (offered_is row epoch s r o) }

-- OFFERED UPRIGHT OR INVERTED
pub either_way : (row : Row) (epoch x : ℕ) (r q : Offered) → x < 2 ^ 85 → Offers row epoch (bytes_of_string x) r → Offers row epoch (bytes_of_string (inverse x)) q
    → EitherWay r q
either_way row epoch x r q h o p = turned_way (bytes_of_string x) (bytes_of_string (inverse x)) (inverse_turned x h) row epoch r q o p
