-- Four strings are in range exactly where the hour, the minute and tb are (good-exactly). Assumes nothing.
use mathlib.Core.Path.{◌≡◌, sym, ap₂, ◌∙◌}
use mathlib.Core.Bool.{Bool, true, ◌&&◌}
use mathlib.Core.List.{List}
use Prim.Native.Nat.{ℕ}
use native.Mathlib.Omega.{arith}
use borrow.Author.Tests.{le-leb, leb-true, lt-ltb, ltb-true}
use lib.Dec.{leb, ltb, lit≤}
use Rattle.strings.specs.Number.{word_of}
use Rattle.records.specs.declared.kinds.Kind.TheVariants.{One, Two}
use Rattle.words.specs.Immediate.{string_at}
use Rattle.strings.proofs.Below.{both}
use Rattle.words.proofs.Good.{good_is}
use Rattle.immediate.specs.Kept.{are_good}
use Rattle.immediate.specs.Ranges.{InRange, GoodExactly}
use Rattle.immediate.proofs.Good.{four_good_lem}

module _ (s : List ℕ) where
  abbrev hour : ℕ
  hour = word_of (string_at s 0) 76 72

  abbrev minute : ℕ
  minute = word_of (string_at s 0) 71 66

  abbrev tb : ℕ
  tb = word_of (string_at s 1) 76 70

  tests : are_good s ≡ ((ltb hour 24 && ltb minute 60) && (leb 1 tb && leb tb 95))
  tests =
      four_good_lem (string_at s 0) (string_at s 1) (string_at s 2) (string_at s 3)
      ∙ ap₂ (λ (a b : Bool). a && b) (good_is One (string_at s 0) (lit≤ tt)) (good_is Two (string_at s 1) (lit≤ tt))

  fits : are_good s ≡ true → InRange s
  fits e =
      let p = both (ltb hour 24 && ltb minute 60) (leb 1 tb && leb tb 95) (sym tests ∙ e) in
      let q = both (ltb hour 24) (ltb minute 60) p.0 in
      let r = both (leb 1 tb) (leb tb 95) p.1 in
      record {
        hour = omega (arith, ltb-true hour 24 q.0);
        minute = omega (arith, ltb-true minute 60 q.1);
        tb_least = leb-true 1 tb r.0;
        tb_most = leb-true tb 95 r.1;
      }

  good : InRange s → are_good s ≡ true
  good r =
      tests
      ∙ rw (
        lt-ltb hour 24 (omega (arith, r.hour)),
        lt-ltb minute 60 (omega (arith, r.minute)),
        le-leb 1 tb r.tb_least,
        le-leb tb 95 r.tb_most,
      )

-- FOUR STRINGS ARE A RECORD EXACTLY WHERE HOUR, MINUTE AND tb ARE IN RANGE
pub good_exactly : GoodExactly
good_exactly s = (fits s, good s)
