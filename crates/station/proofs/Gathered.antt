-- What the crates below prove of strings and words, gathered for the demands (the statements stand in `specs/Strings.antt` and `specs/Words.antt`).
-- Assumes nothing.
use mathlib.Core.Path.{◌≡◌, refl, sym, ◌∙◌}
use mathlib.Core.Bool.{Bool, true, false, true≢false}
use mathlib.Core.List.{List}
use mathlib.Core.Logic.{◌↔◌}
use Prim.Native.Nat.{ℕ, suc, ◌^◌, ◌<◌}
use native.Mathlib.Omega.{arith}
use lib.IntN.{ℤ}
use lib.ListN.{length}
use Rattle.strings.specs.Pick.{pick}
use Rattle.strings.specs.Number.{number_of}
use Rattle.strings.specs.Hamming.{Encoded, mended}
use Rattle.strings.proofs.Encode.{encode_encoded, encode_stays, encode_lt, encoded_once}
use Rattle.strings.proofs.CheckRule.{encoded_clean, idle_refused, bit_8_damaged, one_flip_repaired, one_flip_idle, two_flips_damaged, checked_again}
use Rattle.relative.proofs.RelativeCode.{written_then_read as sent-then-read, polarity_means, inverse_reads_alike}
use Rattle.records.specs.declared.kinds.Kind.{Kind}
use Rattle.records.specs.declared.kinds.Kind.TheVariants.{One, Two, Three, Four, Five, Even, Odd, Fourteen}
use Rattle.records.specs.Records.{kind_of, list_of}
use Rattle.layout.specs.Layout.{layout}
use Rattle.words.specs.Values.{values_of, first_bad}
use Rattle.words.specs.Tidied.{tidied}
use Rattle.layout.proofs.Rows.{layout_long}
use Rattle.words.proofs.Trip.{kind_values_long}
use Rattle.words.proofs.Names.{read_named, written_named}
use Rattle.words.proofs.RoundTrips.{written_then_read, written_clean, read_then_written, tidied_is, tidied_only}
use Rattle.words.specs.Ranges.{FirstOut, readable, may_fail}
use Rattle.words.proofs.Ranges.{none_bad_is, reading_fails, read_range, write_range}
use Rattle.station.specs.Strings.{Checking, CheckedAgain, Encoding, Relative}
use Rattle.station.specs.Words.{ByName, RoundTrips, FirstFails, legal, Ranges}

-- ---- strings
pub checking : (n : ℕ) → n < 2 ^ 85 → Encoded n → (out : List ℕ) → length out ≡ 11 → Checking n out
checking n h v out room =
    record {
      clean = λ b r out'. encoded_clean n h v out room r out' b;
      one_flip = λ i l u ne b r out'. one_flip_repaired n h v out room r out' i l u ne b;
      bit_8 = λ r out'. bit_8_damaged n h v out room r out';
      two_flips = λ i j l u k w ne r out'. two_flips_damaged n h v out room r out' i l u j k w ne;
      idle = λ b r out'. idle_refused n h v out room r out' b;
      one_flip_idle = λ i l u ne b r out'. one_flip_idle n h v out room r out' i l u ne b;
    }

pub again : CheckedAgain
again s out v out' b a room r left l c = checked_again s b out v out' a room r left l c

pub encoding : (n : ℕ) → n < 2 ^ 85 → Encoding n
encoding n h =
    record { encoded = encode_encoded n; small = encode_lt n h; data_stand = encode_stays n; only = λ k l e q. encoded_once n k h l e q }

pub relative : Relative
relative = record { written_read = sent-then-read; read_written = polarity_means; inverse_alike = inverse_reads_alike }

-- ---- words
pub by_name : ByName
by_name = record { read = read_named; written = written_named }

pub round_trips : RoundTrips
round_trips =
    record {
      written_read = λ m w out out' a. written_then_read m w out out' a;
      written_clean = λ m w out out' a. written_clean m w out out' a;
      read_written = λ s k m w out r out' a b l.
          let n = mended (number_of s) in
          let e = read_then_written s k m w out r out' a b l in
          (e.0, record { string = tidied k n; tidy = tidied_is k n; written = e.1; only = tidied_only k n });
    }

-- ---- RANGE
first_fails : (k : Kind) (zs : List ℤ) (p : ℕ) → FirstOut (layout k) zs p → FirstFails k zs p
first_fails k zs p o =
    record { index = o.index; there = omega (arith, o.there, layout_long k); names = o.names; fails = o.fails; before = o.before }

-- the place of a word is not 0
in_legal : (b : Bool) (m : ℕ) → (pick b 0 (suc m) ≡ 0) ↔ (b ≡ true)
in_legal true m = ((λ e. refl), (λ e. refl))
in_legal false m = ((λ e. absurd (omega arith)), (λ e. absurd (true≢false (sym e))))

none_fails : (k : Kind) (n : ℕ) → (first_bad (layout k) (values_of n (layout k)) ≡ 0) ↔ (legal k n ≡ true)
none_fails k n = by k (reading_fails n k)
  where
    so : (x m : ℕ) (b : Bool) → x ≡ pick b 0 (suc m) → (x ≡ 0) ↔ (b ≡ true)
    so x m b e = ((λ z. (in_legal b m).0 (sym e ∙ z)), (λ t. e ∙ (in_legal b m).1 t))

    by : (k : Kind) → first_bad (layout k) (values_of n (layout k)) ≡ pick (readable n k) 0 (may_fail k)
        → (first_bad (layout k) (values_of n (layout k)) ≡ 0) ↔ (legal k n ≡ true)
    by One e = so _ 75 (legal One n) e
    by Two e = so _ 75 (legal Two n) e
    by Three e = ((λ z. refl), (λ t. e))
    by Four e = ((λ z. refl), (λ t. e))
    by Five e = so _ 79 (legal Five n) e
    by Even e = so _ 76 (legal Even n) e
    by Odd e = so _ 13 (legal Odd n) e
    by Fourteen e = ((λ z. refl), (λ t. e))

pub ranges : Ranges
ranges =
    record {
      reader = λ s k p a. first_fails k (values_of (mended (number_of s)) (layout k)) p (read_range s k p a);
      encoder = λ m w out out' p a. first_fails (kind_of w) (list_of w) p (write_range m w out out' p a);
      only_these = λ n k.
          let zs = values_of n (layout k) in
          let i = none_bad_is k zs (kind_values_long k n) in
          ((λ f. (none_fails k n).0 (i.1 f)), (λ t. i.0 ((none_fails k n).1 t)));
    }
