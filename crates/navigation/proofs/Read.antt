-- The words of a record and of string 5, as their bits give them: none is below 0, and each is as wide as its bits (as_read). Assumes nothing.
use Prim.Native.Nat.{ℕ, ◌≤◌}
use mathlib.Core.Bool.{true}
use mathlib.Core.List.{List}
use mathlib.Core.Path.{◌≡◌, sym, ap, ◌∙◌}
use native.Mathlib.Omega.{arith}
use lib.Dec.{T}
use lib.IntN.{ℤ, pos, nat_abs}
use lib.Signed.{non_neg}
use mir.Syntax.{w8, w32}
use mir.Val.{Fits, to_z, of_z}
use mir.ValLaws.{to_z_pos}
use Rattle.strings.specs.Number.{word_of}
use Rattle.strings.proofs.WordOf.{word_lt}
use Rattle.records.specs.declared.kinds.Kind.TheVariants.{One, Two, Four, Five}
use Rattle.records.specs.Records.{record_of}
use Rattle.words.specs.Immediate.{string_at, immediate_of}
use Rattle.words.proofs.Names.{values_named}
use Rattle.immediate.specs.Kept.{has_record}
use Rattle.immediate.proofs.Ranges.{good_exactly}
use Rattle.rinex.specs.Record.{From}
use Rattle.station.specs.declared.Station.{Station}
use Rattle.station.specs.Station.{held_at}
use Rattle.station.specs.Queries.{kept_at}
use Rattle.navigation_queries.specs.Five.{five_of, five_at}
use Rattle.navigation.specs.Writes.{words_at}
use Rattle.navigation.specs.Gathers.{AsRead}

-- ---- a number that is not below 0, cast to a byte
module _ {least most : ℕ} (z : ℤ) (f : From least most z) (small : most ≤ 255) where
  back : to_z w32 (of_z w32 z) ≡ pos f.number
  back = ap (λ (x : ℤ). to_z w32 (of_z w32 x)) f.is ∙ to_z_pos w32 f.number (omega (arith, f.not_more))

  pub byte_fits : T (non_neg (to_z w32 (of_z w32 z))) × Fits w8 (nat_abs (to_z w32 (of_z w32 z)))
  byte_fits = rw back (tt, record { fits = omega (arith, f.not_more) })

  pub byte_is : nat_abs (to_z w32 (of_z w32 z)) ≡ nat_abs z
  byte_is = ap nat_abs back ∙ ap nat_abs (sym f.is)

-- a plain number from bits
plain : {z : ℤ} (k most : ℕ) → z ≡ pos k → k ≤ most → From 0 most z
plain k most e h = record { number = k; is = e; not_less = omega arith; not_more = h }

module _ (st : Station) (c : ℕ) (there : has_record (kept_at st c) ≡ true) where
  abbrev strings : List ℕ
  strings = (kept_at st c).strings

  tb_most : word_of (string_at strings 1) 76 70 ≤ 95
  unfolding has_record
  tb_most = ((good_exactly strings).0 there).tb_most

  pub as_read : AsRead (words_at st c) (five_at st c).n4
  unfolding immediate_of five_of record_of
  as_read =
      let five = (held_at st c).text 5 in
      let four = string_at strings 3 in
      let n4 = word_lt five 36 32 in
      let nt = word_lt four 26 16 in
      let n = word_lt four 15 11 in
      let tk = word_lt (string_at strings 0) 76 65 in
      record {
        four_years = plain (word_of five 36 32) 31 (values_named Five five).n4 (omega (arith, n4));
        day = plain (word_of four 26 16) 2047 (values_named Four four).nt (omega (arith, nt));
        interval = plain (word_of (string_at strings 1) 76 70) 95 (values_named Two (string_at strings 1)).tb tb_most;
        time = plain (word_of (string_at strings 0) 76 65) 4095 (values_named One (string_at strings 0)).tk (omega (arith, tk));
        satellite = plain (word_of four 15 11) 31 (values_named Four four).n (omega (arith, n));
      }
