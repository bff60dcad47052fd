-- The table of signed words: they are those of the layout (all-signed); each has a place of its kind and a unit from 2 ^ -5 to 2 ^ -40 (listed_at); and so each is exact
-- (each-exact).
-- Assumes nothing.
use mathlib.Core.Path.{refl}
use mathlib.Core.Bool.{Bool, ◌&&◌}
use Prim.Native.Nat.{ℕ, ◌-◌, ◌≤◌}
use native.Mathlib.Omega.{arith}
use lib.Dec.{T, leb, ltb, leb→le, ltb→lt}
use lib.ListN.{get_or}
use Rattle.strings.proofs.Below.{and_left, and_right, below, below_at}
use Rattle.records.specs.declared.kinds.Kind.TheVariants.{One}
use Rattle.layout.specs.Layout.{layout, none, width}
use Rattle.layout.proofs.Rows.{placed_at}
use Rattle.scaled.specs.declared.table.SignedWord.{SignedWord}
use Rattle.scaled.specs.Units.{units, numbered, kind_at, place_at, unit_at, IsListed, AllSigned, EachWord}
use Rattle.scaled.proofs.Exactly.{exact}

pub all_signed : AllSigned
unfolding units layout
all_signed = refl

-- ---- one computed test over the table
abbrev word_test : SignedWord → Bool
word_test w = ltb w.1 8 && (leb 5 w.2 && leb w.2 40)

abbrev test : ℕ → Bool
test j = word_test (get_or units j (One, 0, 0))

all_listed : T (below 22 test)
unfolding units
all_listed = tt

pub listed_at : (number : ℕ) → 1 ≤ number → number ≤ 22 → IsListed number (numbered number)
listed_at number h u =
    let w = numbered number in
    let t = below_at 22 test all_listed (number - 1) (omega arith) in
    let v = and_right (ltb w.1 8) (leb 5 w.2 && leb w.2 40) t in
    record {
      is = refl;
      place = ltb→lt w.1 8 (and_left (ltb w.1 8) (leb 5 w.2 && leb w.2 40) t);
      least = leb→le 5 w.2 (and_left (leb 5 w.2) (leb w.2 40) v);
      most = leb→le w.2 40 (and_right (leb 5 w.2) (leb w.2 40) v);
    }

-- ---- each of them, by the one law
pub each_exact : EachWord
each_exact number raw h u d =
    let l = listed_at number h u in
    let p = placed_at (kind_at number) (place_at number) l.place in
    exact (width (get_or (layout (kind_at number)) (place_at number) none)) (unit_at number) raw (omega (arith, p.narrow)) l.least l.most d
