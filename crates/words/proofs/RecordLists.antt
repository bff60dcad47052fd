-- The record of a string's values, and the string number that a kind may have.
-- Assumes nothing.
use mathlib.Core.Path.{◌≡◌, refl, sym, ap, ◌∙◌}
use mathlib.Core.Bool.{Bool, true, ◌&&◌}
use Prim.Native.Nat.{ℕ, ◌+◌, ◌*◌, ◌/◌, ◌^◌, ◌≤◌, ◌<◌}
use native.Mathlib.Nat.{mod-one}
use native.Mathlib.Omega.{arith}
use borrow.Author.Tests.{eqb-true, leb-true}
use lib.Dec.{eqb, leb, lit≤}
use Rattle.strings.proofs.Below.{both}
use Rattle.strings.specs.Number.{word_of}
use Rattle.records.specs.declared.kinds.Kind.{Kind}
use Rattle.records.specs.declared.kinds.Kind.TheVariants.{One, Two, Three, Four, Five, Even, Odd, Fourteen}
use Rattle.records.specs.declared.named.Record.{Record}
use Rattle.layout.specs.Layout.{layout, kind_number, of_kind}
use Rattle.words.specs.Values.{values_of, first_bad, data_of}
use Rattle.records.specs.Records.{kind_of, list_of, record_of}
use Rattle.records.proofs.RecordLists.{list_long}
use Rattle.layout.proofs.EveryKind.{kind_at, kind_back}
use Rattle.words.proofs.Fits.{kind_data_lt}

pub kind_same : (k l : Kind) → kind_number k ≡ kind_number l → k ≡ l
kind_same k l e = sym (kind_back k) ∙ ap kind_at e ∙ kind_back l

-- ---- the record of a string's values holds all of them: where it has no word, the filler has no bit
pub record_values : (k : Kind) (n : ℕ) → list_of (record_of k (values_of n (layout k))) ≡ values_of n (layout k)
unfolding list_of record_of values_of layout word_of
record_values One n = rw (mod-one (n / 2 ^ 8))
record_values Two n = rw (mod-one (n / 2 ^ 8))
record_values Three n = rw (mod-one (n / 2 ^ 8))
record_values Four n = refl
record_values Five n = rw (mod-one (n / 2 ^ 8))
record_values Even n = rw (mod-one (n / 2 ^ 8))
record_values Odd n = rw (mod-one (n / 2 ^ 8))
record_values Fourteen n = rw (mod-one (n / 2 ^ 8))

-- ---- m of any kind is 1..15
one_number : (m c : ℕ) → eqb m c ≡ true → 1 ≤ c → c ≤ 15 → (1 ≤ m) × (m ≤ 15)
one_number m c e l u = let q = eqb-true m c e in (omega arith, omega arith)

half_number : (m l u : ℕ) (b : Bool) → (leb l m && (leb m u && b)) ≡ true → 1 ≤ l → u ≤ 15 → (1 ≤ m) × (m ≤ 15)
half_number m l u b e h k =
    let p = both (leb l m) _ e in
    let q = both (leb m u) _ p.1 in
    (omega (arith, leb-true l m p.0), omega (arith, leb-true m u q.0))

pub of_kind_lem : (k : Kind) (m : ℕ) → of_kind k m ≡ true → (1 ≤ m) × (m ≤ 15)
of_kind_lem One m e = one_number m 1 e (lit≤ tt) (lit≤ tt)
of_kind_lem Two m e = one_number m 2 e (lit≤ tt) (lit≤ tt)
of_kind_lem Three m e = one_number m 3 e (lit≤ tt) (lit≤ tt)
of_kind_lem Four m e = one_number m 4 e (lit≤ tt) (lit≤ tt)
of_kind_lem Five m e = one_number m 5 e (lit≤ tt) (lit≤ tt)
of_kind_lem Even m e = half_number m 6 14 _ e (lit≤ tt) (lit≤ tt)
of_kind_lem Odd m e = half_number m 7 15 _ e (lit≤ tt) (lit≤ tt)
of_kind_lem Fourteen m e = one_number m 14 e (lit≤ tt) (lit≤ tt)

-- m above the words of a record in range is a string
pub string_lt : (m : ℕ) (r : Record) → of_kind (kind_of r) m ≡ true → first_bad (layout (kind_of r)) (list_of r) ≡ 0
    → m * 2 ^ 80 + data_of (layout (kind_of r)) (list_of r) < 2 ^ 85
string_lt m r o e = omega (arith, of_kind_lem (kind_of r) m o, kind_data_lt (kind_of r) (list_of r) (list_long r) e)
