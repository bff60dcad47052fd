-- What the encoder answers to the words of a string.
-- Assumes nothing.
use mathlib.Core.Path.{◌≡◌, refl, sym, ap, subst, ◌∙◌}
use mathlib.Core.Bool.{Bool, true, false, not, ◌&&◌, ◌||◌, true≢false}
use mathlib.Core.List.{List}
use Prim.Native.Nat.{ℕ, suc, ◌-◌, ◌≤◌, ◌<◌}
use native.Mathlib.Omega.{arith}
use borrow.Author.Tests.{eq-eqb, ne_eqb, eqb-true, not-false}
use lib.Dec.{T, eqb}
use lib.ListN.{length}
use Rattle.strings.specs.Number.{bytes_of_string}
use Rattle.std.specs.Prelude.{Result, Ok, Err, ⊤}
use Rattle.strings.specs.declared.Refusal.{Refusal}
use Rattle.strings.proofs.Below.{below, below_at}
use Rattle.records.specs.declared.named.Record.{Record}
use Rattle.records.specs.Records.{kind_of, list_of}
use Rattle.layout.specs.Layout.{layout, of_kind}
use Rattle.words.specs.Values.{first_bad}
use Rattle.words.specs.Calls.{string_of, Writes}
use Rattle.words.proofs.Fits.{is_true}
use Rattle.words.proofs.RoundTrips.{write_once, writes, is_written}
use Rattle.superframe.specs.declared.Sky.{Sky}
use Rattle.superframe.specs.Sky.{record_in, frame_at, string_number, sky_string}
use Rattle.superframe.specs.Refused.{is_number, words_bad, string_bad, is_refused}

-- ---- each string is of its kind
module _ (sky : Sky) where
  abbrev kind_test : ℕ → ℕ → Bool
  kind_test g m = of_kind (kind_of (record_in sky g (suc m))) (suc m)

  all_kinds : T (below 5 (λ g. below 15 (kind_test g)))
  unfolding record_in
  all_kinds = tt

  pub of_its_kind : (g m : ℕ) → g < 5 → 1 ≤ m → m ≤ 15 → of_kind (kind_of (record_in sky g m)) m ≡ true
  of_its_kind g m l a b =
      let e : suc (m - 1) ≡ m = omega arith in
      subst (λ (n : ℕ). of_kind (kind_of (record_in sky g n)) n ≡ true) e
      (is_true _ (below_at 15 (kind_test g) (below_at 5 (λ g. below 15 (kind_test g)) all_kinds g l) (m - 1) (omega arith)))

-- ---- the encoder's answer
module _ (m : ℕ) (r : Record) (out : List ℕ) (long : length out ≡ 11) (k : of_kind (kind_of r) m ≡ true) where
  refused_is : (q : Refusal) (out' : List ℕ) → Writes m r out (Err q) out' → eqb (first_bad (layout (kind_of r)) (list_of r)) 0 ≡ false
  refused_is q out' a =
      ne_eqb _ 0
      (λ e. let w = (write_once m r out (Err q) (Ok tt) out' _ a (writes m r out (bytes_of_string (string_of m r)) (record { room = long; place = k; range = e; output = refl }))).0 in
      let z : ◌≡◌ {A = ℕ} 0 1 = cc in omega arith)

  pub refused_by : (w : Result ⊤ Refusal) (out' : List ℕ) → Writes m r out w out' → not (eqb (first_bad (layout (kind_of r)) (list_of r)) 0) ≡ is_refused w
  refused_by (Ok _) out' a = ap not (eq-eqb _ 0 (is_written m r out out' a).range)
  refused_by (Err q) out' a = ap not (refused_is q out' a)

  pub written_as : (w : Result ⊤ Refusal) (out' : List ℕ) → first_bad (layout (kind_of r)) (list_of r) ≡ 0 → Writes m r out w out' → out' ≡ bytes_of_string (string_of m r)
  written_as w out' e a = (write_once m r out w (Ok tt) out' _ a (writes m r out (bytes_of_string (string_of m r)) (record { room = long; place = k; range = e; output = refl }))).1

-- ---- string i, of the words r
module _ (sky : Sky) (i : ℕ) (l : 1 ≤ i) (u : i ≤ 75) (r : Record) (is : r ≡ record_in sky (frame_at i) (string_number i)) where
  kind_at : of_kind (kind_of r) (string_number i) ≡ true
  kind_at = ap (λ (x : Record). of_kind (kind_of x) (string_number i)) is ∙ of_its_kind sky (frame_at i) (string_number i) (omega arith) (omega arith) (omega arith)

  -- whether it is refused
  pub bad_is : (out out' : List ℕ) (w : Result ⊤ Refusal) → length out ≡ 11 → Writes (string_number i) r out w out'
      → string_bad sky i ≡ (is_refused w || (eqb i 5 && is_number sky.five.n4 0))
  unfolding string_bad
  bad_is out out' w long a =
      ap (λ (b : Bool). b || (eqb i 5 && is_number sky.five.n4 0))
      (ap (λ (x : Record). not (eqb (first_bad (layout (kind_of x)) (list_of x)) 0)) (sym is) ∙ refused_by (string_number i) r out long kind_at w out' a)

  or_first : (a b : Bool) → (a || b) ≡ false → a ≡ false
  or_first true b e = absurd (true≢false e)
  or_first false b e = refl

  pub words_good : string_bad sky i ≡ false → first_bad (layout (kind_of r)) (list_of r) ≡ 0
  unfolding string_bad
  words_good e =
      ap (λ (x : Record). first_bad (layout (kind_of x)) (list_of x)) is
      ∙ eqb-true _ 0 (not-false _ (or_first (words_bad sky (frame_at i) (string_number i)) (eqb i 5 && is_number sky.five.n4 0) e))

  -- what is written where it is not
  pub string_is : (out out' : List ℕ) (w : Result ⊤ Refusal) → length out ≡ 11 → Writes (string_number i) r out w out' → string_bad sky i ≡ false
      → out' ≡ bytes_of_string (sky_string sky i)
  unfolding sky_string
  string_is out out' w long a e =
      written_as (string_number i) r out long kind_at w out' (words_good e) a ∙ ap (λ (x : Record). bytes_of_string (string_of (string_number i) x)) is
