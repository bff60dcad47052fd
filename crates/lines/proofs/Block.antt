-- The records of an input, printed one after the other (one_more, all-printed); no second answer fits (prints-once).
-- Assumes nothing.
use mathlib.Core.Path.{◌≡◌, refl, sym, ap, ap₂, subst, ◌∙◌}
use mathlib.Core.List.{List, ◌++◌}
use Prim.Native.Nat.{ℕ, ◌+◌, ◌*◌, ◌/◌, ◌%◌, ◌≤◌}
use native.Mathlib.Nat.{zero-add}
use native.Mathlib.Numerals.{add-one}
use native.Mathlib.Omega.{arith}
use lib.ListN.{length, take}
use lib.Seq.{length-take-le, length-sets}
use Rattle.station.specs.declared.Station.{Station}
use Rattle.digits.specs.Text.{Puts}
use Rattle.lines.specs.declared.Listed.{Listed}
use Rattle.lines.specs.declared.Printed.{Printed}
use Rattle.lines.specs.Line.{Lists}
use Rattle.lines.specs.Text.{line_bytes, line_text, left_over, record_at, station_at, lines_at, listing, Prints}
use Rattle.lines.proofs.Tells.{line_is}
use Rattle.digits.proofs.Pieces.{puts_as, puts_more, puts_none}

-- the first i records are printed
pub record SoFar (st : Station) (input text₀ text : List ℕ) (after : Station) (end i : ℕ) : Type 0 where
  pub station : after ≡ station_at st input i
  pub lines : Puts text₀ 0 (lines_at st input i) text end
  pub bound : end ≤ i * line_bytes

module _ {st : Station} {input text₀ : List ℕ} where
  pub none_yet : SoFar st input text₀ text₀ st 0 0
  unfolding station_at lines_at
  none_yet = record { station = refl; lines = puts_none; bound = omega arith }

  -- one record more
  pub one_more_lem : {text text' rec : List ℕ} {after : Station} {end end' i : ℕ} (r : Listed) → SoFar st input text₀ text after end i
      → rec ≡ record_at input i → Lists after rec r → Puts text end (line_text r.line) text' end' → end' ≤ end + line_bytes
      → SoFar st input text₀ text' r.station end' (i + 1)
  unfolding station_at lines_at
  one_more_lem {after = after} {i = i} r s e l p b =
      let m : Lists after (record_at input i) r = subst (λ (x : List ℕ). Lists after x r) e l in
      let n : Lists (station_at st input i) (record_at input i) r = subst (λ (x : Station). Lists x (record_at input i) r) s.station m in
      rw add-one
      (record {
        station = n.station;
        lines = puts_more s.lines (puts_as (ap line_text (line_is _ _ r n)) p);
        bound = omega (arith, s.bound);
      })

  -- all of them, and the bytes left over
  pub all_printed : {text text' : List ℕ} {after : Station} {end i : ℕ} (end' : ℕ) → SoFar st input text₀ text after end i → i ≡ length input / 16
      → Puts text end (left_over (length input % 16)) text' end' → end' ≤ length text₀
      → Prints st input text₀ (record { station = after; end = end' }) text'
  unfolding listing
  all_printed {after = after} {i = i} end' s e p w =
      let q = puts_as (ap (λ (k : ℕ). lines_at st input k ++ left_over (length input % 16)) e) (puts_more s.lines p) in
      record { station = s.station ∙ ap (station_at st input) e; past = q.past ∙ zero-add _; written = q.written; within = w }

-- the listing is as long as the answer says
pub printed_length : (st : Station) {input text text' : List ℕ} {r : Printed} → Prints st input text r text' → r.end ≡ length (take r.end text')
printed_length st {input} {text} {text'} {r} p =
    let l : length text' ≡ length text = ap length p.written ∙ length-sets text 0 (listing st input) in
    sym (length-take-le r.end text' (omega (arith, p.within, l)))

-- NO SECOND ANSWER FITS, and no second text
pub prints_once : (st : Station) (input text text' text'' : List ℕ) (r q : Printed) → Prints st input text r text' → Prints st input text q text''
    → (r ≡ q) × (text' ≡ text'')
prints_once st input text text' text'' r q a b = (
  ap₂ (λ (x : Station) (k : ℕ). record { station = x; end = k }) (a.station ∙ sym b.station) (a.past ∙ sym b.past),
  a.written ∙ sym b.written,
)
