-- `writing::write_all` meets its contract: by the ranges of NT and N4 and the output's length (`Answered`). Assumes nothing.
use Prim.Native.Nat.{ℕ}
use mathlib.Core.Bool.{Bool, true}
use mathlib.Core.List.{[], ◌∷◌}
use mathlib.Core.Path.{◌≡◌, ap, ap₂, ◌∙◌}
use borrow.Author.Tests.{eq-eqb, ne_eqb}
use lib.Dec.{lit≤}
use lib.IntN.{ℤ, nat_abs}
use mir.Syntax.{w32}
use mir.Val.{to_z, of_z}
use mir.ValLaws.{to_z-of_z}
use Rattle.shows.proofs.Shows.{is_so, is_not}
use Rattle.rinex.specs.Record.{record_text}
use Rattle.rinex.proofs.Naturals.{same, in_four_years}
use Rattle.records.specs.declared.named.ImmediateWords.{ImmediateWords}
use Rattle.navigation.specs.Writes.{is_within, quarter_of}
use Rattle.navigation.specs.Gathers.{AsRead}
use Rattle.navigation.proofs.Read.{byte_is}
use Rattle.navigation.proofs.Answered.{writable, day_refused, years_refused, lines_refused, all_written_lem}
use Rattle.navigation.proofs.writing.write_all.Goals as goal

abbrev z32 : ℤ → ℤ
z32 z = to_z w32 (of_z w32 z)

nt_same : (w : ImmediateWords) (n4 : ℤ) → AsRead w n4 → nat_abs (z32 w.four.nt) ≡ nat_abs w.four.nt
nt_same w n4 r = same w.four.nt r.day (lit≤ tt)

n4_same : (w : ImmediateWords) (n4 : ℤ) → AsRead w n4 → nat_abs (z32 n4) ≡ nat_abs n4
n4_same w n4 r = same n4 r.four_years (lit≤ tt)

-- ---- the tests that were passed
day_in : (w : ImmediateWords) (n4 : ℤ) → AsRead w n4 → {t : Bool} → t ≡ is_within 1 1461 (nat_abs (z32 w.four.nt)) → t ≡ true → is_within 1 1461 (nat_abs w.four.nt) ≡ true
day_in w n4 r e h = is_so (e ∙ ap (is_within 1 1461) (nt_same w n4 r)) h

years_in : (w : ImmediateWords) (n4 : ℤ) → AsRead w n4 → {t : Bool} → t ≡ is_within 1 21 (nat_abs (z32 n4)) → t ≡ true → is_within 1 21 (nat_abs n4) ≡ true
years_in w n4 r e h = is_so (e ∙ ap (is_within 1 21) (n4_same w n4 r)) h

pub returns-then-not-is_within : goal.returns-then-not-is_within
returns-then-not-is_within c =
    day_refused c.args.words c.args.n4 c.args.carrier _ (is_not (c.is_within.ensures ∙ ap (is_within 1 1461) (nt_same c.args.words c.args.n4 c.requires)) c.if-not-is_within.true)

pub returns-then-not-is_within-2 : goal.returns-then-not-is_within-2
returns-then-not-is_within-2 c =
    years_refused c.args.words c.args.n4 c.args.carrier _ (day_in c.args.words c.args.n4 c.requires c.is_within.ensures c.if-not-is_within.false) (is_not (c.is_within-2.ensures ∙ ap (is_within 1 21) (n4_same c.args.words c.args.n4 c.requires)) c.if-not-is_within-2.true)

pub returns-then-out-ne-RECORD : goal.returns-then-out-ne-RECORD
returns-then-out-ne-RECORD c =
    lines_refused c.args.words c.args.n4 c.args.carrier _ (day_in c.args.words c.args.n4 c.requires c.is_within.ensures c.if-not-is_within.false) (years_in c.args.words c.args.n4 c.requires c.is_within-2.ensures c.if-not-is_within-2.false) (ne_eqb _ _ c.if-out-ne-RECORD.true)

pub record_text-requires : goal.record_text-requires
record_text-requires c =
    record { out_len = c.if-out-ne-RECORD.false; writable = rw (to_z-of_z w32 c.args.n4 c.ranges.n4) (writable c.args.words c.args.n4 c.requires (day_in c.args.words c.args.n4 c.requires c.is_within.ensures c.if-not-is_within.false) (years_in c.args.words c.args.n4 c.requires c.is_within-2.ensures c.if-not-is_within-2.false)) }

pub quarter_of-quarter-requires : goal.quarter_of-quarter-requires
quarter_of-quarter-requires c =
    let w = c.args.words in
    let p = writable w c.args.n4 c.requires (day_in c.args.words c.args.n4 c.requires c.is_within.ensures c.if-not-is_within.false) (years_in c.args.words c.args.n4 c.requires c.is_within-2.ensures c.if-not-is_within-2.false) in
    in_four_years c.args.n4 w.four.nt w.two.tb p.four_years p.day p.interval

pub returns : goal.returns
returns c =
    let w = c.args.words in
    let tb = same w.two.tb c.requires.interval (lit≤ tt) in
    let n = byte_is w.four.n c.requires.satellite (lit≤ tt) in
    let quarter =
    c.quarter_of-quarter.ensures ∙ ap₂ (λ (x y : ℕ). quarter_of x y (nat_abs (z32 w.two.tb))) (n4_same c.args.words c.args.n4 c.requires) (nt_same c.args.words c.args.n4 c.requires)
    ∙ ap (quarter_of (nat_abs c.args.n4) (nat_abs w.four.nt)) tb
    in
    let text =
    c.record_text.ensures ∙ ap₂ (record_text w) (to_z-of_z w32 c.args.n4 c.ranges.n4) (to_z-of_z w32 c.args.carrier c.ranges.carrier)
    in
    all_written_lem w c.args.n4 c.args.carrier _ (day_in c.args.words c.args.n4 c.requires c.is_within.ensures c.if-not-is_within.false) (years_in c.args.words c.args.n4 c.requires c.is_within-2.ensures c.if-not-is_within-2.false) (eq-eqb _ _ c.if-out-ne-RECORD.false) _ _ _
    (ap₂ (λ (x y : ℕ). x ∷ y ∷ []) n quarter) text
