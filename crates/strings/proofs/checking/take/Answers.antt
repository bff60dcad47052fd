-- `checking::take` meets its contract, return by return. Assumes nothing.
use mathlib.Core.Path.{◌∙◌, sym, ap}
use mathlib.Core.List.{List}
use Prim.Native.Nat.{ℕ}
use borrow.Author.Tests.{eq-eqb, ne_eqb}
use Rattle.strings.specs.Number.{number_of, padding_of}
use Rattle.std.specs.Prelude.{Ok}
use Rattle.strings.specs.Hamming.{mended_by}
use Rattle.strings.proofs.Value.{string_is}
use Rattle.strings.proofs.Shape.{shaped}
use Rattle.strings.proofs.Judge.{names_bit}
use Rattle.strings.proofs.CheckAnswers.{check_idle, check_taken}
use Rattle.strings.proofs.checking.take.Goals as goal

pub idle_after-requires : goal.idle_after-requires
idle_after-requires c = ((shaped c.args.s.now c.requires.1.0).0, names_bit (number_of c.args.s.now) _ c.requires.1.1)

pub returns-then-idle_after-eq1 : goal.returns-then-idle_after-eq1
returns-then-idle_after-eq1 c =
    check_idle c.args.s.now _ c.requires.0 c.requires.1.0 _ c.requires.1.1 (eq-eqb _ _ (sym c.idle_after.ensures ∙ c.if-idle_after-eq1.true))

pub copy_from_slice-requires : goal.copy_from_slice-requires
copy_from_slice-requires c = c.requires.0 ∙ sym (shaped c.args.s.now c.requires.1.0).0

pub mend-requires : goal.mend-requires
mend-requires c =
    (c.copy_from_slice.ensures.len ∙ c.requires.0, names_bit (number_of c.args.s.now) _ c.requires.1.1)

pub returns : goal.returns
returns c =
    let p = c.copy_from_slice in
    let m = c.mend in
    let s = shaped c.args.s.now c.requires.1.0 in
    let e = p.ensures.after in
    let left = mended_by (Ok c.args.v) in
    rw (string_is m.new.s (left (number_of c.args.s.now)) (λ k. (c.slice_known-3-1.given k).fits) (m.auto.s ∙ p.ensures.len ∙ c.requires.0) (m.ensures.1 ∙ ap padding_of e ∙ s.1)
    (m.ensures.0 ∙ ap (λ (l : List ℕ). left (number_of l)) e))
    (check_taken c.args.s.now _ c.requires.0 c.requires.1.0 _ c.requires.1.1 (ne_eqb _ _ (λ q. c.if-idle_after-eq1.false (c.idle_after.ensures ∙ q))))
