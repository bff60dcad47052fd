-- `showing::entry_from` meets its contract: a half is its part above 64 bits and two words (half_high,
-- half-low). Assumes nothing.
use mathlib.Core.Path.{sym, ap₂, ◌∙◌}
use Prim.Native.Nat.{ℕ, ◌+◌, ◌*◌, ◌^◌}
use native.Mathlib.Omega.{arith}
use Rattle.strings.specs.Number.{number_of}
use Rattle.words.proofs.WordBits.{word_lt}
use Rattle.book.specs.Entry.{entry_of}
use Rattle.book.specs.Shows.{three_of, day_of}
use Rattle.book.proofs.Parts.{half_high, half_low}
use Rattle.book.proofs.Order.{same_entry}
use Rattle.book.proofs.showing.entry_from.Goals as goal

pub overflow_mul-result : goal.overflow_mul-result
overflow_mul-result c =
    let n = number_of c.args.five.now in
    omega (arith, c.word_in-n4.ensures, word_lt n 36 32)

pub overflow_add-result : goal.overflow_add-result
overflow_add-result c =
    let n = number_of c.args.five.now in
    omega (arith, c.word_in-n4.ensures, c.word_in-na.ensures, word_lt n 36 32, word_lt n 80 70)

pub overflow_cast-result : goal.overflow_cast-result
overflow_cast-result c =
    let n = number_of c.args.five.now in
    omega (arith, c.word_in-n4.ensures, c.word_in-na.ensures, word_lt n 36 32, c.requires.bound.1)

pub overflow_cast-result-2 : goal.overflow_cast-result-2
overflow_cast-result-2 c =
    let n = number_of c.args.even.now in
    omega (arith, c.word_in-5.ensures, word_lt n 80 73)

pub overflow_cast-result-3 : goal.overflow_cast-result-3
overflow_cast-result-3 c =
    let n = number_of c.args.odd.now in
    omega (arith, c.word_in-6.ensures, word_lt n 80 74)

pub returns : goal.returns
unfolding entry_of three_of day_of
returns c =
    -- where the two halves were put together, and the second word was read
    let a = c.args in
    let m = number_of a.even.now in
    let n = number_of a.odd.now in
    same_entry _ _
    (c.in_one.ensures ∙ ap₂ (λ (x y : ℕ). x * 2 ^ 32 + y) c.word_in.ensures c.word_in-2.ensures ∙ sym (half_low m 9 (omega arith) (omega arith)))
    (c.in_one-2.ensures ∙ ap₂ (λ (x y : ℕ). x * 2 ^ 32 + y) c.word_in-3.ensures c.word_in-4.ensures ∙ sym (half_low n 10 (omega arith) (omega arith)))
    (omega (arith, c.word_in-n4.ensures, c.word_in-na.ensures))
    (c.word_in-5.ensures ∙ sym (half_high m 9 (omega arith) (omega arith)))
    (c.word_in-6.ensures ∙ sym (half_high n 10 (omega arith) (omega arith)))
