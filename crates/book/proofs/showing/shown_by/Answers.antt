-- `showing::shown_by` meets its contract: the tests in turn (shown-is). Assumes nothing.
use mathlib.Core.Path.{◌≡◌, sym, ◌∙◌}
use mathlib.Core.Bool.{true, false, ◌&&◌}
use native.Mathlib.Omega.{arith}
use lib.Dec.{leb}
use Rattle.strings.specs.Number.{number_of}
use Rattle.records.specs.declared.kinds.Kind.TheVariants.{Five, Even, Odd}
use Rattle.words.proofs.WordBits.{word_lt}
use Rattle.words.specs.Good.{is_good}
use Rattle.book.specs.Shows.{four_years, shown_by}
use Rattle.book.proofs.ShownTests.{shown_is, day_read}
use Rattle.book.proofs.showing.shown_by.Goals as goal

pub returns-then-not-has_day : goal.returns-then-not-has_day
unfolding shown_by
returns-then-not-has_day c =
    let a = c.args in
    let five = number_of a.five.now in
    let even = number_of a.even.now in
    let odd = number_of a.odd.now in
    let day = c.has_day in
    let d : (is_good Five five && leb 1 (four_years five)) ≡ false = sym day.ensures ∙ c.if-not-has_day.true in
    rw (shown_is five even odd, d)

pub returns-then-not-has_slot : goal.returns-then-not-has_slot
unfolding shown_by
returns-then-not-has_slot c =
    let a = c.args in
    let five = number_of a.five.now in
    let even = number_of a.even.now in
    let odd = number_of a.odd.now in
    let day = c.has_day in
    let d : (is_good Five five && leb 1 (four_years five)) ≡ true = sym day.ensures ∙ c.if-not-has_day.false in
    let slot = c.has_slot in
    let s : is_good Even even ≡ false = sym slot.ensures ∙ c.if-not-has_slot.true in
    rw (shown_is five even odd, d, s)

pub returns-then-not-has_carrier : goal.returns-then-not-has_carrier
unfolding shown_by
returns-then-not-has_carrier c =
    let a = c.args in
    let five = number_of a.five.now in
    let even = number_of a.even.now in
    let odd = number_of a.odd.now in
    let day = c.has_day in
    let d : (is_good Five five && leb 1 (four_years five)) ≡ true = sym day.ensures ∙ c.if-not-has_day.false in
    let slot = c.has_slot in
    let s : is_good Even even ≡ true = sym slot.ensures ∙ c.if-not-has_slot.false in
    let carrier = c.has_carrier in
    let k : is_good Odd odd ≡ false = sym carrier.ensures ∙ c.if-not-has_carrier.true in
    rw (shown_is five even odd, d, s, k)

pub overflow_cast-slot : goal.overflow_cast-slot
overflow_cast-slot c =
    let n = number_of c.args.even.now in
    omega (arith, c.word_in-slot.ensures, word_lt n 77 73)

pub entry_from-requires : goal.entry_from-requires
entry_from-requires c =
    let five = number_of c.args.five.now in
    let day = c.has_day in
    let d : (is_good Five five && leb 1 (four_years five)) ≡ true = sym day.ensures ∙ c.if-not-has_day.false in
    let r = day_read five d in
    record { five_len = c.requires; bound = (r.stated, r.most) }

pub returns : goal.returns
unfolding shown_by
returns c =
    let a = c.args in
    let five = number_of a.five.now in
    let even = number_of a.even.now in
    let odd = number_of a.odd.now in
    let day = c.has_day in
    let d : (is_good Five five && leb 1 (four_years five)) ≡ true = sym day.ensures ∙ c.if-not-has_day.false in
    let slot = c.has_slot in
    let s : is_good Even even ≡ true = sym slot.ensures ∙ c.if-not-has_slot.false in
    let carrier = c.has_carrier in
    let k : is_good Odd odd ≡ true = sym carrier.ensures ∙ c.if-not-has_carrier.false in
    rw (shown_is five even odd, d, s, k, c.word_in-slot.ensures, c.entry_from.ensures)
