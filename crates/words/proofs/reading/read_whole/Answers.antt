-- `reading::read_whole` meets its contract: "5, 11, 10" (`ReadAnswers`). Assumes nothing.
use mathlib.Core.Path.{◌≡◌, refl, sym, ap, ◌∙◌}
use mathlib.Core.Bool.{false, not}
use mathlib.Core.List.{◌∷◌, []}
use Prim.Native.Nat.{ℕ}
use lib.Dec.{eqb}
use borrow.Author.Tests.{eq-eqb, ne_eqb}
use Rattle.strings.specs.declared.Refusal.TheVariants.{Number, Place, Range}
use Rattle.strings.specs.Number.{number_of}
use Rattle.layout.specs.Layout.{layout, of_kind}
use Rattle.words.specs.Values.{values_of, first_bad}
use Rattle.records.specs.Records.{record_of}
use Rattle.words.specs.Calls.{number_in}
use Rattle.words.proofs.ReadAnswers.{reads_no, reads_on, reads_yes}
use Rattle.words.proofs.reading.read_whole.Goals as goal

-- ---- what the calls say, of the string's number
numbered : (c : goal.Then-not-is_of_kind) → eqb (number_in (number_of c.args.s.now)) 0 ≡ false
numbered c = ne_eqb _ 0 (λ q. c.if-m-eq0.false (c.number_in-m.ensures ∙ q))

-- ---- what the calls say, of the string's number
numbered-2 : (c : goal.Then-place-ne0) → eqb (number_in (number_of c.args.s.now)) 0 ≡ false
numbered-2 c = ne_eqb _ 0 (λ q. c.if-m-eq0.false (c.number_in-m.ensures ∙ q))

-- ---- what the calls say, of the string's number
numbered-3 : (c : goal.After-record_of) → eqb (number_in (number_of c.args.s.now)) 0 ≡ false
numbered-3 c = ne_eqb _ 0 (λ q. c.if-m-eq0.false (c.number_in-m.ensures ∙ q))

kinded : (c : goal.Then-not-is_of_kind)
    → let a = c.args in c.is_of_kind.result ≡ of_kind a.k (number_in (number_of a.s.now))
kinded c = c.is_of_kind.ensures ∙ ap (of_kind c.args.k) c.number_in-m.ensures

kinded-2 : (c : goal.Then-place-ne0)
    → let a = c.args in c.is_of_kind.result ≡ of_kind a.k (number_in (number_of a.s.now))
kinded-2 c = c.is_of_kind.ensures ∙ ap (of_kind c.args.k) c.number_in-m.ensures

kinded-3 : (c : goal.After-record_of)
    → let a = c.args in c.is_of_kind.result ≡ of_kind a.k (number_in (number_of a.s.now))
kinded-3 c = c.is_of_kind.ensures ∙ ap (of_kind c.args.k) c.number_in-m.ensures

found : (c : goal.Then-place-ne0)
    → let a = c.args in
    c.first_bad-place.result ≡ first_bad (layout a.k) (values_of (number_of a.s.now) (layout a.k))
found c =
    let a = c.args in
    c.first_bad-place.ensures ∙ ap (first_bad (layout a.k)) c.values_in-v.ensures

found-2 : (c : goal.After-record_of)
    → let a = c.args in
    c.first_bad-place.result ≡ first_bad (layout a.k) (values_of (number_of a.s.now) (layout a.k))
found-2 c =
    let a = c.args in
    c.first_bad-place.ensures ∙ ap (first_bad (layout a.k)) c.values_in-v.ensures

-- ---- the answers
pub returns-then-m-eq0 : goal.returns-then-m-eq0
returns-then-m-eq0 c = reads_no 4 Number refl (eq-eqb _ 0 (sym c.number_in-m.ensures ∙ c.if-m-eq0.true))

pub returns-then-not-is_of_kind : goal.returns-then-not-is_of_kind
returns-then-not-is_of_kind c = reads_on 5 (numbered c) (reads_no 10 Place refl (ap not (sym (kinded c) ∙ c.if-not-is_of_kind.true)))

pub returns-then-place-ne0 : goal.returns-then-place-ne0
returns-then-place-ne0 c =
    let f = found c in
    reads_on 5 (numbered-2 c) (reads_on 11 (ap not (sym (kinded-2 c) ∙ c.if-not-is_of_kind.false))
    (reads_no 9 (Range c.first_bad-place.result) (ap (λ (p : ℕ). 10 ∷ p ∷ []) f) (ap not (ne_eqb _ 0 (λ q. c.if-place-ne0.true (f ∙ q))))))

pub returns : goal.returns
returns c =
    let s = c.args in
    let f = found-2 c in
    reads_on 5 (numbered-3 c) (reads_on 11 (ap not (sym (kinded-3 c) ∙ c.if-not-is_of_kind.false))
    (reads_on 10 (ap not (eq-eqb _ 0 (sym f ∙ c.if-place-ne0.false)))
    (reads_yes c.number_in-m.result c.record_of.result c.number_in-m.ensures
    (c.record_of.ensures ∙ ap (record_of s.k) c.values_in-v.ensures))))
