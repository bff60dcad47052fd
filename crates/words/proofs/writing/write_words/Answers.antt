-- `writing::write_words` meets its contract, answer by answer (`WriteAnswers`). Assumes nothing.
use mathlib.Core.Path.{◌≡◌, sym, ap, ap₂, subst, ◌∙◌}
use mathlib.Core.Bool.{true}
use mathlib.Core.List.{List}
use Prim.Native.Nat.{ℕ, ◌+◌, ◌*◌, ◌^◌, ◌<◌}
use lib.IntN.{ℤ}
use lib.ListN.{length}
use Rattle.strings.specs.Number.{number_of, padding_of, bytes_of_string}
use Rattle.std.specs.Prelude.{Ok}
use Rattle.strings.specs.Hamming.{encode}
use Rattle.strings.proofs.Value.{string_length, string_number_lem, string_padding}
use Rattle.records.specs.declared.kinds.Kind.{Kind}
use Rattle.layout.specs.Layout.{layout, of_kind}
use Rattle.words.specs.Values.{first_bad, data_of}
use Rattle.records.specs.Records.{kind_of, list_of}
use Rattle.words.specs.Calls.{Writes, string_of}
use Rattle.words.proofs.RecordLists.{string_lt}
use Rattle.words.proofs.WriteAnswers.{write_no_room, write_no_place, write_no_range, write_done}
use Rattle.words.proofs.writing.write_words.Goals as goal

kinded : (c : goal.Then-not-is_of_kind) → let a = c.args in c.is_of_kind.result ≡ of_kind (kind_of a.r) a.m
kinded c = c.is_of_kind.ensures ∙ ap (λ (k : Kind). of_kind k c.args.m) c.kind_of-k.ensures

kinded-2 : (c : goal.Then-place-ne0) → let a = c.args in c.is_of_kind.result ≡ of_kind (kind_of a.r) a.m
kinded-2 c = c.is_of_kind.ensures ∙ ap (λ (k : Kind). of_kind k c.args.m) c.kind_of-k.ensures

kinded-3 : (c : goal.After-slice_known-2-1) → let a = c.args in c.is_of_kind.result ≡ of_kind (kind_of a.r) a.m
kinded-3 c = c.is_of_kind.ensures ∙ ap (λ (k : Kind). of_kind k c.args.m) c.kind_of-k.ensures

kinded-4 : (c : goal.After-made-1) → let a = c.args in c.is_of_kind.result ≡ of_kind (kind_of a.r) a.m
kinded-4 c = c.is_of_kind.ensures ∙ ap (λ (k : Kind). of_kind k c.args.m) c.kind_of-k.ensures

found : (c : goal.Then-place-ne0) → let a = c.args in c.first_bad-place.result ≡ first_bad (layout (kind_of a.r)) (list_of a.r)
found c =
    c.first_bad-place.ensures
    ∙ ap₂ (λ (k : Kind) (v : List ℤ). first_bad (layout k) v) c.kind_of-k.ensures c.list_of-v.ensures

found-2 : (c : goal.After-slice_known-2-1) → let a = c.args in c.first_bad-place.result ≡ first_bad (layout (kind_of a.r)) (list_of a.r)
found-2 c =
    c.first_bad-place.ensures
    ∙ ap₂ (λ (k : Kind) (v : List ℤ). first_bad (layout k) v) c.kind_of-k.ensures c.list_of-v.ensures

found-3 : (c : goal.After-made-1) → let a = c.args in c.first_bad-place.result ≡ first_bad (layout (kind_of a.r)) (list_of a.r)
found-3 c =
    c.first_bad-place.ensures
    ∙ ap₂ (λ (k : Kind) (v : List ℤ). first_bad (layout k) v) c.kind_of-k.ensures c.list_of-v.ensures

of_kind_lem : (c : goal.Then-place-ne0) → let a = c.args in of_kind (kind_of a.r) a.m ≡ true
of_kind_lem c = sym (kinded-2 c) ∙ c.if-not-is_of_kind.false

of_kind_lem-2 : (c : goal.After-slice_known-2-1) → let a = c.args in of_kind (kind_of a.r) a.m ≡ true
of_kind_lem-2 c = sym (kinded-3 c) ∙ c.if-not-is_of_kind.false

of_kind_lem-3 : (c : goal.After-made-1) → let a = c.args in of_kind (kind_of a.r) a.m ≡ true
of_kind_lem-3 c = sym (kinded-4 c) ∙ c.if-not-is_of_kind.false

in_range_lem : (c : goal.After-slice_known-2-1) → let a = c.args in first_bad (layout (kind_of a.r)) (list_of a.r) ≡ 0
in_range_lem c = sym (found-2 c) ∙ c.if-place-ne0.false

in_range_lem-2 : (c : goal.After-made-1) → let a = c.args in first_bad (layout (kind_of a.r)) (list_of a.r) ≡ 0
in_range_lem-2 c = sym (found-3 c) ∙ c.if-place-ne0.false

-- the string before its check bits are made
abbrev number : (c : goal.After-made-1) → ℕ
number c = let a = c.args in a.m * 2 ^ 80 + data_of (layout (kind_of a.r)) (list_of a.r)

-- the string before its check bits are made
abbrev number-2 : (c : goal.After-slice_known-2-1) → ℕ
number-2 c = let a = c.args in a.m * 2 ^ 80 + data_of (layout (kind_of a.r)) (list_of a.r)

number_lt : (c : goal.After-made-1) → number c < 2 ^ 85
number_lt c = let a = c.args in string_lt a.m a.r (of_kind_lem-3 c) (in_range_lem-2 c)

number_lt-2 : (c : goal.After-slice_known-2-1) → number-2 c < 2 ^ 85
number_lt-2 c = let a = c.args in string_lt a.m a.r (of_kind_lem-2 c) (in_range_lem c)

assembled : (c : goal.After-made-1) → c.assemble-made.result ≡ bytes_of_string (number c)
assembled c =
    c.assemble-made.ensures
    ∙ ap₂ (λ (k : Kind) (v : List ℤ). bytes_of_string (c.args.m * 2 ^ 80 + data_of (layout k) v))
    c.kind_of-k.ensures c.list_of-v.ensures

assembled-2 : (c : goal.After-slice_known-2-1) → c.assemble-made.result ≡ bytes_of_string (number-2 c)
assembled-2 c =
    c.assemble-made.ensures
    ∙ ap₂ (λ (k : Kind) (v : List ℤ). bytes_of_string (c.args.m * 2 ^ 80 + data_of (layout k) v))
    c.kind_of-k.ensures c.list_of-v.ensures

made : (c : goal.After-slice_known-2-1)
    → let a = c.args in c.make_check_bits.new.s ≡ bytes_of_string (string_of a.m a.r)
unfolding string_of
made c =
    c.make_check_bits.ensures ∙ ap (λ (l : List ℕ). bytes_of_string (encode (number_of l))) (assembled-2 c)
    ∙ ap (λ (x : ℕ). bytes_of_string (encode x)) (string_number_lem (number-2 c) (number_lt-2 c))

-- ---- the answers
pub returns-then-out-ne11 : goal.returns-then-out-ne11
returns-then-out-ne11 c = let a = c.args in write_no_room a.m a.r a.out.now c.if-out-ne11.true

pub returns-then-not-is_of_kind : goal.returns-then-not-is_of_kind
returns-then-not-is_of_kind c =
    let a = c.args in
    write_no_place a.m a.r a.out.now c.if-out-ne11.false (sym (kinded c) ∙ c.if-not-is_of_kind.true)

pub returns-then-place-ne0 : goal.returns-then-place-ne0
returns-then-place-ne0 c =
    let a = c.args in
    write_no_range a.m a.r a.out.now c.if-out-ne11.false (of_kind_lem c)
    c.first_bad-place.result (found c) c.if-place-ne0.true

pub make_check_bits-requires : goal.make_check_bits-requires
make_check_bits-requires c =
    (ap length (assembled c) ∙ string_length (number c), ap padding_of (assembled c) ∙ string_padding (number c) (number_lt c))

pub copy_from_slice-requires : goal.copy_from_slice-requires
copy_from_slice-requires c =
    c.if-out-ne11.false ∙ sym (c.make_check_bits.auto.s ∙ ap length c.assemble-made.ensures ∙ string_length _)

pub returns : goal.returns
returns c =
    let a = c.args in
    let room = c.if-out-ne11.false in
    let e = made c in
    let w = c.copy_from_slice.ensures.after ∙ e in
    subst (Writes a.m a.r a.out.now (Ok tt)) (sym w)
    (write_done a.m a.r a.out.now room (of_kind_lem-2 c) (in_range_lem c))
