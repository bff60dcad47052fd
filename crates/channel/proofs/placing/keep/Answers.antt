-- `placing::keep` meets its contract: zeros where the mask has no string, then eleven bytes in their place, the bit and the news (`Storing`).
-- Assumes nothing.
use mathlib.Core.Path.{◌≡◌, sym, ap, subst, ◌∙◌}
use mathlib.Core.Bool.{Bool, true, false}
use mathlib.Core.List.{List}
use Prim.Native.Nat.{ℕ, ◌+◌, ◌-◌, ◌*◌, ◌%◌, ◌^◌, ◌≤◌}
use native.Mathlib.Omega.{arith}
use borrow.Rule.Slice.PartMut.{put_mid}
use lib.Bits.{bit_or}
use lib.ListN.{length, replicate, length-replicate}
use lib.Seq.{paste}
use Rattle.strings.specs.Number.{number_of}
use Rattle.std.specs.Prelude.{Ok}
use Rattle.strings.specs.Pick.{pick}
use Rattle.strings.proofs.Shape.{shaped}
use Rattle.words.proofs.WordBits.{word_lt}
use Rattle.channel.specs.Row.{holds_frame, bytes_by, held}
use Rattle.channel.specs.Offers.{StoresIn}
use Rattle.channel.proofs.Storing.{part_long, put_pasted, stores_by}
use Rattle.channel.proofs.placing.keep.Goals as goal
use Rattle.channel.proofs.placing.keep.Goals.{then-not-holds_frame, else-not-holds_frame}

-- the bytes that the string is stored among
among : (c : goal.After-news_at-news) → c.if-not-holds_frame.all ≡ bytes_by c.args.mask c.args.all.now
among c =
    let a = c.args in
    let by : Bool → List ℕ = λ (t : Bool). pick t a.all.now (replicate 165 0) in
    elim c.if-not-holds_frame.branch [
      | then-not-holds_frame w ↦
          w.all-is ∙ w.fill.ensures.after (λ y e. e) ∙ ap (λ (n : ℕ). replicate n 0) c.requires.0
          ∙ ap by (sym (sym c.holds_frame.ensures ∙ w.if-not-holds_frame.true))
      | else-not-holds_frame w ↦ w.all-is ∙ ap by (sym (sym c.holds_frame.ensures ∙ w.if-not-holds_frame.false))
    ]

-- they are 165
long : (c : goal.After-news_at-news) → length c.if-not-holds_frame.all ≡ 165
long c = ap length (among c) ∙ by (holds_frame c.args.mask)
  where
    by : (t : Bool) → length (pick t c.args.all.now (replicate 165 0)) ≡ 165
    by true = c.requires.0
    by false = length-replicate {A = ℕ} 165 0

-- m is from 1 to 15
numbered : (c : goal.After-news_at-news) → (1 ≤ c.number_in-m.result) × (c.number_in-m.result ≤ 15)
numbered c =
    let e = c.number_in-m.ensures in
    let l = c.requires.1.1 in
    (omega arith, omega (arith, word_lt (number_of c.args.s.now) 84 81))

-- its place is among them
fits : (c : goal.After-news_at-news) → (c.number_in-m.result - 1) * 11 + 11 ≤ length c.if-not-holds_frame.all
fits c = let n = numbered c in omega (arith, long c)

eleven : (c : goal.After-news_at-news) → length c.args.s.now ≡ 11
eleven c = (shaped _ c.requires.1.0).0

-- the bytes after the copy
abbrev left : (c : goal.After-news_at-news) → List ℕ
left c =
    let m = c.number_in-m.result in
    put_mid ((m - 1) * 11) ((m - 1) * 11 + 11 - (m - 1) * 11) c.if-not-holds_frame.all c.copy_from_slice.new.self

copied : (c : goal.After-news_at-news) → left c ≡ paste c.if-not-holds_frame.all ((c.number_in-m.result - 1) * 11) c.args.s.now 11
copied c =
    put_pasted c.if-not-holds_frame.all ((c.number_in-m.result - 1) * 11) (fits c) c.args.s.now c.copy_from_slice.new.self (eleven c) c.copy_from_slice.ensures.after

pub number_in-m-requires : goal.number_in-m-requires
number_in-m-requires c = (shaped _ c.requires.1.0).0

pub slice_bounds-copy_from_slice-end : goal.slice_bounds-copy_from_slice-end
slice_bounds-copy_from_slice-end c =
    let e = c.number_in-m.ensures in
    let h : (c.number_in-m.result - 1) * 11 + 11 ≤ length c.if-not-holds_frame.all = omega (arith, word_lt (number_of c.args.s.now) 84 81, c.if-not-holds_frame.auto.all, c.requires.0) in
    h

pub copy_from_slice-requires : goal.copy_from_slice-requires
copy_from_slice-requires c =
    let e = c.number_in-m.ensures in
    let h : (c.number_in-m.result - 1) * 11 + 11 ≤ length c.if-not-holds_frame.all = omega (arith, word_lt (number_of c.args.s.now) 84 81, c.if-not-holds_frame.auto.all, c.requires.0) in
    part_long c.if-not-holds_frame.all ((c.number_in-m.result - 1) * 11) h ∙ sym (shaped _ c.requires.1.0).0

pub returns : goal.returns
returns c =
    let a = c.args in
    let m = c.number_in-m.result in
    let mask = bit_or a.mask (1 * 2 ^ (m - 1) % 2 ^ 16) in
    subst (λ (x : List ℕ). StoresIn (held a.start a.mask x) (number_of a.s.now) a.v (Ok (m, a.v, c.news_at-news.result)) (held a.start mask (left c))) (among c)
    (stores_by a.start a.mask c.if-not-holds_frame.all m a.s.now (left c) a.v c.news_at-news.result (long c) (λ i. (c.type_inv.s i).fits)
    c.requires.1.0 c.requires.1.1 c.number_in-m.ensures (copied c) c.news_at-news.ensures)
