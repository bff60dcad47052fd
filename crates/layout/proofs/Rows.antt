-- What holds of the word at each place of the layout, by one computed test over all of them.
-- Assumes nothing.
use mathlib.Core.Path.{◌≡◌, refl, sym, ap, ◌∙◌, subst}
use mathlib.Core.Bool.{Bool, ◌&&◌}
use mathlib.Core.List.{List}
use Prim.Native.Nat.{ℕ, zero, suc, ◌+◌, ◌-◌, ◌/◌, ◌≤◌, ◌<◌}
use native.Mathlib.Omega.{arith}
use lib.Arith.{lt_of_le-ne}
use lib.Dec.{T, eqb, leb, ltb, eqb→eq, leb→le, ltb→lt}
use lib.ListN.{length, get_or, drop, replicate}
use lib.Seq.{get_or-drop}
use Rattle.strings.proofs.Below.{and_left, and_right, below, below_at}
use Rattle.layout.specs.declared.table.Form.{Form}
use Rattle.layout.specs.declared.table.Form.TheVariants.{Plain, Signed, Time, Interval, Day, Slot, Carrier}
use Rattle.layout.specs.declared.table.Word.{Word}
use Rattle.records.specs.declared.kinds.Kind.{Kind}
use Rattle.layout.specs.Layout.{layout, none, Placed}
use Rattle.layout.proofs.EveryKind.{kinds, every, every_kind}

-- ---- a word is placed, by tests
-- that of its form: a signed word has a bit, any other has at most 21, H at most 5
abbrev form_test : Form → ℕ → ℕ → Bool
form_test Plain t l = ltb t (l + 21)
form_test Signed t l = leb l t
form_test Time t l = ltb t (l + 21)
form_test Interval t l = ltb t (l + 21)
form_test Day t l = ltb t (l + 21)
form_test Slot t l = ltb t (l + 21)
form_test Carrier t l = ltb t (l + 5)

signless_by : (f : Form) (t l : ℕ) → T (form_test f t l) → (f ≡ Signed → ⊥) → t < l + 21
signless_by Plain t l b n = ltb→lt _ _ b
signless_by Signed t l b n = absurd (n refl)
signless_by Time t l b n = ltb→lt _ _ b
signless_by Interval t l b n = ltb→lt _ _ b
signless_by Day t l b n = ltb→lt _ _ b
signless_by Slot t l b n = ltb→lt _ _ b
signless_by Carrier t l b n = let h = ltb→lt t (l + 5) b in omega arith

abbrev placed_test : Word → Bool
placed_test w =
    leb 1 w.low && (leb w.low (w.top + 1) && (leb w.top 80 && (ltb w.top (w.low + 32)
    && (leb ((85 - w.top) / 8) ((85 - w.low) / 8) && form_test w.form w.top w.low))))

placed_by_lem : (w : Word) → T (placed_test w) → Placed w
placed_by_lem w t =
    let b₁ = and_right (leb 1 w.low) _ t in
    let b₂ = and_right (leb w.low (w.top + 1)) _ b₁ in
    let b₃ = and_right (leb w.top 80) _ b₂ in
    let b₄ = and_right (ltb w.top (w.low + 32)) _ b₃ in
    let b₅ = and_right (leb ((85 - w.top) / 8) ((85 - w.low) / 8)) _ b₄ in
    record {
      first = leb→le _ _ (and_left (leb 1 w.low) _ t);
      order = leb→le _ _ (and_left (leb w.low (w.top + 1)) _ b₁);
      high = leb→le _ _ (and_left (leb w.top 80) _ b₂);
      narrow = ltb→lt _ _ (and_left (ltb w.top (w.low + 32)) _ b₃);
      begun = leb→le _ _ (and_left (leb ((85 - w.top) / 8) ((85 - w.low) / 8)) _ b₄);
      sign = λ e. leb→le _ _ (subst (λ (f : Form). T (form_test f w.top w.low)) e b₅);
      signless = λ e. signless_by w.form w.top w.low b₅ e;
      carrier = λ e. ltb→lt _ _ (subst (λ (f : Form). T (form_test f w.top w.low)) e b₅);
    }

-- ---- the table, by one computed test: every word is placed
abbrev word_test : Kind → ℕ → Bool
word_test k j = placed_test (get_or (layout k) j none)

abbrev kind_test : Kind → Bool
kind_test k = eqb (length (layout k)) 8 && below 8 (word_test k)

all_right : T (every kind_test kinds)
unfolding layout
all_right = tt

pub layout_long : (k : Kind) → length (layout k) ≡ 8
layout_long k = eqb→eq _ _ (and_left (eqb (length (layout k)) 8) _ (every_kind kind_test all_right k))

pub placed_at : (k : Kind) (j : ℕ) → j < 8 → Placed (get_or (layout k) j none)
placed_at k j h =
    placed_by_lem (get_or (layout k) j none) (below_at 8 (word_test k) (and_right (eqb (length (layout k)) 8) _ (every_kind kind_test all_right k)) j h)

-- the words of a kind stand in the order of the paper's table, from the highest bit number down: each lies below those before it
abbrev fall_test : Kind → Bool
fall_test k = below 8 (λ j. below j (λ i. ltb (get_or (layout k) j none).top (get_or (layout k) i none).low))

all_fall : T (every fall_test kinds)
unfolding layout
all_fall = tt

pub words_fall : (k : Kind) (i j : ℕ) → i < j → j < 8 → (get_or (layout k) j none).top < (get_or (layout k) i none).low
words_fall k i j l u =
    ltb→lt _ _ (below_at j (λ i. ltb (get_or (layout k) j none).top (get_or (layout k) i none).low)
    (below_at 8 (λ j. below j (λ i. ltb (get_or (layout k) j none).top (get_or (layout k) i none).low)) (every_kind fall_test all_fall k) j u) i l)

-- the word that the code has for a kind's place
pub told_at : (k q : Kind) (j : ℕ) (w : Word) → k ≡ q → w ≡ get_or (layout q) j none → j < 8 → (w ≡ get_or (layout k) j none) × Placed w
told_at k q j w e f h =
    let g : w ≡ get_or (layout k) j none = f ∙ ap (λ (x : Kind). get_or (layout x) j none) (sym e) in
    (g, subst Placed (sym g) (placed_at k j h))

-- past the words there are fillers alone
none_at : (m j : ℕ) → get_or (replicate m none) j none ≡ none
none_at zero j = refl
none_at (suc m) zero = refl
none_at (suc m) (suc j) = none_at m j

-- a place that is not n is past it
pub beyond : (n j : ℕ) → n ≤ j → (j ≡ n → ⊥) → suc n ≤ j
beyond n j h k = lt_of_le-ne h (λ q. k (sym q))

pub past_words : (n m : ℕ) (ws : List Word) (j : ℕ) → drop n ws ≡ replicate m none → n ≤ j → none ≡ get_or ws j none
past_words n m ws j e h =
    let q : n + (j - n) ≡ j = omega arith in
    sym (ap (λ (k : ℕ). get_or ws k none) (sym q) ∙ sym (get_or-drop n ws (j - n) none) ∙ ap (λ (l : List Word). get_or l (j - n) none) e ∙ none_at m (j - n))
