-- The order of entries. By their three numbers it is irreflexive (below_irrefl), transitive (below-trans) and total (below_total): of two entries
-- neither is below the other exactly where their numbers are the same. The numbers of entries within their fields' widths tell them apart
-- (meaning-tells). The greater of two is one of them (greater-one), no less than both (greater-left, greater-right), and taking it is idempotent,
-- associative and, within the widths, commutative; the blank entry is the least (greater-blank).
-- Assumes nothing.
use mathlib.Core.Path.{◌≡◌, refl, sym, ap, ap₂, ◌∙◌, subst}
use mathlib.Core.Bool.{Bool, true, false, true≢false, false≢true, ◌&&◌}
use mathlib.Core.List.{List, [], ◌∷◌}
use mathlib.Core.Logic.{◌↔◌, ◌⊎◌, inl, inr, ⊎_elim}
use Prim.Native.Nat.{ℕ, ◌^◌, ◌≤◌, ◌<◌}
use native.Mathlib.Nat.{div-add-mod'}
use native.Mathlib.Omega.{arith}
use borrow.Author.Tests.{lt-ltb, le-ltb, eq-eqb, ne_eqb, ltb-true, ltb-false, eqb-true, eqb-false}
use lib.Dec.{eqb, ltb}
use lib.ListN.{length, get_or}
use lib.Pow.{high, low}
use Rattle.strings.specs.Pick.{pick}
use Rattle.book.specs.declared.Entry.{Entry}
use Rattle.book.specs.Entry.{Three, meaning, entry_of, is_below, greater, blank, Fits}
use Rattle.book.proofs.Parts.{first_differs, last_equal, two_parts}

-- ---- lists of numbers, by the first number that differs
abbrev lex_lt : List ℕ → List ℕ → Bool
lex_lt [] ys = false
lex_lt (x ∷ xs) [] = false
lex_lt (x ∷ xs) (y ∷ ys) = pick (eqb x y) (lex_lt xs ys) (ltb x y)

lt_step : (x y z : ℕ) (a b c : Bool) (t u : Bool) → eqb x y ≡ t → eqb y z ≡ u → (a ≡ true → b ≡ true → c ≡ true)
    → pick t a (ltb x y) ≡ true → pick u b (ltb y z) ≡ true → pick (eqb x z) c (ltb x z) ≡ true
lt_step x y z a b c true true e f h p q = simp (eq-eqb x z (eqb-true x y e ∙ eqb-true y z f)) (h p q)
lt_step x y z a b c true false e f h p q =
    let i : x ≡ y = eqb-true x y e in
    let j : y < z = ltb-true y z q in
    simp (ne_eqb x z (λ k. omega arith), lt-ltb x z (omega arith))
lt_step x y z a b c false true e f h p q =
    let i : y ≡ z = eqb-true y z f in
    let j : x < y = ltb-true x y p in
    simp (ne_eqb x z (λ k. omega arith), lt-ltb x z (omega arith))
lt_step x y z a b c false false e f h p q =
    let i : x < y = ltb-true x y p in
    let j : y < z = ltb-true y z q in
    simp (ne_eqb x z (λ k. omega arith), lt-ltb x z (omega arith))

lex_trans : (a b c : List ℕ) → lex_lt a b ≡ true → lex_lt b c ≡ true → lex_lt a c ≡ true
lex_trans [] b c p q = p
lex_trans (x ∷ xs) [] c p q = absurd (false≢true p)
lex_trans (x ∷ xs) (y ∷ ys) [] p q = absurd (false≢true q)
lex_trans (x ∷ xs) (y ∷ ys) (z ∷ zs) p q =
    lt_step x y z (lex_lt xs ys) (lex_lt ys zs) (lex_lt xs zs) (eqb x y) (eqb y z) refl refl (lex_trans xs ys zs) p q

lex_irrefl : (a : List ℕ) → lex_lt a a ≡ false
lex_irrefl [] = refl
lex_irrefl (x ∷ xs) = simp (eq-eqb x x refl) (lex_irrefl xs)

same_step : (x y : ℕ) (xs ys : List ℕ) (t : Bool) → eqb x y ≡ t → (lex_lt xs ys ≡ false → lex_lt ys xs ≡ false → xs ≡ ys)
    → pick t (lex_lt xs ys) (ltb x y) ≡ false → pick (eqb y x) (lex_lt ys xs) (ltb y x) ≡ false → ◌≡◌ {A = List ℕ} (x ∷ xs) (y ∷ ys)
same_step x y xs ys true e h p q =
    let i : x ≡ y = eqb-true x y e in
    let r : lex_lt ys xs ≡ false = simp (eq-eqb y x (sym i)) at q in
    let k : xs ≡ ys = h p r in
    cc
same_step x y xs ys false e h p q =
    let n : x ≡ y → ⊥ = eqb-false x y e in
    let r : ltb y x ≡ false = simp (ne_eqb y x (λ k. n (sym k))) at q in
    absurd (n (omega (arith, ltb-false x y p, ltb-false y x r)))

lex_same : (a b : List ℕ) → length a ≡ length b → lex_lt a b ≡ false → lex_lt b a ≡ false → a ≡ b
lex_same [] [] l p q = refl
lex_same [] (y ∷ ys) l p q = absurd (omega arith)
lex_same (x ∷ xs) [] l p q = absurd (omega arith)
lex_same (x ∷ xs) (y ∷ ys) l p q = same_step x y xs ys (eqb x y) refl (lex_same xs ys (omega arith)) p q

-- ---- three numbers
abbrev key : Three → List ℕ
key t = t.day ∷ t.even ∷ t.odd ∷ []

-- three numbers are made again of their list
abbrev again : List ℕ → Three
again k = record { day = get_or k 0 0; even = get_or k 1 0; odd = get_or k 2 0 }

below_lex : (s t : Three) → is_below s t ≡ lex_lt (key s) (key t)
below_lex s t =
    first_differs s.day t.day _
    ∙ ap (λ (r : Bool). pick (eqb s.day t.day) r (ltb s.day t.day))
    (first_differs s.even t.even _
    ∙ ap (λ (r : Bool). pick (eqb s.even t.even) r (ltb s.even t.even)) (last_equal s.odd t.odd))

pub below_irrefl : (t : Three) → is_below t t ≡ false
below_irrefl t = below_lex t t ∙ lex_irrefl (key t)

pub below_trans : (s t u : Three) → is_below s t ≡ true → is_below t u ≡ true → is_below s u ≡ true
below_trans s t u p q = below_lex s u ∙ lex_trans (key s) (key t) (key u) (sym (below_lex s t) ∙ p) (sym (below_lex t u) ∙ q)

pub below_same : (s t : Three) → is_below s t ≡ false → is_below t s ≡ false → s ≡ t
below_same s t p q = ap again (lex_same (key s) (key t) refl (sym (below_lex s t) ∙ p) (sym (below_lex t s) ∙ q))

-- TOTAL: neither is below the other exactly where they are the same
pub below_total : (s t : Three) → ((is_below s t ≡ false) × (is_below t s ≡ false)) ↔ (s ≡ t)
below_total s t = (
  (λ h. below_same s t h.0 h.1),
  (λ e. (ap (is_below s) (sym e) ∙ below_irrefl s, ap (λ (u : Three). is_below u s) (sym e) ∙ below_irrefl s)),
)

-- two are never both below each other
pub below_one_way : (s t : Three) → is_below s t ≡ true → is_below t s ≡ false
below_one_way s t p = by (is_below t s) refl
  where
    by : (b : Bool) → is_below t s ≡ b → is_below t s ≡ false
    by true q = absurd (true≢false (sym (below_trans s t s p q) ∙ below_irrefl s))
    by false q = q

-- what is below u is below all that is not below u
pub below_cut : (s t u : Three) → is_below s u ≡ true → is_below t u ≡ false → is_below s t ≡ true
below_cut s t u p q = by (is_below u t) refl
  where
    by : (b : Bool) → is_below u t ≡ b → is_below s t ≡ true
    by true r = below_trans s u t p r
    by false r = subst (λ (x : Three). is_below s x ≡ true) (below_same u t r q) p

-- ---- an entry and its three numbers
-- an entry is its five fields
pub same_entry : (e f : Entry) → e.even ≡ f.even → e.odd ≡ f.odd → e.day ≡ f.day → e.etop ≡ f.etop → e.otop ≡ f.otop → e ≡ f
same_entry e f p q r s t =
    ap₂ (λ (x y : ℕ). record { even = x; odd = y; day = e.day; etop = e.etop; otop = e.otop }) p q
    ∙ ap₂ (λ (x y : ℕ). record { even = f.even; odd = f.odd; day = x; etop = y; otop = e.otop }) r s
    ∙ ap (λ (x : ℕ). record { even = f.even; odd = f.odd; day = f.day; etop = f.etop; otop = x }) t

-- the struct of three numbers means them, whatever they are
pub meaning_entry : (t : Three) → meaning (entry_of t) ≡ t
unfolding entry_of
meaning_entry t =
    ap₂ (λ (x y : ℕ). record { day = t.day; even = x; odd = y }) (div-add-mod' t.even (2 ^ 64)) (div-add-mod' t.odd (2 ^ 64))

pub entry_meaning : (e : Entry) → Fits e → entry_of (meaning e) ≡ e
unfolding entry_of
entry_meaning e f =
    let a = low e.etop 64 f.even in
    let b = low e.otop 64 f.odd in
    let c = high e.etop 64 f.even in
    let d = high e.otop 64 f.odd in
    rw (a, b, c, d)

pub blank_fits : Fits blank
blank_fits = record { even = omega arith; odd = omega arith; day = omega arith; etop = omega arith; otop = omega arith }

-- THE NUMBERS TELL ENTRIES APART
pub meaning_tells : (e f : Entry) → Fits e → Fits f → meaning e ≡ meaning f → e ≡ f
meaning_tells e f a b m = sym (entry_meaning e a) ∙ ap entry_of m ∙ entry_meaning f b

-- so of two entries neither is below the other exactly where they are the same entry
pub entries_total : (e f : Entry) → Fits e → Fits f → ((is_below (meaning e) (meaning f) ≡ false) × (is_below (meaning f) (meaning e) ≡ false)) ↔ (e ≡ f)
entries_total e f a b = (
  (λ h. meaning_tells e f a b ((below_total (meaning e) (meaning f)).0 h)),
  (λ q. (below_total (meaning e) (meaning f)).1 (ap meaning q)),
)

-- ---- the code's order, by the five fields: each number of two parts compares by the high part, then by the low one
pub below_fields : (a b : Entry) → a.even < 2 ^ 64 → b.even < 2 ^ 64 → a.odd < 2 ^ 64 → b.odd < 2 ^ 64
    → is_below (meaning a) (meaning b)
    ≡ pick (eqb a.day b.day)
    (pick (eqb a.etop b.etop)
    (pick (eqb a.even b.even) (pick (eqb a.otop b.otop) (ltb a.odd b.odd) (ltb a.otop b.otop)) (ltb a.even b.even))
    (ltb a.etop b.etop))
    (ltb a.day b.day)
below_fields a b ea eb oa ob =
    below_lex (meaning a) (meaning b)
    ∙ ap (λ (r : Bool). pick (eqb a.day b.day) r (ltb a.day b.day))
    (two_parts (2 ^ 64) a.etop a.even b.etop b.even ea eb _
    ∙ ap (λ (r : Bool). pick (eqb a.etop b.etop) (pick (eqb a.even b.even) r (ltb a.even b.even)) (ltb a.etop b.etop))
    (two_parts (2 ^ 64) a.otop a.odd b.otop b.odd oa ob false
    ∙ ap (λ (r : Bool). pick (eqb a.otop b.otop) r (ltb a.otop b.otop)) (sym (last_equal a.odd b.odd))))

-- ---- the blank entry
-- THE BLANK ENTRY IS THE LEAST: nothing is below it, and it is below every entry of a day
pub blank_least : (t : Three) → is_below t (meaning blank) ≡ false
blank_least t =
    simp (le-ltb t.day 0 (omega arith), le-ltb t.even 0 (omega arith), le-ltb t.odd 0 (omega arith)) (by (eqb t.day 0) (eqb t.even 0))
  where
    by : (a b : Bool) → (a && (b && false)) ≡ false
    by true true = refl
    by true false = refl
    by false b = refl

pub blank_below : (e : Entry) → 1 ≤ e.day → is_below (meaning blank) (meaning e) ≡ true
blank_below e h = simp (lt-ltb 0 e.day h)

pub greater_blank : (e : Entry) → 1 ≤ e.day → greater blank e ≡ e
unfolding greater
greater_blank e h = rw (blank_below e h)

-- to any entry it brings nothing
pub greater_of_blank : (e : Entry) → greater e blank ≡ e
unfolding greater
greater_of_blank e = rw (blank_least (meaning e))

-- ---- the greater of two
-- it is below neither
pub greater_left : (a b : Entry) → is_below (meaning (greater a b)) (meaning a) ≡ false
unfolding greater
greater_left a b = by (is_below (meaning a) (meaning b)) refl
  where
    by : (t : Bool) → is_below (meaning a) (meaning b) ≡ t → is_below (meaning (greater a b)) (meaning a) ≡ false
    by true p = rw p (below_one_way (meaning a) (meaning b) p)
    by false p = rw p (below_irrefl (meaning a))

pub greater_right : (a b : Entry) → is_below (meaning (greater a b)) (meaning b) ≡ false
unfolding greater
greater_right a b = by (is_below (meaning a) (meaning b)) refl
  where
    by : (t : Bool) → is_below (meaning a) (meaning b) ≡ t → is_below (meaning (greater a b)) (meaning b) ≡ false
    by true p = rw p (below_irrefl (meaning b))
    by false p = rw p p

-- it is one of them
pub greater_one : (a b : Entry) → (greater a b ≡ a) ⊎ (greater a b ≡ b)
unfolding greater
greater_one a b = by (is_below (meaning a) (meaning b)) refl
  where
    by : (t : Bool) → is_below (meaning a) (meaning b) ≡ t → (greater a b ≡ a) ⊎ (greater a b ≡ b)
    by true p = inr (rw p)
    by false p = inl (rw p)

pub greater_fits : (a b : Entry) → Fits a → Fits b → Fits (greater a b)
greater_fits a b f g = ⊎_elim (λ e. subst Fits (sym e) f) (λ e. subst Fits (sym e) g) (greater_one a b)

-- IDEMPOTENT, ASSOCIATIVE, COMMUTATIVE
pub greater_same : (a : Entry) → greater a a ≡ a
unfolding greater
greater_same a = rw (below_irrefl (meaning a))

pub greater_assoc : (a b c : Entry) → greater (greater a b) c ≡ greater a (greater b c)
unfolding greater
greater_assoc a b c = by (is_below (meaning a) (meaning b)) (is_below (meaning b) (meaning c)) (is_below (meaning a) (meaning c)) refl refl refl
  where
    by : (t u v : Bool) → is_below (meaning a) (meaning b) ≡ t → is_below (meaning b) (meaning c) ≡ u → is_below (meaning a) (meaning c) ≡ v
        → greater (pick t b a) c ≡ greater a (pick u c b)
    by true true v p q r = simp (q, below_trans (meaning a) (meaning b) (meaning c) p q)
    by true false v p q r = simp (p, q)
    by false true v p q r = refl
    by false false true p q r = absurd (true≢false (sym (below_cut (meaning a) (meaning b) (meaning c) r q) ∙ p))
    by false false false p q r = simp (p, r)

pub greater_comm : (a b : Entry) → Fits a → Fits b → greater a b ≡ greater b a
unfolding greater
greater_comm a b f g = by (is_below (meaning a) (meaning b)) (is_below (meaning b) (meaning a)) refl refl
  where
    by : (t u : Bool) → is_below (meaning a) (meaning b) ≡ t → is_below (meaning b) (meaning a) ≡ u → pick t b a ≡ pick u a b
    by true true p q = absurd (true≢false (sym q ∙ below_one_way (meaning a) (meaning b) p))
    by true false p q = refl
    by false true p q = refl
    by false false p q = meaning_tells a b f g (below_same (meaning a) (meaning b) p q)

-- the order in which two entries come to a third does not matter
pub greater_swap : (x e f : Entry) → Fits e → Fits f → greater (greater x e) f ≡ greater (greater x f) e
greater_swap x e f a b = greater_assoc x e f ∙ ap (greater x) (greater_comm e f a b) ∙ sym (greater_assoc x f e)

-- what came already changes nothing
pub greater_again : (x e : Entry) → greater (greater x e) e ≡ greater x e
greater_again x e = greater_assoc x e e ∙ ap (greater x) (greater_same e)
