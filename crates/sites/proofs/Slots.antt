-- A book slot by slot: two books with the same slots are the same (same-slots), a joined book has all its slots (joined-long), each what is kept of the two
-- (slot_is). And the code's loop: the slots passed are joined, the others are the first book's (Passed, begins, goes_on, ends).
-- Assumes nothing.
use mathlib.Core.Path.{◌≡◌, refl, sym, ap, ◌∙◌}
use mathlib.Core.List.{List, [], ◌∷◌, map}
use Prim.Native.Nat.{ℕ, zero, suc, ◌+◌, ◌-◌, ◌≤◌, ◌<◌}
use native.Mathlib.Nat.{le_of_suc-le-suc, not-suc-le-zero}
use native.Mathlib.Omega.{arith}
use lib.Dec.{eqb, eqb→eq}
use lib.ListN.{length, get_or, set, length-set}
use lib.Seq.{ext_get_or, get_or-set_same, get_or-set_other}
use mathlib.Core.Bool.{Bool, true, false}
use borrow.Author.Tests.{eqb-true, eqb-false}
use Rattle.strings.specs.Table413.{◌to◌}
use Rattle.strings.proofs.Below.{below_at}
use Rattle.book.specs.declared.Entry.{Entry}
use Rattle.book.specs.declared.Book.{Book}
use Rattle.book.specs.Entry.{blank}
use Rattle.book.specs.Book.{slots, in_slot}
use Rattle.sites.specs.Joining.{kept_of, join_books}

-- two books with the same slots are the same
pub same_slots : (a b : Book) → length a.entries ≡ slots → length b.entries ≡ slots → ((k : ℕ) → 1 ≤ k → k ≤ slots → in_slot a k ≡ in_slot b k) → a ≡ b
same_slots a b l m same =
    ap (λ (es : List Entry). record { entries = es })
    (ext_get_or blank a.entries b.entries (l ∙ sym m)
    (λ i h.
    let e : suc i - 1 ≡ i = omega arith in
    ap (λ (j : ℕ). get_or a.entries j blank) (sym e) ∙ same (suc i) (omega arith) (omega (arith, l)) ∙ ap (λ (j : ℕ). get_or b.entries j blank) e))

-- the slots in turn
slot_at : (i : ℕ) → i < slots → get_or (1 to slots) i 0 ≡ suc i
slot_at i h = eqb→eq _ (suc i) (below_at slots (λ k. eqb (get_or (1 to slots) k 0) (suc k)) tt i h)

made_at : (f : ℕ → Entry) (ks : List ℕ) (i : ℕ) → i < length ks → get_or (map f ks) i blank ≡ f (get_or ks i 0)
made_at f [] i h = absurd (not-suc-le-zero h)
made_at f (k ∷ ks) zero h = refl
made_at f (k ∷ ks) (suc i) h = made_at f ks i (le_of_suc-le-suc h)

module _ (a b : Book) where
  pub joined_long : length (join_books a b).entries ≡ slots
  unfolding join_books
  joined_long = refl

  -- EACH SLOT IS THE GREATER OF THE TWO
  pub entry_is : (i : ℕ) → i < slots → get_or (join_books a b).entries i blank ≡ kept_of (get_or a.entries i blank) (get_or b.entries i blank)
  unfolding join_books
  entry_is i h =
      let e : suc i - 1 ≡ i = omega arith in
      made_at (λ k. kept_of (in_slot a k) (in_slot b k)) (1 to slots) i h ∙ ap (λ (k : ℕ). kept_of (in_slot a k) (in_slot b k)) (slot_at i h)
      ∙ ap (λ (j : ℕ). kept_of (get_or a.entries j blank) (get_or b.entries j blank)) e

  pub slot_is : (k : ℕ) → 1 ≤ k → k ≤ slots → in_slot (join_books a b) k ≡ kept_of (in_slot a k) (in_slot b k)
  slot_is k l m = entry_is (k - 1) (omega arith)

-- ---- the code's loop: the first i entries are joined, the others are those of the first book
pub record Passed (xs ys : List Entry) (i : ℕ) (es : List Entry) : Type 0 where
  pub long : length es ≡ slots
  pub joined : (j : ℕ) → j < i → get_or es j blank ≡ kept_of (get_or xs j blank) (get_or ys j blank)

pub begins : (xs ys : List Entry) → length xs ≡ slots → Passed xs ys 0 xs
begins xs ys l = record { long = l; joined = λ j h. absurd (not-suc-le-zero h) }

pub goes_on : (xs ys : List Entry) (i : ℕ) (es : List Entry) (e : Entry) → i < slots → e ≡ kept_of (get_or xs i blank) (get_or ys i blank)
    → Passed xs ys i es → Passed xs ys (i + 1) (set es i e)
goes_on xs ys i es e there q p = record { long = length-set es i e ∙ p.long; joined = λ j h. by j h (eqb j i) refl }
  where
    by : (j : ℕ) → j < i + 1 → (t : Bool) → eqb j i ≡ t → get_or (set es i e) j blank ≡ kept_of (get_or xs j blank) (get_or ys j blank)
    by j h true w = rw (eqb-true j i w) (get_or-set_same es i e blank (omega (arith, there, p.long)) ∙ q)
    by j h false w = get_or-set_other es i j e blank (eqb-false j i w) ∙ p.joined j (let n = eqb-false j i w in omega arith)

pub ends : (xs ys : List Entry) (i : ℕ) (es : List Entry) → slots ≤ i → Passed xs ys i es
    → es ≡ (join_books (record { entries = xs }) (record { entries = ys })).entries
ends xs ys i es h p =
    let a : Book = record { entries = xs } in
    let b : Book = record { entries = ys } in
    ext_get_or blank es (join_books a b).entries (p.long ∙ sym (joined_long a b))
    (λ j l. p.joined j (omega (arith, p.long)) ∙ sym (entry_is a b j (omega (arith, p.long))))
