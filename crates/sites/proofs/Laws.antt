-- The laws of joining two books (join-laws). Each says of every slot what `greater` does (crate `book`).
-- Assumes nothing.
use mathlib.Core.Path.{◌≡◌, refl, sym, ap, subst, ◌∙◌}
use mathlib.Core.Bool.{Bool, true, false, ◌&&◌, ◌||◌, true≢false}
use mathlib.Core.Logic.{inl, inr, ⊎_elim, ◌↔◌}
use Prim.Native.Nat.{ℕ, ◌≤◌}
use native.Mathlib.Omega.{arith}
use borrow.Author.Tests.{ltb-false}
use lib.Dec.{eqb, ltb}
use Rattle.book.specs.declared.Entry.{Entry}
use Rattle.book.specs.declared.Book.{Book}
use Rattle.book.specs.Entry.{Three, meaning, is_below, greater, Fits}
use Rattle.book.specs.Book.{slots, in_slot, empty_book, IsBook}
use Rattle.book.proofs.Order.{blank_fits, greater_left, greater_right, greater_one, greater_same, greater_assoc, greater_comm, greater_of_blank}
use Rattle.book.proofs.Joins.{empty_full, empty_slot}
use Rattle.sites.specs.Joining.{join_books, SlotJoined, JoinLaws}
use Rattle.sites.proofs.Slots.{same_slots, joined_long, slot_is}

-- ---- the greater of two is empty exactly where both are
not_below_day : (s t : Three) → is_below s t ≡ false → t.day ≤ s.day
not_below_day s t h = by (ltb s.day t.day) (eqb s.day t.day && (ltb s.even t.even || (eqb s.even t.even && ltb s.odd t.odd))) refl h
  where
    by : (a b : Bool) → ltb s.day t.day ≡ a → (a || b) ≡ false → t.day ≤ s.day
    by true b q e = absurd (true≢false e)
    by false b q e = ltb-false s.day t.day q

greater_empty : (x y : Entry) → ((greater x y).day ≡ 0) ↔ ((x.day ≡ 0) × (y.day ≡ 0))
greater_empty x y = (
  (λ z.
      let a : x.day ≤ (greater x y).day = not_below_day (meaning (greater x y)) (meaning x) (greater_left x y) in
      let b : y.day ≤ (greater x y).day = not_below_day (meaning (greater x y)) (meaning y) (greater_right x y) in
      (omega (arith, a, z), omega (arith, b, z))),
  (λ z. ⊎_elim (λ e. ap (λ (w : Entry). w.day) e ∙ z.0) (λ e. ap (λ (w : Entry). w.day) e ∙ z.1) (greater_one x y)),
)

-- ---- a slot
slot_joined : (a b : Book) (k : ℕ) → 1 ≤ k → k ≤ slots → SlotJoined a b k
slot_joined a b k l m =
    let x = in_slot a k in
    let y = in_slot b k in
    let q = slot_is a b k l m in
    record {
      is = q;
      one_of = ⊎_elim (λ e. inl (q ∙ e)) (λ e. inr (q ∙ e)) (greater_one x y);
      first = ap (λ (z : Entry). is_below (meaning z) (meaning x)) q ∙ greater_left x y;
      second = ap (λ (z : Entry). is_below (meaning z) (meaning y)) q ∙ greater_right x y;
      empty = (
        (λ z. (greater_empty x y).0 (sym (ap (λ (w : Entry). w.day) q) ∙ z)),
        (λ z. ap (λ (w : Entry). w.day) q ∙ (greater_empty x y).1 z),
      );
    }

pub is_joined : (a b : Book) → IsBook a → IsBook b → IsBook (join_books a b)
is_joined a b v w =
    record {
      long = joined_long a b;
      widths = λ k l m.
          ⊎_elim (λ e. subst Fits (sym (slot_is a b k l m ∙ e)) (v.widths k l m)) (λ e. subst Fits (sym (slot_is a b k l m ∙ e)) (w.widths k l m))
          (greater_one (in_slot a k) (in_slot b k));
    }

pub is_empty_lem : IsBook empty_book
is_empty_lem = record { long = empty_full; widths = λ k l m. subst Fits (sym (empty_slot k)) blank_fits }

-- ---- order and grouping
pub order : (a b : Book) → IsBook a → IsBook b → join_books a b ≡ join_books b a
order a b v w =
    same_slots (join_books a b) (join_books b a) (joined_long a b) (joined_long b a)
    (λ k l m. slot_is a b k l m ∙ greater_comm (in_slot a k) (in_slot b k) (v.widths k l m) (w.widths k l m) ∙ sym (slot_is b a k l m))

pub grouping : (a b c : Book) → join_books (join_books a b) c ≡ join_books a (join_books b c)
grouping a b c =
    same_slots (join_books (join_books a b) c) (join_books a (join_books b c)) (joined_long (join_books a b) c) (joined_long a (join_books b c))
    (λ k l m.
    slot_is (join_books a b) c k l m
    ∙ ap (λ (x : Entry). greater x (in_slot c k)) (slot_is a b k l m)
    ∙ greater_assoc (in_slot a k) (in_slot b k) (in_slot c k)
    ∙ ap (greater (in_slot a k)) (sym (slot_is b c k l m))
    ∙ sym (slot_is a (join_books b c) k l m))

pub itself : (b : Book) → IsBook b → join_books b b ≡ b
itself b w = same_slots (join_books b b) b (joined_long b b) w.long (λ k l m. slot_is b b k l m ∙ greater_same (in_slot b k))

pub empty_second : (b : Book) → IsBook b → join_books b empty_book ≡ b
empty_second b w =
    same_slots (join_books b empty_book) b (joined_long b empty_book) w.long
    (λ k l m. slot_is b empty_book k l m ∙ ap (greater (in_slot b k)) (empty_slot k) ∙ greater_of_blank (in_slot b k))

pub join_laws : JoinLaws
join_laws =
    record {
      slot = slot_joined;
      book = is_joined;
      order = order;
      grouping = grouping;
      itself = itself;
      empty_second = empty_second;
      empty_first = λ b w. order empty_book b is_empty_lem w ∙ empty_second b w;
    }
