-- A slot against a set of entries: it holds the greatest of them, or nothing where there is none (Holding). What a book's slot holds after entries are
-- brought to it (holding-brought).
-- Assumes nothing.
use mathlib.Core.Path.{◌≡◌, refl, sym, ap, subst, ◌∙◌}
use mathlib.Core.Bool.{Bool, true, false, true≢false}
use mathlib.Core.List.{List, [], ◌∷◌}
use mathlib.Core.Logic.{◌⊎◌, inl, inr, ⊎_elim}
use Prim.Native.Nat.{ℕ, ◌≤◌}
use borrow.Author.Tests.{eqb-true, eqb-false}
use lib.Dec.{eqb}
use Rattle.strings.specs.Pick.{pick}
use Rattle.std.specs.Prelude.{Option, Some, None}
use Rattle.book.specs.declared.Entry.{Entry}
use Rattle.book.specs.declared.Book.{Book}
use Rattle.book.specs.Entry.{Three, meaning, is_below, entry_of, greater, blank}
use Rattle.book.specs.Book.{slots, in_slot, joined_shown}
use Rattle.book.proofs.Order.{below_trans, below_irrefl, below_same, blank_below}
use Rattle.book.proofs.Joins.{Full, shown_nothing, shown_slot, shown_other, shown_full}
use Rattle.shows.specs.Shows.{brought}

-- an entry has a day, and is what its three numbers say
abbrev pub Dated : Entry → Type 0
Dated x = (1 ≤ x.day) × (entry_of (meaning x) ≡ x)

pub record Holding (P : Three → Type 0) (x : Entry) : Type 0 where
  pub above : (u : Three) → P u → is_below (meaning x) u ≡ false
  pub one : (P (meaning x) × Dated x) ⊎ ((x ≡ blank) × ((u : Three) → P u → ⊥))

-- of the same set
pub holding_same : (P Q : Three → Type 0) (x : Entry) → ((u : Three) → P u → Q u) → ((u : Three) → Q u → P u) → Holding P x → Holding Q x
holding_same P Q x to from h =
    record {
      above = λ u q. h.above u (from u q);
      one = ⊎_elim (λ (w : P (meaning x) × Dated x). inl (to (meaning x) w.0, w.1))
          (λ (w : (x ≡ blank) × ((u : Three) → P u → ⊥)). inr (w.0, λ u q. w.1 u (from u q))) h.one;
    }

-- ---- one entry more: the slot keeps the greater
module _ (P : Three → Type 0) (x e : Entry) (dated : Dated e) (h : Holding P x) where
  abbrev more : Three → Type 0
  more u = P u ⊎ (u ≡ meaning e)

  -- it is the new one
  new_one : is_below (meaning x) (meaning e) ≡ true → Holding more e
  new_one b = record { above = λ u. ⊎_elim (λ (p : P u). by u p (is_below (meaning e) u) refl) (λ (q : u ≡ meaning e). ap (is_below (meaning e)) q ∙ below_irrefl (meaning e)); one = inl (inr refl, dated) }
    where
      by : (u : Three) → P u → (t : Bool) → is_below (meaning e) u ≡ t → t ≡ false
      by u p true q = absurd (true≢false (sym (below_trans (meaning x) (meaning e) u b q) ∙ h.above u p))
      by u p false q = refl

  -- the old one stays
  old_one : is_below (meaning x) (meaning e) ≡ false → Holding more x
  old_one b =
      record {
        above = λ u. ⊎_elim (λ (p : P u). h.above u p) (λ (q : u ≡ meaning e). ap (is_below (meaning x)) q ∙ b);
        one = ⊎_elim (λ (w : P (meaning x) × Dated x). inl (inl w.0, w.1))
            (λ (w : (x ≡ blank) × ((u : Three) → P u → ⊥)).
            absurd (true≢false (sym (blank_below e dated.0) ∙ ap (λ (y : Entry). is_below (meaning y) (meaning e)) (sym w.0) ∙ b))) h.one;
      }

  pub holding_more : Holding more (greater x e)
  unfolding greater
  holding_more = by (is_below (meaning x) (meaning e)) refl
    where
      by : (t : Bool) → is_below (meaning x) (meaning e) ≡ t → Holding more (pick t e x)
      by true b = new_one b
      by false b = old_one b

-- ---- all that is shown, brought to a book
-- an entry is shown for slot k among these
abbrev pub InShows : ℕ → Three → List (Option (ℕ × Entry)) → Type 0
InShows k u [] = ⊥
InShows k u (None ∷ ss) = InShows k u ss
InShows k u (Some (j, e) ∷ ss) = ((j ≡ k) × (u ≡ meaning e)) ⊎ InShows k u ss

-- what is shown is for a slot of the book, and is dated
abbrev pub Right : Option (ℕ × Entry) → Type 0
Right None = Unit
Right (Some (j, e)) = (1 ≤ j) × ((j ≤ slots) × Dated e)

abbrev pub AllRight : List (Option (ℕ × Entry)) → Type 0
AllRight [] = Unit
AllRight (s ∷ ss) = Right s × AllRight ss

pub brought_full : (ss : List (Option (ℕ × Entry))) (b : Book) → Full b → Full (brought b ss)
unfolding brought
brought_full [] b f = f
brought_full (s ∷ ss) b f = brought_full ss (joined_shown b s) (shown_full b s f)

module _ (k : ℕ) (least : 1 ≤ k) (most : k ≤ slots) where
  -- the first of them, for this slot or another
  holding_first : (P : Three → Type 0) (j : ℕ) (e : Entry) (ss : List (Option (ℕ × Entry))) (b : Book) → Right (Some (j, e)) → Full b → Holding P (in_slot b k)
      → ((Q : Three → Type 0) → Holding Q (in_slot (joined_shown b (Some (j, e))) k) → Holding (λ u. Q u ⊎ InShows k u ss) (in_slot (brought (joined_shown b (Some (j, e))) ss) k))
      → (t : Bool) → eqb j k ≡ t → Holding (λ u. P u ⊎ InShows k u (Some (j, e) ∷ ss)) (in_slot (brought (joined_shown b (Some (j, e))) ss) k)
  holding_first P j e ss b r f h ih true q =
      let w : j ≡ k = eqb-true j k q in
      let slot : in_slot (joined_shown b (Some (j, e))) k ≡ greater (in_slot b k) e =
      subst (λ (i : ℕ). in_slot (joined_shown b (Some (i, e))) k ≡ greater (in_slot b k) e) (sym w) (shown_slot b k e f least most)
      in
      let Q : Three → Type 0 = λ u. P u ⊎ (u ≡ meaning e) in
      holding_same (λ u. Q u ⊎ InShows k u ss) (λ u. P u ⊎ InShows k u (Some (j, e) ∷ ss)) (in_slot (brought (joined_shown b (Some (j, e))) ss) k)
      (λ u. ⊎_elim (⊎_elim inl (λ (m : u ≡ meaning e). inr (inl (w, m)))) (λ (i : InShows k u ss). inr (inr i)))
      (λ u. ⊎_elim (λ (p : P u). inl (inl p)) (⊎_elim (λ (m : (j ≡ k) × (u ≡ meaning e)). inl (inr m.1)) inr))
      (ih Q (subst (Holding Q) (sym slot) (holding_more P (in_slot b k) e r.1.1 h)))
  holding_first P j e ss b r f h ih false q =
      let n : j ≡ k → ⊥ = eqb-false j k q in
      holding_same (λ u. P u ⊎ InShows k u ss) (λ u. P u ⊎ InShows k u (Some (j, e) ∷ ss)) (in_slot (brought (joined_shown b (Some (j, e))) ss) k)
      (λ u. ⊎_elim inl (λ (i : InShows k u ss). inr (inr i)))
      (λ u. ⊎_elim inl (⊎_elim (λ (m : (j ≡ k) × (u ≡ meaning e)). absurd (n m.0)) inr))
      (ih P (subst (Holding P) (sym (shown_other b j e k r.0 least (λ w. n (sym w)))) h))

  -- THE SLOT HOLDS THE GREATEST OF WHAT WAS THERE AND WHAT IS BROUGHT
  pub holding_brought : (ss : List (Option (ℕ × Entry))) (P : Three → Type 0) (b : Book) → AllRight ss → Full b → Holding P (in_slot b k)
      → Holding (λ u. P u ⊎ InShows k u ss) (in_slot (brought b ss) k)
  unfolding brought
  holding_brought [] P b r f h = holding_same P (λ u. P u ⊎ ⊥) (in_slot b k) (λ u. inl) (λ u. ⊎_elim (λ (p : P u). p) (λ z. absurd z)) h
  holding_brought (None ∷ ss) P b r f h =
      subst (λ (x : Book). Holding (λ u. P u ⊎ InShows k u ss) (in_slot (brought x ss) k)) (sym (shown_nothing b)) (holding_brought ss P b r.1 f h)
  holding_brought (Some (j, e) ∷ ss) P b r f h =
      holding_first P j e ss b r.0 f h (λ Q g. holding_brought ss Q (joined_shown b (Some (j, e))) r.1 (shown_full b (Some (j, e)) f) g) (eqb j k) refl

-- ---- two slots that hold the greatest of the same entries are the same
pub held_once : (P Q : Three → Type 0) (x y : Entry) → ((u : Three) → P u → Q u) → ((u : Three) → Q u → P u) → Holding P x → Holding Q y → x ≡ y
held_once P Q x y to from h g =
    ⊎_elim
    (λ (a : P (meaning x) × Dated x). ⊎_elim
    (λ (b : Q (meaning y) × Dated y).
    sym a.1.1 ∙ ap entry_of (below_same (meaning x) (meaning y) (h.above (meaning y) (from (meaning y) b.0)) (g.above (meaning x) (to (meaning x) a.0))) ∙ b.1.1)
    (λ (b : (y ≡ blank) × ((u : Three) → Q u → ⊥)). absurd (b.1 (meaning x) (to (meaning x) a.0))) g.one)
    (λ (a : (x ≡ blank) × ((u : Three) → P u → ⊥)). ⊎_elim
    (λ (b : Q (meaning y) × Dated y). absurd (a.1 (meaning y) (from (meaning y) b.0)))
    (λ (b : (y ≡ blank) × ((u : Three) → Q u → ⊥)). a.0 ∙ sym b.0) g.one)
    h.one
