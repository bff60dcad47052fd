-- Where an entry changes. A join leaves no entry below what it was (no_lower), so an entry that has risen stays above it (risen), and the book that is
-- left is another; where nothing rises it is the same (unchanged). Together: every-change.
-- Assumes nothing.
use Prim.Native.Nat.{ℕ, ◌<◌}
use mathlib.Core.Bool.{Bool, true, false, ◌||◌, true≢false, false≢true}
use mathlib.Core.List.{List, [], ◌∷◌}
use mathlib.Core.Path.{◌≡◌, refl, sym, ap, subst, ◌∙◌}
use native.Mathlib.Omega.{arith}
use borrow.Author.Tests.{eqb-true, eqb-false}
use lib.Dec.{eqb}
use lib.ListN.{length, get_or}
use lib.Seq.{get_or-set_same, get_or-set_other}
use Rattle.book.specs.declared.Entry.{Entry}
use Rattle.std.specs.Prelude.{Option, Some, None}
use Rattle.book.specs.declared.Book.{Book}
use Rattle.book.specs.Entry.{Three, blank, meaning, is_below, greater}
use Rattle.book.specs.Book.{InBook, place_in, rises_above, joined_entry, joined_shown}
use Rattle.book.proofs.Order.{below_irrefl, below_cut, greater_left}
use Rattle.book.proofs.Joins.{Full, shown_full, shown_in_place, shown_below}
use Rattle.shows.specs.Shows.{shows_of, brought, rises_in, changes}
use Rattle.shows.specs.Changes.{AllInBook, ChangesExactly, EveryChange}
use Rattle.shows.proofs.Shows.{in_book}

-- ---- where nothing rises
neither : (p q : Bool) → (p || q) ≡ false → (p ≡ false) × (q ≡ false)
neither true q h = absurd (true≢false h)
neither false q h = (refl, h)

pub unchanged : (ss : List (Option (ℕ × Entry))) (b : Book) → changes b ss ≡ false → brought b ss ≡ b
unfolding changes brought
unchanged [] b h = refl
unchanged (s ∷ ss) b h =
    let n = neither (rises_in b s) (changes (joined_shown b s) ss) h in
    unchanged ss (joined_shown b s) n.1 ∙ sym (shown_below b s n.0)

-- ---- one entry, at a place
abbrev at : Book → ℕ → Entry
at b i = get_or b.entries i blank

-- a is not below b in what it means
abbrev NoLower : Entry → Entry → Type 0
NoLower a b = is_below (meaning a) (meaning b) ≡ false

joined_no_lower : (old : Entry) (s : Option (ℕ × Entry)) → NoLower (joined_entry old s) old
unfolding joined_entry
joined_no_lower old None = below_irrefl (meaning old)
joined_no_lower old (Some (k, e)) = greater_left old e

joined_above : (old : Entry) (s : Option (ℕ × Entry)) → rises_above old s ≡ true → is_below (meaning old) (meaning (joined_entry old s)) ≡ true
unfolding joined_entry greater
joined_above old None h = absurd (false≢true h)
joined_above old (Some (k, e)) h = rw h h

-- below or equal, then below
below_later : (s t u : Three) → is_below t s ≡ false → is_below t u ≡ true → is_below s u ≡ true
below_later s t u n h = by (is_below s u) refl
  where
    by : (x : Bool) → is_below s u ≡ x → x ≡ true
    by true q = refl
    by false q = absurd (true≢false (sym (below_cut t s u h q) ∙ n))

-- and not below, twice
not_lower : (x y z : Entry) → NoLower y x → NoLower z y → NoLower z x
not_lower x y z p q = by (is_below (meaning z) (meaning x)) refl
  where
    by : (t : Bool) → is_below (meaning z) (meaning x) ≡ t → t ≡ false
    by true r = absurd (true≢false (sym (below_cut (meaning z) (meaning y) (meaning x) r p) ∙ q))
    by false r = refl

-- ---- a join, at each place of a book that has its slots
in_place : (b : Book) (s : Option (ℕ × Entry)) → Full b → InBook s → place_in s < length b.entries
in_place b None f i = omega (arith, f)
in_place b (Some (k, e)) f i = omega (arith, f, i.0, i.1)

module _ (b : Book) (s : Option (ℕ × Entry)) (f : Full b) (h : InBook s) where
  joined_at : at (joined_shown b s) (place_in s) ≡ joined_entry (at b (place_in s)) s
  joined_at =
      ap (λ (x : Book). at x (place_in s)) (sym (shown_in_place b s))
      ∙ get_or-set_same b.entries (place_in s) (joined_entry (at b (place_in s)) s) blank (in_place b s f h)

  joined_elsewhere : (i : ℕ) → (i ≡ place_in s → ⊥) → at (joined_shown b s) i ≡ at b i
  joined_elsewhere i n =
      ap (λ (x : Book). at x i) (sym (shown_in_place b s)) ∙ get_or-set_other b.entries (place_in s) i (joined_entry (at b (place_in s)) s) blank n

  one_no_lower : (i : ℕ) → NoLower (at (joined_shown b s) i) (at b i)
  one_no_lower i = by (eqb i (place_in s)) refl
    where
      by : (t : Bool) → eqb i (place_in s) ≡ t → NoLower (at (joined_shown b s) i) (at b i)
      by true q =
          subst (λ (j : ℕ). NoLower (at (joined_shown b s) j) (at b j)) (sym (eqb-true i (place_in s) q))
          (subst (λ (x : Entry). NoLower x (at b (place_in s))) (sym joined_at) (joined_no_lower (at b (place_in s)) s))
      by false q = subst (λ (x : Entry). NoLower x (at b i)) (sym (joined_elsewhere i (eqb-false i (place_in s) q))) (below_irrefl (meaning (at b i)))

-- ---- all that is shown
-- no entry is below what it was
no_lower : (ss : List (Option (ℕ × Entry))) (b : Book) → Full b → AllInBook ss → (i : ℕ) → NoLower (at (brought b ss) i) (at b i)
unfolding brought
no_lower [] b f a i = below_irrefl (meaning (at b i))
no_lower (s ∷ ss) b f a i =
    not_lower (at b i) (at (joined_shown b s) i) (at (brought (joined_shown b s) ss) i) (one_no_lower b s f a.0 i)
    (no_lower ss (joined_shown b s) (shown_full b s f) a.1 i)

-- and where something rises, an entry is above what it was
record Risen (b left : Book) : Type 0 where
  place : ℕ
  above : is_below (meaning (at b place)) (meaning (at left place)) ≡ true

risen : (ss : List (Option (ℕ × Entry))) (b : Book) → Full b → AllInBook ss → changes b ss ≡ true → Risen b (brought b ss)
unfolding changes brought
risen [] b f a h = absurd (false≢true h)
risen (s ∷ ss) b f a h = by (rises_in b s) refl h (risen ss (joined_shown b s) (shown_full b s f) a.1)
  where
    by : (t : Bool) → rises_in b s ≡ t → (t || changes (joined_shown b s) ss) ≡ true
        → (changes (joined_shown b s) ss ≡ true → Risen (joined_shown b s) (brought (joined_shown b s) ss)) → Risen b (brought (joined_shown b s) ss)
    by true q g later =
        let i = place_in s in
        let up : is_below (meaning (at b i)) (meaning (at (joined_shown b s) i)) ≡ true =
        subst (λ (x : Entry). is_below (meaning (at b i)) (meaning x) ≡ true) (sym (joined_at b s f a.0)) (joined_above (at b i) s q)
        in
        record {
          place = i;
          above = below_cut (meaning (at b i)) (meaning (at (brought (joined_shown b s) ss) i)) (meaning (at (joined_shown b s) i)) up
              (no_lower ss (joined_shown b s) (shown_full b s f) a.1 i);
        }
    by false q g later =
        let r = later g in
        let i = r.place in
        record {
          place = i;
          above = below_later (meaning (at b i)) (meaning (at (joined_shown b s) i)) (meaning (at (brought (joined_shown b s) ss) i)) (one_no_lower b s f a.0 i) r.above;
        }

-- so the same book is left only where nothing changes
same_left : (ss : List (Option (ℕ × Entry))) (b : Book) → Full b → AllInBook ss → brought b ss ≡ b → changes b ss ≡ false
same_left ss b f a e = by (changes b ss) refl
  where
    by : (t : Bool) → changes b ss ≡ t → t ≡ false
    by true q =
        let r = risen ss b f a q in
        let i = r.place in
        let z : is_below (meaning (at b i)) (meaning (at b i)) ≡ true =
        subst (λ (x : Book). is_below (meaning (at b i)) (meaning (at x i)) ≡ true) e r.above
        in
        absurd (true≢false (sym z ∙ below_irrefl (meaning (at b i))))
    by false q = refl

-- NOTHING CHANGES EXACTLY WHERE THE SAME BOOK IS LEFT
pub every_change : EveryChange
every_change b f =
    let exactly : (ss : List (Option (ℕ × Entry))) → AllInBook ss → ChangesExactly b ss = λ ss a. (unchanged ss b, same_left ss b f a) in
    record {
      shown = exactly;
      by_frame = λ g. exactly (shows_of g) (in_book g 6, (in_book g 8, (in_book g 10, (in_book g 12, (in_book g 14, tt)))));
    }
