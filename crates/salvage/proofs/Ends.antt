-- How a call ends (ending): all items fit and it is whole, or it stops before the first with which they do not (end). What it left, in the words of its relation
-- (written-bytes, written-list, left_in, ended_is). The items written follow one another up to the byte told (follow-written).
-- Assumes nothing.
use Prim.Native.Nat.{ℕ, ◌+◌, ◌-◌, ◌*◌, ◌≤◌, zero-le}
use native.Mathlib.Omega.{arith}
use mathlib.Core.Path.{◌≡◌, refl, sym, ap, ◌∙◌}
use mathlib.Core.Bool.{Bool, true, false}
use mathlib.Core.List.{List, [], ◌∷◌, ◌++◌, append-nil}
use mathlib.Core.Logic.{◌⊎◌, inl, inr, ⊎_elim, ◌↔◌}
use lib.Dec.{leb}
use lib.ListN.{length, drop, length-append}
use lib.Seq.{take-append_seam}
use borrow.Author.Tests.{leb-true, leb-false, le-leb}
use Rattle.strings.specs.Pick.{pick}
use Rattle.salvage.specs.declared.Full.{Full}
use Rattle.std.specs.Prelude.{Result, Ok, Err, ⊤}
use Rattle.salvage.specs.declared.Full.TheVariants.{Output as OutputFull, List as ListFull}
use Rattle.salvage.specs.declared.Salvaged.{Salvaged}
use Rattle.salvage.specs.Items.{Item, Kept, Skipped, items_of}
use Rattle.salvage.specs.Rules.{Follow}
use Rattle.salvage.specs.Writing.{fitting, end_of, end_number, kept_bytes, stretches, skips, slots_of, Salvages}
use Rattle.salvage.specs.Laws.{bytes_in, list_in, stop_of, kept_count, Fit, StopsAt, Ends}
use Rattle.salvage.proofs.Rules.{follow_le, rules}

-- ---- the three ends are three
by_number : (a b : Result ⊤ Full) → (end_number a ≡ end_number b → ⊥) → a ≡ b → ⊥
by_number a b n e = n (ap end_number e)

whole_output : (at : ℕ) → ◌≡◌ {A = Result ⊤ Full} (Ok tt) (Err (OutputFull at)) → ⊥
whole_output at = by_number (Ok tt) (Err (OutputFull at)) (λ e. omega (arith, e))

whole_list : (at : ℕ) → ◌≡◌ {A = Result ⊤ Full} (Ok tt) (Err (ListFull at)) → ⊥
whole_list at = by_number (Ok tt) (Err (ListFull at)) (λ e. omega (arith, e))

output_list : (a b : ℕ) → ◌≡◌ {A = Result ⊤ Full} (Err (OutputFull a)) (Err (ListFull b)) → ⊥
output_list a b = by_number (Err (OutputFull a)) (Err (ListFull b)) (λ e. omega (arith, e))

-- the end that is told of an item for which there is no room
abbrev pub end_by : Item → Result ⊤ Full
end_by (Kept at n) = Err (OutputFull at)
end_by (Skipped at n) = Err (ListFull at)

end_by_not : (i : Item) → end_by i ≡ Ok tt → ⊥
end_by_not (Kept at n) e = whole_output at (sym e)
end_by_not (Skipped at n) e = whole_list at (sym e)

-- ---- all items fit, or there is a first with which they do not
pub record Stopped (room slots : ℕ) (items written : List Item) (ended : Result ⊤ Full) : Type 0 where
  pub next : Item
  pub after : List Item
  pub split : items ≡ written ++ (next ∷ after)
  pub full : Fit room slots (written ++ (next ∷ [])) → ⊥
  pub told : ended ≡ end_by next

pub record Ending (room slots : ℕ) (items written : List Item) (ended : Result ⊤ Full) : Type 0 where
  pub fit : Fit room slots written
  pub either : ((written ≡ items) × (ended ≡ Ok tt)) ⊎ Stopped room slots items written ended

-- one item more in front, of which there is room
module _ (room slots room' slots' : ℕ) (i : Item) (is w : List Item) (e : Result ⊤ Full) (h : (x : List Item) → Fit room' slots' x ↔ Fit room slots (i ∷ x)) where
  fits_more : Ending room' slots' is w e → Ending room slots (i ∷ is) (i ∷ w) e
  fits_more g = record { fit = (h w).0 g.fit; either = ⊎_elim (λ (x : (w ≡ is) × (e ≡ Ok tt)). inl (ap (λ (l : List Item). i ∷ l) x.0, x.1)) more g.either }
    where
      more : Stopped room' slots' is w e → ((i ∷ w ≡ i ∷ is) × (e ≡ Ok tt)) ⊎ Stopped room slots (i ∷ is) (i ∷ w) e
      more x =
          inr (record {
            next = x.next;
            after = x.after;
            split = ap (λ (l : List Item). i ∷ l) x.split;
            full = λ f. x.full ((h (w ++ (x.next ∷ []))).1 f);
            told = x.told;
          })

none_fits_lem : (room slots : ℕ) (i : Item) (is : List Item) → (Fit room slots (i ∷ []) → ⊥) → Ending room slots (i ∷ is) [] (end_by i)
none_fits_lem room slots i is n = record { fit = (zero-le, zero-le); either = inr (record { next = i; after = is; split = refl; full = n; told = refl }) }

ending_pick : (t : Bool) (room slots : ℕ) (items w : List Item) (e : Result ⊤ Full) (i : Item) → (t ≡ true → Ending room slots items w e)
    → (t ≡ false → Ending room slots items [] (end_by i)) → Ending room slots items (pick t w []) (pick t e (end_by i))
ending_pick true room slots items w e i f g = f refl
ending_pick false room slots items w e i f g = g refl

pub ending : (room slots : ℕ) (is : List Item) → Ending room slots is (fitting room slots is) (end_of room slots is)
ending room slots [] = record { fit = (zero-le, zero-le); either = inl (refl, refl) }
ending room slots (Kept at n ∷ is) =
    ending_pick (leb n room) room slots (Kept at n ∷ is) (Kept at n ∷ fitting (room - n) slots is) (end_of (room - n) slots is) (Kept at n)
    (λ t.
    let l = leb-true n room t in
    fits_more room slots (room - n) slots (Kept at n) is (fitting (room - n) slots is) (end_of (room - n) slots is)
    (λ x. ((λ f. (omega (arith, f.0, l), f.1)), (λ f. (omega (arith, f.0), f.1)))) (ending (room - n) slots is))
    (λ t. none_fits_lem room slots (Kept at n) is (λ f. omega (arith, f.0, leb-false n room t)))
ending room slots (Skipped at n ∷ is) =
    ending_pick (leb 1 slots) room slots (Skipped at n ∷ is) (Skipped at n ∷ fitting room (slots - 1) is) (end_of room (slots - 1) is) (Skipped at n)
    (λ t.
    let l = leb-true 1 slots t in
    fits_more room slots room (slots - 1) (Skipped at n) is (fitting room (slots - 1) is) (end_of room (slots - 1) is)
    (λ x. ((λ f. (f.0, omega (arith, f.1, l))), (λ f. (f.0, omega (arith, f.1))))) (ending room (slots - 1) is))
    (λ t. none_fits_lem room slots (Skipped at n) is (λ f. omega (arith, f.1, leb-false 1 slots t)))

pub unrefused : (room slots : ℕ) (is : List Item) → end_of room slots is ≡ Ok tt → fitting room slots is ≡ is
unrefused room slots is h =
    ⊎_elim (λ (x : (fitting room slots is ≡ is) × (end_of room slots is ≡ Ok tt)). x.0)
    (λ (x : Stopped room slots is (fitting room slots is) (end_of room slots is)). absurd (end_by_not x.next (sym x.told ∙ h)))
    (ending room slots is).either

-- what is written stands in front
pub record Front (items written : List Item) : Type 0 where
  pub after : List Item
  pub split : items ≡ written ++ after

pub front_of : (room slots : ℕ) (is : List Item) → Front is (fitting room slots is)
front_of room slots is =
    ⊎_elim (λ (x : (fitting room slots is ≡ is) × (end_of room slots is ≡ Ok tt)). record { after = []; split = sym (append-nil (fitting room slots is) ∙ x.0) })
    (λ (x : Stopped room slots is (fitting room slots is) (end_of room slots is)). record { after = x.next ∷ x.after; split = x.split })
    (ending room slots is).either

-- ---- the other way round: by the place where the items stop to fit
kept_append : (a b : List Item) → kept_count (a ++ b) ≡ kept_count a + kept_count b
kept_append [] b = omega arith
kept_append (Kept at n ∷ a) b = omega (arith, kept_append a b)
kept_append (Skipped at n ∷ a) b = kept_append a b

skips_append : (a b : List Item) → skips (a ++ b) ≡ skips a + skips b
skips_append [] b = omega arith
skips_append (Kept at n ∷ a) b = skips_append a b
skips_append (Skipped at n ∷ a) b = omega (arith, skips_append a b)

pub fit_whole : (room slots : ℕ) (is : List Item) → Fit room slots is → end_of room slots is ≡ Ok tt
fit_whole room slots [] f = refl
fit_whole room slots (Kept at n ∷ is) f = rw (le-leb n room (omega (arith, f.0))) (fit_whole (room - n) slots is (omega (arith, f.0), f.1))
fit_whole room slots (Skipped at n ∷ is) f = rw (le-leb 1 slots (omega (arith, f.1))) (fit_whole room (slots - 1) is (f.0, omega (arith, f.1)))

stop_now : (room slots : ℕ) (i : Item) (is : List Item) → (Fit room slots (i ∷ []) → ⊥) → end_of room slots (i ∷ is) ≡ end_by i
stop_now room slots (Kept at n) is f = by (leb n room) refl
  where
    by : (t : Bool) → leb n room ≡ t → pick t (end_of (room - n) slots is) (Err (OutputFull at)) ≡ Err (OutputFull at)
    by true e = absurd (f (omega (arith, leb-true n room e), zero-le))
    by false e = refl
stop_now room slots (Skipped at n) is f = by (leb 1 slots) refl
  where
    by : (t : Bool) → leb 1 slots ≡ t → pick t (end_of room (slots - 1) is) (Err (ListFull at)) ≡ Err (ListFull at)
    by true e = absurd (f (zero-le, leb-true 1 slots e))
    by false e = refl

stop_later : (room slots : ℕ) (b : List Item) (i : Item) (is : List Item) → Fit room slots b → (Fit room slots (b ++ (i ∷ [])) → ⊥)
    → end_of room slots (b ++ (i ∷ is)) ≡ end_by i
stop_later room slots [] i is f n = stop_now room slots i is n
stop_later room slots (Kept at m ∷ b) i is f n =
    let l : m ≤ room = omega (arith, f.0) in
    rw (le-leb m room l) (stop_later (room - m) slots b i is (omega (arith, f.0), f.1) (λ g. n (omega (arith, g.0, l), g.1)))
stop_later room slots (Skipped at m ∷ b) i is f n =
    let l : 1 ≤ slots = omega (arith, f.1) in
    rw (le-leb 1 slots l) (stop_later room (slots - 1) b i is (f.0, omega (arith, f.1)) (λ g. n (g.0, omega (arith, g.1, l))))

-- ---- each end exactly where its rule says
module _ (room slots : ℕ) (is : List Item) where
  abbrev told : Result ⊤ Full
  told = end_of room slots is

  abbrev written : List Item
  written = fitting room slots is

  stops_told : (next : ℕ → Item) → StopsAt is room slots next → (e : Result ⊤ Full) → ((n : ℕ) → end_by (next n) ≡ e) → told ≡ e
  stops_told next x e h =
      ap (end_of room slots) x.split ∙ stop_later room slots x.before (next x.count) x.after x.fit x.full ∙ h x.count

  whole_fit : told ≡ Ok tt → Fit room slots is
  whole_fit h = let e = unrefused room slots is h in rw e at (ending room slots is).fit

  told_stop : (e : Result ⊤ Full) → (e ≡ Ok tt → ⊥) → told ≡ e → Stopped room slots is written told
  told_stop e n h =
      ⊎_elim (λ (x : (written ≡ is) × (told ≡ Ok tt)). absurd (n (sym h ∙ x.1))) (λ (x : Stopped room slots is written told). x)
      (ending room slots is).either

  output_stops : (at : ℕ) → told ≡ Err (OutputFull at) → StopsAt is room slots (Kept at)
  output_stops at h = let x = told_stop (Err (OutputFull at)) (λ e. whole_output at (sym e)) h in by x.next x.after x.split x.full (sym x.told ∙ h)
    where
      by : (i : Item) (after : List Item) → is ≡ written ++ (i ∷ after) → (Fit room slots (written ++ (i ∷ [])) → ⊥) → end_by i ≡ Err (OutputFull at)
          → StopsAt is room slots (Kept at)
      by (Kept a n) after s f e =
          let p : a ≡ at = ap (λ (x : Result ⊤ Full). stop_of x 0) e in
          rw (← p) (record { before = written; after = after; count = n; split = s; fit = (ending room slots is).fit; full = f })
      by (Skipped a n) after s f e = absurd (output_list at a (sym e))

  list_stops : (at : ℕ) → told ≡ Err (ListFull at) → StopsAt is room slots (Skipped at)
  list_stops at h = let x = told_stop (Err (ListFull at)) (λ e. whole_list at (sym e)) h in by x.next x.after x.split x.full (sym x.told ∙ h)
    where
      by : (i : Item) (after : List Item) → is ≡ written ++ (i ∷ after) → (Fit room slots (written ++ (i ∷ [])) → ⊥) → end_by i ≡ Err (ListFull at)
          → StopsAt is room slots (Skipped at)
      by (Skipped a n) after s f e =
          let p : a ≡ at = ap (λ (x : Result ⊤ Full). stop_of x 0) e in
          rw (← p) (record { before = written; after = after; count = n; split = s; fit = (ending room slots is).fit; full = f })
      by (Kept a n) after s f e = absurd (output_list a at e)

  pub ends_exactly : Ends is room slots told
  ends_exactly =
      record {
        whole = (whole_fit, fit_whole room slots is);
        output = λ at. (output_stops at, (λ x. stops_told (Kept at) x (Err (OutputFull at)) (λ n. refl)));
        list = λ at. (list_stops at, (λ x. stops_told (Skipped at) x (Err (ListFull at)) (λ n. refl)));
      }

-- ---- the items before the place where it stops are part of all
pub kept_before : (a : List Item) (i : Item) (b : List Item) → kept_count (a ++ (i ∷ [])) ≤ kept_count (a ++ (i ∷ b))
kept_before a (Kept at n) b = omega (arith, kept_append a (Kept at n ∷ []), kept_append a (Kept at n ∷ b))
kept_before a (Skipped at n) b = omega (arith, kept_append a (Skipped at n ∷ []), kept_append a (Skipped at n ∷ b))

pub skips_before : (a : List Item) (i : Item) (b : List Item) → skips (a ++ (i ∷ [])) ≤ skips (a ++ (i ∷ b))
skips_before a (Kept at n) b = omega (arith, skips_append a (Kept at n ∷ []), skips_append a (Kept at n ∷ b))
skips_before a (Skipped at n) b = omega (arith, skips_append a (Skipped at n ∷ []), skips_append a (Skipped at n ∷ b))

-- ---- the items written follow one another up to the byte told
follow_pick : (t : Bool) (p e : ℕ) (a : List Item) (x y : Result ⊤ Full) → Follow p a (stop_of x e) → p ≡ stop_of y e → Follow p (pick t a []) (stop_of (pick t x y) e)
follow_pick true p e a x y f h = f
follow_pick false p e a x y f h = h

follow_fitting : (p e : ℕ) (is : List Item) (room slots : ℕ) → Follow p is e → Follow p (fitting room slots is) (stop_of (end_of room slots is) e)
follow_fitting p e [] room slots f = f
follow_fitting p e (Kept at n ∷ is) room slots f =
    follow_pick (leb n room) p e (Kept at n ∷ fitting (room - n) slots is) (end_of (room - n) slots is) (Err (OutputFull at))
    (f.0, (f.1.0, follow_fitting (p + n) e is (room - n) slots f.1.1)) (sym f.0)
follow_fitting p e (Skipped at n ∷ is) room slots f =
    follow_pick (leb 1 slots) p e (Skipped at n ∷ fitting room (slots - 1) is) (end_of room (slots - 1) is) (Err (ListFull at))
    (f.0, (f.1.0, follow_fitting (p + n) e is room (slots - 1) f.1.1)) (sym f.0)

stop_pick : (t : Bool) (x y : Result ⊤ Full) (e : ℕ) → stop_of x e ≤ e → stop_of y e ≤ e → stop_of (pick t x y) e ≤ e
stop_pick true x y e f g = f
stop_pick false x y e f g = g

stop_le : (p e : ℕ) (is : List Item) (room slots : ℕ) → Follow p is e → stop_of (end_of room slots is) e ≤ e
stop_le p e [] room slots f = omega arith
stop_le p e (Kept at n ∷ is) room slots f =
    stop_pick (leb n room) (end_of (room - n) slots is) (Err (OutputFull at)) e (stop_le (p + n) e is (room - n) slots f.1.1)
    (omega (arith, f.0, follow_le (p + n) e is f.1.1))
stop_le p e (Skipped at n ∷ is) room slots f =
    stop_pick (leb 1 slots) (end_of room (slots - 1) is) (Err (ListFull at)) e (stop_le (p + n) e is room (slots - 1) f.1.1)
    (omega (arith, f.0, follow_le (p + n) e is f.1.1))

-- ---- what a call left
pub two_skips : (is : List Item) → length (stretches is) ≡ 2 * skips is
two_skips [] = refl
two_skips (Kept at n ∷ is) = two_skips is
two_skips (Skipped at n ∷ is) = omega (arith, two_skips is)

module _ (file out list : List ℕ) (r : Salvaged) (out' list' : List ℕ) (h : Salvages file out list r out' list') where
  abbrev pub items : List Item
  items = fitting (length out) (slots_of list) (items_of file)

  pub ended_is : r.ended ≡ end_of (length out) (slots_of list) (items_of file)
  ended_is = ap (λ (x : Salvaged). x.ended) h.answer

  pub written_is : r.written ≡ length (kept_bytes file items)
  written_is = ap (λ (x : Salvaged). x.written) h.answer

  pub stretches_are : r.stretches ≡ skips items
  stretches_are = ap (λ (x : Salvaged). x.stretches) h.answer

  pub written_bytes : bytes_in r out' ≡ kept_bytes file items
  written_bytes = rw (written_is, h.output) (take-append_seam (kept_bytes file items) _)

  pub written_list : list_in r list' ≡ stretches items
  written_list = rw (stretches_are, h.listed, ← two_skips items) (take-append_seam (stretches items) _)

  pub left_in_lem : (r.written ≤ length out') × (2 * r.stretches ≤ length list')
  left_in_lem =
      let w = kept_bytes file items in
      let t = stretches items in (
        omega (arith, written_is, ap length h.output, length-append w (drop (length w) out)),
        omega (arith, stretches_are, two_skips items, ap length h.listed, length-append t (drop (length t) list)),
      )

  pub end : Ends (items_of file) (length out) (slots_of list) r.ended
  end = rw ended_is (ends_exactly (length out) (slots_of list) (items_of file))

  pub follow_written : Follow 0 items (stop_of r.ended (length file))
  follow_written = rw ended_is (follow_fitting 0 (length file) (items_of file) (length out) (slots_of list) (rules file).follow)

  pub stop_in_lem : stop_of r.ended (length file) ≤ length file
  stop_in_lem = rw ended_is (stop_le 0 (length file) (items_of file) (length out) (slots_of list) (rules file).follow)
