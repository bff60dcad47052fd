-- The health by a record and one entry is the health by the record and the book: where the record has no slot it is unknown (no_slot), and else it is that of
-- the slot's entry (by-slot).
-- So a call is told that of its channel (health-shut, health-none, health-some).
-- Assumes nothing.
use mathlib.Core.Path.{◌≡◌, refl, sym, ap, ◌∙◌}
use mathlib.Core.List.{List, [], ◌∷◌}
use mathlib.Core.Bool.{Bool, true, false, not, ◌&&◌}
use Prim.Native.Nat.{ℕ, ◌-◌, ◌*◌, ◌<◌, ◌≤◌}
use native.Mathlib.Omega.{arith}
use borrow.Author.Tests.{leb-true, le-leb}
use lib.Dec.{eqb, leb}
use Rattle.strings.specs.Pick.{pick}
use Rattle.strings.specs.Numbers.{first_of}
use Rattle.book.specs.declared.Entry.{Entry}
use Rattle.book.specs.declared.Book.{Book}
use Rattle.book.specs.Entry.{meaning}
use Rattle.book.specs.Book.{slots, in_slot}
use Rattle.immediate.specs.declared.Immediate.{Immediate}
use Rattle.immediate.specs.Kept.{has_record}
use Rattle.channel.specs.declared.Row.{Row}
use Rattle.station.specs.declared.Station.{Station}
use Rattle.station.specs.Station.{row_at, gate_tests, is_served}
use Rattle.station.proofs.Served.{open_says, shut_says_lem}
use Rattle.lent.proofs.Gate.{shut_out}
use Rattle.told.specs.Told.{packed}
use Rattle.lent_queries.specs.Lent.{entry_at, TellsHealth}
use Rattle.station.specs.declared.Health.{Health}
use Rattle.station.specs.declared.Health.TheVariants.{Unknown}
use Rattle.station.specs.Queries.{top_of_b, satellite_of, l_of, model_of, l_counted, status_of, judged, is_empty, kept_at, health_by, health_number}
use Rattle.lent_queries.specs.Health.{slot_of, health_at}

pub no_slot : (i : Immediate) (b : Book) → slot_of i ≡ 0 → health_by i b ≡ Unknown
unfolding slot_of health_by
no_slot i b q = by (has_record i) (leb 1 (satellite_of i)) (leb (satellite_of i) slots) (satellite_of i) (not (is_empty b (satellite_of i))) _ (λ o. leb-true 1 (satellite_of i) o) q
  where
    by : (r o m : Bool) (n : ℕ) (f : Bool) (x : Health) → (o ≡ true → 1 ≤ n) → pick (r && m) n 0 ≡ 0 → pick (r && ((o && m) && f)) x Unknown ≡ Unknown
    by true true true n f x g e = absurd (omega (arith, g refl, e))
    by true true false n f x g e = refl
    by true false m n f x g e = refl
    by false o m n f x g e = refl

-- a slot that is not 0 is the record's n, which is one of the book's
parts : (r m : Bool) (n : ℕ) → (pick (r && m) n 0 ≡ 0 → ⊥) → (r ≡ true) × ((m ≡ true) × (pick (r && m) n 0 ≡ n))
parts true true n f = (refl, (refl, refl))
parts true false n f = absurd (f refl)
parts false m n f = absurd (f refl)

swapped : (t : Bool) (x y : Health) → pick (not t) x y ≡ pick t y x
swapped true x y = refl
swapped false x y = refl

pub by_slot : (i : Immediate) (b : Book) (e : Entry) → (slot_of i ≡ 0 → ⊥) → e ≡ in_slot b (slot_of i) → health_by i b ≡ health_at i e
unfolding slot_of health_by health_at
by_slot i b e f q =
    let p = parts (has_record i) (leb (satellite_of i) slots) (satellite_of i) f in
    let n = p.1.1 in
    let q' : e ≡ in_slot b (satellite_of i) = q ∙ ap (in_slot b) n in
    let one : 1 ≤ satellite_of i = omega (arith, f, n) in
    rw (p.0, p.1.0, le-leb 1 (satellite_of i) one, ← q') (swapped (eqb e.day 0) (judged (top_of_b i) (l_counted (model_of i) (l_of i)) (status_of (meaning e))) Unknown)

-- ---- what a call is told
module _ (st : Station) (card c : ℕ) where
  abbrev told : List ℕ
  told = health_number (health_by (kept_at st c) st.book) ∷ []

  pub health_shut : (z : ℕ) → z ≡ first_of (gate_tests card c) → 0 < z → TellsHealth st card c z
  unfolding TellsHealth
  health_shut z e t =
      let p = shut_out card c z e t in
      let alone : z ≡ packed (z ∷ []) = omega arith in
      alone ∙ ap packed (sym p.1 ∙ sym (shut_says_lem card c [] told p.0))

  opened : (k : ℕ) (x : Health) → is_served card c ≡ true → health_by (kept_at st c) st.book ≡ x → k ≡ 256 * health_number x → TellsHealth st card c k
  unfolding TellsHealth
  opened k x n e q =
      let two : 256 * health_number x ≡ packed (0 ∷ health_number x ∷ []) = omega arith in
      q ∙ two ∙ ap (λ (y : Health). packed (0 ∷ health_number y ∷ [])) (sym e) ∙ ap packed (sym (open_says card c [] told n))

  module _ (r : Row) (s : ℕ) (n : is_served card c ≡ true) (er : r ≡ row_at st c) (es : s ≡ slot_of r.immediate) where
    slot_is : slot_of (kept_at st c) ≡ s
    slot_is = ap (λ (y : Row). slot_of y.immediate) (sym er) ∙ sym es

    pub health_none : s ≡ 0 → TellsHealth st card c 0
    health_none z = opened 0 Unknown n (no_slot (kept_at st c) st.book (slot_is ∙ z)) refl

    pub health_some : (e : Entry) (k : ℕ) → (s ≡ 0 → ⊥) → e ≡ entry_at st (s - 1) → k ≡ 256 * health_number (health_at r.immediate e) → TellsHealth st card c k
    health_some e k f ee ek =
        opened k (health_at (kept_at st c) e) n (by_slot (kept_at st c) st.book e (λ z. f (sym slot_is ∙ z)) (ee ∙ ap (in_slot st.book) (sym slot_is)))
        (ek ∙ ap (λ (y : Row). 256 * health_number (health_at y.immediate e)) er)
