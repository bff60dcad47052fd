-- What a call on a lent station tells: shut out at the gate (navigation-shut), of a row whose record has no slot (navigation-none), and by what a row and its
-- slot's entry tell (navigation-some).
-- Assumes nothing.
use Prim.Native.Nat.{ℕ, ◌-◌, ◌<◌, ◌≤◌}
use mathlib.Core.Bool.{Bool, true, false, not, ◌&&◌}
use mathlib.Core.List.{List, [], ◌∷◌, ◌++◌}
use mathlib.Core.Path.{◌≡◌, refl, sym, ap, subst, ◌∙◌}
use native.Mathlib.Omega.{arith}
use borrow.Author.Tests.{leb-true, le-leb, ne_eqb}
use lib.Dec.{eqb, leb}
use lib.IntN.{nat_abs}
use lib.ListN.{length}
use Rattle.strings.specs.Pick.{pick}
use Rattle.strings.specs.Numbers.{Test, test, first_of}
use Rattle.records.specs.declared.kinds.Kind.TheVariants.{Four}
use Rattle.records.specs.Records.{record_of}
use Rattle.words.specs.Immediate.{string_at, immediate_of}
use Rattle.words.proofs.Names.{values_named}
use Rattle.book.specs.declared.Entry.{Entry}
use Rattle.book.specs.Book.{slots, in_slot}
use Rattle.immediate.specs.Kept.{has_record}
use Rattle.channel.specs.declared.Row.{Row}
use Rattle.station.specs.declared.Station.{Station}
use Rattle.station.specs.Station.{row_at, gate_tests, is_served}
use Rattle.station.specs.Queries.{kept_at, satellite_of, is_slot, is_empty}
use Rattle.station.proofs.Served.{open_says, shut_says_lem, number_open}
use Rattle.navigation_queries.specs.Five.{has_five, five_at}
use Rattle.navigation_queries.specs.Carrier.{has_entry}
use Rattle.navigation_queries.proofs.Five.{text_there}
use Rattle.navigation.specs.Writes.{words_at, n_at, is_there, text_at}
use Rattle.navigation.specs.Gathers.{all_tests}
use Rattle.told.specs.Told.{packed}
use Rattle.lent.proofs.Gate.{shut_out}
use Rattle.lent_queries.specs.Lent.{entry_at}
use Rattle.lent_queries.specs.Health.{slot_of}
use Rattle.lent_queries.proofs.Said.{first_stops, first_passes}
use Rattle.lent_navigation.specs.Lent.{TellsAll, TellsNavigation, is_there_in, PutsNavigation}

-- n of a record is its satellite
n_is : (st : Station) (c : ℕ) → n_at st c ≡ satellite_of (kept_at st c)
unfolding immediate_of record_of
n_is st c = ap nat_abs (values_named Four (string_at (kept_at st c).strings 3)).n

-- a slot that is not 0 is the record's n, which is one of the book's
parts : (r m : Bool) (n : ℕ) → (pick (r && m) n 0 ≡ 0 → ⊥) → (r ≡ true) × ((m ≡ true) × (pick (r && m) n 0 ≡ n))
parts true true n f = (refl, (refl, refl))
parts true false n f = absurd (f refl)
parts false m n f = absurd (f refl)

module _ (st : Station) (card c : ℕ) (out : List ℕ) where
  -- the tests after the gate
  abbrev rest : List Test
  rest = test 13 (not (is_there st c)) ∷ all_tests (words_at st c) (five_at st c).n4 (length out)

  abbrev told : List ℕ
  told = n_at st c ∷ []

  abbrev text : List ℕ
  text = text_at st c

  pub navigation_shut : (z : ℕ) → z ≡ first_of (gate_tests card c) → 0 < z → TellsNavigation st card c out out z
  navigation_shut z e t =
      let p = shut_out card c z e t in
      let l : 0 < z = t in
      let alone : z ≡ packed (z ∷ []) = omega arith in
      let first : first_of (gate_tests card c ++ rest) ≡ z = first_stops (gate_tests card c) rest z e l in
      let some : eqb (first_of (gate_tests card c ++ rest)) 0 ≡ false = ap (λ (k : ℕ). eqb k 0) first ∙ ne_eqb z 0 (λ q. omega (arith, q, l)) in
      record {
        answer = alone ∙ ap packed (sym p.1 ∙ sym (shut_says_lem card c rest told p.0));
        output = ap (λ (b : Bool). pick b text out) (sym some);
      }

  -- a call that is served is told what the tests after the gate say
  opened : (out' : List ℕ) (r : ℕ) → is_served card c ≡ true → TellsAll rest told text out out' r → TellsNavigation st card c out out' r
  opened out' r n g =
      record {
        answer = g.answer ∙ ap packed (sym (open_says card c rest told n));
        output = g.output ∙ ap (λ (k : ℕ). pick (eqb k 0) text out) (sym (first_passes (gate_tests card c) rest tt (sym (number_open card c n))));
      }

  nothing : is_served card c ≡ true → is_there st c ≡ false → TellsNavigation st card c out out 13
  nothing n q = opened out 13 n (record { answer = rw q; output = rw q })

  -- no slot, no entry
  no_slot : slot_of (kept_at st c) ≡ 0 → is_there st c ≡ false
  unfolding slot_of
  no_slot q =
      let i = kept_at st c in
      ap (λ (k : ℕ). has_record i && (has_five (row_at st c) && has_entry st k)) (n_is st c)
      ∙ by (has_record i) (has_five (row_at st c)) (leb 1 (satellite_of i)) (leb (satellite_of i) slots) (satellite_of i) (not (is_empty st.book (satellite_of i))) (λ o. leb-true 1 (satellite_of i) o) q
    where
      by : (r v o m : Bool) (n : ℕ) (f : Bool) → (o ≡ true → 1 ≤ n) → pick (r && m) n 0 ≡ 0 → (r && (v && ((o && m) && f))) ≡ false
      by true true true true n f g e = absurd (omega (arith, g refl, e))
      by true true true false n f g e = refl
      by true true false m n f g e = refl
      by true false o m n f g e = refl
      by false v o m n f g e = refl

  module _ (r : Row) (s : ℕ) (n : is_served card c ≡ true) (er : r ≡ row_at st c) (es : s ≡ slot_of r.immediate) where
    slot_is : slot_of (kept_at st c) ≡ s
    slot_is = ap (λ (y : Row). slot_of y.immediate) (sym er) ∙ sym es

    pub navigation_none : s ≡ 0 → TellsNavigation st card c out out 13
    navigation_none z = nothing n (no_slot (slot_is ∙ z))

    -- the record's n is the slot
    slot-parts : (s ≡ 0 → ⊥) → (has_record (kept_at st c) ≡ true) × ((is_slot (n_at st c) ≡ true) × (s ≡ n_at st c))
    unfolding slot_of
    slot-parts f =
        let i = kept_at st c in
        let p = parts (has_record i) (leb (satellite_of i) slots) (satellite_of i) (λ z. f (sym slot_is ∙ z)) in
        let k : s ≡ satellite_of i = sym slot_is ∙ p.1.1 in
        let one : 1 ≤ satellite_of i = omega (arith, f, k) in
        (p.0, (ap is_slot (n_is st c) ∙ rw (p.1.0, le-leb 1 (satellite_of i) one), k ∙ sym (n_is st c)))

    pub navigation_some : (e : Entry) (out' : List ℕ) (k : ℕ) → (s ≡ 0 → ⊥) → e ≡ entry_at st (s - 1) → PutsNavigation r e out out' k → TellsNavigation st card c out out' k
    unfolding text_at
    navigation_some e out' k f ee g =
        let p = slot-parts f in
        let ee' : e ≡ in_slot st.book (n_at st c) = ee ∙ ap (in_slot st.book) p.1.1 in
        let there : is_there st c ≡ is_there_in (row_at st c) (in_slot st.book (n_at st c)) = rw (p.0, p.1.0) in
        let g' = subst (λ (x : Entry). PutsNavigation (row_at st c) x out out' k) ee' (subst (λ (y : Row). PutsNavigation y e out out' k) er g) in
        by (has_five (row_at st c)) refl there g'
      where
        by : (t : Bool) → has_five (row_at st c) ≡ t → is_there st c ≡ is_there_in (row_at st c) (in_slot st.book (n_at st c)) → PutsNavigation (row_at st c) (in_slot st.book (n_at st c)) out out' k
            → TellsNavigation st card c out out' k
        by false h there g =
            let q : is_there_in (row_at st c) (in_slot st.book (n_at st c)) ≡ false = rw h in
            let a : k ≡ 13 = g.answer ∙ rw q in
            let o : out' ≡ out = g.output ∙ rw q in
            subst (λ (x : List ℕ). TellsNavigation st card c out x k) (sym o) (subst (λ (x : ℕ). TellsNavigation st card c out out x) (sym a) (nothing n (there ∙ q)))
        by true h there g =
            opened out' k n (rw (there, text_there (row_at st c) h) g)
