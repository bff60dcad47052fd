-- The gate before any other tests: a call that is served is told what those say (open-says), and one that is not what the gate says (shut-says). A call
-- that is served has a row (served-below), which is its card's own (owner-is), and every row is served to its owner (below-served).
-- Assumes nothing.
use mathlib.Core.Path.{◌≡◌, refl, sym, ap, subst, ◌∙◌}
use mathlib.Core.Bool.{Bool, true, false, not, ◌&&◌, true≢false}
use mathlib.Core.List.{List, [], ◌∷◌, ◌++◌}
use Prim.Native.Nat.{ℕ, zero, suc, ◌≤◌, ◌<◌}
use native.Mathlib.Omega.{arith}
use borrow.Author.Tests.{le-ltb, lt-ltb, ltb-false, eqb-true, eq-eqb, ne_eqb}
use lib.Dec.{T, eqb, ltb}
use lib.ListN.{get_or}
use Rattle.strings.specs.Pick.{pick}
use Rattle.std.specs.Prelude.{Result, Ok, Err}
use Rattle.strings.specs.declared.Refusal.{Refusal}
use Rattle.strings.specs.declared.Refusal.TheVariants.{Channel, Owner, Card}
use Rattle.strings.specs.Numbers.{refusal_paper, Test, test, first_of, place_of, said_by, answer_of}
use Rattle.strings.proofs.Below.{and_left, and_right}
use Rattle.strings.proofs.Tests.{past_first, no_place, all_of}
use Rattle.station.specs.Station.{card_channels, channels, last_channel, owner_of, is_card, gate_tests, none_fits, is_served, shut_says, Enters}

-- ---- tests before others
-- none of them fits: the others give the answer
none_fits_lem : (us ts : List Test) (told : List ℕ) → none_fits us ≡ true → answer_of (us ++ ts) told ≡ answer_of ts told
none_fits_lem [] ts told e = refl
none_fits_lem (u ∷ us) ts told e = by u.fits e (none_fits_lem us ts told)
  where
    by : (b : Bool) → (not b && none_fits us) ≡ true → (none_fits us ≡ true → answer_of (us ++ ts) told ≡ answer_of ts told)
        → said_by (pick b u.number (first_of (us ++ ts))) (pick b u.place (place_of (us ++ ts))) told ≡ answer_of ts told
    by true q next = absurd (true≢false (sym q))
    by false q next = next q

-- one of them fits: they give it, whatever the others and whatever would be told
abbrev is_number : ℕ → Bool
is_number n = not (eqb n 0)

one_fits : (us ts : List Test) (told : List ℕ) → T (all_of is_number us) → none_fits us ≡ false → answer_of (us ++ ts) told ≡ answer_of us []
one_fits [] ts told a e = absurd (true≢false e)
one_fits (u ∷ us) ts told a e =
    by u.fits u.number (and_left (is_number u.number) (all_of is_number us) a) e (one_fits us ts told (and_right (is_number u.number) (all_of is_number us) a))
  where
    by : (b : Bool) (n : ℕ) → T (is_number n) → (not b && none_fits us) ≡ false → (none_fits us ≡ false → answer_of (us ++ ts) told ≡ answer_of us [])
        → said_by (pick b n (first_of (us ++ ts))) (pick b u.place (place_of (us ++ ts))) told ≡ said_by (pick b n (first_of us)) (pick b u.place (place_of us)) []
    by true zero z q next = absurd z
    by true (suc k) z q next = refl
    by false n z q next = next q

-- in their numbers: none fits exactly where they give 0
first_none : (us : List Test) → none_fits us ≡ true → first_of us ≡ 0
first_none [] e = refl
first_none (u ∷ us) e = by u.fits e (first_none us)
  where
    by : (b : Bool) → (not b && none_fits us) ≡ true → (none_fits us ≡ true → first_of us ≡ 0) → pick b u.number (first_of us) ≡ 0
    by true q next = absurd (true≢false (sym q))
    by false q next = next q

none_first : (us : List Test) → T (all_of is_number us) → first_of us ≡ 0 → none_fits us ≡ true
none_first [] a e = refl
none_first (u ∷ us) a e =
    by u.fits u.number (and_left (is_number u.number) (all_of is_number us) a) e (none_first us (and_right (is_number u.number) (all_of is_number us) a))
  where
    by : (b : Bool) (n : ℕ) → T (is_number n) → pick b n (first_of us) ≡ 0 → (first_of us ≡ 0 → none_fits us ≡ true) → (not b && none_fits us) ≡ true
    by true zero z q next = absurd z
    by true (suc k) z q next = absurd (omega (arith, q))
    by false n z q next = next q

-- ---- the gate
module _ (card c : ℕ) (ts : List Test) (told : List ℕ) where
  pub open_says : is_served card c ≡ true → answer_of (gate_tests card c ++ ts) told ≡ answer_of ts told
  unfolding is_served
  open_says e = none_fits_lem (gate_tests card c) ts told e

  pub shut_says_lem : is_served card c ≡ false → answer_of (gate_tests card c ++ ts) told ≡ shut_says card c
  unfolding is_served
  shut_says_lem e = one_fits (gate_tests card c) ts told tt e

-- where no test fits, none of those after the gate does
pub past_gate : (card c : ℕ) (ts : List Test) → first_of (gate_tests card c ++ ts) ≡ 0 → first_of ts ≡ 0
past_gate card c ts e =
    let owner = test 15 (not (eqb (owner_of c) card)) ∷ ts in
    (past_first 14 (not (eqb (owner_of c) card)) ts
    (past_first 0 (ltb last_channel c) owner (past_first 15 (not (is_card card)) (test 1 (ltb last_channel c) ∷ owner) e).1).1).1

-- a call that is served is one of the cards', on one of the rows, which is its own
pub served_parts : (card c : ℕ) → is_served card c ≡ true → (is_card card ≡ true) × ((ltb last_channel c ≡ false) × (eqb (owner_of c) card ≡ true))
unfolding is_served
served_parts card c e = by (is_card card) (ltb last_channel c) (eqb (owner_of c) card) e
  where
    by : (t u v : Bool) → (not (not t) && (not u && (not (not v) && true))) ≡ true → (t ≡ true) × ((u ≡ false) × (v ≡ true))
    by true false true f = (refl, (refl, refl))
    by true false false f = absurd (true≢false (sym f))
    by true true v f = absurd (true≢false (sym f))
    by false u v f = absurd (true≢false (sym f))

pub served_below : (card c : ℕ) → is_served card c ≡ true → c < channels
served_below card c e = let h : c ≤ last_channel = ltb-false last_channel c (served_parts card c e).1.0 in omega arith

pub owner_is : (card c : ℕ) → is_served card c ≡ true → owner_of c ≡ card
owner_is card c e = eqb-true (owner_of c) card (served_parts card c e).1.1

-- and each row is served, to its owner
pub owned_served : (card c : ℕ) → is_card card ≡ true → c ≤ last_channel → owner_of c ≡ card → is_served card c ≡ true
unfolding is_served
owned_served card c k h o = rw (k, le-ltb last_channel c h, eq-eqb (owner_of c) card o)

pub owner_card : (c : ℕ) → is_card (owner_of c) ≡ true
owner_card c = by (ltb c card_channels)
  where
    by : (t : Bool) → is_card (pick t 1 2) ≡ true
    by true = refl
    by false = refl

pub below_served : (c : ℕ) → c < channels → is_served (owner_of c) c ≡ true
below_served c h = owned_served (owner_of c) c (owner_card c) (omega arith) refl

-- ---- what the code finds
pub enters_no_card : (card c : ℕ) → is_card card ≡ false → Enters card c (Err Card)
unfolding is_served
enters_no_card card c k = (rw k, rw k)

pub enters_no_channel : (card c : ℕ) → is_card card ≡ true → last_channel < c → Enters card c (Err Channel)
unfolding is_served
enters_no_channel card c k l = let f = lt-ltb last_channel c l in (rw (k, f), rw (k, f))

pub enters_not_owner : (card c : ℕ) → is_card card ≡ true → c ≤ last_channel → (owner_of c ≡ card → ⊥) → Enters card c (Err Owner)
unfolding is_served
enters_not_owner card c k l n = let f = le-ltb last_channel c l in let g = ne_eqb (owner_of c) card n in (rw (k, f, g), rw (k, f, g))

pub enters_open : (card c i : ℕ) → is_card card ≡ true → c ≤ last_channel → owner_of c ≡ card → i ≡ c → Enters card c (Ok i)
enters_open card c i k l o e = (owned_served card c k l o, (e, omega arith))

module _ (card c : ℕ) {g : Result ℕ Refusal} (n : Enters card c g) where
  pub opened : {i : ℕ} → g ≡ Ok i → Enters card c (Ok i)
  opened e = subst (Enters card c) e n

  pub shut : {why : Refusal} → g ≡ Err why → Enters card c (Err why)
  shut e = subst (Enters card c) e n

-- what holds of the row where a call entered holds of its channel
pub entered : (P : ℕ → Type 0) (card : ℕ) {c i : ℕ} → Enters card c (Ok i) → (is_served card i ≡ true → P i) → P c
entered P card n f = subst P n.1.0 (f (ap (is_served card) n.1.0 ∙ n.0))

-- and its number: 0 where the call is served
pub number_open : (card c : ℕ) → is_served card c ≡ true → 0 ≡ first_of (gate_tests card c)
unfolding is_served
number_open card c e = sym (first_none (gate_tests card c) e)

-- what it says begins with it
shut_begins : (card c : ℕ) → get_or (shut_says card c) 0 0 ≡ first_of (gate_tests card c)
shut_begins card c = begins (first_of (gate_tests card c)) (place_of (gate_tests card c))
  where
    begins : (k : ℕ) (l : List ℕ) → get_or (said_by k l []) 0 0 ≡ k
    begins zero l = refl
    begins (suc k) l = refl

-- else the refusal's
pub number_shut : (card c n : ℕ) (why : Refusal) → refusal_paper why ≡ shut_says card c → n ≡ get_or (refusal_paper why) 0 0 → n ≡ first_of (gate_tests card c)
number_shut card c n why e q = q ∙ ap (λ (l : List ℕ). get_or l 0 0) e ∙ shut_begins card c

-- back from the number
pub zero_served : (card c : ℕ) → first_of (gate_tests card c) ≡ 0 → is_served card c ≡ true
unfolding is_served
zero_served card c e = none_first (gate_tests card c) tt e

-- a call that is not served is never told 0
pub shut_not_zero : (card c : ℕ) → is_served card c ≡ false → 0 ∷ [] ≡ shut_says card c → ⊥
shut_not_zero card c q e = true≢false (sym (zero_served card c (sym (ap (λ (l : List ℕ). get_or l 0 0) e ∙ shut_begins card c))) ∙ q)

pub number_said_lem : (card c n : ℕ) → n ≡ first_of (gate_tests card c) → 0 < n → (is_served card c ≡ false) × (shut_says card c ≡ n ∷ [])
unfolding is_served
number_said_lem card c n e h = (not-served (is_served card c) refl, rw (← e, no_place (gate_tests card c) tt) (alone n h))
  where
    not-served : (t : Bool) → is_served card c ≡ t → t ≡ false
    not-served true q = absurd (omega (arith, h, e, first_none (gate_tests card c) q))
    not-served false q = refl

    alone : (k : ℕ) → 0 < k → said_by k [] [] ≡ k ∷ []
    alone zero l = absurd (omega (arith, l))
    alone (suc k) l = refl
