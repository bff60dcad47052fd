-- The moments at which a channel is asked: before each record its own channel (asks-have), and at the end every channel (last-have); and none but these
-- (asks-from, last-from).
-- Assumes nothing.
use Prim.Native.Nat.{ℕ, zero, suc, ◌<◌}
use mathlib.Core.Bool.{Bool, true, false}
use mathlib.Core.List.{List, [], ◌∷◌, ◌++◌, Memᴰ}
use mathlib.Core.Logic.{⊎_elim}
use mathlib.Core.Path.{◌≡◌, refl, ap}
use native.Mathlib.Omega.{arith}
use borrow.Author.Tests.{eqb-true, eqb-false}
use lib.Dec.{eqb}
use Rattle.station.specs.declared.Station.{Station}
use Rattle.navfile.specs.File.{record_at, station_at, Ask, ask_of, ask_before, asks_at, asks_up_to}

-- a number below another's next, and not that one, is below it
less : (i m : ℕ) → i < suc m → (i ≡ m → ⊥) → i < m
less zero zero l n = absurd (n refl)
less zero (suc m) l n = omega arith
less (suc i) zero l n = absurd (omega arith)
less (suc i) (suc m) l n = let f = less i m (omega arith) (λ q. n (ap suc q)) in omega arith

module _ (card : ℕ) (st : Station) (input : List ℕ) where
  -- the ask before record j
  abbrev pub ask_at : ℕ → Ask
  ask_at j = ask_before card (station_at card st input j) (record_at input j)

  pub asks_have : (k j : ℕ) → j < k → Memᴰ (ask_at j) (asks_at card st input k)
  unfolding asks_at
  asks_have zero j h = absurd (omega arith)
  asks_have (suc k) j h = by (eqb j k) refl (asks_have k j)
    where
      by : (t : Bool) → eqb j k ≡ t → (j < k → Memᴰ (ask_at j) (asks_at card st input k)) → Memᴰ (ask_at j) (asks_at card st input k ++ (ask_at k ∷ []))
      by true e ih = mathlib.Core.List.Memᴰ.append_right (asks_at card st input k) (mathlib.Core.List.Memᴰ.head (ap ask_at (eqb-true j k e)))
      by false e ih = let n : j ≡ k → ⊥ = eqb-false j k e in mathlib.Core.List.Memᴰ.append_left (ask_at k ∷ []) (ih (less j k h n))

  pub record Before (k : ℕ) (a : Ask) : Type 0 where
    pub j : ℕ
    pub within : j < k
    pub is : a ≡ ask_at j

  pub asks_from : (k : ℕ) (a : Ask) → Memᴰ a (asks_at card st input k) → Before k a
  unfolding asks_at
  asks_from zero a m = absurd (mathlib.Core.List.Memᴰ.not-nil m)
  asks_from (suc k) a m =
      ⊎_elim (λ (n : Memᴰ a (asks_at card st input k)). let b = asks_from k a n in record { j = b.j; within = omega (arith, b.within); is = b.is })
      (λ (n : Memᴰ a (ask_at k ∷ [])). record { j = k; within = omega arith; is = mathlib.Core.List.Memᴰ.eq_of_singleton n })
      (mathlib.Core.List.Memᴰ.append_cases (asks_at card st input k) m)

module _ (st : Station) where
  pub last_have : (k c : ℕ) → c < k → Memᴰ (ask_of st c) (asks_up_to st k)
  unfolding asks_up_to
  last_have zero c h = absurd (omega arith)
  last_have (suc k) c h = by (eqb c k) refl (last_have k c)
    where
      by : (t : Bool) → eqb c k ≡ t → (c < k → Memᴰ (ask_of st c) (asks_up_to st k)) → Memᴰ (ask_of st c) (asks_up_to st k ++ (ask_of st k ∷ []))
      by true e ih = mathlib.Core.List.Memᴰ.append_right (asks_up_to st k) (mathlib.Core.List.Memᴰ.head (ap (ask_of st) (eqb-true c k e)))
      by false e ih = mathlib.Core.List.Memᴰ.append_left (ask_of st k ∷ []) (ih (less c k h (eqb-false c k e)))

  pub last_from : (k : ℕ) (a : Ask) → Memᴰ a (asks_up_to st k) → a.station ≡ st
  unfolding asks_up_to
  last_from zero a m = absurd (mathlib.Core.List.Memᴰ.not-nil m)
  last_from (suc k) a m =
      ⊎_elim (λ (n : Memᴰ a (asks_up_to st k)). last_from k a n) (λ (n : Memᴰ a (ask_of st k ∷ [])). ap (λ (x : Ask). x.station) (mathlib.Core.List.Memᴰ.eq_of_singleton n))
      (mathlib.Core.List.Memᴰ.append_cases (asks_up_to st k) m)
