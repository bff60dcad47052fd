-- The good fields of a block one by one: any bound that is enough gives them all (same-fields); what the first of them leaves (fields-good), and where there
-- is none (fields-none). Whole fields one after the other, with any bytes behind, are what is read first (fields-joined); what is read is whole fields
-- (fields-whole) that stand at the head, and behind them there is no good one (fields-front).
-- Assumes nothing.
use mathlib.Core.Path.{◌≡◌, refl, sym, ap, ap₂, ◌∙◌}
use mathlib.Core.Bool.{Bool, true, false}
use mathlib.Core.List.{List, [], ◌∷◌, ◌++◌, append_assoc}
use Prim.Native.Nat.{ℕ, zero, suc, ◌+◌, ◌≤◌}
use native.Mathlib.Omega.{arith}
use lib.ListN.{length, take, drop, length-append, length-drop, take-append-drop}
use lib.Seq.{take-append_seam, drop-append_seam, drop-drop}
use borrow.Author.Tests.{le-leb}
use Rattle.strings.specs.Pick.{pick}
use Rattle.fields.specs.Fields.{is_good, size_in}
use Rattle.fields.specs.Block.{fields_over, fields_in, joined, end_at, end_from, end_in}
use Rattle.fields.proofs.Whole.{Whole, shorter, good_by, good_then, size_then, front_length, alone}

-- ---- by a test that is known, or not yet
picked : (b : Bool) (x y : List (List ℕ)) → (b ≡ true → x ≡ y) → pick b x [] ≡ pick b y []
picked true x y f = f refl
picked false x y f = refl

-- ---- any bound that is enough
none_empty : (k : ℕ) → fields_over k [] ≡ []
unfolding fields_over is_good
none_empty zero = refl
none_empty (suc k) = refl

pub same_fields : (k j : ℕ) (rest : List ℕ) → length rest ≤ k → length rest ≤ j → fields_over k rest ≡ fields_over j rest
unfolding fields_over
same_fields zero j [] h l = sym (none_empty j)
same_fields zero j (x ∷ xs) h l = absurd (omega arith)
same_fields (suc k) zero [] h l = none_empty (suc k)
same_fields (suc k) zero (x ∷ xs) h l = absurd (omega arith)
same_fields (suc k) (suc j) rest h l =
    picked (is_good rest) _ _
    (λ e. ap (λ (fs : List (List ℕ)). take (size_in rest) rest ∷ fs)
    (same_fields k j (drop (size_in rest) rest) (omega (arith, shorter rest e)) (omega (arith, shorter rest e))))

-- ---- the first field
over_none : (k : ℕ) (rest : List ℕ) → is_good rest ≡ false → fields_over k rest ≡ []
unfolding fields_over
over_none zero rest e = refl
over_none (suc k) rest e = rw e

pub fields_none : (rest : List ℕ) → is_good rest ≡ false → fields_in rest ≡ []
unfolding fields_in
fields_none rest e = over_none (length rest) rest e

over_good : (k : ℕ) (rest : List ℕ) → is_good rest ≡ true → fields_over (suc k) rest ≡ take (size_in rest) rest ∷ fields_over k (drop (size_in rest) rest)
unfolding fields_over
over_good k rest e = rw e

pub fields_good : (rest : List ℕ) → is_good rest ≡ true → fields_in rest ≡ take (size_in rest) rest ∷ fields_in (drop (size_in rest) rest)
unfolding fields_in
fields_good rest e =
    let n = length rest in
    let d = drop (size_in rest) rest in
    same_fields n (suc n) rest (omega arith) (omega arith) ∙ over_good n rest e
    ∙ ap (λ (fs : List (List ℕ)). take (size_in rest) rest ∷ fs) (same_fields n (length d) d (omega (arith, length-drop (size_in rest) rest)) (omega arith))

-- ---- whole fields one after the other
abbrev pub AllWhole : List (List ℕ) → Type 0
AllWhole [] = Unit
AllWhole (f ∷ fs) = Whole f × AllWhole fs

pub fields_joined : (fs : List (List ℕ)) (b : List ℕ) → AllWhole fs → fields_in (joined fs ++ b) ≡ fs ++ fields_in b
unfolding joined
fields_joined [] b a = refl
fields_joined (f ∷ fs) b a =
    let q = joined fs ++ b in
    let n : size_in (f ++ q) ≡ length f = size_then f q a.0.good ∙ a.0.size in
    ap fields_in (append_assoc f (joined fs) b) ∙ fields_good (f ++ q) (good_by (f ++ q) (good_then f q a.0.good))
    ∙ ap₂ (λ (x : List ℕ) (y : List (List ℕ)). x ∷ y) (ap (λ (k : ℕ). take k (f ++ q)) n ∙ take-append_seam f q)
    (ap (λ (k : ℕ). fields_in (drop k (f ++ q))) n ∙ ap fields_in (drop-append_seam f q) ∙ fields_joined fs b a.1)

-- ---- what is read
by_test : (P : List (List ℕ) → Type 0) (b : Bool) (x : List (List ℕ)) → (b ≡ true → P x) → (b ≡ false → P []) → P (pick b x [])
by_test P true x g n = g refl
by_test P false x g n = n refl

-- whole fields
over_whole : (k : ℕ) (rest : List ℕ) → AllWhole (fields_over k rest)
unfolding fields_over
over_whole zero rest = tt
over_whole (suc k) rest = by_test AllWhole (is_good rest) _ (λ e. (alone rest e, over_whole k (drop (size_in rest) rest))) (λ e. tt)

pub fields_whole : (rest : List ℕ) → AllWhole (fields_in rest)
unfolding fields_in
fields_whole rest = over_whole (length rest) rest

-- which stand at the head, and behind them there is no good field
pub record Front (rest : List ℕ) (fs : List (List ℕ)) : Type 0 where
  pub front : joined fs ++ drop (length (joined fs)) rest ≡ rest
  pub stop : is_good (drop (length (joined fs)) rest) ≡ false

no_more : (rest : List ℕ) → is_good rest ≡ false → Front rest []
unfolding joined
no_more rest e = record { front = refl; stop = e }

one_more_lem : (rest : List ℕ) (fs : List (List ℕ)) → is_good rest ≡ true → Front (drop (size_in rest) rest) fs → Front rest (take (size_in rest) rest ∷ fs)
unfolding joined
one_more_lem rest fs e h =
    let n = size_in rest in
    let d : drop (length (take n rest ++ joined fs)) rest ≡ drop (length (joined fs)) (drop n rest) =
    ap (λ (k : ℕ). drop k rest) (length-append (take n rest) (joined fs) ∙ ap (λ (k : ℕ). k + length (joined fs)) (front_length rest e))
    ∙ sym (drop-drop (length (joined fs)) n rest) in
    record {
      front =
          ap (λ (l : List ℕ). (take n rest ++ joined fs) ++ l) d ∙ append_assoc (take n rest) (joined fs) _
          ∙ ap (λ (l : List ℕ). take n rest ++ l) h.front ∙ take-append-drop n rest;
      stop = ap is_good d ∙ h.stop;
    }

pub none_there : is_good [] ≡ false
unfolding is_good
none_there = refl

over_front : (k : ℕ) (rest : List ℕ) → length rest ≤ k → Front rest (fields_over k rest)
unfolding fields_over
over_front zero [] h = no_more [] none_there
over_front zero (x ∷ xs) h = absurd (omega arith)
over_front (suc k) rest h =
    by_test (Front rest) (is_good rest) _
    (λ e. one_more_lem rest _ e (over_front k (drop (size_in rest) rest) (omega (arith, shorter rest e))))
    (λ e. no_more rest e)

pub fields_front : (rest : List ℕ) → Front rest (fields_in rest)
unfolding fields_in
fields_front rest = over_front (length rest) rest (omega arith)

-- ---- where the reading of a block stops; it ends whole where its fields are all of it
abbrev pub stop_in : List ℕ → ℕ
stop_in a = length (joined (fields_in a))

pub end_is : (a : List ℕ) → end_in a ≡ end_at a (stop_in a)
unfolding end_from
end_is a = let e : 0 + stop_in a ≡ stop_in a = omega arith in ap (end_at a) e

pub ends_whole : (a : List ℕ) → joined (fields_in a) ≡ a → end_in a ≡ 0 ∷ []
ends_whole a e = end_is a ∙ rw (le-leb (length a) (stop_in a) (omega (arith, ap length e)))
