-- Pieces written one after the other into a text.
-- Assumes nothing.
use mathlib.Core.Path.{◌≡◌, refl, ap, subst, ◌∙◌}
use mathlib.Core.List.{List, [], ◌∷◌, ◌++◌, append_assoc}
use Prim.Native.Nat.{ℕ, suc, ◌+◌, ◌-◌, ◌≤◌}
use native.Mathlib.Omega.{arith}
use borrow.Rule.Slice.PartMut.{put_mid}
use lib.ListN.{length, drop, set, length-append}
use lib.Seq.{drop-drop, sets, sets-eq, length-sets}
use Rattle.digits.specs.Text.{Puts}

-- stores one after the other
sets_append : (l : List ℕ) (i : ℕ) (p q : List ℕ) → sets (sets l i p) (i + length p) q ≡ sets l i (p ++ q)
sets_append l i [] q = let e : i + 0 ≡ i = omega arith in ap (λ (k : ℕ). sets l k q) e
sets_append l i (a ∷ p) q =
    let e : i + suc (length p) ≡ suc i + length p = omega arith in
    ap (λ (k : ℕ). sets (sets (set l i a) (suc i) p) k q) e ∙ sets_append (set l i a) (suc i) p q

-- the text stays as long as it was
pub puts_room : {t t' p : List ℕ} {at e : ℕ} → Puts t at p t' e → length t' ≡ length t
puts_room {t} {t'} {p} {at} a = ap length a.written ∙ length-sets t at p

-- the same piece
pub puts_as : {t t' p q : List ℕ} {at e : ℕ} → p ≡ q → Puts t at p t' e → Puts t at q t' e
puts_as {t} {t'} {p} {q} {at} {e} h a = subst (λ (l : List ℕ). Puts t at l t' e) h a

-- one after another
pub puts_more : {t t' t'' p q : List ℕ} {at e f : ℕ} → Puts t at p t' e → Puts t' e q t'' f → Puts t at (p ++ q) t'' f
puts_more {t} {t'} {t''} {p} {q} {at} {e} {f} a b =
    record {
      past = omega (arith, a.past, b.past, length-append p q);
      written = b.written ∙ ap (λ (l : List ℕ). sets l e q) a.written ∙ ap (λ (k : ℕ). sets (sets t at p) k q) a.past ∙ sets_append t at p q;
    }

-- none
pub puts_none : {t : List ℕ} {at : ℕ} → Puts t at [] t at
puts_none {t} {at} = record { past = omega arith; written = refl }

-- a piece copied to its place: the part of the text from `at` on, as the copy leaves it, put back
pub puts_copy : (text : List ℕ) (at : ℕ) (s part : List ℕ) → at + length s ≤ length text → part ≡ s
    → Puts text at s (put_mid at (at + length s - at) text part) (at + length s)
puts_copy text at s part room e =
    let h : at + (at + length s - at) ≡ at + length s = omega arith in
    let g : drop (at + length s - at) (drop at text) ≡ drop (at + length s) text = drop-drop (at + length s - at) at text ∙ ap (λ (j : ℕ). drop j text) h in
    record { past = refl; written = rw (e, g, sets-eq s text at room, append_assoc) }
