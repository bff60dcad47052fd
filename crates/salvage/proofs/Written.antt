-- What is written is the kept fields, one after the other, and nothing else: a block's reader comes to its end (sound) and finds their calls (calls). Of an
-- undamaged file that is all of it (undamaged).
-- Assumes nothing.
use Prim.Native.Nat.{ℕ, ◌+◌, ◌-◌, ◌≤◌, ◌<◌}
use native.Mathlib.Omega.{arith}
use mathlib.Core.Path.{◌≡◌, refl, sym, ap, ap₂, ◌∙◌}
use mathlib.Core.List.{List, [], ◌∷◌, ◌++◌, append-nil}
use lib.ListN.{length, take, drop, length-append, length-drop}
use lib.Seq.{drop-drop, drop-append_seam, take-length}
use Rattle.fields.specs.Fields.{size_in, size_at}
use Rattle.fields.specs.Block.{Call, call_in, fields_in, calls_of, calls_in, joined, end_in}
use Rattle.fields.proofs.Whole.{good_size, size_then, alone, calls_front, Whole}
use Rattle.fields.proofs.Steps.{AllWhole, fields_joined, fields_none, none_there, fields_whole, ends_whole}
use Rattle.fields.proofs.EndToEnd.{whole_is}
use Rattle.salvage.specs.declared.Salvaged.{Salvaged}
use Rattle.salvage.specs.Items.{Item, Kept, Skipped, items_of}
use Rattle.salvage.specs.Rules.{Right}
use Rattle.salvage.specs.Writing.{fitting, kept_bytes, stretches, skips, slots_of, Salvages}
use Rattle.salvage.specs.Laws.{bytes_in, together, Copied, calls_kept}
use Rattle.salvage.proofs.Items.{rest, rest_all, rest_end, rest_good}
use Rattle.salvage.proofs.Rules.{rules}
use Rattle.salvage.proofs.Ends.{two_skips, unrefused, fit_whole, written_bytes, front_of}
use Rattle.salvage.proofs.Parts.{items_together, items_once}

-- ---- the kept fields, each with its bytes
abbrev kept_fields : List ℕ → List Item → List (List ℕ)
kept_fields s [] = []
kept_fields s (Kept at n ∷ is) = take n (drop at s) ∷ kept_fields s is
kept_fields s (Skipped at n ∷ is) = kept_fields s is

kept_joined : (s : List ℕ) (is : List Item) → joined (kept_fields s is) ≡ kept_bytes s is
unfolding joined
kept_joined s [] = refl
kept_joined s (Kept at n ∷ is) = ap (λ (l : List ℕ). take n (drop at s) ++ l) (kept_joined s is)
kept_joined s (Skipped at n ∷ is) = kept_joined s is

module _ (s : List ℕ) where
  one_whole : (at n : ℕ) → 0 < n → size_at s at ≡ n → Whole (take n (drop at s))
  one_whole at n h e = rw (← e) (alone (drop at s) (good_size (drop at s) (rw e h)))

  one_calls_lem : (at n : ℕ) → 0 < n → size_at s at ≡ n → call_in (take n (drop at s)) ≡ call_in (drop at s)
  one_calls_lem at n h e = rw (← e) (calls_front (drop at s) (good_size (drop at s) (rw e h)))

kept_whole : (s : List ℕ) (is : List Item) → Right s is → AllWhole (kept_fields s is)
kept_whole s [] r = tt
kept_whole s (Kept at n ∷ is) r = (one_whole s at n r.0.0 r.0.1, kept_whole s is r.1)
kept_whole s (Skipped at n ∷ is) r = kept_whole s is r.1

kept_calls : (s : List ℕ) (is : List Item) → Right s is → calls_of (kept_fields s is) ≡ calls_kept s is
unfolding calls_of
kept_calls s [] r = refl
kept_calls s (Kept at n ∷ is) r = ap₂ (λ (x y : List Call). x ++ y) (one_calls_lem s at n r.0.0 r.0.1) (kept_calls s is r.1)
kept_calls s (Skipped at n ∷ is) r = kept_calls s is r.1

-- the fields that are read in the kept bytes are these
fields_kept : (s : List ℕ) (is : List Item) → Right s is → fields_in (kept_bytes s is) ≡ kept_fields s is
fields_kept s is r =
    ap fields_in (sym (kept_joined s is) ∙ sym (append-nil (joined (kept_fields s is)))) ∙ fields_joined (kept_fields s is) [] (kept_whole s is r)
    ∙ ap (λ (fs : List (List ℕ)). kept_fields s is ++ fs) (fields_none [] none_there) ∙ append-nil (kept_fields s is)

right_front : (s : List ℕ) (a b : List Item) → Right s (a ++ b) → Right s a
right_front s [] b r = tt
right_front s (i ∷ a) b r = (r.0, right_front s a b r.1)

-- ---- an undamaged file has no stretch
none_skipped : (s : List ℕ) (fs : List (List ℕ)) (p : ℕ) → AllWhole fs → drop p s ≡ joined fs → stretches (rest s p) ≡ []
unfolding joined
none_skipped s [] p a e = let l : length s ≤ p = omega (arith, ap length e, length-drop p s) in rw (rest_end s p l) refl
none_skipped s (f ∷ fs) p a e =
    let n : length f ≡ size_at s p = sym (ap size_in e ∙ size_then f (joined fs) a.0.good ∙ a.0.size) in
    let t : 3 ≤ length f = omega (arith, a.0.good.whole) in
    let l : p < length s = omega (arith, ap length e, length-append f (joined fs), length-drop p s, t) in
    let d : drop (p + length f) s ≡ joined fs = sym (drop-drop (length f) p s) ∙ ap (drop (length f)) e ∙ drop-append_seam f (joined fs) in
    ap stretches (rest_good s p (length f) l n (λ z. omega (arith, z, t))) ∙ none_skipped s fs (p + length f) a.1 d

none_of : (s : List ℕ) → end_in s ≡ 0 ∷ [] → stretches (items_of s) ≡ []
none_of s e = rw (← rest_all s) (none_skipped s (fields_in s) 0 (fields_whole s) (sym (whole_is s e)))

module _ (file out list : List ℕ) (r : Salvaged) (out' list' : List ℕ) (h : Salvages file out list r out' list') where
  abbrev written : List Item
  written = fitting (length out) (slots_of list) (items_of file)

  right : Right file written
  right =
      let f = front_of (length out) (slots_of list) (items_of file) in
      right_front file written f.after (rw f.split at (rules file).right)

  bytes : bytes_in r out' ≡ kept_bytes file written
  bytes = written_bytes file out list r out' list' h

  pub sound : end_in (bytes_in r out') ≡ 0 ∷ []
  sound = rw bytes (ends_whole (kept_bytes file written) (ap joined (fields_kept file written right) ∙ kept_joined file written))

  pub calls : calls_in (bytes_in r out') ≡ calls_kept file written
  calls = rw bytes (ap calls_of (fields_kept file written right) ∙ kept_calls file written right)

  pub undamaged : end_in file ≡ 0 ∷ [] → length file ≤ length out → Copied file out list r out' list'
  undamaged e l =
      let i = items_of file in
      let f = (rules file).follow in
      let n = none_of file e in
      let o = items_once 0 (length file) i f in
      let k : skips i ≡ 0 = omega (arith, ap length n, two_skips i) in
      let z : length file - 0 ≡ length file = omega arith in
      let b : kept_bytes file i ≡ file = sym (ap (together file 0 (kept_bytes file i)) n) ∙ items_together file 0 (length file) i f (omega arith) ∙ ap (λ (m : ℕ). take m file) z ∙ take-length file in
      let g = fit_whole (length out) (slots_of list) i (omega (arith, o, l), omega (arith, k)) in
      let w = unrefused (length out) (slots_of list) i g in
      record {
        answer = h.answer ∙ simp (w, b, k, g);
        output = h.output ∙ rw (w, b) refl;
        listed = h.listed ∙ rw (w, n) refl;
      }
