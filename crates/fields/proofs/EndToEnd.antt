-- A block that ends whole is its fields (whole_is); and what stands after it is read as it is alone (follow).
-- Assumes nothing.
use mathlib.Core.Path.{◌≡◌, refl, sym, ap, ◌∙◌}
use mathlib.Core.Bool.{Bool, true, false}
use mathlib.Core.List.{List, [], ◌∷◌, ◌++◌, append_assoc, append-nil}
use Prim.Native.Nat.{ℕ, ◌+◌}
use native.Mathlib.Omega.{arith}
use lib.Dec.{leb}
use lib.ListN.{length, drop, length-append, drop_of_length-le}
use lib.Seq.{drop-append-add}
use borrow.Author.Tests.{leb-true, leb-false, le-leb, lt-leb}
use Rattle.strings.specs.Pick.{pick}
use Rattle.strings.specs.Numbers.{answer_of}
use Rattle.fields.specs.Fields.{tag_in, length_in, is_unknown, is_wrong, is_cut, tests_in}
use Rattle.fields.specs.Block.{Call, call_in, fields_in, calls_of, joined, end_at, end_in}
use Rattle.fields.specs.Laws.{onward, Follow}
use Rattle.fields.proofs.Tested.{three, refused_never}
use Rattle.fields.proofs.Steps.{fields_joined, fields_whole, fields_front, stop_in, end_is}

-- ---- a block that ends whole is its fields, one after the other
module _ (a : List ℕ) where
  by_end : (b : Bool) (place : ℕ) → leb (length a) (stop_in a) ≡ b → pick b (0 ∷ []) (answer_of (tests_in place (drop (stop_in a) a)) []) ≡ 0 ∷ []
      → joined (fields_in a) ≡ a
  by_end true place e p =
      sym (append-nil (joined (fields_in a))) ∙ ap (λ (l : List ℕ). joined (fields_in a) ++ l) (sym (drop_of_length-le a (leb-true (length a) (stop_in a) e)))
      ∙ (fields_front a).front
  by_end false place e p = absurd (refused_never place (drop (stop_in a) a) [] [] (fields_front a).stop p)

  pub whole_is : end_in a ≡ 0 ∷ [] → joined (fields_in a) ≡ a
  whole_is p = by_end (leb (length a) (stop_in a)) _ refl (sym (end_is a) ∙ p)

-- ---- the calls of fields one after the other
pub calls_append : (fs gs : List (List ℕ)) → calls_of (fs ++ gs) ≡ calls_of fs ++ calls_of gs
unfolding calls_of
calls_append [] gs = refl
calls_append (f ∷ fs) gs = ap (λ (l : List Call). call_in f ++ l) (calls_append fs gs) ∙ sym (append_assoc (call_in f) (calls_of fs) (calls_of gs))

joined_append : (fs gs : List (List ℕ)) → joined (fs ++ gs) ≡ joined fs ++ joined gs
unfolding joined
joined_append [] gs = refl
joined_append (f ∷ fs) gs = ap (λ (l : List ℕ). f ++ l) (joined_append fs gs) ∙ sym (append_assoc f (joined fs) (joined gs))

-- ---- an end further on
leb_add : (n x y : ℕ) → leb (n + x) (n + y) ≡ leb x y
leb_add n x y = by (leb x y) refl
  where
    by : (b : Bool) → leb x y ≡ b → leb (n + x) (n + y) ≡ b
    by true e = le-leb (n + x) (n + y) (omega (arith, leb-true x y e))
    by false e = lt-leb (n + x) (n + y) (omega (arith, leb-false x y e))

moved_on : (n at : ℕ) (t a b c : Bool)
    → pick t (0 ∷ []) (answer_of (three (n + at) a b c) []) ≡ onward n (pick t (0 ∷ []) (answer_of (three at a b c) []))
moved_on n at true a b c = refl
moved_on n at false true b c = refl
moved_on n at false false true c = refl
moved_on n at false false false true = refl
moved_on n at false false false false = refl

end_moved : (a b : List ℕ) (stop : ℕ) → end_at (a ++ b) (length a + stop) ≡ onward (length a) (end_at b stop)
end_moved a b stop =
    let rest = drop stop b in
    rw (length-append a b, leb_add, drop-append-add a b stop)
    (moved_on (length a) stop (leb (length b) stop) (is_cut (length_in rest) (length rest)) (is_unknown (tag_in rest)) (is_wrong (tag_in rest) (length_in rest)))

-- ---- TWO BLOCKS END TO END, where the first ends whole: the calls of the first and then of the second, and the end of the second
pub follow : (a b : List ℕ) → end_in a ≡ 0 ∷ [] → Follow a b
follow a b p =
    let w = whole_is a p in
    let f : fields_in (a ++ b) ≡ fields_in a ++ fields_in b = ap (λ (l : List ℕ). fields_in (l ++ b)) (sym w) ∙ fields_joined (fields_in a) b (fields_whole a) in
    let s : stop_in (a ++ b) ≡ length a + stop_in b =
    ap (λ (fs : List (List ℕ)). length (joined fs)) f ∙ ap length (joined_append (fields_in a) (fields_in b))
    ∙ length-append (joined (fields_in a)) (joined (fields_in b)) ∙ ap (λ (l : List ℕ). length l + stop_in b) w in
    record {
      calls = ap calls_of f ∙ calls_append (fields_in a) (fields_in b);
      end = end_is (a ++ b) ∙ ap (end_at (a ++ b)) s ∙ end_moved a b (stop_in b) ∙ ap (onward (length a)) (sym (end_is b));
    }
