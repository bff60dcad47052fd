-- An input cut into records of sixteen bytes by `chunks_exact`: which record comes next (cut_more), and how many come (cut_all).
-- Assumes nothing.
use mathlib.Core.Path.{◌≡◌, sym, ap, ◌∙◌}
use mathlib.Core.List.{List, [], ◌∷◌, ◌++◌}
use Prim.Native.Nat.{ℕ, ◌+◌, ◌*◌, ◌/◌, ◌≤◌}
use native.Mathlib.Omega.{arith}
use lib.ListN.{length, take, drop, length-append, length-drop}
use lib.Seq.{drop-drop, drop-append_seam, take-append_seam}
use denote.Ref.{Bor}
use Rattle.std.specs.Prelude.{Some, None}
use Rattle.std.specs.declared.slice.ChunksExact.{ChunksExact}
use Rattle.std.specs.Slice.Iter.{chunks_exact_rest, chunks_exact_size, chunks_exact_steps}
use Rattle.std.proofs.lemmas.List.{length_push}

-- the records `taken` are the first of the input, and `left` has the bytes after them
pub record Cut (input : List ℕ) (taken : List (Bor (List ℕ))) (left : ChunksExact ℕ) : Type 0 where
  pub size : chunks_exact_size left ≡ 16
  pub rest : chunks_exact_rest left ≡ drop (length taken * 16) input
  pub bound : length taken * 16 ≤ length input

module _ {input : List ℕ} where
  pub cut_none : {left items : ChunksExact ℕ} → left ≡ items → chunks_exact_size items ≡ 16 → chunks_exact_rest items ≡ input → Cut input [] left
  cut_none e s r =
      record {
        size = ap (λ (x : ChunksExact ℕ). chunks_exact_size x) e ∙ s;
        rest = ap (λ (x : ChunksExact ℕ). chunks_exact_rest x) e ∙ r;
        bound = omega arith;
      }

  module _ {taken : List (Bor (List ℕ))} {left : ChunksExact ℕ} (c : Cut input taken left) where
    module _ (rec : Bor (List ℕ)) (left' : ChunksExact ℕ) (s : chunks_exact_steps left (Some rec) left') where
      long : length rec.now ≡ 16
      long = s.1.1 ∙ c.size

      parts : drop (length taken * 16) input ≡ rec.now ++ chunks_exact_rest left'
      parts = sym c.rest ∙ s.1.0

      -- the record that comes next
      pub cut_next : rec.now ≡ take 16 (drop (length taken * 16) input)
      cut_next = sym (ap (take 16) parts ∙ ap (λ (k : ℕ). take k (rec.now ++ chunks_exact_rest left')) (sym long) ∙ take-append_seam rec.now (chunks_exact_rest left'))

      -- and those after it
      pub cut_more : Cut input (taken ++ (rec ∷ [])) left'
      cut_more =
          let one : length (taken ++ (rec ∷ [])) ≡ length taken + 1 = length_push taken rec in
          let after : chunks_exact_rest left' ≡ drop 16 (drop (length taken * 16) input) =
          sym (ap (drop 16) parts ∙ ap (λ (k : ℕ). drop k (rec.now ++ chunks_exact_rest left')) (sym long) ∙ drop-append_seam rec.now (chunks_exact_rest left'))
          in
          record {
            size = s.0 ∙ c.size;
            rest = after ∙ drop-drop 16 (length taken * 16) input ∙ ap (λ (k : ℕ). drop k input) (omega arith);
            bound = omega (arith, c.bound, ap length parts, length-append rec.now (chunks_exact_rest left'), long, length-drop (length taken * 16) input);
          }

    -- all of them
    pub cut_all : (left' : ChunksExact ℕ) → chunks_exact_steps left None left' → length taken ≡ length input / 16
    cut_all left' s = omega (arith, c.bound, c.size, s.1.0, ap length c.rest, length-drop (length taken * 16) input)
