-- What is seen in a window is what is seen in the file, before the goal: sizes, and where it goes on (size-held, resumes-held). And what is shown of an item is
-- the same (kept-held, skipped-held).
-- Assumes nothing.
use Prim.Native.Nat.{ℕ, ◌+◌, ◌-◌, ◌*◌, ◌≤◌, ◌<◌}
use native.Mathlib.Omega.{arith}
use mathlib.Core.Path.{◌≡◌, refl, ap, ap₂, ◌∙◌}
use mathlib.Core.Bool.{Bool, true, false, ◌||◌}
use mathlib.Core.List.{List, []}
use lib.Dec.{eqb}
use lib.ListN.{length, take, drop, get_or, length-drop}
use lib.Seq.{take_all, take-take, drop-drop, get_or-take, get_or-drop}
use Rattle.strings.specs.Pick.{pick}
use Rattle.strings.specs.Number.{Bytes}
use Rattle.fields.specs.Fields.{size_in, size_at}
use Rattle.fields.proofs.Near.{drop_take, near as near-size}
use Rattle.salvage.specs.Items.{Kept, Skipped, two_follow, one_ends, resumes}
use Rattle.windows.specs.declared.Wanted.{Wanted}
use Rattle.windows.specs.declared.Wanted.TheVariants.{Fields, Stretches, Records}
use Rattle.windows.specs.Shown.{shown_of}
use Rattle.windows.specs.Window.{longest, goal_of, Window}
use Rattle.windows.proofs.Near.{near}

-- the goal lies within the window
pub goal_in : (last : Bool) (n i : ℕ) → i < goal_of last n → i < n
goal_in true n i h = h
goal_in false n i h = omega arith

module _ {file : List ℕ} {first : ℕ} {last : Bool} {window : List ℕ} (v : Window file first last window) where
  abbrev behind : List ℕ
  behind = drop first file

  behind_bytes : Bytes behind
  behind_bytes k = rw (get_or-drop first file k 0) (v.bytes (first + k))

  -- ---- whatever is seen so near, and only of what stands from the place on
  module _ {A : Type 0} (look : List ℕ → ℕ → A)
      (is-near : (l : List ℕ) (at n : ℕ) → Bytes l → 2 * longest ≤ n → look (take (at + n) l) at ≡ look l at)
      (onward : (i : ℕ) → look behind i ≡ look file (first + i)) where
    by_last : (b : Bool) → last ≡ b → (i : ℕ) → i < goal_of b (length window) → look window i ≡ look file (first + i)
    by_last true e i h =
        let l : length behind ≤ length window = omega (arith, length-drop first file, v.ends e) in
        ap (λ (l : List ℕ). look l i) (v.here ∙ take_all (length window) behind l) ∙ onward i
    by_last false e i h =
        let k : length window ≡ i + (length window - i) = omega arith in
        ap (λ (l : List ℕ). look l i) (v.here ∙ ap (λ (n : ℕ). take n behind) k)
        ∙ is-near behind i (length window - i) behind_bytes (omega arith) ∙ onward i

    pub held : (i : ℕ) → i < goal_of last (length window) → look window i ≡ look file (first + i)
    held i h = by_last last refl i h

  pub size_held : (i : ℕ) → i < goal_of last (length window) → size_at window i ≡ size_at file (first + i)
  size_held = held size_at (λ l at n b h. near-size l at n b (omega arith)) (λ i. ap size_in (drop-drop i first file))

  pub resumes_held : (i : ℕ) → i < goal_of last (length window) → resumes window i ≡ resumes file (first + i)
  unfolding resumes
  resumes_held = held resumes near (λ i. ap (λ (l : List ℕ). two_follow l || one_ends l) (drop-drop i first file))

  -- ---- what is shown
  part_held : (i n : ℕ) → i + n ≤ length window → take n (drop i window) ≡ take n (drop (first + i) file)
  part_held i n h =
      let k : length window ≡ i + (length window - i) = omega arith in
      ap (λ (l : List ℕ). take n (drop i l)) (v.here ∙ ap (λ (n : ℕ). take n behind) k)
      ∙ ap (take n) (drop_take i (length window - i) behind)
      ∙ take-take n (length window - i) (drop i behind) (omega arith)
      ∙ ap (take n) (drop-drop i first file)

  byte_held : (i : ℕ) → i < length window → get_or window i 0 ≡ get_or file (first + i) 0
  byte_held i h = ap (λ (l : List ℕ). get_or l i 0) v.here ∙ get_or-take (length window) behind i 0 h ∙ get_or-drop first file i 0

  pub kept_held : (wanted : Wanted) (i n : ℕ) → 3 ≤ n → i + n ≤ length window → shown_of wanted window (Kept i n) ≡ shown_of wanted file (Kept (first + i) n)
  kept_held Fields i n l h = part_held i n h
  kept_held Stretches i n l h = refl
  kept_held Records i n l h =
      let e : first + (i + 3) ≡ first + i + 3 = omega arith in
      ap₂ (λ (b : ℕ) (x : List ℕ). pick (eqb b 1) x []) (byte_held i (omega arith))
      (part_held (i + 3) (n - 3) (omega arith) ∙ ap (λ (k : ℕ). take (n - 3) (drop k file)) e)

pub skipped_held : (wanted : Wanted) (file : List ℕ) (first count : ℕ) → shown_of wanted [] (Skipped first count) ≡ shown_of wanted file (Skipped first count)
skipped_held Fields file first count = refl
skipped_held Stretches file first count = refl
skipped_held Records file first count = refl
