-- What is left of a file from a byte on, step by step: a stretch begins (left-bad), a field is kept (left-good), a byte of a stretch is skipped (left-on), a
-- stretch ends where it goes on (left_here) or with the file (left_end).
-- Assumes nothing.
use Prim.Native.Nat.{ℕ, ◌+◌, ◌-◌, ◌≤◌, ◌<◌}
use native.Mathlib.Numerals.{add-one}
use mathlib.Core.Path.{◌≡◌, ap}
use mathlib.Core.Bool.{true, false}
use mathlib.Core.List.{List, [], ◌∷◌}
use lib.ListN.{length}
use Rattle.fields.specs.Fields.{size_at}
use Rattle.salvage.specs.Items.{Item, Kept, Skipped, resumes, next_place}
use Rattle.salvage.proofs.Places.{search_here, search_on, search_end}
use Rattle.salvage.proofs.Items.{rest_end, rest_bad, rest_good}
use Rattle.windows.specs.declared.Stands.TheVariants.{Between, Since}
use Rattle.windows.specs.Window.{items_at, left_at}

module _ (file : List ℕ) (at : ℕ) where
  -- the stretch up to q
  abbrev up_to : ℕ → ℕ → List Item
  up_to start q = Skipped start (q - start) ∷ items_at file q

  pub left_bad : at < length file → size_at file at ≡ 0 → left_at file at Between ≡ left_at file (at + 1) (Since at)
  unfolding next_place
  left_bad h z = rw (add-one at) (rest_bad file at h z)

  pub left_good : (n : ℕ) → at < length file → n ≡ size_at file at → (n ≡ 0 → ⊥) → left_at file at Between ≡ Kept at n ∷ left_at file (at + n) Between
  left_good n h e z = rest_good file at n h e z

  pub left_on : (start : ℕ) → at < length file → resumes file at ≡ false → left_at file at (Since start) ≡ left_at file (at + 1) (Since start)
  left_on start h e = rw (add-one at) (ap (up_to start) (search_on file at h e))

  pub left_here : (start : ℕ) → at < length file → resumes file at ≡ true → left_at file at (Since start) ≡ Skipped start (at - start) ∷ left_at file at Between
  left_here start h e = ap (up_to start) (search_here file at h e)

  pub left_end : (start : ℕ) → length file ≤ at → left_at file at (Since start) ≡ Skipped start (at - start) ∷ left_at file at Between
  left_end start h = ap (up_to start) (search_end file at h)

  pub left_none : length file ≤ at → left_at file at Between ≡ []
  left_none h = rest_end file at h
