-- Turns over a file write what is to be written of all of it (whole); which is what `salvage` writes (fields, lines).
-- Assumes nothing.
use Prim.Native.Nat.{ℕ, ◌+◌}
use native.Mathlib.Nat.{add-zero}
use native.Mathlib.Omega.{arith}
use mathlib.Core.Path.{◌≡◌, refl, sym, ap, ◌∙◌}
use mathlib.Core.List.{List, [], ◌∷◌, ◌++◌}
use lib.ListN.{length, take, drop}
use Rattle.digits.specs.Text.{row}
use Rattle.salvage.specs.Items.{Item, Kept, Skipped, items_of}
use Rattle.salvage.specs.Writing.{kept_bytes, stretches}
use Rattle.salvage.proofs.Items.{rest_all}
use Rattle.windows.specs.declared.Wanted.{Wanted}
use Rattle.windows.specs.declared.Wanted.TheVariants.{Fields, Stretches}
use Rattle.windows.specs.declared.Stands.{Stands}
use Rattle.windows.specs.declared.Stands.TheVariants.{Between}
use Rattle.windows.specs.Shown.{shown}
use Rattle.windows.specs.Window.{left_at}
use Rattle.windows.specs.Laws.{Turns, done, turn, lines_of}
use Rattle.windows.proofs.Left.{left_none}
use Rattle.windows.proofs.Works.{shown_append}

-- from a byte on they write what is left from there
left_written : {wanted : Wanted} {file : List ℕ} {first : ℕ} {stands : Stands} {text : List ℕ} → Turns wanted file first stands text
    → text ≡ shown wanted file (left_at file first stands)
unfolding shown
left_written {wanted} {file} done = ap (shown wanted file) (sym (left_none file (length file) (omega arith)))
left_written {wanted} {file} {first} {stands} (turn last window out r out' text v p more) =
    let t = p.works.tells file v in
    let next = left_at file (first + r.passed) r.stands in
    ap (λ (l : List ℕ). l ++ text) t.shows ∙ ap (λ (l : List ℕ). shown wanted file t.told ++ l) (left_written more)
    ∙ sym (shown_append wanted file t.told next)
    ∙ ap (shown wanted file) (sym t.items ∙ ap (λ (k : ℕ). left_at file k stands) (add-zero first))

pub whole : (wanted : Wanted) (file text : List ℕ) → Turns wanted file 0 Between text → text ≡ shown wanted file (items_of file)
whole wanted file text t = left_written t ∙ ap (shown wanted file) (rest_all file)

-- ---- the bytes that are kept, and a line for each stretch
pub fields : (file : List ℕ) (items : List Item) → shown Fields file items ≡ kept_bytes file items
unfolding shown
fields file [] = refl
fields file (Kept at n ∷ is) = ap (λ (l : List ℕ). take n (drop at file) ++ l) (fields file is)
fields file (Skipped at n ∷ is) = fields file is

pub lines : (file : List ℕ) (items : List Item) → shown Stretches file items ≡ lines_of (stretches items)
unfolding shown
lines file [] = refl
lines file (Kept at n ∷ is) = lines file is
lines file (Skipped at n ∷ is) = ap (λ (l : List ℕ). row (at ∷ n ∷ []) ++ l) (lines file is)
