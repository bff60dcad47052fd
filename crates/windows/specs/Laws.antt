-- What holds of every file that is salvaged window by window. Proved as `laws` in `proofs/Laws.antt`.
-- Assumes nothing.
use Rattle.std.specs.Prelude.{ℕ, zero, suc, ◌+◌, ◌*◌, ◌≤◌, Bool, List, [], ◌∷◌, ◌++◌, ◌≡◌, length, take, drop}
use Rattle.strings.specs.Number.{Bytes}
use Rattle.fields.specs.Block.{Call, Offer, Reset, offer_of}
use Rattle.salvage.specs.Items.{Item, resumes, items_of}
use Rattle.salvage.specs.Writing.{kept_bytes, stretches}
use Rattle.salvage.specs.Laws.{calls_kept}
use Rattle.digits.specs.Text.{row}
use Rattle.windows.specs.declared.Wanted.{Wanted}
use Rattle.windows.specs.declared.Wanted.TheVariants.{Fields, Stretches, Records}
use Rattle.windows.specs.declared.Stands.{Stands}
use Rattle.windows.specs.declared.Stands.TheVariants.{Between}
use Rattle.windows.specs.declared.Turn.{Turn}
use Rattle.windows.specs.Shown.{shown}
use Rattle.windows.specs.Window.{longest, Window, Passes}

-- ---- turns over a file, from a byte on: each window begins where the turn before it ended, whatever its length, and the last turn ends with the file. And all
-- that they write
pub data Turns (wanted : Wanted) (file : List ℕ) : ℕ → Stands → List ℕ → Type 0 where
  done : Turns wanted file (length file) Between []
  turn : {first : ℕ} {stands : Stands} (last : Bool) (window out : List ℕ) (r : Turn) (out' text : List ℕ) → Window file first last window
      → Passes wanted window last first stands out r out' → Turns wanted file (first + r.passed) r.stands text
      → Turns wanted file first stands (take r.written out' ++ text)

-- a line for each two numbers
abbrev pub lines_of : List ℕ → List ℕ
lines_of [] = []
lines_of (first ∷ []) = []
lines_of (first ∷ count ∷ more) = row (first ∷ count ∷ []) ++ lines_of more

-- ---- records of sixteen bytes, one after the other: the offers that the listing reads in k of them; the offers among calls; and that they are the same
abbrev pub offers_in : ℕ → List ℕ → List Call
offers_in zero text = []
offers_in (suc k) text = offer_of (take 16 text) ∷ offers_in k (drop 16 text)

abbrev pub offers_among : List Call → List Call
offers_among [] = []
offers_among (Offer channel epoch symbols ∷ calls) = Offer channel epoch symbols ∷ offers_among calls
offers_among (Reset channel ∷ calls) = offers_among calls

pub record Read (text : List ℕ) (calls : List Call) : Type 0 where
  pub count : ℕ
  pub whole : length text ≡ 16 * count
  pub offers : offers_in count text ≡ offers_among calls

pub record Laws : Type 0 where
  -- no byte further than 131,076 from a place on is looked at to see whether it goes on there
  pub near : (file : List ℕ) (at n : ℕ) → Bytes file → 2 * longest ≤ n → resumes (take (at + n) file) at ≡ resumes file at
  -- what a turn leaves is told by where it ends: no second answer fits
  pub once : (wanted : Wanted) (window : List ℕ) (last : Bool) (first : ℕ) (stands : Stands) (out : List ℕ) → Bytes window → (r q : Turn) (out' out'' : List ℕ)
      → Passes wanted window last first stands out r out' → Passes wanted window last first stands out q out'' → r.passed ≡ q.passed → r.stands ≡ q.stands
      → (r ≡ q) × (out' ≡ out'')
  -- window by window is written what is to be written of the whole file
  pub whole : (wanted : Wanted) (file text : List ℕ) → Turns wanted file 0 Between text → text ≡ shown wanted file (items_of file)
  -- which is what `salvage` writes: the bytes that are kept, and the stretches, a line each
  pub fields : (file : List ℕ) (items : List Item) → shown Fields file items ≡ kept_bytes file items
  pub lines : (file : List ℕ) (items : List Item) → shown Stretches file items ≡ lines_of (stretches items)
  -- and records that are whole, with the offers of the fields that are kept, in order
  pub records : (file : List ℕ) → Read (shown Records file (items_of file)) (calls_kept file (items_of file))
