-- What holds of every salvage, whatever the file, the output and the list. Proved as `laws` in `proofs/Laws.antt`.
-- Assumes nothing.
use Rattle.std.specs.Prelude.{ℕ, ◌+◌, ◌-◌, ◌*◌, ◌/◌, ◌≤◌, ◌<◌, List, [], ◌∷◌, ◌++◌, ◌↔◌, ◌≡◌, length, take, drop, Result, Ok, Err, ⊤}
use Rattle.salvage.specs.declared.Full.{Full}
use Rattle.strings.specs.Number.{Bytes}
use Rattle.fields.specs.Block.{Call, call_in, calls_in, end_in}
use Rattle.salvage.specs.declared.Full.TheVariants.{Output as OutputFull, List as ListFull}
use Rattle.salvage.specs.declared.Salvaged.{Salvaged}
use Rattle.salvage.specs.Items.{Item, Kept, Skipped, items_of}
use Rattle.salvage.specs.Rules.{Keeps}
use Rattle.salvage.specs.Writing.{fitting, kept_bytes, stretches, skips, slots_of, laid, Writes, Salvages}

-- ---- what a call wrote, and how far it came: to the end of the file, or to the byte told
abbrev pub bytes_in : Salvaged → List ℕ → List ℕ
bytes_in r out' = take r.written out'

abbrev pub list_in : Salvaged → List ℕ → List ℕ
list_in r list' = take (2 * r.stretches) list'

abbrev pub stop_of : Result ⊤ Full → ℕ → ℕ
stop_of (Ok _) n = n
stop_of (Err (OutputFull at)) n = at
stop_of (Err (ListFull at)) n = at

-- ---- "kept and skipped bytes together": up to the first of each stretch so many of the kept bytes, and then the bytes of the stretch
abbrev pub together : (file : List ℕ) → ℕ → (kept list : List ℕ) → List ℕ
together file at kept [] = kept
together file at kept (first ∷ []) = kept
together file at kept (first ∷ count ∷ more) =
    take (first - at) kept ++ (take count (drop first file) ++ together file (first + count) (drop (first - at) kept) more)

abbrev pub skipped_count : List ℕ → ℕ
skipped_count [] = 0
skipped_count (first ∷ []) = 0
skipped_count (first ∷ count ∷ more) = count + skipped_count more

-- they are the file up to where the call came: in order, and each byte once
pub record Parts (file : List ℕ) (r : Salvaged) (out' list' : List ℕ) : Type 0 where
  pub in_order_lem : together file 0 (bytes_in r out') (list_in r list') ≡ take (stop_of r.ended (length file)) file
  pub each_once : r.written + skipped_count (list_in r list') ≡ stop_of r.ended (length file)

-- a file "is copied whole with an empty list"
pub record Copied (file out list : List ℕ) (r : Salvaged) (out' list' : List ℕ) : Type 0 where
  pub answer : r ≡ record { written = length file; stretches = 0; ended = Ok tt }
  pub output : out' ≡ laid file out
  pub listed : list' ≡ list

-- between one stretch and the next stand two fields at least, which are six bytes
abbrev pub Apart : List ℕ → Type 0
Apart [] = Unit
Apart (first ∷ []) = Unit
Apart (first ∷ count ∷ []) = Unit
Apart (first ∷ count ∷ next ∷ more) = (first + count + 6 ≤ next) × Apart (next ∷ more)

-- ---- room for items: for the bytes of the kept ones, and for the skipped ones
abbrev pub kept_count : List Item → ℕ
kept_count [] = 0
kept_count (Kept at n ∷ is) = n + kept_count is
kept_count (Skipped at n ∷ is) = kept_count is

abbrev pub Fit : (room slots : ℕ) → List Item → Type 0
Fit room slots items = (kept_count items ≤ room) × (skips items ≤ slots)

-- "it stops before that item": all before it fits, and with it they do not
pub record StopsAt (items : List Item) (room slots : ℕ) (next : ℕ → Item) : Type 0 where
  pub before : List Item
  pub after : List Item
  pub count : ℕ
  pub split : items ≡ before ++ (next count ∷ after)
  pub fit : Fit room slots before
  pub full : Fit room slots (before ++ (next count ∷ [])) → ⊥

-- each end exactly where its rule says
pub record Ends (items : List Item) (room slots : ℕ) (ended : Result ⊤ Full) : Type 0 where
  pub whole : (ended ≡ Ok tt) ↔ Fit room slots items
  -- "44 no room in the output for the next field, 45 no room for the next stretch"
  pub output : (at : ℕ) → (ended ≡ Err (OutputFull at)) ↔ StopsAt items room slots (Kept at)
  pub list : (at : ℕ) → (ended ≡ Err (ListFull at)) ↔ StopsAt items room slots (Skipped at)

-- ---- going on: items and stretches that are told of a file from its byte n on, told of the whole file
abbrev pub moved_items : ℕ → List Item → List Item
moved_items n [] = []
moved_items n (Kept at count ∷ is) = Kept (n + at) count ∷ moved_items n is
moved_items n (Skipped at count ∷ is) = Skipped (n + at) count ∷ moved_items n is

abbrev pub onward : ℕ → List ℕ → List ℕ
onward n [] = []
onward n (first ∷ []) = []
onward n (first ∷ count ∷ more) = (n + first) ∷ count ∷ onward n more

-- a caller salvages from a place on, and where the call is refused empties its output and its list and goes on from the byte told: all the bytes and all the
-- stretches that it gets
pub data GoesOn (file : List ℕ) : ℕ → List ℕ → List ℕ → Type 0 where
  ends : (at : ℕ) (out list : List ℕ) (r : Salvaged) (out' list' : List ℕ) → Salvages (drop at file) out list r out' list' → r.ended ≡ Ok tt
      → GoesOn file at (bytes_in r out') (onward at (list_in r list'))
  goes : (at : ℕ) (out list : List ℕ) (r : Salvaged) (out' list' : List ℕ) (bytes told : List ℕ) → Salvages (drop at file) out list r out' list'
      → GoesOn file (at + stop_of r.ended (length (drop at file))) bytes told
      → GoesOn file at (bytes_in r out' ++ bytes) (onward at (list_in r list') ++ told)

-- ---- the calls of the fields kept, each read at its place in the file
abbrev pub calls_kept : List ℕ → List Item → List Call
calls_kept file [] = []
calls_kept file (Kept at n ∷ is) = call_in (drop at file) ++ calls_kept file is
calls_kept file (Skipped at n ∷ is) = calls_kept file is

pub record Laws : Type 0 where
  -- the items of a file keep the rules of the request, and whatever items keep them, these are written
  pub rules : (file : List ℕ) → Keeps file (items_of file)
  pub by_rules : (file out list : List ℕ) (r : Salvaged) (out' list' : List ℕ) → Salvages file out list r out' list' → (items : List Item) → Keeps file items
      → Writes file items out list r out' list'
  -- what is written lies within the output and the list
  pub within : (file out list : List ℕ) (r : Salvaged) (out' list' : List ℕ) → Salvages file out list r out' list'
      → (r.written ≤ length out) × (2 * r.stretches ≤ length list)
  -- "Unless refused, kept and skipped bytes together are the input, each byte once and in order"; and else up to the byte told
  pub parts : (file out list : List ℕ) (r : Salvaged) (out' list' : List ℕ) → Salvages file out list r out' list' → Parts file r out' list'
  pub all_parts : (file out list : List ℕ) (r : Salvaged) (out' list' : List ℕ) → Salvages file out list r out' list' → r.ended ≡ Ok tt
      → together file 0 (bytes_in r out') (list_in r list') ≡ file
  -- "an undamaged input is copied whole with an empty list": a block's reader comes to its end
  pub undamaged : (file out list : List ℕ) (r : Salvaged) (out' list' : List ℕ) → Salvages file out list r out' list' → end_in file ≡ 0 ∷ []
      → length file ≤ length out → Copied file out list r out' list'
  -- what is written is undamaged, so salvaging it again copies it
  pub sound : (file out list : List ℕ) (r : Salvaged) (out' list' : List ℕ) → Salvages file out list r out' list' → end_in (bytes_in r out') ≡ 0 ∷ []
  -- the calls in what is written are those of the fields kept, in order and each with the bytes it had in the file
  pub calls : (file out list : List ℕ) (r : Salvaged) (out' list' : List ℕ) → Salvages file out list r out' list'
      → calls_in (bytes_in r out') ≡ calls_kept file (fitting (length out) (slots_of list) (items_of file))
  -- two stretches never touch
  pub apart : (file out list : List ℕ) (r : Salvaged) (out' list' : List ℕ) → Salvages file out list r out' list' → Apart (list_in r list')
  -- each end exactly where its rule says
  pub end : (file out list : List ℕ) (r : Salvaged) (out' list' : List ℕ) → Salvages file out list r out' list'
      → Ends (items_of file) (length out) (slots_of list) r.ended
  -- never 44 where the output is as long as the file; never 45 where the list has room for a stretch in each seven bytes, the last of them not full
  pub never_44 : (file out list : List ℕ) (r : Salvaged) (out' list' : List ℕ) → Salvages file out list r out' list' → length file ≤ length out
      → (at : ℕ) → r.ended ≡ Err (OutputFull at) → ⊥
  pub never_45 : (file out list : List ℕ) (r : Salvaged) (out' list' : List ℕ) → Salvages file out list r out' list' → (length file + 6) / 7 ≤ slots_of list
      → (at : ℕ) → r.ended ≡ Err (ListFull at) → ⊥
  -- from the byte told, salvage of the rest of the file gives the rest of the items, moved by that byte
  pub rest : (file out list : List ℕ) (r : Salvaged) (out' list' : List ℕ) → Salvages file out list r out' list'
      → let stop = stop_of r.ended (length file) in
      items_of file ≡ fitting (length out) (slots_of list) (items_of file) ++ moved_items stop (items_of (drop stop file))
  -- so a caller with small rooms empties them and goes on, and loses nothing
  pub goes_on : (file bytes told : List ℕ) → GoesOn file 0 bytes told → (bytes ≡ kept_bytes file (items_of file)) × (told ≡ stretches (items_of file))
  -- and always gets on with room for the longest field and for one stretch
  pub gets_on : (file out list : List ℕ) (r : Salvaged) (out' list' : List ℕ) → Salvages file out list r out' list' → Bytes file → 0 < length file
      → 65538 ≤ length out → 2 ≤ length list → 0 < stop_of r.ended (length file)
  -- no second answer fits
  pub once : (file out list : List ℕ) (r q : Salvaged) (out' out'' list' list'' : List ℕ) → Salvages file out list r out' list'
      → Salvages file out list q out'' list'' → (r ≡ q) × ((out' ≡ out'') × (list' ≡ list''))
