-- A block as the tracking board writes it: from calls and remarks. Assumes nothing.
use Rattle.std.specs.Prelude.{ℕ, ◌^◌, ◌<◌, List, [], ◌∷◌, ◌++◌, ◌≡◌, length}
use Rattle.strings.specs.Number.{bytes_of}
use Rattle.fields.specs.Block.{Call, Offer, Reset}

-- what a block is written from: a call that it asks for, or the bytes of a remark
pub data Item : Type 0 where
  Asks : Call → Item
  Remarks : List ℕ → Item

-- ---- "tagged fields, one-byte tag, two-byte big-endian length"
abbrev pub field_of : ℕ → List ℕ → List ℕ
field_of tag body = tag ∷ (bytes_of 2 (length body) ++ body)

-- "Tag 1 is an offer (16 bytes, as the listing reads), tag 2 a reset (one byte, the channel), tag 3 a remark of any length"
unfoldable pub written : Item → List ℕ
written (Asks (Offer channel epoch symbols)) = field_of 1 (channel ∷ (bytes_of 4 epoch ++ symbols))
written (Asks (Reset channel)) = field_of 2 (channel ∷ [])
written (Remarks bytes) = field_of 3 bytes

unfoldable pub block_of : List Item → List ℕ
block_of [] = []
block_of (i ∷ is) = written i ++ block_of is

-- the calls among them, in their order
unfoldable pub calls_among : List Item → List Call
calls_among [] = []
calls_among (Asks call ∷ is) = call ∷ calls_among is
calls_among (Remarks bytes ∷ is) = calls_among is

-- ---- what can be written: an offer of eleven bytes, at any channel and any epoch; any reset; a remark whose length fits two bytes
abbrev pub Fits : Item → Type 0
Fits (Asks (Offer channel epoch symbols)) = (epoch < 2 ^ 32) × (length symbols ≡ 11)
Fits (Asks (Reset channel)) = Unit
Fits (Remarks bytes) = length bytes < 2 ^ 16

abbrev pub AllFit : List Item → Type 0
AllFit [] = Unit
AllFit (i ∷ is) = Fits i × AllFit is
