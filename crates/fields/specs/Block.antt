-- The calls that a block holds, "its calls one by one, in the order written", and how it ends. For any bytes.
-- Assumes nothing.
use Rattle.std.specs.Prelude.{ℕ, zero, suc, ◌+◌, List, [], ◌∷◌, ◌++◌, eqb, leb, length, take, drop}
use Rattle.strings.specs.Pick.{pick}
use Rattle.strings.specs.Numbers.{answer_of}
use Rattle.fields.specs.Sixteen.{channel_in, epoch_in, symbols_in}
use Rattle.fields.specs.Fields.{tag_in, body_in, tests_in, is_good, size_in}

-- ---- a call: of "an offer (16 bytes, as the listing reads)" and of "a reset (one byte, the channel)". Nothing is said here of a station
pub data Call : Type 0 where
  Offer : (channel epoch : ℕ) → (symbols : List ℕ) → Call
  Reset : (channel : ℕ) → Call

abbrev pub offer_of : List ℕ → Call
offer_of body = Offer (channel_in body) (epoch_in body) (symbols_in body)

abbrev pub reset_of : List ℕ → Call
reset_of body = Reset (channel_in body)

-- the calls of a good field at the head of what is left: one, and none of "a remark .., ignored"
unfoldable pub call_in : List ℕ → List Call
call_in rest = pick (eqb (tag_in rest) 1) (offer_of (body_in rest) ∷ []) (pick (eqb (tag_in rest) 2) (reset_of (body_in rest) ∷ []) [])

-- ---- the good fields of a block, "in the order written", up to its end or to the first that is refused, each with all its bytes: k of them at most
unfoldable pub fields_over : ℕ → List ℕ → List (List ℕ)
fields_over zero rest = []
fields_over (suc k) rest = pick (is_good rest) (take (size_in rest) rest ∷ fields_over k (drop (size_in rest) rest)) []

-- a block has no more fields than bytes
unfoldable pub fields_in : List ℕ → List (List ℕ)
fields_in block = fields_over (length block) block

-- ---- their calls, one after the other
unfoldable pub calls_of : List (List ℕ) → List Call
calls_of [] = []
calls_of (f ∷ fs) = call_in f ++ calls_of fs

abbrev pub calls_in : List ℕ → List Call
calls_in block = calls_of (fields_in block)

-- ---- fields one after the other
unfoldable pub joined : List (List ℕ) → List ℕ
joined [] = []
joined (f ∷ fs) = f ++ joined fs

-- ---- "the work stops there .. and tells the byte place of the field": how the reading from a place on ends, in the paper's numbers. It stops behind the
-- good fields: 0 where this is the end of the block, else the number that says no and the place, counted from 0
abbrev pub end_at : List ℕ → ℕ → List ℕ
end_at block stop = pick (leb (length block) stop) (0 ∷ []) (answer_of (tests_in stop (drop stop block)) [])

unfoldable pub end_from : List ℕ → ℕ → List ℕ
end_from block at = end_at block (at + length (joined (fields_in (drop at block))))

abbrev pub end_in : List ℕ → List ℕ
end_in block = end_from block 0
