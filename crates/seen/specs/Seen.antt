-- What the code finds out of a string for its line: from the answer where it is taken, else by reading and checking it again.
-- Assumes nothing.
use Rattle.std.specs.Prelude.{ℕ, Bool, true, false, List, eqb, Result, Err, Ok}
use Rattle.channel.specs.declared.TakenString.{TakenString}
use Rattle.strings.specs.Pick.{pick}
use Rattle.strings.specs.declared.Refusal.{Refusal}
use Rattle.strings.specs.declared.Refusal.TheVariants.{Channel, Shape, Damaged, Idle, Number, Early, Stale, OffBeat, Conflict, Range, Place, Room, Nothing, Slot, Owner, Card}
use Rattle.strings.specs.declared.Verdict.{Verdict}
use Rattle.strings.specs.declared.Verdict.TheVariants.{Clean, Repaired}
use Rattle.strings.specs.Numbers.{first_of}
use Rattle.words.specs.Calls.{number_in}
use Rattle.relative.specs.Polarity.{polarity_number}
use Rattle.hearing.specs.Hears.{whole_of, verdict_in, hear_tests}
use Rattle.seen.specs.declared.seeing.Seen.{Seen}

-- the bit of a verdict: 0 if none
abbrev pub bit_in : Verdict → ℕ
bit_in Clean = 0
bit_in (Repaired i) = i

abbrev pub seen : ℕ → ℕ → ℕ → Seen
seen bit m polarity = record { repaired = bit; m = m; polarity = polarity }

-- 2 to 4 let the string pass
abbrev pub is_heard : List ℕ → Bool
is_heard s = eqb (first_of (hear_tests s)) 0

-- of one that they refuse, nothing is seen; of one that is refused later, the bit and m
unfoldable pub seen_in : List ℕ → Seen
seen_in s = pick (is_heard s) (seen (bit_in (verdict_in s)) (number_in (whole_of s)) 0) (seen 0 0 0)

-- 1 to 4, by cases; 31 to 33 stand in 3's position, and 16 and 15 before 2 (request 10)
abbrev pub comes_before_verdict : Refusal → Bool
comes_before_verdict Channel = true
comes_before_verdict Shape = true
comes_before_verdict (Damaged d) = true
comes_before_verdict Idle = true
comes_before_verdict Number = false
comes_before_verdict Early = false
comes_before_verdict Stale = false
comes_before_verdict OffBeat = false
comes_before_verdict Conflict = false
comes_before_verdict (Range place) = false
comes_before_verdict Place = false
comes_before_verdict Room = false
comes_before_verdict Nothing = false
comes_before_verdict Slot = false
comes_before_verdict Owner = true
comes_before_verdict Card = true

-- of a string with this answer
unfoldable pub seen_by : Result TakenString Refusal → List ℕ → Seen
seen_by (Ok said) s = seen (bit_in said.verdict) said.m (polarity_number said.polarity)
seen_by (Err q) s = pick (comes_before_verdict q) (seen 0 0 0) (seen_in s)
