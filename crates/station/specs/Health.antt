-- Health over the calls (the paper, "Health"): of the calls alone, as `History` tells them. And what l changed, of any kept record and any book.
-- Assumes nothing.
use Rattle.std.specs.Prelude.{ℕ, true, ◌&&◌, List, [], ◌∷◌, ◌⊎◌, ◌↔◌, ◌≡◌, eqb}
use Rattle.strings.specs.Pick.{pick}
use Rattle.strings.specs.Number.{word_of, flip}
use Rattle.words.specs.Immediate.{string_at}
use Rattle.book.specs.declared.Book.{Book}
use Rattle.book.specs.Entry.{Three}
use Rattle.immediate.specs.declared.Immediate.{Immediate}
use Rattle.channel.specs.History.{record_after}
use Rattle.station.specs.declared.Health.{Health}
use Rattle.station.specs.declared.Health.TheVariants.{Unknown, Usable, NotUsable}
use Rattle.station.specs.Queries.{is_slot, top_of_b, status_of, is_known, status_in, health_by}
use Rattle.station.specs.History.{Call, calls_on, Greatest}

-- "Without a record, or without a book entry for its n, a channel's satellite is unknown": the calls give a record, and an entry was shown for its n
pub record KnownIn (cs : List Call) (c : ℕ) : Type 0 where
  pub one : ℕ
  pub two : ℕ
  pub three : ℕ
  pub four : ℕ
  pub kept : record_after (calls_on c cs) ≡ one ∷ two ∷ three ∷ four ∷ []
  pub slot : is_slot (word_of four 15 11) ≡ true
  pub entry : Three
  pub greatest : Greatest cs (word_of four 15 11) entry

-- "usable only if the top bit of B is 0, l of string 3 is 0 and the book has C = 1"; "With M = 00, bit 65 of string 3 .. plays no part in health"
pub record UsableIn (cs : List Call) (c : ℕ) : Type 0 where
  pub known : KnownIn cs c
  pub top_of_B : word_of known.two 80 80 ≡ 0
  pub m_or_l : (word_of known.four 10 9 ≡ 0) ⊎ (word_of known.three 65 65 ≡ 0)
  pub status : status_of known.entry ≡ 1

-- unknown, usable, and else not usable
pub record HealthIn (cs : List Call) (c : ℕ) (h : Health) : Type 0 where
  pub unknown : (h ≡ Unknown) ↔ (KnownIn cs c → ⊥)
  pub usable : (h ≡ Usable) ↔ UsableIn cs c

-- ---- what l changed
-- two kept records that differ in bit 65 of string 3 alone
pub record DifferInBit65 (i j : Immediate) : Type 0 where
  pub one : string_at j.strings 0 ≡ string_at i.strings 0
  pub two : string_at j.strings 1 ≡ string_at i.strings 1
  pub three : string_at j.strings 2 ≡ flip (string_at i.strings 2) 65
  pub four : string_at j.strings 3 ≡ string_at i.strings 3

-- "With M = 00, bit 65 of string 3 is a reserved bit and plays no part in health", whatever the book
abbrev pub ReservedBit : Type 0
ReservedBit = (i j : Immediate) (b : Book) → DifferInBit65 i j → word_of (string_at i.strings 3) 10 9 ≡ 0 → health_by j b ≡ health_by i b

-- with any other M a satellite that raised l is not usable, whatever B and the book say
abbrev pub NeverUsable : Type 0
NeverUsable = (i : Immediate) (b : Book) → (word_of (string_at i.strings 3) 10 9 ≡ 0 → ⊥) → word_of (string_at i.strings 2) 65 65 ≡ 1
    → health_by i b ≡ Usable → ⊥

-- the rule before: "Otherwise it is usable if the record has the top bit of B at 0 and the entry has C = 1, and not usable if either fails"
unfoldable pub health_before : Immediate → Book → Health
health_before i b = pick (is_known i b) (pick (eqb (top_of_b i) 0 && eqb (status_in i b) 1) Usable NotUsable) Unknown

-- "A satellite called itself unfit and we used it.": that rule said usable, so there is a record and an entry; M is not 00, and l is 1
pub record UsedUnfit (i : Immediate) (b : Book) : Type 0 where
  pub before : health_before i b ≡ Usable
  pub M : word_of (string_at i.strings 3) 10 9 ≡ 0 → ⊥
  pub l : word_of (string_at i.strings 2) 65 65 ≡ 1

-- the two rules differ exactly there: there the satellite is not usable now, and everywhere else the answer is what it was
pub record RulesDiffer (i : Immediate) (b : Book) : Type 0 where
  pub there : UsedUnfit i b → health_by i b ≡ NotUsable
  pub elsewhere : (UsedUnfit i b → ⊥) → health_by i b ≡ health_before i b
