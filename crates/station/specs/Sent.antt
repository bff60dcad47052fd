-- What a station makes of a string that a satellite sends, as it is and with one or two bits wrong: in the bits of the string, in the paper's numbers
-- and in the station that is left. "So from an encoded string one flip is repaired unless it is bit 8, and every two flips are DAMAGED", and the
-- string itself is taken as clean. The proof stands in `proofs/Sent.antt`.
-- Assumes nothing.
use Rattle.std.specs.Prelude.{ℕ, ◌-◌, ◌%◌, ◌^◌, ◌≤◌, ◌<◌, true, List, [], ◌∷◌, map, ◌⊎◌, ◌≡◌, refl, length, Result}
use Rattle.strings.specs.declared.Refusal.{Refusal}
use Rattle.std.proofs.Common.{lit<, lit≤}
use Rattle.strings.specs.Number.{number_of, bit_of, word_of, flip, bytes_of_string}
use Rattle.strings.specs.Hamming.{position, sum_c, sum_all, syndrome, Encoded}
use Rattle.strings.specs.Known.{a}
use Rattle.relative.specs.Relative.{write_relative, inverse}
use Rattle.tallies.specs.declared.Tallies.{Tallies}
use Rattle.tallies.specs.Tallies.{causes, cause_of, one_more}
use Rattle.channel.specs.Row.{empty_row}
use Rattle.channel.specs.Offers.{answer_paper}
use Rattle.station.specs.declared.Station.{Station}
use Rattle.station.specs.declared.Stepped.{Stepped}
use Rattle.station.specs.Station.{channels, last_channel, fresh_station, row_at, is_served, OffersTo}
use Rattle.station.specs.Queries.{tallies_paper, FindsTallies}

-- ---- a string, and how it is sent
-- 85 bits, the idle bit 0, every sum 0
pub record SentString (n : ℕ) : Type 0 where
  pub small : n < 2 ^ 85
  pub idle : bit_of n 85 ≡ 0
  pub encoded : Encoded n

-- "Bits 84 to 81 are the string number m"
abbrev pub m_of : ℕ → ℕ
m_of n = word_of n 84 81

-- eleven bytes in relative form, or the same with all 85 symbols inverted
abbrev pub SentAs : ℕ → List ℕ → Type 0
SentAs n s = (s ≡ bytes_of_string (write_relative n)) ⊎ (s ≡ bytes_of_string (inverse (write_relative n)))

-- the one with the polarity 0, and the other with 1
abbrev pub SentWith : ℕ → List ℕ → ℕ → Type 0
SentWith n s p = ((s ≡ bytes_of_string (write_relative n)) × (p ≡ 0)) ⊎ ((s ≡ bytes_of_string (inverse (write_relative n))) × (p ≡ 1))

-- bits that may be wrong: bit 85 is left out, since it is read as 0 whatever was sent
abbrev pub IsBit : ℕ → Type 0
IsBit i = (1 ≤ i) × (i ≤ 84)

-- ---- where it is offered: on one of the channels, none of whose fifteen strings is present, and not before its frame can have begun
pub record Awaits (st : Station) (card c epoch n : ℕ) : Type 0 where
  pub served : is_served card c ≡ true
  pub no_frame : (row_at st c).present % 2 ^ 15 ≡ 0
  pub numbered : 1 ≤ m_of n
  pub not_early : m_of n - 1 ≤ epoch

-- ---- what is left of a station that has taken the string as clean, and of the same that has taken it with one bit wrong: they differ in two tallies
abbrev pub tallies_at : Station → ℕ → Tallies
tallies_at st c = (row_at st c).tallies

pub record SameButVerdict (before : Station) (c : ℕ) (clean repaired : Station) : Type 0 where
  pub book : repaired.book ≡ clean.book
  pub summary : repaired.summary ≡ clean.summary
  pub others : (k : ℕ) → (k ≡ c → ⊥) → row_at repaired k ≡ row_at clean k
  pub strings : (row_at repaired c).strings ≡ (row_at clean c).strings
  pub start : (row_at repaired c).start ≡ (row_at clean c).start
  pub present : (row_at repaired c).present ≡ (row_at clean c).present
  pub immediate : (row_at repaired c).immediate ≡ (row_at clean c).immediate
  pub offered : (tallies_at repaired c).offered ≡ (tallies_at clean c).offered
  pub refused : (tallies_at repaired c).refused ≡ (tallies_at clean c).refused
  pub causes_stay : (tallies_at repaired c).causes ≡ (tallies_at clean c).causes
  -- "It adds to offered and to clean or repaired by the verdict"
  pub clean_counted : (tallies_at clean c).clean ≡ one_more (tallies_at before c).clean
  pub clean_not : (tallies_at clean c).repaired ≡ (tallies_at before c).repaired
  pub repaired_counted : (tallies_at repaired c).repaired ≡ one_more (tallies_at before c).repaired
  pub repaired_not : (tallies_at repaired c).clean ≡ (tallies_at before c).clean

-- ---- all of it, whole: proved as `heard_as_sent`
pub record HeardAsSent (st : Station) (card c epoch n : ℕ) : Type 0 where
  -- taken, m, clean, kept, and the polarity
  pub clean : (s : List ℕ) (p : ℕ) (r : Stepped) → Awaits st card c epoch n → SentWith n s p → OffersTo st card c epoch s r
      → answer_paper r.answer ≡ 0 ∷ m_of n ∷ 0 ∷ 0 ∷ 1 ∷ p ∷ []
  -- "one flip is repaired unless it is bit 8": taken, the m that was sent, repaired with the bit named, kept, and the polarity
  pub one_flip : (i : ℕ) (s : List ℕ) (p : ℕ) (r : Stepped) → Awaits st card c epoch n → IsBit i → (i ≡ 8 → ⊥) → SentWith (flip n i) s p
      → OffersTo st card c epoch s r → answer_paper r.answer ≡ 0 ∷ m_of n ∷ 1 ∷ i ∷ 1 ∷ p ∷ []
  -- and of a station that has its rows it leaves what the string leaves that was sent
  pub left : (i : ℕ) (s t : List ℕ) (q r : Stepped) → length st.rows ≡ channels → Awaits st card c epoch n → IsBit i → (i ≡ 8 → ⊥)
      → SentAs n s → OffersTo st card c epoch s q → SentAs (flip n i) t → OffersTo st card c epoch t r → SameButVerdict st c q.station r.station
  -- the tallies that are then told: offered, clean, repaired, refused, and the causes
  pub clean_told : (s : List ℕ) (r : Stepped) (t : Result Tallies Refusal) → length st.rows ≡ channels → Awaits st card c epoch n → SentAs n s → OffersTo st card c epoch s r
      → FindsTallies r.station card c t
      → tallies_paper t ≡ 0 ∷ one_more (tallies_at st c).offered ∷ one_more (tallies_at st c).clean ∷ (tallies_at st c).repaired ∷ (tallies_at st c).refused ∷ map (cause_of (tallies_at st c)) causes
  pub repaired_told : (i : ℕ) (s : List ℕ) (r : Stepped) (t : Result Tallies Refusal) → length st.rows ≡ channels → Awaits st card c epoch n → IsBit i → (i ≡ 8 → ⊥)
      → SentAs (flip n i) s → OffersTo st card c epoch s r → FindsTallies r.station card c t
      → tallies_paper t ≡ 0 ∷ one_more (tallies_at st c).offered ∷ (tallies_at st c).clean ∷ one_more (tallies_at st c).repaired ∷ (tallies_at st c).refused ∷ map (cause_of (tallies_at st c)) causes
  -- "a flip of bit 8 alone is refused": 31, "S = 0, C = 1"; and "every two flips are DAMAGED": 32, "S not 0, C = 0". Whatever the channel holds, at
  -- every epoch
  pub bit_8 : (s : List ℕ) (r : Stepped) → is_served card c ≡ true → SentAs (flip n 8) s → OffersTo st card c epoch s r → answer_paper r.answer ≡ 31 ∷ []
  pub two_flips : (i j : ℕ) (s : List ℕ) (r : Stepped) → is_served card c ≡ true → IsBit i → IsBit j → (i ≡ j → ⊥) → SentAs (flip (flip n i) j) s → OffersTo st card c epoch s r
      → answer_paper r.answer ≡ 32 ∷ []

-- ---- such strings there are: the paper's A, on the last channel of a fresh station at epoch 0
pub record SentWitness : Type 0 where
  pub a_good : SentString a
  pub a_awaited : Awaits fresh_station 2 last_channel 0 a
  pub a_number : m_of a ≡ 1

pub sent_witness : SentWitness
unfolding fresh_station is_served empty_row a number_of word_of position sum_c sum_all syndrome
sent_witness =
    record {
      a_good = record { small = lit< tt; idle = refl; encoded = record { sums = refl; all = refl } };
      a_awaited = record { served = refl; no_frame = refl; numbered = lit≤ tt; not_early = lit≤ tt };
      a_number = refl;
    }
