-- CARD, CHANNEL and OWNER: where a station's calls answer 16, 1 and 15, in numbers. The proof stands in `proofs/Channels.antt`.
-- Assumes nothing.
use Rattle.std.specs.Prelude.{ℕ, ◌≤◌, ◌<◌, List, [], ◌∷◌, true, ◌↔◌, ◌⊎◌, ◌≡◌, Result}
use Rattle.station.specs.declared.Health.{Health}
use Rattle.summary.specs.declared.Summary.{Summary}
use Rattle.tallies.specs.declared.Tallies.{Tallies}
use Rattle.book.specs.declared.Entry.{Entry}
use Rattle.strings.specs.declared.Refusal.{Refusal}
use Rattle.records.specs.declared.named.ImmediateWords.{ImmediateWords}
use Rattle.strings.specs.Calls.{written_paper}
use Rattle.channel.specs.Offers.{answer_paper}
use Rattle.station.specs.declared.Station.{Station}
use Rattle.station.specs.declared.Stepped.{Stepped}
use Rattle.station.specs.declared.Emptied.{Emptied}
use Rattle.station.specs.Station.{is_served, OffersTo, Resets}
use Rattle.station.specs.Queries.{record_paper, entry_paper, tallies_paper, summary_paper, health_paper, FindsRecord, FindsEntry, FindsTallies, FindsSummary, FindsHealth}

-- one of the two cards
abbrev pub IsCard : ℕ → Type 0
IsCard card = (card ≡ 1) ⊎ (card ≡ 2)

-- the other card's channel: 24..47 asked by card one, 0..23 by card two
abbrev pub TheOthers : ℕ → ℕ → Type 0
TheOthers card c = ((card ≡ 1) × ((24 ≤ c) × (c ≤ 47))) ⊎ ((card ≡ 2) × (c ≤ 23))

-- what the gate answers to a card that names a channel
pub record Exact (card c : ℕ) (said : List ℕ) : Type 0 where
  -- "16 CARD, before CHANNEL or SLOT, for a card other than one or two"
  pub no_card : (said ≡ 16 ∷ []) ↔ (IsCard card → ⊥)
  -- "CHANNEL reads 'above 47'"
  pub no_channel : (said ≡ 1 ∷ []) ↔ (IsCard card × (47 < c))
  -- "15 OWNER, directly after it, when the channel is the other card's"
  pub not_owner : (said ≡ 15 ∷ []) ↔ TheOthers card c

pub record GateExactly (st : Station) (card c : ℕ) : Type 0 where
  pub offer : (epoch : ℕ) (s : List ℕ) (r : Stepped) → OffersTo st card c epoch s r → Exact card c (answer_paper r.answer)
  pub reset : (r : Emptied) → Resets st card c r → Exact card c (written_paper r.answer)
  pub immediate_of_lem : (r : Result (ImmediateWords × ℕ) Refusal) → FindsRecord st card c r → Exact card c (record_paper r)
  pub tallies_of : (r : Result Tallies Refusal) → FindsTallies st card c r → Exact card c (tallies_paper r)
  pub health_of : (r : Result Health Refusal) → FindsHealth st card c r → Exact card c (health_paper r)

-- and to one that asks for the book or its summary
pub record CardExactly (st : Station) (card : ℕ) : Type 0 where
  pub entry_of : (slot : ℕ) (r : Result Entry Refusal) → FindsEntry st card slot r → (entry_paper r ≡ 16 ∷ []) ↔ (IsCard card → ⊥)
  pub summary_of : (r : Result Summary Refusal) → FindsSummary st card r → (summary_paper r ≡ 16 ∷ []) ↔ (IsCard card → ⊥)

-- a call is served exactly where the channel is the card's own
abbrev pub Owns : ℕ → ℕ → Type 0
Owns card c = ((card ≡ 1) × (c ≤ 23)) ⊎ ((card ≡ 2) × ((24 ≤ c) × (c ≤ 47)))

abbrev pub ServedExactly : Type 0
ServedExactly = (card c : ℕ) → (is_served card c ≡ true) ↔ Owns card c
