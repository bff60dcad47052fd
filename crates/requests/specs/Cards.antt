-- Which request an op and its payload make, and which card asks. For any op and any bytes.
-- Assumes nothing.
use Rattle.std.specs.Prelude.{◌≡◌, ℕ, ◌-◌, Bool, true, false, List, [], ◌∷◌, length, drop, ◌==◌, slice_index, refl, Option, MatchOption}
use Rattle.strings.specs.Pick.{pick, is_one_of}
use Rattle.requests.specs.declared.cards.Asking.{Asking}
use Rattle.requests.specs.declared.kinds.Request.{Request}
use Rattle.requests.specs.Numbers.{number_of, is_request}

-- "Requests 6 to 11, 13, 14 and 23 .. speak for card one"
abbrev pub of_cards : List ℕ
of_cards = 6 ∷ 7 ∷ 8 ∷ 9 ∷ 10 ∷ 11 ∷ 13 ∷ 14 ∷ 23 ∷ []

-- "For any card, the same requests 32 higher". An op below 32 is none of them, since 0 is not among these
abbrev pub names_card : ℕ → Bool
names_card op = is_one_of of_cards (op - 32)

-- ---- "card (1 byte), then the payload of op - 32"
-- the request: without that byte none, which 0 stands for
abbrev pub request_of : ℕ → List ℕ → ℕ
request_of op payload = pick (names_card op) (pick (length payload == 0) 0 (op - 32)) op

abbrev pub card_of : ℕ → List ℕ → ℕ
card_of op payload = pick (names_card op) (slice_index payload 0) 1

-- the payload that the request has for card one
abbrev pub own_of : ℕ → List ℕ → List ℕ
own_of op payload = pick (names_card op) (drop 1 payload) payload

-- an op that names a card, as the request 32 lower; None for every other
abbrev pub NamesCard : ℕ → Option Request → Type 0
NamesCard op r = MatchOption r (names_card op ≡ false) (λ k. (names_card op ≡ true) × (number_of k ≡ op - 32))

pub record Asks (op : ℕ) (payload : List ℕ) (r : Asking) : Type 0 where
  pub request : number_of r.request ≡ request_of op payload
  pub card : r.card ≡ card_of op payload
  pub own : r.own.now ≡ own_of op payload

-- the contract: None where the number that it comes to is none of a request
abbrev pub AsksIfAny : ℕ → List ℕ → Option Asking → Type 0
AsksIfAny op payload r = MatchOption r (is_request (request_of op payload) ≡ false) (λ a. Asks op payload a)

-- ---- computed
pub record Known : Type 0 where
  -- an offer by card two; a block by card three that is its card alone; a summary by card 0
  pub offer : (request_of 38 (2 ∷ 24 ∷ []) ≡ 6) × (card_of 38 (2 ∷ 24 ∷ []) ≡ 2) × (own_of 38 (2 ∷ 24 ∷ []) ≡ 24 ∷ [])
  pub block : (request_of 45 (3 ∷ []) ≡ 13) × (card_of 45 (3 ∷ []) ≡ 3) × (own_of 45 (3 ∷ []) ≡ [])
  pub summary : (request_of 46 (0 ∷ []) ≡ 14) × (card_of 46 (0 ∷ []) ≡ 0)
  -- without a card none is a request
  pub without : (request_of 45 [] ≡ 0) × (request_of 46 [] ≡ 0)
  -- "44 and every other number are unknown, as before": as they came, and no request has such a number
  pub others : (request_of 44 (1 ∷ []) ≡ 44) × (request_of 37 (1 ∷ []) ≡ 37) × (request_of 47 (1 ∷ []) ≡ 47) × (request_of 70 (1 ∷ []) ≡ 70)
  -- "Request 12 names no card"
  pub fresh : (request_of 12 [] ≡ 12) × (own_of 12 [] ≡ [])

pub known : Known
known =
    record {
      offer = (refl, refl, refl);
      block = (refl, refl, refl);
      summary = (refl, refl);
      without = (refl, refl);
      others = (refl, refl, refl, refl);
      fresh = (refl, refl);
    }
