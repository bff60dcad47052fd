-- Blocks of a few bytes, their calls and how they end, computed from the definitions.
-- Assumes nothing.
use Rattle.std.specs.Prelude.{ℕ, List, [], ◌∷◌, ◌++◌, ◌≡◌, refl, replicate}
use Rattle.fields.specs.Fields.{is_good, size_in, size_at}
use Rattle.fields.specs.Block.{Offer, Reset, call_in, fields_over, fields_in, calls_of, calls_in, joined, end_from, end_in}

-- a string in relative form (the paper's B); an offer of it on channel 23 at epoch 258; a reset of channel 5; and remarks of no byte and of 256
abbrev pub string : List ℕ
string = 0x0F ∷ 0xFF ∷ 0xFF ∷ 0xFF ∷ 0xFF ∷ 0xFF ∷ 0xFF ∷ 0xFF ∷ 0xFF ∷ 0xFB ∷ 0x00 ∷ []

abbrev pub offer : List ℕ
offer = 1 ∷ 0 ∷ 16 ∷ 23 ∷ 0 ∷ 0 ∷ 1 ∷ 2 ∷ string

abbrev pub reset : List ℕ
reset = 2 ∷ 0 ∷ 1 ∷ 5 ∷ []

abbrev pub silent : List ℕ
silent = 3 ∷ 0 ∷ 0 ∷ []

abbrev pub long : List ℕ
long = 3 ∷ 1 ∷ 0 ∷ replicate 256 1

pub record Known : Type 0 where
  -- an empty block has no calls and is no refusal
  pub none : (calls_in [] ≡ []) × (end_in [] ≡ 0 ∷ [])
  -- calls in the order written, and remarks ignored
  pub calls : calls_in (reset ++ silent ++ offer ++ long ++ reset) ≡ Reset 5 ∷ Offer 23 258 string ∷ Reset 5 ∷ []
  pub whole : end_in (reset ++ silent ++ offer ++ long ++ reset) ≡ 0 ∷ []
  -- the work stops at an unknown tag, and keeps what went before
  pub tag : (calls_in (reset ++ (4 ∷ 0 ∷ 0 ∷ offer)) ≡ Reset 5 ∷ []) × (end_in (reset ++ (4 ∷ 0 ∷ 0 ∷ offer)) ≡ 41 ∷ 4 ∷ [])
  -- a reset of no byte; an offer of seventeen
  pub no_channel : end_in (silent ++ (2 ∷ 0 ∷ 0 ∷ [])) ≡ 42 ∷ 3 ∷ []
  pub seventeen : end_in (1 ∷ 0 ∷ 17 ∷ 23 ∷ 0 ∷ 0 ∷ 1 ∷ 2 ∷ (string ++ (0 ∷ []))) ≡ 42 ∷ 0 ∷ []
  -- fewer than three bytes left; and a length that runs past the end, even of an unknown tag
  pub two_left : end_in (reset ++ (9 ∷ 0 ∷ [])) ≡ 43 ∷ 4 ∷ []
  pub runs_past : end_in (reset ++ (9 ∷ 0 ∷ 1 ∷ [])) ≡ 43 ∷ 4 ∷ []
  -- how many bytes a good field has, and 0 where there is none
  pub sizes : (size_at (reset ++ offer) 4 ≡ 19) × ((size_at (reset ++ offer) 3 ≡ 0) × (size_at reset 4 ≡ 0))

pub known : Known
unfolding is_good size_in call_in fields_over fields_in calls_of joined end_from
known =
    record {
      none = (refl, refl);
      calls = refl;
      whole = refl;
      tag = (refl, refl);
      no_channel = refl;
      seventeen = refl;
      two_left = refl;
      runs_past = refl;
      sizes = (refl, (refl, refl));
    }
