-- What the calls on a string that bench/ measures answer: each makes one public call, answers its numbers in one number, and leaves what it leaves.
-- Assumes nothing.
use Rattle.std.specs.Prelude.{ℕ, List, [], ◌∷◌, ◌≡◌, ℤ, get_or, Result, Ok, Err, ⊤}
use Rattle.records.specs.declared.named.Record.{Record}
use Rattle.relative.specs.declared.Polarity.{Polarity}
use Rattle.strings.specs.declared.Refusal.{Refusal}
use Rattle.strings.specs.Calls.{written_paper}
use Rattle.relative.specs.Calls.{decoded_paper, ReadsRelative}
use Rattle.records.specs.declared.kinds.Kind.{Kind}
use Rattle.records.specs.declared.kinds.Kind.TheVariants.{One, Two, Three, Four, Five, Even, Odd, Fourteen}
use Rattle.records.specs.Records.{list_of, record_of}
use Rattle.words.specs.Calls.{reading_paper, Reads, Writes}
use Rattle.told.specs.Told.{packed}

-- ---- a plain string from its relative form
pub record TellsRelative (s out : List ℕ) (r : ℕ) (out' : List ℕ) : Type 0 where
  pub call : Result Polarity Refusal
  pub made : ReadsRelative s out call out'
  pub answer : r ≡ packed (decoded_paper call)

-- ---- the kind of a number, 1 to 8; any other number counts as 8
abbrev pub kind_by : ℕ → Kind
kind_by n = get_or (Fourteen ∷ One ∷ Two ∷ Three ∷ Four ∷ Five ∷ Even ∷ Odd ∷ []) n Fourteen

-- ---- the words of a string. A refusal leaves the eight places as they were
unfoldable pub words_left : Result (ℕ × Record) Refusal → List ℤ → List ℤ
words_left (Ok (m, r)) out = list_of r
words_left (Err q) out = out

pub record TellsRead (s : List ℕ) (kind : ℕ) (out : List ℤ) (r : ℕ) (out' : List ℤ) : Type 0 where
  pub call : Result (ℕ × Record) Refusal
  pub made : Reads s (kind_by kind) call
  pub answer : r ≡ packed (reading_paper call)
  pub words : out' ≡ words_left call out

-- ---- the string of m and of the words of a kind
pub record TellsWrite (m kind : ℕ) (v : List ℤ) (out : List ℕ) (r : ℕ) (out' : List ℕ) : Type 0 where
  pub call : Result ⊤ Refusal
  pub made : Writes m (record_of (kind_by kind) v) out call out'
  pub answer : r ≡ packed (written_paper call)
