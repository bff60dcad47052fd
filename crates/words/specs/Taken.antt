-- What it takes to be read and to be written: no test fits, test by test; and what is told and made then.
-- Assumes nothing.
use Rattle.std.specs.Prelude.{ℕ, true, false, List, ◌≡◌, eqb, length}
use Rattle.strings.specs.Number.{number_of, misshapen, bytes_of_string}
use Rattle.strings.specs.Hamming.{ruling, is_damaged, mended}
use Rattle.strings.specs.Calls.{is_idle}
use Rattle.records.specs.declared.kinds.Kind.{Kind}
use Rattle.records.specs.declared.named.Record.{Record}
use Rattle.records.specs.Records.{kind_of, list_of}
use Rattle.layout.specs.Layout.{layout, of_kind}
use Rattle.words.specs.Values.{values_of, first_bad}
use Rattle.words.specs.Calls.{number_in, string_of}

-- m and the record r are read of the string s, of which kind k is asked
pub record IsRead (s : List ℕ) (k : Kind) (m : ℕ) (r : Record) : Type 0 where
  pub shape : misshapen s ≡ false
  pub sound : is_damaged (ruling (number_of s)) ≡ false
  pub idle : is_idle (mended (number_of s)) ≡ false
  pub numbered : eqb (number_in (mended (number_of s))) 0 ≡ false
  pub place : of_kind k (number_in (mended (number_of s))) ≡ true
  pub range : first_bad (layout k) (values_of (mended (number_of s)) (layout k)) ≡ 0
  pub number : m ≡ number_in (mended (number_of s))
  pub kind : kind_of r ≡ k
  pub words : list_of r ≡ values_of (mended (number_of s)) (layout k)

-- m and the record r are written as out'
pub record IsWritten (m : ℕ) (r : Record) (out out' : List ℕ) : Type 0 where
  pub room : length out ≡ 11
  pub place : of_kind (kind_of r) m ≡ true
  pub range : first_bad (layout (kind_of r)) (list_of r) ≡ 0
  pub output : out' ≡ bytes_of_string (string_of m r)
