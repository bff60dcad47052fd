-- What the measured calls promise leaves one answer and one output (relative-tells-once, read-tells-once, write-tells-once).
-- Assumes nothing.
use Prim.Native.Nat.{ℕ}
use mathlib.Core.List.{List}
use mathlib.Core.Path.{◌≡◌, sym, ap, ◌∙◌}
use lib.IntN.{ℤ}
use Rattle.strings.specs.Calls.{written_paper}
use Rattle.records.specs.declared.named.Record.{Record}
use Rattle.relative.specs.declared.Polarity.{Polarity}
use Rattle.strings.specs.declared.Refusal.{Refusal}
use Rattle.std.specs.Prelude.{Result, ⊤}
use Rattle.relative.specs.Calls.{decoded_paper}
use Rattle.relative.proofs.RelativeCode.{reads_once}
use Rattle.words.specs.Calls.{reading_paper}
use Rattle.words.proofs.RoundTrips.{read_once, write_once}
use Rattle.records.specs.Records.{record_of}
use Rattle.told.specs.Told.{packed}
use Rattle.measured.specs.Parts.{TellsRelative, kind_by, words_left, TellsRead, TellsWrite}

-- ---- a call that answers the same is told the same
written_once : {r q : ℕ} (w v : Result ⊤ Refusal) → w ≡ v → r ≡ packed (written_paper w) → q ≡ packed (written_paper v) → r ≡ q
written_once w v e a b = a ∙ ap (λ (x : Result ⊤ Refusal). packed (written_paper x)) e ∙ sym b

module _ (s out : List ℕ) (r q : ℕ) (out' out'' : List ℕ) where
  pub relative_tells_once : TellsRelative s out r out' → TellsRelative s out q out'' → (r ≡ q) × (out' ≡ out'')
  relative_tells_once a b =
      let e = reads_once s out a.call out' b.call out'' a.made b.made in
      (a.answer ∙ ap (λ (x : Result Polarity Refusal). packed (decoded_paper x)) e.0 ∙ sym b.answer, e.1)

module _ (s : List ℕ) (kind : ℕ) (out : List ℤ) (r q : ℕ) (out' out'' : List ℤ) where
  pub read_tells_once : TellsRead s kind out r out' → TellsRead s kind out q out'' → (r ≡ q) × (out' ≡ out'')
  read_tells_once a b =
      let e = read_once s (kind_by kind) a.call b.call a.made b.made in
      (a.answer ∙ ap (λ (x : Result (ℕ × Record) Refusal). packed (reading_paper x)) e ∙ sym b.answer, a.words ∙ ap (λ (x : Result (ℕ × Record) Refusal). words_left x out) e ∙ sym b.words)

module _ (m kind : ℕ) (v : List ℤ) (out : List ℕ) (r q : ℕ) (out' out'' : List ℕ) where
  pub write_tells_once : TellsWrite m kind v out r out' → TellsWrite m kind v out q out'' → (r ≡ q) × (out' ≡ out'')
  write_tells_once a b =
      let e = write_once m (record_of (kind_by kind) v) out a.call b.call out' out'' a.made b.made in
      (written_once a.call b.call e.0 a.answer b.answer, e.1)
