-- What a query found is one thing, and a query that was refused found nothing. Assumes nothing.
use Prim.Native.Nat.{ℕ}
use mathlib.Core.Path.{◌≡◌, ap}
use Rattle.strings.specs.declared.Refusal.{Refusal}
use Rattle.std.specs.Prelude.{Result, Ok, Err}
use Rattle.records.specs.declared.named.ImmediateWords.{ImmediateWords}
use Rattle.book.specs.declared.Entry.{Entry}

pub one_record : {w v : ImmediateWords} {a b : ℕ} → ◌≡◌ {A = Result (ImmediateWords × ℕ) Refusal} (Ok (w, a)) (Ok (v, b)) → (w ≡ v) × (a ≡ b)
one_record {w = w} {a = a} q = (ap words q, ap start q)
  where
    words : Result (ImmediateWords × ℕ) Refusal → ImmediateWords
    words (Ok (x, k)) = x
    words (Err r) = w

    start : Result (ImmediateWords × ℕ) Refusal → ℕ
    start (Ok (x, k)) = k
    start (Err r) = a

pub no_record : {r : Refusal} {w v : ImmediateWords} {a b : ℕ} → ◌≡◌ {A = Result (ImmediateWords × ℕ) Refusal} (Err r) (Ok (w, a)) → (w ≡ v) × (a ≡ b)
no_record q = (cc, cc)

pub one_entry : {e f : Entry} → ◌≡◌ {A = Result Entry Refusal} (Ok e) (Ok f) → e ≡ f
one_entry q = cc

pub no_entry : {r : Refusal} {e f : Entry} → Err r ≡ Ok e → e ≡ f
no_entry q = cc
