-- What the measured calls on a string promise, from what the calls that they make promise (tells-read, tells-write); and the kinds by their numbers
-- (any-other).
-- Assumes nothing.
use Prim.Native.Nat.{ℕ, zero, suc}
use mathlib.Core.List.{List}
use mathlib.Core.Path.{◌≡◌, refl, ap, subst, ◌∙◌}
use lib.IntN.{ℤ}
use Rattle.strings.specs.Calls.{written_paper}
use Rattle.strings.specs.declared.Refusal.{Refusal}
use Rattle.std.specs.Prelude.{Result, ⊤}
use Rattle.records.specs.declared.kinds.Kind.{Kind}
use Rattle.records.specs.declared.kinds.Kind.TheVariants.{Fourteen}
use Rattle.records.specs.declared.named.Record.{Record}
use Rattle.records.specs.Records.{record_of}
use Rattle.words.specs.Calls.{reading_paper, Reads, Writes}
use Rattle.told.specs.Told.{packed}
use Rattle.measured.specs.Parts.{kind_by, words_left, TellsRead, TellsWrite}

-- a number that is none of 1 to 7
pub any_other : (n : ℕ) → (n ≡ 1 → ⊥) → (n ≡ 2 → ⊥) → (n ≡ 3 → ⊥) → (n ≡ 4 → ⊥) → (n ≡ 5 → ⊥) → (n ≡ 6 → ⊥) → (n ≡ 7 → ⊥) → Fourteen ≡ kind_by n
any_other zero a b c d e f g = refl
any_other (suc zero) a b c d e f g = absurd (a refl)
any_other (suc (suc zero)) a b c d e f g = absurd (b refl)
any_other (suc (suc (suc zero))) a b c d e f g = absurd (c refl)
any_other (suc (suc (suc (suc zero)))) a b c d e f g = absurd (d refl)
any_other (suc (suc (suc (suc (suc zero))))) a b c d e f g = absurd (e refl)
any_other (suc (suc (suc (suc (suc (suc zero)))))) a b c d e f g = absurd (f refl)
any_other (suc (suc (suc (suc (suc (suc (suc zero))))))) a b c d e f g = absurd (g refl)
any_other (suc (suc (suc (suc (suc (suc (suc (suc n)))))))) a b c d e f g = refl

-- a call of the reader that answers y
pub tells_read : {s : List ℕ} {kind r : ℕ} {out out' : List ℤ} {k : Kind} {x y : Result (ℕ × Record) Refusal} → k ≡ kind_by kind → Reads s k x → x ≡ y
    → r ≡ packed (reading_paper y) → out' ≡ words_left y out → TellsRead s kind out r out'
tells_read {s = s} {kind = kind} {out = out} {k = k} {x = x} {y = y} e a f p w =
    record {
      call = y;
      made = subst (Reads s (kind_by kind)) f (subst (λ (j : Kind). Reads s j x) e a);
      answer = p;
      words = w;
    }

pub tells_write : {m kind r : ℕ} {v : List ℤ} {out out' : List ℕ} {k : Kind} {rec : Record} (w : Result ⊤ Refusal) → k ≡ kind_by kind → rec ≡ record_of k v
    → Writes m rec out w out' → r ≡ packed (written_paper w) → TellsWrite m kind v out r out'
tells_write {m = m} {v = v} {out = out} {out' = out'} w e f a p =
    record {
      call = w;
      made = subst (λ (z : Record). Writes m z out w out') (f ∙ ap (λ (j : Kind). record_of j v) e) a;
      answer = p;
    }
