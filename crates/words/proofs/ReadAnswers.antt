-- The reader's answers: test by test, and after the check's tests; and the record that it makes of the values.
-- Assumes nothing.
use mathlib.Core.Path.{◌≡◌, refl, sym, ap, ap₂, subst, ◌∙◌}
use mathlib.Core.Bool.{Bool, true, false}
use mathlib.Core.List.{List, [], ◌∷◌, ◌++◌}
use Prim.Native.Nat.{ℕ, zero, suc}
use native.Mathlib.Omega.{arith}
use lib.ListN.{length}
use borrow.Author.Tests.{ne_eqb}
use Rattle.strings.specs.declared.Refusal.{Refusal}
use Rattle.std.specs.Prelude.{Result, Ok, Err}
use Rattle.strings.specs.declared.Verdict.{Verdict}
use Rattle.strings.specs.Pick.{pick}
use Rattle.strings.specs.Number.{number_of}
use Rattle.strings.specs.Hamming.{ruling, mended}
use Rattle.strings.specs.Numbers.{refusal_paper, verdict_paper, Test, first_of, place_of, said_by, answer_of}
use Rattle.strings.specs.Calls.{Checks, checked_paper, verdict_told, sound_tests, string_tests}
use Rattle.strings.proofs.Answer.{not_taken, taken_made}
use Rattle.strings.proofs.CheckRule.{check_took}
use Rattle.strings.proofs.SoundTests.{IsSound, sound_then}
use Rattle.strings.proofs.Judge.{mended_lt}
use Rattle.strings.proofs.Shape.{shaped, has_room_lem}
use Rattle.strings.proofs.Value.{Bytes, number_lt, string_number_lem}
use Rattle.records.specs.declared.kinds.Kind.{Kind}
use Rattle.records.specs.declared.named.Record.{Record}
use Rattle.layout.specs.Layout.{layout, kind_number}
use Rattle.words.specs.Values.{values_of}
use Rattle.records.specs.Records.{kind_of, list_of, record_of}
use Rattle.words.specs.Calls.{number_in, word_tests, reading_words, ReadsBy, Reads}
use Rattle.records.proofs.RecordLists.{record_kind}
use Rattle.words.proofs.RecordLists.{record_values}

-- ---- an answer, test by test
module _ {n : ℕ} {k : Kind} where
  -- the first test fits: its number and place, and no words
  pub reads_no : (j : ℕ) {p : List ℕ} {b : Bool} {ts : List Test} (q : Refusal) → refusal_paper q ≡ suc j ∷ p → b ≡ true
      → ReadsBy (record { number = suc j; place = p; fits = b } ∷ ts) n k (Err q)
  unfolding reading_words
  reads_no j q e f = record { answer = rw f e; words = rw (f, ne_eqb (suc j) 0 (λ z. omega arith)) }

  -- the first test does not fit: the answer is that of the others
  pub reads_on : (j : ℕ) {p : List ℕ} {b : Bool} {ts : List Test} {r : Result (ℕ × Record) Refusal} → b ≡ false → ReadsBy ts n k r
      → ReadsBy (record { number = j; place = p; fits = b } ∷ ts) n k r
  reads_on j e a = record { answer = rw e a.answer; words = rw e a.words }

  -- those of every string do not fit: the answer is that of the others
  pub reads_past : (x : ℕ) → IsSound x → (ts : List Test) {r : Result (ℕ × Record) Refusal} → ReadsBy ts n k r → ReadsBy (sound_tests x ++ ts) n k r
  reads_past x i ts a = let p = sound_then x i ts in record { answer = rw (p.0, p.1) a.answer; words = rw p.0 a.words }

  -- none fits: m and the record of the values
  pub reads_yes : (m : ℕ) (r : Record) → m ≡ number_in n → r ≡ record_of k (values_of n (layout k)) → ReadsBy [] n k (Ok (m, r))
  unfolding reading_words
  reads_yes m r e f =
      record {
        answer = ap₂ (λ (x y : ℕ). 0 ∷ x ∷ y ∷ []) e (ap kind_number (ap kind_of f ∙ record_kind k (values_of n (layout k))));
        words = ap list_of f ∙ record_values k n;
      }

  -- a refusal by the tests ts is one by ts and others after them
  module _ (q : Refusal) (told : List ℕ) (no : refusal_paper q ≡ 0 ∷ told → ⊥) where
    no-first : (j : ℕ) (p : List ℕ) (b : Bool) (ts us : List Test) → (refusal_paper q ≡ answer_of ts told → ReadsBy us n k (Err q))
        → refusal_paper q ≡ said_by (pick b j (first_of ts)) (pick b p (place_of ts)) told
        → ReadsBy (record { number = j; place = p; fits = b } ∷ us) n k (Err q)
    no-first zero p true ts us ih e = absurd (no e)
    no-first (suc j) p true ts us ih e = reads_no j q e refl
    no-first j p false ts us ih e = reads_on j refl (ih e)

    pub reads_no_more : (ts us : List Test) → refusal_paper q ≡ answer_of ts told → ReadsBy (ts ++ us) n k (Err q)
    reads_no_more [] us e = absurd (no e)
    reads_no_more (t ∷ ts) us e = no-first t.number t.place t.fits ts (ts ++ us) (reads_no_more ts us) e

-- ---- what the check says
module _ (s out out' : List ℕ) (k : Kind) (c : Result Verdict Refusal) (room : length out ≡ 11) (a : Checks s out c out') where
  -- the check refuses, and so does the reader
  pub refused_read : (q : Refusal) → c ≡ Err q → Reads s k (Err q)
  unfolding Reads Checks
  refused_read q e =
      let n = number_of s in
      reads_no_more q (verdict_told (ruling n)) (not_taken q (verdict_told (ruling n))) (string_tests s) (word_tests (mended n) k)
      (rw (has_room_lem out room) at (ap checked_paper (sym e) ∙ a.answer))

  -- the check takes the string: the reader goes on with what the check left
  pub taken_read : (v : Verdict) (r : Result (ℕ × Record) Refusal) → c ≡ Ok v → Bytes s → ReadsBy (word_tests (number_of out') k) (number_of out') k r → Reads s k r
  unfolding Reads Checks
  taken_read v r e b w =
      let n = number_of s in
      let a' = subst (λ (x : Result Verdict Refusal). Checks s out x out') e a in
      let c = check_took s out v out' a' in
      let f = ap number_of (taken_made (verdict_paper v) a') ∙ string_number_lem (mended n) (mended_lt n (number_lt s b (shaped s c.0).0)) in
      reads_on 2 c.0 (reads_past n c.1 (word_tests (mended n) k) (subst (λ (m : ℕ). ReadsBy (word_tests m k) m k r) f w))
