-- What a query finds: on a channel, from where the call enters and what its row holds; of a slot, from its number and what stands in the book.
-- Assumes nothing.
use Prim.Native.Nat.{ℕ, ◌≤◌, ◌<◌}
use mathlib.Core.Bool.{true, false, not}
use mathlib.Core.List.{List, [], ◌∷◌}
use mathlib.Core.Path.{◌≡◌, sym, ap, ◌∙◌}
use borrow.Author.Tests.{le-leb, lt-leb, eq-eqb, ne_eqb}
use Rattle.strings.specs.declared.Refusal.{Refusal}
use Rattle.std.specs.Prelude.{Ok, Err}
use Rattle.strings.specs.declared.Refusal.TheVariants.{Nothing, Slot}
use Rattle.strings.specs.Numbers.{Test, test}
use Rattle.records.specs.declared.named.ImmediateWords.{ImmediateWords}
use Rattle.words.specs.Immediate.{immediate_of}
use Rattle.book.specs.declared.Entry.{Entry}
use Rattle.book.specs.Book.{slots, in_slot}
use Rattle.immediate.specs.Kept.{has_record}
use Rattle.station.specs.declared.Station.{Station}
use Rattle.station.specs.declared.Health.{Health}
use Rattle.station.specs.Station.{row_at, is_card, Enters}
use Rattle.station.specs.Queries.{kept_at, FindsRecord, FindsEntry, all_counts, FindsTallies, health_number, health_by, FindsHealth}
use Rattle.station.proofs.Found.{one_record, no_record, one_entry, no_entry}
use Rattle.station.proofs.Served.{open_says, shut_says_lem, entered}

abbrev nothing : Station → ℕ → List Test
nothing st c = test 13 (not (has_record (kept_at st c))) ∷ []

-- ---- a call that is not let in
module _ (st : Station) (card c : ℕ) (why : Refusal) (n : Enters card c (Err why)) where
  pub record_shut : FindsRecord st card c (Err why)
  record_shut = record { answer = n.1 ∙ sym (shut_says_lem card c (nothing st c) [] n.0); words = λ w start q. no_record q }

  pub tallies_shut : FindsTallies st card c (Err why)
  unfolding FindsTallies
  tallies_shut = n.1 ∙ sym (shut_says_lem card c [] (all_counts (row_at st c).tallies) n.0)

  pub health_shut : FindsHealth st card c (Err why)
  unfolding FindsHealth
  health_shut = n.1 ∙ sym (shut_says_lem card c [] (health_number (health_by (kept_at st c) st.book) ∷ []) n.0)

-- ---- one that is, at the row of this index
module _ (st : Station) (card c i : ℕ) (n : Enters card c (Ok i)) where
  pub record_missing : has_record (kept_at st i) ≡ false → FindsRecord st card c (Err Nothing)
  record_missing h =
      entered (λ (k : ℕ). FindsRecord st card k (Err Nothing)) card n
      (λ f. record { answer = sym (open_says card i (nothing st i) [] f ∙ rw h); words = λ w start q. no_record q })

  pub record_there : has_record (kept_at st i) ≡ true → (w : ImmediateWords) → w ≡ immediate_of (kept_at st i).strings → FindsRecord st card c (Ok (w, (kept_at st i).start))
  record_there h w e =
      entered (λ (k : ℕ). FindsRecord st card k (Ok (w, (kept_at st i).start))) card n
      (λ f. record { answer = sym (open_says card i (nothing st i) [] f ∙ rw h); words = λ v start q. (sym (one_record q).0 ∙ e, sym (one_record q).1) })

  pub tallies_there : FindsTallies st card c (Ok (row_at st i).tallies)
  unfolding FindsTallies
  tallies_there =
      entered (λ (k : ℕ). FindsTallies st card k (Ok (row_at st i).tallies)) card n (λ f. sym (open_says card i [] (all_counts (row_at st i).tallies) f))

  pub health_there : (h : Health) → h ≡ health_by (kept_at st i) st.book → FindsHealth st card c (Ok h)
  unfolding FindsHealth
  health_there h e =
      entered (λ (k : ℕ). FindsHealth st card k (Ok h)) card n
      (λ f. ap (λ (x : Health). 0 ∷ health_number x ∷ []) e ∙ sym (open_says card i [] (health_number (health_by (kept_at st i) st.book) ∷ []) f))

-- ---- the entry of a slot, asked for by one of the cards
module _ (st : Station) (card k : ℕ) (there : is_card card ≡ true) where
  pub slot_low : k < 1 → FindsEntry st card k (Err Slot)
  slot_low l = record { answer = rw (there, lt-leb 1 k l); entry = λ e q. no_entry q }

  pub slot_high : 1 ≤ k → slots < k → FindsEntry st card k (Err Slot)
  slot_high l h = record { answer = rw (there, le-leb 1 k l, lt-leb k slots h); entry = λ e q. no_entry q }

  module _ (l : 1 ≤ k) (h : k ≤ slots) (e : Entry) (found : e ≡ in_slot st.book k) where
    pub entry_missing : e.day ≡ 0 → FindsEntry st card k (Err Nothing)
    entry_missing z = record { answer = rw (there, le-leb 1 k l, le-leb k slots h, ← found, eq-eqb e.day 0 z); entry = λ d q. no_entry q }

    pub entry_there : (e.day ≡ 0 → ⊥) → FindsEntry st card k (Ok e)
    entry_there n = record { answer = rw (there, le-leb 1 k l, le-leb k slots h, ← found, ne_eqb e.day 0 n); entry = λ d q. sym (one_entry q) ∙ found }
