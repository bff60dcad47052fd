-- A record that is not refused: its channel is one of the station's, its satellite has a slot, and its epoch is not 0 (answered-parts); and what the call
-- that writes it says and leaves (said-written, written-said).
-- Assumes nothing.
use Prim.Native.Nat.{ℕ, zero, suc, ◌≤◌, ◌<◌}
use mathlib.Core.Bool.{true, false, not, ◌&&◌}
use mathlib.Core.List.{List, [], ◌∷◌}
use mathlib.Core.Path.{◌≡◌, refl, sym, ap, ◌∙◌}
use native.Mathlib.Omega.{arith}
use borrow.Author.Tests.{eqb-true, eq-eqb, ltb-false, leb-true, not-false}
use lib.Dec.{eqb, ltb, leb}
use lib.ListN.{length, get_or, drop}
use Rattle.strings.specs.Numbers.{Test, test, test_at, first_of, place_of, said_by, left_by}
use Rattle.navigation.specs.declared.Unwritten.{Unwritten}
use Rattle.std.specs.Prelude.{Result, Ok}
use Rattle.strings.proofs.Below.{both}
use Rattle.strings.proofs.Tests.{past_first}
use Rattle.immediate.specs.Kept.{has_record}
use Rattle.channel.proofs.HeldFrame.{first_said}
use Rattle.station.specs.declared.Station.{Station}
use Rattle.station.specs.Station.{channels, last_channel, owner_of, is_card}
use Rattle.station.specs.Queries.{is_slot, is_empty, kept_at}
use Rattle.station.proofs.Served.{past_gate}
use Rattle.navigation_queries.specs.Five.{is_five_at}
use Rattle.navigation_queries.specs.Carrier.{has_entry}
use Rattle.navigation.specs.Writes.{answer_paper, n_at, nt_at, is_there, is_day, is_four_years, place_out, record_bytes, record_tests, quarter_at, text_at, Writes}
use Rattle.navfile.specs.File.{ask_of, is_answered}

module _ (card : ℕ) (st : Station) (c : ℕ) where
  abbrev tests : List Test
  tests = record_tests st card c record_bytes

  pub answered_first : is_answered card (ask_of st c) ≡ true → first_of tests ≡ 0
  unfolding is_answered
  answered_first e = eqb-true (first_of tests) 0 e

  pub first_answered : first_of tests ≡ 0 → is_answered card (ask_of st c) ≡ true
  unfolding is_answered
  first_answered e = eq-eqb (first_of tests) 0 e

  -- ---- what the call says and leaves where it is not refused
  pub said_written : (out : List ℕ) → length out ≡ record_bytes → is_answered card (ask_of st c) ≡ true → Writes st card c out (Ok (n_at st c, quarter_at st c)) (text_at st c)
  unfolding Writes
  said_written out l e =
      let z : first_of (record_tests st card c (length out)) ≡ 0 = ap (λ (room : ℕ). first_of (record_tests st card c room)) l ∙ answered_first e in
      record {
        answer = ap (λ (k : ℕ). said_by k (place_of (record_tests st card c (length out))) (n_at st c ∷ quarter_at st c ∷ [])) (sym z);
        output = ap (λ (k : ℕ). left_by k (text_at st c) out) (sym z);
      }

  -- and back
  pub record Said (n quarter : ℕ) (out' : List ℕ) : Type 0 where
    pub answered : is_answered card (ask_of st c) ≡ true
    pub satellite : n ≡ n_at st c
    pub epoch : quarter ≡ quarter_at st c
    pub lines : out' ≡ text_at st c

  pub written_said : (n quarter : ℕ) (out out' : List ℕ) → length out ≡ record_bytes → Writes st card c out (Ok (n, quarter)) out' → Said n quarter out'
  unfolding Writes
  written_said n quarter out out' l w = by (first_of (record_tests st card c (length out))) refl w.answer w.output
    where
      by : (k : ℕ) → first_of (record_tests st card c (length out)) ≡ k
          → 0 ∷ n ∷ quarter ∷ [] ≡ said_by k (place_of (record_tests st card c (length out))) (n_at st c ∷ quarter_at st c ∷ [])
          → out' ≡ left_by k (text_at st c) out → Said n quarter out'
      by zero z p q =
          record {
            answered = first_answered (ap (λ (room : ℕ). first_of (record_tests st card c room)) (sym l) ∙ z);
            satellite = ap (λ (x : List ℕ). get_or x 1 0) p;
            epoch = ap (λ (x : List ℕ). get_or x 2 0) p;
            lines = q;
          }
      by (suc k) z p q = let b : ◌≡◌ {A = ℕ} 0 (suc k) = ap (λ (x : List ℕ). get_or x 0 0) p in absurd (omega arith)

  -- an answer that is not a record: it is refused
  pub not_said : (r : Result (ℕ × ℕ) Unwritten) (out out' : List ℕ) → length out ≡ record_bytes → eqb (get_or (answer_paper r) 0 0) 0 ≡ false → Writes st card c out r out'
      → is_answered card (ask_of st c) ≡ false
  unfolding Writes is_answered
  not_said r out out' l n w =
      let told = n_at st c ∷ quarter_at st c ∷ [] in
      let f : first_of tests ≡ get_or (answer_paper r) 0 0 =
      ap (λ (room : ℕ). first_of (record_tests st card c room)) (sym l) ∙ sym (first_said (record_tests st card c (length out)) told)
      ∙ ap (λ (x : List ℕ). get_or x 0 0) (sym w.answer)
      in
      ap (λ (k : ℕ). eqb k 0) f ∙ n

  -- ---- the parts
  abbrev own : List Test
  own =
      test 13 (not (is_there st c)) ∷ test_at 10 (place_out st c) (not (is_day st c && is_four_years st c)) ∷ test 17 (not (eqb record_bytes record_bytes)) ∷ []

  abbrev owner : List Test
  owner = test 15 (not (eqb (owner_of c) card)) ∷ own

  pub record Answered : Type 0 where
    pub channel : c < channels
    pub kept : has_record (kept_at st c) ≡ true
    pub five : is_five_at st c ≡ true
    pub entry : has_entry st (n_at st c) ≡ true
    pub slot_least : 1 ≤ n_at st c
    pub slot_most : n_at st c ≤ 24
    pub epoch_least : 1 ≤ quarter_at st c

  pub answered_parts : is_answered card (ask_of st c) ≡ true → Answered
  answered_parts e =
      let f = answered_first e in
      let g = (past_first 15 (not (is_card card)) (test 1 (ltb last_channel c) ∷ owner) f).1 in
      let h = (past_first 0 (ltb last_channel c) owner g).0 in
      let p = past_gate card c own f in
      let q = past_first 12 (not (is_there st c)) (drop 1 own) p in
      let r = past_first 9 (not (is_day st c && is_four_years st c)) (drop 2 own) q.1 in
      let there = both (has_record (kept_at st c)) (is_five_at st c && has_entry st (n_at st c)) (not-false (is_there st c) q.0) in
      let found = both (is_five_at st c) (has_entry st (n_at st c)) there.1 in
      let slot = both (is_slot (n_at st c)) (not (is_empty st.book (n_at st c))) found.1 in
      let ends = both (leb 1 (n_at st c)) (leb (n_at st c) 24) slot.0 in
      let in_range_lem = both (is_day st c) (is_four_years st c) (not-false (is_day st c && is_four_years st c) r.0) in
      let day = both (leb 1 (nt_at st c)) (leb (nt_at st c) 1461) in_range_lem.0 in
      record {
        channel = omega (arith, ltb-false last_channel c h);
        kept = there.0;
        five = found.0;
        entry = found.1;
        slot_least = leb-true 1 (n_at st c) ends.0;
        slot_most = leb-true (n_at st c) 24 ends.1;
        epoch_least = omega (arith, leb-true 1 (nt_at st c) day.0);
      }
