-- What a lent station tells is what the same query by value answers, where the output has room. Assumes nothing.
use mathlib.Core.Path.{◌≡◌, refl, sym, ap, ◌∙◌}
use mathlib.Core.Bool.{Bool, not}
use mathlib.Core.List.{List, [], ◌∷◌, ◌++◌}
use Prim.Native.Nat.{ℕ, zero, suc}
use native.Mathlib.Nat.{suc-ne-zero}
use borrow.Author.Tests.{eq-eqb, ne_eqb}
use lib.Dec.{T, eqb}
use lib.ListN.{length, get_or}
use Rattle.strings.specs.Pick.{pick}
use Rattle.book.specs.declared.Entry.{Entry}
use Rattle.strings.specs.declared.Refusal.{Refusal}
use Rattle.records.specs.declared.named.ImmediateWords.{ImmediateWords}
use Rattle.std.specs.Prelude.{Result}
use Rattle.strings.specs.Numbers.{Test, test, first_of, place_of, said_by, answer_of}
use Rattle.strings.proofs.Tests.{placeless, no_place}
use Rattle.words.specs.Immediate.{immediate_of}
use Rattle.immediate.specs.Kept.{has_record}
use Rattle.book.specs.Entry.{meaning}
use Rattle.book.specs.Book.{in_slot}
use Rattle.station.specs.Station.{row_at, card_test, gate_tests}
use Rattle.station.specs.Queries.{kept_at, record_paper, is_empty, three_numbers, entry_paper, all_counts, FindsTallies, summary_numbers, FindsSummary, FindsHealth}
use Rattle.told.specs.Told.{packed}
use Rattle.lent_queries.specs.Lent.{room_test, Tells, TellsHealth, slot_tests, entry_numbers, words_list}
use Rattle.lent_queries.specs.Laws.{told, Laws}
use Rattle.lent_queries.proofs.Said.{number_of}

-- a test for ROOM that does not fit
skip_room : {X : Type 0} (us ts : List Test) (n : ℕ) (out : List X) → length out ≡ n → first_of (us ++ (room_test n out ∷ ts)) ≡ first_of (us ++ ts)
skip_room [] ts n out e = rw (eq-eqb (length out) n e)
skip_room (u ∷ us) ts n out e = ap (λ (k : ℕ). pick u.fits u.number k) (skip_room us ts n out e)

-- an answer begins with its number
begins : (k : ℕ) (l m : List ℕ) → get_or (said_by k l m) 0 0 ≡ k
begins zero l m = refl
begins (suc k) l m = refl

-- of tests us ++ ts, with ROOM between them: the number, and what is left
module _ {X Y : Type 0} (us ts : List Test) (n : ℕ) (room : List X) (made out out' : Y) (r : ℕ) (e : length room ≡ n) (p : T (placeless (us ++ (room_test n room ∷ ts))))
    (g : Tells (us ++ (room_test n room ∷ ts)) made out out' r) where
  same_number : r ≡ first_of (us ++ ts)
  same_number = g.answer ∙ number_of (us ++ (room_test n room ∷ ts)) p ∙ skip_room us ts n room e

  same_left : out' ≡ pick (eqb (first_of (us ++ ts)) 0) made out
  same_left = g.output ∙ ap (λ (k : ℕ). pick (eqb k 0) made out) (skip_room us ts n room e)

  -- where the query by value finds it, it is made
  found : first_of (us ++ ts) ≡ 0 → out' ≡ made
  found z = same_left ∙ ap (λ (k : ℕ). pick (eqb k 0) made out) z

in_numbers : (ts : List Test) (made out out' : List ℕ) (r : ℕ) → T (placeless ts) → r ≡ first_of ts → out' ≡ pick (eqb (first_of ts) 0) made out → answer_of ts made ≡ told r out'
in_numbers ts made out out' r p q o = by (first_of ts) (place_of ts) (no_place ts p) q o
  where
    by : (k : ℕ) (l : List ℕ) → l ≡ [] → r ≡ k → out' ≡ pick (eqb k 0) made out → said_by k l made ≡ told r out'
    by zero l e q o = ap (λ (m : List ℕ). 0 ∷ m) (sym o) ∙ ap (λ (j : ℕ). told j out') (sym q)
    by (suc k) l e q o =
        ap (λ (m : List ℕ). suc k ∷ m) e ∙ ap (λ (t : Bool). suc k ∷ pick t out' []) (sym (ne_eqb (suc k) 0 (λ z. suc-ne-zero k z))) ∙ ap (λ (j : ℕ). told j out') (sym q)

pub laws : Laws
unfolding FindsSummary FindsTallies FindsHealth TellsHealth
laws = record {
  summary = λ st card out out' r x e f g.
      let us = card_test card ∷ [] in
      let made = summary_numbers st.summary in
      f ∙ in_numbers us made out out' r tt (same_number us [] 3 out made out out' r e tt g) (same_left us [] 3 out made out out' r e tt g);
  tallies = λ st card c out out' r x e f g.
      let us = gate_tests card c in
      let made = all_counts (row_at st c).tallies in
      f ∙ in_numbers us made out out' r tt (same_number us [] 14 out made out out' r e tt g) (same_left us [] 14 out made out out' r e tt g);
  health = λ st card c r x f g. ap packed f ∙ sym g;
  entry = λ st card k out out' r x e f g.
      let us = slot_tests card k in
      let ts = test 13 (is_empty st.book k) ∷ [] in
      let made = entry_numbers (in_slot st.book k) in
      let n = ap (λ (l : List ℕ). get_or l 0 0) f.answer ∙ begins (first_of (us ++ ts)) (place_of (us ++ ts)) (three_numbers (meaning (in_slot st.book k))) in (
        n ∙ sym (same_number us ts 13 out made out out' r e tt g),
        λ y q. found us ts 13 out made out out' r e tt g (sym n ∙ ap (λ (z : Result Entry Refusal). get_or (entry_paper z) 0 0) q) ∙ ap entry_numbers (sym (f.entry y q)),
      );
  immediate = λ st card c words start words' start' r x e f g.
      let us = gate_tests card c in
      let ts = test 13 (not (has_record (kept_at st c))) ∷ [] in
      let made = words_list (immediate_of (kept_at st c).strings) in
      let n = ap (λ (l : List ℕ). get_or l 0 0) f.answer ∙ begins (first_of (us ++ ts)) (place_of (us ++ ts)) [] in (
        n ∙ sym (same_number us ts 26 words made words words' r e tt g.raw),
        λ w s q.
            let z = sym n ∙ ap (λ (y : Result (ImmediateWords × ℕ) Refusal). get_or (record_paper y) 0 0) q in
            let v = f.words w s q in
            (found us ts 26 words made words words' r e tt g.raw z ∙ ap words_list (sym v.0), found us ts 26 words (kept_at st c).start start start' r e tt g.begins z ∙ sym v.1),
      );
}
