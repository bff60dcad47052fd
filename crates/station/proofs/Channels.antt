-- A station's calls are refused with CARD, CHANNEL and OWNER exactly where the paper says (gate-exactly, card-exactly), and served exactly where the
-- channel is the card's own (served-exactly).
-- Assumes nothing.
use mathlib.Core.Path.{◌≡◌, refl, sym, ap, subst, ◌∙◌}
use mathlib.Core.Bool.{Bool, true, false, not, ◌||◌, true≢false}
use mathlib.Core.List.{List, [], ◌∷◌, ◌++◌}
use mathlib.Core.Logic.{◌↔◌, inl, inr, ⊎_elim}
use Prim.Native.Nat.{ℕ, ◌≤◌, ◌<◌}
use native.Mathlib.Omega.{arith}
use borrow.Author.Tests.{lt-ltb, le-ltb, ltb-true, ltb-false, eqb-true, eqb-false, ne_eqb}
use lib.Dec.{T, eqb, ltb, lit<}
use lib.ListN.{length, get_or}
use Rattle.strings.specs.Numbers.{Test, answer_of, Exactly}
use Rattle.station.specs.declared.Station.{Station}
use Rattle.station.specs.Station.{card_channels, last_channel, owner_of, is_card, is_served, gate_tests, card_test}
use Rattle.station.specs.Queries.{FindsTallies, FindsSummary, FindsHealth}
use Rattle.station.specs.Channels.{IsCard, TheOthers, Exact, GateExactly, CardExactly, ServedExactly, Owns}
use Rattle.station.proofs.Served.{served_parts, owned_served}
use Rattle.station.proofs.EveryCall.{station_numbers}

-- ---- a test that fits, and one that does not
holds : (b : Bool) → T b → b ≡ true
holds true t = refl
holds false t = absurd t

fails : (b : Bool) → (T (not b) → ⊥) → b ≡ true
fails true n = refl
fails false n = absurd (n tt)

not_so : (b : Bool) → (T b → ⊥) → b ≡ false
not_so true n = absurd (n tt)
not_so false n = refl

so_not : (b : Bool) → T (not b) → b ≡ false
so_not true t = absurd t
so_not false t = refl

-- ---- cards, and whose a channel is
card_so : (card : ℕ) → is_card card ≡ true → IsCard card
card_so card e = by (eqb card 1) (eqb card 2) refl refl e
  where
    by : (t u : Bool) → eqb card 1 ≡ t → eqb card 2 ≡ u → (t || u) ≡ true → IsCard card
    by true u p q f = inl (eqb-true card 1 p)
    by false true p q f = inr (eqb-true card 2 q)
    by false false p q f = absurd (true≢false (sym f))

so_card : (card : ℕ) → IsCard card → is_card card ≡ true
so_card card = ⊎_elim (λ e. subst (λ (k : ℕ). is_card k ≡ true) (sym e) refl) (λ e. subst (λ (k : ℕ). is_card k ≡ true) (sym e) refl)

no_card : (card : ℕ) → is_card card ≡ false → IsCard card → ⊥
no_card card e w = true≢false (sym (so_card card w) ∙ e)

none_card : (card : ℕ) → (IsCard card → ⊥) → is_card card ≡ false
none_card card n = by (is_card card) refl
  where
    by : (t : Bool) → is_card card ≡ t → t ≡ false
    by true e = absurd (n (card_so card e))
    by false e = refl

owner_one : (c : ℕ) → c ≤ 23 → owner_of c ≡ 1
owner_one c h = rw (lt-ltb c card_channels (omega arith))

owner_two : (c : ℕ) → 24 ≤ c → owner_of c ≡ 2
owner_two c h = rw (le-ltb c card_channels h)

-- each channel is one card's or the other's
either_owner : (c : ℕ) → (A : Type 0) → (c ≤ 23 → owner_of c ≡ 1 → A) → (24 ≤ c → owner_of c ≡ 2 → A) → A
either_owner c A one two = by (ltb c card_channels) refl
  where
    by : (t : Bool) → ltb c card_channels ≡ t → A
    by true e = let h : c < 24 = ltb-true c card_channels e in let l : c ≤ 23 = omega arith in one l (owner_one c l)
    by false e = let l : 24 ≤ c = ltb-false c card_channels e in two l (owner_two c l)

-- the other's, where the owner is not the card; and so back
others : (card c : ℕ) → IsCard card → c ≤ 47 → (owner_of c ≡ card → ⊥) → TheOthers card c
others card c w l n =
    ⊎_elim
    (λ (e : card ≡ 1). either_owner c (TheOthers card c) (λ h o. absurd (n (o ∙ sym e))) (λ h o. inl (e, (h, l))))
    (λ (e : card ≡ 2). either_owner c (TheOthers card c) (λ h o. inr (e, h)) (λ h o. absurd (n (o ∙ sym e)))) w

record NotOwn (card c : ℕ) : Type 0 where
  card_there : is_card card ≡ true
  low : c ≤ last_channel
  differs : owner_of c ≡ card → ⊥

not_own : (card c : ℕ) → TheOthers card c → NotOwn card c
not_own card c =
    ⊎_elim
    (λ w. record { card_there = so_card card (inl w.0); low = w.1.1; differs = λ e. let a = owner_two c w.1.0 in omega (arith, a, e, w.0) })
    (λ w. record { card_there = so_card card (inr w.0); low = omega (arith, w.1); differs = λ e. let a = owner_one c w.1 in omega (arith, a, e, w.0) })

-- ---- an answer by the gate's tests and then others
module _ (card c : ℕ) (ts : List Test) (told said : List ℕ) (e : said ≡ answer_of (gate_tests card c ++ ts) told) (x : Exactly (gate_tests card c ++ ts) said) where
  first : (k : ℕ) → said ≡ k ∷ [] → get_or said 0 0 ≡ k
  first k f = ap (λ (l : List ℕ). get_or l 0 0) f

  at : (i : ℕ) → i < 3 → i < length (gate_tests card c ++ ts)
  at i h = omega (arith, h)

  exact : Exact card c said
  exact =
      record {
        no_card = ((λ f. no_card card (so_not (is_card card) ((x.refused 0 (at 0 (lit< tt))).0 (first 16 f)).0)), (λ n. e ∙ rw (none_card card n)));
        no_channel = (
          (λ f.
              let r = (x.refused 1 (at 1 (lit< tt))).0 (first 1 f) in
              (card_so card (fails (is_card card) (r.1 0 (lit< tt))), ltb-true last_channel c (holds (ltb last_channel c) r.0))),
          (λ w. e ∙ rw (so_card card w.0, lt-ltb last_channel c w.1)),
        );
        not_owner = (
          (λ f.
              let r = (x.refused 2 (at 2 (lit< tt))).0 (first 15 f) in
              others card c (card_so card (fails (is_card card) (r.1 0 (lit< tt)))) (ltb-false last_channel c (not_so (ltb last_channel c) (r.1 1 (lit< tt))))
              (eqb-false (owner_of c) card (so_not (eqb (owner_of c) card) r.0))),
          (λ w.
              let n = not_own card c w in
              e ∙ rw (n.card_there, le-ltb last_channel c n.low, ne_eqb (owner_of c) card n.differs)),
        );
      }

pub gate_exactly : (st : Station) (card c : ℕ) → GateExactly st card c
unfolding FindsTallies FindsHealth
gate_exactly st card c =
    let n = station_numbers st in
    record {
      offer = λ epoch s r a. exact card c _ _ _ a.answer (n.offer card c epoch s r a);
      reset = λ r a. exact card c _ _ _ a.answer (n.reset card c r a);
      immediate_of_lem = λ r a. exact card c _ _ _ a.answer (n.immediate_of_lem card c r a);
      tallies_of = λ r a. exact card c _ _ _ a (n.tallies_of card c r a);
      health_of = λ r a. exact card c _ _ _ a (n.health_of card c r a);
    }

-- CARD, where it is the first of other tests
card_exact : (card : ℕ) (ts : List Test) (told said : List ℕ) → said ≡ answer_of (card_test card ∷ ts) told → Exactly (card_test card ∷ ts) said
    → (said ≡ 16 ∷ []) ↔ (IsCard card → ⊥)
card_exact card ts told said e x = (
  (λ f. no_card card (so_not (is_card card) ((x.refused 0 (omega arith)).0 (ap (λ (l : List ℕ). get_or l 0 0) f)).0)),
  (λ n. e ∙ rw (none_card card n)),
)

pub card_exactly : (st : Station) (card : ℕ) → CardExactly st card
unfolding FindsSummary
card_exactly st card =
    let n = station_numbers st in
    record {
      entry_of = λ slot r a. card_exact card _ _ _ a.answer (n.entry_of card slot r a);
      summary_of = λ r a. card_exact card _ _ _ a (n.summary_of card r a);
    }

-- ---- served exactly where the channel is the card's own
pub served_exactly : ServedExactly
served_exactly card c = (there, back)
  where
    there : is_served card c ≡ true → Owns card c
    there e =
        let p = served_parts card c e in
        let o = eqb-true (owner_of c) card p.1.1 in
        let l : c ≤ 47 = ltb-false last_channel c p.1.0 in
        either_owner c (Owns card c) (λ h q. inl (sym o ∙ q, h)) (λ h q. inr (sym o ∙ q, (h, l)))

    back : Owns card c → is_served card c ≡ true
    back =
        ⊎_elim (λ w. owned_served card c (so_card card (inl w.0)) (omega (arith, w.1)) (owner_one c w.1 ∙ sym w.0))
        (λ w. owned_served card c (so_card card (inr w.0)) w.1.1 (owner_two c w.1.0 ∙ sym w.0))
