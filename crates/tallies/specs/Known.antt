-- The tallies, computed from the definitions: the last step to the limit, and the limit; which field is whose; six offers of which one is clean, two are
-- repaired and three refused, with 7, 33 and 7; and two more where the tallies are near the limit.
-- Assumes nothing.
use Rattle.std.specs.Prelude.{◌≡◌, refl, List, [], ◌∷◌, map}
use Rattle.strings.specs.declared.Verdict.TheVariants.{Clean, Repaired}
use Rattle.tallies.specs.declared.Tallies.{Tallies}
use Rattle.tallies.specs.Tallies.{Outcome, causes, cause_of, one_more, causes_after, after_offer, after_offers}
use Rattle.tallies.specs.Tallies.Outcome.{Refused, Taken}
use Rattle.tallies.specs.Counts.{sum_of}

-- the number of each cause and a hundred
abbrev pub named : Tallies
named =
    record {
      offered = 0;
      clean = 0;
      repaired = 0;
      refused = 0;
      causes =
          record {
            shape = 102;
            unplaced = 131;
            even = 132;
            outside = 133;
            idle = 104;
            number = 105;
            early = 106;
            stale = 107;
            offbeat = 108;
            conflict = 109;
          };
    }

-- six offers, the latest first, and what they leave
abbrev pub six : List Outcome
six = Refused 7 ∷ Taken (Repaired 9) ∷ Refused 33 ∷ Taken Clean ∷ Taken (Repaired 85) ∷ Refused 7 ∷ []

abbrev pub six_counted : Tallies
six_counted =
    record {
      offered = 6;
      clean = 1;
      repaired = 2;
      refused = 3;
      causes = record { shape = 0; unplaced = 0; even = 0; outside = 1; idle = 0; number = 0; early = 0; stale = 2; offbeat = 0; conflict = 0 };
    }

-- refused below the limit by one; then two refused with 2, of which refused counts the first and its cause both
abbrev pub near : Tallies
near =
    record {
      offered = 4294967295;
      clean = 1;
      repaired = 0;
      refused = 4294967294;
      causes = record { shape = 4294967290; unplaced = 0; even = 0; outside = 0; idle = 0; number = 0; early = 0; stale = 4; offbeat = 0; conflict = 0 };
    }

abbrev pub stopped : Tallies
stopped =
    record {
      offered = 4294967295;
      clean = 1;
      repaired = 0;
      refused = 4294967295;
      causes = record { shape = 4294967292; unplaced = 0; even = 0; outside = 0; idle = 0; number = 0; early = 0; stale = 4; offbeat = 0; conflict = 0 };
    }

pub record Known : Type 0 where
  pub last_step : one_more 4294967294 ≡ 4294967295
  pub stays : one_more 4294967295 ≡ 4294967295
  pub whose : map (cause_of named) causes ≡ 102 ∷ 131 ∷ 132 ∷ 133 ∷ 104 ∷ 105 ∷ 106 ∷ 107 ∷ 108 ∷ 109 ∷ []
  pub six_offers : after_offers six ≡ six_counted
  -- the causes' sum is refused, and past the limit it is greater
  pub near_sum : sum_of (cause_of near) causes ≡ near.refused
  pub stops : after_offer (Refused 2) (after_offer (Refused 2) near) ≡ stopped
  pub stopped_sum : sum_of (cause_of stopped) causes ≡ 4294967296

pub known : Known
unfolding one_more causes_after
known = record { last_step = refl; stays = refl; whose = refl; six_offers = refl; near_sum = refl; stops = refl; stopped_sum = refl }
