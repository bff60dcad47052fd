-- The line of a record on a channel that is not card one's: the gate's number, and then zeros.
-- Assumes nothing.
use mathlib.Core.Path.{◌≡◌, refl, sym, ap, ◌∙◌}
use mathlib.Core.Bool.{Bool, true, false}
use mathlib.Core.List.{List, []}
use Prim.Native.Nat.{ℕ, ◌≤◌, ◌<◌}
use native.Mathlib.Omega.{arith}
use lib.Dec.{leb}
use lib.ListN.{get_or}
use borrow.Author.Tests.{le-ltb, leb-true, leb-false}
use Rattle.strings.specs.Pick.{pick}
use Rattle.std.specs.Prelude.{Err}
use Rattle.strings.specs.declared.Refusal.{Refusal}
use Rattle.strings.specs.declared.Refusal.TheVariants.{Channel, Owner}
use Rattle.strings.specs.Numbers.{refusal_paper}
use Rattle.channel.specs.Offers.{offer_tests}
use Rattle.channel.proofs.HeldFrame.{first_said}
use Rattle.fields.specs.Sixteen.{channel_in, epoch_in, symbols_in}
use Rattle.station.specs.declared.Station.{Station}
use Rattle.station.specs.Station.{owner_of, held_at, Enters, station_tests, station_after}
use Rattle.station.proofs.Served.{shut_says_lem, enters_no_channel, enters_not_owner}
use Rattle.station.proofs.EveryHistory.{offer_answers}
use Rattle.station.proofs.Demands.{demands}
use Rattle.lines.specs.declared.Line.{Line}
use Rattle.lines.specs.Line.{speaks_for, number_for, repaired_for, m_for, polarity_for, line_for}
use Rattle.lines.specs.Channels.{zeros_after, EveryChannel}
use Rattle.lines.proofs.Tells.{line_is}

module _ (st : Station) (rec : List ℕ) where
  abbrev c : ℕ
  c = channel_in rec

  -- the gate's number is the line's
  number_shut : (why : Refusal) → Enters speaks_for c (Err why) → number_for st rec ≡ get_or (refusal_paper why) 0 0
  number_shut why e =
      let ts = offer_tests (held_at st c) (epoch_in rec) (symbols_in rec) in
      sym (first_said (station_tests st speaks_for c (epoch_in rec) (symbols_in rec)) [])
      ∙ ap (λ (l : List ℕ). get_or l 0 0) (shut_says_lem speaks_for c ts [] e.0 ∙ sym e.1)

  line_by : ℕ → Line
  line_by k =
      record {
        channel = c;
        epoch = epoch_in rec;
        number = k;
        repaired = repaired_for k (symbols_in rec);
        m = m_for k (symbols_in rec);
        polarity = polarity_for k (symbols_in rec);
      }

  others : 24 ≤ c → c ≤ 47 → Enters speaks_for c (Err Owner)
  others h k = enters_not_owner speaks_for c refl k (λ e. let two : owner_of c ≡ 2 = ap (λ (t : Bool). pick t 1 2) (le-ltb c 24 h) in omega (arith, two, e))

  none : 47 < c → Enters speaks_for c (Err Channel)
  none h = enters_no_channel speaks_for c refl h

  told_15 : 24 ≤ c → c ≤ 47 → line_for st rec ≡ zeros_after 15 rec
  unfolding line_for line_by
  told_15 h k = ap line_by (number_shut Owner (others h k))

  told_1 : 47 < c → line_for st rec ≡ zeros_after 1 rec
  unfolding line_for line_by
  told_1 h = ap line_by (number_shut Channel (none h))

  stays : 24 ≤ c → station_after st speaks_for c (epoch_in rec) (symbols_in rec) ≡ st
  stays h = by (leb c 47) refl
    where
      by : (t : Bool) → leb c 47 ≡ t → station_after st speaks_for c (epoch_in rec) (symbols_in rec) ≡ st
      by true e =
          (demands.shut_out st speaks_for c (others h (leb-true c 47 e)).0).offers (epoch_in rec) (symbols_in rec) _
          (offer_answers st speaks_for c (epoch_in rec) (symbols_in rec))
      by false e =
          (demands.shut_out st speaks_for c (none (leb-false c 47 e)).0).offers (epoch_in rec) (symbols_in rec) _
          (offer_answers st speaks_for c (epoch_in rec) (symbols_in rec))

-- 24 TO 47 PRINT 15, above 47 1, and then zeros
pub not_card_one : EveryChannel
not_card_one st rec r l =
    record {
      owner = λ h k. line_is st rec r l ∙ told_15 st rec h k;
      channel = λ h. line_is st rec r l ∙ told_1 st rec h;
      station = λ h. l.station ∙ stays st rec h;
    }
