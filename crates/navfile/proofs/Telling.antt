-- What the calls tell, piece by piece: a record of a satellite and an epoch (told-before, told-new), one ask (tells-ask, tells_none), one record
-- (tells-record), the first records of a block and all of them (Sofar, one_more, all_told), the first channels at the end and all of them.
-- Assumes nothing.
use Prim.Native.Nat.{ℕ, ◌+◌, ◌*◌, ◌/◌, ◌≤◌}
use mathlib.Core.Bool.{Bool, true, false, ◌&&◌}
use mathlib.Core.List.{List, [], ◌∷◌, ◌++◌, append-nil}
use mathlib.Core.Path.{◌≡◌, refl, sym, ap, ap₂, subst, ◌∙◌}
use native.Mathlib.Numerals.{add-one}
use native.Mathlib.Omega.{arith}
use borrow.Author.Tests.{eq-eqb, ne_eqb}
use lib.Dec.{eqb}
use lib.ListN.{length, get_or, take}
use lib.Seq.{length-take-le}
use Rattle.strings.specs.Pick.{pick}
use Rattle.navigation.specs.declared.Unwritten.{Unwritten}
use Rattle.std.specs.Prelude.{Result, Ok, Err}
use Rattle.strings.specs.declared.Refusal.{Refusal}
use Rattle.strings.proofs.Answer.{refusal_known}
use Rattle.digits.specs.Text.{Puts}
use Rattle.digits.proofs.Pieces.{puts_room, puts_as, puts_more, puts_none}
use Rattle.fields.specs.Sixteen.{channel_in, epoch_in, symbols_in}
use Rattle.station.specs.declared.Station.{Station}
use Rattle.station.specs.declared.Stepped.{Stepped}
use Rattle.station.specs.Station.{channels, station_after, OffersTo}
use Rattle.navigation.specs.declared.Unwritten.TheVariants.{Refused, Lines}
use Rattle.navigation.specs.Writes.{answer_paper, record_bytes, Writes}
use Rattle.navfile.specs.declared.Office.{Office}
use Rattle.navfile.specs.declared.Told.{Told}
use Rattle.navfile.specs.File.{record_at, offered, station_at, Ask, ask_of, ask_before, asks_at, asks_up_to, lines_of, is_other, is_new, is_due, kept_for, noted, due_of, written_after, texts_of}
use Rattle.navfile.specs.Calls.{text_for, office_for, office_heard, text_in, office_in, last_text, Tells, TellsAsk, TellsNew, TellsRecord, TellsBlock, TellsEnd}
use Rattle.navfile.proofs.Answered.{answered_parts, Said, written_said, not_said}
use Rattle.navfile.proofs.Due.{due_append, written_append}
use Rattle.navfile.proofs.Pieces.{lines_long, texts_append}

-- ---- a record of a satellite and an epoch
module _ (o : Office) (n quarter : ℕ) (lines text : List ℕ) (at : ℕ) where
  pub told_before : quarter ≡ get_or o.written n 0 → TellsNew o n quarter lines text at (record { office = o; end = at }) text
  unfolding TellsNew
  told_before e = rw (eq-eqb quarter (get_or o.written n 0) e) (record { office = refl; puts = puts_none })

  pub told_new : {text' : List ℕ} {end : ℕ} → (quarter ≡ get_or o.written n 0 → ⊥) → Puts text at lines text' end
      → TellsNew o n quarter lines text at (record { office = record { station = o.station; written = kept_for o.written n quarter }; end = end }) text'
  unfolding TellsNew
  told_new e p = rw (ne_eqb quarter (get_or o.written n 0) e) (record { office = refl; puts = p })

-- ---- one ask, due or not
module _ (card : ℕ) (o : Office) (a : Ask) where
  one_text : text_for card o (a ∷ []) ≡ pick (is_due card o.written a) (lines_of a) []
  unfolding due_of texts_of
  one_text = by (is_due card o.written a)
    where
      by : (t : Bool) → texts_of (pick t (a ∷ []) [] ++ []) ≡ pick t (lines_of a) []
      by true = append-nil (lines_of a)
      by false = refl

  one_written : written_after card o.written (a ∷ []) ≡ pick (is_due card o.written a) (noted o.written a) o.written
  unfolding written_after
  one_written = refl

  abbrev with_written : List ℕ → Office
  with_written w = record { station = o.station; written = w }

  -- by whether it is due
  tells_by : {text text' : List ℕ} {at : ℕ} {r : Told} (t : Bool) → is_due card o.written a ≡ t
      → Tells text at (pick t (lines_of a) []) (with_written (pick t (noted o.written a) o.written)) r text'
      → Tells text at (text_for card o (a ∷ [])) (office_for card o (a ∷ [])) r text'
  tells_by t e p =
      record {
        office = p.office ∙ ap with_written (sym (one_written ∙ ap (λ (b : Bool). pick b (noted o.written a) o.written) e));
        puts = puts_as (sym (one_text ∙ ap (λ (b : Bool). pick b (lines_of a) []) e)) p.puts;
      }

-- by what the call that writes a record answered
module _ (card : ℕ) (o : Office) (c : ℕ) (out out' text : List ℕ) (at : ℕ) (said : Result (ℕ × ℕ) Unwritten) (four : length out ≡ record_bytes) (w : Writes o.station card c out said out') where
  abbrev it : Ask
  it = ask_of o.station c

  -- a record
  module _ (n quarter : ℕ) (e : said ≡ Ok (n, quarter)) where
    said_of : Said card o.station c n quarter out'
    said_of = written_said card o.station c n quarter out out' four (subst (λ (r : Result (ℕ × ℕ) Unwritten). Writes o.station card c out r out') e w)

    pub satellite_most : n ≤ 24
    satellite_most = omega (arith, said_of.satellite, (answered_parts card o.station c said_of.answered).slot_most)

    pub record_long : length out' ≡ record_bytes
    record_long = ap length said_of.lines ∙ lines_long it

    pub tells_ask : (text' : List ℕ) (r : Told) → TellsNew o n quarter out' text at r text' → TellsAsk card o c text at r text'
    unfolding TellsNew is_due
    tells_ask text' r p =
        let s = said_of in
        let new = is_other quarter (get_or o.written n 0) in
        let d : is_due card o.written it ≡ new =
        ap (λ (b : Bool). b && is_new o.written it) s.answered ∙ ap₂ (λ (q k : ℕ). is_other q (get_or o.written k 0)) (sym s.epoch) (sym s.satellite)
        in
        tells_by card o it new d
        (record {
          office = p.office
              ∙ ap (with_written card o it) (ap₂ (λ (k q : ℕ). pick new (kept_for o.written k q) o.written) s.satellite s.epoch);
          puts = puts_as (ap (λ (l : List ℕ). pick new l []) s.lines) p.puts;
        })

  -- none
  tells_none : eqb (get_or (answer_paper said) 0 0) 0 ≡ false → TellsAsk card o c text at (record { office = o; end = at }) text
  unfolding is_due
  tells_none n =
      let e : is_due card o.written it ≡ false = ap (λ (b : Bool). b && is_new o.written it) (not_said card o.station c said out out' four n w) in
      tells_by card o it false e (record { office = refl; puts = puts_none })

  pub tells_refused : {why : Refusal} → said ≡ Err (Refused why) → TellsAsk card o c text at (record { office = o; end = at }) text
  tells_refused {why} e = tells_none (ap (λ (r : Result (ℕ × ℕ) Unwritten). eqb (get_or (answer_paper r) 0 0) 0) e ∙ (refusal_known why).1)

  pub tells_no_lines : said ≡ Err Lines → TellsAsk card o c text at (record { office = o; end = at }) text
  tells_no_lines e = tells_none (ap (λ (r : Result (ℕ × ℕ) Unwritten). eqb (get_or (answer_paper r) 0 0) 0) e)

  pub tells_unwritten : (u : Unwritten) → said ≡ Err u → TellsAsk card o c text at (record { office = o; end = at }) text
  tells_unwritten (Refused why) e = tells_refused e
  tells_unwritten Lines e = tells_no_lines e

-- a piece of one ask is four lines at most
pub piece_most : (card : ℕ) (o : Office) (a : Ask) → length (text_for card o (a ∷ [])) ≤ record_bytes
piece_most card o a = subst (λ (x : List ℕ). length x ≤ record_bytes) (sym (one_text card o a)) (by (is_due card o.written a))
  where
    by : (t : Bool) → length (pick t (lines_of a) []) ≤ record_bytes
    by true = omega (arith, lines_long a)
    by false = omega arith

-- ---- a record: offered, and asked before that
pub heard_by_lem : (card : ℕ) (o : Office) (rec : List ℕ) {c epoch : ℕ} {s : List ℕ} {r : Stepped} → c ≡ channel_in rec → epoch ≡ epoch_in rec → s ≡ symbols_in rec
    → OffersTo o.station card c epoch s r → record { station = r.station; written = o.written } ≡ office_heard card o rec
heard_by_lem card o rec {c} {epoch} {s} {r} ec ee es q =
    let e : r.station ≡ offered card o.station rec =
    q.station ∙ ap (λ (k : ℕ). station_after o.station card k epoch s) ec
    ∙ ap₂ (λ (e : ℕ) (l : List ℕ). station_after o.station card (channel_in rec) e l) ee es
    in
    ap (λ (x : Station). record { station = x; written = o.written }) e

pub tells_record_lem : (card : ℕ) (o : Office) (rec : List ℕ) {text text' : List ℕ} {at : ℕ} (told : Told) {c : ℕ} {after : Office} → c ≡ channel_in rec
    → TellsAsk card o c text at told text' → after ≡ office_heard card told.office rec → TellsRecord card o rec text at (record { office = after; end = told.end }) text'
tells_record_lem card o rec {text} {text'} {at} told {c} {after} e p q =
    let a : TellsAsk card o (channel_in rec) text at told text' = subst (λ (k : ℕ). TellsAsk card o k text at told text') e p in
    record { office = q ∙ ap (λ (x : Office). office_heard card x rec) a.office; puts = a.puts }

-- ---- the first records of a block
abbrev pub office_at : ℕ → Office → List ℕ → ℕ → Office
office_at card o input k = record { station = station_at card o.station input k; written = written_after card o.written (asks_at card o.station input k) }

pub record Sofar (card : ℕ) (o : Office) (input text₀ text : List ℕ) (after : Office) (end i : ℕ) : Type 0 where
  pub office : after ≡ office_at card o input i
  pub puts : Puts text₀ 0 (text_for card o (asks_at card o.station input i)) text end
  pub bound : end ≤ i * record_bytes

module _ {card : ℕ} {o : Office} {input text₀ : List ℕ} where
  pub none_yet : Sofar card o input text₀ text₀ o 0 0
  unfolding station_at asks_at due_of written_after texts_of
  none_yet = record { office = refl; puts = puts_none; bound = omega arith }

  pub one_more_lem : {text text' rec : List ℕ} {after : Office} {end i : ℕ} (r : Told) → Sofar card o input text₀ text after end i
      → rec ≡ record_at input i → TellsRecord card after rec text end r text' → Sofar card o input text₀ text' r.office r.end (i + 1)
  unfolding station_at asks_at
  one_more_lem {text} {text'} {rec} {after} {end} {i} r s e p =
      let q : TellsRecord card after (record_at input i) text end r text' = subst (λ (x : List ℕ). TellsRecord card after x text end r text') e p in
      let m : TellsRecord card (office_at card o input i) (record_at input i) text end r text' = subst (λ (x : Office). TellsRecord card x (record_at input i) text end r text') s.office q in
      let asks = asks_at card o.station input i in
      let last = ask_before card (station_at card o.station input i) (record_at input i) ∷ [] in
      let most = piece_most card (office_at card o input i) (ask_before card (station_at card o.station input i) (record_at input i)) in
      rw add-one
      (record {
        office = m.office
            ∙ ap (λ (w : List ℕ). record { station = offered card (station_at card o.station input i) (record_at input i); written = w })
            (sym (written_append card o.written asks last));
        puts = puts_as
            (sym (ap texts_of (due_append card o.written asks last) ∙ texts_append (due_of card o.written asks) (due_of card (written_after card o.written asks) last)))
            (puts_more s.puts m.puts);
        bound = omega (arith, s.bound, m.puts.past, most);
      })

  pub all_told : {text : List ℕ} {after : Office} {end i : ℕ} → Sofar card o input text₀ text after end i → i ≡ length input / 16
      → length input / 16 * record_bytes ≤ length text₀ → TellsBlock card o input text₀ (record { office = after; end = end }) text
  unfolding text_in office_in
  all_told {text} {after} {end} {i} s e room =
      record {
        told = record {
          office = s.office ∙ ap (office_at card o input) e;
          puts = puts_as (ap (λ (k : ℕ). text_for card o (asks_at card o.station input k)) e) s.puts;
        };
        within = omega (arith, s.bound, e, room);
      }

-- ---- the first channels at the end
pub record Uptill (card : ℕ) (o : Office) (text₀ text : List ℕ) (after : Office) (end c : ℕ) : Type 0 where
  pub office : after ≡ office_for card o (asks_up_to o.station c)
  pub puts : Puts text₀ 0 (text_for card o (asks_up_to o.station c)) text end
  pub bound : end ≤ c * record_bytes

module _ {card : ℕ} {o : Office} {text₀ : List ℕ} where
  pub no_channel : Uptill card o text₀ text₀ o 0 0
  unfolding asks_up_to due_of written_after texts_of
  no_channel = record { office = refl; puts = puts_none; bound = omega arith }

  pub channel_more : {text text' : List ℕ} {after : Office} {end c : ℕ} (r : Told) → Uptill card o text₀ text after end c
      → TellsAsk card after c text end r text' → Uptill card o text₀ text' r.office r.end (c + 1)
  unfolding asks_up_to
  channel_more {text} {text'} {after} {end} {c} r s p =
      let asks = asks_up_to o.station c in
      let last = ask_of o.station c ∷ [] in
      let m : TellsAsk card (office_for card o asks) c text end r text' = subst (λ (x : Office). TellsAsk card x c text end r text') s.office p in
      rw add-one
      (record {
        office = m.office ∙ ap (λ (w : List ℕ). record { station = o.station; written = w }) (sym (written_append card o.written asks last));
        puts = puts_as
            (sym (ap texts_of (due_append card o.written asks last) ∙ texts_append (due_of card o.written asks) (due_of card (written_after card o.written asks) last)))
            (puts_more s.puts m.puts);
        bound = omega (arith, s.bound, m.puts.past, piece_most card (office_for card o asks) (ask_of o.station c));
      })

  pub all_asked : {text : List ℕ} {after : Office} {end c : ℕ} → Uptill card o text₀ text after end c → c ≡ channels
      → channels * record_bytes ≤ length text₀ → TellsEnd card o text₀ (record { office = after; end = end }) text
  unfolding last_text
  all_asked {text} {after} {end} {c} s e room =
      record {
        puts = puts_as (ap (λ (k : ℕ). text_for card o (asks_up_to o.station k)) e) s.puts;
        within = omega (arith, s.bound, e, room);
      }

-- ---- what was written is as long as the answer says
pub written_length : {text text' piece : List ℕ} {end : ℕ} → Puts text 0 piece text' end → end ≤ length text → end ≡ length (take end text')
written_length {text} {text'} {piece} {end} p w = sym (length-take-le end text' (omega (arith, puts_room p, w)))
