-- Runs with the answers that the calls gave, from a fresh station: neighbouring calls on different channels can be exchanged, answers and all
-- (exchanged), and only each channel's own order counts (reordered).
-- Assumes nothing.
use mathlib.Core.Path.{◌≡◌, refl, sym, ap, ap₂, subst, ◌∙◌}
use mathlib.Core.Bool.{Bool, true, false}
use mathlib.Core.List.{List, [], ◌∷◌, ◌++◌}
use Prim.Native.Nat.{ℕ}
use Rattle.strings.specs.Pick.{pick}
use Rattle.strings.specs.Calls.{written_paper}
use Rattle.channel.specs.Offers.{answer_paper}
use Rattle.channel.specs.History.{Call as OnChannel}
use Rattle.station.specs.declared.Station.{Station}
use Rattle.station.specs.declared.Stepped.{Stepped}
use Rattle.station.specs.declared.Emptied.{Emptied}
use Rattle.station.specs.Station.{fresh_station, station_after, station_reset}
use Rattle.station.specs.History.{Call, Offer, Reset, channel_of, itself, is_let_in, shut_said, is_on, calls_on, calls_by, said_on, said_after, Runs, fresh, offering, resetting, station_of}
use Rattle.station.specs.Said.{Said, said, RunsFrom, none, offers, resets, calls_of, Ran, answers_on}
use Rattle.station.specs.Demand3.{Exchanged, SameCalls, Reordered}
use Rattle.station.proofs.ChannelRuns.{on_both}
use Rattle.station.proofs.EveryHistory.{some_answer, offer_answers, reset_answer, reset_answers, every_history}
use Rattle.station.proofs.Reorder.{offer_said, reset_said, said_same, same_later, not_x, not_y, reorder}

-- ---- a run with its answers is a run of its calls
pub runs_of : (all : List Said) (st : Station) → RunsFrom fresh_station all st → Runs (calls_of all) st
runs_of all st none = fresh
runs_of all st (offers card c epoch s before old r run o) = offering card c epoch s (calls_of before) old r (runs_of before old run) o
runs_of all st (resets card c before old r run o) = resetting card c (calls_of before) old r (runs_of before old run) o

-- and each answer is the one that the calls before determine
abbrev pub AllTold : List Said → Type 0
AllTold [] = Unit
AllTold (x ∷ before) = (x.answer ≡ said_after (calls_of before) x.call) × AllTold before

pub all_told : (all : List Said) (st : Station) → RunsFrom fresh_station all st → AllTold all
all_told all st none = tt
all_told all st (offers card c epoch s before old r run o) = (offer_said (calls_of before) old (runs_of before old run) card c epoch s r o, all_told before old run)
all_told all st (resets card c before old r run o) = (reset_said (calls_of before) old card c r o, all_told before old run)

-- so the calls tell the answers
unfoldable all_said : List Call → List Said
all_said [] = []
all_said (call ∷ cs) = said call (said_after cs call) ∷ all_said cs

said_is : (all : List Said) → AllTold all → all ≡ all_said (calls_of all)
unfolding all_said
said_is [] t = refl
said_is (x ∷ before) t = ap₂ (λ (a : List ℕ) (l : List Said). said x.call a ∷ l) t.0 (said_is before t.1)

-- ---- and every history has a run with its answers
run_of : (cs : List Call) → RunsFrom fresh_station (all_said cs) (station_of cs)
unfolding station_of all_said
run_of [] = none
run_of (Offer card c epoch s ∷ cs) =
    let st = station_of cs in
    let o = offer_answers st card c epoch s in
    let r : Stepped = record { station = station_after st card c epoch s; answer = (some_answer st card c epoch s).answer } in
    subst (λ (a : List ℕ). RunsFrom fresh_station (said (Offer card c epoch s) a ∷ all_said cs) (station_after st card c epoch s))
    (offer_said cs st (every_history cs) card c epoch s r o) (offers card c epoch s (all_said cs) st r (run_of cs) o)
run_of (Reset card c ∷ cs) =
    let st = station_of cs in
    let r : Emptied = record { station = station_reset st card c; answer = reset_answer card c } in
    subst (λ (a : List ℕ). RunsFrom fresh_station (said (Reset card c) a ∷ all_said cs) (station_reset st card c))
    (reset_said cs st card c r (reset_answers st card c)) (resets card c (all_said cs) st r (run_of cs) (reset_answers st card c))

-- so has any list of calls from any station
pub every_run : (from : Station) (cs : List Call) → Ran from cs
every_run from [] = record { all = []; calls = refl; left = from; run = none }
every_run from (Offer card c epoch s ∷ cs) =
    let w = every_run from cs in
    let r : Stepped = record { station = station_after w.left card c epoch s; answer = (some_answer w.left card c epoch s).answer } in
    record {
      all = said (Offer card c epoch s) (answer_paper r.answer) ∷ w.all;
      calls = ap (λ (l : List Call). Offer card c epoch s ∷ l) w.calls;
      left = r.station;
      run = offers card c epoch s w.all w.left r w.run (offer_answers w.left card c epoch s);
    }
every_run from (Reset card c ∷ cs) =
    let w = every_run from cs in
    let r : Emptied = record { station = station_reset w.left card c; answer = reset_answer card c } in
    record {
      all = said (Reset card c) (written_paper r.answer) ∷ w.all;
      calls = ap (λ (l : List Call). Reset card c ∷ l) w.calls;
      left = r.station;
      run = resets card c w.all w.left r w.run (reset_answers w.left card c);
    }

-- ---- two neighbours exchanged
calls_joined : (later before : List Said) → calls_of (later ++ before) ≡ calls_of later ++ calls_of before
calls_joined [] before = refl
calls_joined (z ∷ later) before = ap (λ (l : List Call). z.call ∷ l) (calls_joined later before)

module _ (x y : Said) (differ : channel_of x.call ≡ channel_of y.call → ⊥) where
  same_on : (later before : List Said) (c : ℕ) → calls_on c (calls_of (later ++ (x ∷ y ∷ before))) ≡ calls_on c (calls_of (later ++ (y ∷ x ∷ before)))
  same_on later before c =
      ap (calls_on c) (calls_joined later (x ∷ y ∷ before)) ∙ same_later x.call y.call differ (calls_of later) (calls_of before) c
      ∙ sym (ap (calls_on c) (calls_joined later (y ∷ x ∷ before)))

  -- each call keeps its answer
  told_still : (later before : List Said) → AllTold (later ++ (x ∷ y ∷ before)) → AllTold (later ++ (y ∷ x ∷ before))
  told_still [] before t =
      let cs = calls_of before in (
        t.1.0 ∙ said_same cs (x.call ∷ cs) y.call (sym (not_x x.call y.call differ cs)),
        (t.0 ∙ said_same (y.call ∷ cs) cs x.call (not_y x.call y.call differ cs), t.1.1),
      )
  told_still (z ∷ later) before t = (
    t.0 ∙ said_same (calls_of (later ++ (x ∷ y ∷ before))) (calls_of (later ++ (y ∷ x ∷ before))) z.call (same_on later before (channel_of z.call)),
    told_still later before t.1,
  )

  -- "EACH CALL'S ANSWER AND THE WHOLE STATION AFTERWARDS ARE UNCHANGED"
  pub exchanged : (later earlier : List Said) (st : Station) → RunsFrom fresh_station (later ++ (x ∷ y ∷ earlier)) st → Exchanged later earlier x y st
  exchanged later earlier st run =
      let all = later ++ (x ∷ y ∷ earlier) in
      let turned = later ++ (y ∷ x ∷ earlier) in
      let told : turned ≡ all_said (calls_of turned) = said_is turned (told_still later earlier (all_told all st run)) in
      let same : (cs : List Call) (st' : Station) → cs ≡ calls_of turned → Runs cs st' → st ≡ st' =
      λ cs st' q r. reorder (calls_of all) (calls_of turned) st st' (runs_of all st run) (subst (λ (l : List Call). Runs l st') q r) (λ card c e. same_on later earlier c)
      in
      record {
        unchanged = subst (λ (l : List Said). RunsFrom fresh_station l st) (sym told)
            (subst (RunsFrom fresh_station (all_said (calls_of turned))) (sym (same (calls_of turned) (station_of (calls_of turned)) refl (every_history (calls_of turned))))
            (run_of (calls_of turned)));
        only = λ other st' r q. (
          said_is other (all_told other st' r) ∙ ap all_said q ∙ sym told,
          sym (same (calls_of other) st' q (runs_of other st' r)),
        );
      }

-- ---- any reordering that keeps each channel's order
-- what a channel's calls are told, by those before on the channel
said_all : List OnChannel → List (List ℕ)
said_all [] = []
said_all (call ∷ l) = said_on call l ∷ said_all l

answers_are : (all : List Said) → AllTold all → (c : ℕ) → answers_on c all ≡ said_all (calls_on c (calls_of all))
unfolding said_all answers_on calls_by said_after
answers_are [] t c = refl
answers_are (x ∷ before) t c = by (is_on c x.call) refl (answers_are before t.1 c)
  where
    cs : List Call
    cs = calls_of before

    own : is_let_in x.call ≡ true → channel_of x.call ≡ c → x.answer ≡ said_on (itself x.call) (calls_on c cs)
    own e q =
        t.0 ∙ ap (λ (b : Bool). pick b (said_on (itself x.call) (calls_on (channel_of x.call) cs)) (shut_said x.call)) e
        ∙ ap (λ (k : ℕ). said_on (itself x.call) (calls_on k cs)) q

    by : (b : Bool) → is_on c x.call ≡ b → answers_on c before ≡ said_all (calls_on c cs)
        → pick b (x.answer ∷ answers_on c before) (answers_on c before) ≡ said_all (pick b (itself x.call ∷ calls_on c cs) (calls_on c cs))
    by true q ih = let p = on_both x.call c q in ap₂ (λ (a : List ℕ) (l : List (List ℕ)). a ∷ l) (own p.0 p.1) ih
    by false q ih = ih

pub reordered : (all other : List Said) (st st' : Station) → RunsFrom fresh_station all st → RunsFrom fresh_station other st'
    → SameCalls (calls_of all) (calls_of other) → Reordered all other st st'
reordered all other st st' run run' same =
    record {
      station = reorder (calls_of all) (calls_of other) st st' (runs_of all st run) (runs_of other st' run') same;
      answers = λ card c e. answers_are all (all_told all st run) c ∙ ap said_all (same card c e) ∙ sym (answers_are other (all_told other st' run') c);
    }
