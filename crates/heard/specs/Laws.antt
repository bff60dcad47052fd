-- All that is proved here, in one place: proved as `laws` in `proofs/Laws.antt`.
-- Assumes nothing.
use Rattle.std.specs.Prelude.{ℕ, ◌≤◌, true, List, ◌≡◌}
use Rattle.book.specs.Entry.{Three, entry_of}
use Rattle.book.specs.Book.{in_slot}
use Rattle.channel.specs.Frame.{Frame}
use Rattle.channel.specs.History.{Call as OnChannel, held_after}
use Rattle.shows.specs.Shows.{shown_at}
use Rattle.station.specs.declared.Station.{Station}
use Rattle.station.specs.Station.{is_served}
use Rattle.station.specs.History.{Call, ShownIn, Runs}
use Rattle.heard.specs.Heard.{OneFrame, Ready, HasFirst, FrameHeard, shown_first, Superframe, sky_calls, SkyTaken, SkyHeld, OneDay, one_day}
use Rattle.heard.specs.SkyHeard.{EverySky, EverySkyInCode}

pub record AllLaws : Type 0 where
  -- fifteen strings of one frame in order, offered to a channel that holds nothing or a frame older by 15, leave that frame whole
  pub frame : (string : ℕ → ℕ) (e : ℕ) (before : List OnChannel) → OneFrame string → Ready (held_after before) e → FrameHeard string e before
  -- what it shows, whole or as far as it came
  pub shows : (string : ℕ → ℕ) (e k : ℕ) (f : Frame) → HasFirst string e k f → (p : ℕ) → 6 ≤ p → shown_at f p ≡ shown_first string k p
  -- a slot for which one entry alone was shown holds it: the greatest of equal entries is that entry
  pub only : (cs : List Call) (st : Station) → Runs cs st → (k : ℕ) → 1 ≤ k → k ≤ 24
      → (t : Three) → ShownIn cs k t → ((u : Three) → ShownIn cs k u → u ≡ t) → in_slot st.book k ≡ entry_of t
  -- the summary of a book of one day
  pub one_day_lem : (cs : List Call) (st : Station) → Runs cs st → (d : ℕ) → OneDay d st → st.summary ≡ one_day 24 d
  -- any 75 strings by Table 4.1 on one channel of a fresh station
  pub taken : (string : ℕ → ℕ) → Superframe string → (card c e : ℕ) → is_served card c ≡ true → SkyTaken string card c e
  pub held : (string : ℕ → ℕ) → Superframe string → (card c e : ℕ) → is_served card c ≡ true
      → (st : Station) → Runs (sky_calls string card c e 75) st → SkyHeld string c e st
  -- and those that `make_sky` makes of words
  pub sky : EverySky
  pub sky_in_code : EverySkyInCode
